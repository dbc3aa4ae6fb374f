-- Frames in the bytes that a host wrote, one by one.
use Rattle.std.proofs.Common.{◌≡◌, ◌⊎◌, ℕ, suc, ◌+◌, ◌≤◌, Bool, true, false, cond, eqb, List, [], ◌∷◌, ◌++◌, length, take, map, Option, Some, None, Result, Ok, Err, refl, sym, ap, subst, ◌∙◌, append_assoc, append-nil, arith, inl, inr}
use Rattle.std.specs.Io.KnownBytes.{Appends, Consumes, IsAtEnd}
use Rattle.std.proofs.lemmas.List.{length-append}
use Rattle.lx_abi.specs.declared.ptrace.Reply.{Reply}
use Rattle.lx_abi.specs.declared.ptrace.Request.{Request}
use Rattle.lx_abi.specs.declared.ptrace.Request.TheVariants.{Boot, Wait, To, Outcome}
use Rattle.pt_model.specs.Admissible.{answers}
use Rattle.host_frame.specs.Spelling.{CanBeSpelled, FitsFrame, HasOrder, IsShort, reply_frame, spelled}
use Rattle.host_frame.specs.declared.fault.WireFault.{WireFault}
use Rattle.host_frame.specs.declared.frame.Payload.{Payload}
use Rattle.host_frame.specs.declared.frame.Payload.TheVariants.{Request as Of_request, Reply as Of_reply}
use Rattle.host_frame.specs.declared.frame.Frame.{Frame}
use Rattle.host_wire.specs.Ends.{Input}
use Rattle.host_wire.specs.Streams.{Stream, Going, Failed, goes_on, stream_of, AreFrames, spelled_all}
use Rattle.host_wire.proofs.Streams.{failed_stays}
use Rattle.host_link.specs.Pipes.{Came, CanBeSent, Exchanged, IsSent, bytes_of, is_wait, reply_in, request_frame}
use Rattle.host_link.specs.declared.fault.LinkFault.{LinkFault}
use Rattle.host_link.specs.declared.fault.LinkFault.TheVariants.{Ended, Read, Write, Malformed, Sequence, Inadmissible, Memory, TooMany}
use Rattle.host_serve.specs.Serving.{Exchanges, AreSpelled, Taken, replies_of}
use Rattle.host_ends.specs.Recorded.{AreInOrder, CameFrom, EndsAgree, FaultsAreCaused, IsCaused, RepliesAreThose, Talked, asked, in_turn, told}

abbrev pub Fit : Type 0
Fit = (f : Frame) → CanBeSpelled f → HasOrder f.body → FitsFrame f

abbrev pub FirstFrames : Type 0
FirstFrames = (f g : Frame) (came rest more : List ℕ) → CanBeSpelled f → came ++ rest ≡ spelled f ++ more → stream_of came ≡ Going (g ∷ []) [] → HasOrder f.body × ((came ≡ spelled f) × (g ≡ f))

abbrev pub AllFrames : Type 0
AllFrames = (frames : List Frame) → AreFrames frames → stream_of (spelled_all frames) ≡ Going frames []

abbrev pub PiecesJoin : Type 0
PiecesJoin = (stream : Stream) (first more : List ℕ) → goes_on stream (first ++ more) ≡ goes_on (goes_on stream first) more

-- ---- frames in their order

abbrev frame_is : ℕ → Payload → Frame
frame_is number body = record { number = number; body = body }

-- frames of these bodies, numbered on from this number
abbrev frames_from : ℕ → List Payload → List Frame
frames_from n [] = []
frames_from n (b ∷ bs) = frame_is n b ∷ frames_from (n + 1) bs

bytes_snoc : (n : ℕ) (bs : List Payload) (b : Payload) → spelled_all (frames_from n (bs ++ b ∷ [])) ≡ spelled_all (frames_from n bs) ++ spelled (frame_is (length bs + n) b)
unfolding spelled_all
bytes_snoc n [] b =
    let number : n ≡ 0 + n = omega arith in
    append-nil (spelled (frame_is n b)) ∙ ap (λ (k : ℕ). spelled (frame_is k b)) number
bytes_snoc n (c ∷ bs) b =
    let number : length bs + (n + 1) ≡ suc (length bs) + n = omega arith in
    ap (λ (t : List ℕ). spelled (frame_is n c) ++ t) (bytes_snoc (n + 1) bs b)
    ∙ sym (append_assoc (spelled (frame_is n c)) (spelled_all (frames_from (n + 1) bs)) (spelled (frame_is (length bs + (n + 1)) b)))
    ∙ ap (λ (k : ℕ). (spelled (frame_is n c) ++ spelled_all (frames_from (n + 1) bs)) ++ spelled (frame_is k b)) number

-- each of these frames can be spelled
abbrev AllSpelled : List Frame → Type 0
AllSpelled [] = Unit {0}
AllSpelled (f ∷ fs) = CanBeSpelled f × AllSpelled fs

spelled_snoc : (n : ℕ) (bs : List Payload) (b : Payload) → AllSpelled (frames_from n bs) → CanBeSpelled (frame_is (length bs + n) b) → AllSpelled (frames_from n (bs ++ b ∷ []))
spelled_snoc n [] b all can =
    let number : 0 + n ≡ n = omega arith in
    (subst (λ (k : ℕ). CanBeSpelled (frame_is k b)) number can, tt)
spelled_snoc n (c ∷ bs) b all can =
    let number : suc (length bs) + n ≡ length bs + (n + 1) = omega arith in
    (all.0, spelled_snoc (n + 1) bs b all.1 (subst (λ (k : ℕ). CanBeSpelled (frame_is k b)) number can))

map_snoc : {A B : Type 0} (f : A → B) (xs : List A) (x : A) → map f (xs ++ x ∷ []) ≡ map f xs ++ f x ∷ []
map_snoc f [] x = refl
map_snoc f (y ∷ xs) x = ap (λ (zs : List _). f y ∷ zs) (map_snoc f xs x)

length-map : {A B : Type 0} (f : A → B) (xs : List A) → length (map f xs) ≡ length xs
length-map f [] = refl
length-map f (x ∷ xs) = ap suc (length-map f xs)

-- the bodies of a host's replies
abbrev replied : Exchanges → List Payload
replied xs = map Of_reply (told (in_turn xs))

replied_more : (x : Request × Reply) (xs : Exchanges) → replied (x ∷ xs) ≡ replied xs ++ Of_reply x.1 ∷ []
replied_more x xs = ap (map Of_reply) (map_snoc (λ (y : Request × Reply). y.1) (in_turn xs) x) ∙ map_snoc Of_reply (told (in_turn xs)) x.1

length-replied : (xs : Exchanges) → length (replied xs) ≡ length xs
length-replied [] = refl
length-replied (x ∷ xs) = omega (arith, ap length (replied_more x xs), length-append (replied xs) (Of_reply x.1 ∷ []), length-replied xs)

whole_bytes : (xs : Exchanges) → replies_of xs ≡ spelled_all (frames_from 1 (replied xs))
unfolding spelled_all
whole_bytes [] = refl
whole_bytes (x ∷ xs) =
    let number : length xs + 1 ≡ length (replied xs) + 1 = ap (λ (k : ℕ). k + 1) (sym (length-replied xs)) in
    ap (λ (t : List ℕ). t ++ spelled (reply_frame (length xs + 1) x.1)) (whole_bytes xs)
    ∙ ap (λ (k : ℕ). spelled_all (frames_from 1 (replied xs)) ++ spelled (reply_frame k x.1)) number
    ∙ sym (bytes_snoc 1 (replied xs) (Of_reply x.1))
    ∙ ap (λ (bs : List Payload). spelled_all (frames_from 1 bs)) (sym (replied_more x xs))

all_spelled : (xs : Exchanges) → AreSpelled xs → AllSpelled (frames_from 1 (replied xs))
all_spelled [] can = tt
all_spelled (x ∷ xs) can =
    let number : length xs + 1 ≡ length (replied xs) + 1 = ap (λ (k : ℕ). k + 1) (sym (length-replied xs)) in
    subst (λ (bs : List Payload). AllSpelled (frames_from 1 bs)) (sym (replied_more x xs))
    (spelled_snoc 1 (replied xs) (Of_reply x.1) (all_spelled xs can.1) (subst (λ (k : ℕ). CanBeSpelled (frame_is k (Of_reply x.1))) number can.0))

-- ---- one reply

-- what is left of known bytes
left_of : (xs bs : List ℕ) (o : Option (List ℕ)) → Consumes (Some xs) o bs → (ys : List ℕ) × ((o ≡ Some ys) × (xs ≡ bs ++ ys))
left_of xs bs None consumed = absurd consumed
left_of xs bs (Some ys) consumed = (ys, (refl, consumed))

cancel : {X : Type 0} (xs ys zs : List X) → xs ++ ys ≡ xs ++ zs → ys ≡ zs
cancel [] ys zs e = e
cancel (x ∷ xs) ys zs e = cancel xs ys zs cc

same_number : (n : ℕ) → eqb n n ≡ true
same_number n = grind arith

-- a choice that is Ok took the reply, one that is inadmissible didn't, and none is of another number
picked : (b c : Bool) (r s : Reply) → cond b (cond c (Ok r) (Err Inadmissible)) (Err Sequence) ≡ Ok s → s ≡ r
picked true true r s e = cc
picked true false r s e = absurd cc
picked false c r s e = absurd cc

unfit : (b c : Bool) (r : Reply) → cond b (cond c (Ok r) (Err Inadmissible)) (Err Sequence) ≡ Err Inadmissible → c ≡ false
unfit true true r e = absurd cc
unfit true false r e = refl
unfit false c r e = absurd cc

in_sequence : (b c : Bool) (r : Reply) → b ≡ true → cond b (cond c (Ok r) (Err Inadmissible)) (Err Sequence) ≡ Err Sequence → ⊥
in_sequence true true r is e = absurd cc
in_sequence true false r is e = absurd cc
in_sequence false c r is e = absurd cc

-- what came is a part of these bytes
record Part (a b : Input) (came bytes : List ℕ) : Type 0 where
  left : List ℕ
  remaining : b.remaining ≡ Some left
  parts : came ++ left ≡ bytes

part : (a b : Input) (came bytes : List ℕ) → a.remaining ≡ Some bytes → Consumes a.remaining b.remaining came → Part a b came bytes
part a b came bytes is consumed =
    let l = left_of bytes came b.remaining (subst (λ (o : Option (List ℕ)). Consumes o b.remaining came) is consumed) in
    record { left = l.0; remaining = l.1.0; parts = sym l.1.1 }

-- the frame that came whole is the first of these, and the rest is left
came_first : FirstFrames → (f g : Frame) (a b : Input) (came bytes later more : List ℕ) → CanBeSpelled f → (p : Part a b came bytes) → bytes ++ later ≡ spelled f ++ more → stream_of came ≡ Going (g ∷ []) [] → (g ≡ f) × (p.left ++ later ≡ more)
came_first first f g a b came bytes later more can p is stream =
    let apart : came ++ (p.left ++ later) ≡ spelled f ++ more = sym (append_assoc came p.left later) ∙ ap (λ (t : List ℕ). t ++ later) p.parts ∙ is in
    let whole = first f g came (p.left ++ later) more can apart stream in
    (whole.1.1, cancel (spelled f) (p.left ++ later) more (ap (λ (t : List ℕ). t ++ (p.left ++ later)) (sym whole.1.0) ∙ apart))

nothing_whole : (came left : List ℕ) (f : Frame) → came ++ left ≡ [] → stream_of came ≡ Going (f ∷ []) [] → ⊥
unfolding goes_on
nothing_whole [] left f e stream = absurd cc
nothing_whole (x ∷ came) left f e stream = absurd cc

-- ---- all of them

record After (n : ℕ) (ys : Exchanges) (rs : List Reply) (later : List ℕ) (b : Input) : Type 0 where
  rest : List Reply
  are : rs ≡ told ys ++ rest
  can : AllSpelled (frames_from (length ys + n) (map Of_reply rest))
  left : List ℕ
  remaining : b.remaining ≡ Some left
  follows : left ++ later ≡ spelled_all (frames_from (length ys + n) (map Of_reply rest))

answered : FirstFrames → (most n : ℕ) (a b : Input) (ys : Exchanges) (rs : List Reply) (bytes later : List ℕ) → a.remaining ≡ Some bytes → bytes ++ later ≡ spelled_all (frames_from n (map Of_reply rs)) → AllSpelled (frames_from n (map Of_reply rs))
    → CameFrom most n a ys b → After n ys rs later b
unfolding spelled_all
answered first most n a b [] rs bytes later is parts can came =
    let number : n ≡ 0 + n = omega arith in
    record {
      rest = rs;
      are = refl;
      can = subst (λ (k : ℕ). AllSpelled (frames_from k (map Of_reply rs))) number can;
      left = bytes;
      remaining = ap (λ (i : Input). i.remaining) came ∙ is;
      follows = parts ∙ ap (λ (k : ℕ). spelled_all (frames_from k (map Of_reply rs))) number;
    }
answered first most n a b (y ∷ ys) [] bytes later is parts can came =
    let c = came.1.0 in
    let p = part a came.0 c.came bytes is c.received.consumed in
    let none : c.came ++ (p.left ++ later) ≡ [] = sym (append_assoc c.came p.left later) ∙ ap (λ (t : List ℕ). t ++ later) p.parts ∙ parts in
    absurd (nothing_whole c.came (p.left ++ later) c.so.0 none c.so.1.0)
answered first most n a b (y ∷ ys) (r ∷ rs) bytes later is parts can came =
    let mid = came.0 in
    let c = came.1.0 in
    let p = part a mid c.came bytes is c.received.consumed in
    let whole = came_first first (reply_frame n r) c.so.0 a mid c.came bytes later (spelled_all (frames_from (n + 1) (map Of_reply rs))) can.0 p parts c.so.1.0 in
    let told_so : reply_in (request_frame n y.0) (reply_frame n r) ≡ Ok y.1 = ap (reply_in (request_frame n y.0)) (sym whole.0) ∙ c.so.1.1 in
    let same : y.1 ≡ r = picked (eqb n n) (answers y.0 r) r y.1 told_so in
    let again = answered first most (n + 1) mid b ys rs p.left later p.remaining whole.1 can.1 came.1.1 in
    let number : length ys + (n + 1) ≡ suc (length ys) + n = omega arith in
    record {
      rest = again.rest;
      are = ap (λ (x : Reply). x ∷ rs) (sym same) ∙ ap (λ (xs : List Reply). y.1 ∷ xs) again.are;
      can = subst (λ (k : ℕ). AllSpelled (frames_from k (map Of_reply again.rest))) number again.can;
      left = again.left;
      remaining = again.remaining;
      follows = again.follows ∙ ap (λ (k : ℕ). spelled_all (frames_from k (map Of_reply again.rest))) number;
    }

recorded : FirstFrames → (most : ℕ) (a b : Input) (xs ys : Exchanges) (bytes later : List ℕ) → a.remaining ≡ Some bytes → bytes ++ later ≡ replies_of xs → AreSpelled xs
    → CameFrom most 1 a ys b → After 1 ys (told (in_turn xs)) later b
recorded first most a b xs ys bytes later is parts can came =
    answered first most 1 a b ys (told (in_turn xs)) bytes later is (parts ∙ whole_bytes xs) (all_spelled xs can) came

pub replies_are_those : FirstFrames → RepliesAreThose
replies_are_those first most a b xs ys bytes later is parts can came =
    let after = recorded first most a b xs ys bytes later is parts can came in
    (after.rest, after.are)

-- ---- faults

-- frames of replies in order are read
abbrev ordered : List Reply → Type 0
ordered [] = Unit {0}
ordered (r ∷ rs) = HasOrder (Of_reply r) × ordered rs

ordered_snoc : (rs : List Reply) (r : Reply) → ordered rs → HasOrder (Of_reply r) → ordered (rs ++ r ∷ [])
ordered_snoc [] r all one = (one, tt)
ordered_snoc (s ∷ rs) r all one = (all.0, ordered_snoc rs r all.1 one)

all_ordered : (xs : Exchanges) → AreInOrder xs → ordered (told (in_turn xs))
all_ordered [] all = tt
all_ordered (x ∷ xs) all = subst ordered (sym (map_snoc (λ (y : Request × Reply). y.1) (in_turn xs) x)) (ordered_snoc (told (in_turn xs)) x.1 (all_ordered xs all.1) all.0)

ordered_rest : (rs ss : List Reply) → ordered (rs ++ ss) → ordered ss
ordered_rest [] ss all = all
ordered_rest (r ∷ rs) ss all = ordered_rest rs ss all.1

are_frames : Fit → (n : ℕ) (rs : List Reply) → ordered rs → AllSpelled (frames_from n (map Of_reply rs)) → AreFrames (frames_from n (map Of_reply rs))
are_frames fit n [] all can = tt
are_frames fit n (r ∷ rs) all can = (fit (reply_frame n r) can.0 all.0, (can.0.0, are_frames fit (n + 1) rs all.1 can.1))

no_going : (f : Frame) (fs : List Frame) (r t : List ℕ) → Going (f ∷ fs) r ≡ Going [] t → ⊥
no_going f fs r t e = absurd cc

no_failure : (s : Stream) (fault : WireFault) (fs : List Frame) (ys : List ℕ) → s ≡ Failed fault → goes_on s ys ≡ Going fs [] → ⊥
no_failure s fault fs ys is e = let f : Failed fault ≡ Going fs [] = sym (failed_stays fault ys) ∙ ap (λ (t : Stream). goes_on t ys) (sym is) ∙ e in absurd cc

caused : AllFrames → PiecesJoin → FirstFrames → (most n : ℕ) (a b : Input) (q : Request) (r : Reply) (rest : List Reply) (fault : LinkFault) → a.remaining ≡ Some (spelled_all (frames_from n (map Of_reply (r ∷ rest)))) → AreFrames (frames_from n (map Of_reply (r ∷ rest))) → CanBeSpelled (reply_frame n r)
    → (c : Came most a (Err fault) (request_frame n q) b) → IsCaused fault most q r c.received.reads b
unfolding spelled_all
caused all join first most n a b q r rest Ended is fit can c =
    let p = part a b c.came (spelled_all (frames_from n (map Of_reply (r ∷ rest)))) is c.received.consumed in
    let none : p.left ≡ [] = subst IsAtEnd p.remaining c.so.1.1 in
    let came : c.came ≡ spelled_all (frames_from n (map Of_reply (r ∷ rest))) = sym (append-nil c.came) ∙ ap (λ (t : List ℕ). c.came ++ t) (sym none) ∙ p.parts in
    no_going (reply_frame n r) (frames_from (n + 1) (map Of_reply rest)) [] c.so.0 (sym (all (frames_from n (map Of_reply (r ∷ rest))) fit) ∙ ap stream_of (sym came) ∙ c.so.1.0)
caused all join first most n a b q r rest Read is fit can c = c.so.1.1
caused all join first most n a b q r rest Write is fit can c = absurd c.so
caused all join first most n a b q r rest Malformed is fit can c =
    let p = part a b c.came (spelled_all (frames_from n (map Of_reply (r ∷ rest)))) is c.received.consumed in
    let whole : goes_on (stream_of c.came) p.left ≡ Going (frames_from n (map Of_reply (r ∷ rest))) [] = sym (join (Going [] []) c.came p.left) ∙ ap stream_of p.parts ∙ all (frames_from n (map Of_reply (r ∷ rest))) fit in
    elim c.so [
      | inl e ↦ no_failure (stream_of c.came) _ (frames_from n (map Of_reply (r ∷ rest))) p.left e whole
      | inr f ↦ elim f [
        | inl e ↦ no_failure (stream_of c.came) _ (frames_from n (map Of_reply (r ∷ rest))) p.left e whole
        | inr e ↦ no_failure (stream_of c.came) _ (frames_from n (map Of_reply (r ∷ rest))) p.left e whole
      ]
    ]
caused all join first most n a b q r rest Sequence is fit can c =
    let p = part a b c.came (spelled_all (frames_from n (map Of_reply (r ∷ rest)))) is c.received.consumed in
    let whole = came_first first (reply_frame n r) c.so.0 a b c.came (spelled_all (frames_from n (map Of_reply (r ∷ rest)))) [] (spelled_all (frames_from (n + 1) (map Of_reply rest))) can p (append-nil (spelled_all (frames_from n (map Of_reply (r ∷ rest))))) c.so.1.0 in
    in_sequence (eqb n n) (answers q r) r (same_number n) (ap (reply_in (request_frame n q)) (sym whole.0) ∙ c.so.1.1)
caused all join first most n a b q r rest Inadmissible is fit can c =
    let p = part a b c.came (spelled_all (frames_from n (map Of_reply (r ∷ rest)))) is c.received.consumed in
    let whole = came_first first (reply_frame n r) c.so.0 a b c.came (spelled_all (frames_from n (map Of_reply (r ∷ rest)))) [] (spelled_all (frames_from (n + 1) (map Of_reply rest))) can p (append-nil (spelled_all (frames_from n (map Of_reply (r ∷ rest))))) c.so.1.0 in
    unfit (eqb n n) (answers q r) r (ap (reply_in (request_frame n q)) (sym whole.0) ∙ c.so.1.1)
caused all join first most n a b q r rest Memory is fit can c = tt
caused all join first most n a b q r rest TooMany is fit can c = absurd c.so

pub faults_are_caused : Fit → AllFrames → PiecesJoin → FirstFrames → FaultsAreCaused
faults_are_caused fit all join first most a b c xs ys q fault r rest is can in_order came due fails =
    let after = recorded first most a b xs ys (replies_of xs) [] is (append-nil (replies_of xs)) can came in
    let left : after.rest ≡ r ∷ rest = cancel (told ys) after.rest (r ∷ rest) (sym after.are ∙ due) in
    let bytes : after.left ≡ spelled_all (frames_from (length ys + 1) (map Of_reply (r ∷ rest))) =
    sym (append-nil after.left) ∙ after.follows ∙ ap (λ (rs : List Reply). spelled_all (frames_from (length ys + 1) (map Of_reply rs))) left in
    let spelled_rest : AllSpelled (frames_from (length ys + 1) (map Of_reply (r ∷ rest))) = subst (λ (rs : List Reply). AllSpelled (frames_from (length ys + 1) (map Of_reply rs))) left after.can in
    let orders : ordered (r ∷ rest) = ordered_rest (told ys) (r ∷ rest) (subst ordered due (all_ordered xs in_order)) in
    caused all join first most (length ys + 1) b c q r rest fault (after.remaining ∙ ap Some bytes) (are_frames fit (length ys + 1) (r ∷ rest) orders spelled_rest) spelled_rest.0 fails

-- ---- requests

-- bytes of these requests' frames, each of which came whole
abbrev TakenFrom : ℕ → List Request → List ℕ → Type 0
TakenFrom n [] came = came ≡ []
TakenFrom n (q ∷ qs) came = (own : List ℕ) × ((behind : List ℕ) × ((came ≡ own ++ behind)
    × ((stream_of own ≡ Going (request_frame n q ∷ []) []) × TakenFrom (n + 1) qs behind)))

taken_snoc : (n : ℕ) (qs : List Request) (q : Request) (came own : List ℕ) → TakenFrom n qs came → stream_of own ≡ Going (request_frame (length qs + n) q ∷ []) [] → TakenFrom n (qs ++ q ∷ []) (came ++ own)
taken_snoc n [] q came own none stream =
    let number : 0 + n ≡ n = omega arith in
    (own, ([], (ap (λ (t : List ℕ). t ++ own) none ∙ sym (append-nil own), (stream ∙ ap (λ (k : ℕ). Going (request_frame k q ∷ []) []) number, refl))))
taken_snoc n (p ∷ qs) q came own t stream =
    let number : suc (length qs) + n ≡ length qs + (n + 1) = omega arith in
    let again = taken_snoc (n + 1) qs q t.1.0 own t.1.1.1.1 (stream ∙ ap (λ (k : ℕ). Going (request_frame k q ∷ []) []) number) in
    (t.0, (t.1.0 ++ own, (ap (λ (b : List ℕ). b ++ own) t.1.1.0 ∙ append_assoc t.0 t.1.0 own, (t.1.1.1.0, again))))

length-asked : (xs : Exchanges) → length (asked (in_turn xs)) ≡ length xs
length-asked [] = refl
length-asked (x ∷ xs) = omega (arith, ap length (map_snoc (λ (y : Request × Reply). y.0) (in_turn xs) x), length-append (asked (in_turn xs)) (x.0 ∷ []), length-asked xs)

taken_in_turn : (most : ℕ) (a b : Input) (xs : Exchanges) (came : List ℕ) → Taken most a xs b came → TakenFrom 1 (asked (in_turn xs)) came
taken_in_turn most a b [] came t = t.1
taken_in_turn most a b (x ∷ xs) came t =
    let before = t.1.0 in
    let own = t.1.1.0 in
    let number : length xs + 1 ≡ length (asked (in_turn xs)) + 1 = ap (λ (k : ℕ). k + 1) (sym (length-asked xs)) in
    let again = taken_in_turn most a t.0 xs before t.1.1.1.1.0 in
    let more = taken_snoc 1 (asked (in_turn xs)) x.0 before own again (t.1.1.1.1.1.1 ∙ ap (λ (k : ℕ). Going (request_frame k x.0 ∷ []) []) number) in
    subst (TakenFrom 1 (asked (in_turn (x ∷ xs)))) (sym t.1.1.1.0) (subst (λ (qs : List Request). TakenFrom 1 qs (before ++ own)) (sym (map_snoc (λ (y : Request × Reply). y.0) (in_turn xs) x)) more)

same_request : (n : ℕ) (p q : Request) → request_frame n p ≡ request_frame n q → p ≡ q
same_request n p q e = let bodies : Of_request p ≡ Of_request q = ap (λ (f : Frame). f.body) e in cc

-- requests whose frames came from the front of these frames' bytes
requests_match : FirstFrames → (n : ℕ) (ps qs : List Request) (came later extra : List ℕ) → TakenFrom n ps came → came ++ later ≡ spelled_all (frames_from n (map Of_request qs)) ++ extra → AllSpelled (frames_from n (map Of_request qs)) → length qs ≤ length ps → (rest : List Request) × (ps ≡ qs ++ rest)
unfolding spelled_all
requests_match first n ps [] came later extra t parts can few = (ps, refl)
requests_match first n [] (q ∷ qs) came later extra t parts can few = absurd (omega (arith, few))
requests_match first n (p ∷ ps) (q ∷ qs) came later extra t parts can few =
    let own = t.0 in
    let behind = t.1.0 in
    let f = request_frame n q in
    let rest = spelled_all (frames_from (n + 1) (map Of_request qs)) in
    let apart : own ++ (behind ++ later) ≡ spelled f ++ (rest ++ extra) =
    sym (append_assoc own behind later) ∙ ap (λ (b : List ℕ). b ++ later) (sym t.1.1.0) ∙ parts ∙ append_assoc (spelled f) rest extra in
    let whole = first f (request_frame n p) own (behind ++ later) (rest ++ extra) can.0 apart t.1.1.1.0 in
    let left : behind ++ later ≡ rest ++ extra = cancel (spelled f) (behind ++ later) (rest ++ extra) (ap (λ (b : List ℕ). b ++ (behind ++ later)) (sym whole.1.0) ∙ apart) in
    let again = requests_match first (n + 1) ps qs behind later extra t.1.1.1.1 left can.1 (omega (arith, few)) in
    (again.0, ap (λ (x : Request). x ∷ ps) (same_request n p q whole.1.1) ∙ ap (λ (xs : List Request). q ∷ xs) again.1)

-- ---- both ends

came_of : (most : ℕ) (sent : Frame) (ahead : Bool) (a b : Input) (old new : Option (List ℕ)) (puts puts' : List ℕ) (r : Reply) (broken : ℕ) → Exchanged most sent ahead a b old new puts puts' (Ok r) broken → IsSent sent ahead old new puts puts' × Came most a (Ok r) sent b
came_of most sent ahead a b old new puts puts' r broken (inl x) = x
came_of most sent ahead a b old new puts puts' r broken (inr y) = absurd (cc y.1.0)

came_from : (most n : ℕ) (waits : Bool) (a b : Input) (old new : Option (List ℕ)) (ys : Exchanges) → Talked most n waits a old ys b new → CameFrom most n a ys b
came_from most n false a b old new [] t = t.0
came_from most n true a b old new [] t = t.0
came_from most n false a b old new (y ∷ ys) t =
    let e = t.1.1.1.1.1.1 in
    let ahead = t.1.1.1.1.1.0 in
    (t.0, ((came_of most (request_frame n y.0) ahead a t.0 old t.1.0 t.1.1.0 t.1.1.1.0 y.1 t.1.1.1.1.0 e.0).1, came_from most (n + 1) ahead t.0 b t.1.0 new ys e.1))
came_from most n true a b old new (y ∷ ys) t = (t.0, (t.1.1.0, came_from most (n + 1) false t.0 b old new ys t.1.1.1))

-- what was known of the writer has grown by these bytes
grown : (xs bs : List ℕ) (o : Option (List ℕ)) → Appends (Some xs) o bs → o ≡ Some (xs ++ bs)
grown xs bs None appends = absurd appends
grown xs bs (Some ys) appends = ap Some appends

-- what was sent ahead of the next request
abbrev sent_ahead : ℕ → Bool → List ℕ
sent_ahead n false = []
sent_ahead n true = spelled (request_frame n Wait)

abbrev CanBeAhead : ℕ → Bool → Type 0
CanBeAhead n false = Unit {0}
CanBeAhead n true = CanBeSpelled (request_frame n Wait)

by_parts : (n : ℕ) (q : Request) (ahead : Bool) (before : List ℕ) → before ++ bytes_of (request_frame n q) ahead ≡ (before ++ spelled (request_frame n q)) ++ sent_ahead (n + 1) ahead
by_parts n q false before = sym (append-nil (before ++ spelled (request_frame n q)))
by_parts n q true before = sym (append_assoc before (spelled (request_frame n q)) (spelled (request_frame (n + 1) Wait)))

can_by_parts : (n : ℕ) (q : Request) (ahead : Bool) → CanBeSent (request_frame n q) ahead → CanBeSpelled (request_frame n q) × CanBeAhead (n + 1) ahead
can_by_parts n q false can = (can, tt)
can_by_parts n q true can = can

wait_is : (q : Request) → is_wait q ≡ true → q ≡ Wait
wait_is Wait e = refl
wait_is (Boot boot limit words) e = absurd (cc e)
wait_is (To pid ask) e = absurd (cc e)
wait_is Outcome e = absurd (cc e)

record Wrote (n : ℕ) (ys : Exchanges) (before : List ℕ) (new : Option (List ℕ)) : Type 0 where
  can : AllSpelled (frames_from n (map Of_request (asked ys)))
  -- ahead of the next request
  extra : List ℕ
  bytes : new ≡ Some (before ++ (spelled_all (frames_from n (map Of_request (asked ys))) ++ extra))

wrote : (most n : ℕ) (waits : Bool) (a b : Input) (before : List ℕ) (old new : Option (List ℕ)) (ys : Exchanges) → old ≡ Some (before ++ sent_ahead n waits) → CanBeAhead n waits → Talked most n waits a old ys b new → Wrote n ys before new
unfolding spelled_all
wrote most n false a b before old new [] is can t = record { can = tt; extra = []; bytes = t.1 ∙ is }
wrote most n true a b before old new [] is can t = record { can = tt; extra = spelled (request_frame n Wait); bytes = t.1 ∙ is }
wrote most n false a b before old new (y ∷ ys) is can t =
    let e = t.1.1.1.1.1.1 in
    let ahead = t.1.1.1.1.1.0 in
    let f = request_frame n y.0 in
    let rest = spelled_all (frames_from (n + 1) (map Of_request (asked ys))) in
    let sent = (came_of most f ahead a t.0 old t.1.0 t.1.1.0 t.1.1.1.0 y.1 t.1.1.1.1.0 e.0).0 in
    let held : old ≡ Some before = is ∙ ap Some (append-nil before) in
    let more = grown before (bytes_of f ahead) t.1.0 (subst (λ (o : Option (List ℕ)). Appends o t.1.0 (bytes_of f ahead)) held sent.0) in
    let cans = can_by_parts n y.0 ahead sent.1.1 in
    let again = wrote most (n + 1) ahead t.0 b (before ++ spelled f) t.1.0 new ys (more ∙ ap Some (by_parts n y.0 ahead before)) cans.1 e.1 in
    record {
      can = (cans.0, again.can);
      extra = again.extra;
      bytes = again.bytes ∙ ap Some (append_assoc before (spelled f) (rest ++ again.extra) ∙ ap (λ (t : List ℕ). before ++ t) (sym (append_assoc (spelled f) rest again.extra)));
    }
wrote most n true a b before old new (y ∷ ys) is can t =
    let f = request_frame n y.0 in
    let rest = spelled_all (frames_from (n + 1) (map Of_request (asked ys))) in
    let waits : Wait ≡ y.0 = sym (wait_is y.0 t.1.0) in
    let held : old ≡ Some (before ++ spelled f) = is ∙ ap (λ (q : Request). Some (before ++ spelled (request_frame n q))) waits in
    let again = wrote most (n + 1) false t.0 b (before ++ spelled f) old new ys (held ∙ ap Some (sym (append-nil (before ++ spelled f)))) tt t.1.1.1 in
    record {
      can = (subst (λ (q : Request). CanBeSpelled (request_frame n q)) waits can, again.can);
      extra = again.extra;
      bytes = again.bytes ∙ ap Some (append_assoc before (spelled f) (rest ++ again.extra) ∙ ap (λ (t : List ℕ). before ++ t) (sym (append_assoc (spelled f) rest again.extra)));
    }

-- lists of pairs by their parts
pairs : (zs ys : Exchanges) (rs : List Reply) (qs : List Request) → told zs ≡ told ys ++ rs → asked zs ≡ asked ys ++ qs → (rest : Exchanges) × (zs ≡ ys ++ rest)
pairs zs [] rs qs t a = (zs, refl)
pairs [] (y ∷ ys) rs qs t a = absurd cc
pairs (z ∷ zs) (y ∷ ys) rs qs t a =
    let replies : told zs ≡ told ys ++ rs = cc in
    let requests : asked zs ≡ asked ys ++ qs = cc in
    let again = pairs zs ys rs qs replies requests in
    let reply : z.1 ≡ y.1 = cc in
    let request : z.0 ≡ y.0 = cc in
    let both : z ≡ y = ap (λ (q : Request). (q, z.1)) request ∙ ap (λ (r : Reply). (y.0, r)) reply in
    (again.0, ap (λ (x : Request × Reply). x ∷ zs) both ∙ ap (λ (xs : Exchanges). y ∷ xs) again.1)

some_is : {X : Type 0} (x y : X) → Some x ≡ Some y → x ≡ y
some_is x y e = cc

pub ends_agree : FirstFrames → EndsAgree
ends_agree first most most' a b c d xs ys bytes later sent came behind more is parts can taken carried talked =
    let replies = replies_are_those first most a b xs ys bytes later is parts can (came_from most 1 false a b (Some []) (Some sent) ys talked) in
    let w = wrote most 1 false a b [] (Some []) (Some sent) ys refl tt talked in
    let frames = spelled_all (frames_from 1 (map Of_request (asked ys))) in
    let whole : sent ≡ frames ++ w.extra = some_is sent (frames ++ w.extra) w.bytes in
    let few : length (asked ys) ≤ length (asked (in_turn xs)) = omega (arith, ap length replies.1, length-append (told ys) replies.0, length-map (λ (y : Request × Reply). y.1) ys, length-map (λ (y : Request × Reply). y.0) ys, length-map (λ (y : Request × Reply). y.1) (in_turn xs), length-map (λ (y : Request × Reply). y.0) (in_turn xs)) in
    let requests = requests_match first 1 (asked (in_turn xs)) (asked ys) came behind (w.extra ++ more) (taken_in_turn most' c d xs came taken) (carried ∙ ap (λ (t : List ℕ). t ++ more) whole ∙ append_assoc frames w.extra more) w.can few in
    pairs (in_turn xs) ys replies.0 requests.0 replies.1 requests.1
