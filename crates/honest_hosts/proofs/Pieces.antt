-- Bytes that a host wrote, cut anywhere, and a link that takes frames from their front.
use Rattle.std.proofs.Common.{◌≡◌, ℕ, suc, ◌+◌, Bool, true, false, cond, List, [], ◌∷◌, ◌++◌, length, Option, Some, None, Result, Ok, Err, refl, sym, ap, subst, ◌∙◌, append_assoc, append-nil, inl, inr, arith}
use Rattle.std.proofs.lemmas.Bool.Decides.{nat_tests}
use Rattle.std.proofs.lemmas.List.{length-append}
use Rattle.std.specs.Prelude.{◌==◌, ◌&&◌, not, slice_index}
use Rattle.std.specs.Io.KnownBytes.{Appends, Consumes}
use Rattle.lx_abi.specs.declared.outcome.Outcome.{Outcome}
use Rattle.lx_abi.specs.declared.ptrace.Request.{Request}
use Rattle.pt_model.specs.Admissible.{answers}
use Rattle.host_frame.specs.Reading.{frame_at, told_length}
use Rattle.host_frame.specs.Spelling.{CanBeSpelled, FitsFrame, HasOrder, IsShort, reply_frame, spelled}
use Rattle.host_frame.specs.declared.frame.Frame.{Frame}
use Rattle.host_frame.specs.declared.frame.Payload.{Payload as Body}
use Rattle.host_frame.specs.declared.frame.Payload.TheVariants.{Request as Of_request, Reply as Of_reply}
use Rattle.host_frame.specs.declared.fault.WireFault.{WireFault}
use Rattle.host_frame.specs.declared.fault.WireFault.TheVariants.{Length, Kind}
use Rattle.host_wire.specs.Ends.{AppendsPart, Input}
use Rattle.host_wire.specs.Streams.{is_kind, is_length, Stream, Going, Failed, closed, settled, goes_on, stream_of, AreFrames, spelled_all}
use Rattle.host_wire.proofs.Streams.{failed_stays}
use Rattle.host_link.specs.Pipes.{reply_of}
use Rattle.host_link.specs.declared.fault.LinkFault.{LinkFault}
use Rattle.host_link.specs.declared.fault.LinkFault.TheVariants.{Inadmissible, Sequence}
use Rattle.host_link.specs.declared.local.LocalLink.{LocalLink}
use Rattle.host_serve.specs.Hosted.{Answers_by, Boots_by, left_by}
use Rattle.host_serve.specs.Serving.{AreSpelled, Exchanges, Leads, Served, replies_of}
use Rattle.host_serve.specs.declared.fault.ServeFault.{ServeFault}
use Rattle.host_serve.specs.declared.fault.ServeFault.TheVariants.{Read, Write, Wire, Order, Failed as Failing}
use Rattle.host_serve.specs.declared.session.Phase.{Phase}
use Rattle.host_ends.specs.Recorded.{AreInOrder, CameFrom}
use Rattle.honest_hosts.specs.Bytes.{BytesAreFrames, FailsBehind, HasNoFault, IsWritten, NoReplyIsMalformed, NoReplyIsOutOfSequence}
use Rattle.honest_hosts.specs.Replies.{RepliesAreInOrder}

abbrev pub PiecesJoin : Type 0
PiecesJoin = (stream : Stream) (first more : List ℕ) → goes_on stream (first ++ more) ≡ goes_on (goes_on stream first) more

abbrev pub AllFrames : Type 0
AllFrames = (frames : List Frame) → AreFrames frames → stream_of (spelled_all frames) ≡ Going frames []

abbrev pub Fit : Type 0
Fit = (f : Frame) → CanBeSpelled f → HasOrder f.body → FitsFrame f

-- ---- the frames of a host's replies, the first first

abbrev frames_of : Exchanges → List Frame
frames_of [] = []
frames_of (x ∷ xs) = frames_of xs ++ reply_frame (length xs + 1) x.1 ∷ []

spelled_more : (fs : List Frame) (f : Frame) → spelled_all (fs ++ f ∷ []) ≡ spelled_all fs ++ spelled f
unfolding spelled_all
spelled_more [] f = append-nil (spelled f)
spelled_more (g ∷ fs) f = ap (λ (t : List ℕ). spelled g ++ t) (spelled_more fs f) ∙ sym (append_assoc (spelled g) (spelled_all fs) (spelled f))

bytes_are : (xs : Exchanges) → replies_of xs ≡ spelled_all (frames_of xs)
unfolding spelled_all
bytes_are [] = refl
bytes_are (x ∷ xs) =
    let f = reply_frame (length xs + 1) x.1 in
    ap (λ (t : List ℕ). t ++ spelled f) (bytes_are xs) ∙ sym (spelled_more (frames_of xs) f)

frames_more : (fs : List Frame) (f : Frame) → AreFrames fs → FitsFrame f → IsShort f → AreFrames (fs ++ f ∷ [])
frames_more [] f all fits short = (fits, (short, tt))
frames_more (g ∷ fs) f all fits short = (all.0, (all.1.0, frames_more fs f all.1.1 fits short))

are_frames : Fit → (xs : Exchanges) → AreInOrder xs → AreSpelled xs → AreFrames (frames_of xs)
are_frames fit [] order can = tt
are_frames fit (x ∷ xs) order can =
    let f = reply_frame (length xs + 1) x.1 in
    frames_more (frames_of xs) f (are_frames fit xs order.1 can.1) (fit f can.0 order.0) can.0.0

-- ---- a beginning of a stream without a fault has none

failed_or_not : (s : Stream) (rest : List ℕ) (fs : List Frame) (tail : List ℕ) → goes_on s rest ≡ Going fs tail → (frames : List Frame) × ((left : List ℕ) × (s ≡ Going frames left))
failed_or_not (Going frames left) rest fs tail e = (frames, (left, refl))
failed_or_not (Failed fault) rest fs tail e = let failed : Failed fault ≡ Going fs tail = sym (failed_stays fault rest) ∙ e in absurd (cc failed)

begins : PiecesJoin → (bytes more : List ℕ) (fs : List Frame) (tail : List ℕ) → stream_of (bytes ++ more) ≡ Going fs tail → HasNoFault bytes
begins join bytes more fs tail e = failed_or_not (stream_of bytes) more fs tail (sym (join (Going [] []) bytes more) ∙ e)

-- ---- what was written

-- it begins the bytes of these replies
record Begins (bytes : List ℕ) : Type 0 where
  exchanges : Exchanges
  phase : Phase LocalLink
  led : Leads Boots_by Answers_by exchanges phase
  fit : AreSpelled exchanges
  more : List ℕ
  is : bytes ++ more ≡ replies_of exchanges

-- all that was known
known : (o : Option (List ℕ)) (all bs : List ℕ) → o ≡ Some all → Appends (Some []) o bs → all ≡ bs
known None all bs is appends = absurd appends
known (Some xs) all bs is appends = let same : xs ≡ all = cc is in sym same ∙ appends

-- what a put that failed wrote a part of
part_of : (whole o : Option (List ℕ)) (all bs part : List ℕ) → o ≡ Some all → Appends (Some []) whole bs → AppendsPart whole o part → (left : List ℕ) × (all ++ left ≡ bs ++ part)
part_of None o all bs part is before appends = absurd before
part_of (Some xs) None all bs part is before appends = absurd appends.1.1.1
part_of (Some xs) (Some ys) all bs part is before appends =
    let same : ys ≡ all = cc is in
    let done = appends.0 in
    let left = appends.1.0 in (
      left,
      ap (λ (t : List ℕ). t ++ left) (sym same ∙ appends.1.1.1 ∙ ap (λ (t : List ℕ). t ++ done) before)
          ∙ append_assoc bs done left ∙ ap (λ (t : List ℕ). bs ++ t) appends.1.1.0,
    )

module _ (bytes : List ℕ) where
  whole : {most broken : ℕ} {a b : Input} {written : Option (List ℕ)} {puts puts' : List ℕ} {result : Result Outcome ServeFault} (s : Served most Boots_by Answers_by left_by a b (Some []) written puts puts' result broken)
      → (later : List ℕ) → written ≡ Some (bytes ++ later) → Appends (Some []) written (replies_of s.exchanges) → Begins bytes
  whole {written = written} s later all appends = record {
    exchanges = s.exchanges;
    phase = s.phase;
    led = s.led;
    fit = s.fit;
    more = later;
    is = known written (bytes ++ later) (replies_of s.exchanges) all appends;
  }

  begun : {most broken : ℕ} {a b : Input} {written : Option (List ℕ)} {puts puts' : List ℕ} (result : Result Outcome ServeFault) (s : Served most Boots_by Answers_by left_by a b (Some []) written puts puts' result broken)
      → (later : List ℕ) → written ≡ Some (bytes ++ later) → Begins bytes
  begun (Ok outcome) s later all = whole s later all s.written.0
  begun (Err Read) s later all = whole s later all s.written.0
  begun (Err Wire) s later all = whole s later all s.written.0
  begun (Err Order) s later all = whole s later all s.written.0
  begun (Err Failing) s later all = whole s later all s.written.0
  begun {written = written} (Err Write) s later all =
      let reply = s.written.unsent.reply in
      let cut = part_of s.written.whole written (bytes ++ later) (replies_of s.exchanges) (spelled (reply_frame (length s.exchanges + 1) reply)) all s.written.written.0 s.written.part.0 in
      record {
        exchanges = (s.written.unsent.request, reply) ∷ s.exchanges;
        phase = s.written.unsent.next;
        led = (s.phase, (s.led, s.written.unsent.answered));
        fit = (s.written.part.1.1, s.fit);
        more = later ++ cut.0;
        is = sym (append_assoc bytes later cut.0) ∙ cut.1;
      }

abbrev is_begun : {bytes : List ℕ} → IsWritten bytes → Begins bytes
is_begun {bytes} w = begun bytes w.result w.served w.later w.all

-- it goes on to these frames
all_frames : RepliesAreInOrder → Fit → AllFrames → {bytes : List ℕ} → (h : Begins bytes) → stream_of (bytes ++ h.more) ≡ Going (frames_of h.exchanges) []
all_frames order fit all h =
    ap stream_of (h.is ∙ bytes_are h.exchanges) ∙ all (frames_of h.exchanges) (are_frames fit h.exchanges (order h.exchanges h.phase h.led) h.fit)

pub bytes_are_frames : RepliesAreInOrder → Fit → PiecesJoin → AllFrames → BytesAreFrames
bytes_are_frames order fit join all bytes w =
    let h : Begins bytes = is_begun w in
    begins join bytes h.more (frames_of h.exchanges) [] (all_frames order fit all h)

-- ---- frames before others

abbrev with_before : List Frame → Stream → Stream
with_before fs (Going gs r) = Going (fs ++ gs) r
with_before fs (Failed fault) = Failed fault

closed_before : (fs gs : List Frame) (o : Option Frame) → closed (fs ++ gs) o ≡ with_before fs (closed gs o)
closed_before fs gs None = refl
closed_before fs gs (Some f) = ap (λ (t : List Frame). Going t []) (append_assoc fs gs (f ∷ []))

settled_before : (fs gs : List Frame) (bytes : List ℕ) → settled (fs ++ gs) bytes ≡ with_before fs (settled gs bytes)
unfolding settled
settled_before fs gs bytes =
    go ((length bytes == 4) && not (is_length (told_length bytes))) ((length bytes == 13) && not (is_kind (slice_index bytes 12))) (length bytes == 4 + told_length bytes)
  where
    go : (a b c : Bool) → cond a (Failed Length) (cond b (Failed Kind) (cond c (closed (fs ++ gs) (frame_at bytes)) (Going (fs ++ gs) bytes)))
        ≡ with_before fs (cond a (Failed Length) (cond b (Failed Kind) (cond c (closed gs (frame_at bytes)) (Going gs bytes))))
    go true b c = refl
    go false true c = refl
    go false false true = closed_before fs gs (frame_at bytes)
    go false false false = refl

goes_before : (fs : List Frame) (s : Stream) (bytes : List ℕ) → goes_on (with_before fs s) bytes ≡ with_before fs (goes_on s bytes)
unfolding goes_on
goes_before fs s [] = refl
goes_before fs (Failed fault) (b ∷ bs) = refl
goes_before fs (Going gs r) (b ∷ bs) = ap (λ (s : Stream). goes_on s bs) (settled_before fs gs (r ++ b ∷ [])) ∙ goes_before fs (settled gs (r ++ b ∷ [])) bs

-- ---- a link that takes them

-- what is left of known bytes
left_of : (xs bs : List ℕ) (o : Option (List ℕ)) → Consumes (Some xs) o bs → (ys : List ℕ) × ((o ≡ Some ys) × (xs ≡ bs ++ ys))
left_of xs bs None consumed = absurd consumed
left_of xs bs (Some ys) consumed = (ys, (refl, consumed))

taken_from : (a b : Input) (xs came : List ℕ) → a.remaining ≡ Some xs → Consumes a.remaining b.remaining came → (ys : List ℕ) × ((b.remaining ≡ Some ys) × (xs ≡ came ++ ys))
taken_from a b xs came is consumed = left_of xs came b.remaining (subst (λ (o : Option (List ℕ)). Consumes o b.remaining came) is consumed)

-- so many whole frames were, and this is left
record Took (bytes : List ℕ) (ys : Exchanges) (b : Input) : Type 0 where
  came : List ℕ
  frames : List Frame
  many : length frames ≡ length ys
  stream : stream_of came ≡ Going frames []
  left : List ℕ
  remaining : b.remaining ≡ Some left
  parts : bytes ≡ came ++ left

took : PiecesJoin → (most n : ℕ) (a b : Input) (ys : Exchanges) (bytes : List ℕ) → a.remaining ≡ Some bytes → CameFrom most n a ys b → Took bytes ys b
unfolding goes_on
took join most n a b [] bytes is came = record {
  came = [];
  frames = [];
  many = refl;
  stream = refl;
  left = bytes;
  remaining = ap (λ (i : Input). i.remaining) came ∙ is;
  parts = refl;
}
took join most n a b (y ∷ ys) bytes is came =
    let c = came.1.0 in
    let one = taken_from a came.0 bytes c.came is c.received.consumed in
    let again = took join most (n + 1) came.0 b ys one.0 one.1.0 came.1.1 in
    let f = c.so.0 in
    record {
      came = c.came ++ again.came;
      frames = f ∷ again.frames;
      many = ap suc again.many;
      stream =
          join (Going [] []) c.came again.came ∙ ap (λ (s : Stream). goes_on s again.came) c.so.1.0
          ∙ goes_before (f ∷ []) (Going [] []) again.came ∙ ap (with_before (f ∷ [])) again.stream;
      left = again.left;
      remaining = again.remaining;
      parts = one.1.1 ∙ ap (λ (t : List ℕ). c.came ++ t) again.parts ∙ sym (append_assoc c.came again.came again.left);
    }

-- a frame with a fault behind whole ones is a fault of them all
fault_shows : PiecesJoin → (before came left : List ℕ) (frames : List Frame) (fault : WireFault) → stream_of before ≡ Going frames [] → stream_of came ≡ Failed fault → HasNoFault (before ++ (came ++ left)) → ⊥
fault_shows join before came left frames fault whole failed none =
    let behind : goes_on (Going frames []) came ≡ Failed fault =
    ap (λ (t : List Frame). goes_on (Going t []) came) (sym (append-nil frames)) ∙ goes_before frames (Going [] []) came ∙ ap (with_before frames) failed in
    let all : stream_of (before ++ (came ++ left)) ≡ Failed fault =
    join (Going [] []) before (came ++ left) ∙ ap (λ (s : Stream). goes_on s (came ++ left)) whole ∙ join (Going frames []) came left
    ∙ ap (λ (s : Stream). goes_on s left) behind ∙ failed_stays fault left in
    let both : Going none.0 none.1.0 ≡ Failed fault = sym none.1.1 ∙ all in
    absurd (cc both)

-- what a link had taken, and what came then
record Cut {fault : LinkFault} (x : FailsBehind fault) : Type 0 where
  took : Took x.bytes x.exchanges x.b
  left : List ℕ
  parts : x.bytes ≡ took.came ++ (x.fails.came ++ left)

cut : PiecesJoin → {fault : LinkFault} (x : FailsBehind fault) → Cut x
cut join x =
    let t = took join x.most 1 x.a x.b x.exchanges x.bytes x.given x.came in
    let one = taken_from x.b x.c t.left x.fails.came t.remaining x.fails.received.consumed in
    record { took = t; left = one.0; parts = t.parts ∙ ap (λ (rest : List ℕ). t.came ++ rest) one.1.1 }

pub no_reply_is_malformed : PiecesJoin → BytesAreFrames → NoReplyIsMalformed
no_reply_is_malformed join framed x =
    let k = cut join x in
    let t = k.took in
    let none : HasNoFault (t.came ++ (x.fails.came ++ k.left)) = subst HasNoFault k.parts (framed x.bytes x.written) in
    elim x.fails.so [
      | inl e ↦ fault_shows join t.came x.fails.came k.left t.frames _ t.stream e none
      | inr f ↦ elim f [
        | inl e ↦ fault_shows join t.came x.fails.came k.left t.frames _ t.stream e none
        | inr e ↦ fault_shows join t.came x.fails.came k.left t.frames _ t.stream e none
      ]
    ]

-- ---- their numbers

abbrev Numbered : ℕ → List Frame → Type 0
Numbered n [] = Unit {0}
Numbered n (f ∷ fs) = (f.number ≡ n) × Numbered (n + 1) fs

numbered_more : (n : ℕ) (fs : List Frame) (f : Frame) → Numbered n fs → f.number ≡ length fs + n → Numbered n (fs ++ f ∷ [])
numbered_more n [] f all is = (is ∙ omega arith, tt)
numbered_more n (g ∷ fs) f all is = (all.0, numbered_more (n + 1) fs f all.1 (omega (arith, is)))

length_frames : (xs : Exchanges) → length (frames_of xs) ≡ length xs
length_frames [] = refl
length_frames (x ∷ xs) = omega (arith, length-append (frames_of xs) (reply_frame (length xs + 1) x.1 ∷ []), length_frames xs)

all_numbered : (xs : Exchanges) → Numbered 1 (frames_of xs)
all_numbered [] = tt
all_numbered (x ∷ xs) = numbered_more 1 (frames_of xs) (reply_frame (length xs + 1) x.1) (all_numbered xs) (ap (λ (k : ℕ). k + 1) (sym (length_frames xs)))

number_at : (n : ℕ) (gs : List Frame) (f : Frame) (more : List Frame) → Numbered n (gs ++ f ∷ more) → f.number ≡ length gs + n
number_at n [] f more all = all.0 ∙ omega arith
number_at n (g ∷ gs) f more all = let later = number_at (n + 1) gs f more all.1 in omega (arith, later)

-- whole frames stay
frames_stay : (gs : List Frame) (bytes : List ℕ) (fs : List Frame) (tail : List ℕ) → goes_on (Going gs []) bytes ≡ Going fs tail → (more : List Frame) × (fs ≡ gs ++ more)
frames_stay gs bytes fs tail e =
    go (stream_of bytes) (sym (goes_before gs (Going [] []) bytes) ∙ ap (λ (t : List Frame). goes_on (Going t []) bytes) (append-nil gs) ∙ e)
  where
    go : (s : Stream) → with_before gs s ≡ Going fs tail → (more : List Frame) × (fs ≡ gs ++ more)
    go (Going more r) is = (more, cc is)
    go (Failed fault) is = absurd (cc is)

-- a frame of the request's number isn't out of sequence
in_sequence : (same : Bool) (q : Request) (body : Body) → same ≡ true → cond same (reply_of (Of_request q) body) (Err Sequence) ≡ Err Sequence → ⊥
in_sequence false q body is e = absurd (cc is)
in_sequence true q (Of_request p) is e = absurd (cc e)
in_sequence true q (Of_reply r) is e = go (answers q r) e
  where
    go : (b : Bool) → cond b (Ok r) (Err Inadmissible) ≡ Err Sequence → ⊥
    go true e = absurd (cc e)
    go false e = absurd (cc e)

pub no_reply_is_out_of_sequence : RepliesAreInOrder → Fit → PiecesJoin → AllFrames → NoReplyIsOutOfSequence
no_reply_is_out_of_sequence order fit join all x =
    let k = cut join x in
    let t = k.took in
    let h : Begins x.bytes = is_begun x.written in
    let f = x.fails.so.0 in
    let rest = k.left ++ h.more in
    let bytes : x.bytes ++ h.more ≡ t.came ++ (x.fails.came ++ rest) =
    ap (λ (b : List ℕ). b ++ h.more) k.parts ∙ append_assoc t.came (x.fails.came ++ k.left) h.more ∙ ap (λ (b : List ℕ). t.came ++ b) (append_assoc x.fails.came k.left h.more) in
    let one : goes_on (Going t.frames []) x.fails.came ≡ Going (t.frames ++ f ∷ []) [] =
    ap (λ (fs : List Frame). goes_on (Going fs []) x.fails.came) (sym (append-nil t.frames)) ∙ goes_before t.frames (Going [] []) x.fails.came ∙ ap (with_before t.frames) x.fails.so.1.0 in
    let whole : goes_on (Going (t.frames ++ f ∷ []) []) rest ≡ Going (frames_of h.exchanges) [] =
    sym (ap (λ (s : Stream). goes_on s rest) one) ∙ sym (join (Going t.frames []) x.fails.came rest)
    ∙ sym (ap (λ (s : Stream). goes_on s (x.fails.came ++ rest)) t.stream) ∙ sym (join (Going [] []) t.came (x.fails.came ++ rest)) ∙ sym (ap stream_of bytes) ∙ all_frames order fit all h in
    let stay = frames_stay (t.frames ++ f ∷ []) rest (frames_of h.exchanges) [] whole in
    let numbers : Numbered 1 (t.frames ++ f ∷ stay.0) = subst (Numbered 1) (stay.1 ∙ append_assoc t.frames (f ∷ []) stay.0) (all_numbered h.exchanges) in
    let number : f.number ≡ length t.frames + 1 = number_at 1 t.frames f stay.0 numbers in
    let many = t.many in
    in_sequence (f.number == length x.exchanges + 1) x.request f.body (grind (arith, nat_tests, number, many)) x.fails.so.1.1
