-- What the front of a stream decides.
use Rattle.std.proofs.Common.{◌≡◌, ℕ, zero, suc, ◌+◌, ◌-◌, ◌<◌, ◌≤◌, Bool, true, false, cond, not, ◌&&◌, eqb, ltb, List, [], ◌∷◌, ◌++◌, length, take, drop, get_or, Option, Some, None, Ok, append_assoc, refl, sym, ap, ◌∙◌, subst, arith, inl, inr}
use Rattle.std.specs.Prelude.{IfSome}
use Rattle.std.proofs.Math.Seq.{take-length, drop-length}
use Rattle.std.proofs.lemmas.Bool.{cases_lt, cases_Bool, lt-ltb, le-ltb, ltb-false, ne_eqb, eq-eqb, and_parts, and_right, leb-true}
use Rattle.std.proofs.lemmas.List.{drop_more, take_more, get_or-take, length-take-le, length-append, take_at, drop_all, take_rest, append-nil}
use Rattle.byteorder.specs.Numbers.{big_from-take}
use Rattle.host_frame.specs.declared.frame.Frame.{Frame}
use Rattle.host_frame.specs.declared.fault.WireFault.{WireFault}
use Rattle.host_frame.specs.declared.fault.WireFault.TheVariants.{Length, Kind, Payload, Memory}
use Rattle.host_frame.specs.Reading.{frame_at, told_length}
use Rattle.host_wire.specs.Streams.{is_length, is_kind, Stream, Going, Failed, closed, settled, goes_on, Front, More, Bad, Whole, whole, front_of, IsUnfinished, stream_of, missing_of, FailsAs, GivesFront, Feeding, fed, as_stream, HasOne}

pub failed_stays : (fault : WireFault) (bs : List ℕ) → goes_on (Failed fault) bs ≡ Failed fault
unfolding goes_on
failed_stays fault [] = refl
failed_stays fault (b ∷ bs) = refl

pub goes_on-append : (s : Stream) (xs ys : List ℕ) → goes_on s (xs ++ ys) ≡ goes_on (goes_on s xs) ys
unfolding goes_on
goes_on-append s [] ys = refl
goes_on-append (Failed fault) (x ∷ xs) ys = sym (failed_stays fault ys)
goes_on-append (Going fs r) (x ∷ xs) ys = goes_on-append (settled fs (r ++ x ∷ [])) xs ys

-- one byte more
one_more : (fs : List Frame) (bytes : List ℕ) (n : ℕ) → n < length bytes
    → goes_on (Going fs (take n bytes)) (drop n bytes) ≡ goes_on (settled fs (take (n + 1) bytes)) (drop (n + 1) bytes)
unfolding goes_on
one_more fs bytes n lt =
    let d : drop n bytes ≡ get_or bytes n 0 ∷ drop (n + 1) bytes = drop_more bytes n 0 lt in
    let t : take (n + 1) bytes ≡ take n bytes ++ get_or bytes n 0 ∷ [] = take_more bytes n 0 lt in
    ap (goes_on (Going fs (take n bytes))) d ∙ ap (λ (r : List ℕ). goes_on (settled fs r) (drop (n + 1) bytes)) (sym t)

-- what a frame under way must not show
record IsQuiet (bytes : List ℕ) (n : ℕ) : Type 0 where
  within : n ≤ length bytes
  told : 4 ≤ n → is_length (told_length bytes) ≡ true
  kind : 13 ≤ n → is_kind (get_or bytes 12 0) ≡ true
  short : 4 ≤ n → n < 4 + told_length bytes

-- the first test of a frame under way
test_length : (bytes : List ℕ) (n : ℕ) → length bytes ≡ n → (4 ≤ n → is_length (told_length bytes) ≡ true) → (eqb (length bytes) 4 && not (is_length (told_length bytes))) ≡ false
test_length bytes n len told = elim (cases_lt n 4) [
  | inl lt ↦ rw (ne_eqb (length bytes) 4 (λ e. absurd (omega (arith, e, len, lt)))) refl
  | inr le ↦ and_right (eqb (length bytes) 4) (not (is_length (told_length bytes))) (ap not (told le))
]

test_kind : (bytes : List ℕ) (n : ℕ) → length bytes ≡ n → (13 ≤ n → is_kind (get_or bytes 12 0) ≡ true) → (eqb (length bytes) 13 && not (is_kind (get_or bytes 12 0))) ≡ false
test_kind bytes n len kind = elim (cases_lt n 13) [
  | inl lt ↦ rw (ne_eqb (length bytes) 13 (λ e. absurd (omega (arith, e, len, lt)))) refl
  | inr le ↦ and_right (eqb (length bytes) 13) (not (is_kind (get_or bytes 12 0))) (ap not (kind le))
]

settled_quiet : (fs : List Frame) (bytes : List ℕ) (n : ℕ) → length bytes ≡ n → (4 ≤ n → is_length (told_length bytes) ≡ true) → (13 ≤ n → is_kind (get_or bytes 12 0) ≡ true) → n < 4 + told_length bytes
    → settled fs bytes ≡ Going fs bytes
unfolding settled
settled_quiet fs bytes n len told kind short =
    let a = test_length bytes n len told in
    let b = test_kind bytes n len kind in
    let c : eqb (length bytes) (4 + told_length bytes) ≡ false = ne_eqb (length bytes) (4 + told_length bytes) (λ e. absurd (omega (arith, e, len, short))) in
    rw (a, b, c) refl

pub told_front : (bytes : List ℕ) (n : ℕ) → 4 ≤ n → told_length (take n bytes) ≡ told_length bytes
told_front bytes n le = big_from-take 0 4 n bytes (omega arith)

quiet_front : (fs : List Frame) (bytes : List ℕ) (n : ℕ) → IsQuiet bytes n → settled fs (take n bytes) ≡ Going fs (take n bytes)
quiet_front fs bytes n q = settled_quiet fs (take n bytes) n (length-take-le n bytes q.within)
    (λ le. ap is_length (told_front bytes n le) ∙ q.told le)
    (λ le. ap is_kind (get_or-take n bytes 12 0 (omega arith)) ∙ q.kind le)
    (elim (cases_lt n 4) [ inl lt ↦ omega (arith, lt) | inr le ↦ omega (arith, told_front bytes n le, q.short le) ])

less_quiet : (bytes : List ℕ) (n : ℕ) → IsQuiet bytes (n + 1) → IsQuiet bytes n
less_quiet bytes n q = record {
  within = omega (arith, q.within);
  told = λ le. q.told (omega (arith, le));
  kind = λ le. q.kind (omega (arith, le));
  short = λ le. omega (arith, q.short (omega (arith, le)));
}

-- bytes that show nothing go by
quiet : (fs : List Frame) (bytes : List ℕ) (n : ℕ) → IsQuiet bytes n → goes_on (Going fs []) bytes ≡ goes_on (Going fs (take n bytes)) (drop n bytes)
quiet fs bytes zero q = refl
quiet fs bytes (suc n) q =
    let e : suc n ≡ n + 1 = omega arith in
    let r : IsQuiet bytes (n + 1) = subst (IsQuiet bytes) e q in
    let before = quiet fs bytes n (less_quiet bytes n r) in
    rw e (before ∙ one_more fs bytes n (omega (arith, q.within)) ∙ ap (λ (s : Stream). goes_on s (drop (n + 1) bytes)) (quiet_front fs bytes (n + 1) r))

-- all bytes go by
all_quiet : (fs : List Frame) (bytes : List ℕ) → IsQuiet bytes (length bytes) → goes_on (Going fs []) bytes ≡ Going fs bytes
unfolding goes_on
all_quiet fs bytes q = quiet fs bytes (length bytes) q ∙ rw (take-length bytes, drop-length bytes) refl

-- the byte behind them decides
decides : (fs : List Frame) (bytes : List ℕ) (n : ℕ) → IsQuiet bytes n → n < length bytes → goes_on (Going fs []) bytes ≡ goes_on (settled fs (take (n + 1) bytes)) (drop (n + 1) bytes)
decides fs bytes n q lt = quiet fs bytes n q ∙ one_more fs bytes n lt

-- what stands at the front, and what then comes
abbrev pub after : List Frame → List ℕ → Front → Stream
after fs bytes More = Going fs bytes
after fs bytes (Bad fault) = Failed fault
after fs bytes (Whole f n) = goes_on (Going (fs ++ f ∷ []) []) (drop n bytes)

length_fails : (fs : List Frame) (bytes : List ℕ) → 4 ≤ length bytes → is_length (told_length bytes) ≡ false → goes_on (Going fs []) bytes ≡ Failed Length
unfolding settled
length_fails fs bytes le bad =
    let q : IsQuiet bytes 3 = record { within = omega (arith, le); told = λ l. absurd (omega (arith, l)); kind = λ l. absurd (omega (arith, l)); short = λ l. absurd (omega (arith, l)) } in
    let r : eqb (length (take 4 bytes)) 4 ≡ true = eq-eqb (length (take 4 bytes)) 4 (length-take-le 4 bytes le) in
    let t : is_length (told_length (take 4 bytes)) ≡ false = ap is_length (told_front bytes 4 (omega arith)) ∙ bad in
    let s : settled fs (take 4 bytes) ≡ Failed Length = rw (r, t) refl in
    decides fs bytes 3 q (omega (arith, le)) ∙ ap (λ (s : Stream). goes_on s (drop 4 bytes)) s ∙ failed_stays Length (drop 4 bytes)

told_least : (n : ℕ) → is_length n ≡ true → 9 ≤ n
told_least n e = leb-true 9 n (and_parts _ _ e).0

kind_fails : (fs : List Frame) (bytes : List ℕ) → 13 ≤ length bytes → is_length (told_length bytes) ≡ true → is_kind (get_or bytes 12 0) ≡ false → goes_on (Going fs []) bytes ≡ Failed Kind
unfolding settled
kind_fails fs bytes le told bad =
    let least = told_least (told_length bytes) told in
    let q : IsQuiet bytes 12 = record { within = omega (arith, le); told = λ l. told; kind = λ l. absurd (omega (arith, l)); short = λ l. omega (arith, least) } in
    let len : length (take 13 bytes) ≡ 13 = length-take-le 13 bytes le in
    let t : is_kind (get_or (take 13 bytes) 12 0) ≡ false = ap is_kind (get_or-take 13 bytes 12 0 (omega arith)) ∙ bad in
    let s : settled fs (take 13 bytes) ≡ Failed Kind = rw (len, t) refl in
    decides fs bytes 12 q (omega (arith, le)) ∙ ap (λ (s : Stream). goes_on s (drop 13 bytes)) s ∙ failed_stays Kind (drop 13 bytes)

closes : (fs : List Frame) (bytes : List ℕ) (o : Option Frame) (n : ℕ) → goes_on (closed fs o) (drop n bytes) ≡ after fs bytes (whole o n)
closes fs bytes None n = failed_stays Payload (drop n bytes)
closes fs bytes (Some f) n = refl

whole_comes : (fs : List Frame) (bytes : List ℕ) (n : ℕ) → 4 + told_length bytes ≡ n + 1 → n + 1 ≤ length bytes → is_length (told_length bytes) ≡ true → is_kind (get_or bytes 12 0) ≡ true
    → goes_on (Going fs []) bytes ≡ after fs bytes (whole (frame_at (take (n + 1) bytes)) (n + 1))
unfolding settled
whole_comes fs bytes n size le told kind =
    let least = told_least (told_length bytes) told in
    let q : IsQuiet bytes n = record { within = omega (arith, le); told = λ l. told; kind = λ l. kind; short = λ l. omega (arith, size) } in
    let len : length (take (n + 1) bytes) ≡ n + 1 = length-take-le (n + 1) bytes le in
    let tf : told_length (take (n + 1) bytes) ≡ told_length bytes = told_front bytes (n + 1) (omega (arith, size, least)) in
    let a = test_length (take (n + 1) bytes) (n + 1) len (λ l. ap is_length tf ∙ told) in
    let b = test_kind (take (n + 1) bytes) (n + 1) len (λ l. ap is_kind (get_or-take (n + 1) bytes 12 0 (omega (arith, l))) ∙ kind) in
    let c : eqb (length (take (n + 1) bytes)) (4 + told_length (take (n + 1) bytes)) ≡ true = eq-eqb _ _ (omega (arith, len, tf, size)) in
    let s : settled fs (take (n + 1) bytes) ≡ closed fs (frame_at (take (n + 1) bytes)) = rw (a, b, c) refl in
    decides fs bytes n q (omega (arith, le)) ∙ ap (λ (s : Stream). goes_on s (drop (n + 1) bytes)) s ∙ closes fs bytes (frame_at (take (n + 1) bytes)) (n + 1)

-- ---- all cases

by_size : (fs : List Frame) (bytes : List ℕ) → 13 ≤ length bytes → is_length (told_length bytes) ≡ true → is_kind (get_or bytes 12 0) ≡ true
    → goes_on (Going fs []) bytes ≡ after fs bytes (cond (ltb (length bytes) (4 + told_length bytes)) More (whole (frame_at (take (4 + told_length bytes) bytes)) (4 + told_length bytes)))
by_size fs bytes le told kind = elim (cases_lt (length bytes) (4 + told_length bytes)) [
  | inl lt ↦
      let q : IsQuiet bytes (length bytes) = record { within = omega arith; told = λ l. told; kind = λ l. kind; short = λ l. lt } in
      rw (lt-ltb _ _ lt) (all_quiet fs bytes q)
  | inr ge ↦
      let n : ℕ = 3 + told_length bytes in
      let e : 4 + told_length bytes ≡ n + 1 = omega arith in
      rw (le-ltb _ _ ge, e) (whole_comes fs bytes n e (omega (arith, ge)) told kind)
]

by_kind : (fs : List Frame) (bytes : List ℕ) → 13 ≤ length bytes → is_length (told_length bytes) ≡ true
    → goes_on (Going fs []) bytes ≡ after fs bytes (cond (not (is_kind (get_or bytes 12 0))) (Bad Kind) (cond (ltb (length bytes) (4 + told_length bytes)) More (whole (frame_at (take (4 + told_length bytes) bytes)) (4 + told_length bytes))))
by_kind fs bytes le told = elim (cases_Bool (is_kind (get_or bytes 12 0))) [
  | inl holds ↦ rw holds (by_size fs bytes le told holds)
  | inr fails ↦ rw fails (kind_fails fs bytes le told fails)
]

by_header : (fs : List Frame) (bytes : List ℕ) → 4 ≤ length bytes → is_length (told_length bytes) ≡ true
    → goes_on (Going fs []) bytes ≡ after fs bytes (cond (ltb (length bytes) 13) More (cond (not (is_kind (get_or bytes 12 0))) (Bad Kind) (cond (ltb (length bytes) (4 + told_length bytes)) More (whole (frame_at (take (4 + told_length bytes) bytes)) (4 + told_length bytes)))))
by_header fs bytes le told = elim (cases_lt (length bytes) 13) [
  | inl lt ↦
      let least = told_least (told_length bytes) told in
      let q : IsQuiet bytes (length bytes) = record { within = omega arith; told = λ l. told; kind = λ l. absurd (omega (arith, l, lt)); short = λ l. omega (arith, lt, least) } in
      rw (lt-ltb _ _ lt) (all_quiet fs bytes q)
  | inr ge ↦ rw (le-ltb _ _ ge) (by_kind fs bytes ge told)
]

by_length : (fs : List Frame) (bytes : List ℕ) → 4 ≤ length bytes
    → goes_on (Going fs []) bytes ≡ after fs bytes (cond (not (is_length (told_length bytes))) (Bad Length) (cond (ltb (length bytes) 13) More (cond (not (is_kind (get_or bytes 12 0))) (Bad Kind) (cond (ltb (length bytes) (4 + told_length bytes)) More (whole (frame_at (take (4 + told_length bytes) bytes)) (4 + told_length bytes))))))
by_length fs bytes le = elim (cases_Bool (is_length (told_length bytes))) [
  | inl holds ↦ rw holds (by_header fs bytes le holds)
  | inr fails ↦ rw fails (length_fails fs bytes le fails)
]

-- the front decides how a stream goes on
pub by_front : (fs : List Frame) (bytes : List ℕ) → goes_on (Going fs []) bytes ≡ after fs bytes (front_of bytes)
unfolding front_of
by_front fs bytes = elim (cases_lt (length bytes) 4) [
  | inl lt ↦
      let q : IsQuiet bytes (length bytes) = record { within = omega arith; told = λ l. absurd (omega (arith, l, lt)); kind = λ l. absurd (omega (arith, l, lt)); short = λ l. absurd (omega (arith, l, lt)) } in
      rw (lt-ltb _ _ lt) (all_quiet fs bytes q)
  | inr ge ↦ rw (le-ltb _ _ ge) (by_length fs bytes ge)
]

-- ---- the loop over the frames of a run of bytes

pub refused : (fs : List Frame) (bytes : List ℕ) (fault : WireFault) (total : Stream) → FailsAs Bad fault (front_of bytes) → goes_on (Going fs []) bytes ≡ total → FailsAs Failed fault total
refused fs bytes Length total e so_far = sym so_far ∙ by_front fs bytes ∙ ap (after fs bytes) e
refused fs bytes Kind total e so_far = sym so_far ∙ by_front fs bytes ∙ ap (after fs bytes) e
refused fs bytes Payload total e so_far = sym so_far ∙ by_front fs bytes ∙ ap (after fs bytes) e
refused fs bytes Memory total e so_far = tt

pub one_frame : (fs : List Frame) (bytes : List ℕ) (f : Frame) (n : ℕ) (total : Stream) → front_of bytes ≡ Whole f n → goes_on (Going fs []) bytes ≡ total → goes_on (Going (fs ++ f ∷ []) []) (drop n bytes) ≡ total
one_frame fs bytes f n total e so_far = sym (by_front fs bytes ∙ ap (after fs bytes) e) ∙ so_far

pub no_frame : (fs : List Frame) (bytes : List ℕ) (total : Stream) → front_of bytes ≡ More → goes_on (Going fs []) bytes ≡ total → total ≡ Going fs bytes
no_frame fs bytes total e so_far = sym so_far ∙ by_front fs bytes ∙ ap (after fs bytes) e

-- what was returned of the front

pub some_front : (o : Option (Frame × ℕ)) (x : Frame × ℕ) (bytes : List ℕ) (at : ℕ) → o ≡ Some x → GivesFront (Ok o) (front_of (take (length bytes - at) (drop at bytes))) → front_of (drop at bytes) ≡ Whole x.0 x.1
some_front None x bytes at is gives = absurd cc
some_front (Some y) x bytes at is gives =
    let e : y ≡ x = cc in
    ap front_of (sym (take_rest bytes at)) ∙ gives ∙ ap (λ (z : Frame × ℕ). Whole z.0 z.1) e

pub no_front : (o : Option (Frame × ℕ)) (bytes : List ℕ) (at : ℕ) → o ≡ None → GivesFront (Ok o) (front_of (take (length bytes - at) (drop at bytes))) → front_of (drop at bytes) ≡ More
no_front None bytes at is gives = ap front_of (sym (take_rest bytes at)) ∙ gives
no_front (Some y) bytes at is gives = absurd cc

pub bad_front : (fault : WireFault) (bytes : List ℕ) (at : ℕ) → FailsAs Bad fault (front_of (take (length bytes - at) (drop at bytes))) → FailsAs Bad fault (front_of (drop at bytes))
bad_front fault bytes at e = subst (λ (bs : List ℕ). FailsAs Bad fault (front_of bs)) (take_rest bytes at) e

some_is : (y x : Frame × ℕ) → Some y ≡ Some x → y ≡ x
some_is y x e = cc

pub some_within : (o : Option (Frame × ℕ)) (x : Frame × ℕ) (n : ℕ) → o ≡ Some x → IfSome o (λ y. (13 ≤ y.1) × (y.1 ≤ n)) → (13 ≤ x.1) × (x.1 ≤ n)
some_within None x n is h = absurd cc
some_within (Some y) x n is h = subst (λ (z : Frame × ℕ). (13 ≤ z.1) × (z.1 ≤ n)) (some_is y x is) h

-- ---- frames that came before

abbrev pub prepended : List Frame → Stream → Stream
prepended gs (Failed fault) = Failed fault
prepended gs (Going fs r) = Going (gs ++ fs) r

choose_prepended : (a b c : Bool) (gs fs : List Frame) (o : Option Frame) (r : List ℕ)
    → cond a (Failed Length) (cond b (Failed Kind) (cond c (closed (gs ++ fs) o) (Going (gs ++ fs) r))) ≡ prepended gs (cond a (Failed Length) (cond b (Failed Kind) (cond c (closed fs o) (Going fs r))))
choose_prepended true b c gs fs o r = refl
choose_prepended false true c gs fs o r = refl
choose_prepended false false true gs fs None r = refl
choose_prepended false false true gs fs (Some f) r = ap (λ (x : List Frame). Going x []) (append_assoc gs fs (f ∷ []))
choose_prepended false false false gs fs o r = refl

settled_prepended : (gs fs : List Frame) (r : List ℕ) → settled (gs ++ fs) r ≡ prepended gs (settled fs r)
unfolding settled
settled_prepended gs fs r = choose_prepended (eqb (length r) 4 && not (is_length (told_length r))) (eqb (length r) 13 && not (is_kind (get_or r 12 0))) (eqb (length r) (4 + told_length r)) gs fs (frame_at r) r

pub goes_on_prepended : (gs : List Frame) (s : Stream) (bs : List ℕ) → goes_on (prepended gs s) bs ≡ prepended gs (goes_on s bs)
unfolding goes_on
goes_on_prepended gs s [] = refl
goes_on_prepended gs (Failed fault) (b ∷ bs) = refl
goes_on_prepended gs (Going fs r) (b ∷ bs) = ap (λ (s : Stream). goes_on s bs) (settled_prepended gs fs (r ++ b ∷ [])) ∙ goes_on_prepended gs (settled fs (r ++ b ∷ [])) bs

-- ---- a piece

unfinished_stream : (bytes : List ℕ) → IsUnfinished bytes → stream_of bytes ≡ Going [] bytes
unfinished_stream bytes h = by_front [] bytes ∙ ap (after [] bytes) h

pub fed_is : (ready : List Frame) (under_way piece : List ℕ) → IsUnfinished under_way → goes_on (Going ready under_way) piece ≡ prepended ready (stream_of (under_way ++ piece))
fed_is ready under_way piece h =
    let one : stream_of (under_way ++ piece) ≡ goes_on (Going [] under_way) piece = goes_on-append (Going [] []) under_way piece ∙ ap (λ (s : Stream). goes_on s piece) (unfinished_stream under_way h) in
    let two : goes_on (Going (ready ++ []) under_way) piece ≡ prepended ready (goes_on (Going [] under_way) piece) = goes_on_prepended ready (Going [] under_way) piece in
    ap (λ (x : List Frame). goes_on (Going x under_way) piece) (sym (append-nil ready)) ∙ two ∙ ap (prepended ready) (sym one)

pub fed_fails : (ready : List Frame) (s t : Stream) (fault : WireFault) → t ≡ prepended ready s → FailsAs Failed fault s → FailsAs Failed fault t
fed_fails ready s t Length e h = e ∙ ap (prepended ready) h
fed_fails ready s t Kind e h = e ∙ ap (prepended ready) h
fed_fails ready s t Payload e h = e ∙ ap (prepended ready) h
fed_fails ready s t Memory e h = tt

-- ---- what is missing

not_whole : (o : Option Frame) (n : ℕ) → whole o n ≡ More → ⊥
not_whole None n e = absurd cc
not_whole (Some f) n e = absurd cc

by_all : {a b c d e : Bool} (o : Option Frame) (n : ℕ) → a ≡ false → b ≡ false → c ≡ false → d ≡ false → e ≡ false → cond a More (cond b (Bad Length) (cond c More (cond d (Bad Kind) (cond e More (whole o n))))) ≡ More → whole o n ≡ More
by_all o n a b c d e h = cc

bad_kind : {a b c d : Bool} (x : Front) → a ≡ false → b ≡ false → c ≡ false → d ≡ true → cond a More (cond b (Bad Length) (cond c More (cond d (Bad Kind) x))) ≡ More → ⊥
bad_kind x a b c d h = absurd cc

bad_length : {a b : Bool} (x : Front) → a ≡ false → b ≡ true → cond a More (cond b (Bad Length) x) ≡ More → ⊥
bad_length x a b h = absurd cc

pub lacks : (bytes : List ℕ) → IsUnfinished bytes → 4 ≤ length bytes → length bytes < 4 + told_length bytes
unfolding front_of
lacks bytes h le = elim (cases_lt (length bytes) (4 + told_length bytes)) [
  | inl lt ↦ lt
  | inr ge ↦ absurd (elim (cases_Bool (is_length (told_length bytes))) [
    | inl told ↦ elim (cases_Bool (is_kind (get_or bytes 12 0))) [
      | inl kind ↦ not_whole (frame_at (take (4 + told_length bytes) bytes)) (4 + told_length bytes) (by_all (frame_at (take (4 + told_length bytes) bytes)) (4 + told_length bytes) (le-ltb _ _ le) (ap not told) (le-ltb (length bytes) 13 (omega (arith, told_least (told_length bytes) told, ge))) (ap not kind) (le-ltb _ _ ge) h)
      | inr other ↦ bad_kind _ (le-ltb _ _ le) (ap not told) (le-ltb (length bytes) 13 (omega (arith, told_least (told_length bytes) told, ge))) (ap not other) h
    ]
    | inr short ↦ bad_length _ (le-ltb _ _ le) (ap not short) h
  ])
]

-- ---- how long a frame under way may be

unfinished_told : (bytes : List ℕ) → IsUnfinished bytes → 4 ≤ length bytes → is_length (told_length bytes) ≡ true
unfolding front_of
unfinished_told bytes h le = elim (cases_Bool (is_length (told_length bytes))) [
  | inl told ↦ told
  | inr short ↦ absurd (bad_length _ (le-ltb _ _ le) (ap not short) h)
]

told_most : (n : ℕ) → is_length n ≡ true → n ≤ 134217728
told_most n e = leb-true n 134217728 (and_parts _ _ e).1

unfinished_short : (bytes : List ℕ) → IsUnfinished bytes → length bytes < 134217732
unfinished_short bytes h = elim (cases_lt (length bytes) 4) [
  | inl lt ↦ omega (arith, lt)
  | inr ge ↦ omega (arith, lacks bytes h ge, told_most (told_length bytes) (unfinished_told bytes h ge))
]

frames_stay : (f : Frame) (s : Stream) (tail : List ℕ) → prepended (f ∷ []) s ≡ Going [] tail → ⊥
frames_stay f (Failed fault) tail e = absurd cc
frames_stay f (Going fs r) tail e = absurd cc

no_frame_front : (bytes tail : List ℕ) (front : Front) → front_of bytes ≡ front → after [] bytes front ≡ Going [] tail → IsUnfinished bytes
no_frame_front bytes tail More is e = is
no_frame_front bytes tail (Bad fault) is e = absurd cc
no_frame_front bytes tail (Whole f n) is e =
    absurd (frames_stay f (goes_on (Going [] []) (drop n bytes)) tail (sym (goes_on_prepended (f ∷ []) (Going [] []) (drop n bytes)) ∙ e))

-- bytes without a whole frame or a fault
pub no_frame_short : (bytes tail : List ℕ) → stream_of bytes ≡ Going [] tail → length bytes < 134217732
no_frame_short bytes tail e =
    unfinished_short bytes (no_frame_front bytes tail (front_of bytes) refl (sym (by_front [] bytes) ∙ e))

-- ---- a piece that the frame under way lacks

whole_sizes : (a b c d e : Bool) (o : Option Frame) (m n : ℕ) (f : Frame) → cond a More (cond b (Bad Length) (cond c More (cond d (Bad Kind) (cond e More (whole o m))))) ≡ Whole f n → (c ≡ false) × (m ≡ n)
whole_sizes true b c d e o m n f h = absurd cc
whole_sizes false true c d e o m n f h = absurd cc
whole_sizes false false true d e o m n f h = absurd cc
whole_sizes false false false true e o m n f h = absurd cc
whole_sizes false false false false true o m n f h = absurd cc
whole_sizes false false false false false None m n f h = absurd cc
whole_sizes false false false false false (Some g) m n f h = (refl, cc)

pub whole_front : (bytes : List ℕ) (f : Frame) (n : ℕ) → front_of bytes ≡ Whole f n → (13 ≤ length bytes) × (4 + told_length bytes ≡ n)
unfolding front_of
whole_front bytes f n e =
    let s = whole_sizes (ltb (length bytes) 4) (not (is_length (told_length bytes))) (ltb (length bytes) 13) (not (is_kind (get_or bytes 12 0))) (ltb (length bytes) (4 + told_length bytes)) (frame_at (take (4 + told_length bytes) bytes)) (4 + told_length bytes) n f e in
    (ltb-false (length bytes) 13 s.0, s.1)

missing_short : (bytes : List ℕ) → length bytes < 4 → missing_of bytes ≡ 4 - length bytes
unfolding missing_of
missing_short bytes lt = rw (lt-ltb _ _ lt) refl

missing_long : (bytes : List ℕ) → 4 ≤ length bytes → missing_of bytes ≡ 4 + told_length bytes - length bytes
unfolding missing_of
missing_long bytes le = rw (le-ltb _ _ le) refl

-- such a piece doesn't pass the end of a whole frame
few_bytes : (under_way piece : List ℕ) (n : ℕ) → IsUnfinished under_way → length piece ≤ missing_of under_way → 13 ≤ length (under_way ++ piece) → 4 + told_length (under_way ++ piece) ≡ n → length (under_way ++ piece) ≤ n
few_bytes under_way piece n unfinished le long size = elim (cases_lt (length under_way) 4) [
  | inl lt ↦ absurd (omega (arith, length-append under_way piece, missing_short under_way lt, le, long, lt))
  | inr ge ↦
      let front : take (length under_way) (under_way ++ piece) ≡ under_way = take_at under_way piece (length under_way) refl in
      let told : told_length under_way ≡ told_length (under_way ++ piece) = ap told_length (sym front) ∙ told_front (under_way ++ piece) (length under_way) ge in
      omega (arith, length-append under_way piece, missing_long under_way ge, le, told, size, lacks under_way unfinished ge)
]

pub parts_of : {fs gs : List Frame} {r t : List ℕ} → Going fs r ≡ Going gs t → (fs ≡ gs) × (r ≡ t)
parts_of e = (cc, cc)

feeding_is : {gs : List Frame} (f : Feeding) → (gs ≡ f.ready) × ([] ≡ f.under_way) → f ≡ record { ready = gs; under_way = [] }
feeding_is f p = rw (p.0, p.1) refl

by_one_front : (under_way piece : List ℕ) (after_it : Feeding) (front : Front) → IsUnfinished under_way → length piece ≤ missing_of under_way → front_of (under_way ++ piece) ≡ front → after [] (under_way ++ piece) front ≡ as_stream after_it → HasOne after_it
unfolding goes_on
by_one_front under_way piece after_it More unfinished le is e = inl (sym (parts_of e).0)
by_one_front under_way piece after_it (Bad fault) unfinished le is e = absurd cc
by_one_front under_way piece after_it (Whole f n) unfinished le is e =
    let size = whole_front (under_way ++ piece) f n is in
    let none : drop n (under_way ++ piece) ≡ [] = drop_all n (under_way ++ piece) (few_bytes under_way piece n unfinished le size.0 size.1) in
    let p = parts_of (sym (ap (λ (bs : List ℕ). goes_on (Going (f ∷ []) []) bs) none) ∙ e) in
    inr (f, feeding_is after_it p)

pub few_frames : (ready : List Frame) (under_way piece : List ℕ) (after_it : Feeding) → ready ≡ [] → IsUnfinished under_way → length piece ≤ missing_of under_way
    → goes_on (Going ready under_way) piece ≡ as_stream after_it → HasOne after_it
few_frames ready under_way piece after_it none unfinished le e =
    let start : goes_on (Going [] under_way) piece ≡ as_stream after_it = ap (λ (fs : List Frame). goes_on (Going fs under_way) piece) (sym none) ∙ e in
    let one : stream_of (under_way ++ piece) ≡ goes_on (Going [] under_way) piece = goes_on-append (Going [] []) under_way piece ∙ ap (λ (s : Stream). goes_on s piece) (unfinished_stream under_way unfinished) in
    by_one_front under_way piece after_it (front_of (under_way ++ piece)) unfinished le refl (sym (by_front [] (under_way ++ piece)) ∙ one ∙ start)

pub few_fed : (view before : Feeding) (piece : List ℕ) (after_it : Feeding) → view ≡ before → IsUnfinished view.under_way → before.ready ≡ [] → length piece ≤ missing_of before.under_way
    → fed before piece ≡ as_stream after_it → HasOne after_it
few_fed view before piece after_it same unfinished none le e = few_frames before.ready before.under_way piece after_it none (subst (λ (f : Feeding). IsUnfinished f.under_way) same unfinished) le e

-- frames behind frames
pub frames_join : (fs : List Frame) (xs ys : List ℕ) (gs : List Frame) → stream_of xs ≡ Going fs [] → stream_of ys ≡ Going gs [] → stream_of (xs ++ ys) ≡ Going (fs ++ gs) []
frames_join fs xs ys gs first second =
    let joined : stream_of (xs ++ ys) ≡ goes_on (Going fs []) ys = goes_on-append (Going [] []) xs ys ∙ ap (λ (s : Stream). goes_on s ys) first in
    joined ∙ ap (λ (x : List Frame). goes_on (Going x []) ys) (sym (append-nil fs)) ∙ goes_on_prepended fs (Going [] []) ys ∙ ap (prepended fs) second
