-- Spelled frames in a stream.
use Rattle.std.proofs.Common.{◌≡◌, ℕ, ◌+◌, ◌<◌, ◌≤◌, Bool, true, false, cond, not, ltb, List, [], ◌∷◌, ◌++◌, length, take, drop, get_or, Option, Some, None, append_assoc, refl, sym, ap, subst, ◌∙◌, arith, inl, inr}
use Rattle.std.proofs.Math.Seq.{take-length, drop-length}
use Rattle.std.proofs.lemmas.Bool.{le-ltb, ltb-false, le-leb}
use Rattle.std.proofs.lemmas.List.{take_at, drop_at, get_or-drop, length-append, length-drop}
use Rattle.byteorder.specs.Endian.{big_number}
use Rattle.byteorder.specs.Numbers.{big_number-reads_back, length-bytes_high_first}
use Rattle.lx_abi.specs.declared.ptrace.Ask.TheVariants.{Seize, SetOptions, GetRegs, SetRegs, Peek, Syscall, EventMsg, SigInfo, Listen}
use Rattle.lx_abi.specs.declared.ptrace.Request.TheVariants.{Boot as Boot_with, Wait, To, Outcome as Ask_outcome}
use Rattle.lx_abi.specs.declared.ptrace.Reply.TheVariants.{Done, Status as Status_is, Registers as Registers_are, Bytes as Bytes_are, Message as Message_is, Info as Info_is, Outcome as Outcome_is, Errno as Errno_is, OutOfTurns, Refused}
use Rattle.host_values.specs.Spelling.{byte, word, double}
use Rattle.host_frame.specs.declared.frame.Payload.{Payload}
use Rattle.host_frame.specs.declared.frame.Payload.TheVariants.{Request as Of_request, Reply as Of_reply}
use Rattle.host_frame.specs.declared.frame.Frame.{Frame}
use Rattle.host_frame.specs.declared.fault.WireFault.{WireFault}
use Rattle.host_frame.specs.declared.fault.WireFault.TheVariants.{Length, Kind, Payload as Body_fault}
use Rattle.host_frame.specs.Reading.{frame_at, told_length}
use Rattle.host_frame.specs.Spelling.{message, content, spelled, CanBeSpelled, FitsFrame, HasOrder, IsShort, ReadsBack}
use Rattle.host_wire.specs.Streams.{is_length, is_kind, Stream, Going, Failed, goes_on, Front, More, Bad, Whole, whole, front_of, stream_of, AreFrames, spelled_all}
use Rattle.host_wire.proofs.Streams.{after, by_front, goes_on_prepended, prepended, parts_of, frames_join, told_front, whole_front}

kind_is : (b : Payload) → is_kind (message b).0 ≡ true
kind_is (Of_request (Boot_with b limit words)) = refl
kind_is (Of_request Wait) = refl
kind_is (Of_request Ask_outcome) = refl
kind_is (Of_request (To pid (Seize options))) = refl
kind_is (Of_request (To pid (SetOptions options))) = refl
kind_is (Of_request (To pid GetRegs)) = refl
kind_is (Of_request (To pid (SetRegs rs))) = refl
kind_is (Of_request (To pid (Peek address count))) = refl
kind_is (Of_request (To pid (Syscall signal))) = refl
kind_is (Of_request (To pid EventMsg)) = refl
kind_is (Of_request (To pid SigInfo)) = refl
kind_is (Of_request (To pid Listen)) = refl
kind_is (Of_reply Done) = refl
kind_is (Of_reply (Status_is pid status)) = refl
kind_is (Of_reply (Registers_are rs)) = refl
kind_is (Of_reply (Bytes_are bytes)) = refl
kind_is (Of_reply (Message_is pid)) = refl
kind_is (Of_reply (Info_is i)) = refl
kind_is (Of_reply (Outcome_is o)) = refl
kind_is (Of_reply (Errno_is number)) = refl
kind_is (Of_reply OutOfTurns) = refl
kind_is (Of_reply (Refused fault)) = refl

kind_byte : (b : Payload) → byte (message b).0 ≡ (message b).0 ∷ []
kind_byte (Of_request (Boot_with b limit words)) = refl
kind_byte (Of_request Wait) = refl
kind_byte (Of_request Ask_outcome) = refl
kind_byte (Of_request (To pid (Seize options))) = refl
kind_byte (Of_request (To pid (SetOptions options))) = refl
kind_byte (Of_request (To pid GetRegs)) = refl
kind_byte (Of_request (To pid (SetRegs rs))) = refl
kind_byte (Of_request (To pid (Peek address count))) = refl
kind_byte (Of_request (To pid (Syscall signal))) = refl
kind_byte (Of_request (To pid EventMsg)) = refl
kind_byte (Of_request (To pid SigInfo)) = refl
kind_byte (Of_request (To pid Listen)) = refl
kind_byte (Of_reply Done) = refl
kind_byte (Of_reply (Status_is pid status)) = refl
kind_byte (Of_reply (Registers_are rs)) = refl
kind_byte (Of_reply (Bytes_are bytes)) = refl
kind_byte (Of_reply (Message_is pid)) = refl
kind_byte (Of_reply (Info_is i)) = refl
kind_byte (Of_reply (Outcome_is o)) = refl
kind_byte (Of_reply (Errno_is number)) = refl
kind_byte (Of_reply OutOfTurns) = refl
kind_byte (Of_reply (Refused fault)) = refl

front_whole : (bytes : List ℕ) (o : Option Frame) → 13 ≤ length bytes → is_length (told_length bytes) ≡ true → is_kind (get_or bytes 12 0) ≡ true → length bytes ≡ 4 + told_length bytes → frame_at bytes ≡ o → front_of bytes ≡ whole o (length bytes)
unfolding front_of
front_whole bytes o long told kind size is =
    let a : ltb (length bytes) 4 ≡ false = le-ltb (length bytes) 4 (omega (arith, long)) in
    let c : ltb (length bytes) 13 ≡ false = le-ltb (length bytes) 13 long in
    let e : ltb (length bytes) (4 + told_length bytes) ≡ false = le-ltb (length bytes) (4 + told_length bytes) (omega (arith, size)) in
    let t : take (4 + told_length bytes) bytes ≡ bytes = ap (λ (n : ℕ). take n bytes) (sym size) ∙ take-length bytes in
    let w : whole (frame_at (take (4 + told_length bytes) bytes)) (4 + told_length bytes) ≡ whole o (length bytes) = rw (t, is) (ap (whole o) (sym size)) in
    rw (a, told, c, kind, e) w

-- sizes of a spelling
record Sizes (f : Frame) : Type 0 where
  told : told_length (spelled f) ≡ length (content f)
  whole : length (spelled f) ≡ 4 + length (content f)
  least : 9 ≤ length (content f)
  kind : get_or (spelled f) 12 0 ≡ (message f.body).0

sizes : (f : Frame) → IsShort f → Sizes f
unfolding spelled
sizes f short =
    let w : List ℕ = word (length (content f)) in
    let d : List ℕ = double f.number in
    let k : ℕ = (message f.body).0 in
    let b : List ℕ = byte k in
    let m : List ℕ = (message f.body).1 in
    let all : List ℕ = w ++ ((d ++ b) ++ m) in
    let w-long : length w ≡ 4 = length-bytes_high_first 4 (length (content f)) in
    let d-long : length d ≡ 8 = length-bytes_high_first 8 f.number in
    let b-long : length b ≡ 1 = length-bytes_high_first 1 k in
    let at_kind : all ≡ (w ++ d) ++ (b ++ m) = ap (λ (x : List ℕ). w ++ x) (append_assoc d b m) ∙ sym (append_assoc w d (b ++ m)) in
    let from_kind : drop 12 all ≡ b ++ m = ap (drop 12) at_kind ∙ drop_at (w ++ d) (b ++ m) 12 (omega (arith, length-append w d, w-long, d-long)) in
    let is_k : get_or all 12 0 ≡ k = sym (get_or-drop 12 all 0 0) ∙ ap (λ (x : List ℕ). get_or x 0 0) (from_kind ∙ ap (λ (x : List ℕ). x ++ m) (kind_byte f.body)) in
    record {
      told = big_number-reads_back 4 (length (content f)) (content f) (omega (arith, short));
      whole = omega (arith, length-append w (content f), w-long);
      least = omega (arith, length-append (d ++ b) m, length-append d b, d-long, b-long);
      kind = is_k;
    }

is_long : (n : ℕ) → 9 ≤ n → n ≤ 134217728 → is_length n ≡ true
is_long n low high = rw (le-leb 9 n low, le-leb n 134217728 high) refl

front_spelled : (f : Frame) (o : Option Frame) → IsShort f → frame_at (spelled f) ≡ o → front_of (spelled f) ≡ whole o (length (spelled f))
front_spelled f o short again =
    let s : Sizes f = sizes f short in
    front_whole (spelled f) o (omega (arith, s.whole, s.least)) (ap is_length s.told ∙ is_long (length (content f)) s.least short) (ap is_kind s.kind ∙ kind_is f.body) (omega (arith, s.whole, s.told)) again

abbrev pub SpelledIsRead : Type 0
SpelledIsRead = (f : Frame) → FitsFrame f → frame_at (spelled f) ≡ Some f

abbrev pub EncodedReadsBack : Type 0
EncodedReadsBack = (f : Frame) → CanBeSpelled f → ReadsBack f

one_read : (f : Frame) → IsShort f → frame_at (spelled f) ≡ Some f → stream_of (spelled f) ≡ Going (f ∷ []) []
unfolding goes_on
one_read f short again =
    let e : front_of (spelled f) ≡ Whole f (length (spelled f)) = front_spelled f (Some f) short again in
    by_front [] (spelled f) ∙ ap (after [] (spelled f)) e ∙ ap (λ (bs : List ℕ). goes_on (Going (f ∷ []) []) bs) (drop-length (spelled f))

pub frames_read : SpelledIsRead → (fs : List Frame) → AreFrames fs → stream_of (spelled_all fs) ≡ Going fs []
unfolding spelled_all goes_on
frames_read again [] fits = refl
frames_read again (f ∷ fs) fits = frames_join (f ∷ []) (spelled f) (spelled_all fs) fs (one_read f fits.1.0 (again f fits.0)) (frames_read again fs fits.1.1)

-- frames only come

cons_none : (f : Frame) (s : Stream) → prepended (f ∷ []) s ≡ Going [] [] → ⊥
cons_none f (Failed x) e = absurd cc
cons_none f (Going fs r) e = absurd cc

cons_one : (f g : Frame) (s : Stream) → prepended (f ∷ []) s ≡ Going (g ∷ []) [] → s ≡ Going [] []
cons_one f g (Failed x) e = absurd cc
cons_one f g (Going [] r) e = ap (Going []) (parts_of e).1
cons_one f g (Going (h ∷ fs) r) e = absurd cc

nothing_by : (xs : List ℕ) (front : Front) → after [] xs front ≡ Going [] [] → xs ≡ []
nothing_by xs More e = (parts_of e).1
nothing_by xs (Bad fault) e = absurd cc
nothing_by xs (Whole f n) e = absurd (cons_none f (stream_of (drop n xs)) (sym (goes_on_prepended (f ∷ []) (Going [] []) (drop n xs)) ∙ e))

nothing_from : (xs : List ℕ) → stream_of xs ≡ Going [] [] → xs ≡ []
nothing_from xs e = nothing_by xs (front_of xs) (sym (by_front [] xs) ∙ e)

-- bytes that are one frame are as long as it tells

record IsWholeFrame (came : List ℕ) : Type 0 where
  long : 13 ≤ length came
  size : length came ≡ 4 + told_length came

whole_fits : (a b c d e : Bool) (o : Option Frame) (m n : ℕ) (f : Frame) → cond a More (cond b (Bad Length) (cond c More (cond d (Bad Kind) (cond e More (whole o m))))) ≡ Whole f n → e ≡ false
whole_fits true b c d e o m n f h = absurd cc
whole_fits false true c d e o m n f h = absurd cc
whole_fits false false true d e o m n f h = absurd cc
whole_fits false false false true e o m n f h = absurd cc
whole_fits false false false false true o m n f h = absurd cc
whole_fits false false false false false o m n f h = refl

fits_front : (bytes : List ℕ) (f : Frame) (n : ℕ) → front_of bytes ≡ Whole f n → 4 + told_length bytes ≤ length bytes
unfolding front_of
fits_front bytes f n e = ltb-false (length bytes) (4 + told_length bytes) (whole_fits (ltb (length bytes) 4) (not (is_length (told_length bytes))) (ltb (length bytes) 13) (not (is_kind (get_or bytes 12 0))) (ltb (length bytes) (4 + told_length bytes)) (frame_at (take (4 + told_length bytes) bytes)) (4 + told_length bytes) n f e)

one_by : (came : List ℕ) (g : Frame) (front : Front) → front_of came ≡ front → after [] came front ≡ Going (g ∷ []) [] → IsWholeFrame came
one_by came g More is e = absurd cc
one_by came g (Bad fault) is e = absurd cc
one_by came g (Whole f n) is e =
    let none : drop n came ≡ [] = nothing_from (drop n came) (cons_one f g (stream_of (drop n came)) (sym (goes_on_prepended (f ∷ []) (Going [] []) (drop n came)) ∙ e)) in
    let size = whole_front came f n is in
    let left : length (drop n came) ≡ 0 = ap length none in
    record { long = size.0; size = omega (arith, left, length-drop n came, size.1, fits_front came f n is) }

one_frame : (came : List ℕ) (g : Frame) → stream_of came ≡ Going (g ∷ []) [] → IsWholeFrame came
one_frame came g e = one_by came g (front_of came) refl (sym (by_front [] came) ∙ e)

told_of : (xs ys : List ℕ) → 4 ≤ length xs → told_length xs ≡ told_length (xs ++ ys)
told_of xs ys le = ap told_length (sym (take_at xs ys (length xs) refl)) ∙ told_front (xs ++ ys) (length xs) le

none_read : (f : Frame) (g : Frame) → IsShort f → frame_at (spelled f) ≡ None → stream_of (spelled f) ≡ Going (g ∷ []) [] → ⊥
none_read f g short none e =
    let front : front_of (spelled f) ≡ Bad Body_fault = front_spelled f None short none in
    let fails : Failed Body_fault ≡ Going (g ∷ []) [] = sym (ap (after [] (spelled f)) front) ∙ sym (by_front [] (spelled f)) ∙ e in
    absurd cc

by_reading : (f g : Frame) → IsShort f → stream_of (spelled f) ≡ Going (g ∷ []) [] → ReadsBack f → HasOrder f.body × (g ≡ f)
by_reading f g short e (inl read) = let both : Going (g ∷ []) [] ≡ Going (f ∷ []) [] = sym e ∙ one_read f short read.1 in (read.0, cc)
by_reading f g short e (inr none) = absurd (none_read f g short none.1 e)

pub first_read : EncodedReadsBack → (f g : Frame) (came rest more : List ℕ) → CanBeSpelled f → came ++ rest ≡ spelled f ++ more → stream_of came ≡ Going (g ∷ []) [] → HasOrder f.body × ((came ≡ spelled f) × (g ≡ f))
first_read back f g came rest more can same e =
    let s : Sizes f = sizes f can.0 in
    let one : IsWholeFrame came = one_frame came g e in
    let told : told_length came ≡ length (content f) =
    told_of came rest (omega (arith, one.long)) ∙ ap told_length same ∙ sym (told_of (spelled f) more (omega (arith, s.whole))) ∙ s.told in
    let size : length came ≡ length (spelled f) = omega (arith, one.size, told, s.whole) in
    let is : came ≡ spelled f =
    sym (take_at came rest (length came) refl) ∙ ap (take (length came)) same ∙ ap (λ (n : ℕ). take n (spelled f ++ more)) size ∙ take_at (spelled f) more (length (spelled f)) refl in
    let read = by_reading f g can.0 (ap stream_of (sym is) ∙ e) (back f can) in
    (read.0, (is, read.1))
