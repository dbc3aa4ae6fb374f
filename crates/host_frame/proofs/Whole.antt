-- What is read is spelled so, and what is spelled so is read: frames.
use Rattle.std.proofs.Common.{◌≡◌, ℕ, ◌+◌, ◌%◌, ◌^◌, ◌<◌, ◌≤◌, List, [], ◌∷◌, ◌++◌, length, get_or, take, drop, Option, Some, refl, sym, ap, subst, ◌∙◌, append_assoc, arith, inl, inr}
use Rattle.std.proofs.lemmas.List.{drop_at, drop-drop, drop_more, get_or-drop, length-append, length-drop, take-append-drop}
use Rattle.byteorder.specs.Endian.{big_number}
use Rattle.byteorder.specs.Numbers.{big_from-lt, big_number-reads_back, length-bytes_high_first}
use Rattle.lx_abi.specs.declared.ptrace.Ask.TheVariants.{Seize, SetOptions, GetRegs, SetRegs, Peek, Syscall, EventMsg, SigInfo, Listen}
use Rattle.lx_abi.specs.declared.ptrace.Request.TheVariants.{Boot as Boot_with, Wait, To, Outcome as Ask_outcome}
use Rattle.lx_abi.specs.declared.ptrace.Reply.TheVariants.{Done, Status as Status_is, Registers as Registers_are, Bytes as Bytes_are, Message as Message_is, Info as Info_is, Outcome as Outcome_is, Errno as Errno_is, OutOfTurns, Refused}
use Rattle.host_values.specs.Reading.{◌>>=◌}
use Rattle.host_values.specs.Spelling.{byte, word, double}
use Rattle.host_values.proofs.Forms.{IsBytes, IsBytes-drop, back4, back8, bind_some, some_is}
use Rattle.host_frame.specs.declared.frame.Payload.{Payload}
use Rattle.host_frame.specs.declared.frame.Payload.TheVariants.{Request as Of_request, Reply as Of_reply}
use Rattle.host_frame.specs.declared.frame.Frame.{Frame}
use Rattle.host_frame.specs.Reading.{body_at, frame_at, told_length}
use Rattle.host_frame.specs.Spelling.{message, boot_without_limits, numbered, framed, content, spelled, Spells, FitsFrame}
use Rattle.host_frame.proofs.Messages.{body_takes, body_again}

abbrev frame_is : ℕ → Payload → Frame
frame_is number body = record { number = number; body = body }

-- a kind is one byte
kind_byte : (b : Payload) → byte (message b).0 ≡ (message b).0 ∷ []
kind_byte (Of_request (Boot_with b limit words)) = refl
kind_byte (Of_request Wait) = refl
kind_byte (Of_request Ask_outcome) = refl
kind_byte (Of_request (To pid (Seize options))) = refl
kind_byte (Of_request (To pid (SetOptions options))) = refl
kind_byte (Of_request (To pid GetRegs)) = refl
kind_byte (Of_request (To pid (SetRegs rs))) = refl
kind_byte (Of_request (To pid (Peek address count))) = refl
kind_byte (Of_request (To pid (Syscall signal))) = refl
kind_byte (Of_request (To pid EventMsg)) = refl
kind_byte (Of_request (To pid SigInfo)) = refl
kind_byte (Of_request (To pid Listen)) = refl
kind_byte (Of_reply Done) = refl
kind_byte (Of_reply (Status_is pid status)) = refl
kind_byte (Of_reply (Registers_are rs)) = refl
kind_byte (Of_reply (Bytes_are bytes)) = refl
kind_byte (Of_reply (Message_is pid)) = refl
kind_byte (Of_reply (Info_is i)) = refl
kind_byte (Of_reply (Outcome_is o)) = refl
kind_byte (Of_reply (Errno_is number)) = refl
kind_byte (Of_reply OutOfTurns) = refl
kind_byte (Of_reply (Refused fault)) = refl

-- a frame's spelling is read as its number, and what is read of its body
pub frame_by : (f : Frame) → f.number < 256 ^ 8 → (o : Option Payload) → body_at (message f.body).0 (message f.body).1 ≡ o → frame_at (spelled f) ≡ (o >>= λ y. Some (frame_is f.number y))
unfolding frame_at spelled
frame_by f small o is =
    let w : List ℕ = word (length (content f)) in
    let d : List ℕ = double f.number in
    let k : ℕ = (message f.body).0 in
    let b : List ℕ = byte k in
    let m : List ℕ = (message f.body).1 in
    let all : List ℕ = w ++ ((d ++ b) ++ m) in
    let w-long : length w ≡ 4 = length-bytes_high_first 4 (length (content f)) in
    let d-long : length d ≡ 8 = length-bytes_high_first 8 f.number in
    let b-long : length b ≡ 1 = length-bytes_high_first 1 k in
    let behind_length : drop 4 all ≡ (d ++ b) ++ m = drop_at w ((d ++ b) ++ m) 4 w-long in
    let number : big_number 8 (drop 4 all) ≡ f.number = ap (big_number 8) (behind_length ∙ append_assoc d b m) ∙ big_number-reads_back 8 f.number (b ++ m) small in
    let at_kind : all ≡ (w ++ d) ++ (b ++ m) = ap (λ (x : List ℕ). w ++ x) (append_assoc d b m) ∙ sym (append_assoc w d (b ++ m)) in
    let from_kind : drop 12 all ≡ b ++ m = ap (drop 12) at_kind ∙ drop_at (w ++ d) (b ++ m) 12 (omega (arith, length-append w d, w-long, d-long)) in
    let kind : get_or all 12 0 ≡ k = sym (get_or-drop 12 all 0 0) ∙ ap (λ (x : List ℕ). get_or x 0 0) (from_kind ∙ ap (λ (x : List ℕ). x ++ m) (kind_byte f.body)) in
    let rest : drop 13 all ≡ m = ap (drop 13) (sym (append_assoc w (d ++ b) m)) ∙ drop_at (w ++ (d ++ b)) m 13 (omega (arith, length-append w (d ++ b), length-append d b, w-long, d-long, b-long)) in
    let body : body_at (get_or all 12 0) (drop 13 all) ≡ o = ap (λ (x : ℕ). body_at x (drop 13 all)) kind ∙ ap (body_at k) rest ∙ is in
    ap (λ (o : Option Payload). o >>= λ y. Some (frame_is (big_number 8 (drop 4 all)) y)) body ∙ ap (λ (n : ℕ). o >>= λ y. Some (frame_is n y)) number

pub frame_again : (f : Frame) → FitsFrame f → frame_at (spelled f) ≡ Some f
frame_again f fits = frame_by f fits.0 (Some f.body) (body_again f.body fits.1)

byte_is : (n : ℕ) → n < 256 → byte n ≡ n ∷ []
byte_is n lt = let e : n % 256 ≡ n = omega (arith, lt) in ap (λ (x : ℕ). x ∷ []) e

-- bytes with this number, kind and body are the frame of these
framed_is : (bytes : List ℕ) (m : ℕ × List ℕ) → IsBytes bytes → 13 ≤ length bytes → length bytes ≡ 4 + told_length bytes → m.0 ≡ get_or bytes 12 0 → drop 13 bytes ≡ m.1 → framed (big_number 8 (drop 4 bytes)) m ≡ bytes
framed_is bytes m all long size kind_is body_is =
    let n : ℕ = big_number 8 (drop 4 bytes) in
    let k : ℕ = get_or bytes 12 0 in
    let front : double n ≡ take 8 (drop 4 bytes) = back8 (drop 4 bytes) (omega (arith, length-drop 4 bytes, long)) (IsBytes-drop 4 bytes all) in
    let kind : byte m.0 ≡ k ∷ [] = ap byte kind_is ∙ byte_is k (all 12) in
    let behind : drop 8 (drop 4 bytes) ≡ k ∷ drop 13 bytes = drop-drop 8 4 bytes ∙ drop_more bytes 12 0 (omega (arith, long)) in
    let inside : numbered n m ≡ drop 4 bytes =
    ap (λ (x : List ℕ). (x ++ byte m.0) ++ m.1) front ∙ ap (λ (x : List ℕ). (take 8 (drop 4 bytes) ++ x) ++ m.1) kind ∙ ap (λ (x : List ℕ). (take 8 (drop 4 bytes) ++ k ∷ []) ++ x) (sym body_is)
    ∙ append_assoc (take 8 (drop 4 bytes)) (k ∷ []) (drop 13 bytes) ∙ ap (λ (x : List ℕ). take 8 (drop 4 bytes) ++ x) (sym behind) ∙ take-append-drop 8 (drop 4 bytes) in
    let told : length (numbered n m) ≡ told_length bytes = omega (arith, ap length inside, length-drop 4 bytes, size) in
    let head : word (length (numbered n m)) ≡ take 4 bytes = ap word told ∙ back4 bytes (omega (arith, long)) all in
    ap (λ (x : List ℕ). x ++ numbered n m) head ∙ ap (λ (x : List ℕ). take 4 bytes ++ x) inside ∙ take-append-drop 4 bytes

pub frame_takes : (bytes : List ℕ) (f : Frame) → IsBytes bytes → 13 ≤ length bytes → length bytes ≡ 4 + told_length bytes → frame_at bytes ≡ Some f → Spells bytes f × FitsFrame f
unfolding frame_at spelled
frame_takes bytes f all long size e =
    let n : ℕ = big_number 8 (drop 4 bytes) in
    let k : ℕ = get_or bytes 12 0 in
    let s = bind_some (body_at k (drop 13 bytes)) (λ y. Some (frame_is n y)) f e in
    let y : Payload = s.0 in
    let t = body_takes k (drop 13 bytes) y (IsBytes-drop 13 bytes all) s.1 in
    let is : frame_is n y ≡ f = some_is (frame_is n y) f s.2 in
    let spells : Spells bytes (frame_is n y) = elim t.1.0 [
      | inl same ↦ inl (sym (framed_is bytes (message y) all long size t.0 same))
      | inr u ↦
          let one : 1 ≡ k = sym (ap (λ (b : Payload). (message b).0) u.3) ∙ t.0 in
          inr (record { booted = u.0; limit = u.1; words = u.2; is = u.3; unsaid = u.4; spelling = sym (framed_is bytes (0x01, boot_without_limits u.0 u.1 u.2) all long size one u.5) })
    ] in
    subst (λ (g : Frame). Spells bytes g × FitsFrame g) is (spells, (big_from-lt 0 8 (drop 4 bytes) (IsBytes-drop 4 bytes all), t.1.1))
