-- A link over a reader and a writer: a request is a frame that is written, its reply the next frame that is read.
use Rattle.std.specs.Prelude.{◌≡◌, ◌⊎◌, ℕ, ◌+◌, ◌<◌, ◌==◌, if◌then◌else◌, Bool, true, false, List, [], ◌∷◌, ◌++◌}
use Rattle.std.specs.Prelude.{length, Option, Result, Ok, Err, ⊤}
use Rattle.std.specs.Io.KnownBytes.{Appends, IsAtEnd}
use Rattle.lx_abi.specs.declared.ptrace.Reply.{Reply}
use Rattle.lx_abi.specs.declared.ptrace.Request.{Request}
use Rattle.lx_abi.specs.declared.ptrace.Request.TheVariants.{Boot, Wait, To, Outcome}
use Rattle.pt_model.specs.Admissible.{answers}
use Rattle.host_frame.specs.declared.frame.Payload.{Payload}
use Rattle.host_frame.specs.declared.frame.Payload.TheVariants.{Request as Of_request, Reply as Of_reply}
use Rattle.host_frame.specs.declared.frame.Frame.{Frame}
use Rattle.host_frame.specs.declared.fault.WireFault.TheVariants.{Length, Kind, Payload as Body_fault, Memory as No_memory}
use Rattle.host_wire.specs.declared.receiving.ReceiveFault.{ReceiveFault}
use Rattle.host_wire.specs.declared.receiving.ReceiveFault.TheVariants as receiving
use Rattle.host_wire.specs.Ends.{AppendsPart, Input, IsPut}
use Rattle.host_wire.specs.Receiving.{IsCutOff, Receiving}
use Rattle.host_frame.specs.Spelling.{CanBeSpelled, content, spelled}
use Rattle.host_wire.specs.Streams.{Stream, Going, Failed, stream_of}
use Rattle.host_link.specs.declared.fault.LinkFault.{LinkFault}
use Rattle.host_link.specs.declared.fault.LinkFault.TheVariants.{Ended, Read, Write, Malformed, Sequence, Inadmissible, Memory, TooMany}

abbrev pub request_frame : ℕ → Request → Frame
request_frame number request = record { number = number; body = Of_request request }

-- ---- a frame that is sent

abbrev pub is_wait : Request → Bool
is_wait Wait = true
is_wait (Boot boot limit words) = false
is_wait (To pid ask) = false
is_wait Outcome = false

-- Wait behind this request
abbrev pub wait_behind : Frame → Frame
wait_behind f = request_frame (f.number + 1) Wait

-- what goes out for a request: its frame, and that of Wait behind it where it goes ahead
abbrev pub bytes_of : Frame → Bool → List ℕ
bytes_of f false = spelled f
bytes_of f true = spelled f ++ spelled (wait_behind f)

abbrev pub CanBeSent : Frame → Bool → Type 0
CanBeSent f false = CanBeSpelled f
CanBeSent f true = CanBeSpelled f × CanBeSpelled (wait_behind f)

-- it can be spelled, and its bytes are written by one put
abbrev pub IsSent : Frame → Bool → Option (List ℕ) → Option (List ℕ) → List ℕ → List ℕ → Type 0
IsSent f ahead old new puts puts' =
    Appends old new (bytes_of f ahead) × (IsPut puts puts' (bytes_of f ahead) × CanBeSent f ahead)

-- so they are, by one put too that may fail within them; or nothing is written, and none is made
abbrev pub SentAs : Result ⊤ LinkFault → Frame → Bool → Option (List ℕ) → Option (List ℕ) → List ℕ → List ℕ → ℕ
    → Type 0
SentAs (Ok u) f ahead old new puts puts' broken = IsSent f ahead old new puts puts'
SentAs (Err Write) f ahead old new puts puts' broken =
    AppendsPart old new (bytes_of f ahead) × (IsPut puts puts' (bytes_of f ahead) × (broken ≡ 1))
SentAs (Err Malformed) f ahead old new puts puts' broken =
    (new ≡ old) × ((puts' ≡ puts) × (134217728 < length (content f)))
SentAs (Err Memory) f ahead old new puts puts' broken = (new ≡ old) × (puts' ≡ puts)
SentAs (Err Ended) f ahead old new puts puts' broken = ⊥
SentAs (Err Read) f ahead old new puts puts' broken = ⊥
SentAs (Err Sequence) f ahead old new puts puts' broken = ⊥
SentAs (Err Inadmissible) f ahead old new puts puts' broken = ⊥
SentAs (Err TooMany) f ahead old new puts puts' broken = ⊥

-- ---- the next frame

-- a reply of a kind that answers the request
abbrev pub is_answer : Payload → Payload → Bool
is_answer (Of_request q) (Of_reply r) = answers q r
is_answer (Of_request q) (Of_request p) = false
is_answer (Of_reply s) b = false

-- the reply in a frame, to the request in another: of its number, and of a kind that answers it
abbrev pub reply_of : Payload → Payload → Result Reply LinkFault
reply_of (Of_request q) (Of_reply r) = if answers q r then Ok r else Err Inadmissible
reply_of (Of_request q) (Of_request p) = Err Inadmissible
reply_of (Of_reply s) b = Err Inadmissible

abbrev pub reply_in : Frame → Frame → Result Reply LinkFault
reply_in sent f = if f.number == sent.number then reply_of sent.body f.body else Err Sequence

abbrev pub IsFaulty : Stream → Type 0
IsFaulty stream = (stream ≡ Failed Length) ⊎ ((stream ≡ Failed Kind) ⊎ (stream ≡ Failed Body_fault))

-- one whole frame came, which the reply is in, or which is none
abbrev pub CameWhole : Frame → Stream → Result Reply LinkFault → Type 0
CameWhole sent stream result = (f : Frame) × ((stream ≡ Going (f ∷ []) []) × (reply_in sent f ≡ result))

-- the reader after, and how many bytes each of its reads gave
abbrev pub CameAs : ℕ → Result Reply LinkFault → Frame → List ℕ → Stream → Input → Type 0
CameAs most (Ok r) sent reads stream b = CameWhole sent stream (Ok r)
CameAs most (Err Ended) sent reads stream b = (tail : List ℕ) × ((stream ≡ Going [] tail) × IsAtEnd b.remaining)
CameAs most (Err Read) sent reads stream b = (tail : List ℕ) × ((stream ≡ Going [] tail) × IsCutOff most reads b)
CameAs most (Err Malformed) sent reads stream b = IsFaulty stream
CameAs most (Err Sequence) sent reads stream b = CameWhole sent stream (Err Sequence)
CameAs most (Err Inadmissible) sent reads stream b = CameWhole sent stream (Err Inadmissible)
CameAs most (Err Memory) sent reads stream b = Unit {0}
CameAs most (Err Write) sent reads stream b = ⊥
CameAs most (Err TooMany) sent reads stream b = ⊥

pub record Came (most : ℕ) (a : Input) (result : Result Reply LinkFault) (sent : Frame) (b : Input) : Type 0 where
  pub came : List ℕ
  pub received : Receiving most a b came
  pub so : CameAs most result sent received.reads (stream_of came) b

-- the cause of a fault, as a link tells it
abbrev pub fault_of : ReceiveFault → LinkFault
fault_of receiving.Read = Read
fault_of (receiving.Wire No_memory) = Memory
fault_of (receiving.Wire Length) = Malformed
fault_of (receiving.Wire Kind) = Malformed
fault_of (receiving.Wire Body_fault) = Malformed

-- ---- a request and its reply

-- nothing was read, as the request was not sent; or all of it was, and this came
abbrev pub Exchanged : ℕ → Frame → Bool → Input → Input → Option (List ℕ) → Option (List ℕ) → List ℕ → List ℕ
    → Result Reply LinkFault → ℕ → Type 0
Exchanged most sent ahead a b old new puts puts' result broken_writer =
    (IsSent sent ahead old new puts puts' × Came most a result sent b)
    ⊎ ((fault : LinkFault)
    × ((result ≡ Err fault) × (SentAs (Err fault) sent ahead old new puts puts' broken_writer × (b ≡ a))))
