-- The frame that is due next: a request of the next number.
use Rattle.std.specs.Prelude.{◌≡◌, ◌⊎◌, ℕ, ◌==◌, if◌then◌else◌, List, [], ◌∷◌, Option, Some, None, Result, Ok, Err}
use Rattle.std.specs.Io.KnownBytes.{IsAtEnd}
use Rattle.lx_abi.specs.declared.ptrace.Request.{Request}
use Rattle.host_frame.specs.declared.frame.Payload.{Payload as Message}
use Rattle.host_frame.specs.declared.frame.Payload.TheVariants.{Request as Of_request, Reply as Of_reply}
use Rattle.host_frame.specs.declared.frame.Frame.{Frame}
use Rattle.host_frame.specs.declared.fault.WireFault.TheVariants.{Length, Kind, Payload, Memory}
use Rattle.host_wire.specs.Ends.{Input}
use Rattle.host_wire.specs.Receiving.{IsCutOff, Receiving}
use Rattle.host_wire.specs.declared.receiving.ReceiveFault.{ReceiveFault}
use Rattle.host_wire.specs.declared.receiving.ReceiveFault.TheVariants as receiving
use Rattle.host_wire.specs.Streams.{Stream, Going, Failed as Failed_by, stream_of}
use Rattle.host_serve.specs.declared.fault.ServeFault.{ServeFault}
use Rattle.host_serve.specs.declared.fault.ServeFault.TheVariants.{Read, Write, Wire, Order, Failed}

abbrev pub request_frame : ℕ → Request → Frame
request_frame number request = record { number = number; body = Of_request request }

-- no request of this number
abbrev pub IsOther : Frame → ℕ → Type 0
IsOther f number = (q : Request) → f ≡ request_frame number q → ⊥

abbrev pub IsFaulty : Stream → Type 0
IsFaulty stream = (stream ≡ Failed_by Length) ⊎ ((stream ≡ Failed_by Kind) ⊎ (stream ≡ Failed_by Payload))

-- what came is the next request, the end of input within a frame or before it, or the cause of a fault
abbrev pub NextAs : ℕ → Result (Option Request) ServeFault → ℕ → List ℕ → Stream → Input → Type 0
NextAs most (Ok (Some q)) number reads stream b = stream ≡ Going (request_frame number q ∷ []) []
NextAs most (Ok None) number reads stream b = (tail : List ℕ) × ((stream ≡ Going [] tail) × IsAtEnd b.remaining)
NextAs most (Err Read) number reads stream b = (tail : List ℕ) × ((stream ≡ Going [] tail) × IsCutOff most reads b)
NextAs most (Err Wire) number reads stream b = IsFaulty stream
NextAs most (Err Order) number reads stream b = (f : Frame) × ((stream ≡ Going (f ∷ []) []) × IsOther f number)
NextAs most (Err Write) number reads stream b = ⊥
NextAs most (Err Failed) number reads stream b = Unit {0}

pub record Next (most : ℕ) (a : Input) (result : Result (Option Request) ServeFault) (number : ℕ) (b : Input) :
    Type 0 where
  pub came : List ℕ
  pub received : Receiving most a b came
  pub so : NextAs most result number received.reads (stream_of came) b

-- the cause of a fault, as serving tells it
abbrev pub fault_of : ReceiveFault → ServeFault
fault_of receiving.Read = Read
fault_of (receiving.Wire Memory) = Failed
fault_of (receiving.Wire Length) = Wire
fault_of (receiving.Wire Kind) = Wire
fault_of (receiving.Wire Payload) = Wire

abbrev pub request_of : Message → Option Request
request_of (Of_request q) = Some q
request_of (Of_reply r) = None

abbrev pub request_in : ℕ → Frame → Option Request
request_in number f = if f.number == number then request_of f.body else None
