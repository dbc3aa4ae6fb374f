-- What a host wrote, as a link reads it.
use Rattle.std.specs.Prelude.{◌≡◌, ℕ, ◌+◌, List, [], ◌++◌, length, Option, Some, Result, Err}
use Rattle.lx_abi.specs.declared.outcome.Outcome.{Outcome}
use Rattle.lx_abi.specs.declared.ptrace.Request.{Request}
use Rattle.host_frame.specs.declared.frame.Frame.{Frame}
use Rattle.host_wire.specs.Ends.{Input}
use Rattle.host_wire.specs.Streams.{Going, stream_of}
use Rattle.host_link.specs.Pipes.{Came, request_frame}
use Rattle.host_link.specs.declared.fault.LinkFault.{LinkFault}
use Rattle.host_link.specs.declared.fault.LinkFault.TheVariants.{Malformed, Sequence}
use Rattle.host_serve.specs.Hosted.{Answers_by, Boots_by, left_by}
use Rattle.host_serve.specs.Serving.{Exchanges, Served}
use Rattle.host_serve.specs.declared.fault.ServeFault.{ServeFault}
use Rattle.host_ends.specs.Recorded.{CameFrom}

-- `serve` wrote these bytes to a writer that had none, and maybe more behind them, whatever it read and however it
-- ended
pub record IsWritten (bytes : List ℕ) : Type 0 where
  pub most : ℕ
  pub input : Input
  pub input' : Input
  pub written : Option (List ℕ)
  pub puts : List ℕ
  pub puts' : List ℕ
  pub result : Result Outcome ServeFault
  pub broken : ℕ
  pub served : Served most Boots_by Answers_by left_by input input' (Some []) written puts puts' result broken
  pub later : List ℕ
  pub all : written ≡ Some (bytes ++ later)

-- no frame among them has a fault, nor has the one that is cut
abbrev pub HasNoFault : List ℕ → Type 0
HasNoFault bytes = (frames : List Frame) × ((tail : List ℕ) × (stream_of bytes ≡ Going frames tail))

abbrev pub BytesAreFrames : Type 0
BytesAreFrames = (bytes : List ℕ) → IsWritten bytes → HasNoFault bytes

-- a link was given replies out of these bytes, from the first on, and fails to get the next one
pub record FailsBehind (fault : LinkFault) : Type 0 where
  pub most : ℕ
  pub bytes : List ℕ
  pub written : IsWritten bytes
  pub a : Input
  pub b : Input
  pub c : Input
  pub given : a.remaining ≡ Some bytes
  pub exchanges : Exchanges
  pub came : CameFrom most 1 a exchanges b
  pub request : Request
  pub fails : Came most b (Err fault) (request_frame (length exchanges + 1) request) c

abbrev pub NoReplyIsMalformed : Type 0
NoReplyIsMalformed = FailsBehind Malformed → ⊥

abbrev pub NoReplyIsOutOfSequence : Type 0
NoReplyIsOutOfSequence = FailsBehind Sequence → ⊥
