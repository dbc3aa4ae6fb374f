-- A conversation over a reader and a writer of std.
use Rattle.std.specs.Prelude.{ℕ, ◌^◌, List, [], Option, Bool, true, false, Result, Ok, Err, ⊤}
use Rattle.lx_abi.specs.declared.outcome.Outcome.{Outcome}
use Rattle.host_wire.specs.Ends.{Input}
use Rattle.host_serve.specs.Hosted.{Served_host}
use Rattle.host_serve.specs.Together.{GoesOut, unread}
use Rattle.host_serve.specs.declared.fault.ServeFault.{ServeFault}
use Rattle.host_serve.specs.declared.fault.ServeFault.TheVariants.{Write}

-- a whole run of the host over what this reader had left and what this writer held, and what has gone out of what was
-- put
pub record Converses (remaining old : Option (List ℕ)) (served : Result Outcome ServeFault) (new : Option (List ℕ))
    (is_out : Bool) : Type 0 where
  pub input : Input
  pub put : Option (List ℕ)
  pub sizes : List ℕ
  pub broken : ℕ
  pub run : Served_host (2 ^ 32) (unread remaining) input old put [] sizes served broken
  pub gone : GoesOut put new is_out

-- how it ended: a reply that hasn't gone out couldn't be written
abbrev pub ended_by : Result Outcome ServeFault → Bool → Result ⊤ ServeFault
ended_by served false = Err Write
ended_by (Ok outcome) true = Ok tt
ended_by (Err fault) true = Err fault
