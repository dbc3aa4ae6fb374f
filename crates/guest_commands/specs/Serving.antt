-- What `guest_host serve` has served, where no drill spoils it.
use Rattle.std.specs.Prelude.{◌≡◌, ℕ, List, Option, None, Some, Bool, Result, Err, ⊤}
use Rattle.lx_abi.specs.declared.outcome.Outcome.{Outcome}
use Rattle.host_serve.specs.Streams.{Converses, ended_by}
use Rattle.host_serve.specs.declared.fault.ServeFault.{ServeFault}
use Rattle.host_serve.specs.declared.fault.ServeFault.TheVariants.{Failed}

-- a whole conversation, by what was left of the input and what the output held and holds, which ended so; without
-- memory to begin, none
abbrev pub Answers : {O : Type 0} → (O → Option (List ℕ)) → Option (List ℕ) → Option (List ℕ) → Result ⊤ ServeFault
    → Option O → Type 0
Answers contents remaining old ended None = ended ≡ Err Failed
Answers contents remaining old ended (Some out) =
    (served : Result Outcome ServeFault)
    × ((is_out : Bool) × ((ended ≡ ended_by served is_out) × Converses remaining old served (contents out) is_out))
