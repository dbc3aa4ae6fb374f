-- Which failures of one process a rule of a script gives, which is for the nth occurrence of a call in each tracee.
use Rattle.std.specs.Prelude.{◌≡◌, ◌<◌, ℕ, ◌==◌, ◌&&◌, not, nat_le, Bool, true, List}
use Rattle.lx_abi.specs.declared.errno.Errno.{Errno}
use Rattle.lx_abi.specs.declared.log.Item.{Item}
use Rattle.lx_abi.specs.declared.occurrences.Occurrences.{Occurrences}
use Rattle.lx_abi.specs.Log.{entries}
use Rattle.lx_abi.specs.Occurrences.{count_of}
use Rattle.lx_model.specs.Kernel.{traces}
use Rattle.sweep_rows.specs.declared.failures.Failure.{Failure}
use Rattle.sweep_faults.specs.declared.faults.Fault.{Fault}
use Rattle.sweep_faults.specs.Faults.{is_undone}

-- the rule's failure
abbrev pub failure_of : Fault → Errno → Failure
failure_of f error = record { call = f.call; n = f.n; error = error }

-- the call isn't done, the process is a tracee, and by the log of the run no other tracee enters the call so often
pub record HasWords (follow : Bool) (f : Fault) (log : List Item) : Type 0 where
  pub undone : is_undone f.kind ≡ true
  pub traced : traces follow f.pid ≡ true
  pub alone : (pid : ℕ) → traces follow pid ≡ true → (pid ≡ f.pid → ⊥) → entries pid f.call log < f.n

-- no other process enters the call so often
abbrev pub AreFewer : Fault → List Item → Type 0
AreFewer f log = (pid : ℕ) → (pid ≡ f.pid → ⊥) → entries pid f.call log < f.n

-- it is another process, and has entered it so often, by what is counted
abbrev pub is_others : Fault → Occurrences → ℕ → Bool
is_others f entered pid = not (pid == f.pid) && nat_le f.n (count_of entered pid f.call)
