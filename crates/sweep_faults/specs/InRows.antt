-- Turns of one process in a row, as a schedule gives them by a row that is under way.
use Rattle.std.specs.Prelude.{◌≡◌, ℕ, zero, suc, false}
use Rattle.lx_kernel.specs.Runs.{Run}
use Rattle.pt_schedule.specs.Rows.{Continues}
use Rattle.pt_schedule.specs.Untraced.{readiness_of}
use Rattle.sweep_faults.specs.declared.faults.Fault.{Fault}
use Rattle.sweep_faults.specs.Faults.{after_fault, ends_at}

-- the process can have another turn, no call of it is finished, and nothing ends there
abbrev pub HasNext : Fault → Run → ℕ → Type 0
HasNext f k pid = Continues (readiness_of k) pid × (ends_at f k pid ≡ false)

-- A turn of the process, and so many behind it, lead from k to k'.
unfoldable pub InRow : Fault → Run → ℕ → ℕ → Run → Type 0
InRow f k pid zero k' = k' ≡ after_fault f k pid
InRow f k pid (suc n) k' = HasNext f (after_fault f k pid) pid × InRow f (after_fault f k pid) pid n k'
