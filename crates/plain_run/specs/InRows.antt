-- Turns of one process in a row, as a schedule gives them by a row that is under way.
use Rattle.std.specs.Prelude.{◌≡◌, ℕ, zero, suc, Bool, true, false}
use Rattle.lx_abi.specs.declared.log.Mode.{Mode}
use Rattle.lx_abi.specs.declared.log.Mode.TheVariants as mode
use Rattle.lx_kernel.specs.Runs.{Run, after_turn}
use Rattle.pt_schedule.specs.Rows.{Continues}
use Rattle.pt_schedule.specs.Untraced.{readiness_of}

-- A turn of the process, and so many behind it, lead from k to k'. Before each of those behind it the process can have
-- another turn, and no call of it is finished.
unfoldable pub InRow : Run → ℕ → ℕ → Run → Type 0
InRow k pid zero k' = k' ≡ after_turn k pid
InRow k pid (suc n) k' = Continues (readiness_of (after_turn k pid)) pid × InRow (after_turn k pid) pid n k'

-- a process that stands here has no other turn in its row
abbrev pub ends_row : Mode → Bool
ends_row mode.Born = false
ends_row mode.Run = false
ends_row mode.Faulting = false
ends_row mode.Entered = false
ends_row mode.Doing = false
ends_row mode.Acted = false
ends_row mode.Finished = true
ends_row mode.Taken = false
ends_row mode.Stopped = false
ends_row mode.Woken = false
ends_row mode.Dying = false
ends_row mode.Zombie = true

-- one that stands here may wait
abbrev pub may_rest : Mode → Bool
may_rest mode.Born = false
may_rest mode.Run = false
may_rest mode.Faulting = false
may_rest mode.Entered = false
may_rest mode.Doing = true
may_rest mode.Acted = false
may_rest mode.Finished = false
may_rest mode.Taken = false
may_rest mode.Stopped = true
may_rest mode.Woken = false
may_rest mode.Dying = false
may_rest mode.Zombie = false
