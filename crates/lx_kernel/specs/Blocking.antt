-- Which calls block, and which processes can take a turn that changes something.
use Rattle.std.specs.Prelude.{◌≡◌, ℕ, Bool, true, false, not, ◌&&◌, ◌||◌}
use Rattle.std.specs.FinMap as maps
use Rattle.lx_abi.specs.declared.log.Call.{Call}
use Rattle.lx_model.specs.declared.stage.Stage.{Stage}
use Rattle.lx_model.specs.declared.stage.Stage.TheVariants.{Born, Run, Faulting, Entered, Doing, Replaced, Acted, Finished, Taken, Dropped, Stopped, Released, Woken}
use Rattle.lx_model.specs.declared.stage.Task.{Task}
use Rattle.lx_model.specs.declared.stage.Task.TheVariants.{Alive, Dying, Gone}
use Rattle.lx_proc.specs.declared.state.Shared.{Shared}
use Rattle.lx_proc.specs.declared.state.UserState.{UserState}
use Rattle.lx_fcalls.specs.Blocking.{would_block as file_would_block}
use Rattle.lx_pcalls.specs.Calls.{would_block as process_would_block}
use Rattle.lx_pcalls.specs.Interruption.{is_interrupted}
use Rattle.lx_pcalls.specs.Stops.{is_continued_at}
use Rattle.lx_turn.specs.Reactions.{is_killed}

-- the call would wait, and nothing interrupts it
unfoldable pub would_block : Shared → ℕ → Call → UserState → Bool
would_block s p call b =
    (file_would_block s p call b || process_would_block s p call) && not (is_interrupted (maps.get s.entries p))

-- a process at this stage does nothing but wait
abbrev pub waits : Shared → ℕ → UserState → Stage → Bool
waits s p b Born = false
waits s p b Run = false
waits s p b (Faulting signal cause) = false
waits s p b (Entered joined) = false
waits s p b (Doing call) = would_block s p call b
waits s p b (Replaced call x) = false
waits s p b (Acted call x replaced) = false
waits s p b Finished = false
waits s p b (Taken signal cause) = false
waits s p b Dropped = false
waits s p b (Stopped signal) = not (is_continued_at (maps.get s.entries p))
waits s p b Released = false
waits s p b Woken = false

-- a turn of the process does something
unfoldable pub can_turn : Shared → ℕ → Task UserState → Bool
can_turn s p (Alive b stage) = not (waits s p b stage) || is_killed (maps.get s.entries p)
can_turn s p (Dying w) = true
can_turn s p Gone = false

-- the process is stopped, or gone: no turn of another lets it go on but one that tells it
abbrev pub rests_at : Stage → Bool
rests_at Born = false
rests_at Run = false
rests_at (Faulting signal cause) = false
rests_at (Entered joined) = false
rests_at (Doing call) = false
rests_at (Replaced call x) = false
rests_at (Acted call x replaced) = false
rests_at Finished = false
rests_at (Taken signal cause) = false
rests_at Dropped = false
rests_at (Stopped signal) = true
rests_at Released = false
rests_at Woken = false

abbrev pub rests : Task UserState → Bool
rests (Alive b stage) = rests_at stage
rests (Dying w) = false
rests Gone = true

-- the process waits in a call, is stopped, or is gone
abbrev pub IsBlocked : Shared → ℕ → Task UserState → Type 0
IsBlocked s p task = can_turn s p task ≡ false
