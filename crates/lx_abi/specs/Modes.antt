-- What is asked of a mode: where a process stands, or none where it isn't in the table.
use Rattle.std.specs.Prelude.{ℕ, Bool, true, false, Option, Some, None}
use Rattle.lx_abi.specs.declared.log.Mode.{Mode}
use Rattle.lx_abi.specs.declared.log.Mode.TheVariants as mode

-- it has not ended
abbrev pub lives_in : Option Mode → Bool
lives_in None = false
lives_in (Some mode.Dying) = false
lives_in (Some mode.Zombie) = false
lives_in (Some _) = true

abbrev pub ends_dying : Option Mode → Bool
ends_dying (Some mode.Dying) = true
ends_dying _ = false

-- its call is finished
abbrev pub is_finished : Option Mode → Bool
is_finished (Some mode.Finished) = true
is_finished _ = false

-- a process that left one of these modes was held, at a stop that may not have been told
abbrev pub may_lose : Mode → Bool
may_lose mode.Born = false
may_lose mode.Run = false
may_lose mode.Faulting = false
may_lose mode.Entered = true
may_lose mode.Doing = false
may_lose mode.Acted = false
may_lose mode.Finished = true
may_lose mode.Taken = true
may_lose mode.Stopped = true
may_lose mode.Woken = false
may_lose mode.Dying = false
may_lose mode.Zombie = false

-- a number for each mode, 0 for none
abbrev pub mode_number : Option Mode → ℕ
mode_number None = 0
mode_number (Some mode.Born) = 1
mode_number (Some mode.Run) = 2
mode_number (Some mode.Faulting) = 3
mode_number (Some mode.Entered) = 4
mode_number (Some mode.Doing) = 5
mode_number (Some mode.Acted) = 6
mode_number (Some mode.Finished) = 7
mode_number (Some mode.Taken) = 8
mode_number (Some mode.Dying) = 9
mode_number (Some mode.Zombie) = 10
mode_number (Some mode.Stopped) = 11
mode_number (Some mode.Woken) = 12
