-- What a kernel is: its state and log, its script, whom it follows, whether it met want of memory, and whether its log
-- is kept.
use Rattle.std.specs.Prelude.{ℕ, Bool, List, Option}
use Rattle.std.specs.FinMap as maps
use Rattle.lx_abi.specs.declared.log.Item.{Item}
use Rattle.lx_abi.specs.declared.log.Mode.{Mode}
use Rattle.lx_abi.specs.declared.script.Rule.{Rule}
use Rattle.lx_abi.specs.Scripts.{choice_of}
use Rattle.lx_model.specs.Turn.{Out}
use Rattle.lx_model.specs.declared.stage.Task.TheVariants.{Gone}
use Rattle.lx_model.specs.Finite.{at, Running, turn_out, running_turn, IsAble}
use Rattle.lx_proc.specs.declared.state.Shared.{Shared}
use Rattle.lx_proc.specs.declared.state.UserState.{UserState}
use Rattle.lx_turn.specs.Linux.{linux}
use Rattle.lx_turn.specs.Modes.{task_mode}
use Rattle.lx_kernel.specs.Logs.{kept_of}

pub record Run : Type 0 where
  pub running : Running Shared UserState
  pub script : List Rule
  pub follow : Bool
  pub failed : Bool
  pub keeps_log : Bool

-- what a turn of the process gives
abbrev pub turn_in : Run → ℕ → Out Shared UserState
turn_in k pid = turn_out linux (choice_of k.script) k.follow k.running pid

-- the kernel after it
abbrev pub after_turn : Run → ℕ → Run
after_turn k pid = record k { running = running_turn linux (choice_of k.script) k.follow k.running pid }

-- a turn of the process runs an instruction or changes its mode
abbrev pub is_able_in : Run → ℕ → Type 0
is_able_in k pid = IsAble linux (choice_of k.script) k.follow k.running pid

-- where a process stands
abbrev pub mode_in : Run → ℕ → Option Mode
mode_in k pid = task_mode (maps.get k.running.shared.entries pid) (at Gone k.running.tasks pid)

-- what can be read of the log
abbrev pub kept_log : Run → List Item
kept_log k = kept_of k.keeps_log k.running.log
