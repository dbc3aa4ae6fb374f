-- A turn in which this is done to the call that the process has entered, in the place of what the script does to it.
use Rattle.std.specs.Prelude.{◌≡◌, ℕ, true, List}
use Rattle.lx_abi.specs.declared.script.Choice.{Choice}
use Rattle.lx_abi.specs.declared.script.Rule.{Rule}
use Rattle.lx_abi.specs.Scripts.{choice_of, includes, covers}
use Rattle.lx_abi.specs.Log.{entries}
use Rattle.lx_model.specs.Turn.{Out}
use Rattle.lx_model.specs.Kernel.{Script, traces, choice_at}
use Rattle.lx_model.specs.declared.stage.Task.TheVariants.{Gone}
use Rattle.lx_model.specs.Finite.{at, turn_out, running_turn}
use Rattle.lx_proc.specs.declared.state.Shared.{Shared}
use Rattle.lx_proc.specs.declared.state.UserState.{UserState}
use Rattle.lx_turn.specs.Linux.{linux}
use Rattle.lx_kernel.specs.Runs.{Run, after_turn}

-- the kernel under another script, whose every process is asked for
abbrev pub under : Run → List Rule → Run
under k script = record k { script = script; follow = true }

-- a script that does this to each call
abbrev pub always : Choice → Script
always choice call n = choice

-- a rule that does this to each occurrence of each call
pub record IsEvery (choice : Choice) (r : Rule) : Type 0 where
  pub named : (call : ℕ) → includes r.calls call ≡ true
  pub covered : (n : ℕ) → covers r.when n ≡ true
  pub chosen : r.choice ≡ choice

-- what the turn gives, of any process
abbrev pub turn_choosing_in : Run → ℕ → Choice → Out Shared UserState
turn_choosing_in k pid choice = turn_out linux (always choice) true k.running pid

-- the kernel after it, under its own script as before
abbrev pub after_choosing : Run → ℕ → Choice → Run
after_choosing k pid choice = record k { running = running_turn linux (always choice) true k.running pid }

-- what the kernel's script does to the call
abbrev pub scripted : Run → ℕ → Choice
scripted k pid =
    choice_at linux (choice_of k.script) (traces k.follow pid) (λ n. entries pid n k.running.log)
    (at Gone k.running.tasks pid)

-- The law: a turn is the one in which that is done
abbrev pub TurnsChoose : Type 0
TurnsChoose = (k : Run) (pid : ℕ) → after_turn k pid ≡ after_choosing k pid (scripted k pid)
