-- What a script does to the call that a process has entered, over the counts that the code keeps.
use Rattle.std.specs.Prelude.{ℕ, cond}
use Rattle.lx_abi.specs.declared.script.Choice.{Choice}
use Rattle.lx_abi.specs.Scripts.{choice_of, no_choice}
use Rattle.lx_model.specs.Machine.{a7_of}
use Rattle.lx_model.specs.Kernel.{traces, choice_at}
use Rattle.lx_model.specs.declared.stage.Task.{Task}
use Rattle.lx_proc.specs.declared.state.UserState.{UserState}
use Rattle.lx_proc.specs.Registers.{regs}
use Rattle.lx_turn.specs.Linux.{linux}
use Rattle.lx_abi.specs.Occurrences.{count_of}
use Rattle.lx_turn.specs.declared.injection.Injection.{Injection}

-- the latest occurrence of a call decides; only tracees have choices
abbrev pub choice_in : Injection → ℕ → ℕ → Choice
choice_in t pid number =
    cond (traces t.follow pid) (choice_of t.script.now number (count_of t.occurrences.now pid number)) no_choice

abbrev pub choice_of_call : Injection → ℕ → UserState → Choice
choice_of_call t pid b = choice_in t pid (a7_of (regs b))

-- the choice of the kernel's turn
abbrev pub choice_of_task : Injection → ℕ → Task UserState → Choice
choice_of_task t pid task =
    choice_at linux (choice_of t.script.now) (traces t.follow pid)
    (λ number. count_of t.occurrences.now pid number) task
