-- The kernel of a boot is the kernel of the definitions, turn by turn.
use Rattle.std.specs.Prelude.{◌≡◌, ℕ, Bool, false, List, [], ◌∷◌, fold}
use Rattle.std.specs.FinMap as maps
use Rattle.lx_abi.specs.declared.boot.Boot.{Boot}
use Rattle.lx_abi.specs.declared.log.Item.{Item}
use Rattle.lx_abi.specs.declared.log.Item.TheVariants.{Exit}
use Rattle.lx_abi.specs.declared.script.Rule.{Rule}
use Rattle.lx_abi.specs.Log.{items_of}
use Rattle.lx_abi.specs.Scripts.{choice_of}
use Rattle.lx_model.specs.Kernel.{Script, Kernel, first_kernel, kernel_run}
use Rattle.lx_model.specs.Finite.{Is, Running, first_running, running_turn}
use Rattle.lx_boot.specs.First.{first_shared}
use Rattle.lx_kernel.specs.First.{first_run, first_run_without_log}
use Rattle.lx_turn.specs.Linux.{linux}
use Rattle.lx_exec.specs.Programs.{booted}
use Rattle.lx_kernel.specs.Runs.{Run, after_turn}
use Rattle.lx_proc.specs.declared.state.Shared.{Shared}
use Rattle.lx_proc.specs.declared.state.UserState.{UserState}
use Rattle.lx_proc.specs.WaitWords.{Words}

-- process 1 begins in its first program, and is alone
abbrev pub BootsAreFirst : Type 0
BootsAreFirst = (boot : Boot) (script : List Rule) →
    (first_run boot script).running
    ≡ first_running (first_shared boot.limits boot.files boot.input) (booted boot.argv boot.env)

-- a turn of the kernel is the definition's
abbrev pub TurnsAreSteps : Type 0
TurnsAreSteps = (k : Run) (pid : ℕ) →
    (after_turn k pid).running ≡ running_turn linux (choice_of k.script) k.follow k.running pid

-- the kernel after turns of these processes
abbrev pub after_all : Run → List ℕ → Run
after_all k [] = k
after_all k (pid ∷ pids) = after_all (after_turn k pid) pids

-- any turns of a boot leave what the untraced kernel of the definitions leaves
abbrev pub BootsRunAlike : Type 0
BootsRunAlike = (boot : Boot) (script : List Rule) (pids : List ℕ) →
    Is (after_all (first_run boot script) pids).running
    (kernel_run linux (choice_of script) boot.follow
    (first_kernel (first_shared boot.limits boot.files boot.input) (booted boot.argv boot.env)) pids)

-- whether the log is kept changes nothing but what can be read of it
abbrev pub LogsAreApart : Type 0
LogsAreApart = (boot : Boot) (script : List Rule) (pids : List ℕ) →
    after_all (first_run_without_log boot script) pids
    ≡ record (after_all (first_run boot script) pids) { keeps_log = false }

-- the words by which processes ended, with this item's
abbrev pub with_end : Words → Item → Words
with_end words (Exit pid word left) = maps.insert words pid word
with_end words _ = words

-- each process that has ended by the log, with its last word
abbrev pub logged_words : List Item → Words
logged_words log = fold with_end maps.empty log

-- what is shared has the words of the log's ends
abbrev pub HasLoggedWords : Running Shared UserState → Type 0
HasLoggedWords v = v.shared.ended ≡ logged_words v.log

-- a turn keeps this, under every script
abbrev pub TurnsLogWords : Type 0
TurnsLogWords = (script : Script) (follow : Bool) (v : Running Shared UserState) (pid : ℕ) →
    HasLoggedWords v → HasLoggedWords (running_turn linux script follow v pid)

-- so it holds after any turns of a boot
abbrev pub BootsLogWords : Type 0
BootsLogWords = (boot : Boot) (script : List Rule) (pids : List ℕ) →
    HasLoggedWords (after_all (first_run boot script) pids).running

-- and of the untraced kernel of the definitions
abbrev pub KernelsLogWords : Type 0
KernelsLogWords = (script : Script) (follow : Bool) (boot : Boot) (pids : List ℕ) →
    let k : Kernel Shared UserState = kernel_run linux script follow
    (first_kernel (first_shared boot.limits boot.files boot.input) (booted boot.argv boot.env)) pids in
    k.shared.ended ≡ logged_words (items_of k.log)
