-- The kernel of a boot runs as the definitions' does.
use Rattle.std.proofs.Common.{◌≡◌, ℕ, false, List, [], ◌∷◌, refl, sym, subst}
use Rattle.lx_abi.specs.Scripts.{choice_of}
use Rattle.lx_model.specs.Kernel.{first_kernel, kernel_run}
use Rattle.lx_model.specs.Finite.{Is, running, first_running}
use Rattle.lx_model.specs.Laws.{KernelsBeginAlike, KernelsRunAlike}
use Rattle.lx_proc.specs.declared.state.Shared.{Shared}
use Rattle.lx_proc.specs.declared.state.UserState.{UserState}
use Rattle.lx_boot.specs.First.{first_shared}
use Rattle.lx_kernel.specs.First.{first_run}
use Rattle.lx_turn.specs.Linux.{linux}
use Rattle.lx_exec.specs.Programs.{booted}
use Rattle.lx_kernel.specs.Runs.{Run, after_turn}
use Rattle.lx_kernel.specs.Laws.{after_all, BootsRunAlike, LogsAreApart}

-- turns keep the script
after_all_is : (k : Run) (pids : List ℕ) → (after_all k pids).running ≡ running linux (choice_of k.script) k.follow k.running pids
after_all_is k [] = refl
after_all_is k (p ∷ pids) = after_all_is (after_turn k p) pids

pub boots_run_alike : KernelsBeginAlike Shared UserState → KernelsRunAlike Shared UserState → BootsRunAlike
boots_run_alike begin run boot script pids =
    let k : Run = first_run boot script in
    let s : Shared = first_shared boot.limits boot.files boot.input in
    let b : UserState = booted boot.argv boot.env in
    let whole = kernel_run linux (choice_of script) boot.follow (first_kernel s b) pids in
    subst (λ v. Is v whole) (sym (after_all_is k pids)) (run linux (choice_of script) boot.follow (first_running s b) (first_kernel s b) (begin s b) pids)

unkept : (k : Run) (pids : List ℕ) → after_all (record k { keeps_log = false }) pids ≡ record (after_all k pids) { keeps_log = false }
unkept k [] = refl
unkept k (p ∷ pids) = unkept (after_turn k p) pids

pub logs_are_apart : LogsAreApart
logs_are_apart boot script pids = unkept (first_run boot script) pids
