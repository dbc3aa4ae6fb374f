-- What turns note is the untraced kernel's log.
use Rattle.std.specs.Prelude.{◌≡◌, ℕ, List}
use Rattle.lx_abi.specs.declared.boot.Boot.{Boot}
use Rattle.lx_abi.specs.declared.script.Rule.{Rule}
use Rattle.lx_abi.specs.Scripts.{choice_of}
use Rattle.lx_boot.specs.First.{first_shared}
use Rattle.lx_exec.specs.Programs.{booted}
use Rattle.lx_kernel.specs.First.{first_run}
use Rattle.lx_model.specs.Kernel.{first_kernel, kernel_run}
use Rattle.lx_turn.specs.Linux.{linux}
use Rattle.plain_run.specs.Notes.{notes_of}

unfoldable pub NotesAreLogs : Type 0
NotesAreLogs = (boot : Boot) (script : List Rule) (pids : List ℕ) →
    notes_of (first_run boot script) pids
    ≡ (kernel_run linux (choice_of script) boot.follow
    (first_kernel (first_shared boot.limits boot.files boot.input) (booted boot.argv boot.env)) pids).log
