-- What the contracts of runs in one process say by the untraced kernel of the effective turns, and that a run has one
-- result.
use Rattle.std.specs.Prelude.{◌≡◌, ℕ, ◌≤◌, ◌<◌, Bool, true, false, List, [], ◌++◌, Result, Ok}
use Rattle.std.specs.Io.KnownBytes.{Appends}
use Rattle.lx_abi.specs.declared.boot.Boot.{Boot}
use Rattle.lx_abi.specs.declared.outcome.Outcome.{Outcome}
use Rattle.lx_abi.specs.declared.script.Rule.{Rule}
use Rattle.lx_abi.specs.Log.{Noted}
use Rattle.lx_abi.specs.Scripts.{choice_of}
use Rattle.lx_boot.specs.First.{first_shared}
use Rattle.lx_exec.specs.Programs.{booted}
use Rattle.lx_kernel.specs.Outcomes.{outcome_in}
use Rattle.lx_model.specs.Kernel.{traces, Kernel, kernel_run, first_kernel}
use Rattle.lx_proc.specs.declared.state.Shared.{Shared}
use Rattle.lx_proc.specs.declared.state.UserState.{UserState}
use Rattle.lx_turn.specs.Linux.{linux}
use Rattle.pt_model.specs.View.{view, has_kill, has_exit, traced, parts}
use Rattle.pt_schedule.specs.declared.schedule.Schedule.{Schedule}
use Rattle.tr_core.specs.Settings.{options_by, layout_by}
use Rattle.tr_core.specs.declared.settings.Options.{Options}
use Rattle.tr_line.specs.Lines.{rendering}
use Rattle.trace_run.specs.BootedRuns.{following, RunOf, TraceOf}
use Rattle.trace_run.specs.Claims.{HasNoKill, JoinsNothing, TellsLog}
use Rattle.trace_run.specs.Writers.{Writer}
use Rattle.trace_run.specs.declared.local.Run.{Run}
use Rattle.trace_run.specs.declared.running.Ended.TheVariants.{Whole}
use Rattle.trace_run.specs.declared.running.Ended.{Ended}
use Rattle.trace_run.specs.declared.running.RunFault.{RunFault}

-- the untraced kernel from the boot on, under the script, by these turns
abbrev pub kernel_by : Boot → List Rule → List ℕ → Kernel Shared UserState
kernel_by boot script turns =
    kernel_run linux (choice_of script) boot.follow
    (first_kernel (first_shared boot.limits boot.files boot.input) (booted boot.argv boot.env)) turns

-- what its log has of the tracees
abbrev pub log_by : Boot → List Rule → List ℕ → List Noted
log_by boot script turns = traced boot.follow (kernel_by boot script turns).log

-- a run has the outcome of the untraced kernel by its own effective turns, and its trace begins the rendering of these
-- items; whole it is all of it, and each tracee has logged its end
pub record TellsItems (boot : Boot) (script : List Rule) (options : Options) (items : List Noted) (run : Run) :
    Type 0 where
  pub same_outcome : run.outcome ≡ outcome_in (kernel_by boot script run.turns).shared
  pub later : List ℕ
  pub begins : run.trace ++ later
      ≡ rendering (layout_by (following options boot.follow)) (parts (options_by (following options boot.follow)) items)
  pub whole : (y : Outcome) → run.ended ≡ Whole y → (y ≡ run.outcome) × (later ≡ [])
      × ((q : ℕ) → 1 ≤ q → q < (kernel_by boot script run.turns).child
      → traces boot.follow q ≡ true → has_exit q (kernel_by boot script run.turns).log ≡ true)

-- told by the log itself, where no tracee ended by SIGKILL
abbrev pub RunByLog : Boot → Schedule → List Rule → Options → Run → Type 0
RunByLog boot schedule script options run = RunOf boot schedule script options run
    → has_kill (log_by boot script run.turns) ≡ false
    → TellsItems boot script options (log_by boot script run.turns) run

-- under the empty script
abbrev pub PlainRuns : Type 0
PlainRuns = (boot : Boot) (schedule : Schedule) (options : Options) (run : Run) → RunByLog boot schedule [] options run

-- with results replaced
abbrev pub ReplacedRuns : Type 0
ReplacedRuns = (boot : Boot) (schedule : Schedule) (script : List Rule) → JoinsNothing (choice_of script)
    → (options : Options) (run : Run) → RunByLog boot schedule script options run

-- with signals joined too
abbrev pub JoinedRuns : Type 0
JoinedRuns = (boot : Boot) (schedule : Schedule) (script : List Rule) (options : Options) (run : Run)
    → RunByLog boot schedule script options run

-- and whoever is killed: told by a view of the log
abbrev pub KilledRuns : Type 0
KilledRuns = (boot : Boot) (schedule : Schedule) (script : List Rule) (options : Options) (run : Run)
    → RunOf boot schedule script options run
    → (lost : ℕ → Bool) × TellsItems boot script options (view lost (log_by boot script run.turns)) run

-- One result

pub record IsSameRun (a b : Run) : Type 0 where
  pub ended : a.ended ≡ b.ended
  pub trace : a.trace ≡ b.trace
  pub outcome : a.outcome ≡ b.outcome
  pub turns : a.turns ≡ b.turns

-- boot, schedule, script and options settle a run
abbrev pub RunsAreOne : Type 0
RunsAreOne = (boot : Boot) (schedule : Schedule) (script : List Rule) (options : Options) (a b : Run)
    → RunOf boot schedule script options a → RunOf boot schedule script options b → IsSameRun a b

-- and a run to any writer that didn't fail has written its trace, and ended as it did
abbrev pub TracesAreRuns : Type 0
TracesAreRuns = (boot : Boot) (schedule : Schedule) (script : List Rule) (options : Options) (run : Run) (ended : Ended)
    (old new : Writer)
    → RunOf boot schedule script options run → TraceOf boot schedule script options (Ok ended) old new
    → (ended ≡ run.ended) × Appends old.contents new.contents run.trace

-- To any writer

-- however the run ended: told by the log itself, where no tracee ended by SIGKILL
abbrev pub TracesTellLog : Type 0
TracesTellLog = (boot : Boot) (schedule : Schedule) (script : List Rule) (options : Options)
    (result : Result Ended RunFault) (old new : Writer)
    (t : TraceOf boot schedule script options result old new)
    → HasNoKill linux outcome_in (following options boot.follow) (choice_of script)
    (first_shared boot.limits boot.files boot.input) (booted boot.argv boot.env) t.events
    → TellsLog linux outcome_in (following options boot.follow) (choice_of script)
    (first_shared boot.limits boot.files boot.input) (booted boot.argv boot.env) t.events result
    old.contents new.contents
