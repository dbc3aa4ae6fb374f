-- Whole traced runs by words `p` and `p.`, and by the default schedule, beside the untraced kernel's by the same words.
use Rattle.std.specs.Prelude.{◌≡◌, ℕ, ◌≤◌, ◌<◌, min, List, ◌++◌, length, true}
use Rattle.lx_abi.specs.declared.boot.Boot.{Boot}
use Rattle.lx_abi.specs.declared.outcome.Outcome.{Outcome}
use Rattle.lx_abi.specs.declared.schedule.Word.{Word}
use Rattle.lx_abi.specs.declared.script.Rule.{Rule}
use Rattle.lx_abi.specs.Scripts.{choice_of}
use Rattle.lx_boot.specs.First.{first_shared}
use Rattle.lx_exec.specs.Programs.{booted}
use Rattle.lx_kernel.specs.First.{first_run}
use Rattle.lx_kernel.specs.Laws.{after_all}
use Rattle.lx_kernel.specs.Outcomes.{outcome_in}
use Rattle.lx_kernel.specs.Runs.{Run as KernelRun}
use Rattle.lx_model.specs.Kernel.{kernel_run, first_kernel}
use Rattle.lx_turn.specs.Linux.{linux}
use Rattle.pt_model.specs.View.{traced, parts}
use Rattle.pt_schedule.specs.declared.schedule.Schedule.{Schedule}
use Rattle.pt_schedule.specs.Eager.{are_eager, GivesTurns}
use Rattle.pt_schedule.specs.Schedules.{most_events, worded}
use Rattle.plain_run.specs.Runs.{RunsTo}
use Rattle.tr_core.specs.Settings.{options_by, layout_by}
use Rattle.tr_core.specs.declared.settings.Options.{Options}
use Rattle.tr_line.specs.Lines.{rendering}
use Rattle.trace_run.specs.BootedRuns.{RunOf, following}
use Rattle.trace_run.specs.declared.local.Run.{Run}
use Rattle.trace_run.specs.declared.running.Ended.TheVariants.{Whole, OutOfTurns}

-- one list begins another
abbrev pub Begins : List ℕ → List ℕ → Type 0
Begins ps qs = (later : List ℕ) × (ps ++ later ≡ qs)

-- the rendering of all that the untraced kernel of a boot logs of tracees, by these turns
abbrev pub log_text : Boot → List Rule → Options → List ℕ → List ℕ
log_text boot script o turns =
    rendering (layout_by o)
    (parts (options_by o) (traced o.follow (kernel_run linux (choice_of script) o.follow
    (first_kernel (first_shared boot.limits boot.files boot.input) (booted boot.argv boot.env)) turns).log))

-- the kernel has the run's outcome, and has logged no more than by the run's turns
pub record EndsAlike (boot : Boot) (script : List Rule) (run : Run) (z : KernelRun) : Type 0 where
  pub outcome : outcome_in z.running.shared ≡ run.outcome
  pub log : z.running.log ≡ (after_all (first_run boot script) run.turns).running.log

-- a traced run, beside the untraced kernel's by so many turns of the same words
pub record EagerRun (boot : Boot) (script : List Rule) (o : Options) (ws : List Word) (n : ℕ) (run : Run) : Type 0 where
  pub left : Schedule
  -- its turns are the first that these words give
  pub given : GivesTurns (first_run boot script) (worded ws n) run.turns
      (after_all (first_run boot script) run.turns) left
  -- and so begin every run of the untraced kernel by them
  pub begins : (z : KernelRun) (to : RunsTo (first_run boot script) (worded ws n) z) → Begins run.turns to.pids
  -- its trace begins the rendering of that kernel's log, of which no item is left out, and is all of it where the run
  -- is whole
  pub tells : Begins run.trace (log_text boot script o run.turns)
  pub whole : (x : Outcome) → run.ended ≡ Whole x → run.trace ≡ log_text boot script o run.turns
  -- where it is whole, and every process is traced, every run of the untraced kernel by these words ends as it did
  pub ends : (x : Outcome) → run.ended ≡ Whole x → o.follow ≡ true
      → (z : KernelRun) → RunsTo (first_run boot script) (worded ws n) z → EndsAlike boot script run z

unfoldable pub EagerRuns : Type 0
EagerRuns = (boot : Boot) (script : List Rule) (options : Options) (ws : List Word) → are_eager ws ≡ true
    → (limit n : ℕ) (run : Run) → RunOf boot (worded ws limit) script options run
    → length run.turns ≤ n → n ≤ most_events
    → EagerRun boot script (following options boot.follow) ws n run

-- Out of turns though more events were allowed: nobody was able. The untraced kernel by the same words ends there too,
-- and alike, whoever is traced.
unfoldable pub StuckRuns : Type 0
StuckRuns = (boot : Boot) (script : List Rule) (options : Options) (ws : List Word) → are_eager ws ≡ true
    → (limit n : ℕ) (run : Run) (of : RunOf boot (worded ws limit) script options run)
    → run.ended ≡ OutOfTurns → length of.events < min limit most_events
    → length run.turns ≤ n → n ≤ most_events
    → (z : KernelRun) (to : RunsTo (first_run boot script) (worded ws n) z)
    → (to.pids ≡ run.turns) × EndsAlike boot script run z
