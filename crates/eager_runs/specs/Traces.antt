-- What a traced run by words `p` and `p.` writes to any writer.
use Rattle.std.specs.Prelude.{◌≡◌, ℕ, ◌≤◌, List, length, true, Ok}
use Rattle.std.specs.Io.KnownBytes.{Appends}
use Rattle.lx_abi.specs.declared.boot.Boot.{Boot}
use Rattle.lx_abi.specs.declared.outcome.Outcome.{Outcome}
use Rattle.lx_abi.specs.declared.schedule.Word.{Word}
use Rattle.lx_abi.specs.declared.script.Rule.{Rule}
use Rattle.lx_kernel.specs.First.{first_run}
use Rattle.lx_kernel.specs.Laws.{after_all}
use Rattle.pt_schedule.specs.declared.schedule.Schedule.{Schedule}
use Rattle.pt_schedule.specs.Eager.{are_eager, GivesTurns}
use Rattle.pt_schedule.specs.Schedules.{most_events, worded}
use Rattle.tr_core.specs.declared.settings.Options.{Options}
use Rattle.host_wire.specs.Ends.{AppendsPart}
use Rattle.trace_run.specs.BootedRuns.{TraceOf, following}
use Rattle.trace_run.specs.Writers.{Writer}
use Rattle.trace_run.specs.declared.running.Ended.{Ended}
use Rattle.trace_run.specs.declared.running.Ended.TheVariants.{Whole}
use Rattle.eager_runs.specs.Runs.{log_text}

-- there are turns, the first that these words give to the untraced kernel, and a first part of the rendering of that
-- kernel's log by these turns was written, all of it where the run is whole
pub record EagerTrace (boot : Boot) (script : List Rule) (o : Options) (ws : List Word) (ended : Ended)
    (old new : Writer) : Type 0 where
  pub turns : List ℕ
  pub few : length turns ≤ most_events
  pub given : (n : ℕ) → length turns ≤ n → (left : Schedule)
      × GivesTurns (first_run boot script) (worded ws n) turns (after_all (first_run boot script) turns) left
  pub part : AppendsPart old.contents new.contents (log_text boot script o turns)
  pub whole : (x : Outcome) → ended ≡ Whole x → Appends old.contents new.contents (log_text boot script o turns)

unfoldable pub EagerTraces : Type 0
EagerTraces = (boot : Boot) (script : List Rule) (options : Options) (ws : List Word) → are_eager ws ≡ true
    → (limit : ℕ) (ended : Ended) (old new : Writer) → TraceOf boot (worded ws limit) script options (Ok ended) old new
    → EagerTrace boot script (following options boot.follow) ws ended old new
