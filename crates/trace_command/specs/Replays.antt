-- The words that are written of a run's events make that run again.
use Rattle.std.specs.Prelude.{◌≡◌, ℕ, ◌≤◌, true, false, List, Some, IfSome}
use Rattle.lx_abi.specs.Words.{words_of}
use Rattle.lx_abi.specs.declared.boot.Boot.{Boot}
use Rattle.lx_abi.specs.declared.schedule.Event.{Event}
use Rattle.lx_abi.specs.declared.schedule.Word.{Word}
use Rattle.lx_abi.specs.declared.script.Rule.{Rule}
use Rattle.pt_schedule.specs.Schedules.{most_events, worded}
use Rattle.tr_core.specs.declared.settings.Options.{Options}
use Rattle.trace_run.specs.BootedRuns.{RunOf}
use Rattle.trace_run.specs.declared.local.Run.{Run}
use Rattle.trace_threads.specs.ThreadRuns.{IsNotedRun}
use Rattle.trace_threads.specs.declared.noted.NotedRun.{NotedRun}
use Rattle.trace_command.specs.Noting.{EventsHere}
use Rattle.trace_command.specs.TurnsOut.{AreNumbered, turns_text}

-- The law: what is written of a run's events is read as words, and a run by them, from the same boot, under the same
-- script, options and limit, has these events, whatever words the first was made by, and however it ended.

pub record IsMadeAgain (o : Options) (script : List Rule) (boot : Boot) (limit : ℕ) (events : List Event) : Type 0 where
  pub words : List Word
  pub read : words_of (turns_text events) ≡ Some words
  pub given : EventsHere o script boot (worded words limit) events

unfoldable pub EventsComeAgain : Type 0
EventsComeAgain = (o : Options) (script : List Rule) (boot : Boot) (words : List Word) (limit : ℕ) (events : List Event)
    → EventsHere o script boot (worded words limit) events → AreNumbered events
    → IsMadeAgain o script boot limit events

-- and so it is the same run: with its trace, its end, its outcome and its effective turns
abbrev pub ComesAgain : Boot → ℕ → List Rule → Options → Run → List Event → Type 0
ComesAgain boot limit script options run events = AreNumbered events → (again : List Word)
    × ((words_of (turns_text events) ≡ Some again) × RunOf boot (worded again limit) script options run)

unfoldable pub RunsComeAgain : Type 0
RunsComeAgain = (boot : Boot) (words : List Word) (limit : ℕ) (script : List Rule) (options : Options) (run : Run)
    (r : RunOf boot (worded words limit) script options run) → ComesAgain boot limit script options run r.events

-- So it is where threads made the turns: what they did in any order is made again by one, from the events that are
-- noted of their journal.
unfoldable pub ThreadRunsComeAgain : Type 0
ThreadRunsComeAgain = (boot : Boot) (limit : ℕ) (script : List Rule) (options : Options) (noted : NotedRun)
    → limit ≤ most_events → IsNotedRun boot limit script options false true noted
    → IfSome noted.events (ComesAgain boot limit script options noted.run)
