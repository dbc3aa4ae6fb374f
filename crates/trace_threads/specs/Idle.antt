-- Runs that did nothing, or nothing but to answer.
use Rattle.std.specs.Prelude.{◌≡◌, ℕ, ◌≤◌, false, List, [], ◌∷◌, None}
use Rattle.lx_abi.specs.declared.boot.Boot.{Boot}
use Rattle.lx_abi.specs.declared.schedule.Event.{Event}
use Rattle.lx_abi.specs.declared.schedule.Event.TheVariants.{Turn, Serve}
use Rattle.lx_abi.specs.declared.script.Rule.{Rule}
use Rattle.lx_boot.specs.Boots.{fault_of}
use Rattle.pt_journal.specs.Journals.{events_of}
use Rattle.tr_core.specs.declared.settings.Options.{Options}
use Rattle.trace_run.specs.declared.local.Run.{Run}
use Rattle.trace_run.specs.declared.running.Ended.TheVariants.{OutOfTurns}
use Rattle.trace_threads.specs.ThreadRuns.{ThreadRun}

-- a run that is out of turns by a gate that is never shut has made an event
abbrev pub NoneIsIdle : Type 0
NoneIsIdle = (boot : Boot) (limit : ℕ) (script : List Rule) (options : Options) (run : Run)
    (t : ThreadRun boot limit script options false run) → 1 ≤ limit → run.ended ≡ OutOfTurns
    → events_of t.entries ≡ [] → ⊥

-- the pids of the turns among them
abbrev pub turns_among : List Event → List ℕ
turns_among [] = []
turns_among (Turn p ∷ es) = p ∷ turns_among es
turns_among (Serve ∷ es) = turns_among es

-- and one that is out of turns under a limit of five events or more has made a turn: process 1 is able from the boot on
abbrev pub NoneIsStill : Type 0
NoneIsStill = (boot : Boot) (limit : ℕ) (script : List Rule) (options : Options) (run : Run)
    (t : ThreadRun boot limit script options false run) → fault_of boot ≡ None → 5 ≤ limit → run.ended ≡ OutOfTurns
    → turns_among (events_of t.entries) ≡ [] → ⊥
