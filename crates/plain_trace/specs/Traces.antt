-- The trace of a run.
use Rattle.std.specs.Prelude.{◌≡◌, ℕ, false, List}
use Rattle.lx_abi.specs.Log.{Noted}
use Rattle.lx_kernel.specs.Runs.{Run}
use Rattle.plain_run.specs.Notes.{notes_of}
use Rattle.plain_run.specs.Runs.{RunsTo}
use Rattle.pt_schedule.specs.declared.schedule.Schedule.{Schedule}
use Rattle.tr_core.specs.Settings.{first_pen}
use Rattle.tr_core.specs.declared.settings.Options.{Options}
use Rattle.tr_line.specs.Printing.{written}
use Rattle.plain_trace.specs.Shown.{after_parts, shown, text_of}
use Rattle.plain_trace.specs.declared.trace.Trace.{Trace}

-- The bytes are the trace of all that the turns from k to z log. (An item is noted with what its process could read
-- when it was logged.)
pub record IsTrace (o : Options) (k : Run) (s : Schedule) (z : Run) (bytes : List ℕ) : Type 0 where
  pub to : RunsTo k s z
  pub text : bytes ≡ text_of o (notes_of k to.pids)

-- what is written of a log so far
pub record HasShown (o : Options) (log : List Noted) (t : Trace) : Type 0 where
  pub options : t.options ≡ o
  pub bytes : t.bytes ≡ written (first_pen o) (shown o log)
  pub printer : t.printer ≡ after_parts (first_pen o) (shown o log)

-- a trace that began with the first one's options has shown these, unless it failed
abbrev pub Shows : Trace → Trace → List Noted → Type 0
Shows first t log = t.failed ≡ false → HasShown first.options log t
