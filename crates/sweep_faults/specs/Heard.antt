-- What is heard of a run.
use Rattle.std.specs.Prelude.{◌≡◌, List}
use Rattle.lx_abi.specs.declared.log.Item.{Item}
use Rattle.sweep_rows.specs.Known.{IsKnown}
use Rattle.sweep_rows.specs.Likeness.{GoBeside}
use Rattle.sweep_rows.specs.Said.{Says}
use Rattle.sweep_rows.specs.declared.calls.Calls.{Calls}
use Rattle.sweep_faults.specs.Courses.{AreCourses}
use Rattle.sweep_faults.specs.Entries.{AreEntries}
use Rattle.sweep_faults.specs.Processes.{course_in, likeness_in}
use Rattle.sweep_faults.specs.declared.heard.Heard.{Heard}

-- it is what this log tells
pub record Hears (h : Heard) (log : List Item) : Type 0 where
  pub logged : h.log.items ≡ log
  pub counted : AreEntries h.entries log
  pub coursed : AreCourses (course_in h.processes) log
  pub known : IsKnown log h.known
  pub said : Says h.said.pieces.items log

-- the same, beside a reference that made these calls
pub record HearsBeside (calls : Calls) (h : Heard) (log : List Item) : Type 0 where
  pub heard : Hears h log
  pub beside : GoBeside calls (likeness_in h.processes) log
