-- What each process of a log has told, as it is kept: that of each process that has entered a call.
use Rattle.std.specs.Prelude.{ℕ, Option, Some, None}
use Rattle.std.specs.Ordering.{nat_cmp}
use Rattle.std.specs.FinMap as maps
use Rattle.std.specs.FinMap.{FinMap}
use Rattle.lx_abi.specs.declared.log.Call.{Call}
use Rattle.sweep_rows.specs.Calls.{calls_in}
use Rattle.sweep_rows.specs.Likeness.{next_likeness}
use Rattle.sweep_rows.specs.declared.calls.Calls.{Calls}
use Rattle.sweep_rows.specs.declared.likeness.Likeness.{Likeness}
use Rattle.sweep_rows.specs.declared.likeness.Likeness.TheVariants.{Same}
use Rattle.sweep_faults.specs.Courses.{first_course, with_end, with_entry}
use Rattle.sweep_faults.specs.declared.courses.Course.{Course}
use Rattle.sweep_faults.specs.declared.processes.Process.{Process}
use Rattle.sweep_faults.specs.declared.processes.Processes.{Processes}

abbrev pub first_process : Process
first_process = record { course = first_course; likeness = Same 0 }

-- after an entry into a call, beside a reference that made these calls
abbrev pub after_entry : Calls → ℕ → Call → Process → Process
after_entry calls pid call process = record {
  course = with_entry call process.course;
  likeness = next_likeness (calls_in calls pid) process.likeness call.number;
}

-- after the end of a call
abbrev pub after_end : Call → Process → Process
after_end call process = record process { course = with_end call process.course }

abbrev pub or_first : Option Process → Process
or_first None = first_process
or_first (Some process) = process

abbrev pub process_at : FinMap nat_cmp Process → ℕ → Process
process_at of pid = or_first (maps.get of pid)

abbrev pub course_in : Processes → ℕ → Course
course_in processes pid = (process_at processes.of pid).course

abbrev pub likeness_in : Processes → ℕ → Likeness
likeness_in processes pid = (process_at processes.of pid).likeness
