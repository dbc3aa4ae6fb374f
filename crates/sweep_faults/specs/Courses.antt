-- What each process of a log has done last, and asked for last.
use Rattle.std.specs.Prelude.{◌≡◌, ℕ, ◌==◌, Bool, false, cond, List, [], ◌∷◌, Option, Some, None}
use Rattle.lx_abi.specs.declared.log.Call.{Call}
use Rattle.lx_abi.specs.declared.log.Item.{Item}
use Rattle.lx_abi.specs.declared.log.Item.TheVariants as items
use Rattle.sweep_rows.specs.Descriptors.{argument}
use Rattle.sweep_faults.specs.declared.courses.Course.{Course}

abbrev pub first_course : Course
first_course = record { done = None; asked = 0 }

abbrev pub with_entry : Call → Course → Course
with_entry call course = record course { asked = argument call 2 }

abbrev pub with_end : Call → Course → Course
with_end call course = record course { done = Some call.number }

-- that of a process after an item more
abbrev pub next_course : ℕ → Course → Item → Course
next_course pid course (items.Enter p call) = cond (p == pid) (with_entry call course) course
next_course pid course (items.Done p call word replaced) = cond (p == pid) (with_end call course) course
next_course pid course (items.Taken p signal cause) = course
next_course pid course (items.Stopped p signal) = course
next_course pid course (items.Exit p word left) = course

-- after these items
unfoldable pub course_by : ℕ → Course → List Item → Course
course_by pid course [] = course
course_by pid course (item ∷ log) = course_by pid (next_course pid course item) log

-- the call is the one that was done last
abbrev pub is_done : ℕ → Option ℕ → Bool
is_done call None = false
is_done call (Some done) = done == call

-- those of this log are these, by process
abbrev pub AreCourses : (ℕ → Course) → List Item → Type 0
AreCourses course log = (pid : ℕ) → course pid ≡ course_by pid first_course log
