use Rattle.std.proofs.Common.{ap}
use Rattle.sweep_rows.proofs.Likening.{first_beside}
use Rattle.sweep_faults.specs.Processes.{course_in, likeness_in}
use Rattle.sweep_faults.specs.declared.processes.Process.{Process}
use Rattle.sweep_faults.specs.declared.processes.Processes.{Processes}
use Rattle.sweep_faults.proofs.Coursing.{first_courses}
use Rattle.sweep_faults.proofs.Processing.{none_told}
use Rattle.sweep_faults.proofs.processes.Processes.new.Goals as goal

pub returns-clause-courses : goal.returns-clause-courses
returns-clause-courses c =
    let none : Processes = record { of = c.new.result } in
    first_courses (course_in none) (λ p. ap (λ (x : Process). x.course) (none_told none c.new.ensures p))

pub returns-clause-beside : goal.returns-clause-beside
returns-clause-beside c = λ calls.
    let none : Processes = record { of = c.new.result } in
    first_beside (likeness_in none) (λ p. ap (λ (x : Process). x.likeness) (none_told none c.new.ensures p)) calls
