use Rattle.std.proofs.Common.{[], ◌∷◌, ◌++◌, sym, subst}
use Rattle.sweep_rows.specs.Likeness.{GoBeside}
use Rattle.sweep_faults.specs.Courses.{AreCourses}
use Rattle.sweep_faults.specs.Processes.{course_in, likeness_in}
use Rattle.sweep_faults.specs.declared.processes.Processes.{Processes}
use Rattle.sweep_faults.proofs.Processing.{beside_ended, beside_entered, beside_still, courses_ended, courses_entered, courses_still, none_entered, none_moved}
use Rattle.sweep_faults.proofs.processes.Processes.add.Goals as goal

pub returns-in_ok-enter-in-Enter-clause-courses : goal.returns-in_ok-enter-in-Enter-clause-courses
returns-in_ok-enter-in-Enter-clause-courses c = λ past h.
    let new : Processes = record { of = c.enter.new.of } in
    subst (λ item. AreCourses (course_in new) (past ++ item ∷ [])) (sym c.in-Enter.is)
    (courses_entered c.args.calls.now c.args.self.now new c.in-Enter.pid c.in-Enter.call c.in_ok-enter-in-Enter.ensures past h)

pub returns-in_ok-enter-in-Enter-clause-beside : goal.returns-in_ok-enter-in-Enter-clause-beside
returns-in_ok-enter-in-Enter-clause-beside c = λ past h.
    let new : Processes = record { of = c.enter.new.of } in
    subst (λ item. GoBeside c.args.calls.now (likeness_in new) (past ++ item ∷ [])) (sym c.in-Enter.is)
    (beside_entered c.args.calls.now c.args.self.now new c.in-Enter.pid c.in-Enter.call c.in_ok-enter-in-Enter.ensures past h)

pub returns-in_ok-end-in-Done-clause-courses : goal.returns-in_ok-end-in-Done-clause-courses
returns-in_ok-end-in-Done-clause-courses c = λ past h.
    let new : Processes = record { of = c.end.new.of } in
    subst (λ item. AreCourses (course_in new) (past ++ item ∷ [])) (sym c.in-Done.is)
    (courses_ended c.args.self.now new c.in-Done.pid c.in-Done.call c.in-Done.result c.in-Done.replaced c.in_ok-end-in-Done.ensures past h)

pub returns-in_ok-end-in-Done-clause-beside : goal.returns-in_ok-end-in-Done-clause-beside
returns-in_ok-end-in-Done-clause-beside c = λ past h.
    let new : Processes = record { of = c.end.new.of } in
    subst (λ item. GoBeside c.args.calls.now (likeness_in new) (past ++ item ∷ [])) (sym c.in-Done.is)
    (beside_ended c.args.self.now new c.in-Done.pid c.in-Done.call c.in-Done.result c.in-Done.replaced c.in_ok-end-in-Done.ensures c.args.calls.now past h)

pub returns-in_default : goal.returns-in_default
returns-in_default c = record {
  courses = λ past h.
      courses_still c.args.item.now (none_moved c.args.item.now c.in_default.not-Enter c.in_default.not-Done) c.args.self.now past h;
  beside = λ past h.
      beside_still c.args.item.now (none_entered c.args.item.now c.in_default.not-Enter) c.args.calls.now c.args.self.now past h;
}
