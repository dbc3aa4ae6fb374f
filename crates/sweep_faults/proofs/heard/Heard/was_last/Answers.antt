use Rattle.std.proofs.Common.{ap, ◌∙◌}
use Rattle.sweep_faults.specs.Courses.{is_done}
use Rattle.sweep_faults.specs.Processes.{course_in}
use Rattle.sweep_faults.specs.declared.courses.Course.{Course}
use Rattle.sweep_faults.proofs.Coursing.{last_is}
use Rattle.sweep_faults.proofs.heard.Heard.was_last.Goals as goal

pub returns : goal.returns
returns c = λ log h.
    c.is_done.ensures
    ∙ ap (λ (x : Course). is_done c.args.call x.done) c.course.ensures
    ∙ last_is (course_in c.args.self.now.processes) log h.coursed c.args.pid c.args.call
