use Rattle.std.proofs.Common.{ap, ◌∙◌}
use Rattle.sweep_faults.specs.Processes.{course_in}
use Rattle.sweep_faults.specs.declared.courses.Course.{Course}
use Rattle.sweep_faults.proofs.Coursing.{asked_is}
use Rattle.sweep_faults.proofs.heard.Heard.asked.Goals as goal

pub returns : goal.returns
returns c = λ log h.
    ap (λ (x : Course). x.asked) c.course.ensures ∙ asked_is (course_in c.args.self.now.processes) log h.coursed c.args.pid
