-- What a schedule sees of a kernel without a tracer: no request is ever ready.
use Rattle.std.specs.Prelude.{false}
use Rattle.lx_model.specs.Finite.{at, task_mode}
use Rattle.lx_model.specs.declared.stage.Task.TheVariants.{Gone}
use Rattle.lx_kernel.specs.Runs.{Run, turn_in}
use Rattle.pt_schedule.specs.Modes.{is_finished, moves}
use Rattle.pt_schedule.specs.Schedules.{Readiness}

abbrev pub readiness_of : Run → Readiness
readiness_of k = record {
  ready = false;
  able = λ p. moves (task_mode (at Gone k.running.tasks p)) (task_mode (turn_in k p).task);
  last_pid = k.running.shared.limits.last_pid;
  finished = λ p. is_finished (task_mode (at Gone k.running.tasks p));
}
