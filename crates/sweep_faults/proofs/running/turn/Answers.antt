use Rattle.std.proofs.Common.{◌≤◌, sym, subst}
use Rattle.pt_schedule.specs.Schedules.{events_left}
use Rattle.pt_schedule.proofs.Rowing.{left_after}
use Rattle.sweep_faults.specs.Runs.{RunsFaulted}
use Rattle.sweep_faults.proofs.Rows.{row_run}
use Rattle.sweep_faults.proofs.running.turn.Goals as goal

pub returns-clause-on : goal.returns-clause-on
returns-clause-on g c = λ z rest.
    row_run c.args.fault c.in-Ok.made c.args.kernel.now c.turn_row.new.kernel c.args.schedule.now c.args.pid c.turns_in_row-more.result z
    c.in-Ok.ensures.row c.in-Ok.ensures.within c.turns_in_row-more.ensures
    (subst (λ t. RunsFaulted c.args.fault c.turn_row.new.kernel t z) c.pass.ensures rest)

pub returns-clause-fewer : goal.returns-clause-fewer
returns-clause-fewer g c =
    subst (λ t. events_left t ≤ events_left c.args.schedule.now) (sym c.pass.ensures) (left_after c.args.schedule.now c.in-Ok.made)
