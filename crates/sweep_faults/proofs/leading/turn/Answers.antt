use Rattle.std.proofs.Common.{◌≤◌, sym, subst}
use Rattle.pt_schedule.specs.Schedules.{events_left}
use Rattle.pt_schedule.proofs.Rowing.{left_after}
use Rattle.sweep_faults.specs.Runs.{RunsFaulted}
use Rattle.sweep_faults.proofs.Rows.{row_run}
use Rattle.sweep_faults.proofs.leading.turn.Goals as goal

pub returns-clause-on : goal.returns-clause-on
returns-clause-on c =
    let row = c.in-Ok.ensures.row in
    record {
      past = row.past;
      last = row.last;
      logged = row.logged;
      ahead = row.ahead;
      holds = λ f waits. (
        (row.holds f waits).0,
        λ z rest.
            row_run f c.in-Ok.made c.args.kernel.now c.turn_row.new.kernel c.args.schedule.now c.args.pid c.turns_in_row-more.result z
            (row.holds f waits).1 c.in-Ok.ensures.within c.turns_in_row-more.ensures
            (subst (λ t. RunsFaulted f c.turn_row.new.kernel t z) c.pass.ensures rest),
      );
    }

pub returns-clause-fewer : goal.returns-clause-fewer
returns-clause-fewer c =
    subst (λ t. events_left t ≤ events_left c.args.schedule.now) (sym c.pass.ensures) (left_after c.args.schedule.now c.in-Ok.made)
