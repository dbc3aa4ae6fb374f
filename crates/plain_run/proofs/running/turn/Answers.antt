use Rattle.std.proofs.Common.{◌≤◌, [], sym, subst}
use Rattle.pt_schedule.specs.Schedules.{events_left}
use Rattle.pt_schedule.proofs.Rowing.{left_after}
use Rattle.plain_run.specs.Runs.{IsRun, RunsTo}
use Rattle.plain_run.specs.Notes.{turns_of}
use Rattle.plain_run.proofs.Noting.{row_leads, row_runs}
use Rattle.plain_run.proofs.Turning.{row_run}
use Rattle.plain_run.proofs.running.turn.Goals as goal

pub returns-clause-on : goal.returns-clause-on
returns-clause-on g c = λ z rest.
    row_run c.in-Ok.made c.args.kernel.now c.turn_row.new.kernel c.args.schedule.now c.args.pid c.turns_in_row-more.result z
    c.in-Ok.ensures.row c.in-Ok.ensures.within c.turns_in_row-more.ensures
    (subst (λ t. RunsTo c.turn_row.new.kernel t z) c.pass.ensures rest)

pub returns-clause-fewer : goal.returns-clause-fewer
returns-clause-fewer g c =
    subst (λ t. events_left t ≤ events_left c.args.schedule.now) (sym c.pass.ensures) (left_after c.args.schedule.now c.in-Ok.made)

pub returns-clause-noted : goal.returns-clause-noted
returns-clause-noted g c = λ first. record {
  pids = turns_of c.in-Ok.made c.args.pid [];
  lead = row_leads c.in-Ok.made c.args.kernel.now c.turn_row.new.kernel c.args.pid c.in-Ok.ensures.row;
  runs = λ z later rest.
      row_runs c.in-Ok.made c.args.kernel.now c.turn_row.new.kernel c.args.schedule.now c.args.pid c.turns_in_row-more.result z later
      c.in-Ok.ensures.row c.in-Ok.ensures.within c.turns_in_row-more.ensures
      (subst (λ t. IsRun c.turn_row.new.kernel t later z) c.pass.ensures rest);
  notes = c.in-Ok.ensures.noted first;
}
