use Rattle.lx_kernel.specs.First.{first_run}
use Rattle.pt_schedule.specs.Schedules.{worded}
use Rattle.plain_run.proofs.Turning.{runs_keep_logs}
use Rattle.sweep_runs.proofs.runs.reach.Goals as goal

pub reached_by-requires : goal.reached_by-requires
reached_by-requires c =
    let setup = c.args.setup.now in
    runs_keep_logs (first_run setup.boot c.args.script) (worded setup.turns.items setup.limit) c.in_ok-kernel.kernel c.in_ok-kernel.ensures

pub returns : goal.returns
returns c = record {
  kernel = c.in_ok-kernel.kernel;
  run = c.in_ok-kernel.ensures;
  reached = c.in_ok-reached.ensures;
}
