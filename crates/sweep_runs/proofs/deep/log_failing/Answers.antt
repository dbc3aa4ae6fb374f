use Rattle.std.specs.Prelude.{[]}
use Rattle.lx_kernel.specs.First.{first_run}
use Rattle.pt_schedule.specs.Schedules.{worded}
use Rattle.sweep_faults.proofs.Rows.{runs_keep_logs}
use Rattle.sweep_runs.proofs.deep.log_failing.Goals as goal

pub log_of-requires : goal.log_of-requires
log_of-requires c =
    let setup = c.args.setup.now in
    runs_keep_logs c.args.fault (first_run setup.boot []) (worded setup.turns.items setup.limit) c.in_ok-kernel.kernel c.in_ok-kernel.ensures

pub returns : goal.returns
returns c = record {
  kernel = c.in_ok-kernel.kernel;
  run = c.in_ok-kernel.ensures;
  logged = c.log_of.ensures;
}
