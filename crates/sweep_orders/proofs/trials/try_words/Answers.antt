use Rattle.std.proofs.Common.{List, subst}
use Rattle.lx_abi.specs.declared.schedule.Word.{Word}
use Rattle.plain_run.specs.Runs.{RunsTo}
use Rattle.plain_run.proofs.Turning.{runs_keep_logs}
use Rattle.pt_schedule.specs.Schedules.{worded}
use Rattle.sweep_orders.specs.Trials.{first_of}
use Rattle.sweep_orders.proofs.trials.try_words.Goals as goal

pub look_at-requires : goal.look_at-requires
look_at-requires c = runs_keep_logs _ _ c.in_ok-kernel.kernel c.in_ok-kernel.ensures

pub returns-clause-run : goal.returns-clause-run
returns-clause-run c =
    let setup = c.args.setup.now in
    record {
      kernel = c.in_ok-kernel.kernel;
      run = subst (λ (words : List Word). RunsTo (first_of setup) (worded words setup.limit) c.in_ok-kernel.kernel)
          c.as_slice.ensures c.in_ok-kernel.ensures;
      left = c.in_ok-trial.ensures.left;
    }
