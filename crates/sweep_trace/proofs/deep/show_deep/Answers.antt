use Rattle.std.proofs.Common.{List, subst, ◌∙◌}
use Rattle.lx_abi.specs.declared.schedule.Word.{Word}
use Rattle.lx_kernel.specs.Runs.{Run}
use Rattle.pt_schedule.specs.Schedules.{worded}
use Rattle.pt_schedule.specs.declared.schedule.Schedule.{Schedule}
use Rattle.sweep_faults.specs.Deep.{RunsDeep}
use Rattle.sweep_trace.proofs.deep.show_deep.Goals as goal

pub returns-in-Ok : goal.returns-in-Ok
returns-in-Ok c =
    let setup = c.args.setup.now in
    let z = c.run_shown.new.kernel in
    record {
      kernel = z;
      run = subst (λ (k : Run). RunsDeep c.args.deep k (worded setup.turns.items setup.limit) z) c.in_ok-kernel.ensures.first
          (subst (λ (words : List Word). RunsDeep c.args.deep c.in_ok-kernel.kernel (worded words setup.limit) z) c.as_slice.ensures.value
          (subst (λ (s : Schedule). RunsDeep c.args.deep c.in_ok-kernel.kernel s z) c.in_ok-schedule.ensures c.in-Ok.ensures.to));
      console = c.in_ok-shown-in-Ok.ensures ∙ c.in-Ok.ensures.console;
    }
