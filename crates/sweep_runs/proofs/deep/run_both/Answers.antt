use Rattle.std.proofs.Common.{List, sym, ap, subst}
use Rattle.lx_abi.specs.declared.log.Item.{Item}
use Rattle.lx_kernel.specs.Runs.{Run}
use Rattle.pt_schedule.specs.declared.schedule.Schedule.{Schedule}
use Rattle.sweep_faults.specs.Deep.{RunsDeep}
use Rattle.sweep_faults.specs.Heard.{HearsBeside}
use Rattle.sweep_runs.specs.Leaders.{first_of}
use Rattle.sweep_runs.proofs.deep.run_both.Goals as goal

pub run_deep_on-requires : goal.run_deep_on-requires
run_deep_on-requires c =
    subst (λ (log : List Item). HearsBeside c.args.calls.now c.new-heard.result log) (sym (ap (λ (k : Run). k.running.log) c.in_ok-kernel.ensures.kernel))
    (c.new-heard.ensures c.args.calls.now)

pub returns-clause-run : goal.returns-clause-run
returns-clause-run c =
    let z = c.in_ok-end.end in
    subst (λ (s : Schedule). RunsDeep c.args.deep (first_of c.args.setup.now) s z) c.in_ok-kernel.ensures.schedule
    (subst (λ (k : Run). RunsDeep c.args.deep k c.in_ok-kernel.schedule z) c.in_ok-kernel.ensures.kernel c.in_ok-end.ensures.run)
