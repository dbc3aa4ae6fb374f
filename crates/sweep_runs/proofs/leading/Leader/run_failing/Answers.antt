use Rattle.std.proofs.Common.{List, ap, sym, subst}
use Rattle.lx_abi.specs.declared.log.Item.{Item}
use Rattle.lx_kernel.specs.Runs.{Run}
use Rattle.sweep_faults.specs.Heard.{HearsBeside}
use Rattle.sweep_runs.proofs.Leaders.{copy_comes}
use Rattle.sweep_runs.proofs.leading.Leader.run_failing.Goals as goal

pub run_on-requires : goal.run_on-requires
run_on-requires c =
    let leader = c.stand_at.new.self in
    subst (λ (log : List Item). HearsBeside leader.calls c.in_ok-heard.heard log) (sym (ap (λ (k : Run). k.running.log) c.in_ok-kernel.ensures.cases))
    (c.in_ok-heard.ensures.cases leader.calls leader.kernel.running.log c.in_ok-stand_at.ensures.stands.is_on.heard)

pub returns-clause-run : goal.returns-clause-run
returns-clause-run c =
    copy_comes c.args.setup.now c.place.result c.stand_at.new.self c.in_ok-kernel.kernel c.in_ok-schedule.schedule c.args.fault c.in_ok-end.end
    c.in_ok-stand_at.ensures.stands.there c.place.ensures c.in_ok-kernel.ensures.cases c.in_ok-schedule.ensures.cases c.in_ok-end.ensures.run

pub returns-clause-on : goal.returns-clause-on
returns-clause-on c = c.in_ok-stand_at.ensures.stands.is_on
