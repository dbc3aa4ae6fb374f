use Rattle.std.proofs.Common.{◌≡◌, ap, subst, ◌∙◌}
use Rattle.std.specs.Prelude.{OnSome, is_some}
use Rattle.std.specs.FinMap as maps
use Rattle.lx_kernel.specs.Tracing.{with_change, with_part_at}
use Rattle.lx_kernel.proofs.Reaching.{changed_stays, part_back, changed_there, nobody_there}
use Rattle.lx_kernel.proofs.tracing.set_stage.Goals as goal

pub returns-in-None-clause-part : goal.returns-in-None-clause-part
returns-in-None-clause-part c =
    c.get_mut.follows.holds-at-none ∙ ap (with_part_at c.args.tasks.now c.args.pid) (nobody_there (with_change c.args.change) c.args.tasks.now c.args.pid c.in-None.ensures.value)

pub returns-in-None-clause-there : goal.returns-in-None-clause-there
returns-in-None-clause-there c = ap is_some (nobody_there (with_change c.args.change) c.args.tasks.now c.args.pid c.in-None.ensures.value)

pub returns-in-Some-clause-part : goal.returns-in-Some-clause-part
returns-in-Some-clause-part c =
    let w = c.change_task.new.task in
    subst (λ r. OnSome r (c.get_mut.follows.lender w ≡ maps.insert c.args.tasks.now c.args.pid w)) c.in-Some.is (c.get_mut.follows.holds w)
    ∙ part_back (with_change c.args.change) (changed_stays c.args.change) c.args.tasks.now c.args.pid c.in-Some.task.now w c.change_task.result c.in-Some.ensures.value c.change_task.ensures

pub returns-in-Some-clause-there : goal.returns-in-Some-clause-there
returns-in-Some-clause-there c = changed_there (with_change c.args.change) (changed_stays c.args.change) c.args.tasks.now c.args.pid c.in-Some.task.now c.change_task.new.task c.change_task.result c.in-Some.ensures.value c.change_task.ensures
