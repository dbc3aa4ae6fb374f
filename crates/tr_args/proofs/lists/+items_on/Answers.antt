use Rattle.std.proofs.Common.{◌∙◌, sym}
use Rattle.tr_args.specs.Progress.{items_left}
use Rattle.tr_args.proofs.Going.{items_none, items_more, items_stopped}
use Rattle.tr_args.proofs.lists.+items_on.Goals as goal

pub returns-in-None-clause-goes : goal.returns-in-None-clause-goes
returns-in-None-clause-goes k c = items_none c.args.most c.args.list.now c.args.sheet.now (sym c.address.ensures ∙ c.in-None.is)

pub returns-in-Err-clause-goes : goal.returns-in-Err-clause-goes
returns-in-Err-clause-goes k c = items_stopped c.in-Err.stop c.args.most c.args.list.now c.in-Some.address c.args.sheet.now c.next_item.new.sheet (sym c.address.ensures ∙ c.in-Some.is) c.in-Err.ensures

pub returns-in-Ok-clause-goes : goal.returns-in-Ok-clause-goes
returns-in-Ok-clause-goes k c =
    items_more c.items_on.result c.args.most c.args.list.now c.in-Some.address (items_left c.args.most c.items_on.new.list) c.args.sheet.now c.next_item.new.sheet c.items_on.new.sheet (sym c.address.ensures ∙ c.in-Some.is) c.in-Ok.ensures c.items_on.ensures.goes
