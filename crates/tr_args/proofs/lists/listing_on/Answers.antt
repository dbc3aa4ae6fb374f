use Rattle.std.proofs.Common.{Some}
use Rattle.tr_args.specs.Progress.{list_left}
use Rattle.tr_args.proofs.Going.{listing_ended, listing_stopped}
use Rattle.tr_args.proofs.lists.listing_on.Goals as goal

pub returns-in-Ok : goal.returns-in-Ok
returns-in-Ok c = listing_ended c.list_end.result c.args.most c.args.list.now c.items_on.new.list.cut (list_left c.args.most (Some c.items_on.new.list)) c.args.sheet.now c.items_on.new.sheet c.list_end.new.sheet c.items_on.ensures.cut c.in-Ok.ensures.goes c.list_end.ensures

pub returns-in-Err : goal.returns-in-Err
returns-in-Err c = listing_stopped c.in-Err.stop c.args.most c.args.list.now c.items_on.new.list c.args.sheet.now c.items_on.new.sheet c.items_on.ensures.cut c.in-Err.ensures.goes
