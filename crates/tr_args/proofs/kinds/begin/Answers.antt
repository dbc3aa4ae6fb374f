use Rattle.std.proofs.Common.{◌≡◌, true, rules}
use Rattle.tr_args.specs.Kinds.{next_argument}
use Rattle.tr_args.specs.Progress.{is_list}
use Rattle.tr_args.proofs.Beginning.{begins_list, begins_other}
use Rattle.tr_args.proofs.kinds.begin.Goals as goal

pub returns-then-list_is : goal.returns-then-list_is
returns-then-list_is c =
    let e : is_list c.args.kind ≡ true = search rules in
    begins_list c.open.result c.args.some c.args.kind c.args.place c.args.sheet.now c.open.new.sheet e c.open.ensures

pub returns-in-Ok : goal.returns-in-Ok
returns-in-Ok c = begins_other c.args.place.most (next_argument c.args.some c.args.kind c.args.place) c.args.sheet.now c.next_argument.new.sheet c.in-Ok.ensures
