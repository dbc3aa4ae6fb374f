use Rattle.std.proofs.Common.{sym, subst}
use Rattle.tr_values.specs.Sheets.{Has}
use Rattle.tr_args.specs.Progress.{list_left, Moves}
use Rattle.tr_args.proofs.Going.{no_list}
use Rattle.tr_args.proofs.lists.list_on.Goals as goal

pub returns-in-None-clause-goes : goal.returns-in-None-clause-goes
returns-in-None-clause-goes c = subst (λ l. Moves (list_left c.args.most l) c.args.sheet.now (λ x. Has x) c.args.sheet.now) (sym c.in-None.is) (no_list c.args.most c.args.sheet.now)
