use Rattle.std.proofs.Common.{◌∙◌, Err, sym, ap, subst}
use Rattle.tr_values.specs.Sheets.{Leaves}
use Rattle.tr_args.specs.Progress.{item_shown}
use Rattle.tr_args.proofs.Framing.{comma_item_f}
use Rattle.tr_args.proofs.Moving.{part_stopped, part_taken}
use Rattle.tr_args.proofs.lists.next_item.Goals as goal

pub returns-in-Ok : goal.returns-in-Ok
returns-in-Ok c =
    let f = item_shown c.args.most c.args.some c.args.address in
    part_taken c.take.result f c.args.sheet.now c.comma_item.new.sheet c.take.new.self (comma_item_f c.args.most c.args.some c.args.address) (ap f (sym c.in_ok-part.ensures) ∙ c.in-Ok.ensures) c.take.ensures

pub returns-in-Err : goal.returns-in-Err
returns-in-Err c =
    let f = item_shown c.args.most c.args.some c.args.address in
    part_stopped c.in-Err.stop f c.args.sheet.now c.comma_item.new.sheet (comma_item_f c.args.most c.args.some c.args.address) (subst (λ s. Leaves (Err c.in-Err.stop) c.comma_item.new.sheet (f s)) c.in_ok-part.ensures c.in-Err.ensures)
