use Rattle.std.proofs.Common.{◌∙◌, Err, sym, ap, subst}
use Rattle.tr_values.specs.Sheets.{Leaves}
use Rattle.tr_args.specs.Kinds.{next_argument}
use Rattle.tr_args.proofs.Framing.{next_f}
use Rattle.tr_args.proofs.Moving.{part_stopped, part_taken}
use Rattle.tr_args.proofs.kinds.next_argument.Goals as goal

pub returns-in-Ok : goal.returns-in-Ok
returns-in-Ok c =
    let f = next_argument c.args.some c.args.kind c.args.place in
    part_taken c.take.result f c.args.sheet.now c.comma_argument.new.sheet c.take.new.self (next_f c.args.some c.args.kind c.args.place c.requires.kind) (ap f (sym c.in_ok-part.ensures) ∙ c.in-Ok.ensures) c.take.ensures

pub returns-in-Err : goal.returns-in-Err
returns-in-Err c =
    let f = next_argument c.args.some c.args.kind c.args.place in
    part_stopped c.in-Err.stop f c.args.sheet.now c.comma_argument.new.sheet (next_f c.args.some c.args.kind c.args.place c.requires.kind) (subst (λ s. Leaves (Err c.in-Err.stop) c.comma_argument.new.sheet (f s)) c.in_ok-part.ensures c.in-Err.ensures)
