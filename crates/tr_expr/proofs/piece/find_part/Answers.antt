use Rattle.std.proofs.Common.{rules, tests, lit<}
use Rattle.std.proofs.lemmas.Iterator.Search.{find_from_yields_List}
use Rattle.std.proofs.lemmas.Iterator.Splits.{YieldsList-from_str_split}
use Rattle.tr_expr.specs.Parts.{part_of, part_causes}
use Rattle.tr_expr.specs.Pieces.{is_refused}
use Rattle.tr_expr.proofs.piece.find_part.Goals as goal

pub returns : goal.returns
returns c =
    find_from_yields_List (λ part. is_refused c.args.kind (part_causes (part_of c.args.form part))) _ _ c.find.result c.find.ensures.ran
    (YieldsList-from_str_split 58 c.args.parts.now (lit< tt) (cc) (cc) (cc)) (λ x b q k. search (rules, tests))
