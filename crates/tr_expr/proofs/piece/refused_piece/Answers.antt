use Rattle.std.proofs.Common.{◌∙◌, option_map, ap, subst}
use Rattle.tr_expr.specs.Pieces.{IsRefusedPiece, first_piece, piece_shown}
use Rattle.tr_expr.proofs.piece.refused_piece.Goals as goal

pub returns : goal.returns
returns c =
    let cut = c.cut_word-cut.result in
    let item = option_map (λ x. x.now) c.in_ok-item.item in
    subst (λ pieces. IsRefusedPiece c.args.kind pieces (option_map piece_shown c.first_piece.result)) c.cut_word-cut.ensures
    (item, (c.in_ok-item.ensures, c.first_piece.ensures ∙ ap (first_piece cut.form item) c.refused_part-part.ensures))
