use Rattle.std.proofs.Common.{rules, ◌≡◌, [], ◌∷◌, ◌++◌, true, false, sym, ◌∙◌}
use Rattle.std.specs.Char.{is_whitespace}
use Rattle.lx_abi.proofs.Reading.{on_ok, if_err, char_kept, piece_ended, piece_refused}
use Rattle.lx_abi.proofs.words.read_char.Goals as goal

pub returns-then-is_whitespace-clause-ok : goal.returns-then-is_whitespace-clause-ok
returns-then-is_whitespace-clause-ok c =
    let w : is_whitespace c.args.character ≡ true = sym c.is_whitespace.ensures ∙ c.if-is_whitespace.true in
    on_ok c.end_piece.result
    (λ ok empty. piece_ended c.args.words.now.items c.end_piece.new.words.items c.args.piece.now.items c.end_piece.new.piece.items c.args.character w empty ok)
    c.end_piece.ensures.ok c.end_piece.ensures.empty

pub returns-then-is_whitespace-clause-err : goal.returns-then-is_whitespace-clause-err
returns-then-is_whitespace-clause-err c =
    let w : is_whitespace c.args.character ≡ true = sym c.is_whitespace.ensures ∙ c.if-is_whitespace.true in
    if_err c.end_piece.result
    (λ e err. piece_refused e c.args.words.now.items c.args.piece.now.items c.args.character w err)
    c.end_piece.ensures.err

pub returns-clause-ok : goal.returns-clause-ok
returns-clause-ok c =
    let w : is_whitespace c.args.character ≡ false = sym c.is_whitespace.ensures ∙ c.if-is_whitespace.false in
    let n : c.push.new.self.items ≡ c.args.piece.now.items ++ c.args.character ∷ [] = search rules in
    char_kept c.args.words.now.items c.args.piece.now.items c.push.new.self.items c.args.character w n
