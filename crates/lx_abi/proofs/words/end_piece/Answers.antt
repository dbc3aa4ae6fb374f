use Rattle.std.proofs.Common.{rules, ◌≡◌, ◌∷◌, [], ◌++◌, length, ◌==◌, false, Some}
use Rattle.lx_abi.specs.Words.{word_of}
use Rattle.lx_abi.proofs.Reading.{piece_read}
use Rattle.lx_abi.proofs.words.end_piece.Goals as goal

pub returns-clause-ok : goal.returns-clause-ok
returns-clause-ok c =
    let b : (length c.args.piece.now.items == 0) ≡ false = search rules in
    let e : word_of c.args.piece.now.items ≡ Some c.in-Some.word = search rules in
    let n : c.push.new.self.items ≡ c.args.words.now.items ++ c.in-Some.word ∷ [] = search rules in
    piece_read c.args.words.now.items c.push.new.self.items c.in-Some.word c.args.piece.now.items b e n
