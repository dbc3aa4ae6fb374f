use Rattle.std.proofs.Common.{length, [], sym, ap, ◌∙◌, arith}
use Rattle.std.specs.Str.{chars}
use Rattle.std.proofs.lemmas.Iterator.{YieldsList-from_chars}
use Rattle.std.proofs.lemmas.List.{length_push}
use Rattle.std.proofs.lemmas.Result.{err_from_is_err_and}
use Rattle.std.proofs.lemmas.Iterator.Consumers.{YieldsList-turn, YieldsList-end}
use Rattle.lx_abi.specs.Words.{read_on}
use Rattle.lx_abi.proofs.Reading.{begun, turned, refused_turn, ended_all, refused_all}
use Rattle.lx_abi.proofs.words.parse_words.Goals as goal

pub loop-character-init : goal.loop-character-init
loop-character-init c =
    begun c.args.text.now ∙ (ap (λ ws. read_on ws [] (chars c.args.text.now)) (sym c.new-words.ensures.items) ∙ ap (λ p. read_on c.new-words.result.items p (chars c.args.text.now)) (sym c.new-piece.ensures.items))

pub loop-character-preserved : goal.loop-character-preserved
loop-character-preserved c =
    let t = YieldsList-turn (YieldsList-from_chars c.args.text.now c.utf8.text cc) c.loop-character.yielded _ c.loop-character.yielded_by _ _ c.in-Some.character c.in-Some.is c.next.ensures.steps in
    turned _ c.loop-character.words.items c.read_char.new.words.items c.loop-character.piece.items c.read_char.new.piece.items (chars c.args.text.now) (length c.loop-character.yielded) c.in-Some.character _ t (length_push c.loop-character.yielded c.in-Some.character) c.in_ok-read_char.ensures.ok c.loop-character.invariant

pub returns-in_err-read_char : goal.returns-in_err-read_char
returns-in_err-read_char c =
    let t = YieldsList-turn (YieldsList-from_chars c.args.text.now c.utf8.text cc) c.loop-character.yielded _ c.loop-character.yielded_by _ _ c.in-Some.character c.in-Some.is c.next.ensures.steps in
    let p = err_from_is_err_and c.from_residual.result c.from_residual.ensures.1 in
    rw (p.1, p.2) (refused_turn _ _ c.loop-character.words.items c.loop-character.piece.items (chars c.args.text.now) (length c.loop-character.yielded) c.in-Some.character t c.in_err-read_char.ensures.err c.loop-character.invariant)

pub returns-in_err-end_piece : goal.returns-in_err-end_piece
returns-in_err-end_piece c =
    let t = YieldsList-end (YieldsList-from_chars c.args.text.now c.utf8.text cc) c.loop-character.yielded _ c.loop-character.yielded_by _ _ c.in-None.is c.next.ensures.steps in
    let p = err_from_is_err_and c.from_residual-in_err-end_piece.result c.from_residual-in_err-end_piece.ensures.1 in
    rw (p.1, p.2) (refused_all _ _ c.loop-character.words.items c.loop-character.piece.items (chars c.args.text.now) (length c.loop-character.yielded) (omega (arith, t.1)) c.in_err-end_piece.ensures.err c.loop-character.invariant)

pub returns : goal.returns
returns c =
    let t = YieldsList-end (YieldsList-from_chars c.args.text.now c.utf8.text cc) c.loop-character.yielded _ c.loop-character.yielded_by _ _ c.in-None.is c.next.ensures.steps in
    ended_all _ c.loop-character.words.items c.end_piece.new.words.items c.loop-character.piece.items (chars c.args.text.now) (length c.loop-character.yielded) (omega (arith, t.1)) c.in_ok-end_piece.ensures.ok c.loop-character.invariant
