use Rattle.std.proofs.Common.{◌≡◌, ◌∷◌, [], ◌++◌, ◌+◌, inr, ap, sym, subst, ◌∙◌, map, take, drop, string_bytes}
use Rattle.front_end.specs.Expressions.{SaysText}
use Rattle.front_end.proofs.Spoken.{said_more, texts_around, texts_more}
use Rattle.front_end.proofs.expressions.parse_expressions.Goals as goal

pub returns-in-Err-clause-refused : goal.returns-in-Err-clause-refused
returns-in-Err-clause-refused c =
    let words = c.args.words.now in
    let k = c.loop-word.word-index in
    let word = c.word-item.result in
    let before = map string_bytes (take k words) in
    let rest = map string_bytes (drop (k + 1) words) in
    inr (
      before,
      (
        c.loop-word.invariant.0,
        (
          rest,
          (
            texts_around string_bytes words k word c.loop-word-test.true
                ∙ ap (λ t. before ++ t ∷ rest) (ap string_bytes (sym c.word-item.is) ∙ sym c.as_str-text.ensures.value),
            (c.loop-word.invariant.1, c.in-Err.ensures.refusal),
          ),
        ),
      ),
    )

pub loop-word-preserved : goal.loop-word-preserved
loop-word-preserved c =
    let words = c.args.words.now in
    let k = c.loop-word.word-index in
    let word = c.word-item.result in
    said_more (map string_bytes (take k words)) (map string_bytes (take (k + 1) words)) (string_bytes word)
    c.in-Ok.expression _ _ _ _
    (texts_more string_bytes words k word c.loop-word-test.true
    ∙ ap (λ w. map string_bytes (take k words) ++ string_bytes w ∷ []) (sym c.word-item.is))
    (subst (λ t. SaysText t c.in-Ok.expression) c.as_str-text.ensures.value c.in-Ok.ensures.meaning)
    c.in-Ok-add_expression.ensures.0 c.in-Ok-add_expression.ensures.1 c.loop-word.invariant
