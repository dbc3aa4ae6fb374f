use Rattle.std.proofs.Common.{inl, inr, sym, subst, map, string_bytes, ⊎_elim}
use Rattle.front_end.specs.Expressions.{AreExpressions}
use Rattle.front_end.proofs.Refusing.{refused_so}
use Rattle.front_end.proofs.expressions.read_expressions.Goals as goal

pub returns-in-Ok-parse_expressions-clause-asked : goal.returns-in-Ok-parse_expressions-clause-asked
returns-in-Ok-parse_expressions-clause-asked c = (
  map string_bytes c.as_slice.result.now,
  (
    subst (λ l. AreExpressions c.args.matches.now (map string_bytes l)) (sym c.as_slice.ensures.value) c.in-Ok.ensures,
    c.in-Ok-parse_expressions.ensures.said,
  ),
)

pub returns-clause-refused : goal.returns-clause-refused
returns-clause-refused c =
    refused_so _ _ _ c.refusal.ensures
    (⊎_elim inl
    (λ first. inr (
      map string_bytes c.as_slice.result.now,
      (
        subst (λ l. AreExpressions c.args.matches.now (map string_bytes l)) (sym c.as_slice.ensures.value) c.in-Ok.ensures,
        (c.in-Err.refused.text.now, first),
      ),
    ))
    c.in-Err.ensures.refused)
