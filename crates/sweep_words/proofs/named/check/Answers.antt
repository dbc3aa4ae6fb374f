use Rattle.std.proofs.Common.{ap, ◌∙◌, inl, inr, map, string_bytes}
use Rattle.std.specs.Prelude.{◌==◌}
use Rattle.sweep_words.proofs.Beside.{some_texts}
use Rattle.sweep_words.proofs.named.check.Goals as goal

pub returns : goal.returns
returns c =
    let texts = c.in_ok-texts.texts in
    let some = some_texts string_bytes texts.items _ (c.is_empty.ensures ∙ ap (λ n. n == 0) texts.ok.0) c.if-is_empty.false in
    inr (inl (map string_bytes texts.items, (c.in_ok-texts.ensures, (some, c.excluded.ensures))))
