use Rattle.std.proofs.Common.{◌++◌, List, ℕ, codes, ap, ◌∙◌}
use Rattle.sweep_report.proofs.sites.fields.Goals as goal

pub returns : goal.returns
returns c =
    c.in_ok-push_str-4.ensures.bytes
    ∙ ap (λ (front : List ℕ). front ++ c.args.object.now)
    (c.in_ok-push_str-3.ensures.bytes
    ∙ ap (λ (front : List ℕ). front ++ codes " ")
    (c.in_ok-push_str-2.ensures.bytes
    ∙ ap (λ (front : List ℕ). front ++ c.args.function.now)
    (c.in_ok-push_str.ensures.bytes ∙ ap (λ (front : List ℕ). front ++ codes " ") c.in_ok-text.ensures.ok)))
