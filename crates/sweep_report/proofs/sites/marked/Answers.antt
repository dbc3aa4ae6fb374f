use Rattle.std.proofs.Common.{◌++◌, List, ℕ, map, codes, ap, ◌∙◌}
use Rattle.std.specs.Char.{to_ascii_uppercase}
use Rattle.sweep_report.proofs.sites.marked.Goals as goal

pub returns : goal.returns
returns c =
    c.in_ok-push_str-2.ensures.bytes
    ∙ ap (λ (front : List ℕ). front ++ c.args.text.now)
    (c.in_ok-push_str.ensures.bytes
    ∙ ap (λ (word : List ℕ). word ++ codes " ")
    (c.make_ascii_uppercase.ensures.bytes ∙ ap (map to_ascii_uppercase) (c.in_ok-line.ensures.ok ∙ c.name_of.ensures)))
