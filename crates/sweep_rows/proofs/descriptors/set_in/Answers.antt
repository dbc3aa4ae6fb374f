use Rattle.std.proofs.Common.{[], ◌∷◌, ◌++◌, ap, ◌∙◌, not, rules}
use Rattle.std.specs.Prelude.{◌==◌}
use Rattle.std.proofs.lemmas.Fn.{filter_same}
use Rattle.sweep_rows.proofs.descriptors.set_in.Goals as goal

pub returns : goal.returns
returns c =
    c.in_ok-push.ensures.items
    ∙ ap (λ hs. hs ++ (record { number = c.args.number; used = c.args.used }) ∷ [])
    (filter_same _ (λ h. not (c.args.number == h.number)) _ (λ x b f' r. search rules) _ _ c.retain.ensures.filtered)
