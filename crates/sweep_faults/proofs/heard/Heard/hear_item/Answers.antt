use Rattle.std.proofs.Common.{[], ◌∷◌, ◌++◌, ap, ◌∙◌}
use Rattle.sweep_faults.proofs.heard.Heard.hear_item.Goals as goal

pub returns : goal.returns
returns c = λ log h. record {
  heard = record {
    logged = c.and-self.ensures ∙ ap (λ items. items ++ c.args.item.now ∷ []) h.heard.logged;
    counted = c.in_ok-add.ensures log h.heard.counted;
    coursed = c.in_ok-add-2.ensures.courses log h.heard.coursed;
    known = c.in_ok-add-4.ensures log h.heard.known;
    said = c.in_ok-add-3.ensures log h.heard.known h.heard.said;
  };
  beside = c.in_ok-add-2.ensures.beside log h.beside;
}
