use Rattle.std.proofs.Common.{take, ap, sym, subst, ◌∙◌}
use Rattle.sweep_command.specs.Choosing.{by_novelty, AreChosen}
use Rattle.sweep_command.proofs.choosing.chosen.Goals as goal

pub returns : goal.returns
returns c =
    let cases = c.args.cases.now in
    let sites = c.in_ok-sites.sites.items in
    let most = c.in-Some.most in
    subst (λ m. AreChosen m cases c.first_of.result.items) (sym c.in-Some.is) (
      sites,
      c.in_ok-sites.ensures,
      c.first_of.ensures ∙ ap (take most) (c.in_ok-all.ensures ∙ ap (by_novelty cases) c.as_slice.ensures.value),
    )
