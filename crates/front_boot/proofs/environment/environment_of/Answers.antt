use Rattle.std.proofs.Common.{◌≡◌, map, reverse, ap, ◌∙◌}
use Rattle.std.proofs.lemmas.List.{reverse-reverse}
use Rattle.front_boot.proofs.Variables.{map_reverse}
use Rattle.front_boot.proofs.environment.environment_of.Goals as goal

pub returns-in-Ok-bytes_of-clause-set : goal.returns-in-Ok-bytes_of-clause-set
returns-in-Ok-bytes_of-clause-set c = (
  c.in_ok-check_variables.ensures.all,
  c.in-Ok-bytes_of.ensures ∙ ap (map (λ word. word.now)) (c.as_slice.ensures.value ∙ c.reverse.ensures.items)
      ∙ map_reverse (λ word. word.now) c.in-Ok.kept.items ∙ ap reverse c.in-Ok.ensures ∙ reverse-reverse _,
)
