use Rattle.std.proofs.Common.{rules, ◌==◌}
use Rattle.std.proofs.lemmas.Iterator.Search.{any_from_yields_List}
use Rattle.std.proofs.lemmas.Iterator.Splits.{YieldsList-from_slice_split}
use Rattle.front_end.specs.Leavings.{is_no_name}
use Rattle.front_end.proofs.leavings.has_no_name.Goals as goal

pub returns : goal.returns
returns c =
    any_from_yields_List is_no_name _ _ _ c.any.ensures.ran
    (YieldsList-from_slice_split _ (λ b. b == 47) c.args.parts.now c.split.ensures.rest c.split.ensures.done c.split.ensures.closure (λ x b q h. search rules))
    (λ x b q h. search rules)
