use Rattle.std.proofs.Common.{rules, ◌==◌}
use Rattle.std.proofs.lemmas.Iterator.Search.{any_from_yields_List}
use Rattle.std.proofs.lemmas.Iterator.Splits.{YieldsList-from_slice_split}
use Rattle.lx_boot.specs.Boots.{is_bad_part}
use Rattle.lx_boot.proofs.boots.has_bad_part.Goals as goal

pub returns : goal.returns
returns c =
    any_from_yields_List is_bad_part _ _ _ c.any.ensures.ran
    (YieldsList-from_slice_split _ (λ b. b == 47) c.args.parts.now c.split.ensures.rest c.split.ensures.done c.split.ensures.closure (λ x b q h. search rules))
    (λ x b q h. search rules)
