use Rattle.std.proofs.Common.{rules, ◌==◌}
use Rattle.std.proofs.lemmas.Iterator.Search.{all_from_yields_List}
use Rattle.std.proofs.lemmas.Iterator.Splits.{YieldsList-from_slice_split}
use Rattle.lx_boot.specs.Limits.{name_fits}
use Rattle.lx_boot.proofs.limits.names_fit.Goals as goal

pub returns : goal.returns
returns c =
    all_from_yields_List name_fits _ _ _ c.all.ensures.ran
    (YieldsList-from_slice_split _ (λ b. b == 47) c.args.path.now c.split.ensures.rest c.split.ensures.done c.split.ensures.closure (λ x b q h. search rules))
    (λ x b q h. search rules)
