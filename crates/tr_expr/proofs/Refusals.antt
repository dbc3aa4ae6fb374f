-- The refusal of a set and parts together.
use Rattle.std.proofs.Common.{◌≡◌, ◌∙◌, ◌++◌, List, Option, None, ap}
use Rattle.std.specs.List.{flat_map}
use Rattle.tr_expr.specs.Faults.{found}
use Rattle.tr_expr.specs.Items.{Reading}
use Rattle.tr_expr.specs.Sets as sets
use Rattle.tr_expr.specs.Parts.{Part, part_causes, error_in, retval_in, last_said}
use Rattle.tr_expr.specs.Rules.{all_causes, whole_causes}
use Rattle.tr_expr.specs.Saids.{IsSaidBy}
use Rattle.tr_expr.specs.declared.fault.ExprFault.{ExprFault}
use Rattle.tr_expr.specs.declared.rule.InjectParts.{InjectParts}
use Rattle.tr_expr.specs.declared.said.Said.{Said}

-- what is found in the set, the parts, and what was said of them is what is found in all
pub found_in_all : (form : InjectParts) (set : List Reading) (parts : List Part) (said : Said) (r : Option ExprFault) → IsSaidBy parts said → r ≡ found None (sets.causes set ++ (flat_map part_causes parts ++ whole_causes form said.error said.retval said.signal)) → r ≡ found None (all_causes form set parts)
found_in_all form set parts said r by e =
    e
    ∙ (ap (λ o. found None (sets.causes set ++ (flat_map part_causes parts ++ whole_causes form o said.retval said.signal))) by.error
    ∙ (ap (λ o. found None (sets.causes set ++ (flat_map part_causes parts ++ whole_causes form (last_said error_in parts) o said.signal))) by.retval
    ∙ ap (λ o. found None (sets.causes set ++ (flat_map part_causes parts ++ whole_causes form (last_said error_in parts) (last_said retval_in parts) o))) by.signal))
