-- What a run wrote that fails by a reply that isn't admitted.
use Rattle.std.proofs.Common.{◌≡◌, List, ◌∷◌, ◌++◌, ap, ◌∙◌}
use Rattle.lx_abi.specs.declared.ptrace.Reply.TheVariants.{Done as Agreed}
use Rattle.pt_model.specs.Calls.{FaultsLeaveAPrefix}
use Rattle.pt_model.specs.Parts.{Part}
use Rattle.pt_model.specs.Replies.{told_by}
use Rattle.pt_model.proofs.Composition.{faults_are_for_good}
use Rattle.pt_model.proofs.Owned.{failures_leave_a_prefix}

pub faults_leave_a_prefix : {S B : Type 0} → FaultsLeaveAPrefix S B
faults_leave_a_prefix m laws words outcome o texts script s b events rs more bad task bad_is =
    let prefix = failures_leave_a_prefix m laws words outcome o texts script s b events rs task in
    let same : (told_by o script (Agreed ∷ (rs ++ bad ∷ more))).printed ≡ (told_by o script (Agreed ∷ rs)).printed =
    (faults_are_for_good o script (Agreed ∷ rs) more bad bad_is).0 in
    (prefix.0, (prefix.1.0, ap (λ (ps : List Part). ps ++ prefix.1.0) same ∙ prefix.1.1))
