use Rattle.std.proofs.Common.{◌≡◌, refl, ap, ◌∙◌, map, subst}
use Rattle.front_boot.specs.Refusals.{MakesBoot}
use Rattle.front_end.specs.Values.{all_of}
use Rattle.front_end.proofs.Given.{all_given}
use Rattle.front_boot.proofs.Worded.{same_words}
use Rattle.front_boot.proofs.boot.boot_asked.Goals as goal

pub returns : goal.returns
returns g c =
    let files = ap (λ s. map (λ v. v.now) s.now) c.unwrap_or-files.ensures
    ∙ all_given (λ s. map (λ v. v.now) s.now) c.get_strs.result _ refl ∙ ap all_of c.get_strs.ensures in
    let directories = ap (λ s. map (λ v. v.now) s.now) c.unwrap_or-directories.ensures
    ∙ all_given (λ s. map (λ v. v.now) s.now) c.get_strs-2.result _ refl ∙ ap all_of c.get_strs-2.ensures in
    let environment = ap (λ s. map (λ v. v.now) s.now) c.unwrap_or-environment.ensures
    ∙ all_given (λ s. map (λ v. v.now) s.now) c.get_strs-3.result _ refl ∙ ap all_of c.get_strs-3.ensures in
    let program = ap (λ s. map (λ v. v.now) s.now) c.unwrap_or-arguments.ensures
    ∙ all_given (λ s. map (λ v. v.now) s.now) c.get_strs-4.result _ refl ∙ ap all_of c.get_strs-4.ensures in
    subst (λ w. MakesBoot g.R.File.Read.remaining w (g.I.Read.remaining c.args.input.now) c.boot_of.result)
    (same_words c.args.follow _ _ _ _ _ _ _ _ files directories environment program) c.boot_of.ensures
