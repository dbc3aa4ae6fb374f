use Rattle.std.proofs.Common.{◌≡◌, ◌∷◌, ◌++◌, ap, ◌∙◌}
use Rattle.lx_files.specs.Paths.{slash}
use Rattle.lx_files.proofs.Ways.{if_some, stripped}
use Rattle.lx_files.proofs.known.below.Goals as goal

pub returns-in-Some : goal.returns-in-Some
returns-in-Some c =
    let cases = c.in-Some.ensures.cases in
    if_some c.after_slash.result (λ r. c.in-Some.rest.now ≡ slash ∷ r.now) (λ r. c.args.path.now ≡ c.args.directory.now ++ slash ∷ r.now)
    (λ r e. stripped c.args.path.now c.args.directory.now c.in-Some.rest.now cases.0 cases.1 ∙ ap (λ t. c.args.directory.now ++ t) e) c.after_slash.ensures
