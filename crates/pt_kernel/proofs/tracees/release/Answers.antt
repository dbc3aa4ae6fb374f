use Rattle.std.proofs.Common.{◌≡◌, ap, subst, false, ◌∙◌}
use Rattle.std.specs.Prelude.{OnSome}
use Rattle.std.specs.FinMap as maps
use Rattle.pt_model.specs.Hosting.{released}
use Rattle.pt_model.specs.declared.ptrace.Traced.{Traced}
use Rattle.pt_kernel.proofs.tracees.release.Goals as goal

pub returns-in-Some : goal.returns-in-Some
returns-in-Some c =
    let x = c.args.kept.now in
    let w : Traced = record c.in-Some.traced.now { held = false } in
    subst (λ r. OnSome r (c.get_mut.follows.lender w ≡ maps.insert x c.args.pid w)) c.in-Some.is (c.get_mut.follows.holds w)
    ∙ ap (released x c.args.pid) c.in-Some.ensures.value
