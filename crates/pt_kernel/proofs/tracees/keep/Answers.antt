use Rattle.std.proofs.Common.{◌≡◌, subst}
use Rattle.std.specs.Prelude.{OnSome}
use Rattle.std.specs.FinMap as maps
use Rattle.pt_kernel.proofs.tracees.keep.Goals as goal

pub returns-in-Some : goal.returns-in-Some
returns-in-Some c =
    let w = c.args.traced in
    subst (λ r. OnSome r (c.get_mut.follows.lender w ≡ maps.insert c.args.kept.now c.args.pid w)) c.in-Some.is
    (c.get_mut.follows.holds w)
