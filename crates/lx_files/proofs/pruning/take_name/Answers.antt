use Rattle.std.proofs.Common.{◌≡◌, subst}
use Rattle.std.specs.Prelude.{OnSome}
use Rattle.std.specs.FinMap as maps
use Rattle.lx_files.proofs.Adding.{name_taken}
use Rattle.lx_files.proofs.pruning.take_name.Goals as goal

pub returns-in-Some : goal.returns-in-Some
returns-in-Some c =
    let m = c.args.children.now in
    let w = c.remove.new.self in
    let h = subst (λ r. OnSome r (c.get_mut.follows.lender w ≡ maps.insert m c.args.folder w)) c.in-Some.is (c.get_mut.follows.holds w) in
    name_taken m c.args.folder (c.get_mut.follows.lender w) c.in-Some.names.now w c.args.name.now c.in-Some.ensures.value h c.remove.ensures.rest
