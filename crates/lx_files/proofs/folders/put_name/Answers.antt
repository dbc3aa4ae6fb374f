use Rattle.std.proofs.Common.{◌≡◌, subst}
use Rattle.std.specs.Prelude.{OnSome}
use Rattle.std.specs.FinMap as maps
use Rattle.lx_files.proofs.Adding.{name_put, name_kept}
use Rattle.lx_files.proofs.folders.put_name.Goals as goal

pub returns-in-Ok-clause-ok : goal.returns-in-Ok-clause-ok
returns-in-Ok-clause-ok c =
    let m = c.args.children.now in
    let w = c.insert.new.self in
    let h = subst (λ r. OnSome r (c.get_mut.follows.lender w ≡ maps.insert m c.args.folder w)) c.in-Some.is (c.get_mut.follows.holds w) in
    name_put m c.args.folder (c.get_mut.follows.lender w) c.in-Some.names.now w c.args.name.items c.in-Some.ensures.value h c.args.number c.in-Ok.ensures.ok

pub returns-in-Err-clause-err : goal.returns-in-Err-clause-err
returns-in-Err-clause-err c =
    let m = c.args.children.now in
    let w = c.insert.new.self in
    let h = subst (λ r. OnSome r (c.get_mut.follows.lender w ≡ maps.insert m c.args.folder w)) c.in-Some.is (c.get_mut.follows.holds w) in
    name_kept m c.args.folder (c.get_mut.follows.lender w) c.in-Some.names.now w c.args.name.items c.in-Some.ensures.value h c.in-Err.ensures.err
