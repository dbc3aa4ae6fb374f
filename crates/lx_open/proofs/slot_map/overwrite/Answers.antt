use Rattle.std.proofs.Common.{◌≡◌, Some, ap, sym, subst, ◌∙◌}
use Rattle.std.specs.Prelude.{OnSome}
use Rattle.std.specs.FinMap as maps
use Rattle.lx_open.specs.Rows.{AreOfPids, Rows, flat}
use Rattle.lx_open.proofs.Flat.{pids_again, row_put}
use Rattle.lx_open.proofs.slot_map.overwrite.Goals as goal

pub returns-clause-pids : goal.returns-clause-pids
returns-clause-pids c =
    let w = c.overwrite.new.self in
    let h = subst (λ r. OnSome r (c.get_mut.follows.lender w ≡ maps.insert c.args.rows.now c.args.pid w)) c.in-Some.is (c.get_mut.follows.holds w) in
    λ few. subst (λ (m : Rows). AreOfPids m) (sym h) (pids_again c.args.rows.now c.args.pid c.in-Some.row.now w c.in-Some.ensures.value few)

pub returns-clause-put : goal.returns-clause-put
returns-clause-put c =
    let w = c.overwrite.new.self in
    let h = subst (λ r. OnSome r (c.get_mut.follows.lender w ≡ maps.insert c.args.rows.now c.args.pid w)) c.in-Some.is (c.get_mut.follows.holds w) in
    ap flat h ∙ row_put c.args.rows.now c.args.pid c.args.fd c.in-Some.row.now w (Some c.args.slot) c.requires.small c.in-Some.ensures.value c.overwrite.ensures
