use Rattle.std.proofs.Common.{◌≡◌, Some, ap, sym, subst, ◌∙◌}
use Rattle.std.proofs.lemmas.Result.{err_from_is_err_and}
use Rattle.std.specs.Prelude.{OnSome}
use Rattle.std.specs.FinMap as maps
use Rattle.lx_open.specs.Rows.{AreOfPids, Rows, row_slot, flat}
use Rattle.lx_open.proofs.Flat.{pids_again, row_put, row_alike}
use Rattle.lx_open.proofs.slot_map.put.Goals as goal

pub returns-clause-pids : goal.returns-clause-pids
returns-clause-pids c =
    let w = c.put.new.self in
    let h = subst (λ r. OnSome r (c.get_mut.follows.lender w ≡ maps.insert c.args.rows.now c.args.pid w)) c.in-Some.is (c.get_mut.follows.holds w) in
    λ few. subst (λ (m : Rows). AreOfPids m) (sym h) (pids_again c.args.rows.now c.args.pid c.in-Some.row.now w c.in-Some.ensures.value few)

pub returns-clause-ok : goal.returns-clause-ok
returns-clause-ok c =
    let w = c.put.new.self in
    let h = subst (λ r. OnSome r (c.get_mut.follows.lender w ≡ maps.insert c.args.rows.now c.args.pid w)) c.in-Some.is (c.get_mut.follows.holds w) in
    ap flat h ∙ row_put c.args.rows.now c.args.pid c.args.fd c.in-Some.row.now w (Some c.args.slot) c.requires c.in-Some.ensures.value c.in_ok-put.ensures.ok

pub returns-in_err-put-clause-pids : goal.returns-in_err-put-clause-pids
returns-in_err-put-clause-pids c =
    let w = c.put.new.self in
    let h = subst (λ r. OnSome r (c.get_mut.follows.lender w ≡ maps.insert c.args.rows.now c.args.pid w)) c.in-Some.is (c.get_mut.follows.holds w) in
    λ few. subst (λ (m : Rows). AreOfPids m) (sym h) (pids_again c.args.rows.now c.args.pid c.in-Some.row.now w c.in-Some.ensures.value few)

pub returns-in_err-put-clause-err : goal.returns-in_err-put-clause-err
returns-in_err-put-clause-err c =
    let w = c.put.new.self in
    let h = subst (λ r. OnSome r (c.get_mut.follows.lender w ≡ maps.insert c.args.rows.now c.args.pid w)) c.in-Some.is (c.get_mut.follows.holds w) in
    let p = err_from_is_err_and c.from_residual.result c.from_residual.ensures.1 in
    rw p.1 (ap flat h ∙ row_alike c.args.rows.now c.args.pid w (λ f. c.in_err-put.ensures.err f ∙ ap (λ o. row_slot o f) c.in-Some.ensures.value))
