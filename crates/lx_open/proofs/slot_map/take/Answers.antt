use Rattle.std.proofs.Common.{◌≡◌, length, None, ap, sym, subst, ◌∙◌, arith}
use Rattle.std.proofs.lemmas.Bool.Decides.{nat_tests}
use Rattle.std.specs.Prelude.{OnSome}
use Rattle.std.specs.FinMap as maps
use Rattle.lx_open.specs.Rows.{AreOfPids, Rows, flat}
use Rattle.lx_open.proofs.Flat.{pids_again, pids_removed, row_put, row_emptied, no_row}
use Rattle.lx_open.proofs.slot_map.take.Goals as goal

pub returns-in-None-clause-rest : goal.returns-in-None-clause-rest
returns-in-None-clause-rest c = ap flat c.get_mut.follows.holds-at-none ∙ no_row c.args.rows.now c.args.pid c.args.fd c.requires (sym c.in-None.ensures.value)

pub returns-then-is_empty-clause-pids : goal.returns-then-is_empty-clause-pids
returns-then-is_empty-clause-pids c =
    let w = c.take-was.new.self in
    let h = subst (λ r. OnSome r (c.get_mut.follows.lender w ≡ maps.insert c.args.rows.now c.args.pid w)) c.in-Some.is (c.get_mut.follows.holds w) in
    λ few. subst (λ (m : Rows). AreOfPids m) (sym c.remove.ensures.rest)
    (pids_removed (c.get_mut.follows.lender w) c.args.pid
    (subst (λ (m : Rows). AreOfPids m) (sym h) (pids_again c.args.rows.now c.args.pid c.in-Some.row.now w c.in-Some.ensures.value few)))

pub returns-then-is_empty-clause-rest : goal.returns-then-is_empty-clause-rest
returns-then-is_empty-clause-rest c =
    let w = c.take-was.new.self in
    let h = subst (λ r. OnSome r (c.get_mut.follows.lender w ≡ maps.insert c.args.rows.now c.args.pid w)) c.in-Some.is (c.get_mut.follows.holds w) in
    let none : length w ≡ 0 = grind (arith, nat_tests, c.is_empty.ensures, c.if-is_empty.true) in
    row_emptied c.args.rows.now (c.get_mut.follows.lender w) c.remove.new.self c.args.pid c.args.fd c.in-Some.row.now w c.requires c.in-Some.ensures.value c.take-was.ensures.rest h none c.remove.ensures.rest

pub returns-else-is_empty-clause-pids : goal.returns-else-is_empty-clause-pids
returns-else-is_empty-clause-pids c =
    let w = c.take-was.new.self in
    let h = subst (λ r. OnSome r (c.get_mut.follows.lender w ≡ maps.insert c.args.rows.now c.args.pid w)) c.in-Some.is (c.get_mut.follows.holds w) in
    λ few. subst (λ (m : Rows). AreOfPids m) (sym h) (pids_again c.args.rows.now c.args.pid c.in-Some.row.now w c.in-Some.ensures.value few)

pub returns-else-is_empty-clause-rest : goal.returns-else-is_empty-clause-rest
returns-else-is_empty-clause-rest c =
    let w = c.take-was.new.self in
    let h = subst (λ r. OnSome r (c.get_mut.follows.lender w ≡ maps.insert c.args.rows.now c.args.pid w)) c.in-Some.is (c.get_mut.follows.holds w) in
    ap flat h ∙ row_put c.args.rows.now c.args.pid c.args.fd c.in-Some.row.now w None c.requires c.in-Some.ensures.value c.take-was.ensures.rest
