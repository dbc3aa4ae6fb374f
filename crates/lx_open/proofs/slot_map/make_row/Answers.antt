use Rattle.std.proofs.Common.{None, ap, sym, subst, ◌∙◌, get_or, arith}
use Rattle.lx_open.specs.Rows.{AreOfPids, Rows, Slots, row_slot, flat}
use Rattle.lx_open.proofs.Flat.{pids_put, row_alike}
use Rattle.lx_open.proofs.slot_map.make_row.Goals as goal

pub returns-in_ok-insert-in-None-clause-pids : goal.returns-in_ok-insert-in-None-clause-pids
returns-in_ok-insert-in-None-clause-pids c =
    λ few. subst (λ (m : Rows). AreOfPids m) (sym c.in_ok-insert-in-None.ensures.ok)
    (pids_put c.args.rows.now c.args.pid c.new.result (omega (arith, c.ranges)) few)

pub returns-in_ok-insert-in-None-clause-same : goal.returns-in_ok-insert-in-None-clause-same
returns-in_ok-insert-in-None-clause-same c =
    ap flat c.in_ok-insert-in-None.ensures.ok
    ∙ row_alike c.args.rows.now c.args.pid c.new.result
    (λ f. ap (λ (row : Slots). get_or row f None) c.new.ensures ∙ ap (λ o. row_slot o f) c.in-None.ensures)
