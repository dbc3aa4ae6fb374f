use Rattle.std.proofs.Common.{[], arith, Bor}
use Rattle.lx_abi.specs.declared.boot.GuestFile.{GuestFile}
use Rattle.lx_boot.proofs.Nearest.{too_many_places, all_places_counted, one_place_less, one_place_too_many, in_order_behind}
use Rattle.lx_boot.proofs.limits.ordered_nodes_fit.Goals as goal

abbrev nothing : Bor GuestFile
nothing = record { ref_ptr = (0, 0); now = record { path = []; content = [] } }

pub returns-then-files-ge-MOST_NODES : goal.returns-then-files-ge-MOST_NODES
returns-then-files-ge-MOST_NODES c = too_many_places c.args.files.now c.if-files-ge-MOST_NODES.true

pub returns-in-None : goal.returns-in-None
returns-in-None c =
    one_place_too_many c.args.files.now c.loop-i.i c.loop-i.room c.first_nodes.result nothing c.loop-i-test.true c.loop-i.invariant.ordered c.first_nodes.ensures c.loop-i.invariant.counted
    (let h = c.in-None.ensures in omega (arith, h))

pub loop-i-preserved : goal.loop-i-preserved
loop-i-preserved c =
    let e = c.in-Some.ensures in
    record {
      counted = one_place_less c.args.files.now c.loop-i.i c.loop-i.room c.in-Some.less c.first_nodes.result nothing c.loop-i-test.true c.loop-i.invariant.ordered c.first_nodes.ensures c.loop-i.invariant.counted (omega (arith, e.0, e.1));
      ordered = in_order_behind c.args.files.now c.loop-i.i nothing c.loop-i-test.true c.loop-i.invariant.ordered;
    }

pub returns : goal.returns
returns c = all_places_counted c.args.files.now c.loop-i.i c.loop-i.room (let h = c.loop-i-test.false in omega (arith, h)) c.loop-i.invariant.counted
