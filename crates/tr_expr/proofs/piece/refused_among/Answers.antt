use Rattle.std.proofs.Common.{length, sym, lit<, arith}
use Rattle.std.proofs.lemmas.List.{length_push}
use Rattle.std.proofs.lemmas.Iterator.Consumers.{YieldsList-turn, YieldsList-end}
use Rattle.std.proofs.lemmas.Iterator.Splits.{YieldsList-from_str_split}
use Rattle.tr_expr.specs.Sets.{pieces}
use Rattle.tr_expr.proofs.Seeking.{item_passed, item_refused, none_refused}
use Rattle.tr_expr.proofs.piece.refused_among.Goals as goal

pub loop-item-init : goal.loop-item-init
loop-item-init c = λ item h. h

pub loop-item-preserved-else-is_kind : goal.loop-item-preserved-else-is_kind
loop-item-preserved-else-is_kind c =
    let t = YieldsList-turn (YieldsList-from_str_split 44 c.args.list.now (lit< tt) (cc) (cc) (cc)) c.loop-item.yielded _ c.loop-item.yielded_by _ _ c.in-Some.item c.in-Some.is c.next.ensures.steps in
    item_passed c.args.kind (pieces 44 c.args.list.now) (length c.loop-item.yielded) _ c.in-Some.item.now c.in_ok-picks.picks c.fault.result t (length_push c.loop-item.yielded c.in-Some.item) c.in_ok-picks.ensures c.fault.ensures (sym c.if-is_kind.ensures) c.loop-item.invariant

pub loop-item-preserved : goal.loop-item-preserved
loop-item-preserved c =
    let t = YieldsList-turn (YieldsList-from_str_split 44 c.args.list.now (lit< tt) (cc) (cc) (cc)) c.loop-item.yielded _ c.loop-item.yielded_by _ _ c.in-Some.item c.in-Some.is c.next.ensures.steps in
    item_passed c.args.kind (pieces 44 c.args.list.now) (length c.loop-item.yielded) _ c.in-Some.item.now c.in_ok-picks.picks c.fault.result t (length_push c.loop-item.yielded c.in-Some.item) c.in_ok-picks.ensures c.fault.ensures (sym c.if-is_kind.ensures) c.loop-item.invariant

pub returns-then-is_kind : goal.returns-then-is_kind
returns-then-is_kind c =
    let t = YieldsList-turn (YieldsList-from_str_split 44 c.args.list.now (lit< tt) (cc) (cc) (cc)) c.loop-item.yielded _ c.loop-item.yielded_by _ _ c.in-Some.item c.in-Some.is c.next.ensures.steps in
    item_refused c.args.kind (pieces 44 c.args.list.now) (length c.loop-item.yielded) c.in-Some.item.now c.in_ok-picks.picks c.fault.result t c.in_ok-picks.ensures c.fault.ensures (sym c.if-is_kind.ensures) c.loop-item.invariant

pub returns : goal.returns
returns c =
    let t = YieldsList-end (YieldsList-from_str_split 44 c.args.list.now (lit< tt) (cc) (cc) (cc)) c.loop-item.yielded _ c.loop-item.yielded_by _ _ c.in-None.is c.next.ensures.steps in
    none_refused c.args.kind (pieces 44 c.args.list.now) (length c.loop-item.yielded) (omega (arith, t.1)) c.loop-item.invariant
