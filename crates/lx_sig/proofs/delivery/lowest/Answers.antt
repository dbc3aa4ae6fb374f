use Rattle.std.proofs.Common.{sym, is_some}
use Rattle.std.specs.List.{list_any, range_with_len}
use Rattle.lx_sig.proofs.NonePending.{is_none, nothing_comes}
use Rattle.lx_sig.proofs.delivery.lowest.Goals as goal

pub returns-then-is_empty : goal.returns-then-is_empty
returns-then-is_empty c =
    let s = c.args.signals.now in
    let none = is_none (list_any is_some s.pending) c.is_empty.result c.is_empty.ensures c.if-is_empty.true in
    sym (nothing_comes s none (range_with_len 1 31))
