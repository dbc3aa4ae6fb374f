use Rattle.std.proofs.Common.{List, refl, sym, subst, arith}
use Rattle.lx_abi.specs.declared.log.Item.{Item}
use Rattle.sweep_faults.specs.Heard.{HearsBeside}
use Rattle.sweep_faults.proofs.Ahead.{left_more, row_before, row_on}
use Rattle.sweep_faults.proofs.leading.turn_row.Goals as goal

pub row-init : goal.row-init
row-init c = (omega arith, λ f waits. (waits, refl), c.requires.ahead, c.requires.some, c.requires.heard)

pub returns-then-behind-more-clause-row : goal.returns-then-behind-more-clause-row
returns-then-behind-more-clause-row c =
    row_before c.args.kernel.now c.row.kernel c.go_on.new.kernel c.args.pid c.row.made c.in-Ok.moved.turns c.go_on.new.item
    c.row.invariant.1 c.in-Ok.ensures.row c.args.place c.row.left c.row.invariant.2 c.row.invariant.3 c.in-Ok.ensures.logged

pub returns-then-behind-more-clause-heard : goal.returns-then-behind-more-clause-heard
returns-then-behind-more-clause-heard c =
    subst (λ (log : List Item). HearsBeside c.args.calls.now c.hear.new.self log) (sym c.in-Ok.ensures.logged)
    (c.in_default.ensures c.row.kernel.running.log c.row.invariant.4)

pub returns-then-behind-more-clause-ahead : goal.returns-then-behind-more-clause-ahead
returns-then-behind-more-clause-ahead c =
    left_more c.args.place c.row.left c.left_after.result c.go_on.new.item c.row.kernel.running.log c.go_on.new.kernel.running.log
    c.row.invariant.3 c.left_after.ensures c.in-Ok.ensures.logged c.row.invariant.2

pub returns-then-not-next-clause-row : goal.returns-then-not-next-clause-row
returns-then-not-next-clause-row c =
    row_before c.args.kernel.now c.row.kernel c.go_on.new.kernel c.args.pid c.row.made c.in-Ok.moved.turns c.go_on.new.item
    c.row.invariant.1 c.in-Ok.ensures.row c.args.place c.row.left c.row.invariant.2 c.row.invariant.3 c.in-Ok.ensures.logged

pub returns-then-not-next-clause-heard : goal.returns-then-not-next-clause-heard
returns-then-not-next-clause-heard c =
    subst (λ (log : List Item). HearsBeside c.args.calls.now c.hear.new.self log) (sym c.in-Ok.ensures.logged)
    (c.in_default.ensures c.row.kernel.running.log c.row.invariant.4)

pub returns-then-not-next-clause-ahead : goal.returns-then-not-next-clause-ahead
returns-then-not-next-clause-ahead c =
    left_more c.args.place c.row.left c.left_after.result c.go_on.new.item c.row.kernel.running.log c.go_on.new.kernel.running.log
    c.row.invariant.3 c.left_after.ensures c.in-Ok.ensures.logged c.row.invariant.2

pub row-preserved : goal.row-preserved
row-preserved c =
    let left = c.if-behind-more.false in (
      omega (arith, left),
      row_on c.args.kernel.now c.row.kernel c.go_on.new.kernel c.args.pid c.row.made c.in-Ok.moved.turns c.go_on.new.item
          c.row.invariant.1 c.in-Ok.ensures.row c.in-Ok.ensures.logged (c.has_next-next.ensures.on c.if-not-next.false),
      left_more c.args.place c.row.left c.left_after.result c.go_on.new.item c.row.kernel.running.log c.go_on.new.kernel.running.log
          c.row.invariant.3 c.left_after.ensures c.in-Ok.ensures.logged c.row.invariant.2,
      c.has_next-next.ensures.ahead c.if-not-next.false,
      subst (λ (log : List Item). HearsBeside c.args.calls.now c.hear.new.self log) (sym c.in-Ok.ensures.logged)
          (c.in_default.ensures c.row.kernel.running.log c.row.invariant.4),
    )
