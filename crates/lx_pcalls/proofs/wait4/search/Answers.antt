use Rattle.std.proofs.Common.{Some, arith, sym, ◌∙◌}
use Rattle.lx_pcalls.proofs.Children.{none_before, none_upto, none_after}
use Rattle.lx_pcalls.proofs.wait4.search.Goals as goal

pub returns-then-is_child : goal.returns-then-is_child
returns-then-is_child c =
    let next = c.in-Some.ensures in
    let up = next.0 in (
      omega (arith, up),
      sym c.is_child.ensures ∙ c.if-is_child.true,
      none_before c.args.entries.now c.args.parent (Some c.args.options) c.loop-child.passed c.in-Some.child c.loop-child.invariant.none next.2,
    )

pub loop-child-preserved : goal.loop-child-preserved
loop-child-preserved c =
    let next = c.in-Some.ensures in
    let m = c.args.entries.now in
    let asked = Some c.args.options in
    record {
      none = none_upto m c.args.parent asked c.in-Some.child
          (none_before m c.args.parent asked c.loop-child.passed c.in-Some.child c.loop-child.invariant.none next.2)
          (sym c.is_child.ensures ∙ c.if-is_child.false);
    }

pub returns : goal.returns
returns c = none_after c.args.entries.now c.args.parent (Some c.args.options) c.loop-child.passed c.loop-child.invariant.none c.in_default.ensures
