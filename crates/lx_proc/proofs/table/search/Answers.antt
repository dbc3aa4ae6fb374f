use Rattle.std.proofs.Common.{arith, ap, sym, ◌∙◌}
use Rattle.lx_proc.specs.Families.{is_child, has_child}
use Rattle.lx_proc.proofs.Searching.{none_before, none_upto, none_after}
use Rattle.lx_proc.proofs.table.search.Goals as goal

pub returns-then-is_child : goal.returns-then-is_child
returns-then-is_child c =
    let low = c.loop-pid.invariant.low in
    let next = c.in-Some.ensures in
    let up = next.0 in
    let m = c.args.entries.now in
    let test = has_child m c.args.zombies c.args.parent in (
      omega (arith, low, up),
      sym c.is_child.ensures ∙ c.if-is_child.true,
      none_before m test (λ n e. ap (is_child c.args.zombies c.args.parent) e) c.args.after c.loop-pid.passed c.in-Some.pid c.loop-pid.invariant.none next.2,
    )

pub loop-pid-preserved : goal.loop-pid-preserved
loop-pid-preserved c =
    let low = c.loop-pid.invariant.low in
    let next = c.in-Some.ensures in
    let up = next.0 in
    let m = c.args.entries.now in
    let test = has_child m c.args.zombies c.args.parent in
    record {
      low = omega (arith, low, up);
      none = none_upto m test (λ n e. ap (is_child c.args.zombies c.args.parent) e) c.args.after c.in-Some.pid
          (none_before m test (λ n e. ap (is_child c.args.zombies c.args.parent) e) c.args.after c.loop-pid.passed c.in-Some.pid c.loop-pid.invariant.none next.2)
          (sym c.is_child.ensures ∙ c.if-is_child.false);
    }

pub returns : goal.returns
returns c =
    let m = c.args.entries.now in
    none_after m (has_child m c.args.zombies c.args.parent) (λ n e. ap (is_child c.args.zombies c.args.parent) e) c.args.after c.loop-pid.passed c.loop-pid.invariant.none c.in_default.ensures
