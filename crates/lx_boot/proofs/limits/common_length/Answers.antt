use Rattle.std.proofs.Common.{◌≡◌, ◌≤◌, min, length, ◌∙◌, arith}
use Rattle.lx_boot.proofs.Nodes.{alike_to_an_end}
use Rattle.lx_boot.proofs.limits.common_length.Goals as goal

pub returns : goal.returns
returns c =
    let at_end : min (length c.args.path.now) (length c.args.other.now) ≤ c.loop-i.i = omega (arith, c.min-i-end.ensures) in
    let here : c.min.result ≡ c.loop-i.i = omega (arith, c.min.ensures, c.min-i-end.ensures) in
    here ∙ alike_to_an_end c.args.path.now c.args.other.now c.loop-i.i at_end c.loop-i.invariant
