use Rattle.std.proofs.Common.{rules, ◌≡◌, ◌-◌, ◌+◌, refl, arith}
use Rattle.std.specs.Prelude.{min}
use Rattle.sweep_orders.specs.Found.{none_told}
use Rattle.sweep_orders.specs.Orders.{told_of}
use Rattle.sweep_orders.proofs.Joined.{explored}
use Rattle.sweep_orders.proofs.exploring.try_orders.Goals as goal

pub loop-made-preserved : goal.loop-made-preserved
loop-made-preserved g c =
    let l = c.loop-made in
    let within = l.invariant.0 in
    let count : c.min-count.result ≡ min c.batch_size-most.result (c.args.orders - l.made) = search rules in (
      omega (arith, within, count),
      explored c.args.setup.now c.args.source.now l.made c.min-count.result (l.made + c.min-count.result)
          none_told (told_of l.results) (told_of c.try_batch.new.results) refl l.invariant.1 c.in_ok-try_batch.ensures,
    )
