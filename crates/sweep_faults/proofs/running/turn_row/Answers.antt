use Rattle.std.proofs.Common.{◌-◌, ◌+◌, ◌∙◌, refl, arith}
use Rattle.plain_run.proofs.Turning.{told_both}
use Rattle.sweep_faults.proofs.Rows.{made_more, made_now}
use Rattle.sweep_faults.proofs.running.turn_row.Goals as goal

pub returns-then-behind-more-clause-row : goal.returns-then-behind-more-clause-row
returns-then-behind-more-clause-row g c =
    made_more c.args.fault c.args.fault c.row.made (c.in-Ok.moved.turns - 1) c.args.kernel.now c.row.kernel c.advance.new.kernel c.args.pid refl c.row.invariant.1 c.in-Ok.ensures.row

pub returns-then-not-next-clause-row : goal.returns-then-not-next-clause-row
returns-then-not-next-clause-row g c =
    made_more c.args.fault c.args.fault c.row.made (c.in-Ok.moved.turns - 1) c.args.kernel.now c.row.kernel c.advance.new.kernel c.args.pid refl c.row.invariant.1 c.in-Ok.ensures.row

pub row-preserved : goal.row-preserved
row-preserved g c =
    let behind = c.row.made + (c.in-Ok.moved.turns - 1) in
    let left = c.if-behind-more.false in (
      omega (arith, left),
      made_now c.args.fault c.args.fault behind (behind + 1) c.args.kernel.now c.advance.new.kernel c.args.pid
          refl refl
          (made_more c.args.fault c.args.fault c.row.made (c.in-Ok.moved.turns - 1) c.args.kernel.now c.row.kernel c.advance.new.kernel c.args.pid refl c.row.invariant.1 c.in-Ok.ensures.row)
          (c.has_next-next.ensures c.if-not-next.false),
      told_both _ _ _ _ _ _ c.row.invariant.2 c.in-Ok.ensures.told,
      c.in-Ok.ensures.begun ∙ c.row.invariant.3,
      c.in-Ok.ensures.heard,
      c.in-Ok.ensures.after,
    )
