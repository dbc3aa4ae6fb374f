use Rattle.std.proofs.Common.{[], ap, ◌++◌}
use Rattle.sweep_rows.specs.Entries.{rows_after, rows_of}
use Rattle.sweep_rows.proofs.entries.occurrences.Goals as goal

pub loop-item-init : goal.loop-item-init
unfolding rows_of
loop-item-init c = (
  [],
  (
    c.new-known.ensures,
    (
      c.new-2.ensures,
      ap (λ rows. rows ++ rows_after c.args.set.now c.args.follow [] c.args.log.now) c.new.ensures.items,
    ),
  ),
)
