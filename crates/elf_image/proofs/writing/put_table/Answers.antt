use Rattle.elf_image.proofs.RoundTrip.{table_next}
use Rattle.elf_image.proofs.writing.put_table.Goals as goal

pub loop-segment-preserved : goal.loop-segment-preserved
loop-segment-preserved c =
    rw c.len.ensures
    (table_next c.args.segments.now c.loop-segment.segment-index c.loop-segment.offset c.segment-item.result c.loop-segment.out.items c.put_segment.new.out.items _ c.loop-segment-test.true c.segment-item.is
    c.in_ok-put_segment.ensures c.loop-segment.invariant)
