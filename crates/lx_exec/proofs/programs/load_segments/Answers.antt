use Rattle.std.proofs.Common.{rules, arith}
use Rattle.std.proofs.lemmas.Grind.{common_steps}
use Rattle.lx_exec.proofs.Roomy.{segment_few, segment_room}
use Rattle.lx_exec.proofs.programs.load_segments.Goals as goal

pub load_segment-requires-clause-few : goal.load_segment-requires-clause-few
load_segment-requires-clause-few c =
    segment_few c.args.segments.now c.loop-segment.space c.loop-segment.segment-index c.segment-item.result c.requires.few c.loop-segment.invariant.room c.loop-segment-test.true c.segment-item.is c.requires.in_range

pub loop-segment-preserved : goal.loop-segment-preserved
loop-segment-preserved c = record {
  so_far = first_of (search rules, grind (arith, common_steps));
  room = segment_room c.args.segments.now c.loop-segment.space c.load_segment.new.space c.loop-segment.segment-index c.segment-item.result c.loop-segment.invariant.room c.loop-segment-test.true c.segment-item.is c.requires.in_range c.in_ok-load_segment.ensures;
}
