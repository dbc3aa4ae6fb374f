use Rattle.std.proofs.Common.{◌≡◌, drop}
use Rattle.std.specs.Prelude.{fold}
use Rattle.lx_exec.specs.Programs.{with_segment}
use Rattle.lx_exec.specs.Rooms.{IsOn, program_pages}
use Rattle.lx_exec.proofs.programs.load_segments.Given as goal

abbrev pub invariant-loop-segment : goal.invariant-loop-segment
invariant-loop-segment l = record {
  so_far : fold with_segment l.space (drop l.segment-index l.segments) ≡ fold with_segment l.fn.space l.segments;
  room : IsOn (program_pages l.segments) l.space;
}
