use Rattle.std.proofs.Common.{◌∙◌}
use Rattle.lx_exec.proofs.Roomy.{segments_room, words_there, vector_there}
use Rattle.lx_exec.proofs.programs.begin.Goals as goal

pub load_segments-requires-clause-room : goal.load_segments-requires-clause-room
load_segments-requires-clause-room c = segments_room c.args.image.now c.in_ok-memory.memory c.as_slice.result.now c.in_ok-memory.ensures c.as_slice.ensures

pub load-requires : goal.load-requires
load-requires c =
    words_there c.args.image.now c.args.start.now c.in_ok-memory.memory c.load_segments.new.space c.as_slice.result.now c.as_slice-2.result.now
    c.in_ok-memory.ensures c.as_slice.ensures c.in_ok-load_segments.ensures c.as_slice-2.ensures.value c.requires.on_stack

pub load-requires-2 : goal.load-requires-2
load-requires-2 c =
    vector_there c.args.image.now c.args.start.now c.in_ok-memory.memory c.load_segments.new.space c.load.new.space c.as_slice.result.now c.as_slice-2.result.now c.as_slice-3.result.now c.as_slice-4.result.now
    c.in_ok-memory.ensures c.as_slice.ensures c.in_ok-load_segments.ensures c.as_slice-2.ensures.value c.in_ok-load.ensures c.as_slice-3.ensures.value (c.as_slice-4.ensures.value ∙ c.in_ok-vector.ensures) c.requires.on_stack
