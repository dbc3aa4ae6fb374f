use Rattle.std.proofs.Common.{◌-◌, length, drop, arith}
use Rattle.std.proofs.lemmas.Result.{err_from_is_err_and}
use Rattle.std.proofs.lemmas.List.{drop-drop, length-take, length-drop}
use Rattle.host_wire.specs.Streams.{stream_of}
use Rattle.host_wire.proofs.Streams.{refused, one_frame, no_frame, some_front, no_front, bad_front, some_within}
use Rattle.host_wire.proofs.front.frames.Goals as goal

pub returns-in_err-frame-clause-fault : goal.returns-in_err-frame-clause-fault
returns-in_err-frame-clause-fault c =
    let p = err_from_is_err_and c.from_residual.result c.from_residual.ensures.1 in
    rw (p.1, p.2) (refused c.loop-found.found.items (drop c.loop-found.at c.args.bytes.now) c.in_err-frame.field-0.0 (stream_of c.args.bytes.now) (bad_front c.in_err-frame.field-0.0 c.args.bytes.now c.loop-found.at c.in_err-frame.ensures.gives) c.loop-found.invariant.so_far)

pub loop-found-preserved : goal.loop-found-preserved
loop-found-preserved c = record {
  within =
      let w = some_within c.in_ok-frame.field-0 (c.in-Some.frame, c.in-Some.size) _ c.in-Some.is c.in_ok-frame.ensures.within in
      omega (arith, w.1, length-take (length c.args.bytes.now - c.loop-found.at) (drop c.loop-found.at c.args.bytes.now), length-drop c.loop-found.at c.args.bytes.now, c.loop-found.invariant.within);
  so_far =
      let e = one_frame c.loop-found.found.items (drop c.loop-found.at c.args.bytes.now) c.in-Some.frame c.in-Some.size (stream_of c.args.bytes.now) (some_front c.in_ok-frame.field-0 (c.in-Some.frame, c.in-Some.size) c.args.bytes.now c.loop-found.at c.in-Some.is c.in_ok-frame.ensures.gives) c.loop-found.invariant.so_far in
      rw (c.in_ok-push_back.ensures.items, ← drop-drop c.in-Some.size c.loop-found.at c.args.bytes.now) e;
}

pub returns-clause-whole : goal.returns-clause-whole
returns-clause-whole c = no_frame c.loop-found.found.items (drop c.loop-found.at c.args.bytes.now) (stream_of c.args.bytes.now) (no_front c.in_ok-frame.field-0 c.args.bytes.now c.loop-found.at c.in_default.is c.in_ok-frame.ensures.gives) c.loop-found.invariant.so_far

pub returns-clause-unfinished : goal.returns-clause-unfinished
returns-clause-unfinished c = no_front c.in_ok-frame.field-0 c.args.bytes.now c.loop-found.at c.in_default.is c.in_ok-frame.ensures.gives
