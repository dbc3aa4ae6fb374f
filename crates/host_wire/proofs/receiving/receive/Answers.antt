use Rattle.std.proofs.lemmas.Result.{err_from_is_err_and}
use Rattle.host_wire.proofs.Gathered.{waited, nothing_read, read_failed, read_ended, read_frame, read_more, read_enough}
use Rattle.host_wire.proofs.receiving.receive.Goals as goal

pub returns-in-Some-clause-received : goal.returns-in-Some-clause-received
returns-in-Some-clause-received g c = waited _ _ _ _ c.in-Some.ensures.frames c.take.ensures.kept

pub loop-init : goal.loop-init
loop-init g c = nothing_read _ _ _ c.in_default.ensures.none c.in_default.ensures.frames c.take.ensures.kept

pub returns-in_err-read_some-clause-received : goal.returns-in_err-read_some-clause-received
returns-in_err-read_some-clause-received g c =
    let p = err_from_is_err_and c.from_residual.result c.from_residual.ensures.1 in
    rw (p.1, p.2) (read_failed c.in_err-read_some.field-0.0 c.loop-test.true c.loop.invariant c.in_err-read_some.ensures)

pub returns-then-not-branch-clause-received : goal.returns-then-not-branch-clause-received
returns-then-not-branch-clause-received g c = read_ended _ c.if-not-branch.true c.loop-test.true c.loop.invariant c.in_ok-read_some.ensures

pub returns-in-Some-take-clause-received : goal.returns-in-Some-take-clause-received
returns-in-Some-take-clause-received g c = read_frame _ _ c.if-not-branch.false c.loop-test.true c.loop.invariant c.in_ok-read_some.ensures c.in-Some-take.ensures.frames c.take-in-loop.ensures.kept

pub loop-preserved : goal.loop-preserved
loop-preserved g c = read_more _ c.if-not-branch.false c.loop.invariant c.in_ok-read_some.ensures c.in_default-take.ensures.none c.in_default-take.ensures.frames c.take-in-loop.ensures.kept

pub returns-clause-received : goal.returns-clause-received
returns-clause-received g c = read_enough c.loop.auto.counter-end c.loop-test.false c.loop.invariant
