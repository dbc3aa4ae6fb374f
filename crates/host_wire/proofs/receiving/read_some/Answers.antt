use Rattle.std.proofs.Common.{arith, refl}
use Rattle.std.proofs.lemmas.List.{length-take}
use Rattle.host_wire.proofs.Gathered.{failed_once, ended_once, faulted_once}
use Rattle.host_wire.proofs.receiving.read_some.Goals as goal

pub returns-in-Err : goal.returns-in-Err
returns-in-Err g c = failed_once _ _ _ c.in-Err.ensures.bytes c.in-Err.ensures.counted c.in-Err.ensures.faults

pub returns-then-count-eq0 : goal.returns-then-count-eq0
returns-then-count-eq0 g c = ended_once _ _ _ _ c.read.new.into c.if-count-eq0.true (omega (arith, c.requires, c.missing.ensures.some, c.min-end.ensures, c.read.auto.into, length-take c.min-end.result c.args.room.now)) c.in-Ok.ensures.bytes c.in-Ok.ensures.counted

pub returns-in-Err-feed : goal.returns-in-Err-feed
returns-in-Err-feed g c = faulted_once _ _ _ _ c.in-Ok.count c.read.new.into _ c.in-Err-feed.fault refl (omega (arith, c.in-Ok.ensures.within, c.read.auto.into)) c.in-Ok.ensures.bytes.0 c.in-Ok.ensures.counted c.in-Err-feed.ensures.fault
