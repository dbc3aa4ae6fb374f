use Rattle.std.proofs.Common.{[], refl, Result, Ok, Err, OnErr}
use Rattle.guest_commands.proofs.drills.DrilledSink.put.Goals as goal

on_err : {T E P : Type 0} (r : Result T E) → P → OnErr r P
on_err (Ok x) p = tt
on_err (Err e) p = p

-- nothing is known of what a drilled writer holds
pub returns-then-is_err-clause-part : goal.returns-then-is_err-clause-part
returns-then-is_err-clause-part g c = on_err c.match-drill_of.sent ([], (c.args.bytes.now, (refl, tt)))
