use Rattle.std.proofs.Common.{inl, inr, sym}
use Rattle.trace_command.proofs.prepared.prepare.Goals as goal

pub returns-in-Err-read_plan-clause-refused : goal.returns-in-Err-read_plan-clause-refused
returns-in-Err-read_plan-clause-refused g c =
    inr (c.in-Ok.options, (sym c.in-Ok.ensures, c.in-Err-read_plan.ensures.refused))

pub returns-in_default-clause-refused : goal.returns-in_default-clause-refused
returns-in_default-clause-refused g c = inr (c.in-Ok.options, (sym c.in-Ok.ensures, inl tt))

pub returns-in_default-program_of-clause-refused : goal.returns-in_default-program_of-clause-refused
returns-in_default-program_of-clause-refused g c = inr (c.in-Ok.options, (sym c.in-Ok.ensures, inl tt))
