use Rattle.std.proofs.Common.{◌≡◌, ◌-◌, is_some}
use Rattle.lx_proc.specs.Texts.{texts_at}
use Rattle.lx_proc.proofs.Pointers.{so_far}
use Rattle.lx_proc.proofs.texts.pointers_at.Given as goal

abbrev pub invariant-loop : goal.invariant-loop
invariant-loop l = record {
  kept : l.memory ≡ l.fn.memory;
  so_far : so_far l.fn.memory l.pointers.items (l.limit - l.counter) l.at ≡ is_some (texts_at l.fn.memory l.limit l.address);
}
