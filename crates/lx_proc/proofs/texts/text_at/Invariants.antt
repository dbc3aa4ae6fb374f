use Rattle.std.proofs.Common.{◌≡◌, ◌-◌}
use Rattle.lx_proc.specs.Texts.{text_at}
use Rattle.lx_proc.proofs.Reading.{before}
use Rattle.lx_proc.proofs.texts.text_at.Given as goal

abbrev pub invariant-loop : goal.invariant-loop
invariant-loop l = record {
  kept : l.memory ≡ l.fn.memory;
  so_far : before l.text (text_at l.fn.memory (l.limit - l.counter) l.at) ≡ text_at l.fn.memory l.limit l.address;
}
