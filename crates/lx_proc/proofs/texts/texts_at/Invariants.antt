use Rattle.std.proofs.Common.{◌≡◌, ◌+◌, ◌-◌}
use Rattle.std.specs.List.{sum_by}
use Rattle.lx_abi.specs.Limits.{start_limit}
use Rattle.lx_proc.specs.Starts.{cost_of}
use Rattle.lx_proc.specs.Texts.{any_length, texts_at}
use Rattle.lx_proc.proofs.Reading.{texts_before}
use Rattle.lx_proc.proofs.texts.texts_at.Given as goal

abbrev pub invariant-loop-i : goal.invariant-loop-i
invariant-loop-i l = record {
  kept : l.memory ≡ l.fn.memory;
  so_far : texts_before l.texts.items (texts_at l.fn.memory (any_length - l.i) l.at) ≡ texts_at l.fn.memory any_length l.address;
  spent : l.room + sum_by cost_of l.texts.items ≡ start_limit;
}
