use Rattle.std.proofs.Common.{◌≡◌, false, take}
use Rattle.std.specs.List.{list_any}
use Rattle.lx_proc.specs.Read.{is_no_text, AreTexts}
use Rattle.lx_proc.proofs.texts.are_texts.Given as goal

abbrev pub invariant-loop-address : goal.invariant-loop-address
invariant-loop-address l = record {
  kept : l.memory ≡ l.fn.memory;
  seen : AreTexts l.fn.memory l.seen.from l.seen.to;
  so_far : list_any (is_no_text l.fn.memory) (take l.address-index l.addresses) ≡ false;
}
