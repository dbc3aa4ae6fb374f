use Rattle.std.proofs.Common.{◌≡◌, length, None}
use Rattle.elf_symbols.specs.Addresses.{function_from}
use Rattle.elf_symbols.proofs.addresses.function_at.Given as goal

abbrev pub invariant-loop-function : goal.invariant-loop-function
invariant-loop-function l = function_from l.address l.so_far l.left ≡ function_from l.address None l.functions

abbrev pub decreases-loop-function : goal.decreases-loop-function
decreases-loop-function l = length l.left
