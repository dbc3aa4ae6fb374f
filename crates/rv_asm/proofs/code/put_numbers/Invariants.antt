use Rattle.std.proofs.Common.{◌≡◌, ◌++◌, drop}
use Rattle.rv_asm.specs.Codes.{numbers_bytes}
use Rattle.rv_asm.proofs.code.put_numbers.Given as goal

abbrev pub invariant-loop-number : goal.invariant-loop-number
invariant-loop-number l = l.out.items ++ numbers_bytes l.width (drop l.number-index l.numbers) ≡ l.fn.out.items ++ numbers_bytes l.fn.width l.fn.numbers
