use Rattle.std.proofs.Common.{◌≡◌, ◌++◌, ◌-◌}
use Rattle.std.specs.Prelude.{replicate}
use Rattle.rv_asm.proofs.code.put_zeros.Given as goal

abbrev pub invariant-loop : goal.invariant-loop
invariant-loop l = l.out.items ++ replicate (l.count - l.counter) 0 ≡ l.fn.out.items ++ replicate l.fn.count 0
