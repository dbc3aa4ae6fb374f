use Rattle.std.proofs.Common.{arith}
use Rattle.elf_symbols.proofs.Found.{some_symbol, no_symbol, all_symbols}
use Rattle.elf_symbols.proofs.symbols.functions_from.Goals as goal
use Rattle.elf_symbols.proofs.symbols.functions_from.Goals.{in-Some+in_ok-push, in_default}

pub loop-preserved : goal.loop-preserved
loop-preserved c =
    elim c.match-symbol_at.branch [
      | in-Some+in_ok-push w ↦ record {
        place = omega arith;
        so_far = let e = some_symbol c.args.bytes.now c.args.names c.loop.next c.args.count c.loop.counter c.loop.found.items _ w.in-Some.function (omega arith) w.in-Some.ensures c.loop.invariant.so_far in cc (e, w.in_ok-push.ensures.items);
      }
      | in_default w ↦ record {
        place = omega arith;
        so_far = let e = no_symbol c.args.bytes.now c.args.names c.loop.next c.args.count c.loop.counter c.loop.found.items _ (omega arith) w.in_default.ensures c.loop.invariant.so_far in cc e;
      }
    ]

pub returns : goal.returns
returns c = all_symbols c.args.bytes.now c.args.names c.loop.next c.args.count c.loop.counter c.loop.found.items _ (omega arith) c.loop.invariant.so_far
