use Rattle.std.proofs.Common.{◌≤◌, length, arith}
use Rattle.elf_image.proofs.Lists.{some_header, no_header, all_headers}
use Rattle.elf_image.proofs.headers.headers_of.Goals as goal
use Rattle.elf_image.proofs.headers.headers_of.Goals.{in-Some+in_ok-push, in_default}

pub loop-preserved : goal.loop-preserved
loop-preserved c =
    elim c.match-header_at.branch [
      | in-Some+in_ok-push w ↦ record {
        place = omega arith;
        few = grind (arith, w.in_ok-push.ensures.items);
        so_far = let e = some_header c.args.bytes.now c.loop.next c.args.count c.loop.counter c.loop.found.items _ w.in-Some.header (omega arith) w.in-Some.ensures c.loop.invariant.so_far in cc (e, w.in_ok-push.ensures.items);
      }
      | in_default w ↦ record {
        place = omega arith;
        few = let e : length c.match-header_at.found.items ≤ c.loop.counter = rw w.found-is c.loop.invariant.few in omega arith;
        so_far = let e = no_header c.args.bytes.now c.loop.next c.args.count c.loop.counter c.loop.found.items _ (omega arith) w.in_default.ensures c.loop.invariant.so_far in cc e;
      }
    ]

pub returns-clause-headers : goal.returns-clause-headers
returns-clause-headers c = all_headers c.args.bytes.now c.loop.next c.args.count c.loop.counter c.loop.found.items _ (omega arith) c.loop.invariant.so_far
