use Rattle.std.proofs.Common.{◌≡◌, ◌+◌, ◌-◌, ◌*◌, ◌++◌, ◌≤◌, length}
use Rattle.elf_image.specs.Headers.{headers_from}
use Rattle.elf_image.proofs.headers.headers_of.Given as goal

abbrev pub invariant-loop : goal.invariant-loop
invariant-loop l = record {
  place : l.next ≡ l.at + 56 * l.counter;
  few : length l.found.items ≤ l.counter;
  so_far : l.found.items ++ headers_from l.bytes l.next (l.count - l.counter) ≡ headers_from l.bytes l.at l.count;
}
