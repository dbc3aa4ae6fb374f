use Rattle.std.proofs.Common.{◌≡◌, ◌-◌}
use Rattle.dwarf_data.specs.Reading.{behind_uleb128s}
use Rattle.dwarf_data.proofs.reading.behind_uleb128s.Given as goal

abbrev pub invariant-loop : goal.invariant-loop
invariant-loop l = behind_uleb128s (l.count - l.counter) l.left ≡ behind_uleb128s l.count l.bytes
