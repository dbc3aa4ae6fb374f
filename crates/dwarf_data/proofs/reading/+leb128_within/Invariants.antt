use Rattle.dwarf_data.proofs.reading.+leb128_within.Given as goal

abbrev pub decreases-leb128_within : goal.decreases-leb128_within
decreases-leb128_within l = l.count
