use Rattle.std.proofs.Common.{arith}
use Rattle.dwarf_data.proofs.Numbers.{leb_none, leb_short, leb_last, leb_more, leb_cut}
use Rattle.dwarf_data.proofs.reading.+leb128_within.Goals as goal

pub returns-then-count-eq0 : goal.returns-then-count-eq0
returns-then-count-eq0 t c = rw c.if-count-eq0.true (leb_none c.args.signed c.args.bytes.now)

pub returns-in_default : goal.returns-in_default
returns-in_default t c = leb_short c.args.signed c.args.count c.args.bytes.now c.in_default.ensures.cases

pub returns-then-byte-lt128 : goal.returns-then-byte-lt128
returns-then-byte-lt128 t c =
    rw (c.in-Some.ensures.cases.0, c.last_bits.ensures)
    (leb_last c.args.signed c.args.count c.in-Some.byte.now c.in-Some.rest.now (omega arith) c.if-byte-lt128.true)

pub returns-in_default-leb128_within : goal.returns-in_default-leb128_within
returns-in_default-leb128_within t c =
    rw c.in-Some.ensures.cases.0
    (leb_cut c.args.signed c.args.count c.in-Some.byte.now c.in-Some.rest.now (omega arith) c.if-byte-lt128.false c.in_default-leb128_within.ensures)

pub returns : goal.returns
returns t c =
    rw (c.in-Some.ensures.cases.0, c.from.ensures)
    (leb_more c.args.signed c.args.count c.in-Some.byte.now c.in-Some.rest.now (c.in-Some-leb128_within.high, c.in-Some-leb128_within.rest.now) (omega arith) c.if-byte-lt128.false c.in-Some-leb128_within.ensures)
