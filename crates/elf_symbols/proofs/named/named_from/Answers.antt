use Rattle.std.proofs.Common.{◌+◌, ◌<◌, length, arith, sym}
use Rattle.elf_symbols.proofs.NamedHeaders.{other_header, header_here, header_outside, no_header_left}
use Rattle.elf_symbols.proofs.named.named_from.Goals as goal
use Rattle.elf_symbols.proofs.named.named_from.Goals.{then-bytes-at-via-then-bytes-at, then-bytes-at-via-else-bytes-at+then-bytes-at-lt-HEADER_SIZE}

pub returns-then-bytes-at-clause-found : goal.returns-then-bytes-at-clause-found
returns-then-bytes-at-clause-found c =
    let outside : length c.args.bytes.now < c.loop.at + 64 = elim c.then-bytes-at.branch [ then-bytes-at-via-then-bytes-at w ↦ omega arith | then-bytes-at-via-else-bytes-at+then-bytes-at-lt-HEADER_SIZE w ↦ omega arith ] in
    header_outside c.args.name.now c.args.bytes.now c.args.names.now c.loop.at c.args.count c.loop.counter _ c.loop-test.true outside c.loop.invariant

pub returns-then-is_named-clause-found : goal.returns-then-is_named-clause-found
returns-then-is_named-clause-found c =
    header_here c.args.name.now c.args.bytes.now c.args.names.now c.loop.at c.args.count c.loop.counter _ c.loop-test.true (omega arith) (sym c.if-is_named.ensures) c.loop.invariant

pub loop-preserved : goal.loop-preserved
loop-preserved c =
    other_header c.args.name.now c.args.bytes.now c.args.names.now c.loop.at c.args.count c.loop.counter _ c.loop-test.true (omega arith) (sym c.if-is_named.ensures) c.loop.invariant

pub returns-clause-found : goal.returns-clause-found
returns-clause-found c = no_header_left c.args.name.now c.args.bytes.now c.args.names.now c.loop.at c.args.count c.loop.counter _ c.loop-test.false c.loop.invariant
