use Rattle.std.proofs.Common.{◌≡◌, ◌+◌, ◌<◌, length, eqb, true, false, arith, sym, ap, ◌∙◌}
use Rattle.std.proofs.lemmas.Bool.{eq-eqb, ne_eqb}
use Rattle.elf_image.specs.Fields.{number_at}
use Rattle.elf_symbols.proofs.Headers.{other_header, header_here, header_outside, no_header_left}
use Rattle.elf_symbols.proofs.sections.header_from.Goals as goal
use Rattle.elf_symbols.proofs.sections.header_from.Goals.{then-bytes-at-via-then-bytes-at, then-bytes-at-via-else-bytes-at+then-bytes-at-lt-HEADER_SIZE}

pub returns-then-bytes-at-clause-found : goal.returns-then-bytes-at-clause-found
returns-then-bytes-at-clause-found c =
    let outside : length c.args.bytes.now < c.loop.at + 64 = elim c.then-bytes-at.branch [ then-bytes-at-via-then-bytes-at w ↦ omega arith | then-bytes-at-via-else-bytes-at+then-bytes-at-lt-HEADER_SIZE w ↦ omega arith ] in
    header_outside c.args.bytes.now c.loop.at c.args.count c.loop.counter _ c.loop-test.true outside c.loop.invariant

pub returns-then-word_at-eq-SYMBOLS-clause-found : goal.returns-then-word_at-eq-SYMBOLS-clause-found
returns-then-word_at-eq-SYMBOLS-clause-found c =
    let same : eqb (number_at 4 (c.loop.at + 4) c.args.bytes.now) 2 ≡ true = eq-eqb _ _ (sym c.word_at.ensures ∙ c.if-word_at-eq-SYMBOLS.true) in
    header_here c.args.bytes.now c.loop.at c.args.count c.loop.counter _ c.loop-test.true (omega arith) same c.loop.invariant

pub loop-preserved : goal.loop-preserved
loop-preserved c =
    let other : eqb (number_at 4 (c.loop.at + 4) c.args.bytes.now) 2 ≡ false = ap (λ n. eqb n 2) (sym c.word_at.ensures) ∙ ne_eqb _ _ c.if-word_at-eq-SYMBOLS.false in
    other_header c.args.bytes.now c.loop.at c.args.count c.loop.counter _ c.loop-test.true (omega arith) other c.loop.invariant

pub returns-clause-found : goal.returns-clause-found
returns-clause-found c = no_header_left c.args.bytes.now c.loop.at c.args.count c.loop.counter _ c.loop-test.false c.loop.invariant
