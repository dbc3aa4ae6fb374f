use Rattle.std.proofs.Common.{◌≡◌, ◌+◌, ◌-◌, sym, subst}
use Rattle.elf_lines.specs.Files.{Place, pools, place, empty, entry_from}
use Rattle.elf_lines.proofs.Loops.{one_attribute, bad_format, bad_attribute, no_attribute}
use Rattle.elf_lines.proofs.files.entry_at.Goals as goal

pub returns-in_default : goal.returns-in_default
returns-in_default c = bad_format (pools c.args.strings) c.args.format.count c.loop.counter c.loop.pairs.now (place c.loop.entry) c.loop.left.now _ c.loop-test.true c.in_default.ensures c.loop.invariant

pub returns-in_default-attribute_at : goal.returns-in_default-attribute_at
returns-in_default-attribute_at c = bad_attribute (pools c.args.strings) c.args.format.count c.loop.counter c.loop.pairs.now (place c.loop.entry) c.loop.left.now c.in-Some.kind c.in-Some.form c.in-Some.rest.now _ c.loop-test.true c.in-Some.ensures c.in_default-attribute_at.ensures c.loop.invariant

pub loop-preserved : goal.loop-preserved
loop-preserved c =
    subst
    (λ (p : Place). entry_from (pools c.args.strings) (c.args.format.count - (c.loop.counter + 1)) c.in-Some.rest.now p c.in-Some-attribute_at.behind.now
    ≡ entry_from (pools c.args.strings) c.args.format.count c.args.format.pairs.now empty c.args.bytes.now)
    (sym c.told-entry.ensures)
    (one_attribute (pools c.args.strings) c.args.format.count c.loop.counter c.loop.pairs.now (place c.loop.entry) c.loop.left.now c.in-Some.kind c.in-Some.form c.in-Some.rest.now c.in-Some-attribute_at.text.now c.in-Some-attribute_at.number c.in-Some-attribute_at.behind.now _ c.loop-test.true c.in-Some.ensures c.in-Some-attribute_at.ensures c.loop.invariant)

pub returns : goal.returns
returns c = no_attribute (pools c.args.strings) c.args.format.count c.loop.counter c.loop.pairs.now (place c.loop.entry) c.loop.left.now _ c.loop-test.false c.loop.invariant
