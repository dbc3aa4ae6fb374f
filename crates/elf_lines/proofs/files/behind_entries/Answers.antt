use Rattle.elf_lines.specs.Files.{pools, shape}
use Rattle.elf_lines.proofs.Loops.{one_entry, bad_entry, no_entry}
use Rattle.elf_lines.proofs.files.behind_entries.Goals as goal

pub returns-in_default : goal.returns-in_default
returns-in_default c = bad_entry (pools c.args.strings) (shape c.args.format) c.args.count c.loop.counter c.loop.left.now _ c.loop-test.true c.in_default.ensures c.loop.invariant

pub loop-preserved : goal.loop-preserved
loop-preserved c = one_entry (pools c.args.strings) (shape c.args.format) c.args.count c.loop.counter c.loop.left.now _ c.in-Some.rest.now _ c.loop-test.true c.in-Some.ensures c.loop.invariant

pub returns : goal.returns
returns c = no_entry (pools c.args.strings) (shape c.args.format) c.args.count c.loop.counter c.loop.left.now _ c.loop-test.false c.loop.invariant
