use Rattle.std.proofs.Common.{sym, ◌∙◌}
use Rattle.elf_lines.specs.Files.{pools, shape}
use Rattle.elf_lines.proofs.Loops.{past_entry, past_bad, past_end, here_end, here_entry}
use Rattle.elf_lines.proofs.files.entry_behind.Goals as goal

pub returns-then-is_end : goal.returns-then-is_end
returns-then-is_end c = past_end c.args.counted (pools c.args.strings) (shape c.args.format) c.args.count c.loop.counter c.loop.left.now _ c.loop-test.true (sym c.is_end.ensures ∙ c.if-is_end.true) c.loop.invariant

pub returns-in_default : goal.returns-in_default
returns-in_default c = past_bad c.args.counted (pools c.args.strings) (shape c.args.format) c.args.count c.loop.counter c.loop.left.now _ c.loop-test.true (sym c.is_end.ensures ∙ c.if-is_end.false) c.in_default.ensures c.loop.invariant

pub loop-preserved : goal.loop-preserved
loop-preserved c = past_entry c.args.counted (pools c.args.strings) (shape c.args.format) c.args.count c.loop.counter c.loop.left.now _ c.in-Some.rest.now _ c.loop-test.true (sym c.is_end.ensures ∙ c.if-is_end.false) c.in-Some.ensures c.loop.invariant

pub returns-then-is_end-2 : goal.returns-then-is_end-2
returns-then-is_end-2 c = here_end c.args.counted (pools c.args.strings) (shape c.args.format) c.args.count c.loop.counter c.loop.left.now _ c.loop-test.false (sym c.is_end-2.ensures ∙ c.if-is_end-2.true) c.loop.invariant

pub returns : goal.returns
returns c = rw (here_entry c.args.counted (pools c.args.strings) (shape c.args.format) c.args.count c.loop.counter c.loop.left.now _ c.loop-test.false (sym c.is_end-2.ensures ∙ c.if-is_end-2.false) c.loop.invariant) c.entry_at-2.ensures
