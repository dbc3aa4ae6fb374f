use Rattle.std.proofs.Common.{◌+◌, ◌-◌, ◌++◌, arith, ap, ◌∙◌}
use Rattle.std.specs.Prelude.{option_to_list}
use Rattle.elf_frames.proofs.Fdes.{no_entry, one_entry, all_entries}
use Rattle.elf_frames.proofs.entries.fdes_from.Goals as goal

pub returns-in_default : goal.returns-in_default
returns-in_default c = no_entry c.args.table c.args.bytes.now (c.args.count - c.loop.counter) c.loop.fdes.items _ c.loop.next c.in_default.is c.loop.invariant

pub loop-preserved : goal.loop-preserved
loop-preserved c =
    one_entry c.args.table c.args.bytes.now (c.args.count - c.loop.counter) (c.args.count - (c.loop.counter + 1)) c.loop.fdes.items _ _ c.loop.next _ c.in-Some.entry (omega arith) c.in-Some.is c.entry_at-next.ensures.found (c.in_ok-push_fde.ensures ∙ ap (λ f. c.loop.fdes.items ++ option_to_list f) c.fde_in.ensures) c.loop.invariant

pub returns : goal.returns
returns c = all_entries c.args.table c.args.bytes.now (c.args.count - c.loop.counter) c.loop.fdes.items _ c.loop.next (omega arith) c.loop.invariant
