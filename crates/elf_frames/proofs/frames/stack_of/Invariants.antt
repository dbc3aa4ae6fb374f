use Rattle.std.proofs.Common.{◌≡◌, ◌-◌, ◌++◌, Some}
use Rattle.elf_frames.specs.Frames as spec
use Rattle.elf_frames.proofs.frames.stack_of.Given as goal

abbrev pub invariant-loop : goal.invariant-loop
invariant-loop g l =
    l.stack.items ++ spec.stack_from (64 - l.counter) (g.M.Memory.double_at l.memory) l.bytes l.index l.next
    ≡ spec.stack_from 64 (g.M.Memory.double_at l.memory) l.bytes l.index (Some l.fn.innermost)
