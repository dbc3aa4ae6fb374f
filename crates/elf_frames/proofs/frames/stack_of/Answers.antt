use Rattle.std.proofs.Common.{◌+◌, ◌-◌, arith}
use Rattle.elf_frames.proofs.Stacks.{no_frame, one_frame, all_frames}
use Rattle.elf_frames.proofs.frames.stack_of.Goals as goal

pub returns-in_default : goal.returns-in_default
returns-in_default g c = no_frame (g.M.Memory.double_at c.args.memory.now) c.args.bytes.now c.args.index.now (64 - c.loop.counter) c.loop.stack.items _ c.loop.next c.in_default.is c.loop.invariant

pub loop-preserved : goal.loop-preserved
loop-preserved g c =
    one_frame (g.M.Memory.double_at c.args.memory.now) c.args.bytes.now c.args.index.now (64 - c.loop.counter) (64 - (c.loop.counter + 1)) c.loop.stack.items _ _ c.loop.next _ _ (omega arith) c.in-Some.is c.caller_of-next.ensures c.in_ok-push.ensures.items c.loop.invariant

pub returns : goal.returns
returns g c = all_frames (g.M.Memory.double_at c.args.memory.now) c.args.bytes.now c.args.index.now (64 - c.loop.counter) c.loop.stack.items _ c.loop.next (omega arith) c.loop.invariant
