use Rattle.std.proofs.Common.{arith}
use Rattle.std.proofs.Math.ListN.{length-set}
use Rattle.elf_frames.specs.declared.instructions.Rule.TheVariants.{Unset}
use Rattle.elf_frames.proofs.Values.{one_more, all_values}
use Rattle.elf_frames.proofs.frames.values.Goals as goal

pub loop-register-preserved : goal.loop-register-preserved
loop-register-preserved g c = record {
  size = simp length-set c.loop-register.invariant.size;
  so_far = one_more (g.M.Memory.double_at c.args.memory.now) c.args.registers.now c.args.cfa c.args.rules.now c.loop-register.caller c.loop-register.register c.value_at.result Unset _ (omega arith) (omega arith) c.value_at.ensures c.loop-register.invariant.so_far;
}

pub returns : goal.returns
returns g c =
    all_values (g.M.Memory.double_at c.args.memory.now) c.args.registers.now c.args.cfa c.args.rules.now c.loop-register.caller c.loop-register.register _ (omega arith) (omega arith) c.loop-register.invariant.so_far
