use Rattle.std.proofs.Common.{◌≡◌, ◌++◌, take, drop, length}
use Rattle.elf_frames.specs.Frames as spec
use Rattle.elf_frames.proofs.frames.values.Given as goal

abbrev pub invariant-loop-register : goal.invariant-loop-register
invariant-loop-register g l = record {
  size : length l.caller ≡ 32;
  so_far :
      take l.register l.caller ++ spec.values_from (g.M.Memory.double_at l.memory) l.registers l.cfa l.register (drop l.register l.rules)
      ≡ spec.values_from (g.M.Memory.double_at l.memory) l.registers l.cfa 0 l.rules;
}
