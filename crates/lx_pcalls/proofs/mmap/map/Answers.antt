use Rattle.std.proofs.Common.{arith}
use Rattle.lx_pcalls.proofs.Free.{free_aligned, free_within}
use Rattle.lx_pcalls.proofs.mmap.map.Goals as goal

pub map-requires-clause-aligned : goal.map-requires-clause-aligned
map-requires-clause-aligned c = free_aligned c.args.user.now.memory c.args.pages 0x2800000000 0x3000000000 c.in-Some.address c.in-Some.ensures

pub map-requires-clause-within : goal.map-requires-clause-within
map-requires-clause-within c =
    let within = free_within c.args.user.now.memory c.args.pages 0x2800000000 0x3000000000 c.in-Some.address c.in-Some.ensures in
    omega (arith, within)
