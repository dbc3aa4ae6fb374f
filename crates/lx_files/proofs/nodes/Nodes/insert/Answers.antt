use Rattle.std.proofs.Common.{rules}
use Rattle.std.specs.Cmp.{nat_cmp_total}
use Rattle.std.specs.FinMap as maps
use Rattle.lx_files.specs.Kinds.{size_of}
use Rattle.lx_files.proofs.Totals.{kept_put}
use Rattle.lx_files.proofs.nodes.Nodes.insert.Goals as goal

pub invariant_of-self-2 : goal.invariant_of-self-2
invariant_of-self-2 c = kept_put nat_cmp_total maps.nat_cmp-IsAntisymmetric size_of c.self.inside.map _ c.args.node c.args.value _ _ _ _ c.self.invariant c.size_at-before.ensures c.size.ensures (search rules) c.in_ok-insert.ensures.ok
