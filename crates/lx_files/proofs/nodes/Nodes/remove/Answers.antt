use Rattle.std.specs.Cmp.{nat_cmp_total}
use Rattle.std.specs.FinMap as maps
use Rattle.lx_files.specs.Kinds.{size_of}
use Rattle.lx_files.proofs.Totals.{kept_same, kept_less}
use Rattle.lx_files.proofs.nodes.Nodes.remove.Goals as goal

pub invariant_of-self : goal.invariant_of-self
invariant_of-self c = kept_same nat_cmp_total maps.nat_cmp-IsAntisymmetric size_of _ _ c.args.node _ c.in-None.ensures.value c.self.invariant c.remove.ensures.rest

pub invariant_of-self-in-Some : goal.invariant_of-self-in-Some
invariant_of-self-in-Some c = kept_less nat_cmp_total maps.nat_cmp-IsAntisymmetric size_of _ _ c.args.node c.in-Some.old _ _ _ c.in-Some.ensures.value c.self.invariant c.size.ensures c.saturating_sub-self-inside.ensures c.remove.ensures.rest

pub invariant_of-self-in-Some-2 : goal.invariant_of-self-in-Some-2
invariant_of-self-in-Some-2 c = kept_less nat_cmp_total maps.nat_cmp-IsAntisymmetric size_of _ _ c.args.node c.in-Some.old _ _ _ c.in-Some.ensures.value c.self.invariant c.size.ensures c.saturating_sub-self-inside.ensures c.remove.ensures.rest
