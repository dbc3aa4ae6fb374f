use Rattle.std.specs.Cmp.{nat_cmp_total}
use Rattle.std.specs.FinMap as maps
use Rattle.lx_open.specs.Kinds.{reads_pipe, writes_pipe, has_node}
use Rattle.lx_files.proofs.Totals.{agree_none, agree_less}
use Rattle.lx_open.proofs.descriptions.Descriptions.remove.Goals as goal

pub invariant_of-self : goal.invariant_of-self
invariant_of-self c = record {
  readers = agree_none nat_cmp_total maps.nat_cmp-IsAntisymmetric reads_pipe c.self.inside.ends.readers _ _ c.args.number c.in-None.ensures.value c.self.invariant.readers c.remove.ensures.rest;
  writers = agree_none nat_cmp_total maps.nat_cmp-IsAntisymmetric writes_pipe c.self.inside.ends.writers _ _ c.args.number c.in-None.ensures.value c.self.invariant.writers c.remove.ensures.rest;
  nodes = agree_none nat_cmp_total maps.nat_cmp-IsAntisymmetric has_node c.self.inside.ends.nodes _ _ c.args.number c.in-None.ensures.value c.self.invariant.nodes c.remove.ensures.rest;
}

pub invariant_of-self-in-Some : goal.invariant_of-self-in-Some
invariant_of-self-in-Some c = record {
  readers = agree_less nat_cmp_total maps.nat_cmp-IsAntisymmetric reads_pipe c.self.inside.ends.readers c.subtract.new.self.readers _ _ c.args.number c.in-Some.description c.in-Some.ensures.value c.self.invariant.readers c.remove.ensures.rest c.subtract.ensures.readers;
  writers = agree_less nat_cmp_total maps.nat_cmp-IsAntisymmetric writes_pipe c.self.inside.ends.writers c.subtract.new.self.writers _ _ c.args.number c.in-Some.description c.in-Some.ensures.value c.self.invariant.writers c.remove.ensures.rest c.subtract.ensures.writers;
  nodes = agree_less nat_cmp_total maps.nat_cmp-IsAntisymmetric has_node c.self.inside.ends.nodes c.subtract.new.self.nodes _ _ c.args.number c.in-Some.description c.in-Some.ensures.value c.self.invariant.nodes c.remove.ensures.rest c.subtract.ensures.nodes;
}
