use Rattle.std.specs.Cmp.{nat_cmp_total}
use Rattle.std.specs.FinMap as maps
use Rattle.lx_open.specs.Kinds.{reads_pipe, writes_pipe, has_node}
use Rattle.lx_files.proofs.Totals.{agree_new}
use Rattle.lx_open.proofs.descriptions.Descriptions.new.Goals as goal

pub invariant_of-result : goal.invariant_of-result
invariant_of-result c = record {
  readers = agree_new nat_cmp_total maps.nat_cmp-IsAntisymmetric reads_pipe c.new-2.result.readers c.new.result c.new.ensures c.new-2.ensures.readers;
  writers = agree_new nat_cmp_total maps.nat_cmp-IsAntisymmetric writes_pipe c.new-2.result.writers c.new.result c.new.ensures c.new-2.ensures.writers;
  nodes = agree_new nat_cmp_total maps.nat_cmp-IsAntisymmetric has_node c.new-2.result.nodes c.new.result c.new.ensures c.new-2.ensures.nodes;
}
