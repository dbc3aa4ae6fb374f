use Rattle.std.proofs.Common.{ap, sym, subst, ◌∙◌}
use Rattle.std.specs.Cmp.{nat_cmp_total}
use Rattle.std.specs.FinMap as maps
use Rattle.lx_files.specs.Tallies.{Forgets}
use Rattle.lx_files.proofs.Totals.{agree_put}
use Rattle.lx_open.specs.Kinds.{reads_pipe, writes_pipe, has_node}
use Rattle.lx_open.proofs.descriptions.Descriptions.insert.Goals as goal

pub invariant_of-self-in-Ok : goal.invariant_of-self-in-Ok
invariant_of-self-in-Ok c = record {
  readers = agree_put nat_cmp_total maps.nat_cmp-IsAntisymmetric reads_pipe c.self.inside.ends.readers c.add.new.self.readers c.forget.new.ends.readers c.self.inside.map _ c.args.number c.args.description c.self.invariant.readers c.in-Ok.ensures.ok c.in_ok-add.ensures.ok.readers
      (subst (λ o. Forgets reads_pipe o c.add.new.self.readers c.forget.new.ends.readers) (c.get-was.ensures ∙ ap (λ t. maps.get t c.args.number) (sym c.self.view_is)) c.forget.ensures.readers);
  writers = agree_put nat_cmp_total maps.nat_cmp-IsAntisymmetric writes_pipe c.self.inside.ends.writers c.add.new.self.writers c.forget.new.ends.writers c.self.inside.map _ c.args.number c.args.description c.self.invariant.writers c.in-Ok.ensures.ok c.in_ok-add.ensures.ok.writers
      (subst (λ o. Forgets writes_pipe o c.add.new.self.writers c.forget.new.ends.writers) (c.get-was.ensures ∙ ap (λ t. maps.get t c.args.number) (sym c.self.view_is)) c.forget.ensures.writers);
  nodes = agree_put nat_cmp_total maps.nat_cmp-IsAntisymmetric has_node c.self.inside.ends.nodes c.add.new.self.nodes c.forget.new.ends.nodes c.self.inside.map _ c.args.number c.args.description c.self.invariant.nodes c.in-Ok.ensures.ok c.in_ok-add.ensures.ok.nodes
      (subst (λ o. Forgets has_node o c.add.new.self.nodes c.forget.new.ends.nodes) (c.get-was.ensures ∙ ap (λ t. maps.get t c.args.number) (sym c.self.view_is)) c.forget.ensures.nodes);
}
