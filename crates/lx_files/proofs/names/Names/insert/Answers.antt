use Rattle.lx_files.specs.Kinds.{is_number}
use Rattle.lx_files.specs.Tallies.{Forgets}
use Rattle.std.proofs.Common.{subst}
use Rattle.std.proofs.lemmas.Cmp.{nat_list_cmp_total}
use Rattle.lx_files.proofs.Texts.{path_cmp-IsAntisymmetric}
use Rattle.lx_files.proofs.Totals.{agree_put}
use Rattle.lx_files.proofs.names.Names.insert.Goals as goal

pub invariant_of-self-in-Ok : goal.invariant_of-self-in-Ok
invariant_of-self-in-Ok c =
    agree_put nat_list_cmp_total path_cmp-IsAntisymmetric is_number c.self.inside.counts c.add.new.self c.forget.new.counts c.self.inside.map _ c.args.path.now c.args.node c.self.invariant
    c.in-Ok.ensures.ok c.in_ok-add.ensures.ok
    (subst (λ o. Forgets is_number o c.add.new.self c.forget.new.counts) c.in-Ok.ensures.was c.forget.ensures)
