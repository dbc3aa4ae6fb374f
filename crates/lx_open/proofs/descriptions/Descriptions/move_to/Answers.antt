use Rattle.std.proofs.Common.{◌≡◌, ap, subst, refl, ◌∙◌}
use Rattle.std.specs.Prelude.{OnSome}
use Rattle.std.specs.Cmp.{nat_cmp_total}
use Rattle.std.specs.FinMap as maps
use Rattle.lx_files.proofs.Totals.{agree_change}
use Rattle.lx_open.specs.declared.description.Description.{Description}
use Rattle.lx_open.specs.Kinds.{reads_pipe, writes_pipe, has_node, moved}
use Rattle.lx_open.proofs.descriptions.Descriptions.move_to.Goals as goal

pub invariant_of-self-2 : goal.invariant_of-self-2
invariant_of-self-2 c =
    let m = c.self.inside.map in
    let d = c.in-Some.description.now in
    let w : Description = record d { offset = c.args.offset } in
    let h = subst (λ r. OnSome r (c.get_mut.follows.lender w ≡ maps.insert m c.args.number w)) c.in-Some.is (c.get_mut.follows.holds w) in
    record {
      readers = agree_change nat_cmp_total maps.nat_cmp-IsAntisymmetric reads_pipe c.self.inside.ends.readers m _ c.args.number d w c.in-Some.ensures.value (λ n. refl) c.self.invariant.readers h;
      writers = agree_change nat_cmp_total maps.nat_cmp-IsAntisymmetric writes_pipe c.self.inside.ends.writers m _ c.args.number d w c.in-Some.ensures.value (λ n. refl) c.self.invariant.writers h;
      nodes = agree_change nat_cmp_total maps.nat_cmp-IsAntisymmetric has_node c.self.inside.ends.nodes m _ c.args.number d w c.in-Some.ensures.value (λ n. refl) c.self.invariant.nodes h;
    }

pub returns : goal.returns
returns c =
    let m = c.self.inside.map in
    let d = c.in-Some.description.now in
    let w : Description = record d { offset = c.args.offset } in
    let h = subst (λ r. OnSome r (c.get_mut.follows.lender w ≡ maps.insert m c.args.number w)) c.in-Some.is (c.get_mut.follows.holds w) in
    h ∙ ap (moved m c.args.number c.args.offset) c.in-Some.ensures.value
    ∙ ap (λ t. moved t c.args.number c.args.offset (maps.get t c.args.number)) c.self.view_is
