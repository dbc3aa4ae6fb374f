use Rattle.std.proofs.Common.{◌≡◌, ap, sym, subst, ◌∙◌, ◌+◌, ◌-◌, rules}
use Rattle.std.proofs.lemmas.Result.{err_from_is_err_and}
use Rattle.std.specs.Prelude.{OnSome}
use Rattle.std.specs.Cmp.{nat_cmp_total}
use Rattle.std.specs.FinMap as maps
use Rattle.lx_files.specs.Kinds.{size_of, changed_file}
use Rattle.lx_files.specs.Contents.{padded_to}
use Rattle.lx_files.proofs.Totals.{kept_alike, kept_changed, insert-same}
use Rattle.lx_files.proofs.nodes.Nodes.resize.Goals as goal

pub invariant_of-self-in_default-checked_add : goal.invariant_of-self-in_default-checked_add
invariant_of-self-in_default-checked_add c =
    let m = c.self.inside.map in
    let w = c.in-Some.value.now in
    let h = subst (λ r. OnSome r (c.get_mut.follows.lender w ≡ maps.insert m c.args.node w)) c.in-Some.is (c.get_mut.follows.holds w) in
    (kept_alike nat_cmp_total maps.nat_cmp-IsAntisymmetric size_of m _ c.args.node c.in-Some.value.now w _ c.in-Some.ensures.value c.self.invariant (let same : w ≡ w = search rules in same) h)

pub invariant_of-self-in_err-resize_node : goal.invariant_of-self-in_err-resize_node
invariant_of-self-in_err-resize_node c =
    let m = c.self.inside.map in
    let w = c.resize_node.new.node in
    let h = subst (λ r. OnSome r (c.get_mut.follows.lender w ≡ maps.insert m c.args.node w)) c.in-Some.is (c.get_mut.follows.holds w) in
    (kept_alike nat_cmp_total maps.nat_cmp-IsAntisymmetric size_of m _ c.args.node c.in-Some.value.now w _ c.in-Some.ensures.value c.self.invariant c.in_err-resize_node.ensures.err h)

pub invariant_of-self-2 : goal.invariant_of-self-2
invariant_of-self-2 c =
    let m = c.self.inside.map in
    let w = c.resize_node.new.node in
    let h = subst (λ r. OnSome r (c.get_mut.follows.lender w ≡ maps.insert m c.args.node w)) c.in-Some.is (c.get_mut.follows.holds w) in
    (kept_changed nat_cmp_total maps.nat_cmp-IsAntisymmetric size_of m _ c.args.node c.in-Some.value.now w _ c.size-before.result c.size_resized-after.result _ c.in-Some.ensures.value c.self.invariant c.size-before.ensures
    (c.size_resized-after.ensures ∙ ap size_of (sym c.in_ok-resize_node.ensures.ok))
    (let more : c.in-Some-checked_add.contents ≡ c.self.inside.contents - c.size-before.result + c.size_resized-after.result = search rules in more) h)

pub returns-clause-ok : goal.returns-clause-ok
returns-clause-ok c =
    let m = c.self.inside.map in
    let w = c.resize_node.new.node in
    let h = subst (λ r. OnSome r (c.get_mut.follows.lender w ≡ maps.insert m c.args.node w)) c.in-Some.is (c.get_mut.follows.holds w) in
    h ∙ ap (maps.insert m c.args.node) c.in_ok-resize_node.ensures.ok
    ∙ ap (changed_file m c.args.node (padded_to c.args.len)) c.in-Some.ensures.value
    ∙ ap (λ t. changed_file t c.args.node (padded_to c.args.len) (maps.get t c.args.node)) c.self.view_is

pub returns-in_default-checked_add-clause-err : goal.returns-in_default-checked_add-clause-err
returns-in_default-checked_add-clause-err c =
    let m = c.self.inside.map in
    let w = c.in-Some.value.now in
    let h = subst (λ r. OnSome r (c.get_mut.follows.lender w ≡ maps.insert m c.args.node w)) c.in-Some.is (c.get_mut.follows.holds w) in
    h ∙ insert-same nat_cmp_total maps.nat_cmp-IsAntisymmetric size_of m c.args.node w (sym c.in-Some.ensures.value) ∙ c.self.view_is

pub returns-in_err-resize_node-clause-err : goal.returns-in_err-resize_node-clause-err
returns-in_err-resize_node-clause-err c =
    let m = c.self.inside.map in
    let w = c.resize_node.new.node in
    let h = subst (λ r. OnSome r (c.get_mut.follows.lender w ≡ maps.insert m c.args.node w)) c.in-Some.is (c.get_mut.follows.holds w) in
    let p = err_from_is_err_and c.from_residual.result c.from_residual.ensures.1 in
    rw p.1 (h ∙ ap (maps.insert m c.args.node) c.in_err-resize_node.ensures.err
    ∙ insert-same nat_cmp_total maps.nat_cmp-IsAntisymmetric size_of m c.args.node c.in-Some.value.now (sym c.in-Some.ensures.value) ∙ c.self.view_is)
