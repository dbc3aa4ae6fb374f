use Rattle.std.proofs.Common.{ℕ, List, ◌∙◌, ap}
use Rattle.std.specs.Ordering.{nat_cmp}
use Rattle.std.specs.BTreeSet.{contains}
use Rattle.rv_mem.proofs.Gaps.{in_kept, in_changed, stays}
use Rattle.rv_mem.proofs.beginnings.Beginnings.try_mark.Goals as goal

pub returns-in_err-insert-2-clause-kept : goal.returns-in_err-insert-2-clause-kept
returns-in_err-insert-2-clause-kept c = λ k n there.
    in_kept c.add_classes.new.self.gaps.items c.args.class k n c.index_mut.result.now c.insert-2.new.self c.in_ok-add_classes.ensures.there c.index_mut.ensures.value
    (λ was. ap (λ (ks : List ℕ). contains nat_cmp (record { keys = ks }) n) c.in_err-insert-2.ensures.err ∙ was) (c.in_ok-add_classes.ensures.kept k n there)

pub returns-clause-marked : goal.returns-clause-marked
returns-clause-marked c =
    in_changed c.add_classes.new.self.gaps.items c.args.class c.args.number c.insert-2.new.self c.in_ok-add_classes.ensures.there ∙ c.in_ok-insert-2.ensures.updates.1

pub returns-clause-kept : goal.returns-clause-kept
returns-clause-kept c = λ k n there.
    in_kept c.add_classes.new.self.gaps.items c.args.class k n c.index_mut.result.now c.insert-2.new.self c.in_ok-add_classes.ensures.there c.index_mut.ensures.value
    (stays _ _ _ (c.in_ok-insert-2.ensures.updates.0 n)) (c.in_ok-add_classes.ensures.kept k n there)
