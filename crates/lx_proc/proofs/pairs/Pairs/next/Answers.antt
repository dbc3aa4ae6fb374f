use Rattle.std.proofs.Common.{Some, None, subst, sym, rules}
use Rattle.containers.specs.Keys.{IsNextKey}
use Rattle.containers.proofs.NextKeys.{none_above, first_above}
use Rattle.lx_proc.specs.Pairs.{PairSet, IsNextThat, has}
use Rattle.lx_proc.proofs.PairSets.{no_second, second_of_next}
use Rattle.lx_proc.proofs.pairs.Pairs.next.Goals as goal

pub returns-in-None : goal.returns-in-None
returns-in-None c =
    no_second c.args.self.now c.args.first c.args.after
    (subst (λ k. IsNextKey c.args.self.now k None) c.key.ensures
    (subst (λ (m : PairSet). IsNextKey m c.key.result None) c.self.view_is
    (none_above c.self.inside.tree c.key.result c.range.result (c.range.ensures.in_range (search rules)) c.in-None.ensures.steps.0)))

pub returns-in-Some : goal.returns-in-Some
returns-in-Some c =
    subst (λ r. IsNextThat (has c.args.self.now c.args.first) c.args.after r) (sym c.second_of.ensures)
    (second_of_next c.args.self.now c.args.first c.args.after c.in-Some.key.now
    (subst (λ k. IsNextKey c.args.self.now k (Some c.in-Some.key.now)) c.key.ensures
    (subst (λ (m : PairSet). IsNextKey m c.key.result (Some c.in-Some.key.now)) c.self.view_is
    (first_above c.self.inside.tree c.key.result c.range.result (c.range.ensures.in_range (search rules)) c.in-Some.key.now c.in-Some._unit.now c.next.new.self c.in-Some.ensures.steps))))
