use Rattle.std.proofs.Common.{◌≡◌, ℕ, ◌<◌, ◌≤◌, ◌⊎◌, inl, inr, length, true, sym, ◌∙◌, ap, arith}
use Rattle.std.specs.Ordering.{nat_cmp}
use Rattle.std.specs.BTreeSet.{BTreeSet, contains}
use Rattle.rv_mem.specs.Beginnings.{is_in_class}
use Rattle.rv_mem.proofs.Gaps.{in_set, class_within_sets}
use Rattle.rv_mem.proofs.beginnings.Beginnings.room_below.Goals as goal

pub loop-class-init : goal.loop-class-init
loop-class-init c = record {
  at_most = omega arith;
  from = omega (arith, c.class-class.ensures);
  passed = λ k n from to. absurd (omega (arith, from, to, c.class-class.ensures));
}

pub loop-class-preserved : goal.loop-class-preserved
loop-class-preserved c = record {
  at_most = omega (arith, c.max-greatest.ensures, c.last_up_to-last.ensures.at_most, c.loop-class.invariant.at_most);
  from = omega (arith, c.loop-class.invariant.from);
  passed = λ k n from to l g there. elim (side k c.loop-class.class) [
    | inl below ↦ c.loop-class.invariant.passed k n from below (omega (arith, l, c.max-greatest.ensures)) g there
    | inr above ↦
        let same : c.loop-class.class ≡ k = omega (arith, to, above) in
        let within : c.loop-class.class < length c.args.self.now.gaps.items = omega (arith, c.loop-class-test.true, c.len.ensures, c.args.self.now.gaps.ok.0) in
        let here : contains nat_cmp c.index.result.now n ≡ true =
        ap (λ (s : BTreeSet ℕ). contains nat_cmp s n) c.index.ensures
        ∙ sym (in_set c.args.self.now.gaps.items c.loop-class.class n c.index.result.now within)
        ∙ ap (λ (i : ℕ). is_in_class c.args.self.now.gaps.items i n) same ∙ there in
        c.last_up_to-last.ensures.greatest n (omega (arith, l, c.max-greatest.ensures)) g here
  ];
}
  where
    side : (a b : ℕ) → (a < b) ⊎ (b ≤ a)
    side a b = grind arith

pub returns-clause-passed : goal.returns-clause-passed
returns-clause-passed c = λ n l g marks.
    let mark = marks c.if-not-self.false in
    let within = class_within_sets c.args.self.now.gaps.items mark.0 n mark.2 in
    c.loop-class.invariant.passed mark.0 n mark.1 (omega (arith, within, c.loop-class-test.false, c.len.ensures, c.args.self.now.gaps.ok.0)) l g mark.2
