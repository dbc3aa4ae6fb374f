use Rattle.std.proofs.Common.{ℕ, suc, ◌≡◌, ◌-◌, ◌+◌, ◌∙◌, List, [], ◌++◌, refl, sym, ap, subst, append-nil, arith}
use Rattle.lx_abi.specs.Log.{Noted}
use Rattle.plain_run.specs.Notes.{notes_of, turns_of}
use Rattle.plain_run.proofs.Noting.{made_notes}
use Rattle.plain_run.proofs.Turning.{made_more, made_now, told_nothing, told_both}
use Rattle.plain_run.proofs.running.turn_row.Goals as goal

pub returns-then-behind-more-clause-row : goal.returns-then-behind-more-clause-row
returns-then-behind-more-clause-row g c =
    made_more c.row.made (c.in-Ok.advanced.turns - 1) c.args.kernel.now c.row.kernel c.advance.new.kernel c.args.pid c.row.invariant.1 c.in-Ok.ensures.row

pub returns-then-not-goes_on-clause-row : goal.returns-then-not-goes_on-clause-row
returns-then-not-goes_on-clause-row g c =
    made_more c.row.made (c.in-Ok.advanced.turns - 1) c.args.kernel.now c.row.kernel c.advance.new.kernel c.args.pid c.row.invariant.1 c.in-Ok.ensures.row

pub row-init : goal.row-init
unfolding notes_of
row-init g c = (
  omega arith,
  refl,
  told_nothing _ _,
  refl,
  λ first ns before. subst (λ (l : List Noted). g.W.Watch.noting first c.args.watch.now l) (sym (append-nil ns)) before,
)

pub row-preserved : goal.row-preserved
row-preserved g c =
    let behind = c.row.made + (c.in-Ok.advanced.turns - 1) in
    let left = c.if-behind-more.false in (
      omega (arith, left),
      made_now behind (behind + 1) c.args.kernel.now c.advance.new.kernel c.args.pid refl
          (made_more c.row.made (c.in-Ok.advanced.turns - 1) c.args.kernel.now c.row.kernel c.advance.new.kernel c.args.pid c.row.invariant.1 c.in-Ok.ensures.row)
          (c.goes_on.ensures c.if-not-goes_on.false),
      told_both _ _ _ _ _ _ c.row.invariant.2 c.in-Ok.ensures.told,
      c.in-Ok.ensures.begun ∙ c.row.invariant.3,
      λ first ns before.
          let count : c.row.made + c.in-Ok.advanced.turns ≡ behind + 1 = omega (arith, c.in-Ok.ensures.some) in
          subst (λ (l : List Noted). g.W.Watch.noting first c.advance.new.watch l)
          (made_notes c.row.made c.in-Ok.advanced.turns c.args.kernel.now c.row.kernel c.args.pid c.row.invariant.1 ns
          ∙ ap (λ (i : ℕ). ns ++ notes_of c.args.kernel.now (turns_of i c.args.pid [])) count)
          (c.in-Ok.ensures.noted first _ (c.row.invariant.4 first ns before)),
    )

pub returns-then-behind-more-clause-noted : goal.returns-then-behind-more-clause-noted
returns-then-behind-more-clause-noted g c = λ first ns before.
    let count : c.row.made + c.in-Ok.advanced.turns ≡ suc (c.row.made + (c.in-Ok.advanced.turns - 1)) = omega (arith, c.in-Ok.ensures.some) in
    subst (λ (l : List Noted). g.W.Watch.noting first c.advance.new.watch l)
    (made_notes c.row.made c.in-Ok.advanced.turns c.args.kernel.now c.row.kernel c.args.pid c.row.invariant.1 ns
    ∙ ap (λ (i : ℕ). ns ++ notes_of c.args.kernel.now (turns_of i c.args.pid [])) count)
    (c.in-Ok.ensures.noted first _ (c.row.invariant.4 first ns before))

pub returns-then-not-goes_on-clause-noted : goal.returns-then-not-goes_on-clause-noted
returns-then-not-goes_on-clause-noted g c = λ first ns before.
    let count : c.row.made + c.in-Ok.advanced.turns ≡ suc (c.row.made + (c.in-Ok.advanced.turns - 1)) = omega (arith, c.in-Ok.ensures.some) in
    subst (λ (l : List Noted). g.W.Watch.noting first c.advance.new.watch l)
    (made_notes c.row.made c.in-Ok.advanced.turns c.args.kernel.now c.row.kernel c.args.pid c.row.invariant.1 ns
    ∙ ap (λ (i : ℕ). ns ++ notes_of c.args.kernel.now (turns_of i c.args.pid [])) count)
    (c.in-Ok.ensures.noted first _ (c.row.invariant.4 first ns before))
