use Rattle.std.proofs.Common.{◌≡◌, List, [], ◌∷◌, ◌++◌, map, All, ap, refl, subst, sym, ◌∙◌}
use Rattle.std.proofs.lemmas.List.Elements.{All-push}
use Rattle.sweep_rows.specs.declared.wanted.Case.{Case}
use Rattle.sweep_deep.specs.Rows.{IsBehind}
use Rattle.sweep_deep.specs.declared.rows.Behind.{Behind}
use Rattle.sweep_deep.proofs.rows.run_each.Goals as goal

-- one more is of the next failure
more_behind : (all : List Behind) (b : Behind) (left rest cases : List Case) → map (λ b. b.first.case) all ++ left ≡ cases → left ≡ b.first.case ∷ rest
    → map (λ b. b.first.case) (all ++ b ∷ []) ++ rest ≡ cases
more_behind [] b left rest cases h e = sym e ∙ h
more_behind (a ∷ all) b left rest cases h e =
    ap (λ (cs : List Case). a.first.case ∷ cs) (more_behind all b left rest (map (λ b. b.first.case) all ++ left) refl e) ∙ h

pub loop-case-preserved : goal.loop-case-preserved
loop-case-preserved c =
    let all = c.loop-case.all.items in
    let behind = c.in_ok-behind.behind in
    let rest = c.in-Some.rest.now in
    let pushed : c.push.new.self.items ≡ all ++ behind ∷ [] = c.in_ok-push.ensures.items in
    let next : c.loop-case.left.now ≡ behind.first.case ∷ rest =
    c.in-Some.ensures.cases.0 ∙ ap (λ (k : Case). k ∷ rest) (sym c.in_ok-behind.ensures.case) in (
      ap (λ (bs : List Behind). map (λ b. b.first.case) bs ++ rest) pushed
          ∙ more_behind all behind c.loop-case.left.now rest c.args.cases.now c.loop-case.invariant.0 next,
      subst (λ (bs : List Behind). All (IsBehind c.args.plan.now c.args.reference.now c.args.wanted.now) bs) (sym pushed)
          (All-push (IsBehind c.args.plan.now c.args.reference.now c.args.wanted.now) all behind c.loop-case.invariant.1 c.in_ok-behind.ensures.row),
    )
