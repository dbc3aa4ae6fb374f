-- A path walked part by part.
use Rattle.std.proofs.Common.{◌≡◌, ℕ, suc, ◌+◌, Bool, true, cond, List, [], ◌∷◌, length, map, drop, drop-cons, get_or, ◌<◌, arith, Some, None, refl, ap, sym, ◌∙◌}
use Rattle.std.specs.Prelude.{nat_lt}
use Rattle.std.specs.Borrow.{Bor}
use Rattle.std.proofs.lemmas.Bool.Decides.{nat_tests}
use Rattle.std.specs.declared.result.Result.TheVariants.{Ok, Err}
use Rattle.lx_files.specs.Paths.{Path}
use Rattle.lx_files.specs.Trees.{Tree, node_at}
use Rattle.lx_files.specs.Places.{beyond, bar, unless_barred, and_then, reached, parts}

pub reached_none : (tree : Tree) (s : Bool) (at : Path) (last : List ℕ) → reached tree s at last [] ≡ Ok (record { under = at; last = last; slashed = s })
unfolding reached
reached_none tree s at last = refl

pub reached_stop : (tree : Tree) (s : Bool) (at : Path) (last part : List ℕ) (rest : List (List ℕ)) (e : ℕ) → Some e ≡ bar (node_at tree (beyond at last)) → reached tree s at last (part ∷ rest) ≡ Err e
unfolding reached
reached_stop tree s at last part rest e h = ap (λ b. and_then (λ next. reached tree s next part rest) (unless_barred b (beyond at last))) (sym h)

pub reached_step : (tree : Tree) (s : Bool) (at : Path) (last part : List ℕ) (rest : List (List ℕ)) → None ≡ bar (node_at tree (beyond at last)) → reached tree s at last (part ∷ rest) ≡ reached tree s (beyond at last) part rest
unfolding reached
reached_step tree s at last part rest h = ap (λ b. and_then (λ next. reached tree s next part rest) (unless_barred b (beyond at last))) (sym h)

-- One piece more of a text.

abbrev pub texts : List (Bor (List ℕ)) → List (List ℕ)
texts = map (λ p. p.now)

pub parts_part : (all : List (Bor (List ℕ))) (i : ℕ) (d : Bor (List ℕ)) → i < length all → ¬ (length (get_or all i d).now ≡ 0) → parts (texts (drop i all)) ≡ (get_or all i d).now ∷ parts (texts (drop (i + 1) all))
parts_part all i d lt e =
    let a_part : nat_lt 0 (length (get_or all i d).now) ≡ true = grind (arith, nat_tests, e) in
    let next : suc i ≡ i + 1 = omega arith in
    let first : drop i all ≡ get_or all i d ∷ drop (i + 1) all = drop-cons all i d lt ∙ ap (λ n. get_or all i d ∷ drop n all) next in
    ap (λ l. parts (texts l)) first ∙ ap (λ b. cond b ((get_or all i d).now ∷ parts (texts (drop (i + 1) all))) (parts (texts (drop (i + 1) all)))) a_part
