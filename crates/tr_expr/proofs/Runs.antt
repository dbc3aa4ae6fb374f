-- One more piece: what a loop over pieces has read, and what it reads next.
use Rattle.std.proofs.Common.{ℕ, ◌≡◌, List, [], ◌∷◌, ◌++◌, Option, Some, None, Bool, true, false, ◌||◌, map, option_map, refl, sym, ap, ◌∙◌, append-nil, Bor}
use Rattle.std.specs.List.{flat_map, list_any}
use Rattle.std.specs.Option.{option_or}
use Rattle.std.proofs.lemmas.List.Folds.{list_any-append}
use Rattle.tr_expr.specs.Faults.{found}
use Rattle.tr_expr.specs.Parts.{Part, part_causes, error_in, retval_in, signal_in, when_in, last_said}
use Rattle.tr_expr.specs.Whens.{view}
use Rattle.tr_expr.specs.Saids.{IsSaidBy}
use Rattle.tr_expr.specs.declared.fault.ExprFault.{ExprFault}
use Rattle.tr_expr.specs.declared.said.Said.{Said}
use Rattle.tr_expr.proofs.Lowest.{found_append}

pub map_push : {A B : Type 0} (f : A → B) (xs : List A) (x : A) → map f (xs ++ x ∷ []) ≡ map f xs ++ f x ∷ []
map_push f [] x = refl
map_push f (y ∷ ys) x = ap (λ r. f y ∷ r) (map_push f ys x)

-- the texts that were read, and one more
pub texts_push : {A : Type 0} (f : List ℕ → A) (xs : List (Bor (List ℕ))) (x : Bor (List ℕ)) → map f (map (λ y. y.now) (xs ++ x ∷ [])) ≡ map f (map (λ y. y.now) xs) ++ f x.now ∷ []
texts_push f xs x = ap (λ r. map f r) (map_push (λ y. y.now) xs x) ∙ map_push f (map (λ y. y.now) xs) x.now

pub found_push : {A : Type 0} (f : A → List ExprFault) (r : Option ExprFault) (xs : List A) (x : A) → found r (flat_map f (xs ++ x ∷ [])) ≡ found (found r (flat_map f xs)) (f x)
found_push f r [] x = ap (λ causes. found r causes) (append-nil (f x))
found_push f r (y ∷ ys) x =
    found_append r (f y) (flat_map f (ys ++ x ∷ []))
    ∙ (found_push f (found r (f y)) ys x ∙ ap (λ o. found o (f x)) (sym (found_append r (f y) (flat_map f ys))))

or_none : {X : Type 0} (o : Option X) → o ≡ option_or o None
or_none None = refl
or_none (Some x) = refl

or_again : {X : Type 0} (o p q : Option X) → option_or (option_or o p) q ≡ option_or o (option_or p q)
or_again None p q = refl
or_again (Some x) p q = refl

last_push : {X : Type 0} (says : Part → Option X) (ps : List Part) (p : Part) → last_said says (ps ++ p ∷ []) ≡ option_or (says p) (last_said says ps)
last_push says [] p = or_none (says p)
last_push says (q ∷ qs) p = ap (λ o. option_or o (says q)) (last_push says qs p) ∙ or_again (says p) (last_said says qs) (says q)

pub or_false : (q : Bool) → (q || false) ≡ q
or_false true = refl
or_false false = refl

pub any_push : {A : Type 0} (p : A → Bool) (xs : List A) (x : A) → list_any p (xs ++ x ∷ []) ≡ (list_any p xs || p x)
any_push p xs x = list_any-append p xs (x ∷ []) ∙ ap (λ b. list_any p xs || b) (or_false (p x))

-- what one part adds to what was said before
pub record Adds (part : Part) (old new : Said) : Type 0 where
  pub found : new.fault ≡ found old.fault (part_causes part)
  pub error : new.error ≡ option_or (error_in part) old.error
  pub retval : new.retval ≡ option_or (retval_in part) old.retval
  pub signal : new.signal ≡ option_or (signal_in part) old.signal
  pub when : option_map view new.when ≡ option_or (when_in part) (option_map view old.when)

said_more : {X : Type 0} (says : Part → Option X) (parts : List Part) (part : Part) (old new : Option X) → old ≡ last_said says parts → new ≡ option_or (says part) old → new ≡ last_said says (parts ++ part ∷ [])
said_more says parts part old new e n = n ∙ (ap (λ o. option_or (says part) o) e ∙ sym (last_push says parts part))

pub said_push : (parts : List Part) (part : Part) (old new : Said) → IsSaidBy parts old → Adds part old new → IsSaidBy (parts ++ part ∷ []) new
said_push parts part old new said adds = record {
  found = adds.found ∙ (ap (λ o. found o (part_causes part)) said.found ∙ sym (found_push part_causes None parts part));
  error = said_more error_in parts part old.error new.error said.error adds.error;
  retval = said_more retval_in parts part old.retval new.retval said.retval adds.retval;
  signal = said_more signal_in parts part old.signal new.signal said.signal adds.signal;
  when = said_more when_in parts part (option_map view old.when) (option_map view new.when) said.when adds.when;
}
