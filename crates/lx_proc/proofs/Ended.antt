-- Wait words, listed entry by entry.
use Rattle.std.proofs.Common.{◌≡◌, ℕ, List, [], ◌∷◌, ◌++◌, map, refl, ap, sym, ◌∙◌, append_assoc, append-nil}
use Rattle.std.specs.FinMap as maps
use Rattle.std.specs.List.Sorted.{IsStrictlySortedBy}
use Rattle.std.specs.Ordering.{nat_cmp}
use Rattle.lx_abi.specs.declared.outcome.Ended.{Ended}
use Rattle.containers.proofs.Listed.{entries-sorted}
use Rattle.lx_proc.specs.WaitWords.{ended_of, ends_of}

module _ {A B : Type 0} (f : A → B) where
  pub list_start : (l : List B) (s es : List A) → l ≡ [] → s ≡ es → l ++ map f s ≡ map f es
  list_start l s es p q = rw (p, q) refl

  pub list_step : (l : List B) (s rest es : List A) (e : A) → s ≡ e ∷ rest → l ++ map f s ≡ map f es → (l ++ f e ∷ []) ++ map f rest ≡ map f es
  list_step l s rest es e p h = append_assoc l (f e ∷ []) (map f rest) ∙ ap (λ t. l ++ map f t) (sym p) ∙ h

  list_end : (l : List B) (s es : List A) → s ≡ [] → l ++ map f s ≡ map f es → l ≡ map f es
  list_end l s es p h = sym (append-nil l) ∙ ap (λ t. l ++ map f t) (sym p) ∙ h

pub listed_words : (l : List Ended) (s es : List (ℕ × ℕ)) → s ≡ [] → l ++ map ended_of s ≡ map ended_of es → IsStrictlySortedBy nat_cmp (map (λ e. e.0) es) → l ≡ ends_of (maps.from_entries es)
listed_words l s es p h sorted = list_end ended_of l s es p h ∙ ap (map ended_of) (sym (entries-sorted es sorted))
