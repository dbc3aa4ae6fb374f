-- Classes of gaps, and the sets of the marks in each.
use Rattle.std.proofs.Common.{◌≡◌, ◌≢◌, ℕ, zero, suc, ◌+◌, ◌/◌, ◌<◌, ◌≤◌, ◌⊎◌, inl, inr, List, [], ◌∷◌, ◌++◌, length, map, get_or, set, Bool, cond, true, false, refl, sym, ◌∙◌, ap, arith}
use Rattle.std.specs.Prelude.{nat_lt}
use Rattle.std.specs.Ordering.{nat_cmp}
use Rattle.std.specs.BTreeSet.{BTreeSet, contains}
use Rattle.std.specs.BTreeMap.{is_at}
use Rattle.std.specs.List.{list_any}
use Rattle.std.proofs.lemmas.Bool.Decides.{nat_tests, eqb_tells}
use Rattle.rv_mem.specs.Beginnings.{class_within, class_of, is_in_class}

-- ---- classes
side : (a b : ℕ) → (a < b) ⊎ (b ≤ a)
side a b = grind arith

is_less : (a b : ℕ) → a < b → nat_lt a b ≡ true
is_less a b l = grind (arith, nat_tests, l)

not_less : (a b : ℕ) → b ≤ a → nat_lt a b ≡ false
not_less a b l = grind (arith, nat_tests, l)

small : (k p : ℕ) → p < 8 → class_within k p ≡ p
unfolding class_within
small zero p l = refl
small (suc k) p l = rw (is_less p 8 l) refl

large : (k p : ℕ) → 8 ≤ p → class_within (suc k) p ≡ class_within k (p / 2) + 4
unfolding class_within
large k p l = rw (not_less p 8 l) refl

-- more halvings than there are pages change nothing
enough : (j k p : ℕ) → p ≤ j → p ≤ k → class_within j p ≡ class_within k p
enough zero k p l g = small zero p (omega (arith, l)) ∙ sym (small k p (omega (arith, l)))
enough (suc j) zero p l g = small (suc j) p (omega (arith, g)) ∙ sym (small zero p (omega (arith, g)))
enough (suc j) (suc k) p l g = elim (side p 8) [
  | inl s ↦ small (suc j) p s ∙ sym (small (suc k) p s)
  | inr s ↦ large j p s ∙ ap (λ (c : ℕ). c + 4) (enough j k (p / 2) (omega (arith, l, s)) (omega (arith, g, s))) ∙ sym (large k p s)
]

pub class_small : (p : ℕ) → p < 8 → class_of p ≡ p
class_small p l = small p p l

pub class_half : (p : ℕ) → 8 ≤ p → class_of p ≡ class_of (p / 2) + 4
class_half zero l = absurd (omega (arith, l))
class_half (suc q) l = large q (suc q) l ∙ ap (λ (c : ℕ). c + 4) (enough q (suc q / 2) (suc q / 2) (omega (arith, l)) (omega arith))

none : (p : ℕ) → class_within zero p ≡ p
unfolding class_within
none p = refl

four : (k p : ℕ) → 4 ≤ p → 4 ≤ class_within k p
four zero p l = omega (arith, l, none p)
four (suc k) p l = elim (side p 8) [
  | inl s ↦ omega (arith, l, small (suc k) p s)
  | inr s ↦ omega (arith, large k p s)
]

rises : (k a b : ℕ) → a ≤ b → class_within k a ≤ class_within k b
rises zero a b l = omega (arith, l, none a, none b)
rises (suc k) a b l = elim (side b 8) [
  | inl s ↦ omega (arith, l, small (suc k) b s, small (suc k) a (omega (arith, s, l)))
  | inr s ↦ elim (side a 8) [
    | inl t ↦ omega (arith, small (suc k) a t, t, large k b s, four k (b / 2) (omega (arith, s)))
    | inr t ↦ omega (arith, large k a t, large k b s, rises k (a / 2) (b / 2) (omega (arith, l)))
  ]
]

-- more pages are in no lower class
pub class_rises : (a b : ℕ) → a ≤ b → class_of a ≤ class_of b
class_rises a b l = omega (arith, enough a b a (omega arith) l, rises b a b l)

-- a number stays in a set that gains others
pub stays : (b was is : Bool) → is ≡ cond b true was → was ≡ true → is ≡ true
stays true was is e t = e
stays false was is e t = e ∙ t

-- no number is in a set without any
pub none_in_empty : (s : BTreeSet ℕ) (n : ℕ) → length s.keys ≡ 0 → contains nat_cmp s n ≡ true → ⊥
none_in_empty s n none there = no_key s.keys none there
  where
    no_key : (ks : List ℕ) → length ks ≡ 0 → list_any (is_at (nat_cmp n)) ks ≡ true → ⊥
    no_key [] e t = let no : ⊥ = cc t in no
    no_key (k ∷ ks) e t = omega (arith, e)

-- ---- the sets of the classes
abbrev pub Sets : Type 0
Sets = List (BTreeSet ℕ)

pub class_within_sets : (ss : Sets) (c n : ℕ) → is_in_class ss c n ≡ true → c < length ss
unfolding is_in_class
class_within_sets [] c n t = absurd (let no : ⊥ = cc t in no)
class_within_sets (s ∷ ss) zero n t = omega arith
class_within_sets (s ∷ ss) (suc c) n t = omega (arith, class_within_sets ss c n t)

pub in_set : (ss : Sets) (c n : ℕ) (d : BTreeSet ℕ) → c < length ss → is_in_class ss c n ≡ contains nat_cmp (get_or ss c d) n
unfolding is_in_class
in_set [] c n d l = absurd (omega (arith, l))
in_set (s ∷ ss) zero n d l = refl
in_set (s ∷ ss) (suc c) n d l = in_set ss c n d (omega (arith, l))

pub in_changed : (ss : Sets) (c n : ℕ) (s : BTreeSet ℕ) → c < length ss → is_in_class (set ss c s) c n ≡ contains nat_cmp s n
unfolding is_in_class
in_changed [] c n s l = absurd (omega (arith, l))
in_changed (x ∷ ss) zero n s l = refl
in_changed (x ∷ ss) (suc c) n s l = in_changed ss c n s (omega (arith, l))

pub in_other : (ss : Sets) (c e n : ℕ) (s : BTreeSet ℕ) → e ≢ c → is_in_class (set ss c s) e n ≡ is_in_class ss e n
unfolding is_in_class
in_other [] c e n s d = refl
in_other (x ∷ ss) zero zero n s d = absurd (d refl)
in_other (x ∷ ss) zero (suc e) n s d = refl
in_other (x ∷ ss) (suc c) zero n s d = refl
in_other (x ∷ ss) (suc c) (suc e) n s d = in_other ss c e n s (λ i. d (ap suc i))

-- a set put in the place of another that it has all numbers of
pub in_kept : (ss : Sets) (c e n : ℕ) (s s' : BTreeSet ℕ) → c < length ss → s ≡ get_or ss c s → (contains nat_cmp s n ≡ true → contains nat_cmp s' n ≡ true) → is_in_class ss e n ≡ true → is_in_class (set ss c s') e n ≡ true
in_kept ss c e n s s' l is keeps there = elim (eqb_tells e c) [
  | inl same ↦
      ap (λ (k : ℕ). is_in_class (set ss c s') k n) same.1 ∙ in_changed ss c n s' l
      ∙ keeps (ap (λ (x : BTreeSet ℕ). contains nat_cmp x n) is ∙ sym (in_set ss c n s l) ∙ ap (λ (k : ℕ). is_in_class ss k n) (sym same.1) ∙ there)
  | inr other ↦ in_other ss c e n s' other.1 ∙ there
]

pub in_more : (ss ts : Sets) (c n : ℕ) → is_in_class ss c n ≡ true → is_in_class (ss ++ ts) c n ≡ true
unfolding is_in_class
in_more [] ts c n t = absurd (let no : ⊥ = cc t in no)
in_more (s ∷ ss) ts zero n t = t
in_more (s ∷ ss) ts (suc c) n t = in_more ss ts c n t

-- the keys of each set
abbrev pub key_lists : Sets → List (List ℕ)
key_lists ss = map (λ s. s.keys) ss

pub in_same : (ss ts : Sets) (c n : ℕ) → key_lists ts ≡ key_lists ss → is_in_class ss c n ≡ is_in_class ts c n
unfolding is_in_class
in_same [] [] c n e = refl
in_same [] (t ∷ ts) c n e = absurd (let no : ⊥ = cc e in no)
in_same (s ∷ ss) [] c n e = absurd (let no : ⊥ = cc e in no)
in_same (s ∷ ss) (t ∷ ts) zero n e =
    let keys : s.keys ≡ t.keys = cc e in
    ap (λ (ks : List ℕ). contains nat_cmp (record { keys = ks }) n) keys
in_same (s ∷ ss) (t ∷ ts) (suc c) n e = in_same ss ts c n (let rest : key_lists ts ≡ key_lists ss = cc e in rest)
