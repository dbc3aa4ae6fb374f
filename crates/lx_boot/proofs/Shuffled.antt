-- Files make the same number of nodes in any order.
use Rattle.std.proofs.Common.{◌≡◌, ℕ, zero, suc, ◌+◌, ◌<◌, Bool, true, false, cond, List, [], ◌∷◌, length, get_or, take, set, refl, sym, ap, ◌∙◌, arith, if◌then◌else◌}
use Rattle.std.specs.Prelude.{◌&&◌, ◌||◌, ◌==◌, not, nat_eq, nat_lt}
use Rattle.std.specs.List.{list_any, common_prefix_len, swap}
use Rattle.std.specs.List.Sorted.{IsPermutation}
use Rattle.std.proofs.Math.ListN.{get_or-eq_default}
use Rattle.std.proofs.lemmas.Bool.Decides.{nat_tests}
use Rattle.std.proofs.lemmas.List.Sorted.{IsPermutation-keeps}
use Rattle.lx_abi.specs.declared.boot.GuestFile.{GuestFile}
use Rattle.lx_files.specs.Boots.{ends_directory}
use Rattle.lx_boot.specs.Paths.{is_under}
use Rattle.lx_boot.specs.Limits.{is_new_directory, new_directories, nodes}
use Rattle.lx_boot.proofs.Nodes.{under_common, nodes_of_more}

-- what two paths begin with alike

flipped : (a b m n : ℕ) → m ≡ n → cond (nat_eq a b) (1 + m) 0 ≡ cond (nat_eq b a) (1 + n) 0
flipped a b m n e = grind (arith, nat_tests)

common_flipped : (x y : List ℕ) → common_prefix_len nat_eq x y ≡ common_prefix_len nat_eq y x
common_flipped [] [] = refl
common_flipped [] (b ∷ y) = refl
common_flipped (a ∷ x) [] = refl
common_flipped (a ∷ x) (b ∷ y) = flipped a b (common_prefix_len nat_eq x y) (common_prefix_len nat_eq y x) (common_flipped x y)

same_byte : (a b : ℕ) → nat_eq a b ≡ true → a ≡ b
same_byte a b e = grind (arith, nat_tests)

none_alike : (i n : ℕ) → i < cond false (1 + n) 0 → ⊥
none_alike i n lt = omega (arith, lt)

part_alike : (x y : List ℕ) (i : ℕ) → i < common_prefix_len nat_eq x y → (take i x ≡ take i y) × (get_or x i 0 ≡ get_or y i 0)
part_alike [] y i lt = absurd (omega (arith, lt))
part_alike (a ∷ x) [] i lt = absurd (omega (arith, lt))
part_alike (a ∷ x) (b ∷ y) i lt = go (part_alike x y) (nat_eq a b) refl i lt
  where
    go : ((j : ℕ) → j < common_prefix_len nat_eq x y → (take j x ≡ take j y) × (get_or x j 0 ≡ get_or y j 0)) → (c : Bool) → nat_eq a b ≡ c
        → (i : ℕ) → i < cond c (1 + common_prefix_len nat_eq x y) 0 → (take i (a ∷ x) ≡ take i (b ∷ y)) × (get_or (a ∷ x) i 0 ≡ get_or (b ∷ y) i 0)
    go more true e zero lt = (refl, same_byte a b e)
    go more true e (suc i) lt =
        let rest = more i (omega (arith, lt)) in
        (ap (λ c. c ∷ take i x) (same_byte a b e) ∙ ap (λ t. b ∷ t) rest.0, rest.1)
    go more false e i lt = absurd (none_alike i (common_prefix_len nat_eq x y) lt)

within : (path : List ℕ) (i : ℕ) → (get_or path i 0 == 47) ≡ true → i < length path
within [] i e = absurd (grind (arith, nat_tests, e))
within (x ∷ path) zero e = omega arith
within (x ∷ path) (suc i) e = let k = within path i e in omega (arith, k)

at_slash : (b : ℕ) → (b == 47) ≡ true → b ≡ 47
at_slash b e = grind (arith, nat_tests)

-- a directory of both ends at the place
abbrev ends_both : List ℕ → List ℕ → ℕ → Bool
ends_both x y i = (nat_lt 0 i && (get_or x i 0 == 47)) && nat_lt i (common_prefix_len nat_eq x y)

ends_in_both : (x y : List ℕ) (i : ℕ) → (ends_directory x i && is_under y (take i x)) ≡ ends_both x y i
ends_in_both x y i = go (get_or x i 0 == 47) refl
  where
    nothing : (a p q : Bool) → ((a && false) && p) ≡ ((a && false) && q)
    nothing true p q = refl
    nothing false p q = refl

    go : (b : Bool) → (get_or x i 0 == 47) ≡ b → ((nat_lt 0 i && b) && is_under y (take i x)) ≡ ((nat_lt 0 i && b) && nat_lt i (common_prefix_len nat_eq x y))
    go true e = ap (λ c. (nat_lt 0 i && true) && c) (under_common x y i (within x i e) (at_slash (get_or x i 0) e))
    go false e = nothing (nat_lt 0 i) (is_under y (take i x)) (nat_lt i (common_prefix_len nat_eq x y))

below : (i n : ℕ) → nat_lt i n ≡ true → i < n
below i n e = grind (arith, nat_tests)

both_flipped : (x y : List ℕ) (i : ℕ) → ends_both x y i ≡ ends_both y x i
both_flipped x y i = go (nat_lt i (common_prefix_len nat_eq x y)) refl ∙ ap (λ n. (nat_lt 0 i && (get_or y i 0 == 47)) && nat_lt i n) (common_flipped x y)
  where
    nothing : (a b : Bool) → (a && false) ≡ (b && false)
    nothing true true = refl
    nothing true false = refl
    nothing false true = refl
    nothing false false = refl

    go : (b : Bool) → nat_lt i (common_prefix_len nat_eq x y) ≡ b → ((nat_lt 0 i && (get_or x i 0 == 47)) && b) ≡ ((nat_lt 0 i && (get_or y i 0 == 47)) && b)
    go true e = ap (λ c. (nat_lt 0 i && (c == 47)) && true) (part_alike x y i (below i (common_prefix_len nat_eq x y) e)).1
    go false e = nothing (nat_lt 0 i && (get_or x i 0 == 47)) (nat_lt 0 i && (get_or y i 0 == 47))

last_of : (a b c : Bool) → ((a && b) && c) ≡ true → c ≡ true
last_of true true c e = e
last_of true false c e = absurd (cc)
last_of false b c e = absurd (cc)

-- two files in each other's place

abbrev pub one_where : Bool → ℕ
one_where b = if b then 1 else 0

exchanged : (p u q v a b : Bool) → (p && u) ≡ (q && v) → ((p && u) ≡ true → a ≡ b)
    → one_where (p && not (u || a)) + one_where (q && not b) ≡ one_where (q && not (v || b)) + one_where (p && not a)
exchanged false u false v a b e h = refl
exchanged false u true true a b e h = absurd (cc)
exchanged false u true false a true e h = refl
exchanged false u true false a false e h = refl
exchanged true true false v a b e h = absurd (cc)
exchanged true true true false a b e h = absurd (cc)
exchanged true true true true a b e h = ap (λ c. 0 + one_where (not c)) (sym (h refl))
exchanged true false false v true b e h = refl
exchanged true false false v false b e h = refl
exchanged true false true true a b e h = absurd (cc)
exchanged true false true false true true e h = refl
exchanged true false true false true false e h = refl
exchanged true false true false false true e h = refl
exchanged true false true false false false e h = refl

exchange_place : (f g : GuestFile) (files : List GuestFile) (i : ℕ)
    → one_where (is_new_directory (g ∷ files) f.path i) + one_where (is_new_directory files g.path i) ≡ one_where (is_new_directory (f ∷ files) g.path i) + one_where (is_new_directory files f.path i)
exchange_place f g files i =
    exchanged (ends_directory f.path i) (is_under g.path (take i f.path)) (ends_directory g.path i) (is_under f.path (take i g.path))
    (list_any (λ h. is_under h.path (take i f.path)) files) (list_any (λ h. is_under h.path (take i g.path)) files)
    (ends_in_both f.path g.path i ∙ both_flipped f.path g.path i ∙ sym (ends_in_both g.path f.path i))
    (λ both. ap (λ t. list_any (λ h. is_under h.path t) files)
    (part_alike f.path g.path i (below i (common_prefix_len nat_eq f.path g.path) (last_of (nat_lt 0 i) (get_or f.path i 0 == 47) (nat_lt i (common_prefix_len nat_eq f.path g.path)) (sym (ends_in_both f.path g.path i) ∙ both)))).0)

exchange_places : (f g : GuestFile) (files : List GuestFile) (n : ℕ)
    → new_directories (g ∷ files) f.path n + new_directories files g.path n ≡ new_directories (f ∷ files) g.path n + new_directories files f.path n
unfolding new_directories
exchange_places f g files zero = refl
exchange_places f g files (suc n) =
    let here = exchange_place f g files n in
    let before = exchange_places f g files n in
    omega (arith, here, before)

none_past : (files : List GuestFile) (path : List ℕ) (k : ℕ) → one_where (is_new_directory files path (k + length path)) ≡ 0
none_past files path k = ap (λ b. one_where ((nat_lt 0 (k + length path) && (b == 47)) && not (list_any (λ f. is_under f.path (take (k + length path) path)) files))) (get_or-eq_default path 0 (omega arith)) ∙ nothing (nat_lt 0 (k + length path)) (not (list_any (λ f. is_under f.path (take (k + length path) path)) files))
  where
    nothing : (a b : Bool) → one_where ((a && false) && b) ≡ 0
    nothing true b = refl
    nothing false b = refl

past_end : (files : List GuestFile) (path : List ℕ) (k : ℕ) → new_directories files path (k + length path) ≡ new_directories files path (length path)
unfolding new_directories
past_end files path zero = let here : 0 + length path ≡ length path = omega arith in ap (new_directories files path) here
past_end files path (suc k) =
    let none = none_past files path k in
    let before = past_end files path k in
    let next : suc k + length path ≡ suc (k + length path) = omega arith in
    let less : new_directories files path (suc (k + length path)) ≡ new_directories files path (length path) = omega (arith, none, before) in
    ap (new_directories files path) next ∙ less

two_exchanged : (f g : GuestFile) (files : List GuestFile) → nodes (f ∷ g ∷ files) ≡ nodes (g ∷ f ∷ files)
two_exchanged f g files =
    let n = length g.path + length f.path in
    let turned : n ≡ length f.path + length g.path = omega arith in
    let both = exchange_places f g files n in
    let a = past_end (g ∷ files) f.path (length g.path) in
    let b = past_end files f.path (length g.path) in
    let c = ap (new_directories (f ∷ files) g.path) turned ∙ past_end (f ∷ files) g.path (length f.path) in
    let d = ap (new_directories files g.path) turned ∙ past_end files g.path (length f.path) in
    let ones = nodes_of_more f (g ∷ files) in
    let two = nodes_of_more g files in
    let others = nodes_of_more g (f ∷ files) in
    let last = nodes_of_more f files in
    omega (arith, both, a, b, c, d, ones, two, others, last)

-- lists of as many nodes, of which the same is true of some file
abbrev Alike : List GuestFile → List GuestFile → Type 0
Alike xs ys = (nodes xs ≡ nodes ys) × ((p : GuestFile → Bool) → list_any p xs ≡ list_any p ys)

either_order : (a b c : Bool) → (a || (b || c)) ≡ (b || (a || c))
either_order true true c = refl
either_order true false c = refl
either_order false b c = refl

alike_exchanged : (f g : GuestFile) (files : List GuestFile) → Alike (f ∷ g ∷ files) (g ∷ f ∷ files)
alike_exchanged f g files = (two_exchanged f g files, (λ p. either_order (p f) (p g) (list_any p files)))

as_new : (xs ys : List GuestFile) → ((p : GuestFile → Bool) → list_any p xs ≡ list_any p ys) → (path : List ℕ) (n : ℕ) → new_directories xs path n ≡ new_directories ys path n
unfolding new_directories
as_new xs ys same path zero = refl
as_new xs ys same path (suc n) =
    let here : one_where (is_new_directory xs path n) ≡ one_where (is_new_directory ys path n) = ap (λ b. one_where (ends_directory path n && not b)) (same (λ f. is_under f.path (take n path))) in
    let before = as_new xs ys same path n in
    omega (arith, here, before)

alike_more : (f : GuestFile) (xs ys : List GuestFile) → Alike xs ys → Alike (f ∷ xs) (f ∷ ys)
alike_more f xs ys h =
    let new = as_new xs ys h.1 f.path (length f.path) in
    let a = nodes_of_more f xs in
    let b = nodes_of_more f ys in
    let same = h.0 in
    (omega (arith, new, a, b, same), (λ p. ap (λ b. p f || b) (h.1 p)))

alike_trans : (xs ys zs : List GuestFile) → Alike xs ys → Alike ys zs → Alike xs zs
alike_trans xs ys zs h k = (h.0 ∙ k.0, (λ p. h.1 p ∙ k.1 p))

exchange : (f d : GuestFile) (files : List GuestFile) (j : ℕ) → j < length files → Alike (f ∷ files) (get_or files j d ∷ set files j f)
exchange f d [] j lt = absurd (omega (arith, lt))
exchange f d (g ∷ files) zero lt = alike_exchanged f g files
exchange f d (g ∷ files) (suc j) lt =
    alike_trans (f ∷ g ∷ files) (g ∷ f ∷ files) (get_or files j d ∷ g ∷ set files j f) (alike_exchanged f g files)
    (alike_trans (g ∷ f ∷ files) (g ∷ get_or files j d ∷ set files j f) (get_or files j d ∷ g ∷ set files j f)
    (alike_more g (f ∷ files) (get_or files j d ∷ set files j f) (exchange f d files j (omega (arith, lt))))
    (alike_exchanged g (get_or files j d) (set files j f)))

exchanged_at : (d : GuestFile) (files : List GuestFile) (i j : ℕ) → i < length files → j < length files → Alike files (set (set files i (get_or files j d)) j (get_or files i d))
exchanged_at d [] i j a b = absurd (omega (arith, a))
exchanged_at d (f ∷ files) zero zero a b = (refl, (λ p. refl))
exchanged_at d (f ∷ files) zero (suc j) a b = exchange f d files j (omega (arith, b))
exchanged_at d (f ∷ files) (suc i) zero a b = exchange f d files i (omega (arith, a))
exchanged_at d (f ∷ files) (suc i) (suc j) a b =
    alike_more f files (set (set files i (get_or files j d)) j (get_or files i d)) (exchanged_at d files i j (omega (arith, a)) (omega (arith, b)))

swapped : (files : List GuestFile) (i j : ℕ) → i < length files → j < length files → nodes (swap files i j) ≡ nodes files
swapped [] i j a b = refl
swapped (f ∷ files) i j a b = sym (exchanged_at f (f ∷ files) i j a b).0

pub nodes_again : (xs ys : List GuestFile) → IsPermutation xs ys → nodes ys ≡ nodes xs
nodes_again xs ys h = IsPermutation-keeps xs (λ l. nodes l ≡ nodes xs) refl (λ l i j a b e. swapped l i j a b ∙ e) ys h
