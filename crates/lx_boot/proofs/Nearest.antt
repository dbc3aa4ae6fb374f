-- In an order of paths the next begins with as much of a path as any behind it.
use Rattle.std.proofs.Common.{◌≡◌, ℕ, zero, suc, ◌+◌, ◌-◌, ◌<◌, ◌≤◌, Bool, true, false, cond, Some, List, [], ◌∷◌, length, map, take, drop, get_or, refl, sym, ap, subst, ◌∙◌, arith, length-drop, Bor, if◌then◌else◌}
use Rattle.std.specs.Prelude.{◌==◌, nat_eq, nat_lt, nat_le, max, fold}
use Rattle.std.specs.List.{AllByRecursion, common_prefix_len}
use Rattle.std.proofs.lemmas.Bool.Decides.{nat_tests}
use Rattle.lx_abi.specs.declared.boot.GuestFile.{GuestFile}
use Rattle.lx_boot.specs.Limits.{is_new_directory, new_directories, nodes}
use Rattle.lx_boot.specs.Neighbours.{rank, precedes, AreOrdered, IsTold, first_nodes}
use Rattle.lx_boot.proofs.Shuffled.{one_where}
use Rattle.lx_abi.specs.Limits.{most_nodes}
use Rattle.lx_boot.proofs.Nodes.{longer, ends_new_directory, no_more_nodes, one_file_less, one_file_too_many, all_counted, too_many}
use Rattle.std.proofs.lemmas.List.{drop_more, length-map, take_all}
use Rattle.std.proofs.Math.ListN.{drop_of_length-le}

nearer : (a b c m n : ℕ) (p q : Bool) → (p ≡ true → q ≡ true → m ≤ n) → (if a == b then p else nat_lt (rank a) (rank b)) ≡ true → (if b == c then q else nat_lt (rank b) (rank c)) ≡ true
    → cond (nat_eq a c) (1 + m) 0 ≤ cond (nat_eq a b) (1 + n) 0
nearer a b c m n p q f h k = grind (arith, nat_tests)

nearest : (t : Bool) (x y z : List ℕ) → precedes t x y ≡ true → precedes t y z ≡ true → common_prefix_len nat_eq x z ≤ common_prefix_len nat_eq x y
unfolding precedes
nearest t [] y z h k = omega arith
nearest t (a ∷ x) [] z h k = absurd (cc)
nearest t (a ∷ x) (b ∷ y) [] h k = absurd (cc)
nearest t (a ∷ x) (b ∷ y) (c ∷ z) h k =
    nearer a b c (common_prefix_len nat_eq x z) (common_prefix_len nat_eq x y) (precedes t x y) (precedes t y z) (nearest t x y z) h k

not_longer : (n m : ℕ) → m ≤ n → max n m ≡ n
not_longer n m le = grind (arith, nat_tests)

none_longer : (t : Bool) (f g : GuestFile) (n : ℕ) (files : List GuestFile) → precedes t f.path g.path ≡ true → AllByRecursion (λ h. precedes t g.path h.path ≡ true) files
    → common_prefix_len nat_eq f.path g.path ≤ n → fold (longer f.path) n files ≡ n
none_longer t f g n [] p all le = refl
none_longer t f g n (h ∷ files) p all le =
    let near = nearest t f.path g.path h.path p all.0 in
    ap (λ m. fold (longer f.path) m files) (not_longer n (common_prefix_len nat_eq f.path h.path) (omega (arith, near, le)))
    ∙ none_longer t f g n files p all.1 le

below_max : (n m : ℕ) → m ≤ max n m
below_max n m = grind (arith, nat_tests)

-- the longest common beginning is that with the next
next_is_longest : (t : Bool) (f : GuestFile) (files : List GuestFile) → AreOrdered t (f ∷ files) → fold (longer f.path) 0 files ≡ fold (longer f.path) 0 (take 1 files)
unfolding AreOrdered
next_is_longest t f [] ordered = refl
next_is_longest t f (g ∷ files) ordered =
    none_longer t f g (max 0 (common_prefix_len nat_eq f.path g.path)) files ordered.0.0 ordered.1.0 (below_max 0 (common_prefix_len nat_eq f.path g.path))

directories_by : (path : List ℕ) (files gs : List GuestFile) → fold (longer path) 0 files ≡ fold (longer path) 0 gs → (n : ℕ) → n ≤ length path → new_directories files path n ≡ new_directories gs path n
unfolding new_directories
directories_by path files gs e zero le = refl
directories_by path files gs e (suc n) le =
    let known = fold (longer path) 0 files in
    let here : is_new_directory files path n ≡ is_new_directory gs path n = sym (ends_new_directory files path n known (omega (arith, le)) refl) ∙ ends_new_directory gs path n known (omega (arith, le)) e in
    let one : one_where (is_new_directory files path n) ≡ one_where (is_new_directory gs path n) = ap one_where here in
    let before = directories_by path files gs e n (omega (arith, le)) in
    omega (arith, one, before)

pub next_tells : (t : Bool) (f : GuestFile) (files : List GuestFile) → AreOrdered t (f ∷ files) → new_directories (take 1 files) f.path (length f.path) ≡ new_directories files f.path (length f.path)
next_tells t f files ordered = sym (directories_by f.path files (take 1 files) (next_is_longest t f files ordered) (length f.path) (omega arith))

pub more_ordered : (t : Bool) (f : GuestFile) (files : List GuestFile) → AreOrdered t (f ∷ files) → AreOrdered t files
unfolding AreOrdered
more_ordered t f files ordered = ordered.1

none_fit : true ≡ nat_le (nodes []) most_nodes
none_fit = sym (ap (λ n. nat_le n most_nodes) no_more_nodes)

-- what is told of no files
pub none_told : (files : List (Bor GuestFile)) → length files ≡ 0 → IsTold (map (λ f. f.now) files) (record { under = Some false; twice = Some false; few = Some true })
none_told [] none = record { under = refl; twice = refl; few = none_fit }
none_told (f ∷ files) none = absurd (omega (arith, none))

pub no_first : (files : List (Bor GuestFile)) → length files ≡ 0 → 0 ≡ first_nodes (map (λ f. f.now) files)
unfolding first_nodes
no_first [] none = refl
no_first (f ∷ files) none = absurd (omega (arith, none))

pub one_first : (all rest : List GuestFile) (f : GuestFile) (new : ℕ) → all ≡ f ∷ rest → new ≡ new_directories (take 1 rest) f.path (length f.path) → 1 + new ≡ first_nodes all
unfolding first_nodes
one_first all rest f new e h = ap (λ n. 1 + n) h ∙ sym (ap first_nodes e)

-- Files counted one after another, from a place on.

abbrev values : List (Bor GuestFile) → List GuestFile
values = map (λ f. f.now)

from_place : (files : List (Bor GuestFile)) (i : ℕ) (d : Bor GuestFile) → i < length files → values (drop i files) ≡ (get_or files i d).now ∷ values (drop (i + 1) files)
from_place files i d lt = ap values (drop_more files i d lt)

in_order_from : (files : List (Bor GuestFile)) (i : ℕ) (d : Bor GuestFile) → i < length files → AreOrdered true (values (drop i files)) → AreOrdered true ((get_or files i d).now ∷ values (drop (i + 1) files))
in_order_from files i d lt ordered = subst (AreOrdered true) (from_place files i d lt) ordered

pub in_order_behind : (files : List (Bor GuestFile)) (i : ℕ) (d : Bor GuestFile) → i < length files → AreOrdered true (values (drop i files)) → AreOrdered true (values (drop (i + 1) files))
in_order_behind files i d lt ordered = more_ordered true (get_or files i d).now (values (drop (i + 1) files)) (in_order_from files i d lt ordered)

-- what the first file makes beside the next is what it makes beside all behind
counted_from : (files : List (Bor GuestFile)) (i n : ℕ) (d : Bor GuestFile) → i < length files → AreOrdered true (values (drop i files)) → n ≡ first_nodes (values (take (length files - i) (drop i files)))
    → n ≡ 1 + new_directories (values (drop (i + 1) files)) (get_or files i d).now.path (length (get_or files i d).now.path)
unfolding first_nodes
counted_from files i n d lt ordered e =
    let all : take (length files - i) (drop i files) ≡ drop i files = take_all (length files - i) (drop i files) (let m = length-drop i files in omega (arith, m)) in
    e ∙ ap (λ l. first_nodes (values l)) all ∙ ap first_nodes (from_place files i d lt)
    ∙ ap (λ m. 1 + m) (next_tells true (get_or files i d).now (values (drop (i + 1) files)) (in_order_from files i d lt ordered))

abbrev new_at : List (Bor GuestFile) → ℕ → Bor GuestFile → ℕ
new_at files i d = new_directories (values (drop (i + 1) files)) (get_or files i d).now.path (length (get_or files i d).now.path)

pub one_place_less : (files : List (Bor GuestFile)) (i left less n : ℕ) (d : Bor GuestFile) → i < length files → AreOrdered true (values (drop i files)) → n ≡ first_nodes (values (take (length files - i) (drop i files)))
    → nodes (values files) + left ≡ nodes (values (drop i files)) + 4095 → less + n ≡ left → nodes (values files) + less ≡ nodes (values (drop (i + 1) files)) + 4095
one_place_less files i left less n d lt ordered e counted h =
    let all = counted_from files i n d lt ordered e in
    one_file_less (values files) (values (drop i files)) (values (drop (i + 1) files)) (get_or files i d).now left less (new_at files i d) (from_place files i d lt) refl counted (omega (arith, all, h))

pub one_place_too_many : (files : List (Bor GuestFile)) (i left n : ℕ) (d : Bor GuestFile) → i < length files → AreOrdered true (values (drop i files)) → n ≡ first_nodes (values (take (length files - i) (drop i files)))
    → nodes (values files) + left ≡ nodes (values (drop i files)) + 4095 → left < n → false ≡ nat_le (nodes (values files)) most_nodes
one_place_too_many files i left n d lt ordered e counted h =
    let all = counted_from files i n d lt ordered e in
    one_file_too_many (values files) (values (drop i files)) (values (drop (i + 1) files)) (get_or files i d).now left (new_at files i d) (from_place files i d lt) refl counted (omega (arith, all, h))

pub all_places_counted : (files : List (Bor GuestFile)) (i left : ℕ) → length files ≤ i → nodes (values files) + left ≡ nodes (values (drop i files)) + 4095 → true ≡ nat_le (nodes (values files)) most_nodes
all_places_counted files i left end counted = all_counted (values files) (values (drop i files)) left (ap (λ l. length (values l)) (drop_of_length-le files end)) counted

pub too_many_places : (files : List (Bor GuestFile)) → most_nodes ≤ length files → false ≡ nat_le (nodes (values files)) most_nodes
too_many_places files h = too_many (values files) (let e = length-map files (λ (f : Bor GuestFile). f.now) in omega (arith, e, h))
