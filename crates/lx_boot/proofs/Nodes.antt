-- The nodes that files make, counted by what paths begin with alike.
use mir.Val.{bool_byte}
use Rattle.std.proofs.Common.{◌≡◌, ℕ, zero, suc, ◌+◌, ◌<◌, ◌≤◌, Bool, true, false, cond, List, [], ◌∷◌, length, get_or, take, drop, length-drop, refl, ap, ◌∙◌, eqb, arith, add-one, if◌then◌else◌}
use Rattle.std.specs.Prelude.{◌&&◌, ◌||◌, ◌==◌, not, min, max, fold, nat_eq, nat_lt, nat_le}
use Rattle.std.specs.List.{list_any, common_prefix_len}
use Rattle.std.proofs.lemmas.Bool.Decides.{nat_tests}
use Rattle.std.proofs.lemmas.List.Sums.{common_prefix_len-le, common_prefix_len-drop_yes, common_prefix_len-drop_no}
use Rattle.lx_abi.specs.declared.boot.GuestFile.{GuestFile}
use Rattle.lx_abi.specs.Limits.{most_nodes}
use Rattle.lx_boot.specs.Paths.{is_under}
use Rattle.lx_boot.specs.Limits.{is_new_directory, new_directories, nodes}

at_slash : (x y n : ℕ) → x ≡ 47 → eqb y 47 ≡ nat_lt 0 (cond (nat_eq x y) (1 + n) 0)
at_slash x y n h = go (nat_eq x y) refl
  where
    go : (b : Bool) → nat_eq x y ≡ b → eqb y 47 ≡ nat_lt 0 (cond b (1 + n) 0)
    go true e = grind (arith, nat_tests)
    go false e = grind (arith, nat_tests)

further : (b rest at : Bool) (j c : ℕ) → (rest && at) ≡ nat_lt j c → ((b && rest) && at) ≡ nat_lt (suc j) (cond b (1 + c) 0)
further true rest at j c e = e ∙ (let same : nat_lt j c ≡ nat_lt (suc j) (1 + c) = grind (arith, nat_tests) in same)
further false rest at j c e = grind (arith, nat_tests)

never_below_0 : (n : ℕ) → false ≡ nat_lt n 0
never_below_0 n = grind (arith, nat_tests)

-- a path lies in a directory of another where they begin alike up to the directory's end
pub under_common : (path other : List ℕ) (i : ℕ) → i < length path → get_or path i 0 ≡ 47 → is_under other (take i path) ≡ nat_lt i (common_prefix_len nat_eq path other)
under_common [] other i lt h = absurd (omega (arith, lt))
under_common (x ∷ path) [] zero lt h = refl
under_common (x ∷ path) [] (suc i) lt h = never_below_0 (suc i)
under_common (x ∷ path) (y ∷ other) zero lt h = at_slash x y (common_prefix_len nat_eq path other) h
under_common (x ∷ path) (y ∷ other) (suc i) lt h = further (nat_eq x y) _ _ i (common_prefix_len nat_eq path other) (under_common path other i (omega (arith, lt)) h)

-- What two paths begin with alike, one place after another.

pub alike_here : (xs ys : List ℕ) (i : ℕ) → i < length xs → i < length ys → get_or xs i 0 ≡ get_or ys i 0
    → common_prefix_len nat_eq xs ys ≡ i + common_prefix_len nat_eq (drop i xs) (drop i ys) → common_prefix_len nat_eq xs ys ≡ i + 1 + common_prefix_len nat_eq (drop (i + 1) xs) (drop (i + 1) ys)
alike_here xs ys i a b e h =
    let same : nat_eq (get_or xs i 0) (get_or ys i 0) ≡ true = grind (arith, nat_tests) in
    let k = common_prefix_len-drop_yes nat_eq xs ys i 0 0 a b same in
    omega (arith, h, k)

pub unlike_here : (xs ys : List ℕ) (i : ℕ) → i < length xs → i < length ys → ¬ (get_or xs i 0 ≡ get_or ys i 0)
    → common_prefix_len nat_eq xs ys ≡ i + common_prefix_len nat_eq (drop i xs) (drop i ys) → i ≡ common_prefix_len nat_eq xs ys
unlike_here xs ys i a b e h =
    let other : nat_eq (get_or xs i 0) (get_or ys i 0) ≡ false = grind (arith, nat_tests) in
    let k = common_prefix_len-drop_no nat_eq xs ys i 0 0 a b other in
    omega (arith, h, k)

pub alike_to_an_end : (xs ys : List ℕ) (i : ℕ) → min (length xs) (length ys) ≤ i
    → common_prefix_len nat_eq xs ys ≡ i + common_prefix_len nat_eq (drop i xs) (drop i ys) → i ≡ common_prefix_len nat_eq xs ys
alike_to_an_end xs ys i ends h =
    let k = common_prefix_len-le nat_eq (drop i xs) (drop i ys) in
    let n = length-drop i xs in
    let m = length-drop i ys in
    omega (arith, h, k.0, k.1, n, m, ends)

-- Directories.

abbrev pub longer : List ℕ → ℕ → GuestFile → ℕ
longer path n f = max n (common_prefix_len nat_eq path f.path)

or_nothing : (b : Bool) → b ≡ (b || false)
or_nothing true = refl
or_nothing false = refl

below_max : (i a c : ℕ) (b any : Bool) → b ≡ nat_lt i c → (nat_lt i (max a c) || any) ≡ (nat_lt i a || (b || any))
below_max i a c b any e = rw e (grind (arith, nat_tests))

-- one of the files lies in a directory of the path where the longest common beginning passes the directory's end
pub lies_in_any : (path : List ℕ) (i a : ℕ) (files : List GuestFile) → i < length path → get_or path i 0 ≡ 47
    → nat_lt i (fold (longer path) a files) ≡ (nat_lt i a || list_any (λ f. is_under f.path (take i path)) files)
lies_in_any path i a [] lt h = or_nothing (nat_lt i a)
lies_in_any path i a (f ∷ files) lt h =
    lies_in_any path i (longer path a f) files lt h ∙ below_max i a (common_prefix_len nat_eq path f.path) (is_under f.path (take i path)) (list_any (λ f. is_under f.path (take i path)) files) (under_common path f.path i lt h)

by_slash : (files : List GuestFile) (path : List ℕ) (i known : ℕ) → i < length path → known ≡ fold (longer path) 0 files → (b : Bool) → (get_or path i 0 == 47) ≡ b
    → (nat_lt 0 i && b && nat_le known i) ≡ ((nat_lt 0 i && b) && not (list_any (λ f. is_under f.path (take i path)) files))
by_slash files path i known lt e true h =
    let at : get_or path i 0 ≡ 47 = grind (arith, nat_tests) in
    let k = lies_in_any path i 0 files lt at in
    grind (arith, nat_tests)
by_slash files path i known lt e false h = grind (arith, nat_tests)

-- a slash ends a new directory where the longest common beginning doesn't pass it
pub ends_new_directory : (files : List GuestFile) (path : List ℕ) (i known : ℕ) → i < length path → known ≡ fold (longer path) 0 files
    → (nat_lt 0 i && (get_or path i 0 == 47) && nat_le known i) ≡ is_new_directory files path i
ends_new_directory files path i known lt e = by_slash files path i known lt e (get_or path i 0 == 47) refl

pub no_directories_yet : (files : List GuestFile) (path : List ℕ) → 0 ≡ new_directories files path 0
unfolding new_directories
no_directories_yet files path = refl

-- one more is counted where one ends
pub count_one : (b : Bool) (count byte so_far : ℕ) → byte ≡ bool_byte b → count ≡ so_far → (count + byte ≡ (if b then 1 else 0) + so_far) × (count + byte ≤ count + 1)
count_one true count byte so_far e h = (omega (arith, e, h), omega (arith, e))
count_one false count byte so_far e h = (omega (arith, e, h), omega (arith, e))

pub one_more_directory : (files : List GuestFile) (path : List ℕ) (i : ℕ) → (if is_new_directory files path i then 1 else 0) + new_directories files path i ≡ new_directories files path (i + 1)
unfolding new_directories
one_more_directory files path i = rw add-one refl

-- there are more nodes than files
pub more_nodes : (files : List GuestFile) → length files < nodes files
unfolding nodes
more_nodes [] = omega arith
more_nodes (f ∷ files) = let h = more_nodes files in omega (arith, h)

pub too_many : (files : List GuestFile) → most_nodes ≤ length files → false ≡ nat_le (nodes files) most_nodes
too_many files h = let k = more_nodes files in grind (arith, nat_tests)

pub no_more_nodes : nodes [] ≡ 1
unfolding nodes
no_more_nodes = refl

pub nodes_of_more : (f : GuestFile) (files : List GuestFile) → nodes (f ∷ files) ≡ 1 + new_directories files f.path (length f.path) + nodes files
unfolding nodes
nodes_of_more f files = refl

-- The count so far, of all files and of those that are left.

pub one_file_less : (files left_files rest : List GuestFile) (f : GuestFile) (left less new : ℕ) → left_files ≡ f ∷ rest → new ≡ new_directories rest f.path (length f.path)
    → nodes files + left ≡ nodes left_files + 4095 → less + (1 + new) ≡ left → nodes files + less ≡ nodes rest + 4095
one_file_less files left_files rest f left less new is counted h e = let k = ap nodes is ∙ nodes_of_more f rest in omega (arith, k, counted, h, e)

pub one_file_too_many : (files left_files rest : List GuestFile) (f : GuestFile) (left new : ℕ) → left_files ≡ f ∷ rest → new ≡ new_directories rest f.path (length f.path)
    → nodes files + left ≡ nodes left_files + 4095 → left < 1 + new → false ≡ nat_le (nodes files) most_nodes
one_file_too_many files left_files rest f left new is counted h lt =
    let k = ap nodes is ∙ nodes_of_more f rest in
    let more = more_nodes rest in
    let over : most_nodes < nodes files = omega (arith, k, counted, h, lt, more) in
    grind (arith, nat_tests)

pub all_counted : (files left_files : List GuestFile) (left : ℕ) → length left_files ≡ 0 → nodes files + left ≡ nodes left_files + 4095 → true ≡ nat_le (nodes files) most_nodes
all_counted files [] left none h =
    let within : nodes files ≤ most_nodes = omega (arith, no_more_nodes, h) in
    grind (arith, nat_tests)
all_counted files (f ∷ left_files) left none h = absurd (omega (arith, none))
