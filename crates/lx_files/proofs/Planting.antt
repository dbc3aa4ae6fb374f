-- The directories above a file, one place of its path after another.
use Rattle.std.proofs.Common.{◌≡◌, ℕ, zero, suc, ◌+◌, ◌<◌, ◌≤◌, ◌&&◌, Bool, true, false, cond, List, [], ◌∷◌, take, length, get_or, Some, refl, sym, ap, subst, ◌∙◌, add-one, arith, ◌⊎◌, inl, inr, ⊎_elim, length-take, if◌then◌else◌}
use Rattle.std.specs.Prelude.{◌==◌, nat_lt, is_some, fold}
use Rattle.std.proofs.lemmas.Bool.Decides.{nat_tests}
use Rattle.std.proofs.lemmas.List.{get_or-take}
use Rattle.std.proofs.Math.Seq.{take-take}
use Rattle.std.proofs.lemmas.Cmp.{nat_list_cmp_total}
use Rattle.std.specs.Ordering.{eq_by_cmp, is_eq}
use Rattle.std.specs.Cmp.{tied_itself}
use Rattle.std.specs.FinMap as maps
use Rattle.lx_abi.specs.declared.boot.GuestFile.{GuestFile}
use Rattle.lx_abi.specs.declared.outcome.Node.{Node}
use Rattle.lx_abi.specs.declared.outcome.Node.TheVariants.{File, Directory}
use Rattle.containers.specs.Vacant.{vacant}
use Rattle.lx_files.specs.Paths.{path_cmp}
use Rattle.lx_files.specs.Trees.{Tree, created}
use Rattle.lx_files.specs.Boots.{rooted, ends_directory, is_there, HasParents, with_directory_at, with_directories, with_file, tree_of}
use Rattle.lx_files.proofs.Texts.{equal_is}

pub no_directories : (tree : Tree) (path : List ℕ) → tree ≡ with_directories tree path 0
unfolding with_directories
no_directories tree path = refl

pub one_more_place : (tree : Tree) (path : List ℕ) (i : ℕ) → with_directory_at (with_directories tree path i) path i ≡ with_directories tree path (i + 1)
unfolding with_directories
one_more_place tree path i = rw add-one refl

-- places of a path and of its beginning

ends_within : (path : List ℕ) (i : ℕ) → ends_directory path i ≡ true → i < length path
ends_within [] i h = grind (arith, nat_tests)
ends_within (b ∷ path) zero h = omega arith
ends_within (b ∷ path) (suc i) h = let k = within path i (grind (arith, nat_tests)) in omega (arith, k)
  where
    within : (p : List ℕ) (j : ℕ) → (get_or p j 0 == 47) ≡ true → j < length p
    within [] j e = grind (arith, nat_tests)
    within (x ∷ p) zero e = omega arith
    within (x ∷ p) (suc j) e = let k = within p j e in omega (arith, k)

ends_alike : (path : List ℕ) (n i : ℕ) → i < n → ends_directory (take n path) i ≡ ends_directory path i
ends_alike path n i lt = ap (λ b. nat_lt 0 i && (b == 47)) (get_or-take n path i 0 lt)

begins_alike : (path : List ℕ) (n i : ℕ) → i < n → take i (take n path) ≡ take i path
begins_alike path n i lt = take-take i n path (omega (arith, lt))

ends_in_part : (path : List ℕ) (n i : ℕ) → ends_directory (take n path) i ≡ true → i < n
ends_in_part path n i h = let k = ends_within (take n path) i h in let l = length-take n path in grind (arith, k, l)

-- what stands once a node is made

there_still : (t : Tree) (p q : List ℕ) (x : Node) → is_there t q ≡ true → is_there (created t p x) q ≡ true
there_still t p q x h = ap is_some (maps.get-insert nat_list_cmp_total t.names p (vacant t.nodes) q) ∙ go (eq_by_cmp path_cmp q p)
  where
    go : (b : Bool) → is_some (cond b (Some (vacant t.nodes)) (maps.get t.names q)) ≡ true
    go true = refl
    go false = h

there_now : (t : Tree) (p : List ℕ) (x : Node) → is_there (created t p x) p ≡ true
there_now t p x =
    ap is_some (maps.get-insert nat_list_cmp_total t.names p (vacant t.nodes) p)
    ∙ ap (λ r. is_some (cond (is_eq r) (Some (vacant t.nodes)) (maps.get t.names p))) (tied_itself nat_list_cmp_total p)

there_before : (t : Tree) (p q : List ℕ) (x : Node) → is_there (created t p x) q ≡ true → (q ≡ p) ⊎ (is_there t q ≡ true)
there_before t p q x h = go (eq_by_cmp path_cmp q p) refl (sym (ap is_some (maps.get-insert nat_list_cmp_total t.names p (vacant t.nodes) q)) ∙ h)
  where
    go : (b : Bool) → eq_by_cmp path_cmp q p ≡ b → is_some (cond b (Some (vacant t.nodes)) (maps.get t.names q)) ≡ true → (q ≡ p) ⊎ (is_there t q ≡ true)
    go true e k = inl (equal_is q p e)
    go false e k = inr k

-- above the first that is there, all are

stays : (tree : Tree) (path : List ℕ) (k n : ℕ) → HasParents tree → is_there tree (take k path) ≡ true → n < k → (b : Bool) → ends_directory path n ≡ b
    → (if b then (if is_there tree (take n path) then tree else created tree (take n path) Directory) else tree) ≡ tree
unfolding HasParents
stays tree path k n whole there lt true e =
    let up = sym (ap (is_there tree) (begins_alike path k n lt)) ∙ whole (take k path) n there (ends_alike path k n lt ∙ e) in
    ap (λ b. cond b tree (created tree (take n path) Directory)) up
stays tree path k n whole there lt false e = refl

up_to : (tree : Tree) (path : List ℕ) (k n : ℕ) → HasParents tree → is_there tree (take k path) ≡ true → n ≤ k → with_directories tree path n ≡ tree
unfolding with_directories
up_to tree path k zero whole there le = refl
up_to tree path k (suc n) whole there le =
    ap (λ t. with_directory_at t path n) (up_to tree path k n whole there (omega (arith, le)))
    ∙ stays tree path k n whole there (omega (arith, le)) (ends_directory path n) refl

pub known_stand : (tree : Tree) (path : List ℕ) (k : ℕ) → HasParents tree → (0 < k → is_there tree (take k path) ≡ true) → tree ≡ with_directories tree path k
known_stand tree path zero whole there = no_directories tree path
known_stand tree path (suc k) whole there = sym (up_to tree path (suc k) (suc k) whole (there (omega arith)) (omega arith))

-- the place at which a directory ends that is there
pub known_stand_past : (tree : Tree) (path : List ℕ) (k : ℕ) → HasParents tree → (0 < k → is_there tree (take k path) ≡ true) → tree ≡ with_directories tree path (k + 1)
known_stand_past tree path k whole there =
    sym (go (ends_directory path k) refl) ∙ ap (λ t. with_directory_at t path k) (known_stand tree path k whole there) ∙ one_more_place tree path k
  where
    go : (b : Bool) → ends_directory path k ≡ b → with_directory_at tree path k ≡ tree
    go true e = ap (λ b. cond b (cond (is_there tree (take k path)) tree (created tree (take k path) Directory)) tree) e
        ∙ ap (λ b. cond b tree (created tree (take k path) Directory)) (there (grind (arith, nat_tests, e)))
    go false e = ap (λ b. cond b (cond (is_there tree (take k path)) tree (created tree (take k path) Directory)) tree) e

-- The directories above each file of a boot stand.

-- those above the path's first n places
Above : Tree → List ℕ → ℕ → Type 0
Above tree path n = (i : ℕ) → i < n → ends_directory path i ≡ true → is_there tree (take i path) ≡ true

made : (t : Tree) (p : List ℕ) (x : Node) → HasParents t → ((i : ℕ) → ends_directory p i ≡ true → is_there t (take i p) ≡ true) → HasParents (created t p x)
unfolding HasParents
made t p x whole above q i there ends =
    ⊎_elim (λ e. there_still t p (take i q) x (ap (λ r. is_there t (take i r)) e ∙ above i (sym (ap (λ r. ends_directory r i) e) ∙ ends)))
    (λ h. there_still t p (take i q) x (whole q i h ends))
    (there_before t p q x there)

above_part : (t : Tree) (path : List ℕ) (n : ℕ) → Above t path n → (i : ℕ) → ends_directory (take n path) i ≡ true → is_there t (take i (take n path)) ≡ true
unfolding Above
above_part t path n above i h =
    let lt = ends_in_part path n i h in
    ap (is_there t) (begins_alike path n i lt) ∙ above i lt (sym (ends_alike path n i lt) ∙ h)

abbrev Both : Tree → List ℕ → ℕ → Type 0
Both tree path n = HasParents tree × Above tree path n

last_place : (i n : ℕ) → i < suc n → (i < n) ⊎ (i ≡ n)
last_place i n lt = grind (arith, lt)

one_place : (t : Tree) (path : List ℕ) (n : ℕ) → Both t path n → (b there : Bool) → ends_directory path n ≡ b → is_there t (take n path) ≡ there
    → Both (if b then (if there then t else created t (take n path) Directory) else t) path (suc n)
unfolding Above
one_place t path n both false there e k = (
  both.0,
  (λ i lt ends.
      ⊎_elim (λ l. both.1 i l ends) (λ same. absurd (let no : true ≡ false = sym ends ∙ ap (ends_directory path) same ∙ e in cc no)) (last_place i n lt)),
)
one_place t path n both true true e k = (
  both.0,
  (λ i lt ends.
      ⊎_elim (λ l. both.1 i l ends) (λ same. ap (λ j. is_there t (take j path)) same ∙ k) (last_place i n lt)),
)
one_place t path n both true false e k = (
  made t (take n path) Directory both.0 (above_part t path n both.1),
  (λ i lt ends.
      ⊎_elim (λ l. there_still t (take n path) (take i path) Directory (both.1 i l ends)) (λ same. ap (λ j. is_there (created t (take n path) Directory) (take j path)) same ∙ there_now t (take n path) Directory) (last_place i n lt)),
)

all_places : (t : Tree) (path : List ℕ) (n : ℕ) → HasParents t → Both (with_directories t path n) path n
unfolding with_directories Above
all_places t path zero whole = (whole, (λ i lt ends. absurd (omega (arith, lt))))
all_places t path (suc n) whole =
    one_place (with_directories t path n) path n (all_places t path n whole) (ends_directory path n) (is_there (with_directories t path n) (take n path)) refl refl

with_file_keeps : (t : Tree) (f : GuestFile) → HasParents t → HasParents (with_file t f)
unfolding Above
with_file_keeps t f whole =
    let both = all_places t f.path (length f.path) whole in
    made (with_directories t f.path (length f.path)) f.path (File f.content) both.0 (λ i ends. both.1 i (ends_within f.path i ends) ends)

none_there : HasParents (record { names = maps.empty; nodes = maps.empty })
unfolding HasParents
none_there path i there ends = absurd (let no : true ≡ false = sym there ∙ ap is_some (maps.get-empty path_cmp path) in cc no)

root_alone : HasParents rooted
root_alone = made (record { names = maps.empty; nodes = maps.empty }) [] Directory none_there (λ i ends. absurd (grind (arith, nat_tests, ends)))

all_files : (t : Tree) (files : List GuestFile) → HasParents t → HasParents (fold with_file t files)
all_files t [] whole = whole
all_files t (f ∷ files) whole = all_files (with_file t f) files (with_file_keeps t f whole)

pub planted : (t : Tree) (files : List GuestFile) → t ≡ tree_of files → HasParents t
planted t files e = subst HasParents (sym e) (all_files rooted files root_alone)
