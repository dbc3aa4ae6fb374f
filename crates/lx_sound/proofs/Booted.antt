-- The tree of a boot's files that isn't refused: a tree of directories, within the bounds.
use Rattle.std.proofs.Common.{◌≡◌, ℕ, zero, suc, ◌+◌, ◌<◌, ◌≤◌, ◌⊎◌, inl, inr, ⊎_elim, ◌&&◌, ◌||◌, Bool, true, false, cond, List, [], ◌∷◌, ◌++◌, take, length, Option, Some, None, refl, ap, sym, subst, ◌∙◌, arith, length-take}
use Rattle.std.proofs.lemmas.Bool.Decides.{nat_tests}
use Rattle.std.proofs.lemmas.Cmp.{nat_list_cmp_total}
use Rattle.std.proofs.lemmas.List.{get_or-take, append-nil, append_assoc}
use Rattle.std.proofs.lemmas.List.Sorted.{IsPermutation-append_comm, IsPermutation-append_left}
use Rattle.std.specs.List.Sorted.{IsPermutation}
use Rattle.std.proofs.lemmas.Slice.Eq.{bytes_eq-Decides}
use Rattle.std.proofs.Math.Seq.{take-take, take-length}
use Rattle.std.specs.Prelude.{◌==◌, nat_eq, nat_lt, nat_le, not, fold, is_some, slice_index}
use Rattle.std.specs.List.{list_any, list_all, slice_split, onto_first, sum_by}
use Rattle.std.specs.Str.{bytes_eq}
use Rattle.std.specs.Ordering.{nat_cmp, eq_by_cmp}
use Rattle.std.specs.Cmp.{nat_cmp_total}
use Rattle.std.specs.FinMap as maps
use Rattle.containers.specs.Vacant.{vacant}
use Rattle.containers.proofs.Vacant.{vacant_is_least}
use Rattle.lx_abi.specs.Limits.{most_nodes, most_contents, largest_file, are_limits}
use Rattle.lx_abi.specs.declared.boot.Boot.{Boot}
use Rattle.lx_abi.specs.declared.boot.GuestFile.{GuestFile}
use Rattle.lx_abi.specs.declared.outcome.Node.{Node}
use Rattle.lx_abi.specs.declared.outcome.Node.TheVariants.{File, Directory}
use Rattle.lx_files.specs.Boots.{rooted, ends_directory, is_there, with_directory_at, with_directories, with_file, tree_of}
use Rattle.lx_files.specs.Kinds.{size_of}
use Rattle.lx_files.specs.Paths.{Path, path_cmp, slash, has_slash, parent}
use Rattle.lx_files.specs.Tallies.{total, weight}
use Rattle.lx_files.specs.Trees.{node_at, contents, created}
use Rattle.lx_files.specs.declared.tree.Tree.{Tree}
use Rattle.lx_files.proofs.Texts.{equal_is}
use Rattle.lx_files.proofs.Totals.{total-insert, total-empty}
use Rattle.lx_boot.specs.Boots.{is_bad_part, is_bad_path, is_misplaced, has_bad_path, has_duplicate, has_no_program, fits, fault_of}
use Rattle.lx_boot.specs.Limits.{path_fits, file_fits, content_size, is_new_directory, new_directories, nodes, files_fit}
use Rattle.lx_boot.specs.Paths.{is_under}
use Rattle.lx_boot.specs.declared.boots.BootFault.TheVariants.{BadPath, Duplicate, NoProgram, TooLarge, BadLimit}
use Rattle.lx_boot.proofs.Ordered.{not_itself}
use Rattle.lx_boot.proofs.Shuffled.{nodes_again}
use Rattle.lx_open.specs.Opens.{no_fds}
use Rattle.lx_sound.specs.Reached.{AreReached}
use Rattle.lx_sound.specs.Rooted.{is_directory, IsRooted}
use Rattle.lx_sound.proofs.Maps.{neither, there_now, inserted, put_elsewhere}
use Rattle.lx_sound.proofs.Reached.{created_reached}
use Rattle.lx_sound.proofs.Trees.{named, created_now, created_stays, created_rooted}

-- Places of a path and of its beginning.

both_true : (x y : Bool) → (x && y) ≡ true → (x ≡ true) × (y ≡ true)
both_true true y h = (refl, h)
both_true false y h = absurd (cc h)

slash_within : (q : Path) (i : ℕ) → (slice_index q i == slash) ≡ true → i < length q
slash_within [] i e = grind (arith, nat_tests)
slash_within (x ∷ q) zero e = omega arith
slash_within (x ∷ q) (suc i) e = let k = slash_within q i e in omega (arith, k)

ends_slash : (q : Path) (i : ℕ) → ends_directory q i ≡ true → (slice_index q i == slash) ≡ true
ends_slash q i e = grind (arith, nat_tests, e)

ends_within : (q : Path) (i : ℕ) → ends_directory q i ≡ true → i < length q
ends_within q i e = slash_within q i (ends_slash q i e)

ends_alike : (q : Path) (n i : ℕ) → i < n → ends_directory (take n q) i ≡ ends_directory q i
ends_alike q n i lt = ap (λ b. nat_lt 0 i && (b == 47)) (get_or-take n q i 0 lt)

ends_in_part : (q : Path) (n i : ℕ) → ends_directory (take n q) i ≡ true → i < n
ends_in_part q n i e = let k = ends_within (take n q) i e in let l = length-take n q in grind (arith, k, l)

-- the parent of a path is the root, or ends at a slash
last_slash : (q : Path) → has_slash q ≡ true → (j : ℕ) × (parent q ≡ take j q) × ((slice_index q j == slash) ≡ true)
unfolding parent
last_slash [] e = absurd (cc e)
last_slash (b ∷ bs) e = go (has_slash bs) refl (last_slash bs)
  where
    go : (t : Bool) → has_slash bs ≡ t → (has_slash bs ≡ true → (j : ℕ) × (parent bs ≡ take j bs) × ((slice_index bs j == slash) ≡ true))
        → (j : ℕ) × (cond t (b ∷ parent bs) [] ≡ take j (b ∷ bs)) × ((slice_index (b ∷ bs) j == slash) ≡ true)
    go true is later = let rest = later is in (suc rest.0, ap (λ r. b ∷ r) rest.1, rest.2)
    go false is later = (0, refl, grind (arith, e, is))

parent_place : (q : Path) → (parent q ≡ []) ⊎ ((j : ℕ) × (parent q ≡ take j q) × (ends_directory q j ≡ true))
unfolding parent
parent_place [] = inl refl
parent_place (b ∷ bs) = go (has_slash bs) refl
  where
    go : (t : Bool) → has_slash bs ≡ t → (cond t (b ∷ parent bs) [] ≡ []) ⊎ ((j : ℕ) × (cond t (b ∷ parent bs) [] ≡ take j (b ∷ bs)) × (ends_directory (b ∷ bs) j ≡ true))
    go false is = inl refl
    go true is =
        let at = last_slash bs is in
        let here : (slice_index bs at.0 == slash) ≡ true = at.2 in
        inr (suc at.0, ap (λ r. b ∷ r) at.1, (let pos : nat_lt 0 (suc at.0) ≡ true = grind (arith, nat_tests) in ap (λ t. t && (slice_index bs at.0 == 47)) pos ∙ here))

-- a path lies under what it begins with, up to a slash
under_start : (q : Path) (i : ℕ) → (slice_index q i == slash) ≡ true → is_under q (take i q) ≡ true
under_start [] i e = grind (arith, nat_tests)
under_start (x ∷ q) zero e = e
under_start (x ∷ q) (suc i) e = let here : nat_eq x x ≡ true = grind (arith, nat_tests) in let rest = under_start q i e in grind (arith, here, rest)

start_under : (path q : Path) → is_under path q ≡ true → (q ≡ take (length q) path) × ((slice_index path (length q) == slash) ≡ true)
start_under path [] e = (refl, e)
start_under [] (x ∷ q) e = absurd (grind (arith, nat_tests, e))
start_under (y ∷ path) (x ∷ q) e =
    let rest = start_under path q (grind (arith, e)) in
    let same : nat_eq x y ≡ true = grind (arith, e) in
    let is : x ≡ y = grind (arith, nat_tests, same) in
    (ap (λ r. x ∷ r) rest.0 ∙ ap (λ z. z ∷ take (length q) path) is, rest.1)

-- A good path is no slash alone, and begins with none.

bad_root : (path : Path) → is_bad_path path ≡ false → path ≡ [] → ⊥
unfolding is_bad_path
bad_root [] h e = cc h
bad_root (b ∷ path) h e = cc e

good_whole : (path : Path) → is_bad_path path ≡ false → path ≡ slash ∷ [] → ⊥
unfolding is_bad_path is_bad_part
good_whole path h e = let bad : is_bad_path (slash ∷ []) ≡ true = refl in let good : is_bad_path (slash ∷ []) ≡ false = subst (λ q. is_bad_path q ≡ false) e h in absurd (cc (bad, good))

-- its second byte is no slash
second_byte : (b c : ℕ) (path : Path) → is_bad_path (b ∷ c ∷ path) ≡ false → (c == slash) ≡ false
unfolding is_bad_path is_bad_part
second_byte b c path h = go (c == 47) refl (neither (not (b == 47)) _ h).1
  where
    go : (t : Bool) → (c == 47) ≡ t → list_any is_bad_part (cond t ([] ∷ slice_split (λ x. x == 47) path) (onto_first c (slice_split (λ x. x == 47) path))) ≡ false → t ≡ false
    go true is bad = absurd (cc bad)
    go false is bad = refl

good_start : (path : Path) (n : ℕ) → is_bad_path path ≡ false → ends_directory path n ≡ true → take n path ≡ slash ∷ [] → ⊥
good_start path n h ends is = go path h ends is
  where
    one : (q : Path) → ends_directory q n ≡ true → take n q ≡ slash ∷ [] → n ≡ 1
    one q ends is =
        let long = length-take n q in
        let within : n < length q = ends_within q n ends in
        let is_one : length (take n q) ≡ 1 = ap length is in
        omega (arith, long, within, is_one)

    go : (q : Path) → is_bad_path q ≡ false → ends_directory q n ≡ true → take n q ≡ slash ∷ [] → ⊥
    go [] h ends is = let none = ends_within [] n ends in omega (arith, none)
    go (b ∷ []) h ends is = let first : n ≡ 1 = one (b ∷ []) ends is in let within = ends_within (b ∷ []) n ends in omega (arith, first, within)
    go (b ∷ c ∷ rest) h ends is =
        let first : n ≡ 1 = one (b ∷ c ∷ rest) ends is in
        let slash_there : (c == slash) ≡ true = subst (λ i. (slice_index (b ∷ c ∷ rest) i == slash) ≡ true) first (ends_slash (b ∷ c ∷ rest) n ends) in
        let none : (c == slash) ≡ false = second_byte b c rest h in
        absurd (cc (slash_there, none))

-- What holds of the tree of the files so far, the last first.

abbrev lies_there : List GuestFile → Path → Bool
lies_there files q = list_any (λ f. bytes_eq f.path q || is_under f.path q) files

abbrev has_file : List GuestFile → Path → Bool
has_file files q = list_any (λ f. bytes_eq f.path q) files

abbrev has_under : List GuestFile → Path → Bool
has_under files q = list_any (λ f. is_under f.path q) files

record IsPlanted (files : List GuestFile) (tree : Tree) : Type 0 where
  tree_is : IsRooted tree
  reached : AreReached tree no_fds
  -- what is there is a directory, or one of the files
  kinds : (q : Path) → is_there tree q ≡ true → (is_directory (node_at tree q) ≡ true) ⊎ (has_file files q ≡ true)
  -- it is the root, a file or above one, and what is above a file is there
  named : (q : Path) → is_there tree q ≡ true → (q ≡ []) ⊎ (lies_there files q ≡ true)
  above : (q : Path) → has_under files q ≡ true → is_there tree q ≡ true
  few : maps.len tree.nodes ≤ nodes files

-- a file that can be planted there
record FitsIn (f : GuestFile) (files : List GuestFile) : Type 0 where
  under : list_any (λ g. is_under f.path g.path) files ≡ false
  over : has_under files f.path ≡ false
  other : has_file files f.path ≡ false
  own : is_bad_path f.path ≡ false

there_still : (tree : Tree) (path q : Path) (x : Node) → is_there tree q ≡ true → is_there (created tree path x) q ≡ true
there_still tree path q x h = ap is_some (maps.get-insert nat_list_cmp_total tree.names path (vacant tree.nodes) q) ∙ go (eq_by_cmp path_cmp q path)
  where
    go : (b : Bool) → is_some (cond b (Some (vacant tree.nodes)) (maps.get tree.names q)) ≡ true
    go true = refl
    go false = h

there_before : (tree : Tree) (path q : Path) (x : Node) → is_there (created tree path x) q ≡ true → (q ≡ path) ⊎ (is_there tree q ≡ true)
there_before tree path q x h = go (eq_by_cmp path_cmp q path) refl (sym (ap is_some (maps.get-insert nat_list_cmp_total tree.names path (vacant tree.nodes) q)) ∙ h)
  where
    go : (b : Bool) → eq_by_cmp path_cmp q path ≡ b → is_some (cond b (Some (vacant tree.nodes)) (maps.get tree.names q)) ≡ true → (q ≡ path) ⊎ (is_there tree q ≡ true)
    go true e k = inl (equal_is q path e)
    go false e k = inr k

no_name : (tree : Tree) (q : Path) → is_there tree q ≡ false → maps.get tree.names q ≡ None
no_name tree q h = go (maps.get tree.names q) h
  where
    go : (o : Option ℕ) → is_some o ≡ false → o ≡ None
    go None e = refl
    go (Some n) e = absurd (cc e)

there_new : (tree : Tree) (path : Path) (x : Node) → is_there (created tree path x) path ≡ true
there_new tree path x = ap is_some (there_now nat_list_cmp_total tree.names path (vacant tree.nodes))

created_few : (tree : Tree) (path : Path) (x : Node) → maps.len (created tree path x).nodes ≤ maps.len tree.nodes + 1
created_few tree path x = subst (λ n. n ≤ maps.len tree.nodes + 1) (sym (maps.len-insert nat_cmp_total tree.nodes (vacant tree.nodes) x)) (go (maps.contains_key tree.nodes (vacant tree.nodes)))
  where
    go : (b : Bool) → cond b (maps.len tree.nodes) (maps.len tree.nodes + 1) ≤ maps.len tree.nodes + 1
    go true = omega arith
    go false = omega arith

neither_in : (p q : GuestFile → Bool) (gs : List GuestFile) → list_any p gs ≡ false → list_any q gs ≡ false → list_any (λ g. p g || q g) gs ≡ false
neither_in p q [] h k = refl
neither_in p q (g ∷ gs) h k =
    let one = (neither (p g) _ h).0 in
    let two = (neither (q g) _ k).0 in
    let rest = neither_in p q gs (neither (p g) _ h).1 (neither (q g) _ k).1 in
    grind (arith, one, two, rest)

-- what stands above a file is none of those that it doesn't lie under
no_file : (path q : Path) (gs : List GuestFile) → is_under path q ≡ true → list_any (λ g. is_under path g.path) gs ≡ false → has_file gs q ≡ false
no_file path q [] lies h = refl
no_file path q (g ∷ gs) lies h = go (bytes_eq g.path q) refl (no_file path q gs lies (neither (is_under path g.path) _ h).1)
  where
    go : (b : Bool) → bytes_eq g.path q ≡ b → has_file gs q ≡ false → (b || has_file gs q) ≡ false
    go false e rest = rest
    go true e rest =
        let same : g.path ≡ q = (bytes_eq-Decides g.path q).0 e in
        let apart : is_under path g.path ≡ false = (neither (is_under path g.path) _ h).0 in
        let under : is_under path g.path ≡ true = subst (λ r. is_under path r ≡ true) (sym same) lies in
        absurd (cc (apart, under))

-- The directories above a file, one place of its path after another.

record IsUpTo (f : GuestFile) (files : List GuestFile) (start tree : Tree) (n : ℕ) : Type 0 where
  tree_is : IsRooted tree
  reached : AreReached tree no_fds
  kinds : (q : Path) → is_there tree q ≡ true → (is_directory (node_at tree q) ≡ true) ⊎ (has_file files q ≡ true)
  named : (q : Path) → is_there tree q ≡ true → (q ≡ []) ⊎ ((lies_there files q ≡ true) ⊎ (is_under f.path q ≡ true))
  stays : (q : Path) → is_there start q ≡ true → is_there tree q ≡ true
  all : (i : ℕ) → i < n → ends_directory f.path i ≡ true → is_there tree (take i f.path) ≡ true
  few : maps.len tree.nodes ≤ maps.len start.nodes + new_directories files f.path n

module _ (f : GuestFile) (files : List GuestFile) (fits : FitsIn f files) (start : Tree) (planted : IsPlanted files start) where
  -- what ends at a place of the path is a directory, where it is there
  directory_there : (tree : Tree) (n i : ℕ) → IsUpTo f files start tree n → i < n → ends_directory f.path i ≡ true → is_directory (node_at tree (take i f.path)) ≡ true
  directory_there tree n i h lt ends = ⊎_elim
      (λ it. it)
      (λ file. let none : has_file files (take i f.path) ≡ false = no_file f.path (take i f.path) files (under_start f.path i (ends_slash f.path i ends)) fits.under in absurd (cc (none, file)))
      (h.kinds (take i f.path) (h.all i lt ends))

  -- the parent of what such a place ends is one
  parent_there : (tree : Tree) (n : ℕ) (q : Path) → IsUpTo f files start tree n → q ≡ take n f.path → is_directory (node_at tree (parent q)) ≡ true
  parent_there tree n q h is = ⊎_elim
      (λ root. subst (λ r. is_directory (node_at tree r) ≡ true) (sym root) h.tree_is.root)
      (λ at.
      let ends : ends_directory (take n f.path) at.0 ≡ true = subst (λ r. ends_directory r at.0 ≡ true) is at.2 in
      let lt : at.0 < n = ends_in_part f.path n at.0 ends in
      let up : parent q ≡ take at.0 f.path = at.1 ∙ ap (take at.0) is ∙ take-take at.0 n f.path (omega (arith, lt)) in
      subst (λ r. is_directory (node_at tree r) ≡ true) (sym up) (directory_there tree n at.0 h lt (sym (ends_alike f.path n at.0 lt) ∙ ends)))
      (parent_place q)

  last_place : (i n : ℕ) → i < suc n → (i < n) ⊎ (i ≡ n)
  last_place i n lt = grind (arith, lt)

  none_new : (n : ℕ) → new_directories files f.path n ≤ new_directories files f.path (suc n)
  unfolding new_directories
  none_new n = omega arith

  one_new : (n : ℕ) → is_new_directory files f.path n ≡ true → new_directories files f.path n + 1 ≤ new_directories files f.path (suc n)
  unfolding new_directories
  one_new n is = rw is (omega arith)

  -- no place ends there, or what ends there is there
  passed : (tree : Tree) (n : ℕ) → IsUpTo f files start tree n → (ends_directory f.path n ≡ true → is_there tree (take n f.path) ≡ true) → IsUpTo f files start tree (suc n)
  passed tree n h here = record {
    tree_is = h.tree_is;
    reached = h.reached;
    kinds = h.kinds;
    named = h.named;
    stays = h.stays;
    all = λ i lt ends. ⊎_elim (λ less. h.all i less ends) (λ same. subst (λ j. is_there tree (take j f.path) ≡ true) (sym same) (here (subst (λ j. ends_directory f.path j ≡ true) same ends))) (last_place i n lt);
    few = let few = h.few in let more = none_new n in omega (arith, few, more);
  }

  made : (tree : Tree) (n : ℕ) → IsUpTo f files start tree n → ends_directory f.path n ≡ true → is_there tree (take n f.path) ≡ false → IsUpTo f files start (created tree (take n f.path) Directory) (suc n)
  made tree n h ends none = record {
    tree_is = created_rooted tree at Directory (no_name tree at none) (parent_there tree n at h refl) (good_start f.path n fits.own ends) h.tree_is;
    reached = created_reached tree no_fds h.reached at Directory (no_name tree at none);
    kinds = λ q there. ⊎_elim
        (λ same. inl (subst (λ r. is_directory (node_at (created tree at Directory) r) ≡ true) (sym same) (ap is_directory (created_now tree at Directory))))
        (λ old. ⊎_elim (λ it. inl (created_stays tree at Directory (no_name tree at none) q it)) (λ file. inr file) (h.kinds q old))
        (there_before tree at q Directory there);
    named = λ q there. ⊎_elim
        (λ same. inr (inr (subst (λ r. is_under f.path r ≡ true) (sym same) (under_start f.path n (ends_slash f.path n ends)))))
        (λ old. h.named q old)
        (there_before tree at q Directory there);
    stays = λ q there. there_still tree at q Directory (h.stays q there);
    all = λ i lt is. ⊎_elim (λ less. there_still tree at (take i f.path) Directory (h.all i less is)) (λ same. subst (λ j. is_there (created tree at Directory) (take j f.path) ≡ true) (sym same) (there_new tree at Directory)) (last_place i n lt);
    few = let few = h.few in let one = created_few tree at Directory in let more = one_new n new in omega (arith, few, one, more);
  }
    where
      at : Path
      at = take n f.path

      lies : (b : Bool) → has_under files at ≡ b → b ≡ false
      lies false e = refl
      lies true e = let there : is_there tree at ≡ true = h.stays at (planted.above at e) in absurd (cc (there, none))

      new : is_new_directory files f.path n ≡ true
      new = let no_more : has_under files at ≡ false = lies (has_under files at) refl in rw (ends, no_more) refl

  one_place : (tree : Tree) (n : ℕ) → IsUpTo f files start tree n → IsUpTo f files start (with_directory_at tree f.path n) (suc n)
  one_place tree n h = go (ends_directory f.path n) (is_there tree (take n f.path)) refl refl
    where
      go : (b there : Bool) → ends_directory f.path n ≡ b → is_there tree (take n f.path) ≡ there → IsUpTo f files start (cond b (cond there tree (created tree (take n f.path) Directory)) tree) (suc n)
      go false there e k = passed tree n h (λ ends. absurd (cc (ends, e)))
      go true true e k = passed tree n h (λ ends. k)
      go true false e k = made tree n h e k

  none_yet : new_directories files f.path 0 ≡ 0
  unfolding new_directories
  none_yet = refl

  all_places : (n : ℕ) → IsUpTo f files start (with_directories start f.path n) n
  unfolding with_directories
  all_places zero = record {
    tree_is = planted.tree_is;
    reached = planted.reached;
    kinds = planted.kinds;
    named = λ q there. ⊎_elim (λ root. inl root) (λ lies. inr (inl lies)) (planted.named q there);
    stays = λ q there. there;
    all = λ i lt ends. absurd (omega (arith, lt));
    few = let zero_new = none_yet in omega (arith, zero_new);
  }
  all_places (suc n) = one_place (with_directories start f.path n) n (all_places n)

  -- The file itself.

  abbrev up : Tree
  up = with_directories start f.path (length f.path)

  whole : IsUpTo f files start up (length f.path)
  whole = all_places (length f.path)

  absent : is_there up f.path ≡ false
  absent = go (is_there up f.path) refl
    where
      go : (b : Bool) → is_there up f.path ≡ b → b ≡ false
      go false e = refl
      go true e = ⊎_elim
          (λ root. absurd (bad_root f.path fits.own root))
          (λ lies. ⊎_elim
          (λ there. let none : lies_there files f.path ≡ false = neither_in (λ g. bytes_eq g.path f.path) (λ g. is_under g.path f.path) files fits.other fits.over in absurd (cc (none, there)))
          (λ under. let itself = not_itself f.path in absurd (cc (under, itself)))
          lies)
          (whole.named f.path e)

  -- it is the path up to its end
  all_of_it : f.path ≡ take (length f.path) f.path
  all_of_it = sym (take-length f.path)

  either_true : (x y : Bool) → (x ≡ true) ⊎ (y ≡ true) → (x || y) ≡ true
  either_true true y h = refl
  either_true false y h = ⊎_elim (λ e. absurd (cc e)) (λ e. e) h

  which : (x y : Bool) → (x || y) ≡ true → (x ≡ true) ⊎ (y ≡ true)
  which true y h = inl refl
  which false y h = inr h

  same_bytes : (q : Path) → q ≡ f.path → bytes_eq f.path q ≡ true
  same_bytes q same = (bytes_eq-Decides f.path q).1 (sym same)

  above_it : (q : Path) → is_under f.path q ≡ true → is_there up q ≡ true
  above_it q under =
      let start_of = start_under f.path q under in
      go (length q) refl start_of.0 start_of.1
    where
      go : (n : ℕ) → length q ≡ n → q ≡ take n f.path → (slice_index f.path n == slash) ≡ true → is_there up q ≡ true
      go zero long is at = subst (λ r. is_there up r ≡ true) (sym is) (named up [] whole.tree_is.root)
      go (suc n) long is at =
          let ends : ends_directory f.path (suc n) ≡ true = (let pos : nat_lt 0 (suc n) ≡ true = grind (arith, nat_tests) in ap (λ t. t && (slice_index f.path (suc n) == 47)) pos ∙ at) in
          subst (λ r. is_there up r ≡ true) (sym is) (whole.all (suc n) (slash_within f.path (suc n) at) ends)

  node_more : maps.len (with_file start f).nodes ≤ nodes (f ∷ files)
  unfolding nodes
  node_more =
      let one = created_few up f.path (File f.content) in
      let few = whole.few in
      let before = planted.few in
      omega (arith, one, few, before)

  with_file_planted : IsPlanted (f ∷ files) (with_file start f)
  with_file_planted = record {
    tree_is = created_rooted up f.path x new (parent_there up (length f.path) f.path whole all_of_it) (good_whole f.path fits.own) whole.tree_is;
    reached = created_reached up no_fds whole.reached f.path x new;
    kinds = λ q there. ⊎_elim
        (λ same. inr (either_true (bytes_eq f.path q) (has_file files q) (inl (same_bytes q same))))
        (λ old. ⊎_elim (λ it. inl (created_stays up f.path x new q it)) (λ file. inr (either_true (bytes_eq f.path q) (has_file files q) (inr file))) (whole.kinds q old))
        (there_before up f.path q x there);
    named = λ q there. ⊎_elim
        (λ same. inr (either_true (bytes_eq f.path q || is_under f.path q) (lies_there files q) (inl (either_true (bytes_eq f.path q) (is_under f.path q) (inl (same_bytes q same))))))
        (λ old. ⊎_elim
        (λ root. inl root)
        (λ lies. inr (⊎_elim
        (λ there. either_true (bytes_eq f.path q || is_under f.path q) (lies_there files q) (inr there))
        (λ under. either_true (bytes_eq f.path q || is_under f.path q) (lies_there files q) (inl (either_true (bytes_eq f.path q) (is_under f.path q) (inr under))))
        lies))
        (whole.named q old))
        (there_before up f.path q x there);
    above = λ q lies. there_still up f.path q x (⊎_elim (λ under. above_it q under) (λ old. whole.stays q (planted.above q old)) (which (is_under f.path q) (has_under files q) lies));
    few = node_more;
  }
    where
      x : Node
      x = File f.content

      new : maps.get up.names f.path ≡ None
      new = no_name up f.path absent

-- All files.

-- the one list on the other, its first deepest
abbrev back_on : List GuestFile → List GuestFile → List GuestFile
back_on [] files = files
back_on (f ∷ rest) files = back_on rest (f ∷ files)

back_alike : (rest files : List GuestFile) → nodes (back_on rest files) ≡ nodes (rest ++ files)
back_alike [] files = refl
back_alike (f ∷ rest) files =
    back_alike rest (f ∷ files)
    ∙ nodes_again (f ∷ rest ++ files) (rest ++ f ∷ files)
    (subst (IsPermutation (f ∷ rest ++ files)) (append_assoc rest (f ∷ []) files) (IsPermutation-append_left files (f ∷ rest) (rest ++ f ∷ []) (IsPermutation-append_comm (f ∷ []) rest)))

AllFit : List GuestFile → List GuestFile → Type 0
AllFit [] files = Unit {0}
AllFit (f ∷ rest) files = FitsIn f files × AllFit rest (f ∷ files)

all_planted : (rest files : List GuestFile) (tree : Tree) → AllFit rest files → IsPlanted files tree → IsPlanted (back_on rest files) (fold with_file tree rest)
unfolding AllFit
all_planted [] files tree fit h = h
all_planted (f ∷ rest) files tree fit h = all_planted rest (f ∷ files) (with_file tree f) fit.1 (with_file_planted f files fit.0 tree h)

abbrev no_tree : Tree
no_tree = record { names = maps.empty; nodes = maps.empty }

nothing_there : (q : Path) → is_there no_tree q ≡ false
nothing_there q = ap is_some (maps.get-empty path_cmp q)

root_there : (q : Path) → is_there rooted q ≡ true → q ≡ []
root_there q there = ⊎_elim (λ same. same) (λ old. let none = nothing_there q in absurd (cc (none, old))) (there_before no_tree [] q Directory there)

nothing_reached : AreReached no_tree no_fds
nothing_reached = record {
  named = λ n d is. absurd (cc (sym (maps.get-empty nat_cmp n) ∙ is));
  ended = λ n bytes is. absurd (cc (sym (maps.get-empty nat_cmp n) ∙ is));
  placed = λ n x is. absurd (cc (sym (maps.get-empty nat_cmp n) ∙ is));
}

root_planted : IsPlanted [] rooted
unfolding nodes parent
root_planted = record {
  tree_is = record {
    root = ap is_directory (created_now no_tree [] Directory);
    parents = λ q there. let is : q ≡ [] = root_there q there in ap (λ r. is_directory (node_at rooted (parent r))) is ∙ root_parent;
    no_slash = put_elsewhere nat_list_cmp_total no_tree.names [] (slash ∷ []) refl (vacant no_tree.nodes) ∙ maps.get-empty path_cmp (slash ∷ []);
  };
  reached = created_reached no_tree no_fds nothing_reached [] Directory (maps.get-empty path_cmp []);
  kinds = λ q there. inl (ap (λ r. is_directory (node_at rooted r)) (root_there q there) ∙ ap is_directory (created_now no_tree [] Directory));
  named = λ q there. inl (root_there q there);
  above = λ q none. absurd (cc none);
  few = let one = created_few no_tree [] Directory in let none = maps.len-empty nat_cmp Node in omega (arith, one, none);
}
  where
    root_parent : is_directory (node_at rooted (parent [])) ≡ true
    root_parent = ap is_directory (created_now no_tree [] Directory)

-- What a boot that isn't refused says of its files.

abbrev AllOf : (GuestFile → Type 0) → List GuestFile → Type 0
AllOf P [] = Unit {0}
AllOf P (f ∷ files) = P f × AllOf P files

none_of : (p : GuestFile → Bool) (files : List GuestFile) → list_any p files ≡ false → AllOf (λ f. p f ≡ false) files
none_of p [] h = tt
none_of p (f ∷ files) h = ((neither (p f) _ h).0, none_of p files (neither (p f) _ h).1)

-- the file has a good path, and lies under none of these
abbrev IsApart : List GuestFile → GuestFile → Type 0
IsApart all f = (is_bad_path f.path ≡ false) × AllOf (λ g. is_under f.path g.path ≡ false) all

well_placed : (all files : List GuestFile) → list_any (λ f. is_misplaced all f.path) files ≡ false → AllOf (IsApart all) files
unfolding is_misplaced
well_placed all [] h = tt
well_placed all (f ∷ files) h =
    let mine = neither (is_bad_path f.path) _ (neither (is_misplaced all f.path) _ h).0 in
    ((mine.0, none_of (λ g. is_under f.path g.path) all mine.1), well_placed all files (neither (is_misplaced all f.path) _ h).1)

-- a file and one behind it
abbrev IsPair : GuestFile → GuestFile → Type 0
IsPair f g = (is_under g.path f.path ≡ false) × (is_under f.path g.path ≡ false) × (bytes_eq f.path g.path ≡ false)

abbrev ArePairs : List GuestFile → Type 0
ArePairs [] = Unit {0}
ArePairs (f ∷ files) = AllOf (IsPair f) files × ArePairs files

pairs_with : (f : GuestFile) (rest files : List GuestFile) → AllOf (λ g. is_under f.path g.path ≡ false) files → AllOf (IsApart (f ∷ rest)) files → AllOf (λ g. bytes_eq f.path g.path ≡ false) files → AllOf (IsPair f) files
pairs_with f rest [] under apart other = tt
pairs_with f rest (g ∷ files) under apart other = ((apart.0.1.0, under.0, other.0), pairs_with f rest files under.1 apart.1 other.1)

apart_later : (f : GuestFile) (rest files : List GuestFile) → AllOf (IsApart (f ∷ rest)) files → AllOf (IsApart rest) files
apart_later f rest [] h = tt
apart_later f rest (g ∷ files) h = ((h.0.0, h.0.1.1), apart_later f rest files h.1)

all_pairs : (files : List GuestFile) → AllOf (IsApart files) files → has_duplicate files ≡ false → ArePairs files
all_pairs [] apart once = tt
all_pairs (f ∷ files) apart once =
    let mine = neither (list_any (λ g. bytes_eq f.path g.path) files) _ once in
    (pairs_with f files files apart.0.1.1 apart.1 (none_of (λ g. bytes_eq f.path g.path) files mine.0), all_pairs files (apart_later f files files apart.1) mine.1)

both_false : (x y : Bool) → x ≡ false → y ≡ false → (x || y) ≡ false
both_false true y h k = h
both_false false y h k = k

one_more : (f : GuestFile) (rest files : List GuestFile) → AllOf (λ g. FitsIn g files) rest → AllOf (IsPair f) rest → AllOf (λ g. FitsIn g (f ∷ files)) rest
one_more f [] files fit pairs = tt
one_more f (g ∷ rest) files fit pairs = (
  record {
    under = both_false (is_under g.path f.path) _ pairs.0.0 fit.0.under;
    over = both_false (is_under f.path g.path) _ pairs.0.1 fit.0.over;
    other = both_false (bytes_eq f.path g.path) _ pairs.0.2 fit.0.other;
    own = fit.0.own;
  },
  one_more f rest files fit.1 pairs.1,
)

all_fit : (rest files : List GuestFile) → AllOf (λ g. FitsIn g files) rest → ArePairs rest → AllFit rest files
unfolding AllFit
all_fit [] files fit pairs = tt
all_fit (f ∷ rest) files fit pairs = (fit.0, all_fit rest (f ∷ files) (one_more f rest files fit.1 pairs.0) pairs.1)

none_before : (all files : List GuestFile) → AllOf (IsApart all) files → AllOf (λ g. FitsIn g []) files
none_before all [] h = tt
none_before all (f ∷ files) h = (record { under = refl; over = refl; other = refl; own = h.0.0 }, none_before all files h.1)

planted_files : (files : List GuestFile) → has_bad_path files ≡ false → has_duplicate files ≡ false → IsPlanted (back_on files []) (tree_of files)
planted_files files good once =
    let apart : AllOf (IsApart files) files = well_placed files files good in
    all_planted files [] rooted (all_fit files [] (none_before files files apart) (all_pairs files apart once)) root_planted

-- What they hold.

created_sum : (tree : Tree) (path : Path) (x : Node) → contents (created tree path x) ≡ contents tree + size_of x
created_sum tree path x =
    let sum : total size_of (maps.insert tree.nodes (vacant tree.nodes) x) + weight size_of (maps.get tree.nodes (vacant tree.nodes)) ≡ total size_of tree.nodes + size_of x = total-insert nat_cmp_total size_of tree.nodes (vacant tree.nodes) x in
    let none : weight size_of (maps.get tree.nodes (vacant tree.nodes)) ≡ 0 = ap (weight size_of) (vacant_is_least tree.nodes).0 in
    omega (arith, sum, none)

abbrev AreSmall : Tree → Type 0
AreSmall tree = (n : ℕ) (x : Node) → maps.get tree.nodes n ≡ Some x → size_of x ≤ largest_file

created_small : (tree : Tree) (path : Path) (x : Node) → size_of x ≤ largest_file → AreSmall tree → AreSmall (created tree path x)
created_small tree path x le h n y is = ⊎_elim (λ same. subst (λ z. size_of z ≤ largest_file) same le) (λ old. h n y old) (inserted nat_cmp_total tree.nodes (vacant tree.nodes) x n y is)

abbrev Holds : Tree → Tree → Type 0
Holds tree tree' = (contents tree' ≡ contents tree) × (AreSmall tree → AreSmall tree')

one_directory : (start tree : Tree) (path : Path) (b there : Bool) → Holds start tree → Holds start (cond b (cond there tree (created tree path Directory)) tree)
one_directory start tree path false there h = h
one_directory start tree path true true h = h
one_directory start tree path true false h = (let sum = created_sum tree path Directory in let same = h.0 in omega (arith, sum, same), (λ small. created_small tree path Directory (omega arith) (h.1 small)))

directories_hold : (tree : Tree) (path : Path) (n : ℕ) → Holds tree (with_directories tree path n)
unfolding with_directories
directories_hold tree path zero = (refl, (λ small. small))
directories_hold tree path (suc n) =
    one_directory tree (with_directories tree path n) (take n path) (ends_directory path n) (is_there (with_directories tree path n) (take n path)) (directories_hold tree path n)

file_sum : (tree : Tree) (f : GuestFile) → contents (with_file tree f) ≡ contents tree + content_size f
file_sum tree f =
    let sum = created_sum (with_directories tree f.path (length f.path)) f.path (File f.content) in
    let same = (directories_hold tree f.path (length f.path)).0 in
    omega (arith, sum, same)

files_sum : (tree : Tree) (files : List GuestFile) → contents (fold with_file tree files) ≡ fold (λ n f. n + content_size f) (contents tree) files
files_sum tree [] = refl
files_sum tree (f ∷ files) = files_sum (with_file tree f) files ∙ ap (λ n. fold (λ i g. i + content_size g) n files) (file_sum tree f)

files_small : (tree : Tree) (files : List GuestFile) → list_all file_fits files ≡ true → AreSmall tree → AreSmall (fold with_file tree files)
files_small tree [] fit h = h
files_small tree (f ∷ files) fit h =
    let mine : file_fits f ≡ true = (both_true (file_fits f) _ fit).0 in
    let few : nat_le (length f.content) largest_file ≡ true = (both_true (path_fits f.path) _ mine).1 in
    files_small (with_file tree f) files (both_true (file_fits f) _ fit).1
    (created_small (with_directories tree f.path (length f.path)) f.path (File f.content) (grind (arith, nat_tests, few)) ((directories_hold tree f.path (length f.path)).1 h))

rooted_sum : contents rooted ≡ 0
rooted_sum = let sum = created_sum no_tree [] Directory in let none : total size_of (maps.empty {X = Node} {R = nat_cmp}) ≡ 0 = total-empty nat_cmp size_of in omega (arith, sum, none)

rooted_small : AreSmall rooted
rooted_small = created_small no_tree [] Directory (omega arith) (λ n x is. absurd (cc (sym (maps.get-empty nat_cmp n) ∙ is)))

-- A boot that isn't refused.

pub record IsWithin (files : List GuestFile) : Type 0 where
  pub rooted : IsRooted (tree_of files)
  pub reached : AreReached (tree_of files) no_fds
  pub nodes : maps.len (tree_of files).nodes ≤ most_nodes
  pub small : AreSmall (tree_of files)
  pub contents : contents (tree_of files) ≤ most_contents

taken_on : (boot : Boot) → fault_of boot ≡ None → (has_bad_path boot.files ≡ false) × (has_duplicate boot.files ≡ false) × (files_fit boot.files ≡ true)
taken_on boot none = go (not (are_limits boot.limits)) (has_bad_path boot.files) (has_duplicate boot.files) (has_no_program boot.argv boot.env) (fits boot) refl refl refl none
  where
    go : (limits bad twice bare fit : Bool) → has_bad_path boot.files ≡ bad → has_duplicate boot.files ≡ twice → fits boot ≡ fit
        → cond limits (Some BadLimit) (cond bad (Some BadPath) (cond twice (Some Duplicate) (cond bare (Some NoProgram) (cond fit None (Some TooLarge))))) ≡ None
        → (has_bad_path boot.files ≡ false) × (has_duplicate boot.files ≡ false) × (files_fit boot.files ≡ true)
    go true bad twice bare fit b d t e = absurd (cc e)
    go false true twice bare fit b d t e = absurd (cc e)
    go false false true bare fit b d t e = absurd (cc e)
    go false false false true fit b d t e = absurd (cc e)
    go false false false false false b d t e = absurd (cc e)
    go false false false false true b d t e = (b, d, (both_true (files_fit boot.files) _ t).0)

pub boots_within : (boot : Boot) → fault_of boot ≡ None → IsWithin boot.files
boots_within boot none =
    let files = boot.files in
    let taken = taken_on boot none in
    let planted : IsPlanted (back_on files []) (tree_of files) = planted_files files taken.0 taken.1 in
    let fit = both_true (list_all file_fits files && nat_le (sum_by content_size files) most_contents) _ taken.2 in
    let each = both_true (list_all file_fits files) _ fit.0 in
    let sum : contents (tree_of files) ≡ sum_by content_size files = files_sum rooted files ∙ ap (λ n. fold (λ i g. i + content_size g) n files) rooted_sum in
    let all : nodes (back_on files []) ≡ nodes files = back_alike files [] ∙ ap nodes (append-nil files) in
    let few = planted.few in
    let le : nat_le (nodes files) most_nodes ≡ true = fit.1 in
    let le' : nat_le (sum_by content_size files) most_contents ≡ true = each.1 in
    record {
      rooted = planted.tree_is;
      reached = planted.reached;
      nodes = grind (arith, nat_tests, few, all, le);
      small = files_small rooted files each.0 rooted_small;
      contents = grind (arith, nat_tests, sum, le');
    }
