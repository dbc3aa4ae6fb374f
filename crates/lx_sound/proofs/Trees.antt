-- What is done to a tree keeps it a tree of directories.
use Rattle.std.proofs.Common.{◌≡◌, ℕ, ◌⊎◌, ⊎_elim, ◌||◌, Bool, true, false, cond, List, [], ◌∷◌, ◌++◌, length, Option, Some, None, refl, ap, sym, subst, ◌∙◌, arith}
use Rattle.std.proofs.lemmas.Bool.Decides.{nat_tests}
use Rattle.std.proofs.lemmas.Cmp.{nat_list_cmp_total}
use Rattle.std.proofs.lemmas.List.{length-append}
use Rattle.std.specs.Prelude.{◌==◌, not, is_some, IsSome}
use Rattle.std.specs.List.{list_any}
use Rattle.std.specs.Option.{option_and_then}
use Rattle.std.specs.Ordering.{eq_by_cmp}
use Rattle.std.specs.Cmp.{nat_cmp_total}
use Rattle.std.specs.FinMap as maps
use Rattle.std.specs.declared.result.Result.{Result}
use Rattle.std.specs.declared.result.Result.TheVariants.{Ok}
use Rattle.containers.specs.Vacant.{vacant}
use Rattle.containers.proofs.Vacant.{vacant_is_least}
use Rattle.lx_abi.specs.declared.outcome.Node.{Node}
use Rattle.lx_abi.specs.declared.outcome.Node.TheVariants.{File, Directory}
use Rattle.lx_files.specs.Kinds.{NameMap, changed_node, changed_file, is_number}
use Rattle.lx_files.specs.Paths.{Path, path_cmp, slash, has_slash, parent, is_under}
use Rattle.lx_files.specs.Places.{bar, unless_barred, reached, beyond, and_then, is_dot, is_dot_dot}
use Rattle.lx_files.specs.Trees.{node_at, has_path, is_empty, created, with_content, without_path, without_node}
use Rattle.lx_files.specs.declared.places.Place.{Place}
use Rattle.lx_files.specs.declared.tree.Tree.{Tree}
use Rattle.lx_files.proofs.Texts.{path_cmp-IsAntisymmetric, equal_is}
use Rattle.lx_open.specs.declared.fd_table.FdTable.{FdTable}
use Rattle.lx_open.specs.Opens.{is_open_node}
use Rattle.lx_open.specs.Releases.{node_released, unlinked_node, unlinked}
use Rattle.lx_sound.specs.Rooted.{is_directory, IsRooted}
use Rattle.lx_sound.proofs.Maps.{neither, there_now, inserted_other, removed_other, put_elsewhere, taken_elsewhere, none_passes, none_of_keys}
use Rattle.lx_sound.proofs.Paths.{parent_of_name, under_parent, NoSlashes}

-- a directory has a path
pub named : (tree : Tree) (path : Path) → is_directory (node_at tree path) ≡ true → IsSome (maps.get tree.names path)
named tree path h = go (maps.get tree.names path) h
  where
    go : (o : Option ℕ) → is_directory (option_and_then (maps.get tree.nodes) o) ≡ true → IsSome o
    go None e = absurd (cc e)
    go (Some n) e = refl

abbrev IsSlash : Path → Type 0
IsSlash path = path ≡ slash ∷ []

unlike : (q path : Path) → (q ≡ path → ⊥) → eq_by_cmp path_cmp q path ≡ false
unlike q path apart = go (eq_by_cmp path_cmp q path) refl
  where
    go : (b : Bool) → eq_by_cmp path_cmp q path ≡ b → b ≡ false
    go false e = refl
    go true e = absurd (apart (equal_is q path e))

-- another node stays

module _ (tree : Tree) (path : Path) (x : Node) where
  vacant_is_none : maps.get tree.nodes (vacant tree.nodes) ≡ None
  vacant_is_none = (vacant_is_least tree.nodes).0

  pub created_now : node_at (created tree path x) path ≡ Some x
  created_now = ap (option_and_then (maps.get (created tree path x).nodes)) (there_now nat_list_cmp_total tree.names path (vacant tree.nodes)) ∙ there_now nat_cmp_total tree.nodes (vacant tree.nodes) x

  created_elsewhere : (q : Path) → eq_by_cmp path_cmp q path ≡ false → is_directory (node_at tree q) ≡ true → is_directory (node_at (created tree path x) q) ≡ true
  created_elsewhere q other h =
      ap (λ o. is_directory (option_and_then (maps.get (created tree path x).nodes) o)) (put_elsewhere nat_list_cmp_total tree.names path q other (vacant tree.nodes)) ∙ go (maps.get tree.names q) h
    where
      at : (n : ℕ) (b : Bool) → (n == vacant tree.nodes) ≡ b → is_directory (maps.get tree.nodes n) ≡ true → is_directory (maps.get (maps.insert tree.nodes (vacant tree.nodes) x) n) ≡ true
      at n false away e = ap is_directory (inserted_other tree.nodes (vacant tree.nodes) x n away) ∙ e
      at n true eq e =
          let is : n ≡ vacant tree.nodes = grind (arith, nat_tests, eq) in
          let no : is_directory (maps.get tree.nodes n) ≡ false = ap (λ i. is_directory (maps.get tree.nodes i)) is ∙ ap is_directory vacant_is_none in
          absurd (cc (no, e))

      go : (o : Option ℕ) → is_directory (option_and_then (maps.get tree.nodes) o) ≡ true → is_directory (option_and_then (maps.get (created tree path x).nodes) o) ≡ true
      go None e = absurd (cc e)
      go (Some n) e = at n (n == vacant tree.nodes) refl e

  -- a directory stays where nothing had the path
  pub created_stays : maps.get tree.names path ≡ None → (q : Path) → is_directory (node_at tree q) ≡ true → is_directory (node_at (created tree path x) q) ≡ true
  created_stays new q h = go (eq_by_cmp path_cmp q path) refl
    where
      go : (b : Bool) → eq_by_cmp path_cmp q path ≡ b → is_directory (node_at (created tree path x) q) ≡ true
      go false other = created_elsewhere q other h
      go true eq =
          let is : q ≡ path = equal_is q path eq in
          let some : is_some (maps.get tree.names path) ≡ true = subst (λ i. IsSome (maps.get tree.names i)) is (named tree q h) in
          absurd (cc (new, some))

  pub created_rooted : maps.get tree.names path ≡ None → is_directory (node_at tree (parent path)) ≡ true → (IsSlash path → ⊥) → IsRooted tree → IsRooted (created tree path x)
  created_rooted new under apart h = record {
    root = created_stays new [] h.root;
    parents = λ q there. go q (eq_by_cmp path_cmp q path) refl there;
    no_slash = put_elsewhere nat_list_cmp_total tree.names path (slash ∷ []) (unlike (slash ∷ []) path (λ e. apart (sym e))) (vacant tree.nodes) ∙ h.no_slash;
  }
    where
      go : (q : Path) (b : Bool) → eq_by_cmp path_cmp q path ≡ b → IsSome (maps.get (created tree path x).names q) → is_directory (node_at (created tree path x) (parent q)) ≡ true
      go q true eq there = created_stays new (parent q) (subst (λ i. is_directory (node_at tree (parent i)) ≡ true) (sym (equal_is q path eq)) under)
      go q false other there = created_stays new (parent q) (h.parents q (subst (λ (o : Option ℕ). IsSome o) (put_elsewhere nat_list_cmp_total tree.names path q other (vacant tree.nodes)) there))

-- trees that have the same directories
pub same_rooted : (tree tree' : Tree) → tree'.names ≡ tree.names → ((q : Path) → is_directory (node_at tree q) ≡ true → is_directory (node_at tree' q) ≡ true) → IsRooted tree → IsRooted tree'
same_rooted tree tree' names stays h = record {
  root = stays [] h.root;
  parents = λ q there. stays (parent q) (h.parents q (subst (λ (m : NameMap). IsSome (maps.get m q)) names there));
  no_slash = ap (λ (m : NameMap). maps.get m (slash ∷ [])) names ∙ h.no_slash;
}

module _ (tree : Tree) (node : ℕ) (f : List ℕ → List ℕ) where
  directory_changed : (x : Node) → is_directory (Some (changed_node f x)) ≡ is_directory (Some x)
  directory_changed (File bytes) = refl
  directory_changed Directory = refl

  content_at : (o : Option Node) → maps.get tree.nodes node ≡ o → (n : ℕ) → is_directory (maps.get (changed_file tree.nodes node f o) n) ≡ is_directory (maps.get tree.nodes n)
  content_at None is n = refl
  content_at (Some x) is n = go (n == node) refl
    where
      go : (b : Bool) → (n == node) ≡ b → is_directory (maps.get (maps.insert tree.nodes node (changed_node f x)) n) ≡ is_directory (maps.get tree.nodes n)
      go false other = ap is_directory (inserted_other tree.nodes node (changed_node f x) n other)
      go true eq =
          let same : n ≡ node = grind (arith, nat_tests, eq) in
          ap (λ i. is_directory (maps.get (maps.insert tree.nodes node (changed_node f x)) i)) same
          ∙ ap is_directory (there_now nat_cmp_total tree.nodes node (changed_node f x)) ∙ directory_changed x ∙ sym (ap is_directory is) ∙ ap (λ i. is_directory (maps.get tree.nodes i)) (sym same)

  pub content_stays : (q : Path) → is_directory (node_at tree q) ≡ true → is_directory (node_at (with_content tree node f) q) ≡ true
  content_stays q h = go (maps.get tree.names q) h
    where
      go : (o : Option ℕ) → is_directory (option_and_then (maps.get tree.nodes) o) ≡ true → is_directory (option_and_then (maps.get (with_content tree node f).nodes) o) ≡ true
      go None e = absurd (cc e)
      go (Some n) e = content_at (maps.get tree.nodes node) refl n ∙ e

  pub content_rooted : IsRooted tree → IsRooted (with_content tree node f)
  content_rooted h = same_rooted tree (with_content tree node f) refl content_stays h

-- what no path names is at no path
pub released_at : (tree : Tree) (fds : FdTable) (node : ℕ) (q : Path) → node_at (node_released tree fds node) q ≡ node_at tree q
released_at tree fds node q = go (has_path tree node || is_open_node fds node) refl
  where
    without : has_path tree node ≡ false → (o : Option ℕ) → maps.get tree.names q ≡ o → option_and_then (maps.get (maps.remove tree.nodes node)) o ≡ option_and_then (maps.get tree.nodes) o
    without unnamed None is = refl
    without unnamed (Some n) is = removed_other tree.nodes node n (none_passes nat_list_cmp_total path_cmp-IsAntisymmetric (is_number node) tree.names unnamed q n is)

    go : (b : Bool) → (has_path tree node || is_open_node fds node) ≡ b → node_at (cond b tree (without_node tree node)) q ≡ node_at tree q
    go true e = refl
    go false e = without (neither (has_path tree node) _ e).0 (maps.get tree.names q) refl

abbrev names_of : Tree → NameMap
names_of t = t.names

pub released_names : (tree : Tree) (fds : FdTable) (node : ℕ) → (node_released tree fds node).names ≡ tree.names
released_names tree fds node = go (has_path tree node || is_open_node fds node)
  where
    go : (b : Bool) → names_of (cond b tree (without_node tree node)) ≡ tree.names
    go true = refl
    go false = refl

-- a path that is taken away
module _ (tree : Tree) (fds : FdTable) (path : Path) where
  unlinked_names : (unlinked tree fds path).names ≡ maps.remove tree.names path
  unfolding unlinked
  unlinked_names = go (maps.get tree.names path)
    where
      go : (o : Option ℕ) → names_of (unlinked_node (without_path tree path) fds o) ≡ maps.remove tree.names path
      go None = refl
      go (Some node) = released_names (without_path tree path) fds node

  pub unlinked_elsewhere : (q : Path) → eq_by_cmp path_cmp q path ≡ false → node_at (unlinked tree fds path) q ≡ node_at tree q
  unfolding unlinked
  unlinked_elsewhere q other = go (maps.get tree.names path) ∙ ap (option_and_then (maps.get tree.nodes)) (taken_elsewhere nat_list_cmp_total tree.names path q other)
    where
      go : (o : Option ℕ) → node_at (unlinked_node (without_path tree path) fds o) q ≡ node_at (without_path tree path) q
      go None = refl
      go (Some node) = released_at (without_path tree path) fds node q

  pub unlinked_stays : (q : Path) → (q ≡ path → ⊥) → is_directory (node_at tree q) ≡ true → is_directory (node_at (unlinked tree fds path) q) ≡ true
  unlinked_stays q apart h = ap is_directory (unlinked_elsewhere q (unlike q path apart)) ∙ h

  -- it is no parent's: a file's, or an empty directory's
  no_parent : IsRooted tree → (path ≡ [] → ⊥) → (is_directory (node_at tree path) ≡ false) ⊎ (is_empty tree path ≡ true) → (q : Path) → IsSome (maps.get tree.names q) → parent q ≡ path → ⊥
  no_parent h named either q there is = ⊎_elim
      (λ file. let directory : is_directory (node_at tree path) ≡ true = subst (λ i. is_directory (node_at tree i) ≡ true) is (h.parents q there) in absurd (cc (file, directory)))
      (λ empty. let none : list_any (is_under path) (maps.keys tree.names) ≡ false = turned (list_any (is_under path) (maps.keys tree.names)) empty in
      let not_under : is_under path q ≡ false = none_of_keys equal_is (is_under path) tree.names q none there in
      absurd (cc (not_under, under_parent q path is named)))
      either
    where
      turned : (b : Bool) → not b ≡ true → b ≡ false
      turned true e = absurd (cc e)
      turned false e = refl

  pub unlinked_rooted : (path ≡ [] → ⊥) → (is_directory (node_at tree path) ≡ false) ⊎ (is_empty tree path ≡ true) → IsRooted tree → IsRooted (unlinked tree fds path)
  unlinked_rooted named either h = record {
    root = unlinked_stays [] (λ e. named (sym e)) h.root;
    parents = λ q there.
        let before : IsSome (maps.get tree.names q) = still q (subst (λ (m : NameMap). IsSome (maps.get m q)) unlinked_names there) in
        unlinked_stays (parent q) (no_parent h named either q before) (h.parents q before);
    no_slash = ap (λ (m : NameMap). maps.get m (slash ∷ [])) unlinked_names ∙ maps.get-remove nat_list_cmp_total tree.names path (slash ∷ []) ∙ none (eq_by_cmp path_cmp (slash ∷ []) path);
  }
    where
      none : (b : Bool) → cond b None (maps.get tree.names (slash ∷ [])) ≡ None
      none true = refl
      none false = h.no_slash

      still : (q : Path) → IsSome (maps.get (maps.remove tree.names path) q) → IsSome (maps.get tree.names q)
      still q there = go (eq_by_cmp path_cmp q path) (subst (λ (o : Option ℕ). IsSome o) (maps.get-remove nat_list_cmp_total tree.names path q) there)
        where
          go : (b : Bool) → IsSome (cond b None (maps.get tree.names q)) → IsSome (maps.get tree.names q)
          go true e = absurd (cc e)
          go false e = e

-- Where a walk ends.

pub record Ends (tree : Tree) (place : Place) : Type 0 where
  pub under : is_directory (node_at tree place.under) ≡ true
  pub last : has_slash place.last ≡ false

abbrev result_of : Place → Result Place ℕ
result_of x = Ok x

ok_is : (x y : Place) → result_of x ≡ result_of y → x ≡ y
ok_is x y e = cc e

pub reached_ends : (tree : Tree) (slashed : Bool) (at : Path) (last : List ℕ) (names : List (List ℕ)) (place : Place) → is_directory (node_at tree at) ≡ true → has_slash last ≡ false → NoSlashes names
    → reached tree slashed at last names ≡ Ok place → Ends tree place
unfolding reached
reached_ends tree slashed at last [] place there bare none is =
    subst (Ends tree) (ok_is (record { under = at; last = last; slashed = slashed }) place is) (record { under = there; last = bare })
reached_ends tree slashed at last (name ∷ names) place there bare all is =
    go (node_at tree (beyond at last)) refl (λ enters. reached_ends tree slashed (beyond at last) name names place enters all.0 all.1) is
  where
    go : (o : Option Node) → node_at tree (beyond at last) ≡ o → (is_directory (node_at tree (beyond at last)) ≡ true → reached tree slashed (beyond at last) name names ≡ Ok place → Ends tree place)
        → and_then (λ next. reached tree slashed next name names) (unless_barred (bar o) (beyond at last)) ≡ Ok place → Ends tree place
    go None at_it later e = absurd (cc e)
    go (Some (File bytes)) at_it later e = absurd (cc e)
    go (Some Directory) at_it later e = later (ap is_directory at_it) e

-- nothing stands at a place that is absent, and its parent is a directory
pub absent_parent : (tree : Tree) (place : Place) → IsRooted tree → Ends tree place → node_at tree (beyond place.under place.last) ≡ None → is_directory (node_at tree (parent (beyond place.under place.last))) ≡ true
unfolding beyond
absent_parent tree place h ends none = go ((length place.last == 0) || is_dot place.last) (is_dot_dot place.last) none
  where
    go : (stays up : Bool) → node_at tree (cond stays place.under (cond up (parent place.under) (place.under ++ slash ∷ place.last))) ≡ None
        → is_directory (node_at tree (parent (cond stays place.under (cond up (parent place.under) (place.under ++ slash ∷ place.last))))) ≡ true
    go true up e = let there = ends.under in absurd (cc (e, there))
    go false true e = let there : is_directory (node_at tree (parent place.under)) ≡ true = h.parents place.under (named tree place.under ends.under) in absurd (cc (e, there))
    go false false e = ap (λ i. is_directory (node_at tree i)) (parent_of_name place.under place.last ends.last) ∙ ends.under

-- what is absent is no slash alone
pub absent_apart : (tree : Tree) (place : Place) → IsRooted tree → Ends tree place → node_at tree (beyond place.under place.last) ≡ None → IsSlash (beyond place.under place.last) → ⊥
unfolding beyond
absent_apart tree place h ends none = go (length place.last == 0) (is_dot place.last) (is_dot_dot place.last) refl none
  where
    go : (empty dot up : Bool) → (length place.last == 0) ≡ empty → node_at tree (cond (empty || dot) place.under (cond up (parent place.under) (place.under ++ slash ∷ place.last))) ≡ None
        → cond (empty || dot) place.under (cond up (parent place.under) (place.under ++ slash ∷ place.last)) ≡ slash ∷ [] → ⊥
    go true dot up long e is = let there = ends.under in absurd (cc (e, there))
    go false true up long e is = let there = ends.under in absurd (cc (e, there))
    go false false true long e is = let there : is_directory (node_at tree (parent place.under)) ≡ true = h.parents place.under (named tree place.under ends.under) in absurd (cc (e, there))
    go false false false long e is =
        let whole : length (place.under ++ slash ∷ place.last) ≡ 1 = ap length is in
        let sum = length-append place.under (slash ∷ place.last) in
        let short : length place.last ≡ 0 = omega (arith, whole, sum) in
        absurd (grind (arith, nat_tests, long, short))
