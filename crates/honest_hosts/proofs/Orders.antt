-- The outcome of a rooted tree, and of any wait words, is in order.
use Rattle.std.proofs.Common.{◌≡◌, ℕ, ◌&&◌, Bool, true, false, cond, List, [], ◌∷◌, map, Option, Some, None, refl, ap, sym, ◌∙◌, arith}
use Rattle.std.proofs.lemmas.Bool.Decides.{nat_tests}
use Rattle.std.specs.Prelude.{◌==◌, not, nat_lt, T}
use Rattle.std.specs.List.{filter}
use Rattle.std.specs.Ordering.{nat_cmp, is_lt, eq_by_cmp}
use Rattle.std.specs.declared.cmp.Ordering.{Ordering}
use Rattle.std.specs.FinMap as maps
use Rattle.std.specs.FinMap.Entries.{find, is_sorted, below_all}
use Rattle.lx_files.specs.Kinds.{NodeMap}
use Rattle.lx_files.specs.Listing.{is_named, file_of, files_of}
use Rattle.lx_files.specs.Paths.{Path, path_cmp, slash}
use Rattle.lx_files.specs.declared.tree.Tree.{Tree}
use Rattle.lx_kernel.specs.Outcomes.{outcome_in}
use Rattle.lx_proc.specs.declared.state.Shared.{Shared}
use Rattle.lx_proc.specs.declared.state.UserState.{UserState}
use Rattle.lx_model.specs.declared.stage.Task.{Task}
use Rattle.lx_proc.specs.WaitWords.{Words, ended_of, ends_of}
use Rattle.lx_sound.specs.Rooted.{IsRooted}
use Rattle.lx_sound.specs.Sound.{Sound}
use Rattle.host_values.specs.Reading.{is_after, is_path_before, is_root, can_follow, paths_rise, pids_rise}
use Rattle.host_frame.specs.Spelling.{IsInOrder}

is_true : (b : Bool) → T b → b ≡ true
is_true true t = refl
is_true false t = absurd t

first : (a b : Bool) → T (a && b) → T a
first true b t = tt
first false b t = absurd t

second : (a b : Bool) → T (a && b) → T b
second true b t = t
second false b t = absurd t

both : (a b : Bool) → a ≡ true → b ≡ true → (a && b) ≡ true
both a b p q = ap (λ t. t && b) p ∙ q

-- ---- pids

abbrev Below : {K X : Type 0} → (K → K → Ordering) → Option K → List (K × X) → Type 0
Below R None es = Unit {0}
Below R (Some x) es = T (below_all R x es)

pid_after : (before : Option ℕ) (p w : ℕ) (es : List (ℕ × ℕ)) → Below nat_cmp before ((p, w) ∷ es) → is_after nat_lt before p ≡ true
pid_after None p w es below = refl
pid_after (Some x) p w es below = go (nat_lt x p) (first (is_lt (nat_cmp x p)) (below_all nat_cmp x es) below)
  where
    go : (b : Bool) → T (is_lt (cond b Ordering.Less (cond (x == p) Ordering.Equal Ordering.Greater))) → b ≡ true
    go true t = refl
    go false t = other (x == p) t
      where
        other : (b : Bool) → T (is_lt (cond b Ordering.Equal Ordering.Greater)) → false ≡ true
        other true t = absurd t
        other false t = absurd t

rising_pids : (before : Option ℕ) (es : List (ℕ × ℕ)) → T (is_sorted nat_cmp es) → Below nat_cmp before es → pids_rise before (map ended_of es) ≡ true
unfolding pids_rise
rising_pids before [] sorted below = refl
rising_pids before ((p, w) ∷ es) sorted below =
    both (is_after nat_lt before p) (pids_rise (Some p) (map ended_of es)) (pid_after before p w es below)
    (rising_pids (Some p) es (second (below_all nat_cmp p es) (is_sorted nat_cmp es) sorted) (first (below_all nat_cmp p es) (is_sorted nat_cmp es) sorted))

pids_in_order : (words : Words) → pids_rise None (ends_of words) ≡ true
pids_in_order words = rising_pids None (maps.entries words) (maps.entries_sorted words) tt

-- ---- paths

-- none of these is a slash alone
abbrev NoRoot : List (Path × ℕ) → Type 0
NoRoot [] = Unit {0}
NoRoot (e ∷ es) = (is_root e.0 ≡ false) × NoRoot es

root_is : (path : Path) → is_root path ≡ true → path ≡ slash ∷ []
root_is [] e = absurd (cc e)
root_is (b ∷ []) e = let same : b ≡ 47 = grind (arith, nat_tests, e) in ap (λ c. c ∷ []) same
root_is (b ∷ c ∷ path) e = absurd (grind (arith, nat_tests, e))

not_root : (path : Path) → eq_by_cmp path_cmp (slash ∷ []) path ≡ false → is_root path ≡ false
not_root path other = go (is_root path) refl
  where
    go : (b : Bool) → is_root path ≡ b → b ≡ false
    go false e = refl
    go true e =
        let tied : eq_by_cmp path_cmp (slash ∷ []) path ≡ true = ap (eq_by_cmp path_cmp (slash ∷ [])) (root_is path e) in
        absurd (cc (tied, other))

no_root : (es : List (Path × ℕ)) → find path_cmp (slash ∷ []) es ≡ None → NoRoot es
no_root [] none = tt
no_root (e ∷ es) none = go (eq_by_cmp path_cmp (slash ∷ []) e.0) refl none (no_root es)
  where
    go : (b : Bool) → eq_by_cmp path_cmp (slash ∷ []) e.0 ≡ b → cond b (Some e.1) (find path_cmp (slash ∷ []) es) ≡ None
        → (find path_cmp (slash ∷ []) es ≡ None → NoRoot es) → (is_root e.0 ≡ false) × NoRoot es
    go true is h later = absurd (cc h)
    go false is h later = (not_root e.0 is, later h)

path_after : (before : Option Path) (e : Path × ℕ) (es : List (Path × ℕ)) → Below path_cmp before (e ∷ es) → is_after is_path_before before e.0 ≡ true
path_after None e es below = refl
path_after (Some x) e es below = is_true (is_path_before x e.0) (first (is_lt (path_cmp x e.0)) (below_all path_cmp x es) below)

passed : (before : Option Path) (e : Path × ℕ) (es : List (Path × ℕ)) → Below path_cmp before (e ∷ es) → Below path_cmp before es
passed None e es below = tt
passed (Some x) e es below = second (is_lt (path_cmp x e.0)) (below_all path_cmp x es) below

follows : (before : Option Path) (path : Path) → is_root path ≡ false → is_after is_path_before before path ≡ true → can_follow before path ≡ true
follows before path other after = both (not (is_root path)) (is_after is_path_before before path) (ap not other) after

rising_paths : (nodes : NodeMap) (before : Option Path) (es : List (Path × ℕ)) → T (is_sorted path_cmp es) → Below path_cmp before es → NoRoot es → paths_rise before (map (file_of nodes) (filter is_named es)) ≡ true
unfolding paths_rise
rising_paths nodes before [] sorted below none = refl
rising_paths nodes before (e ∷ es) sorted below none =
    let rest = second (below_all path_cmp e.0 es) (is_sorted path_cmp es) sorted in
    go (is_named e) (rising_paths nodes before es rest (passed before e es below) none.1)
    (rising_paths nodes (Some e.0) es rest (first (below_all path_cmp e.0 es) (is_sorted path_cmp es) sorted) none.1)
  where
    go : (b : Bool) → paths_rise before (map (file_of nodes) (filter is_named es)) ≡ true → paths_rise (Some e.0) (map (file_of nodes) (filter is_named es)) ≡ true
        → paths_rise before (map (file_of nodes) (cond b (e ∷ filter is_named es) (filter is_named es))) ≡ true
    go false without with = without
    go true without with = both (can_follow before e.0) (paths_rise (Some e.0) (map (file_of nodes) (filter is_named es))) (follows before e.0 none.0 (path_after before e es below)) with

paths_in_order : (tree : Tree) → IsRooted tree → paths_rise None (files_of tree) ≡ true
paths_in_order tree h =
    rising_paths tree.nodes None (maps.entries tree.names) (maps.entries_sorted tree.names) tt
    (no_root (maps.entries tree.names) (sym (maps.get-entries tree.names (slash ∷ [])) ∙ h.no_slash))

in_order : (s : Shared) → IsRooted s.tree → IsInOrder (outcome_in s)
in_order s h = both (paths_rise None (files_of s.tree)) (pids_rise None (ends_of s.ended)) (paths_in_order s.tree h) (pids_in_order s.ended)

pub sound_in_order : {s : Shared} {tasks : ℕ → Task UserState} {child : ℕ} → Sound s tasks child → IsInOrder (outcome_in s)
sound_in_order {s = s} h = in_order s h.parts.rooted
