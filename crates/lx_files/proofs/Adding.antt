-- Folders and names put in and taken out.
use Rattle.std.proofs.Common.{◌≡◌, ℕ, ◌+◌, ◌&&◌, Bool, true, false, cond, List, [], ◌∷◌, Option, Some, None, refl, ap, sym, subst, ◌∙◌, arith}
use Rattle.std.proofs.lemmas.Bool.Decides.{nat_tests}
use Rattle.std.proofs.lemmas.Cmp.{nat_list_cmp_total}
use Rattle.std.specs.Prelude.{◌==◌, is_some, min}
use Rattle.std.specs.Option.{option_and_then}
use Rattle.std.specs.Ordering.{eq_by_cmp}
use Rattle.std.specs.Cmp.{nat_cmp_total}
use Rattle.std.specs.FinMap as maps
use Rattle.containers.specs.Vacant.{vacant, IsFullBelow}
use Rattle.containers.proofs.Vacant.{vacant_is_least}
use Rattle.lx_files.specs.Paths.{path_cmp, has_slash}
use Rattle.lx_files.specs.Kinds.{NameMap}
use Rattle.lx_files.specs.Folders.{Children, Standings, child, child_of, at, top, depth_below, stands, IsTree, HasMore, HasLess, Keeps, KeepsBeside, Stays, StaysBeside}
use Rattle.lx_files.specs.declared.folder.Standing.{Standing}
use Rattle.lx_files.proofs.Full.{full_next, full_remove}
use Rattle.lx_files.proofs.Totals.{insert-same}
use Rattle.lx_files.proofs.Naming.{at-next, at-top}
use Rattle.lx_files.proofs.Growing.{grown, grown_keeps, differs, at_stays, more_here, stands_now, got_insert, got_remove}
use Rattle.lx_files.proofs.Pruned.{pruned, pruned_keeps, pruned_stays}

module _ (children : Children) (folder : ℕ) where
  child_at : (a : ℕ) (q : List ℕ) → (a == folder) ≡ true → child children a q ≡ option_and_then (λ (m : NameMap). maps.get m q) (maps.get children folder)
  child_at a q e = let is : a ≡ folder = grind (arith, nat_tests, e) in ap (λ x. child children x q) is

  -- a folder in which no names stand yet
  pub begun : (new : Children) → None ≡ maps.get children folder → new ≡ maps.insert children folder maps.empty → (a : ℕ) (q : List ℕ) → child new a q ≡ child children a q
  begun new none e a q = ap (λ c. child c a q) e ∙ ap (option_and_then (λ (m : NameMap). maps.get m q)) (got_insert children folder maps.empty a) ∙ go (a == folder) refl
    where
      go : (b : Bool) → (a == folder) ≡ b → option_and_then (λ (m : NameMap). maps.get m q) (cond b (Some maps.empty) (maps.get children a)) ≡ child children a q
      go false h = refl
      go true h = maps.get-empty path_cmp q ∙ sym (child_at a q h ∙ ap (option_and_then (λ (m : NameMap). maps.get m q)) (sym none))

  module _ (new : Children) (m w : NameMap) (name : List ℕ) (there : Some m ≡ maps.get children folder) (put : new ≡ maps.insert children folder w) where
    placed : (f : Bool → Option ℕ → Option ℕ) → ((o : Option ℕ) → f false o ≡ o) → ((q : List ℕ) → maps.get w q ≡ f (eq_by_cmp path_cmp q name) (maps.get m q))
        → (a : ℕ) (q : List ℕ) → child new a q ≡ f ((a == folder) && eq_by_cmp path_cmp q name) (child children a q)
    placed f none is a q = ap (λ c. child c a q) put ∙ ap (option_and_then (λ (m : NameMap). maps.get m q)) (got_insert children folder w a) ∙ go (a == folder) refl
      where
        go : (b : Bool) → (a == folder) ≡ b → option_and_then (λ (m : NameMap). maps.get m q) (cond b (Some w) (maps.get children a)) ≡ f (b && eq_by_cmp path_cmp q name) (child children a q)
        go false h = sym (none (child children a q))
        go true h = is q ∙ ap (f (eq_by_cmp path_cmp q name)) (sym (child_at a q h ∙ ap (option_and_then (λ (m : NameMap). maps.get m q)) (sym there)))

    pub name_put : (k : ℕ) → w ≡ maps.insert m name k → HasMore children new folder name k
    name_put k e = placed (λ b o. cond b (Some k) o) (λ o. refl) (λ q. ap (λ x. maps.get x q) e ∙ maps.get-insert nat_list_cmp_total m name k q)

    pub name_taken : w ≡ maps.remove m name → HasLess children new folder name
    name_taken e = placed (λ b o. cond b None o) (λ o. refl) (λ q. ap (λ x. maps.get x q) e ∙ maps.get-remove nat_list_cmp_total m name q)

    pub name_kept : w ≡ m → new ≡ children
    name_kept e = put ∙ ap (maps.insert children folder) e ∙ insert-same nat_cmp_total maps.nat_cmp-IsAntisymmetric (λ x. 0) children folder m (sym there)

  pub name_absent : (name : List ℕ) → None ≡ maps.get children folder → HasLess children children folder name
  name_absent name none a q = go (a == folder) refl (eq_by_cmp path_cmp q name)
    where
      go : (b : Bool) → (a == folder) ≡ b → (c : Bool) → child children a q ≡ cond (b && c) None (child children a q)
      go false h c = refl
      go true h false = refl
      go true h true = child_at a q h ∙ ap (option_and_then (λ (m : NameMap). maps.get m q)) (sym none)

  pub ended : (new : Children) → ((q : List ℕ) → child children folder q ≡ None) → new ≡ maps.remove children folder → (a : ℕ) (q : List ℕ) → child new a q ≡ child children a q
  ended new empty e a q = ap (λ c. child c a q) e ∙ ap (option_and_then (λ (m : NameMap). maps.get m q)) (got_remove children folder a) ∙ go (a == folder) refl
    where
      go : (b : Bool) → (a == folder) ≡ b → option_and_then (λ (m : NameMap). maps.get m q) (cond b None (maps.get children a)) ≡ child children a q
      go false h = refl
      go true h = let is : a ≡ folder = grind (arith, nat_tests, h) in sym (ap (λ x. child children x q) is ∙ empty q)

-- folders from which the same names lead on
module _ (old new : Children) (same : (a : ℕ) (q : List ℕ) → child new a q ≡ child old a q) where
  pub alike_at : (names : List (List ℕ)) → at new names ≡ at old names
  alike_at [] = at-top new ∙ sym (at-top old)
  alike_at (q ∷ names) = at-next new q names ∙ ap (child_of new q) (alike_at names) ∙ go (at old names) ∙ sym (at-next old q names)
    where
      go : (o : Option ℕ) → child_of new q o ≡ child_of old q o
      go None = refl
      go (Some a) = same a q

  pub alike_stays : Stays old new
  alike_stays names i h = alike_at names ∙ h

  pub alike_tree : (s : Standings) (full : ℕ) → IsTree old s full → IsTree new s full
  alike_tree s full t = record {
    down = λ a q i h. t.down a q i (sym (same a q) ∙ h);
    up = λ i x h. same x.above x.name ∙ t.up i x h;
    rooted = t.rooted;
    bare = t.bare;
    topless = t.topless;
    full = t.full;
  }

pub keeps_itself : (s s' : Standings) → s' ≡ s → Keeps s s'
keeps_itself s s' e = subst (λ x. Keeps s x) (sym e) (λ numbers there. (there, refl))

pub keeps_both : (a b c : Standings) → Keeps a b → Keeps b c → Keeps a c
keeps_both a b c p q numbers there = let first = p numbers there in let then_ = q numbers first.0 in (then_.0, then_.1 ∙ first.1)

-- a new folder
module _ (old new : Children) (s s' : Standings) (full folder k : ℕ) (name : List ℕ) (x : Standing) (t : IsTree old s full) (vac : k ≡ vacant s) (fresh : (k == top) ≡ false)
    (there : stands s folder ≡ true) (lacks : child old folder name ≡ None) (bare : has_slash name ≡ false) (has : HasMore old new folder name k)
    (x_is : x ≡ record { above = folder; depth = depth_below (maps.get s folder); name = name }) (put : s' ≡ maps.insert s k x) where
  it : Standing
  it = record { above = folder; depth = depth_below (maps.get s folder); name = name }

  s'_is : s' ≡ maps.insert s k (record { above = folder; depth = depth_below (maps.get s folder); name = name })
  s'_is = put ∙ ap (maps.insert s k) x_is

  none : maps.get s k ≡ None
  none = ap (maps.get s) vac ∙ (vacant_is_least s).0

  filled : IsFullBelow (maps.insert s k (record { above = folder; depth = depth_below (maps.get s folder); name = name })) (k + 1)
  filled = full_next s k _ (subst (IsFullBelow s) (sym vac) (vacant_is_least s).1)

  pub added : IsTree new s' (k + 1)
  added = subst (λ z. IsTree new z (k + 1)) (sym s'_is) (grown old new s full (k + 1) folder name k t none fresh lacks there bare has filled)

  pub added_keeps : Keeps s s'
  added_keeps = subst (λ z. Keeps s z) (sym s'_is) (grown_keeps old new s full (k + 1) folder name k t none fresh lacks there bare has filled)

  pub added_stays : Stays old new
  added_stays = at_stays old new folder name k (differs old new s full (k + 1) folder name k t none fresh lacks there bare has)

  pub added_leads : child new folder name ≡ Some k
  added_leads = more_here old new folder name k (differs old new s full (k + 1) folder name k t none fresh lacks there bare has)

  pub added_there : stands s' k ≡ true
  added_there = subst (λ z. stands z k ≡ true) (sym s'_is) (stands_now old new s full (k + 1) folder name k t none fresh lacks there bare has)

-- a name leads to a folder that stands
pub leads_there : (children : Children) (s : Standings) (full : ℕ) → IsTree children s full → (folder i : ℕ) (name : List ℕ) → child children folder name ≡ Some i → stands s i ≡ true
leads_there children s full t folder i name h = let some : is_some (maps.get s i) ≡ true = ap is_some (t.down folder name i h) in grind (arith, some)

-- a folder goes
module _ (old mid new : Children) (s s' : Standings) (full full' k : ℕ) (x : Standing) (t : IsTree old s full) (is : Some x ≡ maps.get s k) (empty : (q : List ℕ) → child old k q ≡ None)
    (end : (a : ℕ) (q : List ℕ) → child mid a q ≡ child old a q) (has : HasLess mid new x.above x.name) (gone : s' ≡ maps.remove s k) (least : full' ≡ min full k) where
  has_old : HasLess old new x.above x.name
  has_old a q = has a q ∙ ap (cond ((a == x.above) && eq_by_cmp path_cmp q x.name) None) (end a q)

  filled' : IsFullBelow (maps.remove s k) full'
  filled' = full_remove s full full' k t.full (grind (arith, nat_tests, least)) (grind (arith, nat_tests, least))

  pub gone_tree : IsTree new s' full'
  gone_tree = subst (λ z. IsTree new z full') (sym gone) (pruned new old s full full' k x t (sym is) empty has_old filled')

  pub gone_keeps : KeepsBeside k s s'
  gone_keeps = subst (λ z. KeepsBeside k s z) (sym gone) (pruned_keeps new old s full full' k x t (sym is) empty has_old filled')

  pub gone_stays : StaysBeside k old new
  gone_stays = pruned_stays new old s full full' k x t (sym is) empty has_old
