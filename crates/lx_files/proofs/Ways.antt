-- Directories whose folders are known.
use Rattle.std.proofs.Common.{◌≡◌, ℕ, zero, suc, Bool, true, false, cond, not, List, [], ◌∷◌, ◌++◌, take, drop, length, filter, Option, Some, None, refl, ap, sym, subst, ◌∙◌, arith}
use Rattle.std.specs.Prelude.{◌==◌, IfSome, nat_eq}
use Rattle.std.specs.Option.{unwrap_or}
use Rattle.std.specs.Cmp.Lexicographic.{pointwise, same_text}
use Rattle.std.proofs.lemmas.List.{take-append-drop}
use Rattle.lx_files.specs.Paths.{Path, slash}
use Rattle.lx_files.specs.Folders.{Children, Standings, child_of, split, led, at, names_of, top, stands, IsTree, Entered, Stays, StaysBeside}
use Rattle.lx_files.specs.Ways.{AreKnown, IsCached, IsKnown, IsWay}
use Rattle.lx_files.specs.declared.cache.DirectoryCache.{DirectoryCache}
use Rattle.lx_files.specs.declared.known.Known.{Known}
use Rattle.std.proofs.lemmas.Bool.Decides.{nat_tests}
use Rattle.lx_files.proofs.Naming.{names_of-append, led-at, at-next, at-top}
use Rattle.lx_files.proofs.Walking.{first_entered}
use Rattle.lx_files.proofs.Adding.{leads_there}

pub if_some : {X : Type 0} (o : Option X) (P Q : X → Type 0) → ((x : X) → P x → Q x) → IfSome o P → IfSome o Q
if_some None P Q h e = tt
if_some (Some x) P Q h e = h x e

-- what a prefix leaves
pub stripped : (path directory rest : List ℕ) → pointwise nat_eq (take (length directory) path) directory ≡ true → rest ≡ drop (length directory) path → path ≡ directory ++ rest
stripped path directory rest begins is =
    sym (take-append-drop (length directory) path)
    ∙ ap (λ t. t ++ drop (length directory) path) (same_text (take (length directory) path) directory (sym begins))
    ∙ ap (λ t. directory ++ t) (sym is)

-- from the top
top_stands : (standings : Standings) → stands standings top ≡ true
top_stands standings = refl

pub from_top : (children : Children) (standings : Standings) (path : Path) → IsWay children standings top path path
from_top children standings path = (first_entered children path, top_stands standings)

pub way_leads : (children : Children) (standings : Standings) (folder : ℕ) (rest : List ℕ) (path : Path) → IsWay children standings folder rest path → led children (Some folder) (split rest) ≡ at children (names_of path)
unfolding Entered
way_leads children standings folder rest path way =
    let e = way.0 in
    ap (λ o. led children o (split rest)) (sym e.1) ∙ led-at children (split rest) e.0 ∙ ap (at children) e.2

-- a folder stands that names lead to
module _ (children : Children) (s : Standings) (full : ℕ) (t : IsTree children s full) where
  next_stands : (name : List ℕ) (o : Option ℕ) (k : ℕ) → child_of children name o ≡ Some k → stands s k ≡ true
  next_stands name None k e = absurd (cc e)
  next_stands name (Some f) k e = leads_there children s full t f k name e

  pub at_stands : (names : List (List ℕ)) (k : ℕ) → at children names ≡ Some k → stands s k ≡ true
  at_stands [] k e = subst (λ n. stands s n ≡ true) (ap (λ o. unwrap_or o top) (sym (at-top children) ∙ e)) (top_stands s)
  at_stands (name ∷ above) k e = next_stands name (at children above) k (sym (at-next children name above) ∙ e)

  -- from a directory above
  pub from_known : (over : Path) (folder : ℕ) → at children (names_of over) ≡ Some folder → (rest path : List ℕ) → path ≡ over ++ slash ∷ rest → IsWay children s folder rest path
  unfolding Entered
  from_known over folder here rest path is = (
    (names_of over, here, sym (ap names_of is ∙ names_of-append over rest)),
    at_stands (names_of over) folder here,
  )

-- what is known of a tree is known of another in which the same names lead there
pub known_stay : (old new : Children) → Stays old new → (ks : List Known) → AreKnown old ks → AreKnown new ks
known_stay old new stays [] h = tt
known_stay old new stays (k ∷ ks) h = (stays (names_of k.path) k.folder h.0, known_stay old new stays ks h.1)

pub cached_stay : (old new : Children) → Stays old new → (c : DirectoryCache) → IsCached old c → IsCached new c
cached_stay old new stays c h = (if_some c.made (IsKnown old) (IsKnown new) (λ k. stays (names_of k.path) k.folder) h.0, known_stay old new stays c.entered.items h.1)

pub known_beside : (old new : Children) (folder : ℕ) → StaysBeside folder old new → (ks : List Known) → AreKnown old ks → AreKnown new (filter (λ k. not (folder == k.folder)) ks)
known_beside old new folder stays [] h = tt
known_beside old new folder stays (k ∷ ks) h = go (folder == k.folder) refl (known_beside old new folder stays ks h.1)
  where
    go : (b : Bool) → (folder == k.folder) ≡ b → AreKnown new (filter (λ j. not (folder == j.folder)) ks) → AreKnown new (cond (not (folder == k.folder)) (k ∷ filter (λ j. not (folder == j.folder)) ks) (filter (λ j. not (folder == j.folder)) ks))
    go true e rest = subst (λ b. AreKnown new (cond (not b) (k ∷ filter (λ j. not (folder == j.folder)) ks) (filter (λ j. not (folder == j.folder)) ks))) (sym e) rest
    go false e rest =
        let other : (k.folder == folder) ≡ false = grind (arith, nat_tests, e) in
        subst (λ b. AreKnown new (cond (not b) (k ∷ filter (λ j. not (folder == j.folder)) ks) (filter (λ j. not (folder == j.folder)) ks))) (sym e)
        (stays (names_of k.path) k.folder h.0 other, rest)

known_more : (children : Children) (ks : List Known) (k : Known) → AreKnown children ks → IsKnown children k → AreKnown children (ks ++ k ∷ [])
known_more children [] k h is = (is, tt)
known_more children (j ∷ ks) k h is = (h.0, known_more children ks k h.1 is)

pub known_less : (children : Children) (n : ℕ) (ks : List Known) → AreKnown children ks → AreKnown children (drop n ks)
known_less children zero ks h = h
known_less children (suc n) [] h = tt
known_less children (suc n) (k ∷ ks) h = known_less children n ks h.1

pub known_pushed : (children : Children) (ks more : List Known) (k : Known) (pushed : Bool) → more ≡ cond pushed (ks ++ k ∷ []) ks → AreKnown children ks → IsKnown children k → AreKnown children more
known_pushed children ks more k true e h is = subst (AreKnown children) (sym e) (known_more children ks k h is)
known_pushed children ks more k false e h is = subst (AreKnown children) (sym e) h

pub known_last : (children : Children) (ks : List Known) (k : Known) → AreKnown children (ks ++ k ∷ []) → AreKnown children ks × IsKnown children k
known_last children [] k h = (tt, h.0)
known_last children (j ∷ ks) k h = let rest = known_last children ks k h.1 in ((h.0, rest.0), rest.1)
