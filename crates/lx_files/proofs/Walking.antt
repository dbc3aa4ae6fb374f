-- A text walked name by name.
use Rattle.std.proofs.Common.{◌≡◌, ℕ, ◌+◌, Bool, true, false, cond, List, [], ◌∷◌, ◌++◌, length, take, drop, Option, Some, None, refl, ap, sym, ◌∙◌, arith}
use Rattle.std.proofs.lemmas.Bool.Decides.{nat_tests}
use Rattle.std.specs.Prelude.{◌==◌, ◌||◌}
use Rattle.std.specs.Option.{option_and_then}
use Rattle.std.specs.Prelude.{IfOk}
use Rattle.std.specs.declared.result.Result.{Result}
use Rattle.std.specs.declared.result.Result.TheVariants.{Ok, Err}
use Rattle.std.specs.FinMap as maps
use Rattle.lx_files.specs.Paths.{Path, slash, has_slash, parent}
use Rattle.lx_files.specs.Kinds.{NodeMap, NameMap, IsAny}
use Rattle.lx_files.specs.Trees.{node_at}
use Rattle.lx_files.specs.Folders.{Children, Standings, Numbers, first_slash, split, turned, child, child_of, led, names_of, at, top, above_in, IsTree, AreThere, named, Stays, IsAnyChild, Entered}
use Rattle.lx_files.specs.declared.folder.Standing.{Standing}
use Rattle.lx_files.specs.Places.{beyond, is_dot, is_dot_dot}
use Rattle.lx_files.proofs.Cutting.{cut, uncut}
use Rattle.lx_files.proofs.Naming.{split-bare, names_of-next, names_of-one, names_of-append, led-at, led-step, led-none, led-end, at-next, at-top}
use Rattle.lx_files.proofs.Climbing.{came, meant}

module _ (children : Children) (folder : ℕ) (text : List ℕ) where
  parted : (n : ℕ) → Some n ≡ first_slash text → led children (Some folder) (split text) ≡ led children (child children folder (take n text)) (split (drop (n + 1) text))
  parted n h = ap (led children (Some folder)) ((cut text n h).parts) ∙ led-step children (Some folder) (take n text) (split (drop (n + 1) text))

  pub walked_out : (n : ℕ) → Some n ≡ first_slash text → None ≡ child children folder (take n text) → None ≡ led children (Some folder) (split text)
  walked_out n h none = sym (parted n h ∙ ap (λ o. led children o (split (drop (n + 1) text))) (sym none) ∙ led-none children (split (drop (n + 1) text)))

  pub walked_on : (n next : ℕ) → Some n ≡ first_slash text → Some next ≡ child children folder (take n text) → led children (Some next) (split (drop (n + 1) text)) ≡ led children (Some folder) (split text)
  walked_on n next h some = sym (parted n h ∙ ap (λ o. led children o (split (drop (n + 1) text))) (sym some))

  pub walked_in : None ≡ first_slash text → child children folder text ≡ led children (Some folder) (split text)
  walked_in h = sym (ap (led children (Some folder)) (split-bare text (uncut text h)) ∙ led-step children (Some folder) text [] ∙ led-end children (child children folder text))

-- names entered one after the other

pub first_entered : (children : Children) (path : Path) → Entered children top path path
unfolding Entered names_of
first_entered children path = ([], at-top children, refl)

pub next_entered : (old new : Children) (folder next n : ℕ) (rest : List ℕ) (path : Path) → Some n ≡ first_slash rest → Stays old new → child new folder (take n rest) ≡ Some next
    → Entered old folder rest path → Entered new next (drop (n + 1) rest) path
unfolding Entered
next_entered old new folder next n rest path h stays leads e =
    (take n rest ∷ e.0, at-next new (take n rest) e.0 ∙ ap (child_of new (take n rest)) (stays e.0 folder e.1) ∙ leads, ap (λ l. turned l e.0) (sym ((cut rest n h).parts)) ∙ e.2)

pub last_entered : (old new : Children) (folder last : ℕ) (rest : List ℕ) (path : Path) → None ≡ first_slash rest → Stays old new → child new folder rest ≡ Some last
    → Entered old folder rest path → at new (names_of path) ≡ Some last
unfolding Entered
last_entered old new folder last rest path h stays leads e =
    ap (at new) (sym e.2 ∙ ap (λ l. turned l e.0) (split-bare rest (uncut rest h))) ∙ at-next new rest e.0 ∙ ap (child_of new rest) (stays e.0 folder e.1) ∙ leads

-- what stands at a path, by its folder
pub stands_at : (children : Children) (s : Standings) (full : ℕ) → IsTree children s full → (numbers : Numbers) → AreThere s numbers → (nodes : NodeMap) (folder : Option ℕ) (path : Path) → folder ≡ at children (names_of path)
    → option_and_then (maps.get nodes) (option_and_then (maps.get numbers) folder) ≡ node_at (record { names = named s numbers; nodes = nodes }) path
stands_at children s full t numbers there nodes folder path h =
    ap (λ o. option_and_then (maps.get nodes) (option_and_then (maps.get numbers) o)) h ∙ ap (option_and_then (maps.get nodes)) (sym (meant children s full t numbers there path))

-- the folder above another

has_parent : (path : Path) → has_slash path ≡ true → (name : List ℕ) × (path ≡ parent path ++ slash ∷ name) × (has_slash name ≡ false)
unfolding parent
has_parent [] h = absurd (cc h)
has_parent (b ∷ bs) h = go (has_slash bs) refl (has_parent bs)
  where
    go : (t : Bool) → has_slash bs ≡ t → (has_slash bs ≡ true → (name : List ℕ) × (bs ≡ parent bs ++ slash ∷ name) × (has_slash name ≡ false))
        → (name : List ℕ) × (b ∷ bs ≡ cond t (b ∷ parent bs) [] ++ slash ∷ name) × (has_slash name ≡ false)
    go true e later = let r = later e in (r.0, ap (λ l. b ∷ l) r.1, r.2)
    go false e later =
        let here : (b == slash) ≡ true = grind (arith, h, e) in
        let is : b ≡ slash = grind (arith, nat_tests, here) in
        (bs, ap (λ z. z ∷ bs) is, e)

module _ (children : Children) (s : Standings) (full : ℕ) (t : IsTree children s full) where
  pub led_up : (path over : Path) (i : ℕ) (x : Standing) → Some i ≡ at children (names_of path) → maps.get s i ≡ Some x → ¬ (x.above ≡ top) → over ≡ parent path → Some x.above ≡ at children (names_of over)
  led_up path over i x led is below e = go (has_slash path) refl
    where
      go : (b : Bool) → has_slash path ≡ b → Some x.above ≡ at children (names_of over)
      go true h =
          let p = has_parent path h in
          let names : names_of path ≡ p.0 ∷ names_of (parent path) = ap names_of p.1 ∙ names_of-next (parent path) p.0 p.2 in
          let c = came (λ a. child children a p.0) (at children (names_of (parent path))) i (sym (at-next children p.0 (names_of (parent path))) ∙ ap (at children) (sym names) ∙ sym led) in
          let above : x.above ≡ c.0 = ap above_in (sym is ∙ t.down c.0 p.0 i c.2) in
          ap (λ (z : ℕ). Some z) above ∙ sym c.1 ∙ ap (λ q. at children (names_of q)) (sym e)
      go false h =
          let names : names_of path ≡ path ∷ [] = names_of-one path h in
          let leads : child children top path ≡ Some i = sym (ap (child_of children path) (at-top children)) ∙ sym (at-next children path []) ∙ ap (at children) (sym names) ∙ sym led in
          absurd (below (ap above_in (sym is ∙ t.down top path i leads)))

  -- the folder above, where that isn't the top
  pub led_over : (folder : Option ℕ) (path over : Path) (n : ℕ) → folder ≡ at children (names_of path) → n ≡ above_in (option_and_then (maps.get s) folder) → ¬ (n ≡ top) → over ≡ parent path → Some n ≡ at children (names_of over)
  led_over None path over n led is below e = absurd (below is)
  led_over (Some i) path over n led is below e = go (maps.get s i) refl is
    where
      go : (o : Option Standing) → maps.get s i ≡ o → n ≡ above_in o → Some n ≡ at children (names_of over)
      go None h k = absurd (below k)
      go (Some x) h k = ap (λ (z : ℕ). Some z) k ∙ led_up path over i x led h (λ z. below (k ∙ z)) e

-- where a part leads

pub beyond_here : (path : Path) (part : List ℕ) → ((length part == 0) || is_dot part) ≡ true → beyond path part ≡ path
unfolding beyond
beyond_here path part e = ap (λ b. cond b path (cond (is_dot_dot part) (parent path) (path ++ slash ∷ part))) e

pub beyond_up : (path : Path) (part : List ℕ) → ((length part == 0) || is_dot part) ≡ false → is_dot_dot part ≡ true → beyond path part ≡ parent path
unfolding beyond
beyond_up path part e h = ap (λ b. cond b path (cond (is_dot_dot part) (parent path) (path ++ slash ∷ part))) e ∙ ap (λ b. cond b (parent path) (path ++ slash ∷ part)) h

pub beyond_down : (path : Path) (part : List ℕ) → ((length part == 0) || is_dot part) ≡ false → is_dot_dot part ≡ false → beyond path part ≡ path ++ slash ∷ part
unfolding beyond
beyond_down path part e h = ap (λ b. cond b path (cond (is_dot_dot part) (parent path) (path ++ slash ∷ part))) e ∙ ap (λ b. cond b (parent path) (path ++ slash ∷ part)) h

pub led_on : (children : Children) (folder : Option ℕ) (path part : List ℕ) → folder ≡ at children (names_of path) → led children folder (split part) ≡ at children (names_of (path ++ slash ∷ part))
led_on children folder path part h = ap (λ o. led children o (split part)) h ∙ led-at children (split part) (names_of path) ∙ ap (at children) (sym (names_of-append path part))

-- whether a name stands in a folder

pub childless_there : (children : Children) (folder : ℕ) → None ≡ maps.get children folder → IsAnyChild children folder None
childless_there children folder none name = ap (option_and_then (λ (m : NameMap). maps.get m name)) (sym none)

pub childless_any : (children : Children) (folder : ℕ) (names : NameMap) (o : Option ℕ) → Some names ≡ maps.get children folder → IsAny names o → IsAnyChild children folder o
childless_any children folder names None some h = λ name. ap (option_and_then (λ (m : NameMap). maps.get m name)) (sym some) ∙ h name
childless_any children folder names (Some i) some h = (h.0, ap (option_and_then (λ (m : NameMap). maps.get m h.0)) (sym some) ∙ h.1)

pub if_ok : {X E : Type 0} (r : Result X E) (P Q : X → Type 0) → ((x : X) → P x → Q x) → IfOk r P → IfOk r Q
if_ok (Ok x) P Q f h = f x h
if_ok (Err e) P Q f h = tt
