-- How far the directories above a path are known.
use Rattle.std.proofs.Common.{◌≡◌, ℕ, ◌+◌, ◌-◌, ◌<◌, ◌≤◌, true, false, List, [], ◌∷◌, ◌++◌, length, take, drop, drop-drop, Option, Some, None, refl, ap, sym, subst, ◌∙◌, arith, add-one}
use Rattle.std.proofs.lemmas.List.{take-append-drop, length-drop, drop-take}
use Rattle.std.proofs.Math.Seq.{take-take}
use Rattle.std.specs.Prelude.{IsSome, is_some}
use Rattle.std.specs.Option.{option_and_then, option_copied}
use Rattle.std.specs.Borrow.{Bor}
use Rattle.std.specs.FinMap as maps
use Rattle.lx_files.specs.Paths.{Path, slash, has_slash}
use Rattle.lx_files.specs.Folders.{Children, Numbers, first_slash, child, child_of, names_of, at, top}
use Rattle.lx_files.proofs.Cutting.{cut, slash_there}
use Rattle.lx_files.proofs.Naming.{names_of-next, names_of-one, at-next, at-top}

-- the part of a path that is left leads on from a folder as the path's beginning leads to it
pub record Reached (children : Children) (folder : ℕ) (rest path : Path) : Type 0 where
  pub left : rest ≡ drop (length path - length rest) path
  pub short : length rest ≤ length path
  pub leads : (n : ℕ) → Some n ≡ first_slash rest → at children (names_of (take (length path - length rest + n) path)) ≡ child children folder (take n rest)

-- a directory with a number ends at this place of the path, unless the place is the first
abbrev pub IsKnown : Children → Numbers → Path → ℕ → Type 0
IsKnown children numbers path n =
    (n ≤ length path) × (0 < n → IsSome (option_and_then (maps.get numbers) (at children (names_of (take n path)))))

pub copied_some : (o : Option (Bor ℕ)) (p : Option ℕ) → option_copied o ≡ p → is_some o ≡ true → IsSome p
copied_some None p is some = absurd (cc some)
copied_some (Some r) p is some = subst IsSome is refl

bare_led : (children : Children) (name : List ℕ) → has_slash name ≡ false → at children (names_of name) ≡ child children top name
bare_led children name bare = ap (at children) (names_of-one name bare) ∙ at-next children name [] ∙ ap (child_of children name) (at-top children)

pub first_reached : (children : Children) (path : Path) → Reached children top path path
first_reached children path = record {
  left = ap (λ n. drop n path) none;
  short = omega arith;
  leads = λ n h. ap (λ m. at children (names_of (take m path))) (omega arith) ∙ bare_led children (take n path) ((cut path n h).bare);
}
  where
    none : 0 ≡ length path - length path
    none = omega arith

take-both : (a b : ℕ) (l : List ℕ) → take (a + b) l ≡ take a l ++ take b (drop a l)
take-both a b l =
    sym (take-append-drop a (take (a + b) l))
    ∙ ap (λ x. x ++ drop a (take (a + b) l)) (take-take a (a + b) l (omega arith))
    ∙ ap (λ x. take a l ++ x) (drop-take a b l)

module _ (children : Children) (folder next n : ℕ) (rest path : Path) (r : Reached children folder rest path) (h : Some n ≡ first_slash rest) (to : Some next ≡ child children folder (take n rest)) where
  passed : ℕ
  passed = length path - length rest

  within : n < length rest
  within = (cut rest n h).within

  further : length path - length (drop (n + 1) rest) ≡ passed + n + 1
  unfolding passed
  further = let l = length-drop (n + 1) rest in let s = r.short in let w = within in omega (arith, l, s, w)

  slashed : drop (passed + n) path ≡ slash ∷ drop (n + 1) rest
  unfolding passed
  slashed = sym (drop-drop n (length path - length rest) path) ∙ ap (drop n) (sym r.left) ∙ slash_there rest n h

  text : (m : ℕ) → take (passed + n + 1 + m) path ≡ take (passed + n) path ++ slash ∷ take m (drop (n + 1) rest)
  text m = ap (λ k. take k path) (omega arith) ∙ take-both (passed + n) (m + 1) path ∙ ap (λ l. take (passed + n) path ++ take (m + 1) l) slashed ∙ rw add-one refl

  names : (m : ℕ) → Some m ≡ first_slash (drop (n + 1) rest) → at children (names_of (take (passed + n + 1 + m) path)) ≡ child children next (take m (drop (n + 1) rest))
  unfolding passed
  names m f =
      let name : List ℕ = take m (drop (n + 1) rest) in
      ap (λ t. at children (names_of t)) (text m)
      ∙ ap (at children) (names_of-next (take (passed + n) path) name ((cut (drop (n + 1) rest) m f).bare))
      ∙ at-next children name (names_of (take (passed + n) path))
      ∙ ap (child_of children name) (r.leads n h ∙ sym to)

  pub next_reached : Reached children next (drop (n + 1) rest) path
  unfolding passed
  next_reached = record {
    left = ap (drop (n + 1)) r.left ∙ drop-drop (n + 1) passed path ∙ ap (λ k. drop k path) (omega (arith, further));
    short = let l = length-drop (n + 1) rest in let s = r.short in omega (arith, l, s);
    leads = λ m f. ap (λ k. at children (names_of (take (k + m) path))) further ∙ names m f;
  }

  pub known_within : length path - length rest + n ≤ length path
  known_within = let s = r.short in let w = within in omega (arith, s, w)

  pub known_there : (P : Option ℕ → Type 0) → P (Some next) → P (at children (names_of (take (length path - length rest + n) path)))
  known_there P some = subst P (sym (r.leads n h ∙ sym to)) some
