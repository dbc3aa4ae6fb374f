-- Paths of folders, one after the other.
use Rattle.std.proofs.Common.{◌≡◌, ℕ, ◌+◌, ◌<◌, Bool, true, false, cond, Option, Some, None, refl, ap, sym, subst, ◌∙◌, arith}
use Rattle.std.proofs.lemmas.Bool.Decides.{nat_tests}
use Rattle.std.proofs.lemmas.Cmp.{nat_list_cmp_total}
use Rattle.std.specs.Prelude.{◌==◌, nat_lt, IsSome}
use Rattle.std.specs.Option.{option_and_then}
use Rattle.std.specs.Ordering.{eq_by_cmp, is_eq}
use Rattle.std.specs.Cmp.{tied_itself}
use Rattle.std.specs.FinMap as maps
use Rattle.lx_files.specs.Paths.{Path, path_cmp}
use Rattle.lx_files.specs.Kinds.{NameMap}
use Rattle.lx_files.specs.Folders.{Children, Standings, Numbers, names_of, at, path_of, with_path, IsTree, AreThere, named}
use Rattle.lx_files.proofs.Texts.{path_cmp-IsAntisymmetric, equal_is}
use Rattle.lx_files.proofs.Naming.{names_of-same}
use Rattle.lx_files.proofs.Climbing.{meant, at_one, at_path_of}

abbrev pub below : Numbers → ℕ → ℕ → Option ℕ
below numbers n i = cond (nat_lt i n) (maps.get numbers i) None

-- the numbers of the folders below one are listed by their paths
abbrev pub IsListed : Children → Numbers → NameMap → ℕ → Type 0
IsListed children numbers flat n = (path : Path) → maps.get flat path ≡ option_and_then (below numbers n) (at children (names_of path))

pub listed_none : (children : Children) (numbers : Numbers) (flat : NameMap) → flat ≡ maps.empty → IsListed children numbers flat 0
listed_none children numbers flat e path = ap (λ m. maps.get m path) e ∙ maps.get-empty path_cmp path ∙ go (at children (names_of path))
  where
    go : (o : Option ℕ) → None ≡ option_and_then (below numbers 0) o
    go None = refl
    go (Some i) = let none : nat_lt i 0 ≡ false = grind (arith, nat_tests) in sym (ap (λ b. cond b (maps.get numbers i) None) none)

module _ (children : Children) (s : Standings) (full : ℕ) (t : IsTree children s full) (numbers : Numbers) (there : AreThere s numbers) where
  pub listed_next : (flat flat' : NameMap) (n : ℕ) → IsListed children numbers flat n → flat' ≡ with_path flat (path_of s n) (maps.get numbers n) → IsListed children numbers flat' (n + 1)
  listed_next flat flat' n so e path = ap (λ m. maps.get m path) e ∙ go (maps.get numbers n) refl
    where
      later : (i : ℕ) → (i == n) ≡ false → nat_lt i n ≡ nat_lt i (n + 1)
      later i other = grind (arith, nat_tests, other)

      go : (o : Option ℕ) → maps.get numbers n ≡ o → maps.get (with_path flat (path_of s n) o) path ≡ option_and_then (below numbers (n + 1)) (at children (names_of path))
      go None none = so path ∙ each (at children (names_of path))
        where
          each : (o : Option ℕ) → option_and_then (below numbers n) o ≡ option_and_then (below numbers (n + 1)) o
          each None = refl
          each (Some i) = this (i == n) refl
            where
              this : (b : Bool) → (i == n) ≡ b → below numbers n i ≡ below numbers (n + 1) i
              this false other = ap (λ b. cond b (maps.get numbers i) None) (later i other)
              this true same =
                  let is : i ≡ n = grind (arith, nat_tests, same) in
                  let nay : nat_lt i n ≡ false = grind (arith, nat_tests, same) in
                  let yea : nat_lt i (n + 1) ≡ true = grind (arith, nat_tests, same) in
                  ap (λ b. cond b (maps.get numbers i) None) nay ∙ sym (ap (λ b. cond b (maps.get numbers i) None) yea ∙ ap (maps.get numbers) is ∙ none)
      go (Some v) some = maps.get-insert nat_list_cmp_total flat (path_of s n) v path ∙ ap (cond (eq_by_cmp path_cmp path (path_of s n)) (Some v)) (so path) ∙ each (eq_by_cmp path_cmp path (path_of s n)) refl (at children (names_of path)) refl
        where
          here : at children (names_of (path_of s n)) ≡ Some n
          here = at_path_of children s full t n (there n (subst (λ (o : Option ℕ). IsSome o) (sym some) refl))

          now : below numbers (n + 1) n ≡ Some v
          now = let yea : nat_lt n (n + 1) ≡ true = grind (arith, nat_tests) in ap (λ b. cond b (maps.get numbers n) None) yea ∙ some

          each : (b : Bool) → eq_by_cmp path_cmp path (path_of s n) ≡ b → (o : Option ℕ) → at children (names_of path) ≡ o → cond b (Some v) (option_and_then (below numbers n) o) ≡ option_and_then (below numbers (n + 1)) o
          each true same o led =
              let is : o ≡ Some n = sym led ∙ ap (λ p. at children (names_of p)) (equal_is path (path_of s n) same) ∙ here in
              sym (ap (option_and_then (below numbers (n + 1))) is ∙ now)
          each false other None led = refl
          each false other (Some i) led = this (i == n) refl
            where
              this : (b : Bool) → (i == n) ≡ b → below numbers n i ≡ below numbers (n + 1) i
              this false nay = ap (λ b. cond b (maps.get numbers i) None) (later i nay)
              this true yea =
                  let number : i ≡ n = grind (arith, nat_tests, yea) in
                  let names = at_one children s full t (names_of path) (names_of (path_of s n)) n (led ∙ ap (λ (k : ℕ). Some k) number) here in
                  let same = ap (eq_by_cmp path_cmp path) (sym (names_of-same path (path_of s n) names)) ∙ ap is_eq (tied_itself nat_list_cmp_total path) in
                  absurd (cc (other, same))

  -- numbers at which nothing stands may be passed over
  pub listed_on : (flat : NameMap) (n m : ℕ) → n < m → ((i : ℕ) → n < i → i < m → maps.get numbers i ≡ None) → IsListed children numbers flat (n + 1) → IsListed children numbers flat m
  listed_on flat n m lt none so path = so path ∙ each (at children (names_of path))
    where
      each : (o : Option ℕ) → option_and_then (below numbers (n + 1)) o ≡ option_and_then (below numbers m) o
      each None = refl
      each (Some i) = this (nat_lt i (n + 1)) refl (nat_lt i m) refl
        where
          this : (a : Bool) → nat_lt i (n + 1) ≡ a → (b : Bool) → nat_lt i m ≡ b → cond a (maps.get numbers i) None ≡ cond b (maps.get numbers i) None
          this true p true q = refl
          this false p false q = refl
          this true p false q = absurd (grind (arith, nat_tests, p, q, lt))
          this false p true q =
              let after : n < i = grind (arith, nat_tests, p) in
              let before : i < m = grind (arith, nat_tests, q) in
              sym (none i after before)

  -- once none is left, all are listed
  pub all_listed : (flat : NameMap) (n : ℕ) → ((i : ℕ) → n < i → maps.get numbers i ≡ None) → IsListed children numbers flat (n + 1) → flat ≡ named s numbers
  all_listed flat n none so = maps.same_map nat_list_cmp_total path_cmp-IsAntisymmetric _ _ (λ path. so path ∙ each (at children (names_of path)) ∙ sym (meant children s full t numbers there path))
    where
      each : (o : Option ℕ) → option_and_then (below numbers (n + 1)) o ≡ option_and_then (maps.get numbers) o
      each None = refl
      each (Some i) = this (nat_lt i (n + 1)) refl
        where
          this : (a : Bool) → nat_lt i (n + 1) ≡ a → cond a (maps.get numbers i) None ≡ maps.get numbers i
          this true p = refl
          this false p = let after : n < i = grind (arith, nat_tests, p) in sym (none i after)
