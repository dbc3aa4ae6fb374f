-- No folders.
use Rattle.std.proofs.Common.{◌≡◌, ℕ, false, List, Option, Some, None, refl, ap, sym, ◌∙◌, arith}
use Rattle.std.proofs.lemmas.Cmp.{nat_list_cmp_total}
use Rattle.std.specs.Prelude.{is_some}
use Rattle.std.specs.Option.{option_and_then}
use Rattle.std.specs.Ordering.{nat_cmp}
use Rattle.std.specs.FinMap as maps
use Rattle.lx_files.specs.Paths.{path_cmp}
use Rattle.lx_files.specs.Kinds.{NameMap}
use Rattle.lx_files.specs.Folders.{Children, Standings, Numbers, child, names_of, at, top, IsTree, AreThere, named}
use Rattle.lx_files.proofs.Texts.{path_cmp-IsAntisymmetric}
use Rattle.lx_files.proofs.Climbing.{meant}

none_is_some : {X : Type 0} (o : Option X) (x : X) → o ≡ None → o ≡ Some x → ⊥
none_is_some o x e h = cc (e, h)

module _ (c : Children) (s : Standings) (numbers : Numbers) (no_c : c ≡ maps.empty) (no_s : s ≡ maps.empty) (no_n : numbers ≡ maps.empty) where
  none_standing : (i : ℕ) → maps.get s i ≡ None
  none_standing i = ap (λ m. maps.get m i) no_s ∙ maps.get-empty nat_cmp i

  none_child : (a : ℕ) (q : List ℕ) → child c a q ≡ None
  none_child a q = ap (option_and_then (λ (m : NameMap). maps.get m q)) (ap (λ m. maps.get m a) no_c ∙ maps.get-empty nat_cmp a)

  none_number : (i : ℕ) → maps.get numbers i ≡ None
  none_number i = ap (λ m. maps.get m i) no_n ∙ maps.get-empty nat_cmp i

  pub fresh_tree : IsTree c s 0
  fresh_tree = record {
    down = λ a q i h. absurd (none_is_some (child c a q) i (none_child a q) h);
    up = λ i x h. absurd (none_is_some (maps.get s i) x (none_standing i) h);
    rooted = λ i x h. absurd (none_is_some (maps.get s i) x (none_standing i) h);
    bare = λ i x h. absurd (none_is_some (maps.get s i) x (none_standing i) h);
    topless = none_standing top;
    full = λ q lt. absurd (omega (arith, lt));
  }

  pub fresh_there : AreThere s numbers
  fresh_there i some = let nay : is_some (maps.get numbers i) ≡ false = ap is_some (none_number i) in absurd (cc (nay, some))

  pub fresh_named : named s numbers ≡ maps.empty
  fresh_named = maps.same_map nat_list_cmp_total path_cmp-IsAntisymmetric _ _ (λ path. meant c s 0 fresh_tree numbers fresh_there path ∙ go (at c (names_of path)) ∙ sym (maps.get-empty path_cmp path))
    where
      go : (o : Option ℕ) → option_and_then (maps.get numbers) o ≡ None
      go None = refl
      go (Some i) = none_number i
