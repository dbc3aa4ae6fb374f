-- How many bytes a write leaves.
use Rattle.std.proofs.Common.{◌≡◌, ℕ, ◌+◌, ◌-◌, ◌≤◌, Bool, true, false, cond, List, [], ◌++◌, length, take, drop, refl, ap, sym, ◌∙◌, arith, Some, length-append, length-take, length-drop}
use Rattle.std.specs.Prelude.{◌==◌, ◌||◌, nat_lt, replicate}
use Rattle.std.proofs.lemmas.Bool.Decides.{nat_tests}
use Rattle.std.proofs.lemmas.List.{length-replicate}
use Rattle.std.specs.Cmp.{nat_cmp_total}
use Rattle.std.specs.FinMap as maps
use Rattle.lx_abi.specs.declared.outcome.Node.{Node}
use Rattle.lx_abi.specs.declared.outcome.Node.TheVariants.{File, Directory}
use Rattle.lx_files.specs.Tallies.{total}
use Rattle.lx_files.specs.Kinds.{NodeMap, size_of, changed_node}
use Rattle.lx_files.proofs.Totals.{kept_changed}
use Rattle.lx_files.specs.Contents.{padded_to, reaching, put_over, overwritten, length_after}

longer : (len end : ℕ) → (b : Bool) → nat_lt end len ≡ b → len + (end - len) ≡ cond b len end
longer len end true h = grind (arith, nat_tests, h)
longer len end false h = grind (arith, nat_tests, h)

length_put : (long : List ℕ) (at : ℕ) (bytes : List ℕ) → at + length bytes ≤ length long → length (put_over long at bytes) ≡ length long
length_put long at bytes h =
    let a = length-append (take at long ++ bytes) (drop (at + length bytes) long) in
    let b = length-append (take at long) bytes in
    let t = length-take at long in
    let d = length-drop (at + length bytes) long in
    grind (arith, a, b, t, d, h)

pub length_overwritten : (old : List ℕ) (at : ℕ) (bytes : List ℕ) → length_after (length old) at (length bytes) ≡ length (overwritten old at bytes)
unfolding overwritten
length_overwritten old at bytes = go (length bytes == 0) refl
  where
    long : List ℕ
    long = reaching (at + length bytes) old

    size : length long ≡ length old + (at + length bytes - length old)
    size = length-append old (replicate (at + length bytes - length old) 0) ∙ ap (λ n. length old + n) (length-replicate (at + length bytes - length old) 0)

    go : (b : Bool) → (length bytes == 0) ≡ b → cond (b || nat_lt (at + length bytes) (length old)) (length old) (at + length bytes) ≡ length (cond b old (put_over long at bytes))
    go true e = refl
    go false e =
        let n = length_put long at bytes (omega (arith, size)) in
        sym (n ∙ size ∙ longer (length old) (at + length bytes) (nat_lt (at + length bytes) (length old)) refl)

no_size : (v : Node) → size_of (changed_node (λ old. []) v) ≡ 0
no_size (File bytes) = refl
no_size Directory = refl

-- a file is emptied in its place
pub kept_cleared : (m n : NodeMap) (k : ℕ) (v w : Node) (sum before new : ℕ) → Some v ≡ maps.get m k → sum ≡ total size_of m → before ≡ size_of v → w ≡ changed_node (λ old. []) v → new ≡ sum - before → n ≡ maps.insert m k w → new ≡ total size_of n
kept_cleared m n k v w sum before new some is b e less there =
    let none = ap size_of e ∙ no_size v in
    kept_changed nat_cmp_total maps.nat_cmp-IsAntisymmetric size_of m n k v w sum before 0 new some is b (sym none) (omega (arith, less)) there

pub length_padded : (n : ℕ) (bytes : List ℕ) → length (padded_to n bytes) ≡ n
length_padded n bytes =
    let a = length-append (take n bytes) (replicate (n - length bytes) 0) in
    let t = length-take n bytes in
    let r = length-replicate {A = ℕ} (n - length bytes) 0 in
    grind (arith, a, t, r)
