-- A descriptor of a process stands for something else, and a child has its parent's.
use Rattle.std.proofs.Common.{◌≡◌, ℕ, ◌&&◌, Bool, true, false, cond, not, Option, Some, None, List, [], ◌∷◌, ◌++◌, filter, refl, ap, ap₂, ◌∙◌, arith}
use Rattle.std.specs.Prelude.{◌==◌}
use Rattle.std.specs.Cmp.{nat_cmp_total, unsigned_tied}
use Rattle.std.specs.FinMap as maps
use Rattle.std.specs.FinMap.{FinMap}
use Rattle.std.specs.Ordering.{nat_cmp}
use Rattle.std.proofs.Math.Path.{fun_ext}
use Rattle.std.proofs.lemmas.Bool.Decides.{nat_tests}
use Rattle.sweep_rows.specs.Descriptors.{at_boot, with_use, with_child, use_in, held_of, uses_in}
use Rattle.sweep_rows.specs.declared.descriptors.Use.{Use}
use Rattle.sweep_rows.specs.declared.descriptors.Held.{Held}
use Rattle.sweep_rows.specs.declared.descriptors.Descriptors.{Descriptors}

module _ (k : ℕ) (u : Use) where
  abbrev others : List Held → List Held
  others hs = filter (λ h. not (k == h.number)) hs

  abbrev set : List Held
  set = (record { number = k; used = u }) ∷ []

  pub use_set : (hs : List Held) (n : ℕ) → use_in (others hs ++ set) n ≡ cond (n == k) u (use_in hs n)
  use_set [] n = refl
  use_set (h ∷ hs) n = of (k == h.number) refl (n == h.number) refl (n == k) refl (use_set hs n)
    where
      of : (a : Bool) → (k == h.number) ≡ a → (b : Bool) → (n == h.number) ≡ b → (d : Bool) → (n == k) ≡ d →
          use_in (others hs ++ set) n ≡ cond (n == k) u (use_in hs n) →
          use_in (cond (not a) (h ∷ others hs) (others hs) ++ set) n ≡ cond d u (cond b h.used (use_in hs n))
      of true e true f true g next = next ∙ ap (λ x. cond x u (use_in hs n)) g
      of true e true f false g next = absurd (grind (arith, nat_tests, e, f, g))
      of true e false f d g next = next ∙ ap (λ x. cond x u (use_in hs n)) g
      of false e true f true g next = absurd (grind (arith, nat_tests, e, f, g))
      of false e true f false g next = ap (λ x. cond x h.used (use_in (others hs ++ set) n)) f
      of false e false f d g next =
          ap (λ x. cond x h.used (use_in (others hs ++ set) n)) f ∙ next ∙ ap (λ x. cond x u (use_in hs n)) g

got_insert : (m : FinMap nat_cmp (List Held)) (k : ℕ) (v : List Held) (q : ℕ) → maps.get (maps.insert m k v) q ≡ cond (q == k) (Some v) (maps.get m q)
got_insert m k v q = maps.get-insert nat_cmp_total m k v q ∙ ap (λ b. cond b (Some v) (maps.get m q)) (unsigned_tied q k)

got_remove : (m : FinMap nat_cmp (List Held)) (k q : ℕ) → maps.get (maps.remove m k) q ≡ cond (q == k) None (maps.get m q)
got_remove m k q = maps.get-remove nat_cmp_total m k q ∙ ap (λ b. cond b None (maps.get m q)) (unsigned_tied q k)

abbrev used_at : Option (List Held) → ℕ → Use
used_at o n = use_in (held_of o) n

module _ (old new : Descriptors) where
  -- the descriptors of a process were taken out, changed and put back
  module _ (pid k : ℕ) (u : Use) (own : List Held)
      (changed : own ≡ filter (λ h. not (k == h.number)) (held_of (maps.get old.processes pid)) ++ (record { number = k; used = u }) ∷ [])
      (put : new.processes ≡ maps.insert (maps.remove old.processes pid) pid own) where
    got : (p : ℕ) → maps.get new.processes p ≡ cond (p == pid) (Some own) (cond (p == pid) None (maps.get old.processes p))
    got p =
        ap (λ m. maps.get m p) put ∙ got_insert (maps.remove old.processes pid) pid own p
        ∙ ap (cond (p == pid) (Some own)) (got_remove old.processes pid p)

    at_each : (p n : ℕ) → uses_in new p n ≡ with_use pid k u (uses_in old) p n
    at_each p n = ap (λ o. used_at o n) (got p) ∙ of (p == pid) refl
      where
        of : (a : Bool) → (p == pid) ≡ a →
            used_at (cond a (Some own) (cond a None (maps.get old.processes p))) n ≡ cond (a && (n == k)) u (used_at (maps.get old.processes p) n)
        of false e = refl
        of true e =
            let same : pid ≡ p = grind (arith, nat_tests, e) in
            ap (λ hs. use_in hs n) changed ∙ use_set k u (held_of (maps.get old.processes pid)) n
            ∙ ap (λ q. cond (n == k) u (used_at (maps.get old.processes q) n)) same

    pub uses_set : uses_in new ≡ with_use pid k u (uses_in old)
    uses_set = fun_ext (λ p. fun_ext (λ n. at_each p n))

  -- a copy of the descriptors of a process is another's
  module _ (parent child : ℕ) (own : List Held) (copied : own ≡ held_of (maps.get old.processes parent))
      (put : new.processes ≡ maps.insert old.processes child own) where
    at_child : (p n : ℕ) → uses_in new p n ≡ with_child parent child (uses_in old) p n
    at_child p n =
        ap (λ m. used_at (maps.get m p) n) put ∙ ap (λ o. used_at o n) (got_insert old.processes child own p) ∙ of (p == child)
      where
        of : (a : Bool) → used_at (cond a (Some own) (maps.get old.processes p)) n ≡ cond a (uses_in old parent n) (uses_in old p n)
        of true = ap (λ hs. use_in hs n) copied
        of false = refl

    pub uses_inherited : uses_in new ≡ with_child parent child (uses_in old)
    uses_inherited = fun_ext (λ p. fun_ext (λ n. at_child p n))

-- one that stands for this already
pub uses_same : (uses : ℕ → ℕ → Use) (pid k : ℕ) (u : Use) → uses pid k ≡ u → uses ≡ with_use pid k u uses
uses_same uses pid k u is = fun_ext (λ p. fun_ext (λ n. at p n (p == pid) (n == k) refl refl))
  where
    at : (p n : ℕ) (a b : Bool) → (p == pid) ≡ a → (n == k) ≡ b → uses p n ≡ cond (a && b) u (uses p n)
    at p n true true e f =
        let same_process : p ≡ pid = grind (arith, nat_tests, e) in
        let same_number : n ≡ k = grind (arith, nat_tests, f) in
        ap₂ uses same_process same_number ∙ is
    at p n true false e f = refl
    at p n false b e f = refl

pub uses_first : (d : Descriptors) → d.processes ≡ maps.empty → uses_in d ≡ at_boot
uses_first d none = fun_ext (λ p. fun_ext (λ n. ap (λ m. used_at (maps.get m p) n) none ∙ ap (λ o. used_at o n) (maps.get-empty nat_cmp p)))
