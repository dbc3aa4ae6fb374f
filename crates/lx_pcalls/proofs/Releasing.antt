-- The children of a process, released in the order of their pids.
use Rattle.std.proofs.Common.{◌≡◌, ℕ, ◌<◌, ◌≤◌, Bool, true, false, cond, T, List, [], ◌∷◌, map, Option, Some, None, is_some, refl, ap, sym, ◌∙◌, arith}
use Rattle.std.specs.Prelude.{nat_lt, fold, ◌==◌, if◌then◌else◌}
use Rattle.std.specs.List.{filter}
use Rattle.std.specs.Ordering.{nat_cmp}
use Rattle.std.specs.FinMap as maps
use Rattle.std.specs.FinMap.Entries as entry
use Rattle.std.specs.Cmp.{nat_cmp_total}
use Rattle.std.proofs.lemmas.Bool.Decides.{nat_tests}
use Rattle.lx_proc.specs.declared.state.Entry.{Entry}
use Rattle.lx_proc.specs.State.{Entries}
use Rattle.lx_proc.specs.Pairs.{IsNextThat}
use Rattle.lx_proc.specs.Families.{is_zombie, is_child, has_child}
use Rattle.lx_pcalls.specs.Ends.{orphan, released_entry, released}
use Rattle.lx_pcalls.proofs.Finding.{left, right, lower, differ, differ_above, skip, not_below, never}

module _ {X : Type 0} where
  -- keys above a number
  abbrev above : ℕ → List (ℕ × X) → List ℕ
  above n es = filter (nat_lt n) (map (λ e. e.0) es)

  above_in : (n : ℕ) (e : ℕ × X) (es : List (ℕ × X)) → nat_lt n e.0 ≡ true → above n (e ∷ es) ≡ e.0 ∷ above n es
  above_in n e es h = ap (λ b. cond b (e.0 ∷ above n es) (above n es)) h

  above_out : (n : ℕ) (e : ℕ × X) (es : List (ℕ × X)) → nat_lt n e.0 ≡ false → above n (e ∷ es) ≡ above n es
  above_out n e es h = ap (λ b. cond b (e.0 ∷ above n es) (above n es)) h

  above_all : (n k : ℕ) (es : List (ℕ × X)) → n ≤ k → T (entry.below_all nat_cmp k es) → above n es ≡ map (λ e. e.0) es
  above_all n k [] le h = refl
  above_all n k (e ∷ es) le h =
      let lt = lower k e.0 (left _ _ h) in
      above_in n e es (grind (arith, nat_tests)) ∙ ap (λ ks. e.0 ∷ ks) (above_all n k es le (right _ _ h))

  -- what holds of the keys above one number holds past an entry that isn't above it
  past : (n q : ℕ) (e : ℕ × X) (es : List (ℕ × X)) → nat_lt n e.0 ≡ false → n < q → is_some (entry.find nat_cmp q es) ≡ is_some (entry.find nat_cmp q (e ∷ es))
  past n q e es out h = ap is_some (sym (skip q e es (differ_above q e.0 (grind (arith, nat_tests)))))

module _ {X S : Type 0} (f : S → ℕ → S) (now : S) where
  -- a step that changes nothing is left out
  none_step : (n : ℕ) (e : ℕ × X) (es : List (ℕ × X)) → ((q : ℕ) → n < q → f now q ≡ now) → fold f now (above n es) ≡ now → (b : Bool) → nat_lt n e.0 ≡ b → fold f now (above n (e ∷ es)) ≡ now
  none_step n e es idle rest true up = ap (fold f now) (above_in n e es up) ∙ ap (λ s. fold f s (above n es)) (idle e.0 (grind (arith, nat_tests))) ∙ rest
  none_step n e es idle rest false out = ap (fold f now) (above_out n e es out) ∙ rest

  none_above : (n : ℕ) (es : List (ℕ × X)) → ((q : ℕ) → n < q → f now q ≡ now) → fold f now (above n es) ≡ now
  none_above n [] idle = refl
  none_above n (e ∷ es) idle = none_step n e es idle (none_above n es idle) (nat_lt n e.0) refl

  next_step : (n k : ℕ) (e : ℕ × X) (es : List (ℕ × X)) → n < k → T (entry.below_all nat_cmp e.0 es) → is_some (entry.find nat_cmp k (e ∷ es)) ≡ true → ((q : ℕ) → n < q → q < k → f now q ≡ now) →
      (is_some (entry.find nat_cmp k es) ≡ true → fold f now (above n es) ≡ fold f now (k ∷ above k es)) →
      (a : Bool) → nat_lt n e.0 ≡ a → (b : Bool) → nat_lt e.0 k ≡ b → (c : Bool) → nat_lt k e.0 ≡ c → fold f now (above n (e ∷ es)) ≡ fold f now (k ∷ above k (e ∷ es))
  next_step n k e es lt s h idle rest false out b eb c ec =
      ap (fold f now) (above_out n e es out)
      ∙ rest (past n k e es out lt ∙ h)
      ∙ ap (λ ks. fold f now (k ∷ ks)) (sym (above_out k e es (grind (arith, nat_tests))))
  next_step n k e es lt s h idle rest true up true down c ec =
      let lower_key : e.0 < k = grind (arith, nat_tests) in
      ap (fold f now) (above_in n e es up)
      ∙ ap (λ s. fold f s (above n es)) (idle e.0 (grind (arith, nat_tests)) lower_key)
      ∙ rest (ap is_some (sym (skip k e es (differ_above k e.0 lower_key))) ∙ h)
      ∙ ap (λ ks. fold f now (k ∷ ks)) (sym (above_out k e es (grind (arith, nat_tests))))
  next_step n k e es lt s h idle rest true up false notdown true far =
      let higher : k < e.0 = grind (arith, nat_tests) in
      never (entry.find nat_cmp k es) (ap is_some (sym (skip k e es (differ k e.0 higher))) ∙ h) (not_below k e.0 es (omega (arith, higher)) s)
  next_step n k e es lt s h idle rest true up false notdown false notfar =
      let is : e.0 ≡ k = grind (arith, nat_tests) in
      ap (fold f now) (above_in n e es up
      ∙ ap (λ ks. e.0 ∷ ks) (above_all n e.0 es (omega (arith, lt, is)) s ∙ sym (above_all k e.0 es (omega (arith, is)) s) ∙ sym (above_out k e es notfar))
      ∙ ap (λ j. j ∷ above k (e ∷ es)) is)

  next_above : (n k : ℕ) (es : List (ℕ × X)) → n < k → T (entry.is_sorted nat_cmp es) → is_some (entry.find nat_cmp k es) ≡ true → ((q : ℕ) → n < q → q < k → f now q ≡ now) → fold f now (above n es) ≡ fold f now (k ∷ above k es)
  next_above n k [] lt s h idle = absurd (cc h)
  next_above n k (e ∷ es) lt s h idle =
      next_step n k e es lt (left _ _ s) h idle (λ there. next_above n k es lt (right _ _ s) there idle) (nat_lt n e.0) refl (nat_lt e.0 k) refl (nat_lt k e.0) refl

orphan_past : (m : Entries) (child : ℕ) (e : Entry) (b : Bool) (q : ℕ) → child < q → maps.get (orphan m child e b) q ≡ maps.get m q
orphan_past m child e true q h = maps.get-remove nat_cmp_total m child q ∙ ap (λ b. cond b None (maps.get m q)) (differ_above q child h)
orphan_past m child e false q h = maps.get-insert nat_cmp_total m child (record e { parent = 0 }) q ∙ ap (λ b. cond b (Some (record e { parent = 0 })) (maps.get m q)) (differ_above q child h)

mine_past : (m : Entries) (child : ℕ) (e : Entry) (b : Bool) (q : ℕ) → child < q → maps.get (if b then orphan m child e (is_zombie e.life) else m) q ≡ maps.get m q
mine_past m child e true q h = orphan_past m child e (is_zombie e.life) q h
mine_past m child e false q h = refl

entry_past : (m : Entries) (p child : ℕ) (o : Option Entry) (q : ℕ) → child < q → maps.get (released_entry m p child o) q ≡ maps.get m q
entry_past m p child None q h = refl
entry_past m p child (Some e) q h = mine_past m child e (e.parent == p) q h

-- what is above a child stays when it is released
pub released_past : (p : ℕ) (m : Entries) (child q : ℕ) → child < q → maps.get (released p m child) q ≡ maps.get m q
unfolding released
released_past p m child q h = entry_past m p child (maps.get m child) q h

-- who is no child stays
idle_entry : (m : Entries) (p q : ℕ) (o : Option Entry) → is_child false p o ≡ false → released_entry m p q o ≡ m
idle_entry m p q None h = refl
idle_entry m p q (Some e) h = rw h refl

idle : (p : ℕ) (m : Entries) (q : ℕ) → has_child m false p q ≡ false → released p m q ≡ m
unfolding released
idle p m q h = idle_entry m p q (maps.get m q) h

there : (p : ℕ) (o : Option Entry) → is_child false p o ≡ true → is_some o ≡ true
there p None h = absurd (cc h)
there p (Some e) h = refl

-- the next child is the next that is released
pub next_released : (p : ℕ) (old now : Entries) (n k : ℕ) → maps.get now k ≡ maps.get old k → IsNextThat (has_child now false p) n (Some k) →
    fold (released p) now (filter (nat_lt n) (maps.keys old)) ≡ fold (released p) (released p now k) (filter (nat_lt k) (maps.keys old))
next_released p old now n k like h =
    next_above (released p) now n k (maps.entries old) h.0 (maps.entries_sorted old)
    (ap is_some (sym (maps.get-entries old k) ∙ sym like) ∙ there p (maps.get now k) h.1)
    (λ q up down. idle p now q (h.2 q up down))

pub last_released : (p : ℕ) (old now : Entries) (n : ℕ) → IsNextThat (has_child now false p) n None → fold (released p) now (filter (nat_lt n) (maps.keys old)) ≡ now
last_released p old now n h = none_above (released p) now n (maps.entries old) (λ q up. idle p now q (h q up))
