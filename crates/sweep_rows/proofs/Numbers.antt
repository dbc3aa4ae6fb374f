-- The calls of each process, one item of a log more.
use Rattle.std.proofs.Common.{◌≡◌, ℕ, Bool, true, false, cond, Some, None, List, [], ◌∷◌, ◌++◌, length, refl, sym, ap, subst, ◌∙◌, append-nil, append_assoc, arith}
use Rattle.std.specs.Prelude.{◌==◌}
use Rattle.std.specs.Cmp.{nat_cmp_total, unsigned_tied}
use Rattle.std.specs.FinMap as maps
use Rattle.std.specs.FinMap.{FinMap}
use Rattle.std.specs.List.{flat_map}
use Rattle.std.specs.Ordering.{nat_cmp}
use Rattle.std.proofs.lemmas.Bool.Decides.{nat_tests}
use Rattle.std.proofs.lemmas.Grind.{flat_map-append}
use Rattle.lx_abi.specs.declared.log.Call.{Call}
use Rattle.lx_abi.specs.declared.log.Item.{Item}
use Rattle.lx_abi.specs.declared.log.Item.TheVariants.{Enter}
use Rattle.sweep_rows.specs.Calls.{calls_by, calls_in, entered_by, numbers_in, AreCalls}
use Rattle.sweep_rows.specs.declared.calls.Calls.{Calls}

pub grouped : (xs : List Item) (item : Item) (ys zs log : List Item) → xs ++ ys ≡ log → ys ≡ item ∷ zs → (xs ++ item ∷ []) ++ zs ≡ log
grouped xs item ys zs log e h = append_assoc xs (item ∷ []) zs ∙ ap (λ l. xs ++ l) (sym h) ∙ e

pub none_made : (c : Calls) → c.made ≡ maps.empty → AreCalls c []
unfolding calls_by
none_made c none pid = ap (λ m. numbers_in (maps.get m pid)) none ∙ ap numbers_in (maps.get-empty nat_cmp pid)

pub made_more : (pid : ℕ) (past : List Item) (item : Item) → calls_by pid (past ++ item ∷ []) ≡ calls_by pid past ++ entered_by pid item
unfolding calls_by
made_more pid past item =
    flat_map-append (entered_by pid) past (item ∷ []) ∙ ap (λ l. flat_map (entered_by pid) past ++ l) (append-nil (entered_by pid item))

-- an item by which nobody enters a call
pub made_still : (item : Item) → ((p : ℕ) → entered_by p item ≡ []) → (past : List Item) (pid : ℕ) → calls_by pid past ≡ calls_by pid (past ++ item ∷ [])
made_still item other past pid =
    sym (append-nil (calls_by pid past)) ∙ ap (λ l. calls_by pid past ++ l) (sym (other pid)) ∙ sym (made_more pid past item)

pub none_more : (item : Item) → ((p : ℕ) → entered_by p item ≡ []) → (c : Calls) (past : List Item) → AreCalls c past → AreCalls c (past ++ item ∷ [])
none_more item other c past h pid = h pid ∙ made_still item other past pid

pub entry_more : (old new : Calls) (pid : ℕ) (call : Call) → ((p : ℕ) → calls_in new p ≡ calls_in old p ++ cond (pid == p) (call.number ∷ []) [])
    → (past : List Item) → AreCalls old past → AreCalls new (past ++ Enter pid call ∷ [])
entry_more old new pid call pushed past h p =
    pushed p ∙ ap (λ l. l ++ cond (pid == p) (call.number ∷ []) []) (h p) ∙ sym (made_more p past (Enter pid call))

got_insert : (m : FinMap nat_cmp (List ℕ)) (k : ℕ) (v : List ℕ) (q : ℕ) → maps.get (maps.insert m k v) q ≡ cond (q == k) (Some v) (maps.get m q)
got_insert m k v q = maps.get-insert nat_cmp_total m k v q ∙ ap (λ b. cond b (Some v) (maps.get m q)) (unsigned_tied q k)

got_remove : (m : FinMap nat_cmp (List ℕ)) (k q : ℕ) → maps.get (maps.remove m k) q ≡ cond (q == k) None (maps.get m q)
got_remove m k q = maps.get-remove nat_cmp_total m k q ∙ ap (λ b. cond b None (maps.get m q)) (unsigned_tied q k)

-- those of a process were taken out, one was added, and they were put back
module _ (old new : Calls) (pid number : ℕ) (numbers : List ℕ) (added : numbers ≡ calls_in old pid ++ number ∷ [])
    (put : new.made ≡ maps.insert (maps.remove old.made pid) pid numbers) where
  got : (p : ℕ) → maps.get new.made p ≡ cond (p == pid) (Some numbers) (cond (p == pid) None (maps.get old.made p))
  got p =
      ap (λ m. maps.get m p) put ∙ got_insert (maps.remove old.made pid) pid numbers p
      ∙ ap (cond (p == pid) (Some numbers)) (got_remove old.made pid p)

  pub pushed : (p : ℕ) → calls_in new p ≡ calls_in old p ++ cond (pid == p) (number ∷ []) []
  pushed p = ap numbers_in (got p) ∙ of (p == pid) (pid == p) refl refl
    where
      of : (a b : Bool) → (p == pid) ≡ a → (pid == p) ≡ b →
          numbers_in (cond a (Some numbers) (cond a None (maps.get old.made p))) ≡ calls_in old p ++ cond b (number ∷ []) []
      of true true e f =
          let same : pid ≡ p = grind (arith, nat_tests, e) in
          added ∙ ap (λ q. calls_in old q ++ number ∷ []) same
      of false false e f = sym (append-nil (calls_in old p))
      of true false e f = absurd (grind (arith, nat_tests, e, f))
      of false true e f = absurd (grind (arith, nat_tests, e, f))

pub all_made : (c : Calls) (past rest log : List Item) → length rest ≡ 0 → past ++ rest ≡ log → AreCalls c past → AreCalls c log
all_made c past [] log none is h = subst (λ l. AreCalls c l) (sym (append-nil past) ∙ is) h
all_made c past (item ∷ rest) log none is h = absurd (omega (arith, none))
