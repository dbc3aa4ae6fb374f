-- Counts, one item of a log more.
use Rattle.std.proofs.Common.{◌≡◌, ℕ, suc, ◌+◌, Bool, true, false, cond, ◌&&◌, List, [], ◌∷◌, ◌++◌, length, filter, refl, sym, ap, ◌∙◌, append-nil, arith}
use Rattle.std.specs.Prelude.{◌==◌, if◌then◌else◌}
use Rattle.std.proofs.lemmas.Bool.Decides.{nat_tests}
use Rattle.lx_abi.specs.declared.log.Call.{Call}
use Rattle.lx_abi.specs.declared.log.Item.{Item}
use Rattle.lx_abi.specs.declared.log.Item.TheVariants.{Enter}
use Rattle.lx_abi.specs.declared.script.Set.{Set}
use Rattle.lx_abi.specs.Log.{is_entry, entries}
use Rattle.lx_abi.specs.Occurrences.{count_of}
use Rattle.lx_abi.specs.Scripts.{includes}
use Rattle.lx_model.specs.Kernel.{traces}
use Rattle.sweep_rows.specs.declared.known.Known.{Known}
use Rattle.sweep_rows.specs.declared.entries.Rows.{Rows}
use Rattle.sweep_rows.specs.Entries.{more}
use Rattle.sweep_rows.specs.Counts.{Counted, IsAdded}
use Rattle.sweep_rows.specs.Known.{occurrence_at, occurrence_in, IsKnown}
use Rattle.sweep_rows.proofs.Knowing.{known_there}

-- Entries of a log and an item

count_more : (f : Item → Bool) (past : List Item) (item : Item) → length (filter f (past ++ item ∷ [])) ≡ (if f item then 1 else 0) + length (filter f past)
count_more f [] item = of (f item)
  where
    of : (b : Bool) → length (cond b (item ∷ []) []) ≡ (if b then 1 else 0) + 0
    of true = refl
    of false = refl
count_more f (x ∷ past) item = of (f x) (count_more f past item)
  where
    of : (b : Bool) → length (filter f (past ++ item ∷ [])) ≡ (if f item then 1 else 0) + length (filter f past) →
        length (cond b (x ∷ filter f (past ++ item ∷ [])) (filter f (past ++ item ∷ []))) ≡ (if f item then 1 else 0) + length (cond b (x ∷ filter f past) (filter f past))
    of true e = omega (arith, e)
    of false e = e

pub entries_more : (p number : ℕ) (past : List Item) (item : Item) → entries p number (past ++ item ∷ []) ≡ (if is_entry p number item then 1 else 0) + entries p number past
entries_more p number past item = count_more (is_entry p number) past item

no_more : (n : ℕ) → 0 + n ≡ n
no_more n = omega arith

-- An item that is no entry

pub none_more : (set : Set) (follow : Bool) (past : List Item) (item : Item) (r : Rows) → ((p number : ℕ) → is_entry p number item ≡ false) → more set follow past item ≡ [] → Counted past r → IsAdded set follow past item r r
none_more set follow past item r other none c = record {
  found = sym (append-nil r.found.items) ∙ ap (λ rows. r.found.items ++ rows) (sym none);
  counted = λ p number.
      c p number ∙ sym (entries_more p number past item ∙ ap (λ b. (if b then 1 else 0) + entries p number past) (other p number) ∙ no_more (entries p number past));
}

-- An entry

module _ (set : Set) (follow : Bool) (past : List Item) (pid : ℕ) (call : Call) (r r1 : Rows) (c : Counted past r)
    (counts : (p n : ℕ) → count_of r1.entered p n ≡ (if (p == pid) && (n == call.number) then 1 else 0) + count_of r.entered p n) where
  abbrev item : Item
  item = Enter pid call

  counted_entry : (p n : ℕ) → count_of r1.entered p n ≡ entries p n (past ++ item ∷ [])
  counted_entry p n = counts p n ∙ ap (λ x. (if (p == pid) && (n == call.number) then 1 else 0) + x) (c p n) ∙ sym (entries_more p n past item)

  here : count_of r1.entered pid call.number ≡ suc (entries pid call.number past)
  here = counts pid call.number ∙ of (pid == pid) (call.number == call.number) (grind (arith, nat_tests)) (grind (arith, nat_tests)) ∙ ap suc (c pid call.number)
    where
      of : (a b : Bool) → a ≡ true → b ≡ true → (if a && b then 1 else 0) + count_of r.entered pid call.number ≡ suc (count_of r.entered pid call.number)
      of true true e f = omega arith
      of false b e f = absurd (cc e)
      of true false e f = absurd (cc f)

  -- that isn't meant
  pub entry_of_others : r1.found ≡ r.found → (includes set call.number && traces follow pid) ≡ false → IsAdded set follow past item r r1
  entry_of_others found other = record {
    found = ap (λ v. v.items) found ∙ sym (append-nil r.found.items)
        ∙ ap (λ b. r.found.items ++ cond b (occurrence_at past pid call (suc (entries pid call.number past)) ∷ []) []) (sym other);
    counted = counted_entry;
  }

  -- that is meant
  pub entry_of_meant : (r' : Rows) (known : Known) → (includes set call.number && traces follow pid) ≡ true → IsKnown past known → r'.entered ≡ r1.entered
      → r'.found.items ≡ r.found.items ++ occurrence_in known pid call (count_of r1.entered pid call.number) ∷ [] → IsAdded set follow past item r r'
  entry_of_meant r' known meant k entered found = record {
    found =
        found ∙ ap (λ n. r.found.items ++ occurrence_in known pid call n ∷ []) here
        ∙ ap (λ o. r.found.items ++ o ∷ []) (known_there past known k pid call (suc (entries pid call.number past)))
        ∙ ap (λ b. r.found.items ++ cond b (occurrence_at past pid call (suc (entries pid call.number past)) ∷ []) []) (sym meant);
    counted = λ p n. ap (λ x. count_of x p n) entered ∙ counted_entry p n;
  }
