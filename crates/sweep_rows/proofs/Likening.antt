-- How a run's calls go beside those of a reference, one item more.
use Rattle.std.proofs.Common.{◌≡◌, ℕ, suc, ◌<◌, ◌&&◌, Bool, true, false, cond, Some, None, List, [], ◌∷◌, ◌++◌, length, refl, sym, ap, ap₂, ◌∙◌, append-nil, append_assoc, arith}
use Rattle.std.specs.Prelude.{◌==◌}
use Rattle.std.specs.List.{slice_get}
use Rattle.std.specs.Str.{bytes_eq}
use Rattle.std.proofs.lemmas.Bool.Decides.{nat_tests}
use Rattle.lx_abi.specs.declared.log.Call.{Call}
use Rattle.lx_abi.specs.declared.log.Item.{Item}
use Rattle.lx_abi.specs.declared.log.Item.TheVariants.{Enter}
use Rattle.lx_abi.specs.declared.outcome.Ended.{Ended}
use Rattle.sweep_rows.specs.Calls.{calls_alike, calls_by, calls_in, entered_by, same_calls, AreCalls}
use Rattle.sweep_rows.specs.Likeness.{are_whole, is_call, is_whole, likeness_by, next_likeness, GoBeside}
use Rattle.sweep_rows.specs.declared.calls.Calls.{Calls}
use Rattle.sweep_rows.specs.declared.likeness.Likeness.{Likeness}
use Rattle.sweep_rows.specs.declared.likeness.Likeness.TheVariants.{Same, Other}
use Rattle.sweep_rows.proofs.Numbers.{made_more, made_still}

-- One call more

one_more : (expected : List ℕ) (l : Likeness) (calls : List ℕ) (call : ℕ) → likeness_by expected l (calls ++ call ∷ []) ≡ next_likeness expected (likeness_by expected l calls) call
one_more expected l [] call = refl
one_more expected l (c ∷ calls) call = one_more expected (next_likeness expected l c) calls call

pub first_beside : (likeness : ℕ → Likeness) → ((p : ℕ) → likeness p ≡ Same 0) → (calls : Calls) → GoBeside calls likeness []
unfolding calls_by
first_beside likeness none calls pid = none pid

pub still_beside : (item : Item) → ((p : ℕ) → entered_by p item ≡ []) → (calls : Calls) (old new : ℕ → Likeness) → ((p : ℕ) → new p ≡ old p) → (past : List Item) → GoBeside calls old past → GoBeside calls new (past ++ item ∷ [])
still_beside item other calls old new same past h pid = same pid ∙ h pid ∙ ap (likeness_by (calls_in calls pid) (Same 0)) (made_still item other past pid)

module _ (calls : Calls) (old new : ℕ → Likeness) (pid : ℕ) (call : Call) (next : Likeness)
    (is : next ≡ next_likeness (calls_in calls pid) (old pid) call.number) (put : (p : ℕ) → new p ≡ cond (p == pid) next (old p))
    (past : List Item) (h : GoBeside calls old past) where
  made : (p : ℕ) → likeness_by (calls_in calls p) (Same 0) (calls_by p (past ++ Enter pid call ∷ []))
      ≡ likeness_by (calls_in calls p) (Same 0) (calls_by p past ++ cond (pid == p) (call.number ∷ []) [])
  made p = ap (likeness_by (calls_in calls p) (Same 0)) (made_more p past (Enter pid call))

  pub beside_more : GoBeside calls new (past ++ Enter pid call ∷ [])
  beside_more p = put p ∙ of (p == pid) (pid == p) refl refl ∙ sym (made p)
    where
      of : (a b : Bool) → (p == pid) ≡ a → (pid == p) ≡ b →
          cond a next (old p) ≡ likeness_by (calls_in calls p) (Same 0) (calls_by p past ++ cond b (call.number ∷ []) [])
      of true true e f =
          let same : pid ≡ p = grind (arith, nat_tests, e) in
          is ∙ ap (λ q. next_likeness (calls_in calls q) (old q) call.number) same
          ∙ ap (λ l. next_likeness (calls_in calls p) l call.number) (h p)
          ∙ sym (one_more (calls_in calls p) (Same 0) (calls_by p past) call.number)
      of false false e f = h p ∙ ap (likeness_by (calls_in calls p) (Same 0)) (sym (append-nil (calls_by p past)))
      of true false e f = absurd (grind (arith, nat_tests, e, f))
      of false true e f = absurd (grind (arith, nat_tests, e, f))

-- All calls

got_here : (done : List ℕ) (c : ℕ) (rest : List ℕ) → slice_get (done ++ c ∷ rest) (length done) ≡ Some c
got_here [] c rest = refl
got_here (d ∷ done) c rest = got_here done c rest

got_none : (done : List ℕ) → slice_get (done ++ []) (length done) ≡ None
got_none [] = refl
got_none (d ∷ done) = got_none done

others_stay : (expected : List ℕ) (calls : List ℕ) → likeness_by expected Other calls ≡ Other
others_stay expected [] = refl
others_stay expected (c ∷ calls) = others_stay expected calls

longer : (done : List ℕ) (c : ℕ) → suc (length done) ≡ length (done ++ c ∷ [])
longer [] c = refl
longer (d ∷ done) c = ap suc (longer done c)

equal : (a b : ℕ) → a ≡ b → (a == b) ≡ true
equal a b same = of (a == b) refl
  where
    of : (x : Bool) → (a == b) ≡ x → x ≡ true
    of true e = refl
    of false e = absurd (grind (arith, nat_tests, same, e))

unequal : (a b : ℕ) → a < b → (a == b) ≡ false
unequal a b less = of (a == b) refl
  where
    of : (x : Bool) → (a == b) ≡ x → x ≡ false
    of true e = absurd (grind (arith, nat_tests, less, e))
    of false e = refl

shorter : (done : List ℕ) (c : ℕ) (rest : List ℕ) → length done < length (done ++ c ∷ rest)
shorter [] c rest = omega arith
shorter (d ∷ done) c rest =
    let less = shorter done c rest in
    omega (arith, less)

whole_behind : (done rest made : List ℕ) → is_whole (done ++ rest) (likeness_by (done ++ rest) (Same (length done)) made) ≡ bytes_eq rest made
whole_behind done [] [] = equal (length done) (length (done ++ [])) (ap length (sym (append-nil done)))
whole_behind done (r ∷ rest) [] = unequal (length done) (length (done ++ r ∷ rest)) (shorter done r rest)
whole_behind done [] (c ∷ made) =
    ap (λ o. is_whole (done ++ []) (likeness_by (done ++ []) (cond (is_call o c) (Same (suc (length done))) Other) made)) (got_none done)
    ∙ ap (is_whole (done ++ [])) (others_stay (done ++ []) made)
whole_behind done (r ∷ rest) (c ∷ made) =
    ap (λ o. is_whole (done ++ r ∷ rest) (likeness_by (done ++ r ∷ rest) (cond (is_call o c) (Same (suc (length done))) Other) made)) (got_here done r rest)
    ∙ of (r == c) (whole_behind (done ++ r ∷ []) rest made)
  where
    of : (b : Bool) → is_whole ((done ++ r ∷ []) ++ rest) (likeness_by ((done ++ r ∷ []) ++ rest) (Same (length (done ++ r ∷ []))) made) ≡ bytes_eq rest made →
        is_whole (done ++ r ∷ rest) (likeness_by (done ++ r ∷ rest) (cond b (Same (suc (length done))) Other) made) ≡ (b && bytes_eq rest made)
    of false next = ap (is_whole (done ++ r ∷ rest)) (others_stay (done ++ r ∷ rest) made)
    of true next =
        ap₂ (λ xs n. is_whole xs (likeness_by xs (Same n) made)) (sym (append_assoc done (r ∷ []) rest)) (longer done r) ∙ next

module _ (calls : Calls) (likeness : ℕ → Likeness) (reference log : List Item) (g : AreCalls calls reference) (h : GoBeside calls likeness log) where
  whole_is : (pid : ℕ) → is_whole (calls_in calls pid) (likeness pid) ≡ bytes_eq (calls_by pid reference) (calls_by pid log)
  whole_is pid =
      ap (is_whole (calls_in calls pid)) (h pid) ∙ whole_behind [] (calls_in calls pid) (calls_by pid log)
      ∙ ap (λ x. bytes_eq x (calls_by pid log)) (g pid)

  pub whole_are : (ended : List Ended) → are_whole calls likeness ended ≡ same_calls reference log ended
  unfolding are_whole same_calls calls_alike
  whole_are [] = refl
  whole_are (e ∷ ended) = ap₂ (λ a b. a && b) (whole_is e.pid) (whole_are ended)
