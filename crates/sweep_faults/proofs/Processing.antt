-- What each process of a run has told, one item of the log more.
use Rattle.std.proofs.Common.{◌≡◌, Bool, ℕ, true, false, cond, List, [], ◌∷◌, ◌++◌, Some, refl, sym, ap, ◌∙◌, arith}
use Rattle.std.specs.Prelude.{◌==◌}
use Rattle.std.specs.Cmp.{nat_cmp_total, unsigned_tied}
use Rattle.std.specs.FinMap as maps
use Rattle.std.specs.Ordering.{nat_cmp}
use Rattle.std.proofs.lemmas.Bool.Decides.{nat_tests}
use Rattle.lx_abi.specs.declared.log.Call.{Call}
use Rattle.lx_abi.specs.declared.log.Item.{Item}
use Rattle.lx_abi.specs.declared.log.Item.TheVariants.{Enter, Done, Taken, Stopped, Exit}
use Rattle.sweep_rows.specs.Calls.{entered_by}
use Rattle.sweep_rows.specs.Likeness.{GoBeside}
use Rattle.sweep_rows.specs.declared.calls.Calls.{Calls}
use Rattle.sweep_rows.specs.declared.likeness.Likeness.{Likeness}
use Rattle.sweep_rows.proofs.Likening.{beside_more, still_beside}
use Rattle.sweep_faults.specs.Courses.{next_course, AreCourses}
use Rattle.sweep_faults.specs.Processes.{after_end, after_entry, course_in, first_process, likeness_in, or_first, process_at}
use Rattle.sweep_faults.specs.declared.courses.Course.{Course}
use Rattle.sweep_faults.specs.declared.processes.Process.{Process}
use Rattle.sweep_faults.specs.declared.processes.Processes.{Processes}
use Rattle.sweep_faults.proofs.Coursing.{course_ended, course_entered, course_same}

pub none_told : (processes : Processes) → processes.of ≡ maps.empty → (p : ℕ) → process_at processes.of p ≡ first_process
none_told processes none p = ap (λ m. or_first (maps.get m p)) none ∙ ap or_first (maps.get-empty nat_cmp p)

module _ (old new : Processes) (pid : ℕ) (process : Process) (put : new.of ≡ maps.insert old.of pid process) where
  got : (p : ℕ) → maps.get new.of p ≡ cond (p == pid) (Some process) (maps.get old.of p)
  got p =
      ap (λ m. maps.get m p) put ∙ maps.get-insert nat_cmp_total old.of pid process p
      ∙ ap (λ b. cond b (Some process) (maps.get old.of p)) (unsigned_tied p pid)

  field_put : {X : Type 0} (field : Process → X) (p : ℕ) → field (process_at new.of p) ≡ cond (p == pid) (field process) (field (process_at old.of p))
  field_put field p = ap (λ o. field (or_first o)) (got p) ∙ of (p == pid)
    where
      of : (b : Bool) → field (or_first (cond b (Some process) (maps.get old.of p))) ≡ cond b (field process) (field (process_at old.of p))
      of true = refl
      of false = refl

module _ (calls : Calls) (old new : Processes) (pid : ℕ) (call : Call) (put : new.of ≡ maps.insert old.of pid (after_entry calls pid call (process_at old.of pid))) where
  pub courses_entered : (past : List Item) → AreCourses (course_in old) past → AreCourses (course_in new) (past ++ Enter pid call ∷ [])
  courses_entered past h =
      course_entered (course_in old) (course_in new) pid call (field_put old new pid (after_entry calls pid call (process_at old.of pid)) put (λ x. x.course)) past h

  pub beside_entered : (past : List Item) → GoBeside calls (likeness_in old) past → GoBeside calls (likeness_in new) (past ++ Enter pid call ∷ [])
  beside_entered past h =
      let next = after_entry calls pid call (process_at old.of pid) in
      beside_more calls (likeness_in old) (likeness_in new) pid call next.likeness refl (field_put old new pid next put (λ x. x.likeness)) past h

module _ (old new : Processes) (pid : ℕ) (call : Call) (word : ℕ) (replaced : Bool) (put : new.of ≡ maps.insert old.of pid (after_end call (process_at old.of pid))) where
  pub courses_ended : (past : List Item) → AreCourses (course_in old) past → AreCourses (course_in new) (past ++ Done pid call word replaced ∷ [])
  courses_ended past h =
      course_ended (course_in old) (course_in new) pid call word replaced (field_put old new pid (after_end call (process_at old.of pid)) put (λ x. x.course)) past h

  same_likeness : (p : ℕ) → likeness_in new p ≡ likeness_in old p
  same_likeness p = field_put old new pid (after_end call (process_at old.of pid)) put (λ x. x.likeness) p ∙ of (p == pid) refl
    where
      of : (b : Bool) → (p == pid) ≡ b → cond b (likeness_in old pid) (likeness_in old p) ≡ likeness_in old p
      of true e =
          let same : pid ≡ p = grind (arith, nat_tests, e) in
          ap (likeness_in old) same
      of false e = refl

  pub beside_ended : (calls : Calls) (past : List Item) → GoBeside calls (likeness_in old) past → GoBeside calls (likeness_in new) (past ++ Done pid call word replaced ∷ [])
  beside_ended calls past h = still_beside (Done pid call word replaced) (λ p. refl) calls (likeness_in old) (likeness_in new) same_likeness past h

-- An item that is no entry, and no end of a call

pub none_entered : (item : Item) → ((pid : ℕ) (call : Call) → item ≡ Enter pid call → ⊥) → (p : ℕ) → entered_by p item ≡ []
none_entered (Enter pid call) none p = absurd (none pid call refl)
none_entered (Done pid call word replaced) none p = refl
none_entered (Taken pid signal cause) none p = refl
none_entered (Stopped pid signal) none p = refl
none_entered (Exit pid word left) none p = refl

pub none_moved : (item : Item) → ((pid : ℕ) (call : Call) → item ≡ Enter pid call → ⊥)
    → ((pid : ℕ) (call : Call) (word : ℕ) (replaced : Bool) → item ≡ Done pid call word replaced → ⊥)
    → (p : ℕ) (course : Course) → next_course p course item ≡ course
none_moved (Enter pid call) entry end p course = absurd (entry pid call refl)
none_moved (Done pid call word replaced) entry end p course = absurd (end pid call word replaced refl)
none_moved (Taken pid signal cause) entry end p course = refl
none_moved (Stopped pid signal) entry end p course = refl
none_moved (Exit pid word left) entry end p course = refl

pub courses_still : (item : Item) → ((p : ℕ) (course : Course) → next_course p course item ≡ course) → (processes : Processes) (past : List Item)
    → AreCourses (course_in processes) past → AreCourses (course_in processes) (past ++ item ∷ [])
courses_still item other processes past h = course_same item other (course_in processes) past h

pub beside_still : (item : Item) → ((p : ℕ) → entered_by p item ≡ []) → (calls : Calls) (processes : Processes) (past : List Item)
    → GoBeside calls (likeness_in processes) past → GoBeside calls (likeness_in processes) (past ++ item ∷ [])
beside_still item other calls processes past h = still_beside item other calls (likeness_in processes) (likeness_in processes) (λ p. refl) past h
