-- What each process has done last, and asked for last, one item of a log more.
use Rattle.std.proofs.Common.{◌≡◌, Bool, ℕ, true, false, cond, List, [], ◌∷◌, ◌++◌, refl, sym, ap, ◌∙◌, arith}
use Rattle.std.specs.Prelude.{◌==◌}
use Rattle.std.proofs.lemmas.Bool.Decides.{nat_tests}
use Rattle.lx_abi.specs.declared.log.Call.{Call}
use Rattle.lx_abi.specs.declared.log.Item.{Item}
use Rattle.lx_abi.specs.declared.log.Item.TheVariants.{Enter, Done, Taken, Stopped, Exit}
use Rattle.sweep_faults.specs.declared.courses.Course.{Course}
use Rattle.sweep_faults.specs.Courses.{course_by, first_course, is_done, next_course, with_end, with_entry, AreCourses}
use Rattle.sweep_faults.specs.Faults.{asked_last, done_last, last_asked, was_last}

one_more : (pid : ℕ) (course : Course) (log : List Item) (item : Item) → course_by pid course (log ++ item ∷ []) ≡ next_course pid (course_by pid course log) item
unfolding course_by
one_more pid course [] item = refl
one_more pid course (first ∷ log) item = one_more pid (next_course pid course first) log item

pub first_courses : (course : ℕ → Course) → ((p : ℕ) → course p ≡ first_course) → AreCourses course []
unfolding course_by
first_courses course none pid = none pid

-- an item by which none has another
pub course_same : (item : Item) → ((p : ℕ) (c : Course) → next_course p c item ≡ c) → (course : ℕ → Course) (past : List Item) → AreCourses course past → AreCourses course (past ++ item ∷ [])
course_same item other course past h pid =
    h pid ∙ sym (other pid (course_by pid first_course past)) ∙ sym (one_more pid first_course past item)

module _ (old new : ℕ → Course) (pid : ℕ) (course : Course) (put : (p : ℕ) → new p ≡ cond (p == pid) course (old p)) (item : Item)
    (is : course ≡ next_course pid (old pid) item)
    (other : (p : ℕ) → (p == pid) ≡ false → (c : Course) → next_course p c item ≡ c) (past : List Item) (h : AreCourses old past) where
  put_more : AreCourses new (past ++ item ∷ [])
  put_more p = put p ∙ of (p == pid) refl
    where
      of : (b : Bool) → (p == pid) ≡ b → cond b course (old p) ≡ course_by p first_course (past ++ item ∷ [])
      of true e =
          let same : pid ≡ p = grind (arith, nat_tests, e) in
          is ∙ ap (λ q. next_course q (old q) item) same ∙ ap (λ c. next_course p c item) (h p)
          ∙ sym (one_more p first_course past item)
      of false e = h p ∙ sym (other p e (course_by p first_course past)) ∙ sym (one_more p first_course past item)

itself : (n : ℕ) → (n == n) ≡ true
itself n = grind (arith, nat_tests)

other_way : (p pid : ℕ) → (p == pid) ≡ false → (pid == p) ≡ false
other_way p pid e = of (pid == p) refl
  where
    of : (b : Bool) → (pid == p) ≡ b → b ≡ false
    of true f = absurd (grind (arith, nat_tests, e, f))
    of false f = refl

pub course_entered : (old new : ℕ → Course) (pid : ℕ) (call : Call) → ((p : ℕ) → new p ≡ cond (p == pid) (with_entry call (old pid)) (old p))
    → (past : List Item) → AreCourses old past → AreCourses new (past ++ Enter pid call ∷ [])
course_entered old new pid call put past h =
    put_more old new pid (with_entry call (old pid)) put (Enter pid call)
    (ap (λ b. cond b (with_entry call (old pid)) (old pid)) (sym (itself pid)))
    (λ p e c. ap (λ b. cond b (with_entry call c) c) (other_way p pid e)) past h

pub course_ended : (old new : ℕ → Course) (pid : ℕ) (call : Call) (word : ℕ) (replaced : Bool) → ((p : ℕ) → new p ≡ cond (p == pid) (with_end call (old pid)) (old p))
    → (past : List Item) → AreCourses old past → AreCourses new (past ++ Done pid call word replaced ∷ [])
course_ended old new pid call word replaced put past h =
    put_more old new pid (with_end call (old pid)) put (Done pid call word replaced)
    (ap (λ b. cond b (with_end call (old pid)) (old pid)) (sym (itself pid)))
    (λ p e c. ap (λ b. cond b (with_end call c) c) (other_way p pid e)) past h

-- What is asked of them

done_next : (pid call : ℕ) (course : Course) (item : Item) → done_last pid call (is_done call course.done) item ≡ is_done call (next_course pid course item).done
done_next pid call course (Enter p c) = of (p == pid)
  where
    of : (b : Bool) → is_done call course.done ≡ is_done call (cond b (with_entry c course) course).done
    of true = refl
    of false = refl
done_next pid call course (Done p c word replaced) = of (p == pid)
  where
    of : (b : Bool) → cond b (c.number == call) (is_done call course.done) ≡ is_done call (cond b (with_end c course) course).done
    of true = refl
    of false = refl
done_next pid call course (Taken p signal cause) = refl
done_next pid call course (Stopped p signal) = refl
done_next pid call course (Exit p word left) = refl

done_by : (pid call : ℕ) (course : Course) (log : List Item) → was_last pid call (is_done call course.done) log ≡ is_done call (course_by pid course log).done
unfolding was_last course_by
done_by pid call course [] = refl
done_by pid call course (item ∷ log) =
    ap (λ b. was_last pid call b log) (done_next pid call course item) ∙ done_by pid call (next_course pid course item) log

asked_next : (pid : ℕ) (course : Course) (item : Item) → asked_last pid course.asked item ≡ (next_course pid course item).asked
asked_next pid course (Enter p c) = of (p == pid)
  where
    of : (b : Bool) → cond b (with_entry c course).asked course.asked ≡ (cond b (with_entry c course) course).asked
    of true = refl
    of false = refl
asked_next pid course (Done p c word replaced) = of (p == pid)
  where
    of : (b : Bool) → course.asked ≡ (cond b (with_end c course) course).asked
    of true = refl
    of false = refl
asked_next pid course (Taken p signal cause) = refl
asked_next pid course (Stopped p signal) = refl
asked_next pid course (Exit p word left) = refl

asked_by : (pid : ℕ) (course : Course) (log : List Item) → last_asked pid course.asked log ≡ (course_by pid course log).asked
unfolding last_asked course_by
asked_by pid course [] = refl
asked_by pid course (item ∷ log) =
    ap (λ n. last_asked pid n log) (asked_next pid course item) ∙ asked_by pid (next_course pid course item) log

pub last_is : (course : ℕ → Course) (log : List Item) → AreCourses course log → (pid call : ℕ) → is_done call (course pid).done ≡ was_last pid call false log
last_is course log h pid call =
    ap (λ (c : Course). is_done call c.done) (h pid) ∙ sym (done_by pid call first_course log)

pub asked_is : (course : ℕ → Course) (log : List Item) → AreCourses course log → (pid : ℕ) → (course pid).asked ≡ last_asked pid 0 log
asked_is course log h pid = ap (λ (c : Course). c.asked) (h pid) ∙ sym (asked_by pid first_course log)
