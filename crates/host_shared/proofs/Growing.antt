-- Journals with one more entry.
use Rattle.std.proofs.Common.{◌≡◌, ℕ, ◌+◌, Bool, true, false, List, [], ◌∷◌, ◌++◌, length, Option, Some, None, refl, ap, subst, ◌∙◌, arith}
use Rattle.std.specs.Prelude.{◌||◌, cond}
use Rattle.lx_abi.specs.declared.outcome.Outcome.{Outcome}
use Rattle.lx_abi.specs.declared.ptrace.Ask.{Ask as Ask_type}
use Rattle.lx_abi.specs.declared.ptrace.Reply.{Reply}
use Rattle.lx_abi.specs.declared.ptrace.Request.{Request}
use Rattle.lx_abi.specs.declared.ptrace.Request.TheVariants.{Boot as Boot_with, Wait, To, Outcome as Ask_outcome}
use Rattle.lx_abi.specs.declared.schedule.Event.TheVariants.{Turn, Serve}
use Rattle.lx_model.specs.Machine.{Machine}
use Rattle.lx_model.specs.declared.stage.Task.{Task}
use Rattle.lx_model.specs.declared.stage.Task.TheVariants.{Alive, Dying, Gone}
use Rattle.lx_model.specs.Finite.{at, turn_out}
use Rattle.pt_model.specs.declared.ptrace.Report.{Report}
use Rattle.lx_abi.specs.declared.ptrace.TraceOptions.{TraceOptions}
use Rattle.lx_model.specs.declared.event.PtraceEvent.{PtraceEvent}
use Rattle.lx_model.specs.declared.event.PtraceEvent.TheVariants.{Plain, Execed, Forked}
use Rattle.pt_model.specs.Attending.{left_pending}
use Rattle.pt_model.specs.Ptrace.{Proc, is_there, is_effective, inherits}
use Rattle.pt_model.specs.Hosting.{Hosting, ready_in, hosting_to, hosting_wait, hosting_pending, hosting_turn, hosted, with_newborn, with_birth, no_script, proc_in, traced_at}
use Rattle.pt_journal.specs.Journals.{events_of, last_from, is_last, is_over, Follows, after_entry, Replays}
use Rattle.pt_journal.specs.declared.entry.Entry.{Entry}
use Rattle.pt_journal.specs.declared.entry.Entry.TheVariants.{Ask, Did}

or_false : (a b : Bool) → (a || b) ≡ false → (a ≡ false) × (b ≡ false)
or_false true b e = absurd (cc e)
or_false false b e = (refl, e)

module _ {S B : Type 0} (m : Machine S B) (outcome : S → Outcome) (follow : Bool) where
  pub replays_more : (xs : List Entry) (x : Entry) (v g : Hosting S B) → Replays m outcome follow v xs g → is_over xs ≡ false → Follows m outcome follow g x
      → Replays m outcome follow v (xs ++ x ∷ []) (after_entry m outcome follow g x)
  replays_more [] x v g rep free f = (subst (λ u. Follows m outcome follow u x) rep f, λ _. refl, ap (λ u. after_entry m outcome follow u x) rep)
  replays_more (y ∷ ys) x v g rep free f =
      let both = or_false (is_last y) (is_over ys) free in
      (rep.0, λ e. absurd (cc (both.0, e)), replays_more ys x (after_entry m outcome follow v y) g rep.2 both.1 f)

pub over_more : (xs : List Entry) (x : Entry) → is_over xs ≡ false → is_over (xs ++ x ∷ []) ≡ is_last x
over_more [] x free = go (is_last x)
  where
    go : (b : Bool) → (b || false) ≡ b
    go true = refl
    go false = refl
over_more (y ∷ ys) x free =
    let both = or_false (is_last y) (is_over ys) free in
    ap (λ b. b || is_over (ys ++ x ∷ [])) both.0 ∙ over_more ys x both.1

pub events_more : (xs : List Entry) (e : _) (r : Option Reply) → length (events_of (xs ++ Did e r ∷ [])) ≡ length (events_of xs) + 1
events_more [] e r = refl
events_more (Ask q ∷ xs) e r = events_more xs e r
events_more (Did f s ∷ xs) e r = let again = events_more xs e r in omega (arith, again)

pub events_same : (xs : List Entry) (q : Request) → events_of (xs ++ Ask q ∷ []) ≡ events_of xs
events_same [] q = refl
events_same (Ask p ∷ xs) q = events_same xs q
events_same (Did f s ∷ xs) q = ap (λ es. f ∷ es) (events_same xs q)

pub last_asked : (xs : List Entry) (q : Request) (n : ℕ) → last_from n (xs ++ Ask q ∷ []) ≡ last_from n xs
last_asked [] q n = refl
last_asked (Ask p ∷ xs) q n = last_asked xs q n
last_asked (Did (Turn p) s ∷ xs) q n = last_asked xs q p
last_asked (Did Serve s ∷ xs) q n = last_asked xs q n

pub last_turned : (xs : List Entry) (p : ℕ) (r : Option Reply) (n : ℕ) → last_from n (xs ++ Did (Turn p) r ∷ []) ≡ p
last_turned [] p r n = refl
last_turned (Ask q ∷ xs) p r n = last_turned xs p r n
last_turned (Did (Turn q) s ∷ xs) p r n = last_turned xs p r q
last_turned (Did Serve s ∷ xs) p r n = last_turned xs p r n

pub last_served : (xs : List Entry) (r : Option Reply) (n : ℕ) → last_from n (xs ++ Did Serve r ∷ []) ≡ last_from n xs
last_served [] r n = refl
last_served (Ask q ∷ xs) r n = last_served xs r n
last_served (Did (Turn q) s ∷ xs) r n = last_served xs r q
last_served (Did Serve s ∷ xs) r n = last_served xs r n

-- who is ready is answered
module _ {S B : Type 0} (m : Machine S B) (outcome : S → Outcome) where
  wait_answers : (v : Hosting S B) (queue : List Report) (tracees : List ℕ) → ready_in (Some Wait) queue tracees ≡ true → is_there (hosting_wait v queue tracees).reply ≡ true
  wait_answers v [] [] e = refl
  wait_answers v [] (p ∷ ps) e = absurd (cc e)
  wait_answers v (r ∷ rs) ps e = refl

  to_answers : (v : Hosting S B) (p message : ℕ) (t : Proc B) (held : Bool) (watch : Option TraceOptions) (own : Task B) (q : Ask_type) → is_there (hosting_to m v p message t held watch own q).reply ≡ true
  to_answers v p message t true (Some w) (Alive b stage) q = refl
  to_answers v p message t true (Some w) (Dying word) q = refl
  to_answers v p message t true (Some w) Gone q = refl
  to_answers v p message t true None own q = refl
  to_answers v p message t false w own q = refl

  pub ready_answers : (v : Hosting S B) (pending : Option Request) → ready_in pending v.queue v.tracees ≡ true → is_there (hosting_pending m outcome v pending).reply ≡ true
  ready_answers v None e = absurd (cc e)
  ready_answers v (Some (Boot_with boot limit words)) e = absurd (cc e)
  ready_answers v (Some Wait) e = wait_answers v v.queue v.tracees e
  ready_answers v (Some (To p q)) e = to_answers v p (traced_at v p).message (proc_in v p) (traced_at v p).held (traced_at v p).options (at Gone v.running.tasks p) q
  ready_answers v (Some Ask_outcome) e = refl

  -- what was answered is pending no more
  pub answered_free : (v : Hosting S B) (pending : Option Request) (r : Reply) → (hosting_pending m outcome v pending).reply ≡ Some r → is_there (hosting_pending m outcome v pending).hosting.pending ≡ false
  answered_free v None r e = absurd (cc e)
  answered_free v (Some q) r e = ap (λ z. is_there (left_pending q z)) e

  -- a turn leaves what is pending
  newborn_pending : (v : Hosting S B) (child : ℕ) (w : Option TraceOptions) → (with_newborn v child w).pending ≡ v.pending
  newborn_pending v child None = refl
  newborn_pending v child (Some w) = refl

  birth_pending : (v : Hosting S B) (child : ℕ) (w : Option TraceOptions) (e : PtraceEvent B) → (with_birth v child w e).pending ≡ v.pending
  birth_pending v child w Plain = refl
  birth_pending v child w Execed = refl
  birth_pending v child w (Forked b) = newborn_pending v child (inherits w)

  pub turn_pending : (follow : Bool) (v : Hosting S B) (p : ℕ) → (hosting_turn m follow v p).pending ≡ v.pending
  turn_pending follow v p = go (is_effective m v.running.shared p (proc_in v p))
    where
      go : (b : Bool) → (cond b (hosted v p (traced_at v p) (turn_out m no_script follow v.running p)) v).pending ≡ v.pending
      go true = birth_pending _ v.running.child (traced_at v p).options (turn_out m no_script follow v.running p).event
      go false = refl
