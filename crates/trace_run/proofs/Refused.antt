-- A tracer comes to its fault by a reply alone that isn't admitted.
use Rattle.std.proofs.Common.{◌≡◌, ℕ, Bool, true, false, cond, List, [], ◌∷◌, ◌++◌, Option, Some, None, refl, sym, ap, ◌∙◌}
use Rattle.std.specs.Prelude.{◌==◌}
use Rattle.lx_abi.specs.declared.ptrace.Reply.{Reply}
use Rattle.lx_abi.specs.declared.ptrace.Reply.TheVariants as reply
use Rattle.lx_abi.specs.declared.status.Stop.{Stop}
use Rattle.lx_abi.specs.declared.status.Stop.TheVariants as stop
use Rattle.lx_abi.specs.Status.{stop_of}
use Rattle.lx_model.specs.Kernel.{Script}
use Rattle.pt_model.specs.Parts.{Options}
use Rattle.pt_model.specs.Replies.{after, after_all, admits}
use Rattle.pt_model.specs.Tracer.{Focus, Booting, Waiting, Serving, Asking_outcome, Over, Turns_over, Faulted}
use Rattle.pt_model.specs.Tracer.{Known, Awaiting, Next, Tracer, Moved, hears, focus_on, took_stop, took_status, next_at, admits_at, takes, faults, next}

module _ (o : Options) (script : Script) where
  on : (p : ℕ) (place : Option Awaiting) → focus_on p place ≡ Faulted → ⊥
  on p None e = cc e
  on p (Some place) e = cc e

  either : (b : Bool) → cond b Asking_outcome Waiting ≡ Faulted → ⊥
  either true e = cc e
  either false e = cc e

  stopped : (known : ℕ → Known) (p : ℕ) (s : Stop) → (took_stop o known p s).focus ≡ Faulted → ⊥
  stopped known p (stop.Syscall good) e = cc e
  stopped known p (stop.Signal signal) e = cc e
  stopped known p (stop.Group signal) e = cc e
  stopped known p (stop.Event event) e = cc e
  stopped known p (stop.Ended word) e = cc e

  told_of : (known : ℕ → Known) (p : ℕ) (s : Option Stop) → (took_status o known p s).focus ≡ Faulted → ⊥
  told_of known p None e = cc e
  told_of known p (Some s) e = stopped known p s e

  at : (known : ℕ → Known) (tracees : List ℕ) (f : Focus) (r : Reply) → admits_at o known tracees f r ≡ true → (next_at o script known f r).focus ≡ Faulted → ⊥
  at known tracees Booting r a e = cc e
  at known tracees Waiting (reply.Status p status) a e = told_of known p (stop_of status.word) e
  at known tracees Waiting (reply.Errno n) a e = either (n == 10) e
  at known tracees Waiting r a e = cc e
  at known tracees (Serving p place) reply.OutOfTurns a e = cc e
  at known tracees (Serving p place) r a e = on p (hears o script p (known p) place r).next e
  at known tracees Asking_outcome (reply.Outcome x) a e = cc e
  at known tracees Asking_outcome r a e = cc e
  at known tracees (Over x) r a e = cc a
  at known tracees Turns_over r a e = cc a
  at known tracees Faulted r a e = cc a

  by_admission : (b : Bool) (t : Tracer) (f : Focus) (r : Reply) (n : Next) → (b ≡ true → n.focus ≡ Faulted → ⊥) → (cond b (takes t f r n) (faults t)).tracer.focus ≡ Faulted → b ≡ false
  by_admission true t f r n k e = absurd (k refl e)
  by_admission false t f r n k e = refl

  one : (t : Tracer) (r : Reply) → (next o script t r).tracer.focus ≡ Faulted → admits o t r ≡ false
  one t r e = by_admission (admits_at o t.known t.tracees t.focus r) t t.focus r (next_at o script t.known t.focus r) (λ a. at t.known t.tracees t.focus r a) e

  pub last_of : (x : Moved) (rs : List Reply) (r : Reply) → after_all o script x (rs ++ r ∷ []) ≡ after o script (after_all o script x rs) r
  last_of x [] r = refl
  last_of x (q ∷ rs) r = last_of (after o script x q) rs r

  pub last_is_refused : (x : Moved) (rs : List Reply) (r : Reply) → (after_all o script x (rs ++ r ∷ [])).tracer.focus ≡ Faulted → admits o (after_all o script x rs).tracer r ≡ false
  last_is_refused x rs r e = one (after_all o script x rs).tracer r (ap (λ (y : Moved). y.tracer.focus) (sym (last_of x rs r)) ∙ e)
