-- A tracer that has begun isn't at its beginning again.
use Rattle.std.proofs.Common.{◌≡◌, ℕ, Bool, true, false, cond, List, [], ◌∷◌, Option, Some, None}
use Rattle.std.specs.Prelude.{◌==◌}
use Rattle.lx_abi.specs.declared.ptrace.Reply.{Reply}
use Rattle.lx_abi.specs.declared.ptrace.Reply.TheVariants as reply
use Rattle.lx_abi.specs.declared.status.Stop.{Stop}
use Rattle.lx_abi.specs.declared.status.Stop.TheVariants as stop
use Rattle.lx_abi.specs.Status.{stop_of}
use Rattle.lx_model.specs.Kernel.{Script}
use Rattle.pt_model.specs.Parts.{Options}
use Rattle.pt_model.specs.Replies.{after, after_all}
use Rattle.pt_model.specs.Tracer.{Focus, Booting, Waiting, Serving, Asking_outcome, Over, Turns_over, Faulted}
use Rattle.pt_model.specs.Tracer.{Known, Awaiting, Next, Tracer, Moved, hears, focus_on, took_stop, took_status, next_at, admits_at, takes, faults, next}

module _ (o : Options) (script : Script) where
  on : (p : ℕ) (place : Option Awaiting) → focus_on p place ≡ Booting → ⊥
  on p None e = cc e
  on p (Some place) e = cc e

  either : (b : Bool) → cond b Asking_outcome Waiting ≡ Booting → ⊥
  either true e = cc e
  either false e = cc e

  stopped : (known : ℕ → Known) (p : ℕ) (s : Stop) → (took_stop o known p s).focus ≡ Booting → ⊥
  stopped known p (stop.Syscall good) e = cc e
  stopped known p (stop.Signal signal) e = cc e
  stopped known p (stop.Group signal) e = cc e
  stopped known p (stop.Event event) e = cc e
  stopped known p (stop.Ended word) e = cc e

  told_of : (known : ℕ → Known) (p : ℕ) (s : Option Stop) → (took_status o known p s).focus ≡ Booting → ⊥
  told_of known p None e = cc e
  told_of known p (Some s) e = stopped known p s e

  at : (known : ℕ → Known) (f : Focus) (r : Reply) → (next_at o script known f r).focus ≡ Booting → ⊥
  at known Booting r e = cc e
  at known Waiting (reply.Status p status) e = told_of known p (stop_of status.word) e
  at known Waiting (reply.Errno n) e = either (n == 10) e
  at known Waiting r e = cc e
  at known (Serving p place) reply.OutOfTurns e = cc e
  at known (Serving p place) r e = on p (hears o script p (known p) place r).next e
  at known Asking_outcome (reply.Outcome x) e = cc e
  at known Asking_outcome r e = cc e
  at known (Over x) reply.OutOfTurns e = cc e
  at known (Over x) r e = cc e
  at known Turns_over reply.OutOfTurns e = cc e
  at known Turns_over r e = cc e
  at known Faulted reply.OutOfTurns e = cc e
  at known Faulted r e = cc e

  by_admission : (b : Bool) (t : Tracer) (f : Focus) (r : Reply) (n : Next) → (n.focus ≡ Booting → ⊥) → (cond b (takes t f r n) (faults t)).tracer.focus ≡ Booting → ⊥
  by_admission true t f r n k e = k e
  by_admission false t f r n k e = cc e

  one : (t : Tracer) (r : Reply) → (next o script t r).tracer.focus ≡ Booting → ⊥
  one t r e = by_admission (admits_at o t.known t.tracees t.focus r) t t.focus r (next_at o script t.known t.focus r) (at t.known t.focus r) e

  many : (rs : List Reply) (x : Moved) → (x.tracer.focus ≡ Booting → ⊥) → (after_all o script x rs).tracer.focus ≡ Booting → ⊥
  many [] x k e = k e
  many (r ∷ rs) x k e = many rs (after o script x r) (one x.tracer r) e

  pub begun : (x : Moved) (r : Reply) (rs : List Reply) → (after_all o script x (r ∷ rs)).tracer.focus ≡ Booting → ⊥
  begun x r rs e = many rs (after o script x r) (one x.tracer r) e
