-- Every reply of the ptrace machine is admitted.
use Rattle.std.proofs.Common.{◌≡◌, ℕ, ◌≤◌, true, List, [], ◌∷◌, Option, Some, None, length, refl, subst, arith}
use Rattle.std.specs.Prelude.{◌==◌}
use Rattle.std.proofs.lemmas.Bool.Decides.{nat_tests}
use Rattle.lx_abi.specs.declared.log.Mode.{Mode}
use Rattle.lx_abi.specs.declared.ptrace.Ask.TheVariants.{Peek}
use Rattle.lx_abi.specs.declared.signal.Signal.{Signal}
use Rattle.lx_model.specs.Machine.{Machine, call_of, sp_of}
use Rattle.lx_model.specs.Kernel.{Script}
use Rattle.pt_model.specs.Requests.{answer, esrch, peeked}
use Rattle.lx_abi.specs.Signals.{is_signal}
use Rattle.pt_model.specs.Parts.{At_entry, At_exit, Options}
use Rattle.pt_model.specs.Admissible.{admits_answer}
use Rattle.pt_model.specs.Tracer.{Known, Awaiting, Seizing, Entry_regs, Entry_peek, Entry_set, Exit_regs, Exit_set, Exit_peek, Signal_info, Resuming, Listening, asks, signal_word}
use Rattle.pt_model.specs.Headline.{IsTold, IsTexts}
use Rattle.pt_model.proofs.Phases.{Phase, Running, Enter_due, Enter_asked, Enter_peeking, Enter_setting, Enter_resuming, Enter_free, In_call, In_replaced, Has_acted, Exit_due, Exit_asked, Exit_setting, Exit_peeking, Exit_resuming, Exit_free, Fault_free, Sig_due, Sig_asked, Sig_resuming, Sig_free, Halt_due, Halt_asked, Halt_free, Wake_due, Wake_resuming, Wake_free, Dead_due, Dead, Nobody, Unborn, Boot_held, Born_due, Born_resuming, Born_free, Event_due, Event_resuming, Loose, proc_of, stage_of, is_other, Chosen, Knows}
use Rattle.pt_model.proofs.Local.{same_pid, some_inj, may_resume, seize_answer}

bytes_admitted : (a n : ℕ) (bytes : List ℕ) → length bytes ≤ n → admits_answer (Peek a n) (peeked bytes) ≡ true
bytes_admitted a n [] l = refl
bytes_admitted a n (x ∷ bytes) l = grind (arith, nat_tests)

module _ {S B : Type 0} (m : Machine S B) (told : IsTold m) (o : Options) (texts : IsTexts o.texts) (script : Script) (k : Known) (e : ℕ → ℕ) (message : ℕ) where
  abbrev Admits : Phase B → Awaiting → Type 0
  Admits ph st = admits_answer (asks o st) (answer m message (proc_of m o.follow ph) (asks o st)).reply ≡ true

  dead_admitted : (w : ℕ) (mode : Mode) (st : Awaiting) → is_other (Some st) ≡ true → admits_answer (asks o st) esrch ≡ true
  dead_admitted w mode Seizing h = absurd (cc h)
  dead_admitted w mode Entry_regs h = refl
  dead_admitted w mode (Entry_peek r d x) h = refl
  dead_admitted w mode (Entry_set r n) h = refl
  dead_admitted w mode Exit_regs h = refl
  dead_admitted w mode (Exit_set r x) h = refl
  dead_admitted w mode (Exit_peek x r d y) h = refl
  dead_admitted w mode (Signal_info n) h = refl
  dead_admitted w mode (Resuming n) h = refl
  dead_admitted w mode Listening h = refl

  resumed_admitted : (b : B) (r : Option ℕ) (n : Option Signal) → Chosen script (m.regs b) r n k e → Admits (Enter_resuming b r n) (Resuming (signal_word n))
  resumed_admitted b r None h = refl
  resumed_admitted b r (Some v) h =
      let j : is_signal v.number ≡ true = v.in_range in
      rw (may_resume (v.number == 0) (is_signal v.number) j) refl

  pub admitted : (ph : Phase B) → Knows m o script ph k e → (st : Awaiting) → stage_of m ph ≡ Some st → Admits ph st
  admitted (Enter_asked b) h st q = subst (λ x. Admits (Enter_asked b) x) (some_inj _ _ q) (refl)
  admitted (Enter_peeking b d w n) h st q = subst (λ x. Admits (Enter_peeking b d w n) x) (some_inj _ _ q) (rw (texts.fits (At_entry (call_of (m.regs b)) (sp_of (m.regs b))) d w h.2) (bytes_admitted w.0 w.1 (m.peek b w.0 w.1) (told.peeks b w.0 w.1)))
  admitted (Enter_setting b v n) h st q = subst (λ x. Admits (Enter_setting b v n) x) (some_inj _ _ q) (refl)
  admitted (Enter_resuming b r n) h st q = subst (λ x. Admits (Enter_resuming b r n) x) (some_inj _ _ q) (resumed_admitted b r n h)
  admitted (Exit_asked b c r) h st q = subst (λ x. Admits (Exit_asked b c r) x) (some_inj _ _ q) (refl)
  admitted (Exit_setting b v) h st q = subst (λ x. Admits (Exit_setting b v) x) (some_inj _ _ q) (refl)
  admitted (Exit_peeking b c x r d w n) h st q = subst (λ y. Admits (Exit_peeking b c x r d w n) y) (some_inj _ _ q) (rw (texts.fits (At_exit c x) d w h.2) (bytes_admitted w.0 w.1 (m.peek b w.0 w.1) (told.peeks b w.0 w.1)))
  admitted (Exit_resuming b) h st q = subst (λ x. Admits (Exit_resuming b) x) (some_inj _ _ q) (refl)
  admitted (Sig_asked b n cause) h st q = subst (λ x. Admits (Sig_asked b n cause) x) (some_inj _ _ q) (refl)
  admitted (Sig_resuming b n cause) h st q = subst (λ x. Admits (Sig_resuming b n cause) x) (some_inj _ _ q) (rw (same_pid n.number) refl)
  admitted (Halt_asked b n) h st q = subst (λ x. Admits (Halt_asked b n) x) (some_inj _ _ q) (refl)
  admitted (Wake_resuming b) h st q = subst (λ x. Admits (Wake_resuming b) x) (some_inj _ _ q) (refl)
  admitted (Boot_held b) h st q = subst (λ x. Admits (Boot_held b) x) (some_inj _ _ q) (rw (seize_answer m message o.follow b) refl)
  admitted (Born_resuming b) h st q = subst (λ x. Admits (Born_resuming b) x) (some_inj _ _ q) (refl)
  admitted (Event_resuming b c) h st q = subst (λ x. Admits (Event_resuming b c) x) (some_inj _ _ q) (refl)
  admitted (Dead_due w mode (Some x)) h st q = subst (λ y. Admits (Dead_due w mode (Some x)) y) (some_inj _ _ q) (dead_admitted w mode x h.2)
  admitted (Dead_due w mode None) h st q = absurd (cc q)
  admitted (Running b) h st q = absurd (cc q)
  admitted (Enter_due b) h st q = absurd (cc q)
  admitted (Enter_free b r n) h st q = absurd (cc q)
  admitted (In_call b c) h st q = absurd (cc q)
  admitted (In_replaced b v) h st q = absurd (cc q)
  admitted (Has_acted b c r) h st q = absurd (cc q)
  admitted (Exit_due b c r) h st q = absurd (cc q)
  admitted (Exit_free b) h st q = absurd (cc q)
  admitted (Fault_free b n cause) h st q = absurd (cc q)
  admitted (Sig_due b n cause) h st q = absurd (cc q)
  admitted (Sig_free b n cause) h st q = absurd (cc q)
  admitted (Halt_due b n) h st q = absurd (cc q)
  admitted (Halt_free b n) h st q = absurd (cc q)
  admitted (Wake_due b) h st q = absurd (cc q)
  admitted (Wake_free b) h st q = absurd (cc q)
  admitted (Dead w) h st q = absurd (cc q)
  admitted Nobody h st q = absurd (cc q)
  admitted (Unborn t) h st q = absurd (cc q)
  admitted (Born_due b) h st q = absurd (cc q)
  admitted (Born_free b) h st q = absurd (cc q)
  admitted (Event_due n b c) h st q = absurd (cc q)
  admitted (Loose x) h st q = absurd (cc q)
