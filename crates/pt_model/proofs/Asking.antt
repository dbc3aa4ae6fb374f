-- How often a tracer asks, and that it leaves nobody held.
use Rattle.std.proofs.Common.{◌≡◌, ◌⊎◌, inl, inr, ℕ, ◌+◌, Bool, true, false, cond, ◌||◌, List, [], ◌∷◌, ◌++◌, Option, Some, None, refl, sym, ap, ◌∙◌}
use Rattle.std.specs.Prelude.{◌==◌}
use Rattle.lx_abi.specs.declared.ptrace.Reply.{Reply}
use Rattle.lx_abi.specs.declared.ptrace.Reply.TheVariants.{Done as Agreed, Status as Status_is, Registers as Registers_are, Bytes as Bytes_are, Message as Message_is, Info as Info_is, Outcome as Outcome_is, Errno as Errno_is, OutOfTurns as Out_of_turns, Refused as Boot_refused}
use Rattle.lx_model.specs.Machine.{Regs, call_of, a7_of, sp_of}
use Rattle.lx_model.specs.Turn.{result_word}
use Rattle.lx_model.specs.Kernel.{Script}
use Rattle.pt_model.specs.Requests.{esrch}
use Rattle.pt_model.specs.Parts.{At_entry, At_exit, Options}
use Rattle.pt_model.specs.Admissible.{admits_answer}
use Rattle.pt_model.specs.Tracer.{Known, Awaiting, Seizing, Entry_regs, Entry_peek, Entry_set, Exit_regs, Exit_set, Exit_peek, Signal_info, Resuming, Listening, asks, hears, entry_with, look_entry, read_entry, look_exit, read_exit, exit_with, peeked_entry, peeked_exit, Waiting, Serving, focus_on, admits_at, next_at}
use Rattle.pt_model.specs.Replies.{LetsGo, NobodyIsLeftHeld}
use Rattle.pt_model.proofs.Maps.{equal_if}

module _ (o : Options) (script : Script) (p : ℕ) (k : Known) where
  -- after what was read, something is asked of the same tracee

  entry_with_asks : (r : Regs) (got : List (List ℕ)) (signal : ℕ) (x : Option ℕ) → (entry_with o p r got k signal x).next ≡ None → ⊥
  entry_with_asks r got signal None h = cc h
  entry_with_asks r got signal (Some x) h = cc h

  look_entry_asks : (r : Regs) (got : List (List ℕ)) (w : Option (ℕ × ℕ)) → (look_entry o script p r got k w).next ≡ None → ⊥
  look_entry_asks r got None h = entry_with_asks r got _ (result_word (script (a7_of r) (k.counts (a7_of r) + 1))) h
  look_entry_asks r got (Some w) h = cc h

  read_entry_asks : (r : Regs) (got : List (List ℕ)) (shown : Bool) → (read_entry o script p r got k shown).next ≡ None → ⊥
  read_entry_asks r got true h = look_entry_asks r got (o.texts.wants (At_entry (call_of r) (sp_of r)) got) h
  read_entry_asks r got false h = entry_with_asks r [] _ (result_word (script (a7_of r) (k.counts (a7_of r) + 1))) h

  look_exit_asks : (x : ℕ) (replaced : Bool) (got : List (List ℕ)) (w : Option (ℕ × ℕ)) → (look_exit o p x replaced got k w).next ≡ None → ⊥
  look_exit_asks x replaced got None h = cc h
  look_exit_asks x replaced got (Some w) h = cc h

  read_exit_asks : (x : ℕ) (replaced : Bool) (got : List (List ℕ)) (shown : Bool) → (read_exit o p x replaced got k shown).next ≡ None → ⊥
  read_exit_asks x replaced got true h = look_exit_asks x replaced got (o.texts.wants (At_exit k.called x) got) h
  read_exit_asks x replaced got false h = cc h

  exit_with_asks : (r : Regs) (x : Option ℕ) → (exit_with o p r k x).next ≡ None → ⊥
  exit_with_asks r None h = read_exit_asks _ false [] (o.shows k.called.number) h
  exit_with_asks r (Some x) h = cc h

  is_three : (n : ℕ) → (n == 3) ≡ true → Errno_is n ≡ esrch
  is_three n h = ap (λ x. Errno_is x) (sym (equal_if 3 n h))

  entry_errno : (r : Regs) (got : List (List ℕ)) (n : ℕ) (five : Bool) → (n == 5) ≡ five → ((n == 3) || (n == 5)) ≡ true → (peeked_entry o script p r got k (cond five (Some []) None)).next ≡ None → Errno_is n ≡ esrch
  entry_errno r got n true e a h = absurd (read_entry_asks r (got ++ [] ∷ []) true h)
  entry_errno r got n false e a h = is_three n (left (n == 3) (n == 5) e a)
    where
      left : (b c : Bool) → c ≡ false → (b || c) ≡ true → b ≡ true
      left true c f g = refl
      left false c f g = absurd (cc (f, g))

  exit_errno : (x : ℕ) (replaced : Bool) (got : List (List ℕ)) (n : ℕ) (five : Bool) → (n == 5) ≡ five → ((n == 3) || (n == 5)) ≡ true → (peeked_exit o p x replaced got k (cond five (Some []) None)).next ≡ None → Errno_is n ≡ esrch
  exit_errno x replaced got n true e a h = absurd (read_exit_asks x replaced (got ++ [] ∷ []) true h)
  exit_errno x replaced got n false e a h = is_three n (left (n == 3) (n == 5) e a)
    where
      left : (b c : Bool) → c ≡ false → (b || c) ≡ true → b ≡ true
      left true c f g = refl
      left false c f g = absurd (cc (f, g))

  -- only a resumption, and ESRCH, leave nothing to ask
  let_go : (place : Awaiting) (r : Reply) → admits_answer (asks o place) r ≡ true → (hears o script p k place r).next ≡ None → (r ≡ Out_of_turns → ⊥) → (LetsGo place × (r ≡ Agreed)) ⊎ (r ≡ esrch)
  let_go Seizing Agreed a h t = inl (tt, refl)
  let_go Seizing (Status_is v z) a h t = absurd (cc a)
  let_go Seizing (Registers_are v) a h t = absurd (cc a)
  let_go Seizing (Bytes_are v) a h t = absurd (cc a)
  let_go Seizing (Message_is v) a h t = absurd (cc a)
  let_go Seizing (Info_is v) a h t = absurd (cc a)
  let_go Seizing (Outcome_is v) a h t = absurd (cc a)
  let_go Seizing (Errno_is m) a h t = absurd (cc a)
  let_go Seizing Out_of_turns a h t = absurd (t refl)
  let_go Seizing (Boot_refused v) a h t = absurd (cc a)
  let_go Entry_regs Agreed a h t = absurd (cc a)
  let_go Entry_regs (Status_is v z) a h t = absurd (cc a)
  let_go Entry_regs (Registers_are v) a h t = absurd (read_entry_asks v [] (o.shows (a7_of v)) h)
  let_go Entry_regs (Bytes_are v) a h t = absurd (cc a)
  let_go Entry_regs (Message_is v) a h t = absurd (cc a)
  let_go Entry_regs (Info_is v) a h t = absurd (cc a)
  let_go Entry_regs (Outcome_is v) a h t = absurd (cc a)
  let_go Entry_regs (Errno_is m) a h t = inr (is_three m a)
  let_go Entry_regs Out_of_turns a h t = absurd (t refl)
  let_go Entry_regs (Boot_refused v) a h t = absurd (cc a)
  let_go (Entry_peek r got w) Agreed a h t = absurd (cc a)
  let_go (Entry_peek r got w) (Status_is v z) a h t = absurd (cc a)
  let_go (Entry_peek r got w) (Registers_are v) a h t = absurd (cc a)
  let_go (Entry_peek r got w) (Bytes_are v) a h t = absurd (read_entry_asks r (got ++ v ∷ []) true h)
  let_go (Entry_peek r got w) (Message_is v) a h t = absurd (cc a)
  let_go (Entry_peek r got w) (Info_is v) a h t = absurd (cc a)
  let_go (Entry_peek r got w) (Outcome_is v) a h t = absurd (cc a)
  let_go (Entry_peek r got w) (Errno_is m) a h t = inr (entry_errno r got m (m == 5) refl a h)
  let_go (Entry_peek r got w) Out_of_turns a h t = absurd (t refl)
  let_go (Entry_peek r got w) (Boot_refused v) a h t = absurd (cc a)
  let_go (Entry_set r n) Agreed a h t = absurd (cc h)
  let_go (Entry_set r n) (Status_is v z) a h t = absurd (cc a)
  let_go (Entry_set r n) (Registers_are v) a h t = absurd (cc a)
  let_go (Entry_set r n) (Bytes_are v) a h t = absurd (cc a)
  let_go (Entry_set r n) (Message_is v) a h t = absurd (cc a)
  let_go (Entry_set r n) (Info_is v) a h t = absurd (cc a)
  let_go (Entry_set r n) (Outcome_is v) a h t = absurd (cc a)
  let_go (Entry_set r n) (Errno_is m) a h t = inr (is_three m a)
  let_go (Entry_set r n) Out_of_turns a h t = absurd (t refl)
  let_go (Entry_set r n) (Boot_refused v) a h t = absurd (cc a)
  let_go Exit_regs Agreed a h t = absurd (cc a)
  let_go Exit_regs (Status_is v z) a h t = absurd (cc a)
  let_go Exit_regs (Registers_are v) a h t = absurd (exit_with_asks v k.saved h)
  let_go Exit_regs (Bytes_are v) a h t = absurd (cc a)
  let_go Exit_regs (Message_is v) a h t = absurd (cc a)
  let_go Exit_regs (Info_is v) a h t = absurd (cc a)
  let_go Exit_regs (Outcome_is v) a h t = absurd (cc a)
  let_go Exit_regs (Errno_is m) a h t = inr (is_three m a)
  let_go Exit_regs Out_of_turns a h t = absurd (t refl)
  let_go Exit_regs (Boot_refused v) a h t = absurd (cc a)
  let_go (Exit_set r x) Agreed a h t = absurd (read_exit_asks x true [] (o.shows k.called.number) h)
  let_go (Exit_set r x) (Status_is v z) a h t = absurd (cc a)
  let_go (Exit_set r x) (Registers_are v) a h t = absurd (cc a)
  let_go (Exit_set r x) (Bytes_are v) a h t = absurd (cc a)
  let_go (Exit_set r x) (Message_is v) a h t = absurd (cc a)
  let_go (Exit_set r x) (Info_is v) a h t = absurd (cc a)
  let_go (Exit_set r x) (Outcome_is v) a h t = absurd (cc a)
  let_go (Exit_set r x) (Errno_is m) a h t = inr (is_three m a)
  let_go (Exit_set r x) Out_of_turns a h t = absurd (t refl)
  let_go (Exit_set r x) (Boot_refused v) a h t = absurd (cc a)
  let_go (Exit_peek x replaced got w) Agreed a h t = absurd (cc a)
  let_go (Exit_peek x replaced got w) (Status_is v z) a h t = absurd (cc a)
  let_go (Exit_peek x replaced got w) (Registers_are v) a h t = absurd (cc a)
  let_go (Exit_peek x replaced got w) (Bytes_are v) a h t = absurd (read_exit_asks x replaced (got ++ v ∷ []) true h)
  let_go (Exit_peek x replaced got w) (Message_is v) a h t = absurd (cc a)
  let_go (Exit_peek x replaced got w) (Info_is v) a h t = absurd (cc a)
  let_go (Exit_peek x replaced got w) (Outcome_is v) a h t = absurd (cc a)
  let_go (Exit_peek x replaced got w) (Errno_is m) a h t = inr (exit_errno x replaced got m (m == 5) refl a h)
  let_go (Exit_peek x replaced got w) Out_of_turns a h t = absurd (t refl)
  let_go (Exit_peek x replaced got w) (Boot_refused v) a h t = absurd (cc a)
  let_go (Signal_info n) Agreed a h t = absurd (cc a)
  let_go (Signal_info n) (Status_is v z) a h t = absurd (cc a)
  let_go (Signal_info n) (Registers_are v) a h t = absurd (cc a)
  let_go (Signal_info n) (Bytes_are v) a h t = absurd (cc a)
  let_go (Signal_info n) (Message_is v) a h t = absurd (cc a)
  let_go (Signal_info n) (Info_is v) a h t = absurd (cc h)
  let_go (Signal_info n) (Outcome_is v) a h t = absurd (cc a)
  let_go (Signal_info n) (Errno_is m) a h t = inr (is_three m a)
  let_go (Signal_info n) Out_of_turns a h t = absurd (t refl)
  let_go (Signal_info n) (Boot_refused v) a h t = absurd (cc a)
  let_go (Resuming n) Agreed a h t = inl (tt, refl)
  let_go (Resuming n) (Status_is v z) a h t = absurd (cc a)
  let_go (Resuming n) (Registers_are v) a h t = absurd (cc a)
  let_go (Resuming n) (Bytes_are v) a h t = absurd (cc a)
  let_go (Resuming n) (Message_is v) a h t = absurd (cc a)
  let_go (Resuming n) (Info_is v) a h t = absurd (cc a)
  let_go (Resuming n) (Outcome_is v) a h t = absurd (cc a)
  let_go (Resuming n) (Errno_is m) a h t = inr (is_three m a)
  let_go (Resuming n) Out_of_turns a h t = absurd (t refl)
  let_go (Resuming n) (Boot_refused v) a h t = absurd (cc a)
  let_go Listening Agreed a h t = inl (tt, refl)
  let_go Listening (Status_is v z) a h t = absurd (cc a)
  let_go Listening (Registers_are v) a h t = absurd (cc a)
  let_go Listening (Bytes_are v) a h t = absurd (cc a)
  let_go Listening (Message_is v) a h t = absurd (cc a)
  let_go Listening (Info_is v) a h t = absurd (cc a)
  let_go Listening (Outcome_is v) a h t = absurd (cc a)
  let_go Listening (Errno_is m) a h t = inr (is_three m a)
  let_go Listening Out_of_turns a h t = absurd (t refl)
  let_go Listening (Boot_refused v) a h t = absurd (cc a)

is_waiting : (p : ℕ) (x : Option Awaiting) → focus_on p x ≡ Waiting → x ≡ None
is_waiting p None h = refl
is_waiting p (Some place) h = absurd (cc h)

heard_focus : (o : Options) (script : Script) (known : ℕ → Known) (p : ℕ) (place : Awaiting) (r : Reply) → (next_at o script known (Serving p place) r).focus ≡ Waiting → ((hears o script p (known p) place r).next ≡ None) × (r ≡ Out_of_turns → ⊥)
heard_focus o script known p place Agreed h = (is_waiting p _ h, λ e. cc e)
heard_focus o script known p place (Status_is v z) h = (is_waiting p _ h, λ e. cc e)
heard_focus o script known p place (Registers_are v) h = (is_waiting p _ h, λ e. cc e)
heard_focus o script known p place (Bytes_are v) h = (is_waiting p _ h, λ e. cc e)
heard_focus o script known p place (Message_is v) h = (is_waiting p _ h, λ e. cc e)
heard_focus o script known p place (Info_is v) h = (is_waiting p _ h, λ e. cc e)
heard_focus o script known p place (Outcome_is v) h = (is_waiting p _ h, λ e. cc e)
heard_focus o script known p place (Errno_is v) h = (is_waiting p _ h, λ e. cc e)
heard_focus o script known p place Out_of_turns h = absurd (cc h)
heard_focus o script known p place (Boot_refused v) h = (is_waiting p _ h, λ e. cc e)

pub nobody_is_left_held : NobodyIsLeftHeld
nobody_is_left_held o script t p place r f a w =
    let ok : admits_answer (asks o place) r ≡ true = ap (λ x. admits_at o t.known t.tracees x r) (sym f) ∙ a in
    let came : (next_at o script t.known (Serving p place) r).focus ≡ Waiting = ap (λ x. (next_at o script t.known x r).focus) (sym f) ∙ rw a at w in
    let h : ((hears o script p (t.known p) place r).next ≡ None) × (r ≡ Out_of_turns → ⊥) = heard_focus o script t.known p place r came in
    let_go o script p (t.known p) place r ok h.0 h.1
