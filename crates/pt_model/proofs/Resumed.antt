-- A tracee that a status put in hand is let go by Syscall or Listen, since Seize is asked at the beginning alone.
use Rattle.std.proofs.Common.{◌≡◌, inl, inr, ⊎_elim, ℕ, ◌+◌, Bool, true, false, cond, ◌&&◌, ◌||◌, List, [], ◌∷◌, ◌++◌, Option, Some, None, refl, sym, ap, subst, ◌∙◌}
use Rattle.std.specs.Prelude.{◌==◌}
use Rattle.lx_abi.specs.declared.ptrace.Reply.{Reply}
use Rattle.lx_abi.specs.declared.ptrace.Reply.TheVariants.{Done as Agreed, Status as Status_is, Outcome as Outcome_is, Errno as Errno_is, OutOfTurns as Out_of_turns}
use Rattle.lx_abi.specs.declared.ptrace.Info.{Info}
use Rattle.lx_abi.specs.declared.status.Stop.{Stop}
use Rattle.lx_abi.specs.declared.status.Stop.TheVariants.{Syscall as Syscall_stop, Signal as Signal_stop, Group as Group_stop, Event as Event_stop, Ended}
use Rattle.lx_abi.specs.Status.{stop_of}
use Rattle.lx_model.specs.Machine.{Regs, call_of, a0_of, a7_of, sp_of}
use Rattle.lx_model.specs.Turn.{result_word}
use Rattle.lx_model.specs.Kernel.{Script}
use Rattle.pt_model.specs.Admissible.{was_read}
use Rattle.pt_model.specs.Focus.{exit_place, first_place}
use Rattle.pt_model.specs.Parts.{At_entry, At_exit, Options}
use Rattle.pt_model.specs.Ptrace.{is_there}
use Rattle.pt_model.specs.Replies.{after, after_all, in_hand, LetsGo, Resumes, EachIsResumed}
use Rattle.pt_model.specs.Requests.{esrch}
use Rattle.pt_model.specs.Tracer.{Known, Awaiting, Seizing, Entry_regs, Entry_peek, Entry_set, Exit_regs, Exit_set, Exit_peek, Signal_info, Resuming, Listening, hears, entry_with, look_entry, read_entry, look_exit, read_exit, exit_with, regs_in, bytes_of, told_info, says_done, at_entry_regs, peeked_entry, at_entry_set, at_exit_regs, at_exit_set, peeked_exit, at_info}
use Rattle.pt_model.specs.Tracer.{Focus, Booting, Waiting, Serving, Asking_outcome, Over, Turns_over, Faulted, Tracer, Next, Moved, focus_on, took_status, next_at, admits_at, takes, faults, next}
use Rattle.pt_model.proofs.Hands.{statuses_come_to_hand, each_is_let_go}

-- it was seized before
abbrev IsSeized : Awaiting → Type 0
IsSeized Seizing = ⊥
IsSeized Entry_regs = Unit {0}
IsSeized (Entry_peek r got w) = Unit {0}
IsSeized (Entry_set r n) = Unit {0}
IsSeized Exit_regs = Unit {0}
IsSeized (Exit_set r x) = Unit {0}
IsSeized (Exit_peek x replaced got w) = Unit {0}
IsSeized (Signal_info n) = Unit {0}
IsSeized (Resuming n) = Unit {0}
IsSeized Listening = Unit {0}

abbrev NextIsSeized : Option Awaiting → Type 0
NextIsSeized None = Unit {0}
NextIsSeized (Some place) = IsSeized place

abbrev HasSeized : Focus → Type 0
HasSeized Booting = ⊥
HasSeized Waiting = Unit {0}
HasSeized (Serving p place) = IsSeized place
HasSeized Asking_outcome = Unit {0}
HasSeized (Over x) = Unit {0}
HasSeized Turns_over = Unit {0}
HasSeized Faulted = Unit {0}

module _ (o : Options) (script : Script) (p : ℕ) (k : Known) where
  by_entry : (r : Regs) (got : List (List ℕ)) (signal : ℕ) (x : Option ℕ) → NextIsSeized (entry_with o p r got k signal x).next
  by_entry r got signal None = tt
  by_entry r got signal (Some x) = tt

  by_look_entry : (r : Regs) (got : List (List ℕ)) (w : Option (ℕ × ℕ)) → NextIsSeized (look_entry o script p r got k w).next
  by_look_entry r got None = by_entry r got _ (result_word (script (a7_of r) (k.counts (a7_of r) + 1)))
  by_look_entry r got (Some w) = tt

  by_read_entry : (r : Regs) (got : List (List ℕ)) (shown : Bool) → NextIsSeized (read_entry o script p r got k shown).next
  by_read_entry r got true = by_look_entry r got (o.texts.wants (At_entry (call_of r) (sp_of r)) got)
  by_read_entry r got false = by_entry r [] _ (result_word (script (a7_of r) (k.counts (a7_of r) + 1)))

  by_look_exit : (x : ℕ) (replaced : Bool) (got : List (List ℕ)) (w : Option (ℕ × ℕ)) → NextIsSeized (look_exit o p x replaced got k w).next
  by_look_exit x replaced got None = tt
  by_look_exit x replaced got (Some w) = tt

  by_read_exit : (x : ℕ) (replaced : Bool) (got : List (List ℕ)) (shown : Bool) → NextIsSeized (read_exit o p x replaced got k shown).next
  by_read_exit x replaced got true = by_look_exit x replaced got (o.texts.wants (At_exit k.called x) got)
  by_read_exit x replaced got false = tt

  by_exit : (r : Regs) (x : Option ℕ) → NextIsSeized (exit_with o p r k x).next
  by_exit r None = by_read_exit (a0_of r) false [] (o.shows k.called.number)
  by_exit r (Some x) = tt

  by_entry_regs : (x : Option Regs) → NextIsSeized (at_entry_regs o script p k x).next
  by_entry_regs None = tt
  by_entry_regs (Some r) = by_read_entry r [] (o.shows (a7_of r))

  by_entry_bytes : (r : Regs) (got : List (List ℕ)) (x : Option (List ℕ)) → NextIsSeized (peeked_entry o script p r got k x).next
  by_entry_bytes r got None = tt
  by_entry_bytes r got (Some bytes) = by_read_entry r (got ++ bytes ∷ []) true

  by_entry_set : (n : ℕ) (b : Bool) → NextIsSeized (at_entry_set k n b).next
  by_entry_set n true = tt
  by_entry_set n false = tt

  by_exit_regs : (x : Option Regs) → NextIsSeized (at_exit_regs o p k x).next
  by_exit_regs None = tt
  by_exit_regs (Some r) = by_exit r k.saved

  by_exit_set : (x : ℕ) (b : Bool) → NextIsSeized (at_exit_set o p k x b).next
  by_exit_set x true = by_read_exit x true [] (o.shows k.called.number)
  by_exit_set x false = tt

  by_exit_bytes : (x : ℕ) (replaced : Bool) (got : List (List ℕ)) (y : Option (List ℕ)) → NextIsSeized (peeked_exit o p x replaced got k y).next
  by_exit_bytes x replaced got None = tt
  by_exit_bytes x replaced got (Some bytes) = by_read_exit x replaced (got ++ bytes ∷ []) true

  by_info : (n : ℕ) (x : Option Info) → NextIsSeized (at_info p k n x).next
  by_info n None = tt
  by_info n (Some i) = tt

  by_reply : (place : Awaiting) (r : Reply) → NextIsSeized (hears o script p k place r).next
  by_reply Seizing r = tt
  by_reply Entry_regs r = by_entry_regs (regs_in r)
  by_reply (Entry_peek q got w) r = by_entry_bytes q got (bytes_of r)
  by_reply (Entry_set q n) r = by_entry_set n (says_done r)
  by_reply Exit_regs r = by_exit_regs (regs_in r)
  by_reply (Exit_set q x) r = by_exit_set x (says_done r)
  by_reply (Exit_peek x replaced got w) r = by_exit_bytes x replaced got (bytes_of r)
  by_reply (Signal_info n) r = by_info n (told_info r)
  by_reply (Resuming n) r = tt
  by_reply Listening r = tt

on_focus : (p : ℕ) (x : Option Awaiting) → NextIsSeized x → HasSeized (focus_on p x)
on_focus p None h = tt
on_focus p (Some place) h = h

at_exit_stop : (b : Bool) → IsSeized (exit_place b)
at_exit_stop true = tt
at_exit_stop false = tt

at_stop : (o : Options) (k : Known) (inside : Bool) → IsSeized (first_place o k inside)
at_stop o k true = at_exit_stop (was_read k.standing && (o.shows k.called.number || is_there k.saved))
at_stop o k false = tt

on_status : (o : Options) (known : ℕ → Known) (p : ℕ) (stop : Option Stop) → HasSeized (took_status o known p stop).focus
on_status o known p None = tt
on_status o known p (Some (Syscall_stop good)) = at_stop o (known p) (known p).inside
on_status o known p (Some (Signal_stop signal)) = tt
on_status o known p (Some (Group_stop signal)) = tt
on_status o known p (Some (Event_stop event)) = tt
on_status o known p (Some (Ended word)) = tt

on_errno : (b : Bool) → HasSeized (cond b Asking_outcome Waiting)
on_errno true = tt
on_errno false = tt

module _ (o : Options) (script : Script) where
  at : (known : ℕ → Known) (f : Focus) (r : Reply) → (f ≡ Booting → ⊥) → HasSeized (next_at o script known f r).focus
  at known Booting r b = absurd (b refl)
  at known Waiting (Status_is p status) b = on_status o known p (stop_of status.word)
  at known Waiting (Errno_is n) b = on_errno (n == 10)
  at known Waiting r b = tt
  at known (Serving p place) Out_of_turns b = tt
  at known (Serving p place) r b = on_focus p (hears o script p (known p) place r).next (by_reply o script p (known p) place r)
  at known Asking_outcome (Outcome_is x) b = tt
  at known Asking_outcome r b = tt
  at known (Over x) Out_of_turns b = tt
  at known (Over x) r b = tt
  at known Turns_over Out_of_turns b = tt
  at known Turns_over r b = tt
  at known Faulted Out_of_turns b = tt
  at known Faulted r b = tt

  by_admission : (b : Bool) (t : Tracer) (f : Focus) (r : Reply) (n : Next) → HasSeized n.focus → HasSeized (cond b (takes t f r n) (faults t)).tracer.focus
  by_admission true t f r n h = h
  by_admission false t f r n h = tt

  one : (t : Tracer) (r : Reply) → (t.focus ≡ Booting → ⊥) → HasSeized (next o script t r).tracer.focus
  one t r b = by_admission (admits_at o t.known t.tracees t.focus r) t t.focus r (next_at o script t.known t.focus r) (at t.known t.focus r b)

  not_booting : (f : Focus) → HasSeized f → f ≡ Booting → ⊥
  not_booting f h e = subst (λ g. HasSeized g) e h

  many : (rs : List Reply) (x : Moved) → HasSeized x.tracer.focus → HasSeized (after_all o script x rs).tracer.focus
  many [] x h = h
  many (r ∷ rs) x h = many rs (after o script x r) (one x.tracer r (not_booting x.tracer.focus h))

in_hand_is : (f : Focus) (p : ℕ) → in_hand f ≡ Some p → (place : Awaiting) × (f ≡ Serving p place)
in_hand_is Booting p h = absurd (cc h)
in_hand_is Waiting p h = absurd (cc h)
in_hand_is (Serving q place) p h = (place, ap (λ z. Serving z place) (cc h))
in_hand_is Asking_outcome p h = absurd (cc h)
in_hand_is (Over x) p h = absurd (cc h)
in_hand_is Turns_over p h = absurd (cc h)
in_hand_is Faulted p h = absurd (cc h)

resumes : (place : Awaiting) → LetsGo place → IsSeized place → Resumes place
resumes Seizing l h = absurd h
resumes Entry_regs l h = absurd l
resumes (Entry_peek r got w) l h = absurd l
resumes (Entry_set r n) l h = absurd l
resumes Exit_regs l h = absurd l
resumes (Exit_set r x) l h = absurd l
resumes (Exit_peek x replaced got w) l h = absurd l
resumes (Signal_info n) l h = absurd l
resumes (Resuming n) l h = inl (n, refl)
resumes Listening l h = inr refl

pub each_is_resumed : EachIsResumed
each_is_resumed o script x p status rs f a c w =
    let y : Moved = after o script x (Status_is p status) in
    let hand = in_hand_is y.tracer.focus p (statuses_come_to_hand o script x.tracer p status f a ∙ c) in
    let g = each_is_let_go o script y p hand.0 rs hand.1 w in
    let seized : HasSeized y.tracer.focus = one o script x.tracer (Status_is p status) (λ b. cc (sym f ∙ b)) in
    let still : IsSeized g.place = subst (λ z. HasSeized z) g.asked (many o script g.before y seized) in
    record {
      before = g.before;
      place = g.place;
      reply = g.reply;
      more = g.more;
      split = g.split;
      asked = g.asked;
      how = ⊎_elim (λ (h : LetsGo g.place × (g.reply ≡ Agreed)). inl (resumes g.place h.0 still, h.1)) (λ (e : g.reply ≡ esrch). inr e) g.how;
    }
