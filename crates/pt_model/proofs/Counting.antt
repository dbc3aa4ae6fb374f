-- How many requests a tracer makes from one status to the next.
use Rattle.std.proofs.Common.{◌≡◌, ◌⊎◌, ⊎_elim, ℕ, suc, ◌+◌, ◌-◌, ◌≤◌, ◌<◌, Bool, true, false, cond, not, ◌&&◌, ◌||◌, List, [], ◌∷◌, ◌++◌, Option, Some, None, filter, length, length-append, refl, ap, subst, ◌∙◌, arith}
use Rattle.std.specs.Prelude.{◌==◌}
use Rattle.std.proofs.lemmas.Bool.Decides.{nat_tests}
use Rattle.lx_abi.specs.declared.ptrace.Reply.{Reply}
use Rattle.lx_abi.specs.declared.ptrace.Reply.TheVariants.{Done as Agreed, Status as Status_is, Registers as Registers_are, Bytes as Bytes_are, Message as Message_is, Info as Info_is, Outcome as Outcome_is, Errno as Errno_is, OutOfTurns as Out_of_turns, Refused as Boot_refused}
use Rattle.lx_abi.specs.declared.status.Stop.{Stop}
use Rattle.lx_abi.specs.declared.status.Stop.TheVariants.{Syscall as Syscall_stop, Signal as Signal_stop, Group as Group_stop, Event as Event_stop, Ended}
use Rattle.lx_abi.specs.Status.{stop_of}
use Rattle.lx_model.specs.Machine.{Regs, call_of, a7_of, sp_of}
use Rattle.lx_model.specs.Turn.{result_word}
use Rattle.lx_model.specs.Kernel.{Script}
use Rattle.pt_model.specs.Ptrace.{is_there}
use Rattle.pt_model.specs.Parts.{Half, At_entry, At_exit, Options, Part}
use Rattle.pt_model.specs.Admissible.{was_read, admits_answer}
use Rattle.pt_model.specs.Tracer.{Known, Awaiting, Seizing, Entry_regs, Entry_peek, Entry_set, Exit_regs, Exit_set, Exit_peek, Signal_info, Resuming, Listening, asks, hears, entry_with, look_entry, read_entry, look_exit, read_exit, exit_with, bytes_of, peeked_entry, peeked_exit, Focus, Booting, Waiting, Serving, Asking_outcome, Over, Turns_over, Faulted, Tracer, Moved, focus_on, stays, first_place, exit_place, took_status, admits_stop, is_empty, is_among, with_tracee, tracees_after, told_tracees, takes, faults, next_at, next, new_tracer}
use Rattle.pt_model.specs.View.{most_reads}
use Rattle.pt_model.specs.Headline.{IsTexts}
use Rattle.pt_model.specs.Replies.{one_if_asked, asked_after, asked_since, FewRequests}

abbrev past_most : Awaiting → Type 0
past_most (Entry_peek r got w) = length got < most_reads
past_most (Exit_peek x replaced got w) = length got < most_reads
past_most _ = Unit {0}

-- how many requests may follow the pending one before the next status
abbrev spare_at : Awaiting → ℕ
spare_at Seizing = 1
spare_at Entry_regs = 99
spare_at (Entry_peek r got w) = 98 - length got
spare_at (Entry_set r n) = 2
spare_at Exit_regs = 99
spare_at (Exit_set r x) = 98
spare_at (Exit_peek x replaced got w) = 97 - length got
spare_at (Signal_info n) = 2
spare_at (Resuming n) = 1
spare_at Listening = 1

abbrev spare : List ℕ → Focus → ℕ
spare known Booting = 2
spare known Waiting = cond (is_empty known) 1 0
spare known (Serving p place) = spare_at place
spare _ _ = 0

-- who is in hand is known, but for process 1 while he is seized
abbrev is_seizing : Awaiting → Bool
is_seizing Seizing = true
is_seizing _ = false

abbrev Sound : List ℕ → Focus → Type 0
Sound known Booting = Unit {0}
Sound known Waiting = Unit {0}
Sound known (Serving p place) = past_most place × (is_seizing place ≡ false → is_empty known ≡ false)
Sound known Asking_outcome = Unit {0}
Sound known (Over x) = Unit {0}
Sound known Turns_over = Unit {0}
Sound known Faulted = Unit {0}

lt_or_le : (a b : ℕ) → (a < b) ⊎ (b ≤ a)
lt_or_le a b = grind (arith, nat_tests)

with_some : (known : List ℕ) (p : ℕ) → is_empty (with_tracee known p) ≡ false
with_some [] p = refl
with_some (x ∷ known) p = go (is_among p (x ∷ known))
  where
    go : (b : Bool) → is_empty (cond b (x ∷ known) (x ∷ known ++ p ∷ [])) ≡ false
    go true = refl
    go false = refl

-- what is asked next of the tracee in hand leaves less to ask
record Falls (place : Awaiting) (x : Option Awaiting) : Type 0 where
  each : (next : Awaiting) → x ≡ Some next → past_most next × (spare_at next < spare_at place) × (is_seizing next ≡ false)

none_falls : (place : Awaiting) → Falls place None
none_falls place = record { each = λ next e. absurd (cc e) }

some_falls : (place next : Awaiting) → past_most next → spare_at next < spare_at place → is_seizing next ≡ false → Falls place (Some next)
some_falls place next m l s = record { each = λ y e. subst (λ z. past_most z × (spare_at z < spare_at place) × (is_seizing z ≡ false)) (place_is next y e) (m, l, s) }
  where
    place_is : (a b : Awaiting) → Some a ≡ Some b → a ≡ b
    place_is a b e = cc

module _ (o : Options) (texts : IsTexts o.texts) (script : Script) (p : ℕ) (k : Known) where
  fewer : (half : Half) (got : List (List ℕ)) (w : ℕ × ℕ) → o.texts.wants half got ≡ Some w → length got < most_reads
  fewer half got w e = ⊎_elim (λ (l : length got < most_reads). l) (λ (l : most_reads ≤ length got). absurd (cc (texts.stops half got l, e))) (lt_or_le (length got) most_reads)

  entry_with_falls : (place : Awaiting) → 2 < spare_at place → (r : Regs) (got : List (List ℕ)) (signal : ℕ) (x : Option ℕ) → Falls place (entry_with o p r got k signal x).next
  entry_with_falls place l r got signal None = some_falls place (Resuming signal) tt (omega (arith, l)) refl
  entry_with_falls place l r got signal (Some x) = some_falls place (Entry_set _ signal) tt l refl

  look_entry_falls : (place : Awaiting) → 2 < spare_at place → (r : Regs) (got : List (List ℕ)) → (length got < most_reads → 98 - length got < spare_at place) → (w : Option (ℕ × ℕ)) → o.texts.wants (At_entry (call_of r) (sp_of r)) got ≡ w → Falls place (look_entry o script p r got k w).next
  look_entry_falls place l r got less None e = entry_with_falls place l r got _ (result_word (script (a7_of r) (k.counts (a7_of r) + 1)))
  look_entry_falls place l r got less (Some w) e = some_falls place (Entry_peek r got w) (fewer _ got w e) (less (fewer _ got w e)) refl

  read_entry_falls : (place : Awaiting) → 2 < spare_at place → (r : Regs) (got : List (List ℕ)) → (length got < most_reads → 98 - length got < spare_at place) → (shown : Bool) → Falls place (read_entry o script p r got k shown).next
  read_entry_falls place l r got less true = look_entry_falls place l r got less (o.texts.wants (At_entry (call_of r) (sp_of r)) got) refl
  read_entry_falls place l r got less false = entry_with_falls place l r [] _ (result_word (script (a7_of r) (k.counts (a7_of r) + 1)))

  look_exit_falls : (place : Awaiting) → 1 < spare_at place → (x : ℕ) (replaced : Bool) (got : List (List ℕ)) → (length got < most_reads → 97 - length got < spare_at place) → (w : Option (ℕ × ℕ)) → o.texts.wants (At_exit k.called x) got ≡ w → Falls place (look_exit o p x replaced got k w).next
  look_exit_falls place l x replaced got less None e = some_falls place (Resuming 0) tt l refl
  look_exit_falls place l x replaced got less (Some w) e = some_falls place (Exit_peek x replaced got w) (fewer _ got w e) (less (fewer _ got w e)) refl

  read_exit_falls : (place : Awaiting) → 1 < spare_at place → (x : ℕ) (replaced : Bool) (got : List (List ℕ)) → (length got < most_reads → 97 - length got < spare_at place) → (shown : Bool) → Falls place (read_exit o p x replaced got k shown).next
  read_exit_falls place l x replaced got less true = look_exit_falls place l x replaced got less (o.texts.wants (At_exit k.called x) got) refl
  read_exit_falls place l x replaced got less false = some_falls place (Resuming 0) tt l refl

  exit_with_falls : (r : Regs) (x : Option ℕ) → Falls Exit_regs (exit_with o p r k x).next
  exit_with_falls r None = read_exit_falls Exit_regs (omega arith) _ false [] (λ l. omega arith) (o.shows k.called.number)
  exit_with_falls r (Some x) = some_falls Exit_regs (Exit_set _ x) tt (omega arith) refl

  entry_read : (r : Regs) (got : List (List ℕ)) (w : ℕ × ℕ) → length got < most_reads → (x : Option (List ℕ)) → Falls (Entry_peek r got w) (peeked_entry o script p r got k x).next
  entry_read r got w m None = none_falls (Entry_peek r got w)
  entry_read r got w m (Some bytes) = read_entry_falls (Entry_peek r got w) (omega (arith, m)) r (got ++ bytes ∷ []) (λ l. omega (arith, m, length-append got (bytes ∷ []))) true

  exit_read : (x : ℕ) (replaced : Bool) (got : List (List ℕ)) (w : ℕ × ℕ) → length got < most_reads → (y : Option (List ℕ)) → Falls (Exit_peek x replaced got w) (peeked_exit o p x replaced got k y).next
  exit_read x replaced got w m None = none_falls (Exit_peek x replaced got w)
  exit_read x replaced got w m (Some bytes) = read_exit_falls (Exit_peek x replaced got w) (omega (arith, m)) x replaced (got ++ bytes ∷ []) (λ l. omega (arith, m, length-append got (bytes ∷ []))) true

  falls : (place : Awaiting) (r : Reply) → past_most place → Falls place (hears o script p k place r).next
  falls Seizing Agreed m = none_falls Seizing
  falls Seizing (Status_is v z) m = none_falls Seizing
  falls Seizing (Registers_are v) m = none_falls Seizing
  falls Seizing (Bytes_are v) m = none_falls Seizing
  falls Seizing (Message_is v) m = none_falls Seizing
  falls Seizing (Info_is v) m = none_falls Seizing
  falls Seizing (Outcome_is v) m = none_falls Seizing
  falls Seizing (Errno_is n) m = none_falls Seizing
  falls Seizing Out_of_turns m = none_falls Seizing
  falls Seizing (Boot_refused v) m = none_falls Seizing
  falls Entry_regs Agreed m = none_falls Entry_regs
  falls Entry_regs (Status_is v z) m = none_falls Entry_regs
  falls Entry_regs (Registers_are v) m = read_entry_falls Entry_regs (omega arith) v [] (λ l. omega arith) (o.shows (a7_of v))
  falls Entry_regs (Bytes_are v) m = none_falls Entry_regs
  falls Entry_regs (Message_is v) m = none_falls Entry_regs
  falls Entry_regs (Info_is v) m = none_falls Entry_regs
  falls Entry_regs (Outcome_is v) m = none_falls Entry_regs
  falls Entry_regs (Errno_is n) m = none_falls Entry_regs
  falls Entry_regs Out_of_turns m = none_falls Entry_regs
  falls Entry_regs (Boot_refused v) m = none_falls Entry_regs
  falls (Entry_peek r got w) reply m = entry_read r got w m (bytes_of reply)
  falls (Entry_set r n) Agreed m = some_falls (Entry_set r n) (Resuming n) tt (omega arith) refl
  falls (Entry_set r n) (Status_is v z) m = none_falls (Entry_set r n)
  falls (Entry_set r n) (Registers_are v) m = none_falls (Entry_set r n)
  falls (Entry_set r n) (Bytes_are v) m = none_falls (Entry_set r n)
  falls (Entry_set r n) (Message_is v) m = none_falls (Entry_set r n)
  falls (Entry_set r n) (Info_is v) m = none_falls (Entry_set r n)
  falls (Entry_set r n) (Outcome_is v) m = none_falls (Entry_set r n)
  falls (Entry_set r n) (Errno_is y) m = none_falls (Entry_set r n)
  falls (Entry_set r n) Out_of_turns m = none_falls (Entry_set r n)
  falls (Entry_set r n) (Boot_refused v) m = none_falls (Entry_set r n)
  falls Exit_regs Agreed m = none_falls Exit_regs
  falls Exit_regs (Status_is v z) m = none_falls Exit_regs
  falls Exit_regs (Registers_are v) m = exit_with_falls v k.saved
  falls Exit_regs (Bytes_are v) m = none_falls Exit_regs
  falls Exit_regs (Message_is v) m = none_falls Exit_regs
  falls Exit_regs (Info_is v) m = none_falls Exit_regs
  falls Exit_regs (Outcome_is v) m = none_falls Exit_regs
  falls Exit_regs (Errno_is y) m = none_falls Exit_regs
  falls Exit_regs Out_of_turns m = none_falls Exit_regs
  falls Exit_regs (Boot_refused v) m = none_falls Exit_regs
  falls (Exit_set r x) Agreed m = read_exit_falls (Exit_set r x) (omega arith) x true [] (λ l. omega arith) (o.shows k.called.number)
  falls (Exit_set r x) (Status_is v z) m = none_falls (Exit_set r x)
  falls (Exit_set r x) (Registers_are v) m = none_falls (Exit_set r x)
  falls (Exit_set r x) (Bytes_are v) m = none_falls (Exit_set r x)
  falls (Exit_set r x) (Message_is v) m = none_falls (Exit_set r x)
  falls (Exit_set r x) (Info_is v) m = none_falls (Exit_set r x)
  falls (Exit_set r x) (Outcome_is v) m = none_falls (Exit_set r x)
  falls (Exit_set r x) (Errno_is y) m = none_falls (Exit_set r x)
  falls (Exit_set r x) Out_of_turns m = none_falls (Exit_set r x)
  falls (Exit_set r x) (Boot_refused v) m = none_falls (Exit_set r x)
  falls (Exit_peek x replaced got w) reply m = exit_read x replaced got w m (bytes_of reply)
  falls (Signal_info n) Agreed m = none_falls (Signal_info n)
  falls (Signal_info n) (Status_is v z) m = none_falls (Signal_info n)
  falls (Signal_info n) (Registers_are v) m = none_falls (Signal_info n)
  falls (Signal_info n) (Bytes_are v) m = none_falls (Signal_info n)
  falls (Signal_info n) (Message_is v) m = none_falls (Signal_info n)
  falls (Signal_info n) (Info_is v) m = some_falls (Signal_info n) (Resuming n) tt (omega arith) refl
  falls (Signal_info n) (Outcome_is v) m = none_falls (Signal_info n)
  falls (Signal_info n) (Errno_is y) m = none_falls (Signal_info n)
  falls (Signal_info n) Out_of_turns m = none_falls (Signal_info n)
  falls (Signal_info n) (Boot_refused v) m = none_falls (Signal_info n)
  falls (Resuming n) Agreed m = none_falls (Resuming n)
  falls (Resuming n) (Status_is v z) m = none_falls (Resuming n)
  falls (Resuming n) (Registers_are v) m = none_falls (Resuming n)
  falls (Resuming n) (Bytes_are v) m = none_falls (Resuming n)
  falls (Resuming n) (Message_is v) m = none_falls (Resuming n)
  falls (Resuming n) (Info_is v) m = none_falls (Resuming n)
  falls (Resuming n) (Outcome_is v) m = none_falls (Resuming n)
  falls (Resuming n) (Errno_is y) m = none_falls (Resuming n)
  falls (Resuming n) Out_of_turns m = none_falls (Resuming n)
  falls (Resuming n) (Boot_refused v) m = none_falls (Resuming n)
  falls Listening Agreed m = none_falls Listening
  falls Listening (Status_is v z) m = none_falls Listening
  falls Listening (Registers_are v) m = none_falls Listening
  falls Listening (Bytes_are v) m = none_falls Listening
  falls Listening (Message_is v) m = none_falls Listening
  falls Listening (Info_is v) m = none_falls Listening
  falls Listening (Outcome_is v) m = none_falls Listening
  falls Listening (Errno_is y) m = none_falls Listening
  falls Listening Out_of_turns m = none_falls Listening
  falls Listening (Boot_refused v) m = none_falls Listening

-- so many requests so far, and so many that may follow
record Few (o : Options) (t : Tracer) (asked : ℕ) : Type 0 where
  bounded : asked + spare t.tracees t.focus ≤ 100
  sound : Sound t.tracees t.focus

positive : (place : Awaiting) → past_most place → 1 ≤ spare_at place
positive Seizing m = omega arith
positive Entry_regs m = omega arith
positive (Entry_peek r got w) m = omega (arith, m)
positive (Entry_set r n) m = omega arith
positive Exit_regs m = omega arith
positive (Exit_set r x) m = omega arith
positive (Exit_peek x replaced got w) m = omega (arith, m)
positive (Signal_info n) m = omega arith
positive (Resuming n) m = omega arith
positive Listening m = omega arith

abbrev count : Options → Bool → Tracer → ℕ → ℕ
count o told t asked = cond told (one_if_asked o t) (asked + one_if_asked o t)

fault_few : (o : Options) (t : Tracer) (asked more : ℕ) → asked + more ≤ 100 → Few o (faults t).tracer (asked + 0)
fault_few o t asked more l = record { bounded = omega (arith, l); sound = tt }

first_fits : (o : Options) (k : Known) (inside : Bool) → past_most (first_place o k inside) × (1 + spare_at (first_place o k inside) ≤ 100) × (is_seizing (first_place o k inside) ≡ false)
first_fits o k false = (tt, omega arith, refl)
first_fits o k true = go (was_read k.standing && (o.shows k.called.number || is_there k.saved))
  where
    go : (b : Bool) → past_most (exit_place b) × (1 + spare_at (exit_place b) ≤ 100) × (is_seizing (exit_place b) ≡ false)
    go true = (tt, omega arith, refl)
    go false = (tt, omega arith, refl)

module _ (o : Options) (texts : IsTexts o.texts) (script : Script) (known : ℕ → Known) (tracees : List ℕ) (taken asked : ℕ) where
  abbrev now : Focus → Tracer
  now focus = record { known = known; tracees = tracees; focus = focus; taken = taken }

  -- a status

  abbrev read_status : ℕ → Option Stop → Moved
  read_status p x = record { tracer = record { known = (took_status o known p x).known; tracees = told_tracees tracees p x; focus = (took_status o known p x).focus; taken = suc taken }; printed = (took_status o known p x).printed }

  abbrev Told : ℕ → Option Stop → Bool → Type 0
  Told p x b = Few o (cond b (read_status p x) (faults (now Waiting))).tracer (count o (b && true) (cond b (read_status p x) (faults (now Waiting))).tracer asked)

  status_few : (more : ℕ) → asked + more ≤ 100 → (p : ℕ) (x : Option Stop) (b : Bool) → (x ≡ None → b ≡ false) → Told p x b
  status_few more l p x false h = fault_few o (now Waiting) asked more l
  status_few more l p None true h = absurd (cc (h refl))
  status_few more l p (Some (Syscall_stop good)) true h =
      let f : past_most (first_place o (known p) (known p).inside) × (1 + spare_at (first_place o (known p) (known p).inside) ≤ 100) × (is_seizing (first_place o (known p) (known p).inside) ≡ false) = first_fits o (known p) (known p).inside in
      record { bounded = f.1; sound = (f.0, λ s. with_some tracees p) }
  status_few more l p (Some (Signal_stop n)) true h = record { bounded = omega arith; sound = (tt, λ s. with_some tracees p) }
  status_few more l p (Some (Group_stop n)) true h = record { bounded = omega arith; sound = (tt, λ s. with_some tracees p) }
  status_few more l p (Some (Event_stop n)) true h = record { bounded = omega arith; sound = (tt, λ s. with_some tracees p) }
  status_few more l p (Some (Ended w)) true h = record { bounded = at_most_two (is_empty (filter (λ q. not (p == q)) tracees)); sound = tt }
    where
      at_most_two : (b : Bool) → 1 + cond b 1 0 ≤ 100
      at_most_two true = omega arith
      at_most_two false = omega arith

  no_stop : (p : ℕ) (x : Option Stop) → x ≡ None → admits_stop o p (known p) x ≡ false
  no_stop p None h = refl
  no_stop p (Some s) h = absurd (cc h)

  -- ECHILD
  child_few : (n : ℕ) (ten none : Bool) → asked + cond none 1 0 ≤ 100 → Few o (cond (ten && none) (takes (now Waiting) Waiting (Errno_is n) (stays known (cond ten Asking_outcome Waiting))) (faults (now Waiting))).tracer (count o ((ten && none) && false) (cond (ten && none) (takes (now Waiting) Waiting (Errno_is n) (stays known (cond ten Asking_outcome Waiting))) (faults (now Waiting))).tracer asked)
  child_few n true true l = record { bounded = omega (arith, l); sound = tt }
  child_few n true false l = fault_few o (now Waiting) asked 0 l
  child_few n false none l = fault_few o (now Waiting) asked (cond none 1 0) l

  -- the tracee in hand
  hand_few : (p : ℕ) (place : Awaiting) (r : Reply) → asked + spare_at place ≤ 100 → past_most place → (after : List ℕ) → is_empty after ≡ false → (x : Option Awaiting) → Falls place x → (printed : List Part) (k : ℕ → Known) → Few o (record { known = k; tracees = after; focus = focus_on p x; taken = suc taken }) (asked + one_if_asked o (record { known = k; tracees = after; focus = focus_on p x; taken = suc taken }))
  hand_few p place r l m after some None f printed k = record { bounded = rw some (omega (arith, l, positive place m)); sound = tt }
  hand_few p place r l m after some (Some next) f printed k =
      let g : past_most next × (spare_at next < spare_at place) × (is_seizing next ≡ false) = f.each next refl in
      record { bounded = omega (arith, l, g.1); sound = (g.0, λ s. some) }

  abbrev Served : ℕ → Awaiting → Reply → Bool → Type 0
  Served p place r b = Few o (cond b (takes (now (Serving p place)) (Serving p place) r (next_at o script known (Serving p place) r)) (faults (now (Serving p place)))).tracer (count o (b && false) (cond b (takes (now (Serving p place)) (Serving p place) r (next_at o script known (Serving p place) r)) (faults (now (Serving p place)))).tracer asked)

  kept : (p : ℕ) (place : Awaiting) (r : Reply) → is_seizing place ≡ false → tracees_after tracees (Serving p place) r ≡ tracees
  kept p Seizing r h = absurd (cc h)
  kept p Entry_regs r h = refl
  kept p (Entry_peek a b c) r h = refl
  kept p (Entry_set a b) r h = refl
  kept p Exit_regs r h = refl
  kept p (Exit_set a b) r h = refl
  kept p (Exit_peek a b c d) r h = refl
  kept p (Signal_info a) r h = refl
  kept p (Resuming a) r h = refl
  kept p Listening r h = refl

  known_still : (p : ℕ) (place : Awaiting) (r : Reply) → admits_answer (asks o place) r ≡ true → (r ≡ Out_of_turns → ⊥) → (seizing : Bool) → is_seizing place ≡ seizing → (seizing ≡ false → is_empty tracees ≡ false) → is_empty (tracees_after tracees (Serving p place) r) ≡ false
  known_still p place r a t false e h = ap is_empty (kept p place r e) ∙ h refl
  known_still p place r a t true e h = by_seizing place e r a t
    where
      by_seizing : (place : Awaiting) → is_seizing place ≡ true → (r : Reply) → admits_answer (asks o place) r ≡ true → (r ≡ Out_of_turns → ⊥) → is_empty (tracees_after tracees (Serving p place) r) ≡ false
      by_seizing Seizing e Agreed a t = with_some tracees p
      by_seizing Seizing e Out_of_turns a t = absurd (t refl)
      by_seizing Seizing e (Status_is v z) a t = absurd (cc a)
      by_seizing Seizing e (Registers_are v) a t = absurd (cc a)
      by_seizing Seizing e (Bytes_are v) a t = absurd (cc a)
      by_seizing Seizing e (Message_is v) a t = absurd (cc a)
      by_seizing Seizing e (Info_is v) a t = absurd (cc a)
      by_seizing Seizing e (Outcome_is v) a t = absurd (cc a)
      by_seizing Seizing e (Errno_is v) a t = absurd (cc a)
      by_seizing Seizing e (Boot_refused v) a t = absurd (cc a)
      by_seizing _ e r a t = absurd (cc e)

  hand_step : (p : ℕ) (place : Awaiting) → asked + spare_at place ≤ 100 → Sound tracees (Serving p place) → (r : Reply) (b : Bool) → admits_answer (asks o place) r ≡ b → Served p place r b
  hand_step p place l h r false a = fault_few o (now (Serving p place)) asked (spare_at place) l
  hand_step p place l h Agreed true a = hand_few p place Agreed l h.0 (tracees_after tracees (Serving p place) Agreed) (known_still p place Agreed a (λ e. cc e) (is_seizing place) refl h.1) (hears o script p (known p) place Agreed).next (falls o texts script p (known p) place Agreed h.0) [] _
  hand_step p place l h (Status_is v z) true a = hand_few p place (Status_is v z) l h.0 (tracees_after tracees (Serving p place) (Status_is v z)) (known_still p place (Status_is v z) a (λ e. cc e) (is_seizing place) refl h.1) (hears o script p (known p) place (Status_is v z)).next (falls o texts script p (known p) place (Status_is v z) h.0) [] _
  hand_step p place l h (Registers_are v) true a = hand_few p place (Registers_are v) l h.0 (tracees_after tracees (Serving p place) (Registers_are v)) (known_still p place (Registers_are v) a (λ e. cc e) (is_seizing place) refl h.1) (hears o script p (known p) place (Registers_are v)).next (falls o texts script p (known p) place (Registers_are v) h.0) [] _
  hand_step p place l h (Bytes_are v) true a = hand_few p place (Bytes_are v) l h.0 (tracees_after tracees (Serving p place) (Bytes_are v)) (known_still p place (Bytes_are v) a (λ e. cc e) (is_seizing place) refl h.1) (hears o script p (known p) place (Bytes_are v)).next (falls o texts script p (known p) place (Bytes_are v) h.0) [] _
  hand_step p place l h (Message_is v) true a = hand_few p place (Message_is v) l h.0 (tracees_after tracees (Serving p place) (Message_is v)) (known_still p place (Message_is v) a (λ e. cc e) (is_seizing place) refl h.1) (hears o script p (known p) place (Message_is v)).next (falls o texts script p (known p) place (Message_is v) h.0) [] _
  hand_step p place l h (Info_is v) true a = hand_few p place (Info_is v) l h.0 (tracees_after tracees (Serving p place) (Info_is v)) (known_still p place (Info_is v) a (λ e. cc e) (is_seizing place) refl h.1) (hears o script p (known p) place (Info_is v)).next (falls o texts script p (known p) place (Info_is v) h.0) [] _
  hand_step p place l h (Outcome_is v) true a = hand_few p place (Outcome_is v) l h.0 (tracees_after tracees (Serving p place) (Outcome_is v)) (known_still p place (Outcome_is v) a (λ e. cc e) (is_seizing place) refl h.1) (hears o script p (known p) place (Outcome_is v)).next (falls o texts script p (known p) place (Outcome_is v) h.0) [] _
  hand_step p place l h (Errno_is y) true a = hand_few p place (Errno_is y) l h.0 (tracees_after tracees (Serving p place) (Errno_is y)) (known_still p place (Errno_is y) a (λ e. cc e) (is_seizing place) refl h.1) (hears o script p (known p) place (Errno_is y)).next (falls o texts script p (known p) place (Errno_is y) h.0) [] _
  hand_step p place l h Out_of_turns true a = record { bounded = omega (arith, l); sound = tt }
  hand_step p place l h (Boot_refused v) true a = hand_few p place (Boot_refused v) l h.0 (tracees_after tracees (Serving p place) (Boot_refused v)) (known_still p place (Boot_refused v) a (λ e. cc e) (is_seizing place) refl h.1) (hears o script p (known p) place (Boot_refused v)).next (falls o texts script p (known p) place (Boot_refused v) h.0) [] _

  step : (focus : Focus) → asked + spare tracees focus ≤ 100 → Sound tracees focus → (r : Reply) → Few o (next o script (now focus) r).tracer (asked_after o script (now focus) asked r)
  step Booting l h Agreed = record { bounded = omega (arith, l); sound = (tt, λ s. absurd (cc s)) }
  step Booting l h (Status_is v z) = fault_few o (now Booting) asked 2 l
  step Booting l h (Registers_are v) = fault_few o (now Booting) asked 2 l
  step Booting l h (Bytes_are v) = fault_few o (now Booting) asked 2 l
  step Booting l h (Message_is v) = fault_few o (now Booting) asked 2 l
  step Booting l h (Info_is v) = fault_few o (now Booting) asked 2 l
  step Booting l h (Outcome_is v) = fault_few o (now Booting) asked 2 l
  step Booting l h (Errno_is y) = fault_few o (now Booting) asked 2 l
  step Booting l h Out_of_turns = fault_few o (now Booting) asked 2 l
  step Booting l h (Boot_refused v) = fault_few o (now Booting) asked 2 l
  step Waiting l h Agreed = fault_few o (now Waiting) asked (spare tracees Waiting) l
  step Waiting l h (Status_is v z) = status_few (spare tracees Waiting) l v (stop_of z.word) (admits_stop o v (known v) (stop_of z.word)) (no_stop v (stop_of z.word))
  step Waiting l h (Registers_are v) = fault_few o (now Waiting) asked (spare tracees Waiting) l
  step Waiting l h (Bytes_are v) = fault_few o (now Waiting) asked (spare tracees Waiting) l
  step Waiting l h (Message_is v) = fault_few o (now Waiting) asked (spare tracees Waiting) l
  step Waiting l h (Info_is v) = fault_few o (now Waiting) asked (spare tracees Waiting) l
  step Waiting l h (Outcome_is v) = fault_few o (now Waiting) asked (spare tracees Waiting) l
  step Waiting l h (Errno_is y) = child_few y (y == 10) (is_empty tracees) l
  step Waiting l h Out_of_turns = record { bounded = omega (arith, l); sound = tt }
  step Waiting l h (Boot_refused v) = fault_few o (now Waiting) asked (spare tracees Waiting) l
  step (Serving p place) l h Agreed = hand_step p place l h Agreed (admits_answer (asks o place) Agreed) refl
  step (Serving p place) l h (Status_is v z) = hand_step p place l h (Status_is v z) (admits_answer (asks o place) (Status_is v z)) refl
  step (Serving p place) l h (Registers_are v) = hand_step p place l h (Registers_are v) (admits_answer (asks o place) (Registers_are v)) refl
  step (Serving p place) l h (Bytes_are v) = hand_step p place l h (Bytes_are v) (admits_answer (asks o place) (Bytes_are v)) refl
  step (Serving p place) l h (Message_is v) = hand_step p place l h (Message_is v) (admits_answer (asks o place) (Message_is v)) refl
  step (Serving p place) l h (Info_is v) = hand_step p place l h (Info_is v) (admits_answer (asks o place) (Info_is v)) refl
  step (Serving p place) l h (Outcome_is v) = hand_step p place l h (Outcome_is v) (admits_answer (asks o place) (Outcome_is v)) refl
  step (Serving p place) l h (Errno_is y) = hand_step p place l h (Errno_is y) (admits_answer (asks o place) (Errno_is y)) refl
  step (Serving p place) l h Out_of_turns = hand_step p place l h Out_of_turns (admits_answer (asks o place) Out_of_turns) refl
  step (Serving p place) l h (Boot_refused v) = hand_step p place l h (Boot_refused v) (admits_answer (asks o place) (Boot_refused v)) refl
  step Asking_outcome l h Agreed = fault_few o (now Asking_outcome) asked 0 l
  step Asking_outcome l h (Status_is v z) = fault_few o (now Asking_outcome) asked 0 l
  step Asking_outcome l h (Registers_are v) = fault_few o (now Asking_outcome) asked 0 l
  step Asking_outcome l h (Bytes_are v) = fault_few o (now Asking_outcome) asked 0 l
  step Asking_outcome l h (Message_is v) = fault_few o (now Asking_outcome) asked 0 l
  step Asking_outcome l h (Info_is v) = fault_few o (now Asking_outcome) asked 0 l
  step Asking_outcome l h (Outcome_is v) = record { bounded = omega (arith, l); sound = tt }
  step Asking_outcome l h (Errno_is y) = fault_few o (now Asking_outcome) asked 0 l
  step Asking_outcome l h Out_of_turns = record { bounded = omega (arith, l); sound = tt }
  step Asking_outcome l h (Boot_refused v) = fault_few o (now Asking_outcome) asked 0 l
  step (Over x) l h r = fault_few o (now (Over x)) asked 0 l
  step Turns_over l h r = fault_few o (now Turns_over) asked 0 l
  step Faulted l h r = fault_few o (now Faulted) asked 0 l

few_all : (o : Options) → IsTexts o.texts → (script : Script) (t : Tracer) (asked : ℕ) (rs : List Reply) → Few o t asked → (end : Tracer) × Few o end (asked_since o script t asked rs)
few_all o texts script t asked [] h = (t, h)
few_all o texts script t asked (r ∷ rs) h = few_all o texts script (next o script t r).tracer (asked_after o script t asked r) rs (step o texts script t.known t.tracees t.taken asked t.focus h.bounded h.sound r)

pub few_requests : FewRequests
few_requests o texts script rs =
    let e : (end : Tracer) × Few o end (asked_since o script new_tracer 0 rs) = few_all o texts script new_tracer 0 rs (record { bounded = omega arith; sound = tt }) in
    omega (arith, e.1.bounded)
