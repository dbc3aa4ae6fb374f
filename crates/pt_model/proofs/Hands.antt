-- Who comes to the tracer's hand, and is let go.
use Rattle.std.proofs.Common.{◌≡◌, ◌⊎◌, inl, inr, ⊎_elim, ℕ, Bool, true, false, cond, List, [], ◌∷◌, Option, Some, None, refl, sym, ap, ◌∙◌}
use Rattle.lx_abi.specs.declared.ptrace.Reply.{Reply}
use Rattle.lx_abi.specs.declared.ptrace.Reply.TheVariants.{Done as Agreed, Status as Status_is, Registers as Registers_are, Bytes as Bytes_are, Message as Message_is, Info as Info_is, Outcome as Outcome_is, Errno as Errno_is, OutOfTurns as Out_of_turns, Refused as Boot_refused}
use Rattle.lx_abi.specs.declared.status.Stop.{Stop}
use Rattle.lx_abi.specs.declared.status.Stop.TheVariants.{Syscall as Syscall_stop, Signal as Signal_stop, Group as Group_stop, Event as Event_stop, Ended}
use Rattle.lx_abi.specs.Status.{stop_of}
use Rattle.lx_model.specs.Kernel.{Script}
use Rattle.pt_model.specs.Parts.{Options}
use Rattle.pt_model.specs.Tracer.{Known, Awaiting, Waiting, Serving, Turns_over, focus_on, took_status, admits_at, takes, faults, next_at, next_from, next, Moved}
use Rattle.pt_model.specs.Replies.{after, after_all, admits, in_hand, comes_to_hand, StatusesComeToHand, TheHandStays, UnreadCallsHaveNoExit, LetGo, EachIsLetGo}
use Rattle.pt_model.proofs.Asking.{nobody_is_left_held}
use Rattle.pt_model.proofs.Composition.{Stuck, stays_stuck, first_fault}

pub statuses_come_to_hand : StatusesComeToHand
statuses_come_to_hand o script t p status f a = rw (a, f) (go (stop_of status.word))
  where
    go : (x : Option Stop) → in_hand (took_status o t.known p x).focus ≡ comes_to_hand p x
    go None = refl
    go (Some (Syscall_stop good)) = refl
    go (Some (Signal_stop signal)) = refl
    go (Some (Group_stop signal)) = refl
    go (Some (Event_stop event)) = refl
    go (Some (Ended word)) = refl

pub unread_calls_have_no_exit : UnreadCallsHaveNoExit
unread_calls_have_no_exit o script t p status good f s i u a = rw (a, f, s, i, u) (refl, refl)

-- after a reply to a request of p, p is in hand or nobody
serving_leads : (o : Options) (script : Script) (known : ℕ → Known) (p : ℕ) (place : Awaiting) (r : Reply) → ((x : Option Awaiting) × ((next_at o script known (Serving p place) r).focus ≡ focus_on p x)) ⊎ ((next_at o script known (Serving p place) r).focus ≡ Turns_over)
serving_leads o script known p place Agreed = inl (_, refl)
serving_leads o script known p place (Status_is v z) = inl (_, refl)
serving_leads o script known p place (Registers_are v) = inl (_, refl)
serving_leads o script known p place (Bytes_are v) = inl (_, refl)
serving_leads o script known p place (Message_is v) = inl (_, refl)
serving_leads o script known p place (Info_is v) = inl (_, refl)
serving_leads o script known p place (Outcome_is v) = inl (_, refl)
serving_leads o script known p place (Errno_is v) = inl (_, refl)
serving_leads o script known p place Out_of_turns = inr refl
serving_leads o script known p place (Boot_refused v) = inl (_, refl)

focused_hand : (p q : ℕ) (x : Option Awaiting) → in_hand (focus_on p x) ≡ Some q → q ≡ p
focused_hand p q None h = absurd (cc h)
focused_hand p q (Some place) h = cc h

pub the_hand_stays : TheHandStays
the_hand_stays o script t p q place r f h = go (admits_at o t.known t.tracees (Serving p place) r) (ap (λ x. in_hand (next_from o script t x r).tracer.focus) (sym f) ∙ h)
  where
    go : (b : Bool) → in_hand (cond b (takes t (Serving p place) r (next_at o script t.known (Serving p place) r)) (faults t)).tracer.focus ≡ Some q → q ≡ p
    go false g = absurd (cc g)
    go true g = ⊎_elim
        (λ (e : (x : Option Awaiting) × ((next_at o script t.known (Serving p place) r).focus ≡ focus_on p x)). focused_hand p q e.0 (ap in_hand (sym e.1) ∙ g))
        (λ (e : (next_at o script t.known (Serving p place) r).focus ≡ Turns_over). absurd (cc (e, g)))
        (serving_leads o script t.known p place r)

never_waits : (o : Options) (script : Script) (x : Moved) (rs : List Reply) → x.tracer.focus ≡ Turns_over → (after_all o script x rs).tracer.focus ≡ Waiting → ⊥
never_waits o script x [] f w = cc (f, w)
never_waits o script x (r ∷ rs) f w =
    let s : Stuck x (after_all o script (after o script x r) rs) = stays_stuck o script x (after o script x r) rs (first_fault o script x r (ap (λ z. admits_at o x.tracer.known x.tracer.tracees z r) f)) in
    cc (s.focus, w)

one_more : (o : Options) (script : Script) (x : Moved) (p : ℕ) (r : Reply) (rs : List Reply) → LetGo o script (after o script x r) p rs → LetGo o script x p (r ∷ rs)
one_more o script x p r rs g = record { before = r ∷ g.before; place = g.place; reply = g.reply; more = g.more; split = ap (λ l. r ∷ l) g.split; asked = g.asked; how = g.how }

pub each_is_let_go : EachIsLetGo
each_is_let_go o script x p place [] f w = absurd (cc (f, w))
each_is_let_go o script x p place (r ∷ rs) f w = go (admits o x.tracer r) refl (λ place2 g. each_is_let_go o script (after o script x r) p place2 rs g w)
  where
    led : admits o x.tracer r ≡ true → ((place2 : Awaiting) → (next o script x.tracer r).tracer.focus ≡ Serving p place2 → LetGo o script (after o script x r) p rs) → (y : Option Awaiting) → (next o script x.tracer r).tracer.focus ≡ focus_on p y → LetGo o script x p (r ∷ rs)
    led e again None g = record { before = []; place = place; reply = r; more = rs; split = refl; asked = f; how = nobody_is_left_held o script x.tracer p place r f e g }
    led e again (Some place2) g = one_more o script x p r rs (again place2 g)

    go : (b : Bool) → admits o x.tracer r ≡ b → ((place2 : Awaiting) → (next o script x.tracer r).tracer.focus ≡ Serving p place2 → LetGo o script (after o script x r) p rs) → LetGo o script x p (r ∷ rs)
    go false e again =
        let s : Stuck x (after_all o script (after o script x r) rs) = stays_stuck o script x (after o script x r) rs (first_fault o script x r e) in
        absurd (cc (s.focus, w))
    go true e again =
        let came : (next o script x.tracer r).tracer.focus ≡ (next_at o script x.tracer.known (Serving p place) r).focus = rw e (ap (λ y. (next_at o script x.tracer.known y r).focus) f) in
        ⊎_elim
        (λ (h : (y : Option Awaiting) × ((next_at o script x.tracer.known (Serving p place) r).focus ≡ focus_on p y)). led e again h.0 (came ∙ h.1))
        (λ (h : (next_at o script x.tracer.known (Serving p place) r).focus ≡ Turns_over). absurd (never_waits o script (after o script x r) rs (came ∙ h) w))
        (serving_leads o script x.tracer.known p place r)
