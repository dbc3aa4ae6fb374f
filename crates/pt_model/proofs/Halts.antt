-- Group stops: a stopped process stays so, and what a tracer admits of it.
use Rattle.std.proofs.Common.{◌≡◌, ◌⊎◌, inl, inr, ℕ, Bool, true, false, List, [], ◌++◌, Some, None, refl, sym, ap, ap₂, subst, ◌∙◌, append-nil}
use Rattle.std.specs.Prelude.{◌&&◌}
use Rattle.lx_abi.specs.declared.signal.Signal.{Signal}
use Rattle.lx_abi.specs.declared.status.EventStop.TheVariants.{Fork as At_fork, Exec as At_exec, Stop as At_start}
use Rattle.lx_abi.specs.declared.status.Stop.{Stop}
use Rattle.lx_abi.specs.declared.status.Stop.TheVariants.{Syscall as Syscall_stop, Signal as Signal_stop, Group as Group_stop, Event as Event_stop, Ended}
use Rattle.lx_model.specs.Turn.{kill_word}
use Rattle.lx_model.specs.declared.stage.Stage.TheVariants.{Stopped}
use Rattle.lx_model.specs.declared.stage.Task.TheVariants.{Alive}
use Rattle.lx_model.specs.Kernel.{put, traces}
use Rattle.pt_model.specs.Ptrace.{Proc, Report, Host, is_there}
use Rattle.pt_model.specs.Admissible.{Standing, Unmet, Between, After_signal, Halted, Unread, Read, After_event, At_end, stop_fits}
use Rattle.pt_model.specs.Laws.{WhoListensStays, AStopComesOfItsSignal, AStopEndsFirst}
use Rattle.pt_model.proofs.Maps.{equal_if}
use Rattle.pt_model.proofs.Hosts.{put_same}

host_is : {S B : Type 0} (h : Host S B) (procs : ℕ → Proc B) (queue : List Report) → procs ≡ h.procs → queue ≡ h.queue → record { shared = h.shared; procs = procs; queue = queue; tracees = h.tracees; messages = h.messages; child = h.child } ≡ h
host_is {S} {B} h procs queue e f = ap₂ made e f
  where
    made : (ℕ → Proc B) → List Report → Host S B
    made p q = record { shared = h.shared; procs = p; queue = q; tracees = h.tracees; messages = h.messages; child = h.child }

pub who_listens_stays : {S B : Type 0} → WhoListensStays S B
who_listens_stays m h p b signal None e alive still = rw (e, alive, still) (host_is h (put h.procs p (record { task = Alive b (Stopped signal); held = false; options = None })) (h.queue ++ []) (ap (put h.procs p) (sym e) ∙ put_same h.procs p) (append-nil h.queue))
who_listens_stays m h p b signal (Some w) e alive still = rw (e, alive, still) (host_is h (put h.procs p (record { task = Alive b (Stopped signal); held = false; options = Some w })) (h.queue ++ []) (ap (put h.procs p) (sym e) ∙ put_same h.procs p) (append-nil h.queue))

and_right : (a b : Bool) → (a && b) ≡ true → b ≡ true
and_right true b h = h
and_right false b h = absurd (cc h)

pub a_stop_comes_of_its_signal : AStopComesOfItsSignal
a_stop_comes_of_its_signal o p k signal h = go k.standing refl (and_right (traces o.follow p) _ h)
  where
    go : (x : Standing) → k.standing ≡ x → stop_fits o.follow k.called.number (is_there k.saved) x (Group_stop signal) ≡ true → (passed : Signal) × ((k.standing ≡ After_signal passed) × (passed.number ≡ signal.number))
    go (After_signal passed) e g = (passed, (e, sym (equal_if signal.number passed.number g)))
    go Unmet e g = absurd (cc g)
    go Between e g = absurd (cc g)
    go Halted e g = absurd (cc g)
    go Unread e g = absurd (cc g)
    go Read e g = absurd (cc g)
    go After_event e g = absurd (cc g)
    go At_end e g = absurd (cc g)

pub a_stop_ends_first : AStopEndsFirst
a_stop_ends_first o p k stop e h = go stop (subst (λ x. stop_fits o.follow k.called.number (is_there k.saved) x stop ≡ true) e (and_right (traces o.follow p) _ h))
  where
    go : (stop : Stop) → stop_fits o.follow k.called.number (is_there k.saved) Halted stop ≡ true → (stop ≡ Event_stop At_start) ⊎ (stop ≡ Ended kill_word)
    go (Syscall_stop good) g = absurd (cc g)
    go (Signal_stop signal) g = absurd (cc g)
    go (Group_stop signal) g = absurd (cc g)
    go (Event_stop At_fork) g = absurd (cc g)
    go (Event_stop At_exec) g = absurd (cc g)
    go (Event_stop At_start) g = inl refl
    go (Ended word) g = inr (ap Ended (sym (equal_if 9 word g)))
