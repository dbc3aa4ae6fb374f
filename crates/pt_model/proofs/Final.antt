-- Transparency, for every machine.
use Rattle.std.proofs.Common.{◌≡◌, ℕ, ◌≤◌, Bool, true, false, cond, List, [], ◌∷◌, ◌++◌, Option, Some, None, refl, ap, ◌∙◌, arith}
use Rattle.std.specs.Prelude.{◌==◌, ◌||◌}
use Rattle.std.proofs.lemmas.Bool.Decides.{nat_tests}
use Rattle.lx_abi.specs.declared.outcome.Outcome.{Outcome}
use Rattle.lx_abi.specs.declared.ptrace.Reply.{Reply}
use Rattle.lx_abi.specs.declared.ptrace.Reply.TheVariants.{Done as Agreed, Status as Status_is, Registers as Registers_are, Bytes as Bytes_are, Message as Message_is, Info as Info_is, Outcome as Outcome_is, Errno as Errno_is, OutOfTurns as Out_of_turns, Refused as Boot_refused}
use Rattle.lx_abi.specs.declared.schedule.Event.{Event as Step}
use Rattle.lx_abi.specs.declared.schedule.Event.TheVariants.{Turn, Serve}
use Rattle.lx_abi.specs.declared.status.Stop.{Stop}
use Rattle.lx_abi.specs.declared.status.Stop.TheVariants.{Syscall as Syscall_stop, Signal as Signal_stop, Group as Group_stop, Event as Event_stop, Ended}
use Rattle.lx_abi.specs.Status.{word_of, stop_of}
use Rattle.lx_model.specs.Machine.{Machine}
use Rattle.lx_model.specs.Kernel.{Script, traces, first_kernel}
use Rattle.pt_model.specs.Ptrace.{Report}
use Rattle.pt_model.specs.Requests.{answer, echild, told, serve_wait}
use Rattle.pt_model.specs.Admissible.{admits_answer}
use Rattle.pt_model.specs.Parts.{Options}
use Rattle.pt_model.specs.Tracer.{Known, Awaiting, asks, Focus, Booting, Waiting, Serving, Asking_outcome, Over, Turns_over, Faulted, Tracer, focus_on, took_status, stays, Next, next_at, request, admits_stop, is_empty, takes, faults}
use Rattle.pt_model.specs.World.{World, met, happens_asked, happens, world_run, effective, first_world}
use Rattle.pt_model.specs.View.{parts, items_in}
use Rattle.pt_model.specs.Headline.{IsPast, IsTransparent, traced_run, plain_run}
use Rattle.pt_model.proofs.Apart.{the_dead_have_ended}
use Rattle.pt_model.proofs.Phases.{Phase, Boot_held, Unborn, is_unborn}
use Rattle.pt_model.proofs.Ties.{Tie, Tied, hand_at, is_past, is_stuck}
use Rattle.pt_model.proofs.Whole.{run_tied, none_kept_back, told_so_far, all_told, none_left}

module _ {S B : Type 0} (m : Machine S B) (o : Options) (script : Script) (s : S) (b : B) where
  abbrev first_phase : Bool → ℕ → Phase B
  first_phase true q = Boot_held b
  first_phase false q = Unborn (traces o.follow q)

  first_tie : (q : ℕ) (one : Bool) → (q == 1) ≡ one → Tie m o script (λ x. false) (first_world s b) (first_kernel s b) [] q (first_phase one q)
  first_tie q true e = record { proc = rw e refl; task = rw e refl; knows = record { outside = refl; unmet = refl; same = λ n. refl }; stage = rw (back q true e) refl; due = refl; living = λ l. record { spared = refl; no_exit = refl }; listed = λ l. absurd (cc l); sort = rw e (or_true o.follow) }
    where
      back : (q : ℕ) (t : Bool) → (q == 1) ≡ t → (1 == q) ≡ t
      back q t e = grind (arith, nat_tests)

      or_true : (f : Bool) → (f || true) ≡ true
      or_true true = refl
      or_true false = refl
  first_tie q false e = record { proc = rw e refl; task = rw e refl; knows = record { outside = refl; unmet = refl; same = λ n. refl }; stage = rw (back q false e) refl; due = refl; living = λ l. record { spared = refl; no_exit = refl }; listed = λ l. absurd (cc l); sort = refl }
    where
      back : (q : ℕ) (t : Bool) → (q == 1) ≡ t → (1 == q) ≡ t
      back q t e = grind (arith, nat_tests)

  first_fresh : (q : ℕ) → 2 ≤ q → is_unborn (first_phase (q == 1) q) ≡ true
  first_fresh q l = let e : (q == 1) ≡ false = grind (arith, nat_tests) in rw e refl

  pub first_tied : (loses : Bool) → Tied m o script loses (first_world s b) (first_kernel s b)
  first_tied loses = record {
    phases = λ q. first_phase (q == 1) q;
    past = [];
    rest = [];
    lost = λ x. false;
    spared = λ n q. refl;
    shared = refl;
    queue = refl;
    each = λ q. first_tie q (q == 1) refl;
    told = refl;
    viewed = refl;
    over = λ q. absurd (cc q);
    heeded = λ q l. absurd (cc l);
    sane = refl;
    child = refl;
    many = omega arith;
    fresh = first_fresh;
  }

-- the outcome that was replied is that of what is shared
module _ {S B : Type 0} (m : Machine S B) (outcome : S → Outcome) (o : Options) (script : Script) where
  abbrev Told : World S B → Type 0
  Told w = (x : Outcome) → w.tracer.focus ≡ Over x → x ≡ outcome w.host.shared

  not_over_status : (known : ℕ → Known) (p : ℕ) (stop : Option Stop) (x : Outcome) → (took_status o known p stop).focus ≡ Over x → ⊥
  not_over_status known p None x e = cc e
  not_over_status known p (Some (Syscall_stop good)) x e = cc e
  not_over_status known p (Some (Signal_stop n)) x e = cc e
  not_over_status known p (Some (Group_stop n)) x e = cc e
  not_over_status known p (Some (Event_stop n)) x e = cc e
  not_over_status known p (Some (Ended v)) x e = cc e

  -- a reply ends a run by the outcome alone
  not_over_if : (ok : Bool) (t : Tracer) (focus : Focus) (r : Reply) (n : Next) (x : Outcome) → (n.focus ≡ Over x → ⊥) → (cond ok (takes t focus r n) (faults t)).tracer.focus ≡ Over x → ⊥
  not_over_if true t focus r n x h e = h e
  not_over_if false t focus r n x h e = cc e

  not_over_wait : (w : World S B) → (w.tracer.focus ≡ Waiting) → (queue : List Report) (tracees : List ℕ) (x : Outcome) → (met o script w Waiting (serve_wait w.host queue tracees).host (serve_wait w.host queue tracees).reply).tracer.focus ≡ Over x → ⊥
  not_over_wait w f [] [] x e = not_over_if (is_empty w.tracer.tracees) w.tracer Waiting echild (stays w.tracer.known Asking_outcome) x (λ q. cc q) e
  not_over_wait w f [] (q ∷ qs) x e = cc (f, e)
  not_over_wait w f (r ∷ rs) qs x e = not_over_if (admits_stop o r.pid (w.tracer.known r.pid) (stop_of (word_of r.stop))) w.tracer Waiting (told r.pid r.stop) (took_status o w.tracer.known r.pid (stop_of (word_of r.stop))) x (not_over_status w.tracer.known r.pid (stop_of (word_of r.stop)) x) e

  not_over_focus : (p : ℕ) (next : Option Awaiting) (x : Outcome) → focus_on p next ≡ Over x → ⊥
  not_over_focus p None x e = cc e
  not_over_focus p (Some st) x e = cc e

  not_over_serving : (known : ℕ → Known) (p : ℕ) (st : Awaiting) (r : Reply) (x : Outcome) → (next_at o script known (Serving p st) r).focus ≡ Over x → ⊥
  not_over_serving known p st Out_of_turns x e = cc e
  not_over_serving known p st Agreed x e = not_over_focus p _ x e
  not_over_serving known p st (Status_is q y) x e = not_over_focus p _ x e
  not_over_serving known p st (Registers_are r) x e = not_over_focus p _ x e
  not_over_serving known p st (Bytes_are bytes) x e = not_over_focus p _ x e
  not_over_serving known p st (Message_is y) x e = not_over_focus p _ x e
  not_over_serving known p st (Info_is i) x e = not_over_focus p _ x e
  not_over_serving known p st (Outcome_is y) x e = not_over_focus p _ x e
  not_over_serving known p st (Errno_is n) x e = not_over_focus p _ x e
  not_over_serving known p st (Boot_refused n) x e = not_over_focus p _ x e

  same_outcome : (x y : Outcome) → Over x ≡ Over y → y ≡ x
  same_outcome x y e = cc e

  told_after : (w : World S B) → Told w → (focus : Focus) → w.tracer.focus ≡ focus → (e : Step) → Told (happens_asked m outcome o script w focus (request o focus) e)
  told_after w t Booting f e = t
  told_after w t (Over y) f e = t
  told_after w t Turns_over f e = t
  told_after w t Faulted f e = t
  told_after w t Waiting f (Turn p) = λ x q. absurd (cc (f, q))
  told_after w t (Serving p st) f (Turn q) = λ x r. absurd (cc (f, r))
  told_after w t Asking_outcome f (Turn p) = λ x q. absurd (cc (f, q))
  told_after w t Waiting f Serve = λ x q. absurd (not_over_wait w f w.host.queue w.host.tracees x q)
  told_after w t (Serving p st) f Serve = λ x q. absurd (not_over_if (admits_answer (asks o st) (answer m (w.host.messages p) (w.host.procs p) (asks o st)).reply) w.tracer (Serving p st) (answer m (w.host.messages p) (w.host.procs p) (asks o st)).reply (next_at o script w.tracer.known (Serving p st) (answer m (w.host.messages p) (w.host.procs p) (asks o st)).reply) x (not_over_serving w.tracer.known p st (answer m (w.host.messages p) (w.host.procs p) (asks o st)).reply x) q)
  told_after w t Asking_outcome f Serve = λ x q. same_outcome (outcome w.host.shared) x q

  run_told : (events : List Step) (w : World S B) → Told w → Told (world_run m outcome o script w events)
  run_told [] w t = t
  run_told (e ∷ es) w t = run_told es (happens m outcome o script w e) (told_after w t w.tracer.focus refl e)

is_past_if : (focus : Focus) → IsPast focus → is_past focus ≡ true
is_past_if Booting h = absurd h
is_past_if Waiting h = absurd h
is_past_if (Serving p st) h = absurd h
is_past_if Asking_outcome h = refl
is_past_if (Over x) h = refl
is_past_if Turns_over h = absurd h
is_past_if Faulted h = absurd h

pub transparent : {S B : Type 0} → IsTransparent S B
transparent m laws words outcome o texts script s b events =
    let w = traced_run m outcome o script s b events in
    let k = plain_run m outcome o script s b events in
    let t : Tied m o script true w k = run_tied m outcome o script laws words texts events (first_world s b) (first_kernel s b) (first_tied m o script s b true) in
    record {
      same_outcome = ap outcome t.shared;
      admitted = λ e. cc (t.sane, ap is_stuck e);
      in_turns = λ e. cc (t.sane, ap is_stuck e);
      replied = λ x e. run_told m outcome o script events (first_world s b) (λ y q. absurd (cc q)) x e ∙ ap outcome t.shared;
      lost = t.lost;
      tells = record {
        later = parts o (hand_at m t.phases w.tracer.focus ++ items_in t.rest);
        begins = told_so_far m o script true w k t;
        whole = λ h. all_told m o script true w k t (is_past_if w.tracer.focus h);
      };
      kept_back = none_kept_back m o script true w k t;
      all_ended = λ h q l g tr. the_dead_have_ended m script o.follow s b (effective m outcome o script (first_world s b) events) q l g (none_left m o script true w k t (is_past_if w.tracer.focus h) q tr);
    }
