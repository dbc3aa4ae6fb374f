-- Every list of events keeps the tie, and what it says at the end.
use Rattle.std.proofs.Common.{◌≡◌, ℕ, Bool, true, false, cond, List, [], ◌∷◌, ◌++◌, Option, Some, None, refl, sym, ap, subst, ◌∙◌, append-nil}
use Rattle.lx_abi.specs.declared.outcome.Outcome.{Outcome}
use Rattle.lx_abi.specs.declared.ptrace.Request.{Request}
use Rattle.lx_abi.specs.declared.schedule.Event.{Event as Step}
use Rattle.lx_abi.specs.declared.schedule.Event.TheVariants.{Turn, Serve}
use Rattle.lx_abi.specs.Log.{items_of, entries}
use Rattle.lx_model.specs.Machine.{Machine, IsMachine}
use Rattle.lx_model.specs.Kernel.{Script, traces, Kernel, after_turn, with_child, turn_of, kernel_turn, kernel_run}
use Rattle.lx_abi.specs.declared.ptrace.TraceOptions.{TraceOptions}
use Rattle.pt_model.specs.Ptrace.{Proc, Host, is_effective, moved, bears, host_turn_of}
use Rattle.pt_model.specs.Parts.{Options}
use Rattle.pt_model.specs.Tracer.{Focus, Booting, Waiting, Serving, Asking_outcome, Over, Turns_over, Faulted, request, is_among}
use Rattle.pt_model.specs.World.{World, happens_asked, happens, world_run, turns_of, effective}
use Rattle.pt_model.specs.View.{view, traced, parts, Due, due_pid, items_in}
use Rattle.pt_model.specs.Laws.{is_alive}
use Rattle.pt_model.specs.Headline.{NothingKeptBack, IsTold, IsTexts}
use Rattle.pt_model.proofs.Phases.{Phase, Dead, Nobody, Unborn, Boot_held, Loose, dues_of, is_traced, task_of, proc_of, due_in, hand_in, stage_of, reaped}
use Rattle.pt_model.proofs.Local.{Turned}
use Rattle.pt_model.proofs.Maps.{is_same, parts-append}
use Rattle.pt_model.proofs.Ties.{stage_at, hand_at, is_past, Tied, moved_tied, turn_here, born_tied}
use Rattle.pt_model.proofs.Serving.{serve_tied}

module _ {S B : Type 0} (m : Machine S B) (o : Options) (script : Script) (loses : Bool) (w : World S B) (kernel : Kernel S B) where
  abbrev host_after : ℕ → Option TraceOptions → Host S B
  host_after p x = bears (moved w.host p x (host_turn_of m w.host p)) x (host_turn_of m w.host p).event

  turn_tied : IsMachine m → IsTold m → (t : Tied m o script loses w kernel) (p : ℕ) (effective : Bool) → is_effective m w.host.shared p (w.host.procs p) ≡ effective → (loses ≡ false → hand_in m p (t.phases p) ++ items_in (due_in m p (t.phases p)) ≡ []) → Tied m o script loses (record { host = cond effective (host_after p (w.host.procs p).options) w.host; tracer = w.tracer; printed = w.printed }) (kernel_run m script o.follow kernel (cond effective (p ∷ []) []))
  turn_tied laws words t p true f owes =
      let u : Turned m o.follow o script p (t.phases p) (w.tracer.known p) (λ n. entries p n (items_of kernel.log)) (turn_of m script o.follow kernel p) (host_turn_of m w.host p) = turn_here m o script loses w kernel laws words t p f in
      let x : Option TraceOptions = (proc_of m o.follow (t.phases p)).options in
      let v : World S B = record { host = moved w.host p x (host_turn_of m w.host p); tracer = w.tracer; printed = w.printed } in
      subst (λ y. Tied m o script loses (record { host = host_after p y; tracer = w.tracer; printed = w.printed }) (with_child (after_turn kernel p (turn_of m script o.follow kernel p)) (turn_of m script o.follow kernel p).event)) (sym (ap (λ (t : Proc B). t.options) (t.each p).proc))
      (subst (λ e. Tied m o script loses (record { host = host_after p x; tracer = w.tracer; printed = w.printed }) (with_child (after_turn kernel p (turn_of m script o.follow kernel p)) e)) u.event
      (born_tied m o script loses v (after_turn kernel p (turn_of m script o.follow kernel p)) (moved_tied m o script loses w kernel t p (turn_of m script o.follow kernel p) (host_turn_of m w.host p) u owes) p (t.phases p) (host_turn_of m w.host p).event (t.each p).sort
      (λ r past. cc ((t.each p).listed r, ap (is_among p) (t.over past))) u.birth))
  turn_tied laws words t p false f owes = t

  -- a process whose turn it is owes nothing
  abbrev pub Calm : Tied m o script loses w kernel → Step → Type 0
  Calm t (Turn p) = loses ≡ false → hand_in m p (t.phases p) ++ items_in (due_in m p (t.phases p)) ≡ []
  Calm t Serve = Unit {0}

  asked_tied : (outcome : S → Outcome) → IsMachine m → IsTold m → IsTexts o.texts → (t : Tied m o script loses w kernel) (focus : Focus) → w.tracer.focus ≡ focus → (q : Option Request) → request o focus ≡ q → (e : Step) → Calm t e → Tied m o script loses (happens_asked m outcome o script w focus q e) (kernel_run m script o.follow kernel (turns_of m w q e))
  asked_tied outcome laws words texts t focus f None g e calm = t
  asked_tied outcome laws words texts t focus f (Some q) g (Turn p) calm = turn_tied laws words t p (is_effective m w.host.shared p (w.host.procs p)) refl calm
  asked_tied outcome laws words texts t focus f (Some q) g Serve calm = subst (λ x. Tied m o script loses (happens_asked m outcome o script w focus x Serve) kernel) g (serve_tied m o script loses w kernel outcome laws words texts t focus f)

  pub happens_tied : (outcome : S → Outcome) → IsMachine m → IsTold m → IsTexts o.texts → (t : Tied m o script loses w kernel) (e : Step) → Calm t e → Tied m o script loses (happens m outcome o script w e) (kernel_run m script o.follow kernel (turns_of m w (request o w.tracer.focus) e))
  happens_tied outcome laws words texts t e calm = asked_tied outcome laws words texts t w.tracer.focus refl (request o w.tracer.focus) refl e calm

kernel_run-append : {S B : Type 0} (m : Machine S B) (script : Script) (follow : Bool) (kernel : Kernel S B) (ps qs : List ℕ) → kernel_run m script follow kernel (ps ++ qs) ≡ kernel_run m script follow (kernel_run m script follow kernel ps) qs
kernel_run-append m script follow kernel [] qs = refl
kernel_run-append m script follow kernel (p ∷ ps) qs = kernel_run-append m script follow (kernel_turn m script follow kernel p) ps qs

-- every list of events keeps the tie
pub run_tied : {S B : Type 0} (m : Machine S B) (outcome : S → Outcome) (o : Options) (script : Script) → IsMachine m → IsTold m → IsTexts o.texts → (events : List Step) (w : World S B) (kernel : Kernel S B) → Tied m o script true w kernel → Tied m o script true (world_run m outcome o script w events) (kernel_run m script o.follow kernel (effective m outcome o script w events))
run_tied m outcome o script laws words texts [] w kernel t = t
run_tied m outcome o script laws words texts (e ∷ es) w kernel t = rw (kernel_run-append m script o.follow kernel (turns_of m w (request o w.tracer.focus) e) (effective m outcome o script (happens m outcome o script w e) es)) (run_tied m outcome o script laws words texts es (happens m outcome o script w e) (kernel_run m script o.follow kernel (turns_of m w (request o w.tracer.focus) e)) (happens_tied m o script true w kernel outcome laws words texts t e (never e)))
  where
    never : (e : Step) → Calm m o script true w kernel t e
    never (Turn p) = λ h. absurd (cc h)
    never Serve = tt

-- Where Wait has answered that no tracee is left, nothing is owed.
module _ {S B : Type 0} (m : Machine S B) (o : Options) (script : Script) (loses : Bool) (w : World S B) (kernel : Kernel S B) where
  nothing_due : (q : ℕ) (ph : Phase B) → reaped ph ≡ true → due_in m q ph ≡ []
  nothing_due q (Dead v) h = refl
  nothing_due q Nobody h = refl
  nothing_due q (Unborn x) h = refl
  nothing_due q (Boot_held b) h = refl
  nothing_due q (Loose x) h = refl
  nothing_due q _ h = absurd (cc h)

  is_reaped : (b : Bool) (q : ℕ) (tracees : List ℕ) → tracees ≡ [] → (b ≡ false → is_among q tracees ≡ true) → b ≡ true
  is_reaped true q tracees e h = refl
  is_reaped false q tracees e h = absurd (cc (h refl, ap (is_among q) e))

  nothing_left : (rest : List Due) → ((q : ℕ) → dues_of q rest ≡ []) → rest ≡ []
  nothing_left [] h = refl
  nothing_left (i ∷ rest) h = absurd (cc (h (due_pid i), cons_of i rest))
    where
      cons_of : (i : Due) (rest : List Due) → dues_of (due_pid i) (i ∷ rest) ≡ i ∷ dues_of (due_pid i) rest
      cons_of i rest = rw (is_same (due_pid i)) refl

  no_hand_past : (phases : ℕ → Phase B) (focus : Focus) → is_past focus ≡ true → hand_at m phases focus ≡ []
  no_hand_past phases Booting h = refl
  no_hand_past phases Waiting h = refl
  no_hand_past phases (Serving p st) h = absurd (cc h)
  no_hand_past phases Asking_outcome h = refl
  no_hand_past phases (Over x) h = refl
  no_hand_past phases Turns_over h = refl
  no_hand_past phases Faulted h = refl

  pub all_told : (t : Tied m o script loses w kernel) → is_past w.tracer.focus ≡ true → w.printed ≡ parts o (view t.lost (traced o.follow kernel.log))
  all_told t f =
      let none : t.rest ≡ [] = nothing_left t.rest (λ q. sym (t.each q).due ∙ nothing_due q (t.phases q) (is_reaped (reaped (t.phases q)) q w.host.tracees (t.over f) (t.each q).listed)) in
      t.told ∙ ap (parts o) (sym (append-nil t.past) ∙ ap (λ x. t.past ++ x) (sym (rw (no_hand_past t.phases w.tracer.focus f, none) refl)) ∙ t.viewed)

  pub none_kept_back : (t : Tied m o script loses w kernel) → w.tracer.focus ≡ Waiting → NothingKeptBack o w.host.queue w.printed (view t.lost (traced o.follow kernel.log))
  none_kept_back t f = record {
    past = t.past;
    reported = t.rest;
    waiting = t.queue;
    whole = ap (λ x. t.past ++ (hand_at m t.phases x ++ items_in t.rest)) (sym f) ∙ t.viewed;
    shown = t.told;
  }

  pub told_so_far : (t : Tied m o script loses w kernel) → w.printed ++ parts o (hand_at m t.phases w.tracer.focus ++ items_in t.rest) ≡ parts o (view t.lost (traced o.follow kernel.log))
  told_so_far t = ap (λ x. x ++ parts o (hand_at m t.phases w.tracer.focus ++ items_in t.rest)) t.told ∙ sym (parts-append o t.past _) ∙ ap (parts o) t.viewed

  gone_phase : (ph : Phase B) → reaped ph ≡ true → is_traced ph ≡ true → stage_of m ph ≡ None → is_alive (task_of m ph) ≡ false
  gone_phase (Dead v) h tr st = refl
  gone_phase Nobody h tr st = refl
  gone_phase (Unborn x) h tr st = refl
  gone_phase (Boot_held b) h tr st = absurd (cc st)
  gone_phase (Loose x) h tr st = absurd (cc tr)
  gone_phase _ h tr st = absurd (cc h)

  no_stage : (q : ℕ) (focus : Focus) → is_past focus ≡ true → stage_at q focus ≡ None
  no_stage q Booting h = refl
  no_stage q Waiting h = refl
  no_stage q (Serving p st) h = absurd (cc h)
  no_stage q Asking_outcome h = refl
  no_stage q (Over x) h = refl
  no_stage q Turns_over h = refl
  no_stage q Faulted h = refl

  pub none_left : (t : Tied m o script loses w kernel) → is_past w.tracer.focus ≡ true → (q : ℕ) → traces o.follow q ≡ true → is_alive (kernel.tasks q) ≡ false
  none_left t f q tr = ap is_alive (t.each q).task ∙ gone_phase (t.phases q) (is_reaped (reaped (t.phases q)) q w.host.tracees (t.over f) (t.each q).listed) (sym (t.each q).sort ∙ tr) ((t.each q).stage ∙ no_stage q w.tracer.focus f)
