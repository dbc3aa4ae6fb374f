-- A served request keeps the tie.
use Rattle.std.proofs.Common.{◌≡◌, ◌≢◌, ⊎_elim, ℕ, suc, ◌≤◌, Bool, true, false, cond, not, List, [], ◌∷◌, ◌++◌, map, Option, Some, None, filter, refl, sym, ap, ap₂, subst, ◌∙◌, arith, append-nil, append_assoc}
use Rattle.std.specs.Prelude.{◌==◌, ◌||◌}
use Rattle.std.proofs.lemmas.List.{map-append}
use Rattle.std.proofs.lemmas.Bool.Decides.{nat_tests}
use Rattle.lx_abi.specs.declared.log.Call.{Call}
use Rattle.lx_abi.specs.declared.log.Cause.{Cause}
use Rattle.lx_abi.specs.declared.log.Mode.{Mode}
use Rattle.lx_abi.specs.declared.outcome.Outcome.{Outcome}
use Rattle.lx_abi.specs.declared.ptrace.Reply.{Reply}
use Rattle.lx_abi.specs.declared.ptrace.Reply.TheVariants.{Done as Agreed, Status as Status_is, Registers as Registers_are, Bytes as Bytes_are, Message as Message_is, Info as Info_is, Outcome as Outcome_is, Errno as Errno_is, OutOfTurns as Out_of_turns, Refused as Boot_refused}
use Rattle.lx_abi.specs.declared.ptrace.Request.TheVariants.{To}
use Rattle.lx_abi.specs.declared.schedule.Event.TheVariants.{Serve}
use Rattle.lx_abi.specs.declared.signal.Signal.{Signal}
use Rattle.lx_abi.specs.declared.status.EventStop.{EventStop}
use Rattle.lx_abi.specs.declared.ptrace.Ask.TheVariants.{Seize}
use Rattle.lx_abi.specs.declared.status.EventStop.TheVariants.{Fork as At_fork, Exec as At_exec, Stop as At_start}
use Rattle.lx_abi.specs.declared.status.Stop.{Stop}
use Rattle.lx_abi.specs.declared.status.Stop.TheVariants.{Syscall as Syscall_stop, Signal as Signal_stop, Group as Group_stop, Event as Event_stop, Ended}
use Rattle.lx_abi.specs.Log.{Noted, items_of, entries}
use Rattle.lx_abi.specs.Status.{word_of, stop_of}
use Rattle.lx_model.specs.Machine.{Machine, IsMachine}
use Rattle.lx_model.specs.declared.stage.Task.{Task}
use Rattle.lx_model.specs.declared.stage.Task.TheVariants.{Alive, Dying, Gone}
use Rattle.lx_model.specs.Kernel.{Script, put, traces, Kernel}
use Rattle.lx_abi.specs.declared.ptrace.TraceOptions.{TraceOptions}
use Rattle.lx_abi.specs.Options.{trace_options}
use Rattle.pt_model.specs.Ptrace.{Proc, Report, Host, is_there}
use Rattle.pt_model.specs.Requests.{Answered, answer_at, answer, answered, seize, echild, take_report, serve_wait, serve}
use Rattle.pt_model.specs.Admissible.{Standing, Unmet, Between, After_signal, Halted, Unread, Read, After_event, was_read, stop_fits, event_fits, admits_answer}
use Rattle.pt_model.specs.Parts.{Options, Part}
use Rattle.pt_model.specs.Tracer.{Booting, Known, Awaiting, Seizing, Resuming, asks, options_word, Heard, hears, Focus, Waiting, Serving, Asking_outcome, Over, Turns_over, Faulted, focus_on, heard, stays, stands_at, turned_over, event_standing, took_status, next_at, request, admits_stop, is_empty, is_among, with_tracee, told_tracees, tracees_after, Moved, takes, faults}
use Rattle.pt_model.specs.World.{World, met, happens_asked}
use Rattle.pt_model.specs.View.{part, parts, Due, Logged, Unlogged, due_pid, items_in, report_of}
use Rattle.pt_model.specs.Headline.{IsTold, IsTexts}
use Rattle.pt_model.proofs.Words.{syscall_back, signal_stop_back, group_stop_back, event_back, end_back}
use Rattle.pt_model.proofs.Phases.{Phase, Enter_due, Enter_asked, Enter_peeking, Exit_due, Exit_asked, Exit_setting, Exit_peeking, Exit_resuming, Sig_due, Sig_asked, Halt_due, Halt_asked, Wake_due, Wake_resuming, Dead_due, Dead, Born_due, Born_resuming, Event_due, Event_resuming, dues_of, is_unborn, is_traced, enter_of, done_of, signal_of, halt_of, exit_of, task_of, proc_of, due_in, stage_of, Knows, hand_in, dead, reaped, is_between, fits_end}
use Rattle.pt_model.proofs.Local.{Seizes, Not_seized, Seized, is_out, Served, served}
use Rattle.pt_model.proofs.Admitted.{admitted}
use Rattle.pt_model.proofs.Maps.{report_pid, among_last, among_new, among_old, equal_if, same_or_not, is_same, is_not_same, put_here, put_apart, items_in-append, parts-append}
use Rattle.pt_model.proofs.Ties.{released, stage_at, hand_at, is_past, is_stuck, Tie, Tied, changed, due_after, due_apart, no_hand, or_true, still_fresh}

module _ {S B : Type 0} (m : Machine S B) (o : Options) (script : Script) (loses : Bool) (w : World S B) (kernel : Kernel S B) where
  -- Serve, while the tracer asks of p
  stage_here : (p : ℕ) (next : Option Awaiting) → stage_at p (focus_on p next) ≡ next
  stage_here p None = refl
  stage_here p (Some st) = rw (is_same p) refl

  stage_apart : (p q : ℕ) → p ≢ q → (next : Option Awaiting) → stage_at q (focus_on p next) ≡ None
  stage_apart p q d None = refl
  stage_apart p q d (Some st) = rw (is_not_same p q d) refl

  hand_said : (p : ℕ) (phases : ℕ → Phase B) (next : Phase B) (x : Option Awaiting) → stage_of m next ≡ x → hand_at m (put phases p next) (focus_on p x) ≡ hand_in m p next
  hand_said p phases next None e = sym (no_hand m o script loses w kernel p next e)
  hand_said p phases next (Some st) e = ap (hand_in m p) (put_here phases p next)

  not_past : (p : ℕ) (x : Option Awaiting) → is_past (focus_on p x) ≡ true → ⊥
  not_past p None e = cc e
  not_past p (Some st) e = cc e

  -- what a seizure adds
  rest_of : {p : ℕ} {ph next : Phase B} {b : Bool} → List Due → Seizes m p ph next b → List Due
  rest_of rest (Not_seized x y z) = rest
  rest_of {p} rest (Seized x y) = rest ++ Unlogged p At_start ∷ []

  seized_queue : (p : ℕ) (ph next : Phase B) (b : Bool) (rest : List Due) (queue : List Report) (sz : Seizes m p ph next b) → queue ≡ map report_of rest → cond b (queue ++ record { pid = p; stop = Event_stop At_start } ∷ []) queue ≡ map report_of (rest_of rest sz)
  unfolding rest_of
  seized_queue p ph next b rest queue (Not_seized x y z) h = rw x h
  seized_queue p ph next b rest queue (Seized x y) h = rw (x, h) (sym (map-append report_of rest (Unlogged p At_start ∷ [])))

  seized_due : (p : ℕ) (ph next : Phase B) (b : Bool) (rest : List Due) (sz : Seizes m p ph next b) → due_in m p ph ≡ dues_of p rest → due_in m p next ≡ dues_of p (rest_of rest sz)
  unfolding rest_of
  seized_due p ph next b rest (Not_seized x y z) h = y ∙ h
  seized_due p ph next b rest (Seized x y) h = y ∙ due_after m o script loses w kernel false p rest (Unlogged p At_start ∷ []) (due_in m p ph) h (refl, tt)

  seized_apart : (p q : ℕ) (ph next : Phase B) (b : Bool) (rest : List Due) (sz : Seizes m p ph next b) → p ≢ q → dues_of q rest ≡ dues_of q (rest_of rest sz)
  unfolding rest_of
  seized_apart p q ph next b rest (Not_seized x y z) d = refl
  seized_apart p q ph next b rest (Seized x y) d = due_apart m o script loses w kernel false p q d rest (Unlogged p At_start ∷ []) (refl, tt)

  seized_items : (p : ℕ) (ph next : Phase B) (b : Bool) (rest : List Due) (sz : Seizes m p ph next b) → items_in (rest_of rest sz) ≡ items_in rest
  unfolding rest_of
  seized_items p ph next b rest (Not_seized x y z) = refl
  seized_items p ph next b rest (Seized x y) = items_in-append rest (Unlogged p At_start ∷ []) ∙ append-nil (items_in rest)

  seized_listed : (p : ℕ) (ph next : Phase B) (b : Bool) (tracees : List ℕ) → Seizes m p ph next b → (reaped ph ≡ false → is_among p tracees ≡ true) → reaped next ≡ false → is_among p (cond b (tracees ++ p ∷ []) tracees) ≡ true
  seized_listed p ph next b tracees (Not_seized x y z) h l = rw x (h (sym z ∙ l))
  seized_listed p ph next b tracees (Seized x y) h l = rw x (among_new p tracees)

  seized_among : (p q : ℕ) (b : Bool) (tracees : List ℕ) → is_among q tracees ≡ true → is_among q (cond b (tracees ++ p ∷ []) tracees) ≡ true
  seized_among p q true tracees h = among_old q p tracees h
  seized_among p q false tracees h = h

  abbrev replied : ℕ → Awaiting → Answered B → Heard → World S B
  replied p st a h = record { host = answered w.host p a; tracer = record { known = put w.tracer.known p h.known; tracees = tracees_after w.tracer.tracees (Serving p st) a.reply; focus = focus_on p h.next; taken = suc w.tracer.taken }; printed = w.printed ++ h.printed }

  not_stuck : (p : ℕ) (x : Option Awaiting) → is_stuck (focus_on p x) ≡ false
  not_stuck p None = refl
  not_stuck p (Some st) = refl

  -- one more tracee that is known
  with_heeded : (p : ℕ) (known tracees : List ℕ) → ((q : ℕ) → is_among q known ≡ true → is_among q tracees ≡ true) → is_among p tracees ≡ true → (q : ℕ) → is_among q (with_tracee known p) ≡ true → is_among q tracees ≡ true
  with_heeded p known tracees h here q = go (is_among p known)
    where
      one : (a b : Bool) → is_among q known ≡ a → (q == p) ≡ b → (a || b) ≡ true → is_among q tracees ≡ true
      one true b g e l = h q g
      one false true g e l = subst (λ x. is_among x tracees ≡ true) (equal_if p q e) here
      one false false g e l = absurd (cc l)

      go : (b : Bool) → is_among q (cond b known (known ++ p ∷ [])) ≡ true → is_among q tracees ≡ true
      go true l = h q l
      go false l = one (is_among q known) (q == p) refl refl (sym (among_last q p known) ∙ l)

  known_after : (p : ℕ) (st : Awaiting) (known tracees : List ℕ) (a : Answered B) → (st ≡ Seizing → a.reply ≡ Agreed → a.seized ≡ true) → ((q : ℕ) → is_among q known ≡ true → is_among q tracees ≡ true) → (reply : Reply) → a.reply ≡ reply → (q : ℕ) → is_among q (tracees_after known (Serving p st) reply) ≡ true → is_among q (cond a.seized (tracees ++ p ∷ []) tracees) ≡ true
  known_after p Seizing known tracees a seizes h Agreed e q l =
      let s : a.seized ≡ true = seizes refl e in
      rw s (with_heeded p known (tracees ++ p ∷ []) (λ x g. among_old x p tracees (h x g)) (among_new p tracees) q l)
  known_after p st known tracees a seizes h reply e q l = seized_among p q a.seized tracees (h q l)

  replied_tied : (t : Tied m o script loses w kernel) (p : ℕ) (st : Awaiting) → w.tracer.focus ≡ Serving p st → (a : Answered B) (h : Heard) → (st ≡ Seizing → a.reply ≡ Agreed → a.seized ≡ true) → Served m o.follow o script p (t.phases p) (λ n. entries p n (items_of kernel.log)) a h → Tied m o script loses (replied p st a h) kernel
  replied_tied t p st f a h seizes u = record {
    phases = put t.phases p u.next;
    past = t.past ++ u.said;
    rest = rest_of t.rest u.seized;
    lost = t.lost;
    spared = t.spared;
    shared = t.shared;
    queue = seized_queue p (t.phases p) u.next a.seized t.rest w.host.queue u.seized t.queue;
    each = changed m o script loses w kernel t.lost t.lost t.rest (rest_of t.rest u.seized) t.phases t.each (replied p st a h) kernel p u.next
        (record {
          proc = put_here w.host.procs p a.proc ∙ u.proc;
          task = (t.each p).task ∙ sym u.task;
          knows = subst (λ k. Knows m o script u.next k (λ n. entries p n (items_of kernel.log))) (sym (put_here w.tracer.known p h.known)) u.knows;
          stage = u.stage ∙ sym (stage_here p h.next);
          due = seized_due p (t.phases p) u.next a.seized t.rest u.seized (t.each p).due;
          living = λ l. (t.each p).living (sym u.lives ∙ l);
          listed = seized_listed p (t.phases p) u.next a.seized w.host.tracees u.seized (t.each p).listed;
          sort = (t.each p).sort ∙ sym u.sort;
        })
        (λ q d ph tie. record {
          proc = put_apart w.host.procs p a.proc q d ∙ tie.proc;
          task = tie.task;
          knows = subst (λ k. Knows m o script ph k (λ n. entries q n (items_of kernel.log))) (sym (put_apart w.tracer.known p h.known q d)) tie.knows;
          stage = tie.stage ∙ ap (stage_at q) f ∙ stage_apart p q d (Some st) ∙ sym (stage_apart p q d h.next);
          due = tie.due ∙ seized_apart p q (t.phases p) u.next a.seized t.rest u.seized d;
          living = tie.living;
          listed = λ l. seized_among p q a.seized w.host.tracees (tie.listed l);
          sort = tie.sort;
        });
    told = ap₂ (λ x y. x ++ y) t.told u.printed ∙ sym (parts-append o t.past u.said);
    viewed = ap (λ x. (t.past ++ u.said) ++ (hand_at m (put t.phases p u.next) (focus_on p h.next) ++ x)) (seized_items p (t.phases p) u.next a.seized t.rest u.seized) ∙ ap (λ x. (t.past ++ u.said) ++ (x ++ items_in t.rest)) (hand_said p t.phases u.next h.next u.stage) ∙ append_assoc t.past u.said _ ∙ ap (λ x. t.past ++ x) (sym (append_assoc u.said (hand_in m p u.next) (items_in t.rest)) ∙ ap (λ x. x ++ items_in t.rest) (u.hand ∙ sym (ap (hand_at m t.phases) f))) ∙ t.viewed;
    over = λ e. absurd (not_past p h.next e);
    heeded = known_after p st w.tracer.tracees w.host.tracees a seizes t.heeded a.reply refl;
    sane = not_stuck p h.next;
    child = t.child;
    many = t.many;
    fresh = λ q l. still_fresh m o script loses w kernel p u.next t.phases u.unborn q (t.fresh q l);
  }

  next_serving : (known : ℕ → Known) (p : ℕ) (st : Awaiting) (r : Reply) → is_out r ≡ false → next_at o script known (Serving p st) r ≡ heard known p (hears o script p (known p) st r)
  next_serving known p st Out_of_turns h = absurd (cc h)
  next_serving known p st Agreed h = refl
  next_serving known p st (Status_is q x) h = refl
  next_serving known p st (Registers_are r) h = refl
  next_serving known p st (Bytes_are bytes) h = refl
  next_serving known p st (Message_is x) h = refl
  next_serving known p st (Info_is i) h = refl
  next_serving known p st (Outcome_is x) h = refl
  next_serving known p st (Errno_is n) h = refl
  next_serving known p st (Boot_refused x) h = refl

  served_here : IsMachine m → IsTexts o.texts → (t : Tied m o script loses w kernel) (p : ℕ) (st : Awaiting) → w.tracer.focus ≡ Serving p st → Served m o.follow o script p (t.phases p) (λ n. entries p n (items_of kernel.log)) (answer m (w.host.messages p) (w.host.procs p) (asks o st)) (hears o script p (w.tracer.known p) st (answer m (w.host.messages p) (w.host.procs p) (asks o st)).reply)
  served_here laws texts t p st f = rw (t.each p).proc (served m laws o texts script p (w.tracer.known p) (λ n. entries p n (items_of kernel.log)) (w.host.messages p) (t.phases p) (t.each p).knows st ((t.each p).stage ∙ ap (stage_at p) f ∙ stage_here p (Some st)))

  -- a Seize that is agreed to makes a tracee
  abbrev SeizesIt : Answered B → Type 0
  SeizesIt a = a.reply ≡ Agreed → a.seized ≡ true

  seize_made : (t : Proc B) (x : Option TraceOptions) → SeizesIt (seize t x)
  seize_made t None h = absurd (cc h)
  seize_made t (Some x) h = refl

  seize_at : (message : ℕ) (t : Proc B) (is_held : Bool) (x : Option TraceOptions) (task : Task B) (options : ℕ) → SeizesIt (answer_at m message t is_held x task (Seize options))
  seize_at message t true (Some x) (Alive b stage) options h = absurd (cc h)
  seize_at message t true (Some x) (Dying v) options h = absurd (cc h)
  seize_at message t true (Some x) Gone options h = absurd (cc h)
  seize_at message t true None task options h = seize_made t (trace_options options) h
  seize_at message t false x task options h = absurd (cc h)

  seizes_at : (message : ℕ) (t : Proc B) (st : Awaiting) → st ≡ Seizing → SeizesIt (answer m message t (asks o st))
  seizes_at message t st e = subst (λ x. SeizesIt (answer m message t (asks o x))) (sym e) (seize_at message t t.held t.options t.task (options_word o.follow))

  abbrev met_with : Host S B → Moved → World S B
  met_with h x = record { host = h; tracer = x.tracer; printed = w.printed ++ x.printed }

  serving_tied : (outcome : S → Outcome) → IsMachine m → IsTold m → IsTexts o.texts → (t : Tied m o script loses w kernel) (p : ℕ) (st : Awaiting) → w.tracer.focus ≡ Serving p st → Tied m o script loses (met o script w (Serving p st) (serve m outcome w.host (To p (asks o st))).host (serve m outcome w.host (To p (asks o st))).reply) kernel
  serving_tied outcome laws words texts t p st f =
      let a : Answered B = answer m (w.host.messages p) (w.host.procs p) (asks o st) in
      let u : Served m o.follow o script p (t.phases p) (λ n. entries p n (items_of kernel.log)) a (hears o script p (w.tracer.known p) st a.reply) = served_here laws texts t p st f in
      let ok : admits_answer (asks o st) a.reply ≡ true = rw (t.each p).proc (admitted m words o texts script (w.tracer.known p) (λ n. entries p n (items_of kernel.log)) (w.host.messages p) (t.phases p) (t.each p).knows st ((t.each p).stage ∙ ap (stage_at p) f ∙ stage_here p (Some st))) in
      subst (λ b. Tied m o script loses (met_with (answered w.host p a) (cond b (takes w.tracer (Serving p st) a.reply (next_at o script w.tracer.known (Serving p st) a.reply)) (faults w.tracer))) kernel) (sym ok)
      (subst (λ x. Tied m o script loses (met_with (answered w.host p a) (takes w.tracer (Serving p st) a.reply x)) kernel) (sym (next_serving w.tracer.known p st a.reply u.in_turns)) (replied_tied t p st f a (hears o script p (w.tracer.known p) st a.reply) (seizes_at (w.host.messages p) (w.host.procs p) st) u))

  -- Serve, while the tracer waits

  -- the same with another focus, of no process
  refocused : (t : Tied m o script loses w kernel) (focus : Focus) (taken : ℕ) (printed : List Part) → printed ≡ w.printed → ((q : ℕ) → stage_at q w.tracer.focus ≡ stage_at q focus) → ((phases : ℕ → Phase B) → hand_at m phases focus ≡ hand_at m phases w.tracer.focus) → (is_past focus ≡ true → w.host.tracees ≡ []) → is_stuck focus ≡ false → Tied m o script loses (record { host = w.host; tracer = record { known = w.tracer.known; tracees = w.tracer.tracees; focus = focus; taken = taken }; printed = printed }) kernel
  refocused t focus taken printed same stages hands over sane = record {
    phases = t.phases;
    past = t.past;
    rest = t.rest;
    lost = t.lost;
    spared = t.spared;
    shared = t.shared;
    queue = t.queue;
    each = λ q. record { proc = (t.each q).proc; task = (t.each q).task; knows = (t.each q).knows; stage = (t.each q).stage ∙ stages q; due = (t.each q).due; living = (t.each q).living; listed = (t.each q).listed; sort = (t.each q).sort };
    told = same ∙ t.told;
    viewed = ap (λ x. t.past ++ (x ++ items_in t.rest)) (hands t.phases) ∙ t.viewed;
    over = over;
    heeded = t.heeded;
    sane = sane;
    child = t.child;
    many = t.many;
    fresh = t.fresh;
  }

  no_event_hand : (p : ℕ) (ph : Phase B) → stage_of m ph ≡ Some (Resuming 0) → hand_in m p ph ≡ []
  no_event_hand p (Enter_asked b) h = absurd (cc h)
  no_event_hand p (Enter_peeking b d w n) h = absurd (cc h)
  no_event_hand p (Exit_asked b c r) h = absurd (cc h)
  no_event_hand p (Exit_setting b v) h = absurd (cc h)
  no_event_hand p (Exit_peeking b c x r d w n) h = absurd (cc h)
  no_event_hand p (Sig_asked b n cause) h = absurd (cc h)
  no_event_hand p _ h = refl

  -- Wait took this report, the tracer read it, and admitted it or not
  abbrev takes_as : ℕ → Option Stop → Moved
  takes_as p x = record { tracer = record { known = (took_status o w.tracer.known p x).known; tracees = told_tracees w.tracer.tracees p x; focus = (took_status o w.tracer.known p x).focus; taken = suc w.tracer.taken }; printed = (took_status o w.tracer.known p x).printed }

  abbrev read_as : List Report → ℕ → Stop → Option Stop → Bool → World S B
  read_as rest p s x ok = met_with (take_report w.host rest p s) (cond ok (takes_as p x) (faults w.tracer))

  abbrev waited : List Report → ℕ → Stop → World S B
  waited rest p s = read_as rest p s (Some s) true

  -- the first report is taken: what becomes of its process
  record Taken_up (lost : ℕ → Bool) (p : ℕ) (ph : Phase B) (after : List Due) (i : Due) (v : World S B) : Type 0 where
    next : Phase B
    shared : v.host.shared ≡ w.host.shared
    queue : v.host.queue ≡ map report_of after
    here : Tie m o script lost v kernel after p next
    procs : (q : ℕ) → p ≢ q → v.host.procs q ≡ w.host.procs q
    knowns : (q : ℕ) → p ≢ q → v.tracer.known q ≡ w.tracer.known q
    stages : (q : ℕ) → p ≢ q → stage_at q v.tracer.focus ≡ None
    said : List Noted
    printed : v.printed ≡ w.printed ++ parts o said
    hand : (phases : ℕ → Phase B) → said ++ hand_at m (put phases p next) v.tracer.focus ≡ items_in (i ∷ [])
    child : v.host.child ≡ w.host.child
    unborn : is_unborn next ≡ is_unborn ph
    listed : (q : ℕ) → p ≢ q → is_among q w.host.tracees ≡ true → is_among q v.host.tracees ≡ true
    not_yet : is_past v.tracer.focus ≡ true → ⊥
    read : stop_of (word_of (report_of i).stop) ≡ Some (report_of i).stop
    fits : admits_stop o p (w.tracer.known p) (Some (report_of i).stop) ≡ true
    heeded : (q : ℕ) → is_among q v.tracer.tracees ≡ true → is_among q v.host.tracees ≡ true
    sane : is_stuck v.tracer.focus ≡ false

  taken_up_tied : (t : Tied m o script loses w kernel) (i : Due) (after : List Due) → t.rest ≡ i ∷ after → w.tracer.focus ≡ Waiting → (v : World S B) → Taken_up t.lost (due_pid i) (t.phases (due_pid i)) after i v → Tied m o script loses v kernel
  taken_up_tied t i after e f v u = record {
    phases = put t.phases (due_pid i) u.next;
    past = t.past ++ u.said;
    rest = after;
    lost = t.lost;
    spared = t.spared;
    shared = u.shared ∙ t.shared;
    queue = u.queue;
    each = changed m o script loses w kernel t.lost t.lost t.rest after t.phases t.each v kernel (due_pid i) u.next u.here
        (λ q d ph tie. record {
          proc = u.procs q d ∙ tie.proc;
          task = tie.task;
          knows = subst (λ k. Knows m o script ph k (λ n. entries q n (items_of kernel.log))) (sym (u.knowns q d)) tie.knows;
          stage = tie.stage ∙ ap (stage_at q) f ∙ sym (u.stages q d);
          due = tie.due ∙ ap (dues_of q) e ∙ rw (is_not_same q (due_pid i) (λ x. d (sym x))) refl;
          living = tie.living;
          listed = λ l. u.listed q d (tie.listed l);
          sort = tie.sort;
        });
    told = u.printed ∙ ap (λ x. x ++ parts o u.said) t.told ∙ sym (parts-append o t.past u.said);
    viewed = append_assoc t.past u.said _ ∙ ap (λ x. t.past ++ x) (sym (append_assoc u.said _ (items_in after)) ∙ ap (λ x. x ++ items_in after) (u.hand t.phases) ∙ sym (items_in-append (i ∷ []) after) ∙ ap items_in (sym e) ∙ ap (λ x. hand_at m t.phases x ++ items_in t.rest) (sym f)) ∙ t.viewed;
    over = λ q. absurd (u.not_yet q);
    heeded = u.heeded;
    sane = u.sane;
    child = u.child ∙ t.child;
    many = subst (λ c. 2 ≤ c) (sym u.child) t.many;
    fresh = λ q l. still_fresh m o script loses w kernel (due_pid i) u.next t.phases u.unborn q (t.fresh q (subst (λ c. c ≤ q) u.child l));
  }

  still_among : (p q : ℕ) → p ≢ q → (ps : List ℕ) → is_among q ps ≡ true → is_among q (filter (λ x. not (p == x)) ps) ≡ true
  still_among p q d [] h = h
  still_among p q d (x ∷ ps) h = grind (arith, nat_tests, still_among p q d ps)

  due_head : (p : ℕ) (i : Due) (rest after due : List Due) → due_pid i ≡ p → rest ≡ i ∷ after → due ≡ dues_of p rest → due ≡ i ∷ dues_of p after
  due_head p i rest after due e f h = h ∙ ap (dues_of p) f ∙ rw (e, is_same p) refl

  head_is : (x i : Due) (xs ys : List Due) → x ∷ xs ≡ i ∷ ys → x ≡ i
  head_is x i xs ys e = cc

  tail_is : (x i : Due) (xs ys : List Due) → x ∷ xs ≡ i ∷ ys → xs ≡ ys
  tail_is x i xs ys e = cc

  no_item : (i : Due) (ys : List Due) → [] ≡ i ∷ ys → ⊥
  no_item i ys e = cc

  or_first : (a b : Bool) → (a || b) ≡ false → a ≡ false
  or_first true b h = absurd (cc h)
  or_first false b h = refl

  or_second : (a b : Bool) → (a || b) ≡ false → b ≡ false
  or_second true b h = absurd (cc h)
  or_second false b h = h

  -- a call that is not shown
  no_part : (p : ℕ) (b : B) (c : Call) → o.shows c.number ≡ false → part o (done_of m p b c None) ≡ []
  no_part p b c h = rw h refl

  none_among : (p : ℕ) (ps : List ℕ) → is_among p (filter (λ x. not (p == x)) ps) ≡ false
  none_among p [] = refl
  none_among p (x ∷ ps) = grind (arith, nat_tests, none_among p ps)

  among_more : (p q : ℕ) (ps : List ℕ) → is_among q (filter (λ x. not (p == x)) ps) ≡ true → is_among q ps ≡ true
  among_more p q [] h = h
  among_more p q (x ∷ ps) h = go (p == x) h (among_more p q ps)
    where
      either : (c : Bool) → (c || is_among q (filter (λ y. not (p == y)) ps)) ≡ true → (is_among q (filter (λ y. not (p == y)) ps) ≡ true → is_among q ps ≡ true) → (c || is_among q ps) ≡ true
      either true g again = refl
      either false g again = again g

      go : (b : Bool) → is_among q (cond (not b) (x ∷ filter (λ y. not (p == y)) ps) (filter (λ y. not (p == y)) ps)) ≡ true → (is_among q (filter (λ y. not (p == y)) ps) ≡ true → is_among q ps ≡ true) → ((q == x) || is_among q ps) ≡ true
      go true g again = rw (again g) (or_true m o script loses w kernel (q == x))
      go false g again = either (q == x) g again

  -- a tracee whose end was told is known no more
  without_heeded : (p : ℕ) (known tracees : List ℕ) → ((q : ℕ) → is_among q known ≡ true → is_among q tracees ≡ true) → (q : ℕ) → is_among q (filter (λ x. not (p == x)) known) ≡ true → is_among q (filter (λ x. not (p == x)) tracees) ≡ true
  without_heeded p known tracees h q l = ⊎_elim
      (λ (e : p ≡ q). absurd (cc (none_among p known, subst (λ x. is_among x (filter (λ y. not (p == y)) known) ≡ true) (sym e) l)))
      (λ (d : p ≢ q). still_among p q d tracees (h q (among_more p q known l)))
      (same_or_not p q)

  -- a stop that fits where a tracee stands
  syscall_fits : (p : ℕ) (k : Known) → traces o.follow p ≡ true → is_between k.standing ≡ true → admits_stop o p k (Some (Syscall_stop true)) ≡ true
  syscall_fits p k tr st = rw tr (go k.called.number (is_there k.saved) k.standing st)
    where
      go : (n : ℕ) (r : Bool) (x : Standing) → is_between x ≡ true → stop_fits o.follow n r x (Syscall_stop true) ≡ true
      go n r Between g = refl
      go n r (After_signal v) g = refl
      go n r _ g = absurd (cc g)

  exit_fits : (p : ℕ) (k : Known) → traces o.follow p ≡ true → was_read k.standing ≡ true → admits_stop o p k (Some (Syscall_stop true)) ≡ true
  exit_fits p k tr st = rw tr (go k.called.number (is_there k.saved) k.standing st)
    where
      go : (n : ℕ) (r : Bool) (x : Standing) → was_read x ≡ true → stop_fits o.follow n r x (Syscall_stop true) ≡ true
      go n r Read g = refl
      go n r After_event g = refl
      go n r _ g = absurd (cc g)

  signal_fits : (p : ℕ) (k : Known) (n : Signal) → traces o.follow p ≡ true → is_between k.standing ≡ true → admits_stop o p k (Some (Signal_stop n)) ≡ true
  signal_fits p k s tr st = rw tr (go k.called.number (is_there k.saved) k.standing st)
    where
      go : (n : ℕ) (r : Bool) (x : Standing) → is_between x ≡ true → stop_fits o.follow n r x (Signal_stop s) ≡ true
      go n r Between g = refl
      go n r (After_signal v) g = refl
      go n r _ g = absurd (cc g)

  group_fits : (p : ℕ) (k : Known) (n : Signal) → traces o.follow p ≡ true → k.standing ≡ After_signal n → admits_stop o p k (Some (Group_stop n)) ≡ true
  group_fits p k n tr st = rw (tr, st) (is_same n.number)

  wake_fits : (p : ℕ) (k : Known) → traces o.follow p ≡ true → k.standing ≡ Halted → admits_stop o p k (Some (Event_stop At_start)) ≡ true
  wake_fits p k tr st = rw (tr, st) refl

  start_fits : (p : ℕ) (k : Known) → traces o.follow p ≡ true → k.standing ≡ Unmet → admits_stop o p k (Some (Event_stop At_start)) ≡ true
  start_fits p k tr st = rw (tr, st) refl

  call_event_fits : (p : ℕ) (k : Known) (c : Call) (n : EventStop) → traces o.follow p ≡ true → k.standing ≡ Read → k.called ≡ c → event_fits o.follow c.number n ≡ true → admits_stop o p k (Some (Event_stop n)) ≡ true
  call_event_fits p k c n tr st called fits = rw (tr, st, called) fits

  end_admitted : (p : ℕ) (k : Known) (v : ℕ) → traces o.follow p ≡ true → fits_end k v ≡ true → admits_stop o p k (Some (Ended v)) ≡ true
  end_admitted p k v tr fits = rw tr fits

  -- the event standing leads on
  event_outside : (n : EventStop) → n ≡ At_start → event_standing n ≡ Between
  event_outside n e = ap event_standing e

  event_read : (follow : Bool) (c : ℕ) (n : EventStop) → event_fits follow c n ≡ true → was_read (event_standing n) ≡ true
  event_read follow c At_fork h = refl
  event_read follow c At_exec h = refl
  event_read follow c At_start h = absurd (cc h)

  module _ (lost : ℕ → Bool) (rest after : List Due) (waiting : w.tracer.focus ≡ Waiting) (known : (q : ℕ) → is_among q w.tracer.tracees ≡ true → is_among q w.host.tracees ≡ true) where
    at_entry : (p : ℕ) (b : B) → Tie m o script lost w kernel rest p (Enter_due b) → [] ≡ dues_of p after → Taken_up lost p (Enter_due b) after (Logged (enter_of m p b)) (waited (map report_of after) p (Syscall_stop true))
    at_entry p b tie tail = record {
      next = Enter_asked b;
      shared = refl;
      queue = refl;
      here = record {
        proc = tie.proc;
        task = tie.task;
        knows = rw (put_here w.tracer.known p (turned_over (w.tracer.known p))) (record { inside_is = ap not tie.knows.inside_is; stands = ap (λ x. cond x Between Unread) tie.knows.inside_is; one_more = tie.knows.one_more });
        stage = rw (is_same p, tie.knows.inside_is) refl;
        due = tail;
        living = tie.living;
        listed = tie.listed;
        sort = tie.sort;
      };
      procs = λ q d. refl;
      knowns = λ q d. put_apart w.tracer.known p _ q d;
      stages = λ q d. rw (is_not_same p q d) refl;
      said = [];
      printed = refl;
      hand = λ phases. ap (hand_in m p) (put_here phases p _);
      listed = λ q d l. l;
      not_yet = λ e. cc e;
      child = refl;
      unborn = refl;
      read = syscall_back;
      fits = syscall_fits p (w.tracer.known p) tie.sort tie.knows.stands;
      heeded = with_heeded p w.tracer.tracees w.host.tracees known (tie.listed refl);
      sane = refl;
    }

    at_exit : (p : ℕ) (b : B) (c : Call) (r : Option ℕ) → Tie m o script lost w kernel rest p (Exit_due b c r) → [] ≡ dues_of p after → (shown : Bool) → (o.shows (w.tracer.known p).called.number || is_there (w.tracer.known p).saved) ≡ shown → Taken_up lost p (Exit_due b c r) after (Logged (done_of m p b c r)) (waited (map report_of after) p (Syscall_stop true))
    at_exit p b c r tie tail true shown = record {
      next = Exit_asked b c r;
      shared = refl;
      queue = refl;
      here = record {
        proc = tie.proc;
        task = tie.task;
        knows = rw (put_here w.tracer.known p (turned_over (w.tracer.known p))) (record { inside_is = ap not tie.knows.inside_is; saved_is = tie.knows.saved_is; called_is = tie.knows.called_is; stands = ap (λ x. is_between (cond x Between Unread)) tie.knows.inside_is; same = tie.knows.same });
        stage = rw (is_same p, tie.knows.inside_is, tie.knows.stands, shown) refl;
        due = tail;
        living = tie.living;
        listed = tie.listed;
        sort = tie.sort;
      };
      procs = λ q d. refl;
      knowns = λ q d. put_apart w.tracer.known p _ q d;
      stages = λ q d. rw (is_not_same p q d) refl;
      said = [];
      printed = refl;
      hand = λ phases. ap (hand_in m p) (put_here phases p _);
      listed = λ q d l. l;
      not_yet = λ e. cc e;
      child = refl;
      unborn = refl;
      read = syscall_back;
      fits = exit_fits p (w.tracer.known p) tie.sort tie.knows.stands;
      heeded = with_heeded p w.tracer.tracees w.host.tracees known (tie.listed refl);
      sane = refl;
    }
    at_exit p b c (Some v) tie tail false shown = absurd (cc (ap is_there tie.knows.saved_is, or_second (o.shows (w.tracer.known p).called.number) (is_there (w.tracer.known p).saved) shown))
    at_exit p b c None tie tail false shown = record {
      next = Exit_resuming b;
      shared = refl;
      queue = refl;
      here = record {
        proc = tie.proc;
        task = tie.task;
        knows = rw (put_here w.tracer.known p (turned_over (w.tracer.known p))) (record { outside = ap not tie.knows.inside_is; between = ap (λ x. is_between (cond x Between Unread)) tie.knows.inside_is; same = tie.knows.same });
        stage = rw (is_same p, tie.knows.inside_is, tie.knows.stands, shown) refl;
        due = tail;
        living = tie.living;
        listed = tie.listed;
        sort = tie.sort;
      };
      procs = λ q d. refl;
      knowns = λ q d. put_apart w.tracer.known p _ q d;
      stages = λ q d. rw (is_not_same p q d) refl;
      said = done_of m p b c None ∷ [];
      printed = ap (λ x. w.printed ++ (x ++ [])) (sym (no_part p b c (ap (λ (y : Call). o.shows y.number) (sym tie.knows.called_is) ∙ or_first _ _ shown)));
      hand = λ phases. ap (λ x. done_of m p b c None ∷ hand_in m p x) (put_here phases p _);
      listed = λ q d l. l;
      not_yet = λ e. cc e;
      child = refl;
      unborn = refl;
      read = syscall_back;
      fits = exit_fits p (w.tracer.known p) tie.sort tie.knows.stands;
      heeded = with_heeded p w.tracer.tracees w.host.tracees known (tie.listed refl);
      sane = refl;
    }

    at_signal : (p : ℕ) (b : B) (n : Signal) (cause : Cause) → Tie m o script lost w kernel rest p (Sig_due b n cause) → [] ≡ dues_of p after → Taken_up lost p (Sig_due b n cause) after (Logged (signal_of m p b n cause)) (waited (map report_of after) p (Signal_stop n))
    at_signal p b n cause tie tail = record {
      next = Sig_asked b n cause;
      shared = refl;
      queue = refl;
      here = record {
        proc = tie.proc;
        task = tie.task;
        knows = rw (put_here w.tracer.known p (stands_at (w.tracer.known p) (After_signal n))) (record { outside = tie.knows.outside; passing = refl; same = tie.knows.same });
        stage = rw (is_same p) refl;
        due = tail;
        living = tie.living;
        listed = tie.listed;
        sort = tie.sort;
      };
      procs = λ q d. refl;
      knowns = λ q d. put_apart w.tracer.known p _ q d;
      stages = λ q d. rw (is_not_same p q d) refl;
      said = [];
      printed = refl;
      hand = λ phases. ap (hand_in m p) (put_here phases p _);
      listed = λ q d l. l;
      not_yet = λ e. cc e;
      child = refl;
      unborn = refl;
      read = signal_stop_back n;
      fits = signal_fits p (w.tracer.known p) n tie.sort tie.knows.between;
      heeded = with_heeded p w.tracer.tracees w.host.tracees known (tie.listed refl);
      sane = refl;
    }

    at_halt : (p : ℕ) (b : B) (n : Signal) → Tie m o script lost w kernel rest p (Halt_due b n) → [] ≡ dues_of p after → Taken_up lost p (Halt_due b n) after (Logged (halt_of m p b n)) (waited (map report_of after) p (Group_stop n))
    at_halt p b n tie tail = record {
      next = Halt_asked b n;
      shared = refl;
      queue = refl;
      here = record {
        proc = tie.proc;
        task = tie.task;
        knows = rw (put_here w.tracer.known p (stands_at (w.tracer.known p) Halted)) (record { outside = tie.knows.0.outside; halting = refl; same = tie.knows.0.same });
        stage = rw (is_same p) refl;
        due = tail;
        living = tie.living;
        listed = tie.listed;
        sort = tie.sort;
      };
      procs = λ q d. refl;
      knowns = λ q d. put_apart w.tracer.known p _ q d;
      stages = λ q d. rw (is_not_same p q d) refl;
      said = halt_of m p b n ∷ [];
      printed = refl;
      hand = λ phases. ap (λ x. halt_of m p b n ∷ hand_in m p x) (put_here phases p _);
      listed = λ q d l. l;
      not_yet = λ e. cc e;
      child = refl;
      unborn = refl;
      read = group_stop_back n tie.knows.1;
      fits = group_fits p (w.tracer.known p) n tie.sort tie.knows.0.passing;
      heeded = with_heeded p w.tracer.tracees w.host.tracees known (tie.listed refl);
      sane = refl;
    }

    at_event : (p : ℕ) (n : EventStop) (ph next : Phase B) → Tie m o script lost w kernel rest p ph → [] ≡ dues_of p after →
        proc_of m o.follow ph ≡ proc_of m o.follow next → task_of m ph ≡ task_of m next → stage_of m next ≡ Some (Resuming 0) → Knows m o script next (stands_at (w.tracer.known p) (event_standing n)) (λ x. entries p x (items_of kernel.log)) → due_in m p next ≡ [] → is_unborn next ≡ is_unborn ph → (dead next ≡ false → dead ph ≡ false) → (reaped next ≡ false → reaped ph ≡ false) → is_traced ph ≡ is_traced next → reaped ph ≡ false → admits_stop o p (w.tracer.known p) (Some (Event_stop n)) ≡ true →
        Taken_up lost p ph after (Unlogged p n) (waited (map report_of after) p (Event_stop n))
    at_event p n ph next tie tail pr ha st kn du un de re so here fits = record {
      next = next;
      shared = refl;
      queue = refl;
      here = record {
        proc = tie.proc ∙ pr;
        task = tie.task ∙ ha;
        knows = rw (put_here w.tracer.known p (stands_at (w.tracer.known p) (event_standing n))) kn;
        stage = st ∙ sym (stage_here p (Some (Resuming 0)));
        due = du ∙ tail;
        living = λ l. tie.living (de l);
        listed = λ l. tie.listed (re l);
        sort = tie.sort ∙ so;
      };
      procs = λ q d. refl;
      knowns = λ q d. put_apart w.tracer.known p _ q d;
      stages = λ q d. rw (is_not_same p q d) refl;
      said = [];
      printed = refl;
      hand = λ phases. ap (hand_in m p) (put_here phases p next) ∙ no_event_hand p next st;
      listed = λ q d l. l;
      not_yet = λ e. cc e;
      child = refl;
      unborn = un;
      read = event_back n;
      fits = fits;
      heeded = with_heeded p w.tracer.tracees w.host.tracees known (tie.listed here);
      sane = refl;
    }

    at_end : (p v : ℕ) (mode : Mode) (st : Option Awaiting) → Tie m o script lost w kernel rest p (Dead_due v mode st) → [] ≡ dues_of p after → Taken_up lost p (Dead_due v mode st) after (Logged (exit_of p v mode)) (waited (map report_of after) p (Ended v))
    at_end p v mode st tie tail = record {
      next = Dead v;
      shared = refl;
      queue = refl;
      here = record {
        proc = put_here w.host.procs p _ ∙ ap (λ (t : Proc B). released t t.task) tie.proc;
        task = tie.task;
        knows = tt;
        stage = refl;
        due = tail;
        living = λ l. absurd (cc l);
        listed = λ l. absurd (cc l);
        sort = tie.sort;
      };
      procs = λ q d. put_apart w.host.procs p _ q d;
      knowns = λ q d. put_apart w.tracer.known p _ q d;
      stages = λ q d. refl;
      said = exit_of p v mode ∷ [];
      printed = refl;
      hand = λ phases. refl;
      listed = λ q d l. still_among p q d w.host.tracees l;
      not_yet = λ e. cc e;
      child = refl;
      unborn = refl;
      read = end_back v tie.knows.0;
      fits = end_admitted p (w.tracer.known p) v tie.sort tie.knows.1;
      heeded = without_heeded p w.tracer.tracees w.host.tracees known;
      sane = refl;
    }

    -- the head of the queue is what is due of its process
    take_up : (i : Due) (p : ℕ) → due_pid i ≡ p → rest ≡ i ∷ after → (ph : Phase B) → Tie m o script lost w kernel rest p ph → Taken_up lost p ph after i (waited (map report_of after) (report_of i).pid (report_of i).stop)
    take_up i p e f (Enter_due b) tie =
        let h : Logged (enter_of m p b) ∷ [] ≡ i ∷ dues_of p after = due_head p i rest after _ e f tie.due in
        subst (λ x. Taken_up lost p (Enter_due b) after x (waited (map report_of after) (report_of x).pid (report_of x).stop)) (head_is _ _ _ _ h) (at_entry p b tie (tail_is _ _ _ _ h))
    take_up i p e f (Exit_due b c r) tie =
        let h : Logged (done_of m p b c r) ∷ [] ≡ i ∷ dues_of p after = due_head p i rest after _ e f tie.due in
        subst (λ x. Taken_up lost p (Exit_due b c r) after x (waited (map report_of after) (report_of x).pid (report_of x).stop)) (head_is _ _ _ _ h) (at_exit p b c r tie (tail_is _ _ _ _ h) (o.shows (w.tracer.known p).called.number || is_there (w.tracer.known p).saved) refl)
    take_up i p e f (Sig_due b n cause) tie =
        let h : Logged (signal_of m p b n cause) ∷ [] ≡ i ∷ dues_of p after = due_head p i rest after _ e f tie.due in
        subst (λ x. Taken_up lost p (Sig_due b n cause) after x (waited (map report_of after) (report_of x).pid (report_of x).stop)) (head_is _ _ _ _ h) (at_signal p b n cause tie (tail_is _ _ _ _ h))
    take_up i p e f (Halt_due b n) tie =
        let h : Logged (halt_of m p b n) ∷ [] ≡ i ∷ dues_of p after = due_head p i rest after _ e f tie.due in
        subst (λ x. Taken_up lost p (Halt_due b n) after x (waited (map report_of after) (report_of x).pid (report_of x).stop)) (head_is _ _ _ _ h) (at_halt p b n tie (tail_is _ _ _ _ h))
    take_up i p e f (Wake_due b) tie =
        let h : Unlogged p At_start ∷ [] ≡ i ∷ dues_of p after = due_head p i rest after _ e f tie.due in
        subst (λ x. Taken_up lost p (Wake_due b) after x (waited (map report_of after) (report_of x).pid (report_of x).stop)) (head_is _ _ _ _ h) (at_event p At_start (Wake_due b) (Wake_resuming b) tie (tail_is _ _ _ _ h) refl refl refl (record { outside = tie.knows.outside; between = refl; same = tie.knows.same }) refl refl (λ l. refl) (λ l. refl) refl refl (wake_fits p (w.tracer.known p) tie.sort tie.knows.halting))
    take_up i p e f (Dead_due v mode st) tie =
        let h : Logged (exit_of p v mode) ∷ [] ≡ i ∷ dues_of p after = due_head p i rest after _ e f tie.due in
        subst (λ x. Taken_up lost p (Dead_due v mode st) after x (waited (map report_of after) (report_of x).pid (report_of x).stop)) (head_is _ _ _ _ h) (at_end p v mode st tie (tail_is _ _ _ _ h))
    take_up i p e f (Born_due b) tie =
        let h : Unlogged p At_start ∷ [] ≡ i ∷ dues_of p after = due_head p i rest after _ e f tie.due in
        subst (λ x. Taken_up lost p (Born_due b) after x (waited (map report_of after) (report_of x).pid (report_of x).stop)) (head_is _ _ _ _ h) (at_event p At_start (Born_due b) (Born_resuming b) tie (tail_is _ _ _ _ h) refl refl refl (record { outside = tie.knows.outside; between = refl; same = tie.knows.same }) refl refl (λ l. refl) (λ l. refl) refl refl (start_fits p (w.tracer.known p) tie.sort tie.knows.unmet))
    take_up i p e f (Event_due n b c) tie =
        let h : Unlogged p n ∷ [] ≡ i ∷ dues_of p after = due_head p i rest after _ e f tie.due in
        subst (λ x. Taken_up lost p (Event_due n b c) after x (waited (map report_of after) (report_of x).pid (report_of x).stop)) (head_is _ _ _ _ h) (at_event p n (Event_due n b c) (Event_resuming b c) tie (tail_is _ _ _ _ h) refl refl refl (record { inside_is = tie.knows.0.inside_is; saved_is = tie.knows.0.saved_is; called_is = tie.knows.0.called_is; stands = event_read o.follow c.number n tie.knows.2; same = tie.knows.0.same }) refl refl (λ l. refl) (λ l. refl) refl refl (call_event_fits p (w.tracer.known p) c n tie.sort tie.knows.1 tie.knows.0.called_is tie.knows.2))
    take_up i p e f _ tie = absurd (no_item _ _ (due_head p i rest after _ e f tie.due))

  wait_first : (t : Tied m o script loses w kernel) → w.tracer.focus ≡ Waiting → (r : Report) (rs : List Report) (rest : List Due) → t.rest ≡ rest → r ∷ rs ≡ map report_of rest → Tied m o script loses (read_as rs r.pid r.stop (stop_of (word_of r.stop)) (admits_stop o r.pid (w.tracer.known r.pid) (stop_of (word_of r.stop)))) kernel
  wait_first t f r rs [] e g = absurd (cc g)
  wait_first t f r rs (i ∷ after) e g =
      let here : r ≡ report_of i = cc g in
      let behind : rs ≡ map report_of after = cc g in
      let pid : (report_of i).pid ≡ due_pid i = report_pid i in
      let u : Taken_up t.lost (due_pid i) (t.phases (due_pid i)) after i (waited (map report_of after) (report_of i).pid (report_of i).stop) = take_up t.lost t.rest after f t.heeded i (due_pid i) refl e (t.phases (due_pid i)) (t.each (due_pid i)) in
      let ok : admits_stop o (report_of i).pid (w.tracer.known (report_of i).pid) (Some (report_of i).stop) ≡ true = rw pid u.fits in
      rw (here, behind) (subst (λ x. Tied m o script loses (read_as (map report_of after) (report_of i).pid (report_of i).stop x (admits_stop o (report_of i).pid (w.tracer.known (report_of i).pid) x)) kernel) (sym u.read)
      (subst (λ b. Tied m o script loses (read_as (map report_of after) (report_of i).pid (report_of i).stop (Some (report_of i).stop) b) kernel) (sym ok)
      (taken_up_tied t i after e f (waited (map report_of after) (report_of i).pid (report_of i).stop) u)))

  nobody_known : (known : List ℕ) → ((q : ℕ) → is_among q known ≡ true → is_among q [] ≡ true) → is_empty known ≡ true
  nobody_known [] h = refl
  nobody_known (p ∷ ps) h = absurd (cc (h p (rw (is_same p) refl)))

  wait_tied : (t : Tied m o script loses w kernel) → w.tracer.focus ≡ Waiting → (queue : List Report) → w.host.queue ≡ queue → (tracees : List ℕ) → w.host.tracees ≡ tracees → Tied m o script loses (met o script w Waiting (serve_wait w.host queue tracees).host (serve_wait w.host queue tracees).reply) kernel
  wait_tied t f [] e [] g = subst (λ b. Tied m o script loses (met_with w.host (cond b (takes w.tracer Waiting echild (stays w.tracer.known Asking_outcome)) (faults w.tracer))) kernel) (sym (nobody_known w.tracer.tracees (λ q l. ap (is_among q) (sym g) ∙ t.heeded q l))) (refocused t Asking_outcome (suc w.tracer.taken) (w.printed ++ []) (append-nil w.printed) (λ q. ap (stage_at q) f) (λ phases. sym (ap (hand_at m phases) f)) (λ q. g) refl)
  wait_tied t f [] e (q ∷ qs) g = t
  wait_tied t f (r ∷ rs) e tracees g = wait_first t f r rs t.rest refl (sym e ∙ t.queue)

  -- a request is served, if one is pending
  pub serve_tied : (outcome : S → Outcome) → IsMachine m → IsTold m → IsTexts o.texts → (t : Tied m o script loses w kernel) (focus : Focus) → w.tracer.focus ≡ focus → Tied m o script loses (happens_asked m outcome o script w focus (request o focus) Serve) kernel
  serve_tied outcome laws words texts t Booting f = t
  serve_tied outcome laws words texts t Waiting f = wait_tied t f w.host.queue refl w.host.tracees refl
  serve_tied outcome laws words texts t (Serving p st) f = serving_tied outcome laws words texts t p st f
  serve_tied outcome laws words texts t Asking_outcome f = refocused t (Over (outcome w.host.shared)) (suc w.tracer.taken) (w.printed ++ []) (append-nil w.printed) (λ q. ap (stage_at q) f) (λ phases. sym (ap (hand_at m phases) f)) (λ q. t.over (ap is_past f)) refl
  serve_tied outcome laws words texts t (Over x) f = t
  serve_tied outcome laws words texts t Turns_over f = t
  serve_tied outcome laws words texts t Faulted f = t
