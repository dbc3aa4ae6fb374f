-- What ties the world to the plain kernel, process by process, and that a turn keeps it.
use Rattle.std.proofs.Common.{◌≡◌, ◌≢◌, ⊎_elim, ℕ, suc, ◌+◌, ◌≤◌, Bool, true, false, cond, not, List, [], ◌∷◌, ◌++◌, map, Option, Some, None, refl, sym, ap, subst, ◌∙◌, add-zero, arith, append-nil, append_assoc}
use Rattle.std.specs.Prelude.{◌==◌, ◌||◌}
use Rattle.std.specs.Option.{option_to_list}
use Rattle.std.proofs.lemmas.List.{map-append}
use Rattle.std.proofs.lemmas.List.Elements.{filter-append}
use Rattle.std.proofs.lemmas.Bool.Decides.{nat_tests}
use mathlib.Core.Path.{fun_ext}
use Rattle.lx_abi.specs.declared.status.EventStop.TheVariants.{Stop as At_start}
use Rattle.lx_abi.specs.declared.status.Stop.TheVariants.{Event as Event_stop}
use Rattle.lx_abi.specs.Log.{Noted, pid_of, items_of, entries}
use Rattle.lx_model.specs.Machine.{Machine, IsMachine}
use Rattle.lx_model.specs.declared.event.PtraceEvent.{PtraceEvent}
use Rattle.lx_model.specs.declared.event.PtraceEvent.TheVariants.{Plain, Execed, Forked}
use Rattle.lx_model.specs.Turn.{Out}
use Rattle.lx_model.specs.declared.stage.Stage.TheVariants.{Born}
use Rattle.lx_model.specs.declared.stage.Task.{Task}
use Rattle.lx_model.specs.declared.stage.Task.TheVariants.{Alive}
use Rattle.lx_model.specs.Kernel.{Script, put, traces, Kernel, after_turn, with_child, turn_of}
use Rattle.pt_model.specs.Ptrace.{Proc, Report, Host, without, stop_at, is_dying, reports_of, is_effective, proc_after, moved, newborn, inherits, bears, host_turn_of}
use Rattle.pt_model.specs.Parts.{Options}
use Rattle.pt_model.specs.Tracer.{asked_options, Awaiting, Focus, Booting, Waiting, Serving, Asking_outcome, Over, Turns_over, Faulted, is_among}
use Rattle.pt_model.specs.World.{World}
use Rattle.pt_model.specs.View.{has_exit, view, traced, parts, Due, Unlogged, items_in, report_of}
use Rattle.pt_model.specs.Headline.{IsTold}
use Rattle.pt_model.proofs.Phases.{Phase, Enter_asked, Enter_peeking, Exit_asked, Exit_setting, Exit_peeking, Sig_asked, Unborn, Born_due, Loose, dues_of, DuesOf, is_unborn, is_traced, exit_of, task_of, proc_of, due_in, stage_of, Knows, hand_in, dead, reaped, Fate, Goes_on, Says_nothing, Owes_nothing, Loses, noted_of, AllOf}
use Rattle.pt_model.proofs.Local.{Turned, turned, Birth, No_birth, Loose_birth, Traced_birth}
use Rattle.pt_model.proofs.Maps.{among_new, among_old, same_or_not, is_same, is_not_same, put_here, put_apart, items_without, without-map, noted_of-append, items_in-append, items_in-without, items_in-of, dues_without, dues_of-append, dues_of_same-without, dues_of_other-without, dues_of_task, dues_of_other, noted_of_task, noted_of_other, no_entry, entries-append, traced_task, traced-append}
use Rattle.pt_model.proofs.Views.{view-append, view_killed, drop_last_behind, without_none, has_exit-append, no_exit_other}

abbrev pub released : {B : Type 0} → Proc B → Task B → Proc B
released t h = record { task = h; held = false; options = t.options }

abbrev pub stage_at : ℕ → Focus → Option Awaiting
stage_at q (Serving p st) = cond (p == q) (Some st) None
stage_at _ _ = None

-- the item that the tracer has in hand
abbrev pub hand_at : {S B : Type 0} → Machine S B → (ℕ → Phase B) → Focus → List Noted
hand_at m phases (Serving p st) = hand_in m p (phases p)
hand_at _ _ _ = []

-- was Wait answered that no tracee is left
abbrev pub is_past : Focus → Bool
is_past Asking_outcome = true
is_past (Over x) = true
is_past _ = false

-- at a fault, or out of turns
abbrev pub is_stuck : Focus → Bool
is_stuck Turns_over = true
is_stuck Faulted = true
is_stuck _ = false

-- a process that has not ended, and the log of the tracees
pub record Living (lost : ℕ → Bool) (log : List Noted) (q : ℕ) : Type 0 where
  pub spared : lost q ≡ false
  pub no_exit : has_exit q log ≡ false

-- what ties process q
pub record Tie {S B : Type 0} (m : Machine S B) (o : Options) (script : Script) (lost : ℕ → Bool) (w : World S B) (kernel : Kernel S B) (rest : List Due) (q : ℕ) (ph : Phase B) : Type 0 where
  pub proc : w.host.procs q ≡ proc_of m o.follow ph
  pub task : kernel.tasks q ≡ task_of m ph
  pub knows : Knows m o script ph (w.tracer.known q) (λ n. entries q n (items_of kernel.log))
  pub stage : stage_of m ph ≡ stage_at q w.tracer.focus
  pub due : due_in m q ph ≡ dues_of q rest
  pub living : dead ph ≡ false → Living lost (traced o.follow kernel.log) q
  pub listed : reaped ph ≡ false → is_among q w.host.tracees ≡ true
  pub sort : traces o.follow q ≡ is_traced ph

pub record Tied {S B : Type 0} (m : Machine S B) (o : Options) (script : Script) (loses : Bool) (w : World S B) (kernel : Kernel S B) : Type 0 where
  pub phases : ℕ → Phase B
  -- the items that were printed
  pub past : List Noted
  -- what is behind the reports in the queue
  pub rest : List Due
  pub lost : ℕ → Bool
  -- where processes owe nothing at their turns
  pub spared : loses ≡ false → (q : ℕ) → lost q ≡ false
  pub shared : w.host.shared ≡ kernel.shared
  pub queue : w.host.queue ≡ map report_of rest
  pub each : (q : ℕ) → Tie m o script lost w kernel rest q (phases q)
  pub told : w.printed ≡ parts o past
  pub viewed : past ++ (hand_at m phases w.tracer.focus ++ items_in rest) ≡ view lost (traced o.follow kernel.log)
  pub over : is_past w.tracer.focus ≡ true → w.host.tracees ≡ []
  -- whom the tracer knows, the host has not let go
  pub heeded : (q : ℕ) → is_among q w.tracer.tracees ≡ true → is_among q w.host.tracees ≡ true
  pub sane : is_stuck w.tracer.focus ≡ false
  pub child : w.host.child ≡ kernel.child
  pub many : 2 ≤ w.host.child
  pub fresh : (q : ℕ) → w.host.child ≤ q → is_unborn (phases q) ≡ true

module _ {S B : Type 0} (m : Machine S B) (o : Options) (script : Script) (loses : Bool) (w : World S B) (kernel : Kernel S B) where
  -- a step that changes what ties p alone
  pub changed : (lost lost' : ℕ → Bool) (rest after : List Due) (phases : ℕ → Phase B) → ((q : ℕ) → Tie m o script lost w kernel rest q (phases q)) →
      (v : World S B) (j : Kernel S B) (p : ℕ) (next : Phase B) →
      Tie m o script lost' v j after p next →
      ((q : ℕ) → p ≢ q → (ph : Phase B) → Tie m o script lost w kernel rest q ph → Tie m o script lost' v j after q ph) →
      (q : ℕ) → Tie m o script lost' v j after q (put phases p next q)
  changed lost lost' rest after phases each v j p next here apart q = ⊎_elim
      (λ (e : p ≡ q). subst (λ x. Tie m o script lost' v j after x (put phases p next x)) e (subst (λ ph. Tie m o script lost' v j after p ph) (sym (put_here phases p next)) here))
      (λ (d : p ≢ q). subst (λ ph. Tie m o script lost' v j after q ph) (sym (put_apart phases p next q d)) (apart q d (phases q) (each q)))
      (same_or_not p q)

  -- the queue, and what is due, after a turn of p
  queue_after : (dying : Bool) (p : ℕ) (rest dues : List Due) (queue reports : List Report) → queue ≡ map report_of rest → map report_of dues ≡ reports → cond dying (without p queue) queue ++ reports ≡ map report_of (cond dying (dues_without p rest) rest ++ dues)
  queue_after true p rest dues queue reports e f = rw (e, ← f, without-map p rest) (sym (map-append report_of (dues_without p rest) dues))
  queue_after false p rest dues queue reports e f = rw (e, ← f) (sym (map-append report_of rest dues))

  pub due_after : (dying : Bool) (p : ℕ) (rest dues due : List Due) → due ≡ dues_of p rest → DuesOf p dues → cond dying [] due ++ dues ≡ dues_of p (cond dying (dues_without p rest) rest ++ dues)
  due_after true p rest dues due e task = rw (dues_of-append, dues_of_same-without, dues_of_task p dues task) refl
  due_after false p rest dues due e task = rw (dues_of-append, dues_of_task p dues task, e) refl

  pub due_apart : (dying : Bool) (p q : ℕ) → p ≢ q → (rest dues : List Due) → DuesOf p dues → dues_of q rest ≡ dues_of q (cond dying (dues_without p rest) rest ++ dues)
  due_apart true p q d rest dues task = rw (dues_of-append, dues_of_other-without p q rest d, dues_of_other p q dues d task) (sym (append-nil (dues_of q rest)))
  due_apart false p q d rest dues task = rw (dues_of-append, dues_of_other p q dues d task) (sym (append-nil (dues_of q rest)))

  -- the hand, and the view, after a turn of p
  hand_task : (p : ℕ) (ph : Phase B) → AllOf p (hand_in m p ph)
  hand_task p (Enter_asked b) = (refl, tt)
  hand_task p (Enter_peeking b d w n) = (refl, tt)
  hand_task p (Exit_asked b c r) = (refl, tt)
  hand_task p (Exit_setting b v) = (refl, tt)
  hand_task p (Exit_peeking b c x r d w n) = (refl, tt)
  hand_task p (Sig_asked b n cause) = (refl, tt)
  hand_task p _ = tt

  without_task : (p : ℕ) (items : List Noted) → AllOf p items → items_without p items ≡ []
  without_task p [] h = refl
  without_task p (i ∷ items) h = rw (h.0, is_same p, without_task p items h.1) refl

  without_other : (p q : ℕ) (items : List Noted) → p ≢ q → AllOf q items → items_without p items ≡ items
  without_other p q items d h = without_none p items (noted_of_other q p items (λ e. d (sym e)) h)

  dropped_one : (dying : Bool) (p : ℕ) (hand next : List Noted) → AllOf p hand → next ≡ cond dying [] hand → next ≡ cond dying (items_without p hand) hand
  dropped_one true p hand next task e = e ∙ sym (without_task p hand task)
  dropped_one false p hand next task e = e

  dropped_none : (dying : Bool) (p q : ℕ) (hand : List Noted) → p ≢ q → AllOf q hand → hand ≡ cond dying (items_without p hand) hand
  dropped_none true p q hand d task = sym (without_other p q hand d task)
  dropped_none false p q hand d task = refl

  hand_after : (dying : Bool) (p : ℕ) (phases : ℕ → Phase B) (next : Phase B) (focus : Focus) → hand_in m p next ≡ cond dying [] (hand_in m p (phases p)) → hand_at m (put phases p next) focus ≡ cond dying (items_without p (hand_at m phases focus)) (hand_at m phases focus)
  hand_after true p phases next Booting h = refl
  hand_after false p phases next Booting h = refl
  hand_after true p phases next Waiting h = refl
  hand_after false p phases next Waiting h = refl
  hand_after true p phases next Asking_outcome h = refl
  hand_after false p phases next Asking_outcome h = refl
  hand_after true p phases next (Over x) h = refl
  hand_after false p phases next (Over x) h = refl
  hand_after true p phases next Turns_over h = refl
  hand_after false p phases next Turns_over h = refl
  hand_after true p phases next Faulted h = refl
  hand_after false p phases next Faulted h = refl
  hand_after dying p phases next (Serving q st) h = ⊎_elim
      (λ (e : p ≡ q). subst (λ x. hand_in m x (put phases p next x) ≡ cond dying (items_without p (hand_in m x (phases x))) (hand_in m x (phases x))) e (ap (hand_in m p) (put_here phases p next) ∙ dropped_one dying p (hand_in m p (phases p)) (hand_in m p next) (hand_task p (phases p)) h))
      (λ (d : p ≢ q). ap (hand_in m q) (put_apart phases p next q d) ∙ dropped_none dying p q (hand_in m q (phases q)) d (hand_task q (phases q)))
      (same_or_not p q)

  -- what p owes
  pub no_hand : (p : ℕ) (ph : Phase B) → stage_of m ph ≡ None → hand_in m p ph ≡ []
  no_hand p (Enter_asked b) h = absurd (cc h)
  no_hand p (Enter_peeking b d w n) h = absurd (cc h)
  no_hand p (Exit_asked b c r) h = absurd (cc h)
  no_hand p (Exit_setting b v) h = absurd (cc h)
  no_hand p (Exit_peeking b c x r d w n) h = absurd (cc h)
  no_hand p (Sig_asked b n cause) h = absurd (cc h)
  no_hand p _ h = refl

  in_hand : (p : ℕ) (phases : ℕ → Phase B) (focus : Focus) → stage_of m (phases p) ≡ stage_at p focus → noted_of p (hand_at m phases focus) ≡ hand_in m p (phases p)
  in_hand p phases Booting h = sym (no_hand p (phases p) h)
  in_hand p phases Waiting h = sym (no_hand p (phases p) h)
  in_hand p phases Asking_outcome h = sym (no_hand p (phases p) h)
  in_hand p phases (Over x) h = sym (no_hand p (phases p) h)
  in_hand p phases Turns_over h = sym (no_hand p (phases p) h)
  in_hand p phases Faulted h = sym (no_hand p (phases p) h)
  in_hand p phases (Serving q st) h = ⊎_elim
      (λ (e : p ≡ q). subst (λ x. noted_of p (hand_in m x (phases x)) ≡ hand_in m p (phases p)) e (noted_of_task p (hand_in m p (phases p)) (hand_task p (phases p))))
      (λ (d : p ≢ q). noted_of_other q p (hand_in m q (phases q)) (λ e. d (sym e)) (hand_task q (phases q)) ∙ sym (no_hand p (phases p) (h ∙ rw (is_not_same q p (λ e. d (sym e))) refl)))
      (same_or_not p q)

  owed : (t : Tied m o script loses w kernel) (p : ℕ) → noted_of p (hand_at m t.phases w.tracer.focus ++ items_in t.rest) ≡ hand_in m p (t.phases p) ++ items_in (due_in m p (t.phases p))
  owed t p = rw (noted_of-append, in_hand p t.phases w.tracer.focus (t.each p).stage, (t.each p).due, items_in-of p t.rest) refl

  joined : (dying : Bool) (p : ℕ) (hand items : List Noted) (rest dues : List Due) → items_in dues ≡ items → cond dying (items_without p hand) hand ++ items_in (cond dying (dues_without p rest) rest ++ dues) ≡ cond dying (items_without p (hand ++ items_in rest)) (hand ++ items_in rest) ++ items
  joined true p hand items rest dues e = rw (items_in-append, items_in-without, e) (sym (append_assoc (items_without p hand) (items_without p (items_in rest)) items) ∙ ap (λ x. x ++ items) (sym (filter-append (λ i. not (p == pid_of i.item)) hand (items_in rest))))
  joined false p hand items rest dues e = rw (items_in-append, e) (sym (append_assoc hand (items_in rest) items))

  lost_after : (p : ℕ) {ph next : Phase B} {dying : Bool} {items : List Noted} → (ℕ → Bool) → Fate m p ph next dying items → ℕ → Bool
  lost_after p lost (Goes_on a b c) = lost
  lost_after p lost (Says_nothing a b c) = lost
  lost_after p lost (Owes_nothing a b c d) = lost
  lost_after p lost (Loses a b c x d mode e f) = put lost p true

  lost_apart : (p q : ℕ) {ph next : Phase B} {dying : Bool} {items : List Noted} → (lost : ℕ → Bool) → (f : Fate m p ph next dying items) → p ≢ q → lost_after p lost f q ≡ lost q
  unfolding lost_after
  lost_apart p q lost (Goes_on a b c) d = refl
  lost_apart p q lost (Says_nothing a b c) d = refl
  lost_apart p q lost (Owes_nothing a b c e) d = refl
  lost_apart p q lost (Loses a b c x e mode g h) d = put_apart lost p true q d

  spared_after : (p : ℕ) {ph next : Phase B} {dying : Bool} {items : List Noted} → (lost : ℕ → Bool) → (f : Fate m p ph next dying items) → (loses ≡ false → hand_in m p ph ++ items_in (due_in m p ph) ≡ []) → (loses ≡ false → (q : ℕ) → lost q ≡ false) → loses ≡ false → (q : ℕ) → lost_after p lost f q ≡ false
  unfolding lost_after
  spared_after p lost (Goes_on a b c) e h n q = h n q
  spared_after p lost (Says_nothing a b c) e h n q = h n q
  spared_after p lost (Owes_nothing a b c d) e h n q = h n q
  spared_after p lost (Loses a b c x d mode f g) e h n q = absurd (cc (d, e n))

  same_either : (b : Bool) (xs ys : List Noted) → xs ≡ ys → cond b xs ys ≡ ys
  same_either true xs ys e = e
  same_either false xs ys e = refl

  viewed_after : (t : Tied m o script loses w kernel) (p : ℕ) (next : Phase B) (dying : Bool) (items : List Noted) (f : Fate m p (t.phases p) next dying items) → AllOf p items →
      t.past ++ (cond dying (items_without p (hand_at m t.phases w.tracer.focus ++ items_in t.rest)) (hand_at m t.phases w.tracer.focus ++ items_in t.rest) ++ items) ≡ view (lost_after p t.lost f) (traced o.follow kernel.log ++ items)
  unfolding lost_after
  viewed_after t p next dying items (Goes_on a b c) task =
      let kept : t.lost p ≡ false = ((t.each p).living b).spared in
      rw (a, view-append t.lost p kept (traced o.follow kernel.log) items task, ← t.viewed) (sym (append_assoc t.past _ items))
  viewed_after t p next dying items (Says_nothing a d c) task = rw (c, same_either dying _ _ (without_none p _ (owed t p ∙ d)), append-nil {A = Noted} (hand_at m t.phases w.tracer.focus ++ items_in t.rest), append-nil {A = Noted} (traced o.follow kernel.log)) t.viewed
  viewed_after t p next dying items (Owes_nothing a b c d) task =
      let kept : t.lost p ≡ false = ((t.each p).living c).spared in
      rw (a, without_none p _ (owed t p ∙ d), view-append t.lost p kept (traced o.follow kernel.log) items task, ← t.viewed) (sym (append_assoc t.past _ items))
  viewed_after t p next dying items (Loses a b c x d mode e f) task =
      let live : Living t.lost (traced o.follow kernel.log) p = (t.each p).living c in
      rw (a, f, view_killed t.lost p mode e live.spared (traced o.follow kernel.log) live.no_exit, ← t.viewed, drop_last_behind p x t.past _ (owed t p ∙ d)) (sym (append_assoc t.past _ (exit_of p 9 mode ∷ [])))

  living_here : (p : ℕ) (ph next : Phase B) (dying : Bool) (items log : List Noted) (lost : ℕ → Bool) (f : Fate m p ph next dying items) → (dead ph ≡ false → Living lost log p) → dead next ≡ false → Living (lost_after p lost f) (log ++ items) p
  unfolding lost_after
  living_here p ph next dying items log lost (Goes_on a b c) l n = record { spared = (l b).spared; no_exit = rw (has_exit-append p log items, (l b).no_exit) c }
  living_here p ph next dying items log lost (Says_nothing a b c) l n = absurd (cc (a, n))
  living_here p ph next dying items log lost (Owes_nothing a b c d) l n = absurd (cc (b, n))
  living_here p ph next dying items log lost (Loses a b c x d mode e f) l n = absurd (cc (b, n))

  pub still_fresh : (p : ℕ) (next : Phase B) (phases : ℕ → Phase B) → is_unborn next ≡ is_unborn (phases p) → (q : ℕ) → is_unborn (phases q) ≡ true → is_unborn (put phases p next q) ≡ true
  still_fresh p next phases e q h = ⊎_elim
      (λ (d : p ≡ q). ap is_unborn (ap (put phases p next) (sym d) ∙ put_here phases p next) ∙ e ∙ ap (λ x. is_unborn (phases x)) d ∙ h)
      (λ (d : p ≢ q). ap is_unborn (put_apart phases p next q d) ∙ h)
      (same_or_not p q)

  some_task : (t : Bool) (p : ℕ) (items : List Noted) → AllOf p items → AllOf p (cond t items [])
  some_task true p items h = h
  some_task false p items h = tt

  seen_after : (p : ℕ) (ph : Phase B) (items : List Noted) → traces o.follow p ≡ is_traced ph → AllOf p items → traced o.follow (kernel.log ++ items) ≡ traced o.follow kernel.log ++ cond (is_traced ph) items []
  seen_after p ph items e task = traced-append o.follow kernel.log items ∙ ap (λ x. traced o.follow kernel.log ++ x) (traced_task o.follow p (is_traced ph) e items task)

  pub moved_tied : (t : Tied m o script loses w kernel) (p : ℕ) (by host : Out S B) → Turned m o.follow o script p (t.phases p) (w.tracer.known p) (λ n. entries p n (items_of kernel.log)) by host → (loses ≡ false → hand_in m p (t.phases p) ++ items_in (due_in m p (t.phases p)) ≡ []) → Tied m o script loses (record { host = moved w.host p (proc_of m o.follow (t.phases p)).options host; tracer = w.tracer; printed = w.printed }) (after_turn kernel p by)
  moved_tied t p by host u owes =
      let items : List Noted = cond (is_traced (t.phases p)) (option_to_list by.item) [] in
      let task : AllOf p items = some_task (is_traced (t.phases p)) p (option_to_list by.item) u.whole in
      let log : traced o.follow (kernel.log ++ (option_to_list by.item)) ≡ traced o.follow kernel.log ++ items = seen_after p (t.phases p) (option_to_list by.item) (t.each p).sort u.whole in
      record {
        phases = put t.phases p u.next;
        past = t.past;
        rest = cond (is_dying host.task) (dues_without p t.rest) t.rest ++ u.dues;
        lost = lost_after p t.lost u.fate;
        spared = spared_after p t.lost u.fate owes t.spared;
        shared = u.shared;
        queue = queue_after (is_dying host.task) p t.rest u.dues w.host.queue (reports_of p (stop_at (proc_of m o.follow (t.phases p)).options host.task host.item host.event)) t.queue u.reports;
        each = changed t.lost (lost_after p t.lost u.fate) t.rest (cond (is_dying host.task) (dues_without p t.rest) t.rest ++ u.dues) t.phases t.each (record { host = moved w.host p (proc_of m o.follow (t.phases p)).options host; tracer = w.tracer; printed = w.printed }) (after_turn kernel p by) p u.next
            (record {
              proc = put_here w.host.procs p (proc_after (proc_of m o.follow (t.phases p)).options host.task host.item host.event) ∙ u.proc;
              task = put_here kernel.tasks p by.task ∙ u.task;
              knows = subst (λ f. Knows m o script u.next (w.tracer.known p) f) (sym (fun_ext (λ n. entries-append p n kernel.log (option_to_list by.item)))) u.knows;
              stage = u.stage ∙ (t.each p).stage;
              due = u.due ∙ due_after (is_dying host.task) p t.rest u.dues (due_in m p (t.phases p)) (t.each p).due u.tasks;
              living = λ a. subst (λ l. Living (lost_after p t.lost u.fate) l p) (sym log) (living_here p (t.phases p) u.next (is_dying host.task) items (traced o.follow kernel.log) t.lost u.fate (t.each p).living a);
              listed = λ r. (t.each p).listed (u.listed r);
              sort = (t.each p).sort ∙ sym u.sort;
            })
            (λ q d ph tie. record {
              proc = put_apart w.host.procs p (proc_after (proc_of m o.follow (t.phases p)).options host.task host.item host.event) q d ∙ tie.proc;
              task = put_apart kernel.tasks p by.task q d ∙ tie.task;
              knows = subst (λ f. Knows m o script ph (w.tracer.known q) f) (sym (fun_ext (λ n. entries-append q n kernel.log (option_to_list by.item) ∙ ap (λ x. entries q n (items_of kernel.log) + x) (no_entry p q n (option_to_list by.item) d u.whole) ∙ add-zero (entries q n (items_of kernel.log))))) tie.knows;
              stage = tie.stage;
              due = tie.due ∙ due_apart (is_dying host.task) p q d t.rest u.dues u.tasks;
              living = λ a. subst (λ l. Living (lost_after p t.lost u.fate) l q) (sym log) (record { spared = lost_apart p q t.lost u.fate d ∙ (tie.living a).spared; no_exit = rw (has_exit-append q (traced o.follow kernel.log) items, (tie.living a).no_exit) (no_exit_other p q items d task) });
              listed = tie.listed;
              sort = tie.sort;
            });
        told = t.told;
        viewed = ap (λ x. t.past ++ (x ++ items_in (cond (is_dying host.task) (dues_without p t.rest) t.rest ++ u.dues))) (hand_after (is_dying host.task) p t.phases u.next w.tracer.focus u.hand) ∙ ap (λ x. t.past ++ x) (joined (is_dying host.task) p (hand_at m t.phases w.tracer.focus) items t.rest u.dues u.logged) ∙ viewed_after t p u.next (is_dying host.task) items u.fate task ∙ ap (view (lost_after p t.lost u.fate)) (sym log);
        over = t.over;
        heeded = t.heeded;
        sane = t.sane;
        child = t.child;
        many = t.many;
        fresh = λ q l. still_fresh p u.next t.phases u.unborn q (t.fresh q l);
      }

  pub turn_here : IsMachine m → IsTold m → (t : Tied m o script loses w kernel) (p : ℕ) → is_effective m w.host.shared p (w.host.procs p) ≡ true → Turned m o.follow o script p (t.phases p) (w.tracer.known p) (λ n. entries p n (items_of kernel.log)) (turn_of m script o.follow kernel p) (host_turn_of m w.host p)
  turn_here laws words t p f = rw ((t.each p).sort, (t.each p).task, ← t.shared, ← t.child, (t.each p).proc) (turned m laws words o script w.host.shared w.host.child p (w.tracer.known p) (λ n. entries p n (items_of kernel.log)) o.follow refl (t.phases p) (t.each p).knows (rw (t.each p).proc at f))

  pub or_true : (b : Bool) → (b || true) ≡ true
  or_true true = refl
  or_true false = refl

  -- a child is born
  unborn_is : (ph : Phase B) → is_unborn ph ≡ true → (x : Bool) × (ph ≡ Unborn x)
  unborn_is (Unborn x) h = (x, refl)
  unborn_is _ h = absurd (cc h)

  later : (c q : ℕ) → c ≡ q → suc c ≤ q → ⊥
  later c q e l = omega (arith, e, l)

  abbrev with_host : Host S B → World S B
  with_host h = record { host = h; tracer = w.tracer; printed = w.printed }

  abbrev kernel_born : B → Kernel S B
  kernel_born b = record { shared = kernel.shared; tasks = put kernel.tasks w.host.child (Alive b Born); child = suc w.host.child; log = kernel.log }

  child_tied : (t : Tied m o script loses w kernel) (b : B) → (is_past w.tracer.focus ≡ true → ⊥) → o.follow ≡ true → Tied m o script loses (with_host (newborn w.host b (Some (asked_options o.follow)))) (kernel_born b)
  child_tied t b going follows =
      let c : ℕ = w.host.child in
      let was : (x : Bool) × (t.phases c ≡ Unborn x) = unborn_is (t.phases c) (t.fresh c (omega arith)) in
      let tie : Tie m o script t.lost w kernel t.rest c (Unborn was.0) = subst (λ ph. Tie m o script t.lost w kernel t.rest c ph) was.1 (t.each c) in
      record {
        phases = put t.phases c (Born_due b);
        past = t.past;
        rest = t.rest ++ Unlogged c At_start ∷ [];
        lost = t.lost;
        spared = t.spared;
        shared = t.shared;
        queue = ap (λ x. x ++ record { pid = c; stop = Event_stop At_start } ∷ []) t.queue ∙ sym (map-append report_of t.rest (Unlogged c At_start ∷ []));
        each = changed t.lost t.lost t.rest (t.rest ++ Unlogged c At_start ∷ []) t.phases t.each (with_host (newborn w.host b (Some (asked_options o.follow)))) (kernel_born b) c (Born_due b)
            (record {
              proc = put_here w.host.procs c _;
              task = put_here kernel.tasks c _;
              knows = tie.knows;
              stage = tie.stage;
              due = due_after false c t.rest (Unlogged c At_start ∷ []) [] tie.due (refl, tt);
              living = tie.living;
              listed = λ l. among_new c w.host.tracees;
              sort = rw follows refl;
            })
            (λ q d ph old. record {
              proc = put_apart w.host.procs c _ q d ∙ old.proc;
              task = put_apart kernel.tasks c _ q d ∙ old.task;
              knows = old.knows;
              stage = old.stage;
              due = old.due ∙ due_apart false c q d t.rest (Unlogged c At_start ∷ []) (refl, tt);
              living = old.living;
              listed = λ l. among_old q c w.host.tracees (old.listed l);
              sort = old.sort;
            });
        told = t.told;
        viewed = ap (λ x. t.past ++ (x ++ items_in (t.rest ++ Unlogged c At_start ∷ []))) (hand_after false c t.phases (Born_due b) w.tracer.focus (ap (hand_in m c) (sym was.1))) ∙ ap (λ x. t.past ++ (hand_at m t.phases w.tracer.focus ++ x)) (items_in-append t.rest (Unlogged c At_start ∷ []) ∙ append-nil (items_in t.rest)) ∙ t.viewed;
        over = λ q. absurd (going q);
        heeded = λ q l. among_old q c w.host.tracees (t.heeded q l);
        sane = t.sane;
        child = refl;
        many = omega (arith, t.many);
        fresh = λ q l. ap is_unborn (put_apart t.phases c (Born_due b) q (λ e. later c q e l)) ∙ t.fresh q (omega (arith, l));
      }

  not_one : (follow : Bool) (c : ℕ) → follow ≡ false → 2 ≤ c → traces follow c ≡ false
  not_one true c e l = absurd (cc e)
  not_one false c e l = grind (arith, nat_tests)

  -- a child of which the tracer hears nothing
  loose_child_tied : (t : Tied m o script loses w kernel) (b : B) → o.follow ≡ false → Tied m o script loses (with_host (newborn w.host b None)) (kernel_born b)
  loose_child_tied t b alone =
      let c : ℕ = w.host.child in
      let was : (x : Bool) × (t.phases c ≡ Unborn x) = unborn_is (t.phases c) (t.fresh c (omega arith)) in
      let tie : Tie m o script t.lost w kernel t.rest c (Unborn was.0) = subst (λ ph. Tie m o script t.lost w kernel t.rest c ph) was.1 (t.each c) in
      record {
        phases = put t.phases c (Loose (Alive b Born));
        past = t.past;
        rest = t.rest;
        lost = t.lost;
        spared = t.spared;
        shared = t.shared;
        queue = t.queue;
        each = changed t.lost t.lost t.rest t.rest t.phases t.each (with_host (newborn w.host b None)) (kernel_born b) c (Loose (Alive b Born))
            (record {
              proc = put_here w.host.procs c _;
              task = put_here kernel.tasks c _;
              knows = tt;
              stage = tie.stage;
              due = tie.due;
              living = λ l. absurd (cc l);
              listed = λ l. absurd (cc l);
              sort = not_one o.follow c alone t.many;
            })
            (λ q d ph old. record {
              proc = put_apart w.host.procs c _ q d ∙ old.proc;
              task = put_apart kernel.tasks c _ q d ∙ old.task;
              knows = old.knows;
              stage = old.stage;
              due = old.due;
              living = old.living;
              listed = old.listed;
              sort = old.sort;
            });
        told = t.told;
        viewed = ap (λ x. t.past ++ (x ++ items_in t.rest)) (hand_after false c t.phases (Loose (Alive b Born)) w.tracer.focus (ap (hand_in m c) (sym was.1))) ∙ t.viewed;
        over = t.over;
        heeded = t.heeded;
        sane = t.sane;
        child = refl;
        many = omega (arith, t.many);
        fresh = λ q l. ap is_unborn (put_apart t.phases c (Loose (Alive b Born)) q (λ e. later c q e l)) ∙ t.fresh q (omega (arith, l));
      }

  at_kernel : (t : Tied m o script loses w kernel) (b : B) (h : Host S B) → Tied m o script loses (with_host h) (kernel_born b) → Tied m o script loses (with_host h) (with_child kernel (Forked b))
  at_kernel t b h u = subst (λ c. Tied m o script loses (with_host h) (record { shared = kernel.shared; tasks = put kernel.tasks c (Alive b Born); child = suc c; log = kernel.log })) t.child u

  watched_child : (t : Tied m o script loses w kernel) (b : B) → (is_past w.tracer.focus ≡ true → ⊥) → (f : Bool) → o.follow ≡ f → Tied m o script loses (with_host (newborn w.host b (cond f (Some (asked_options o.follow)) None))) (kernel_born b)
  watched_child t b going true e = child_tied t b going e
  watched_child t b going false e = loose_child_tied t b e

  none_traced : (follow : Bool) (p : ℕ) → traces follow p ≡ false → follow ≡ false
  none_traced true p h = h
  none_traced false p h = refl

  pub born_tied : (t : Tied m o script loses w kernel) (p : ℕ) (ph : Phase B) (e : PtraceEvent B) → traces o.follow p ≡ is_traced ph → (reaped ph ≡ false → is_past w.tracer.focus ≡ true → ⊥) → Birth m o.follow ph e → Tied m o script loses (with_host (bears w.host (proc_of m o.follow ph).options e)) (with_child kernel e)
  born_tied t p ph Plain sort going birth = t
  born_tied t p ph Execed sort going birth = t
  born_tied t p ph (Forked b) sort going (No_birth x) = absurd (cc x)
  born_tied t p ph (Forked b) sort going (Loose_birth x y) = at_kernel t b (newborn w.host b (inherits (proc_of m o.follow ph).options)) (subst (λ x. Tied m o script loses (with_host (newborn w.host b (inherits x))) (kernel_born b)) (sym x) (loose_child_tied t b (none_traced o.follow p (sort ∙ y))))
  born_tied t p ph (Forked b) sort going (Traced_birth x y) = at_kernel t b (newborn w.host b (inherits (proc_of m o.follow ph).options)) (subst (λ x. Tied m o script loses (with_host (newborn w.host b (inherits x))) (kernel_born b)) (sym x) (watched_child t b (going y) o.follow refl))
