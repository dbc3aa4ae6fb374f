-- The host as a value runs as the ptrace machine does.
use Rattle.std.proofs.Common.{◌≡◌, ◌≢◌, ◌⊎◌, ℕ, suc, ◌≤◌, Bool, true, false, cond, not, List, [], ◌∷◌, ◌++◌, Option, Some, None, filter, refl, sym, ap, ap₂, subst, ◌∙◌, arith, append-nil, unwrap_or}
use Rattle.std.specs.Prelude.{◌==◌}
use Rattle.std.proofs.lemmas.Bool.Decides.{nat_tests}
use Rattle.std.specs.Ordering.{nat_cmp}
use Rattle.std.proofs.lemmas.Cmp.{nat_cmp_total}
use Rattle.std.specs.FinMap as maps
use mathlib.Core.Path.{fun_ext}
use Rattle.lx_abi.specs.declared.log.Call.{Call}
use Rattle.lx_abi.specs.declared.log.Cause.{Cause}
use Rattle.lx_abi.specs.declared.log.Mode.TheVariants as mode
use Rattle.lx_abi.specs.declared.outcome.Outcome.{Outcome}
use Rattle.lx_abi.specs.declared.ptrace.Ask.{Ask}
use Rattle.lx_abi.specs.declared.ptrace.Reply.{Reply}
use Rattle.lx_abi.specs.declared.ptrace.Request.{Request}
use Rattle.lx_abi.specs.declared.ptrace.Request.TheVariants.{Boot as Boot_with, Wait, To, Outcome as Ask_outcome}
use Rattle.lx_abi.specs.declared.schedule.Event.TheVariants.{Turn, Serve}
use Rattle.lx_abi.specs.declared.script.Choice.{Choice}
use Rattle.lx_abi.specs.declared.signal.Signal.{Signal}
use Rattle.lx_abi.specs.declared.status.EventStop.TheVariants.{Stop as At_start}
use Rattle.lx_abi.specs.declared.status.Stop.{Stop}
use Rattle.lx_abi.specs.declared.status.Stop.TheVariants.{Syscall as Syscall_stop, Signal as Signal_stop, Group as Group_stop, Event as Event_stop, Ended}
use Rattle.lx_abi.specs.Scripts.{no_choice, choice_of}
use Rattle.lx_abi.specs.Log.{Noted, entries}
use Rattle.lx_model.specs.Machine.{Machine}
use Rattle.lx_model.specs.Machine.{call_of, Ran, Goes, Calls, Faults, Takes, Answer, Refused, Returns, Jumps, Execs, Bears, Blocks, Ends, Took, Passes, Stops, Kills}
use Rattle.lx_model.specs.Events.{by_pid}
use Rattle.lx_model.specs.declared.event.PtraceEvent.{PtraceEvent}
use Rattle.lx_model.specs.declared.event.PtraceEvent.TheVariants.{Plain, Execed, Forked}
use Rattle.lx_model.specs.Turn.{Out, gives, joins, stepped, chosen, result_word, answered as answered_call, halts, took, wakes, lives, killed_or, turn}
use Rattle.lx_model.specs.declared.stage.Stage.{Stage}
use Rattle.lx_model.specs.declared.stage.Stage.TheVariants.{Born, Run, Faulting, Entered, Doing, Replaced, Acted, Finished, Taken, Dropped, Stopped, Released, Woken}
use Rattle.lx_model.specs.declared.stage.Task.{Task}
use Rattle.lx_model.specs.declared.stage.Task.TheVariants.{Alive, Dying, Gone}
use Rattle.lx_model.specs.Kernel.{put, traces, choice_at, born}
use Rattle.lx_model.specs.Finite.{at, item_of, ran, bore, turn_out, running_turn, task_mode}
use Rattle.lx_abi.specs.declared.ptrace.TraceOptions.{TraceOptions}
use Rattle.pt_model.specs.Ptrace.{Proc, Report, Host, tracee_stop, stop_at, is_dying, is_there, reports_of, without, may_die, is_effective, proc_after, messages_after, moved, inherits, newborn, bears, host_turn_of}
use Rattle.pt_model.specs.Requests.{esrch, says, Answered, stopped, unseized, answer_at, answered, serve_wait, take_report, serve}
use Rattle.pt_model.specs.Attending.{Attending, would_answer, left_pending, serve_pending, event}
use Rattle.pt_model.specs.Hosting.{Traced, untraced, Hosting, traced_at, as_proc, proc_in, host_in, attending_in, IsFresh, no_script, message_after, traced_after, told_stop, ends_dying, wait_ready, ready_in, with_newborn, with_birth, hosted, Hosted, refuses, with_answer, hosting_to, released, took_report, hosting_wait, hosting_serve, hosting_pending, first_hosting}
use Rattle.pt_model.specs.HostLaws.{HostsTurnAlike, HostsServeAlike, HostsAttendAlike, HostsBeginAlike, HostsRunTheKernel, EmptyScriptIsNone, TurnsTell, HostsAreReady, HostsAreAble}
use Rattle.lx_model.proofs.Bridge.{same_key, at-insert, at-placed, one_first, tasks_first}

-- Maps

same_where : {X : Type 0} (f : ℕ → X) (p q : ℕ) (b : Bool) → (p == q) ≡ b → cond b (f p) (f q) ≡ f q
same_where f p q true e = ap f (equal e)
  where
    equal : (p == q) ≡ true → p ≡ q
    equal h = grind (arith, nat_tests)
same_where f p q false e = refl

pub put_same : {X : Type 0} (f : ℕ → X) (p : ℕ) → put f p (f p) ≡ f
put_same f p = fun_ext (λ q. same_where f p q (p == q) refl)

abbrev procs_by : {B : Type 0} → (ℕ → Task B) → (ℕ → Traced) → ℕ → Proc B
procs_by f s q = as_proc (f q) (s q)

abbrev messages_by : (ℕ → Traced) → ℕ → ℕ
messages_by s q = (s q).message

-- what is kept, and the own parts, changed at one process
procs_put : {B : Type 0} (f g : ℕ → Task B) (s t : ℕ → Traced) (p : ℕ) (task : Task B) (x : Traced) → g ≡ put f p task → t ≡ put s p x → (λ q. as_proc (g q) (t q)) ≡ put (λ q. as_proc (f q) (s q)) p (as_proc task x)
procs_put f g s t p task x e h = ap₂ procs_by e h ∙ fun_ext (λ q. go q (p == q))
  where
    go : (q : ℕ) (b : Bool) → as_proc (cond b task (f q)) (cond b x (s q)) ≡ cond b (as_proc task x) (as_proc (f q) (s q))
    go q true = refl
    go q false = refl

messages_put : (s t : ℕ → Traced) (p : ℕ) (x : Traced) → t ≡ put s p x → (λ q. (t q).message) ≡ put (λ q. (s q).message) p x.message
messages_put s t p x h = ap messages_by h ∙ fun_ext (λ q. go q (p == q))
  where
    go : (q : ℕ) (b : Bool) → (cond b x (s q)).message ≡ cond b x.message (s q).message
    go q true = refl
    go q false = refl

-- Freshness

abbrev Fresh : ℕ → maps.FinMap nat_cmp Traced → Type 0
Fresh child traced = (q : ℕ) → child ≤ q → maps.get traced q ≡ None

kept_of : (traced : maps.FinMap nat_cmp Traced) (p : ℕ) (x : Option Traced) → maps.get traced p ≡ x → is_there x ≡ false → at untraced traced p ≡ untraced
kept_of traced p None e h = rw e refl
kept_of traced p (Some t) e h = absurd (cc h)

is_kept : (x : Option Traced) → (unwrap_or x untraced).held ≡ true → is_there x ≡ true
is_kept None h = absurd (cc h)
is_kept (Some t) h = refl

is_watched : (x : Option Traced) (w : TraceOptions) → (unwrap_or x untraced).options ≡ Some w → is_there x ≡ true
is_watched None w h = absurd (cc h)
is_watched (Some t) w h = refl

fresh_insert : (child : ℕ) (traced : maps.FinMap nat_cmp Traced) (p : ℕ) (x : Traced) → Fresh child traced → is_there (maps.get traced p) ≡ true → Fresh child (maps.insert traced p x)
fresh_insert child traced p x f h q l = rw (maps.get-insert nat_cmp_total traced p x q, same_key q p) (go (p == q) refl)
  where
    go : (b : Bool) → (p == q) ≡ b → cond b (Some x) (maps.get traced q) ≡ None
    go false e = f q l
    go true e = absurd (cc (h, ap is_there (ap (maps.get traced) (equal e) ∙ f q l)))
      where
        equal : (p == q) ≡ true → p ≡ q
        equal h = grind (arith, nat_tests)

fresh_child : (child : ℕ) (traced : maps.FinMap nat_cmp Traced) (x : Traced) → Fresh child traced → Fresh (suc child) (maps.insert traced child x)
fresh_child child traced x f q l =
    let d : (child == q) ≡ false = grind (arith, nat_tests) in
    rw (maps.get-insert nat_cmp_total traced child x q, same_key q child, d) (f q (omega (arith, l)))

-- Turns

no_chosen : {S B : Type 0} (m : Machine S B) (traced : Bool) (count : ℕ → ℕ) (task : Task B) → choice_at m no_script traced count task ≡ no_choice
no_chosen m true count (Alive b stage) = refl
no_chosen m true count (Dying w) = refl
no_chosen m true count Gone = refl
no_chosen m false count task = refl

pub empty_script_is_none : EmptyScriptIsNone
unfolding choice_of
empty_script_is_none = refl

abbrev host_by : {S B : Type 0} → S → (ℕ → Proc B) → List Report → List ℕ → (ℕ → ℕ) → ℕ → Host S B
host_by s f queue tracees k child = record { shared = s; procs = f; queue = queue; tracees = tracees; messages = k; child = child }

same_host : {S B : Type 0} (s : S) (f g : ℕ → Proc B) (queue : List Report) (tracees : List ℕ) (k l : ℕ → ℕ) (child : ℕ) → f ≡ g → k ≡ l →
    host_by s f queue tracees k child ≡ host_by s g queue tracees l child
same_host s f g queue tracees k l child e h = ap₂ (λ a b. host_by s a queue tracees b child) e h

module _ {S B : Type 0} (m : Machine S B) where
  -- who takes a turn and is no tracee is not held
  idle : (s : S) (p : ℕ) (held : Bool) (w : Option TraceOptions) (task : Task B) → cond held (may_die m s p w task) true ≡ true → w ≡ None → held ≡ false
  idle s p true None task e h = absurd (cc e)
  idle s p true (Some w) task e h = absurd (cc h)
  idle s p false w task e h = refl

  -- what the turn leaves, before a child is born
  abbrev unborn : Hosting S B → ℕ → Traced → Out S B → Hosting S B
  unborn v p t o = record {
    running = ran v.running p o;
    traced = traced_after v.traced p v.running.child t.message t.options o.task o.item o.event;
    queue = cond (is_dying o.task) (without p v.queue) v.queue ++ reports_of p (stop_at t.options o.task o.item o.event);
    tracees = v.tracees;
    turns = v.turns ++ p ∷ [];
    pending = v.pending;
  }

  message_put : (messages : ℕ → ℕ) (p child : ℕ) (w : TraceOptions) (e : PtraceEvent B) → put messages p (message_after (messages p) p w (by_pid child e)) ≡ messages_after messages p child (Some w) e
  message_put messages p child w Plain = put_same messages p
  message_put messages p child w Execed = go w.execs
    where
      go : (b : Bool) → put messages p (cond b p (messages p)) ≡ cond b (put messages p p) messages
      go true = refl
      go false = put_same messages p
  message_put messages p child w (Forked b) = go w.forks
    where
      go : (b : Bool) → put messages p (cond b child (messages p)) ≡ cond b (put messages p child) messages
      go true = refl
      go false = put_same messages p

  after_is : (v : Hosting S B) (p : ℕ) (o : Out S B) (w : Option TraceOptions) → (traced_at v p).options ≡ w → (w ≡ None → (traced_at v p).held ≡ false) →
      host_in (record { running = ran v.running p o; traced = traced_after v.traced p v.running.child (traced_at v p).message w o.task o.item o.event; queue = cond (is_dying o.task) (without p v.queue) v.queue ++ reports_of p (stop_at w o.task o.item o.event); tracees = v.tracees; turns = v.turns ++ p ∷ []; pending = v.pending })
      ≡ moved (host_in v) p w o
  after_is v p o None e h = same_host o.shared _ _ _ v.tracees _ _ v.running.child
      (procs_put (at Gone v.running.tasks) _ (traced_at v) (traced_at v) p o.task (traced_at v p) (at-placed v.running.tasks p o.task) (sym (put_same (traced_at v) p)) ∙ ap (put (proc_in v) p) (unwatched (traced_at v p) e (h refl)))
      refl
    where
      unwatched : (t : Traced) → t.options ≡ None → t.held ≡ false → as_proc o.task t ≡ proc_after None o.task o.item o.event
      unwatched t f g = rw (f, g) refl
  after_is v p o (Some w) e h = same_host o.shared _ _ _ v.tracees _ _ v.running.child
      (procs_put (at Gone v.running.tasks) _ (traced_at v) _ p o.task x (at-placed v.running.tasks p o.task) (at-insert untraced v.traced p x))
      (messages_put (traced_at v) _ p x (at-insert untraced v.traced p x) ∙ message_put (λ q. (traced_at v q).message) p v.running.child w o.event)
    where
      x : Traced
      x = record { held = is_there (tracee_stop w o.task o.item o.event); options = Some w; message = message_after (traced_at v p).message p w (by_pid v.running.child o.event) }

  -- a child
  abbrev with_user : Hosting S B → PtraceEvent B → Hosting S B
  with_user v e = record { running = bore v.running e; traced = v.traced; queue = v.queue; tracees = v.tracees; turns = v.turns; pending = v.pending }

  unknown : (v : Hosting S B) → IsFresh v → traced_at v v.running.child ≡ untraced
  unknown v fresh = rw (fresh v.running.child (omega arith)) refl

  child_is : (v : Hosting S B) (b : B) (w : Option TraceOptions) → IsFresh v → host_in (with_newborn (with_user v (Forked b)) v.running.child w) ≡ newborn (host_in v) b w
  child_is v b None fresh =
      let c : ℕ = v.running.child in
      same_host v.running.shared _ _ v.queue v.tracees _ _ (suc c)
      (procs_put (at Gone v.running.tasks) _ (traced_at v) (traced_at v) c (Alive b Born) (traced_at v c) (at-insert Gone v.running.tasks c (Alive b Born)) (sym (put_same (traced_at v) c)) ∙ ap (λ t. put (proc_in v) c (as_proc (Alive b Born) t)) (unknown v fresh))
      refl
  child_is v b (Some w) fresh =
      let c : ℕ = v.running.child in
      let x : Traced = record { held = true; options = Some w; message = 0 } in
      same_host v.running.shared _ _ (v.queue ++ record { pid = c; stop = Event_stop At_start } ∷ []) (v.tracees ++ c ∷ []) _ _ (suc c)
      (procs_put (at Gone v.running.tasks) _ (traced_at v) _ c (Alive b Born) x (at-insert Gone v.running.tasks c (Alive b Born)) (at-insert untraced v.traced c x))
      (messages_put (traced_at v) _ c x (at-insert untraced v.traced c x) ∙ ap (put (λ q. (traced_at v q).message) c) (sym (ap (λ (t : Traced). t.message) (unknown v fresh))) ∙ put_same (λ q. (traced_at v q).message) c)

  birth_is : (v : Hosting S B) (w : Option TraceOptions) (e : PtraceEvent B) → IsFresh v → host_in (with_birth (with_user v e) v.running.child w e) ≡ bears (host_in v) w e
  birth_is v w Plain fresh = refl
  birth_is v w Execed fresh = refl
  birth_is v w (Forked b) fresh = child_is v b (inherits w) fresh

  after_fresh : (child : ℕ) (traced : maps.FinMap nat_cmp Traced) (p message : ℕ) (w : Option TraceOptions) (task : Task B) (i : Option Noted) (e : PtraceEvent B) → (at untraced traced p).options ≡ w → Fresh child traced → Fresh child (traced_after traced p child message w task i e)
  after_fresh child traced p message None task i e h f = f
  after_fresh child traced p message (Some w) task i e h f = fresh_insert child traced p _ f (is_watched (maps.get traced p) w h)

  birth_fresh : (v : Hosting S B) (w : Option TraceOptions) (e : PtraceEvent B) → IsFresh v → IsFresh (with_birth (with_user v e) v.running.child w e)
  birth_fresh v w Plain f = f
  birth_fresh v w Execed f = f
  birth_fresh v w (Forked b) f = go (inherits w)
    where
      go : (x : Option TraceOptions) → IsFresh (with_newborn (with_user v (Forked b)) v.running.child x)
      go None = λ q l. f q (omega (arith, l))
      go (Some x) = fresh_child v.running.child v.traced _ f

  turn_is : (v : Hosting S B) (p : ℕ) (o : Out S B) → IsFresh v → is_effective m v.running.shared p (proc_in v p) ≡ true →
      (host_in (hosted v p (traced_at v p) o) ≡ bears (moved (host_in v) p (traced_at v p).options o) (traced_at v p).options o.event) × IsFresh (hosted v p (traced_at v p) o)
  turn_is v p o fresh eff =
      let u : Hosting S B = unborn v p (traced_at v p) o in
      let f : IsFresh u = after_fresh v.running.child v.traced p (traced_at v p).message (traced_at v p).options o.task o.item o.event refl fresh in
      (birth_is u (traced_at v p).options o.event f ∙ ap (λ h. bears h (traced_at v p).options o.event) (after_is v p o (traced_at v p).options refl (idle v.running.shared p (traced_at v p).held (traced_at v p).options (at Gone v.running.tasks p) eff)), birth_fresh u (traced_at v p).options o.event f)

  out_is : (follow : Bool) (v : Hosting S B) (p : ℕ) → turn_out m no_script follow v.running p ≡ host_turn_of m (host_in v) p
  out_is follow v p = ap (λ c. turn m c v.running.shared v.running.child p (at Gone v.running.tasks p)) (no_chosen m (traces follow p) (λ n. entries p n v.running.log) (at Gone v.running.tasks p))

  turned_is : (follow : Bool) (v : Hosting S B) (p : ℕ) → IsFresh v → (b : Bool) → is_effective m v.running.shared p (proc_in v p) ≡ b →
      (host_in (cond b (hosted v p (traced_at v p) (turn_out m no_script follow v.running p)) v) ≡ cond b (bears (moved (host_in v) p (traced_at v p).options (host_turn_of m (host_in v) p)) (traced_at v p).options (host_turn_of m (host_in v) p).event) (host_in v))
      × IsFresh (cond b (hosted v p (traced_at v p) (turn_out m no_script follow v.running p)) v)
  turned_is follow v p fresh false e = (refl, fresh)
  turned_is follow v p fresh true e = rw (out_is follow v p) (turn_is v p (host_turn_of m (host_in v) p) fresh e)

pub hosts_turn_alike : {S B : Type 0} → HostsTurnAlike S B
hosts_turn_alike m follow v p fresh = turned_is m follow v p fresh (is_effective m v.running.shared p (proc_in v p)) refl

-- Requests

module _ {S B : Type 0} (m : Machine S B) where
  abbrev Alike : Host S B → Option Reply → Hosted S B → Type 0
  Alike h r x = (host_in x.hosting ≡ h) × (x.reply ≡ r) × IsFresh x.hosting

  refuses_is : (v : Hosting S B) (p : ℕ) → IsFresh v → Alike (answered (host_in v) p (says (proc_in v p) esrch)) (Some esrch) (refuses v)
  refuses_is v p fresh = (same_host v.running.shared _ _ v.queue v.tracees _ _ v.running.child (sym (put_same (proc_in v) p)) refl, refl, fresh)

  answer_is : (v : Hosting S B) (p : ℕ) (a : Answered B) → IsFresh v → is_there (maps.get v.traced p) ≡ true → Alike (answered (host_in v) p a) (Some a.reply) (with_answer v p (traced_at v p).message a)
  answer_is v p a fresh kept = (
    same_host v.running.shared _ _ _ _ _ _ v.running.child
        (procs_put (at Gone v.running.tasks) _ (traced_at v) _ p a.proc.task x (at-placed v.running.tasks p a.proc.task) (at-insert untraced v.traced p x))
        (messages_put (traced_at v) _ p x (at-insert untraced v.traced p x) ∙ put_same (messages_by (traced_at v)) p),
    refl,
    fresh_insert v.running.child v.traced p x fresh kept,
  )
    where
      x : Traced
      x = record { held = a.proc.held; options = a.proc.options; message = (traced_at v p).message }

  to_is : (v : Hosting S B) (p : ℕ) (q : Ask) → IsFresh v → (held : Bool) (w : Option TraceOptions) (task : Task B) → (held ≡ true → is_there (maps.get v.traced p) ≡ true) →
      Alike (answered (host_in v) p (answer_at m (traced_at v p).message (proc_in v p) held w task q)) (Some (answer_at m (traced_at v p).message (proc_in v p) held w task q).reply) (hosting_to m v p (traced_at v p).message (proc_in v p) held w task q)
  to_is v p q fresh true (Some w) (Alive b stage) kept = answer_is v p (stopped m (proc_in v p) b stage (traced_at v p).message q) fresh (kept refl)
  to_is v p q fresh true (Some w) (Dying word) kept = refuses_is v p fresh
  to_is v p q fresh true (Some w) Gone kept = refuses_is v p fresh
  to_is v p q fresh true None task kept = answer_is v p (unseized (proc_in v p) q) fresh (kept refl)
  to_is v p q fresh false w task kept = refuses_is v p fresh

  -- who is waited for
  abbrev let_go : Traced → Traced
  let_go t = record { held = false; options = t.options; message = t.message }

  calm : (t : Traced) → t ≡ untraced → t ≡ let_go t
  calm t e = subst (λ x. x ≡ let_go x) (sym e) refl

  released_is : (traced : maps.FinMap nat_cmp Traced) (p : ℕ) (x : Option Traced) → maps.get traced p ≡ x → at untraced (released traced p x) ≡ put (at untraced traced) p (let_go (at untraced traced p))
  released_is traced p None e = sym (put_same (at untraced traced) p) ∙ ap (put (at untraced traced) p) (calm (at untraced traced p) (kept_of traced p None e refl))
  released_is traced p (Some t) e = at-insert untraced traced p (let_go t) ∙ ap (λ y. put (at untraced traced) p (let_go (unwrap_or y untraced))) (sym e)

  released_fresh : (child : ℕ) (traced : maps.FinMap nat_cmp Traced) (p : ℕ) (x : Option Traced) → maps.get traced p ≡ x → Fresh child traced → Fresh child (released traced p x)
  released_fresh child traced p None e f = f
  released_fresh child traced p (Some t) e f = fresh_insert child traced p _ f (ap is_there e)

  took_is : (v : Hosting S B) (rest : List Report) (p : ℕ) (stop : Stop) → IsFresh v → (host_in (took_report v rest p stop) ≡ take_report (host_in v) rest p stop) × IsFresh (took_report v rest p stop)
  took_is v rest p (Syscall_stop good) fresh = (refl, fresh)
  took_is v rest p (Signal_stop signal) fresh = (refl, fresh)
  took_is v rest p (Group_stop signal) fresh = (refl, fresh)
  took_is v rest p (Event_stop event) fresh = (refl, fresh)
  took_is v rest p (Ended word) fresh =
      let r : at untraced (released v.traced p (maps.get v.traced p)) ≡ put (traced_at v) p (let_go (traced_at v p)) = released_is v.traced p (maps.get v.traced p) refl in (
        same_host v.running.shared _ _ rest (filter (λ q. not (p == q)) v.tracees) _ _ v.running.child
            (procs_put (at Gone v.running.tasks) (at Gone v.running.tasks) (traced_at v) _ p (at Gone v.running.tasks p) (let_go (traced_at v p)) (sym (put_same (at Gone v.running.tasks) p)) r)
            (messages_put (traced_at v) _ p (let_go (traced_at v p)) r ∙ put_same (messages_by (traced_at v)) p),
        released_fresh v.running.child v.traced p (maps.get v.traced p) refl fresh,
      )

  wait_is : (v : Hosting S B) (queue : List Report) (tracees : List ℕ) → IsFresh v → Alike (serve_wait (host_in v) queue tracees).host (serve_wait (host_in v) queue tracees).reply (hosting_wait v queue tracees)
  wait_is v [] [] fresh = (refl, refl, fresh)
  wait_is v [] (q ∷ qs) fresh = (refl, refl, fresh)
  wait_is v (r ∷ rest) qs fresh =
      let t : (host_in (took_report v rest r.pid r.stop) ≡ take_report (host_in v) rest r.pid r.stop) × IsFresh (took_report v rest r.pid r.stop) = took_is v rest r.pid r.stop fresh in
      (t.0, refl, t.1)

pub hosts_serve_alike : {S B : Type 0} → HostsServeAlike S B
hosts_serve_alike m outcome v (Boot_with boot limit words) fresh = (refl, refl, fresh)
hosts_serve_alike m outcome v Wait fresh = wait_is m v v.queue v.tracees fresh
hosts_serve_alike m outcome v (To p q) fresh = to_is m v p q fresh (traced_at v p).held (traced_at v p).options (at Gone v.running.tasks p) (is_kept (maps.get v.traced p))
hosts_serve_alike m outcome v Ask_outcome fresh = (refl, refl, fresh)

-- Events

abbrev attending_by : {S B : Type 0} → Host S B → Option Request → Attending S B
attending_by h q = record { host = h; pending = q }

module _ {S B : Type 0} (m : Machine S B) where
  newborn_keeps : (v : Hosting S B) (c : ℕ) (w : Option TraceOptions) → ((with_newborn v c w).running ≡ v.running) × ((with_newborn v c w).turns ≡ v.turns) × ((with_newborn v c w).pending ≡ v.pending)
  newborn_keeps v c None = (refl, refl, refl)
  newborn_keeps v c (Some w) = (refl, refl, refl)

  birth_keeps : (v : Hosting S B) (c : ℕ) (w : Option TraceOptions) (e : PtraceEvent B) → ((with_birth v c w e).running ≡ v.running) × ((with_birth v c w e).turns ≡ v.turns) × ((with_birth v c w e).pending ≡ v.pending)
  birth_keeps v c w Plain = (refl, refl, refl)
  birth_keeps v c w Execed = (refl, refl, refl)
  birth_keeps v c w (Forked b) = newborn_keeps v c (inherits w)

  turn_keeps : (follow : Bool) (v : Hosting S B) (p : ℕ) (b : Bool) →
      ((cond b (hosted v p (traced_at v p) (turn_out m no_script follow v.running p)) v).running ≡ cond b (running_turn m no_script follow v.running p) v.running)
      × ((cond b (hosted v p (traced_at v p) (turn_out m no_script follow v.running p)) v).turns ≡ v.turns ++ cond b (p ∷ []) [])
      × ((cond b (hosted v p (traced_at v p) (turn_out m no_script follow v.running p)) v).pending ≡ v.pending)
  turn_keeps follow v p true = birth_keeps (with_user v p (turn_out m no_script follow v.running p)) v.running.child (traced_at v p).options (turn_out m no_script follow v.running p).event
    where
      with_user : Hosting S B → ℕ → Out S B → Hosting S B
      with_user v p o = record { running = bore (ran v.running p o) o.event; traced = traced_after v.traced p v.running.child (traced_at v p).message (traced_at v p).options o.task o.item o.event; queue = cond (is_dying o.task) (without p v.queue) v.queue ++ reports_of p (stop_at (traced_at v p).options o.task o.item o.event); tracees = v.tracees; turns = v.turns ++ p ∷ []; pending = v.pending }
  turn_keeps follow v p false = (refl, sym (append-nil v.turns), refl)

  answer_turns : (v : Hosting S B) (p message : ℕ) (t : Proc B) (held : Bool) (w : Option TraceOptions) (task : Task B) (q : Ask) → (hosting_to m v p message t held w task q).hosting.turns ≡ v.turns
  answer_turns v p message t true (Some w) (Alive b stage) q = refl
  answer_turns v p message t true (Some w) (Dying word) q = refl
  answer_turns v p message t true (Some w) Gone q = refl
  answer_turns v p message t true None task q = refl
  answer_turns v p message t false w task q = refl

  took_turns : (v : Hosting S B) (rest : List Report) (p : ℕ) (stop : Stop) → (took_report v rest p stop).turns ≡ v.turns
  took_turns v rest p (Syscall_stop good) = refl
  took_turns v rest p (Signal_stop signal) = refl
  took_turns v rest p (Group_stop signal) = refl
  took_turns v rest p (Event_stop event) = refl
  took_turns v rest p (Ended word) = refl

  wait_turns : (v : Hosting S B) (queue : List Report) (tracees : List ℕ) → (hosting_wait v queue tracees).hosting.turns ≡ v.turns
  wait_turns v [] [] = refl
  wait_turns v [] (q ∷ qs) = refl
  wait_turns v (r ∷ rest) qs = took_turns v rest r.pid r.stop

  serve_turns : (outcome : S → Outcome) (v : Hosting S B) (q : Request) → (hosting_serve m outcome v q).hosting.turns ≡ v.turns
  serve_turns outcome v (Boot_with boot limit words) = refl
  serve_turns outcome v Wait = wait_turns v v.queue v.tracees
  serve_turns outcome v (To p q) = answer_turns v p (traced_at v p).message (proc_in v p) (traced_at v p).held (traced_at v p).options (at Gone v.running.tasks p) q
  serve_turns outcome v Ask_outcome = refl

  pending_is : (outcome : S → Outcome) (v : Hosting S B) → IsFresh v → (x : Option Request) → v.pending ≡ x →
      (attending_in (hosting_pending m outcome v x).hosting ≡ (serve_pending m outcome (host_in v) x).attending)
      × ((hosting_pending m outcome v x).reply ≡ (serve_pending m outcome (host_in v) x).reply)
      × ((hosting_pending m outcome v x).hosting.turns ≡ v.turns ++ [])
      × IsFresh (hosting_pending m outcome v x).hosting
  pending_is outcome v fresh None e = (ap (attending_by (host_in v)) e, refl, sym (append-nil v.turns), fresh)
  pending_is outcome v fresh (Some q) e =
      let a : (host_in (hosting_serve m outcome v q).hosting ≡ (serve m outcome (host_in v) q).host) × ((hosting_serve m outcome v q).reply ≡ (serve m outcome (host_in v) q).reply) × IsFresh (hosting_serve m outcome v q).hosting = hosts_serve_alike m outcome v q fresh in
      (ap₂ (λ h r. attending_by h (left_pending q r)) a.0 a.1, a.1, serve_turns outcome v q ∙ sym (append-nil v.turns), a.2)

pub hosts_attend_alike : {S B : Type 0} → HostsAttendAlike S B
hosts_attend_alike m outcome follow v (Turn p) fresh =
    let t = hosts_turn_alike m follow v p fresh in
    let k = turn_keeps m follow v p (is_effective m v.running.shared p (proc_in v p)) in
    (ap₂ attending_by t.0 k.2, refl, k.1, t.1)
hosts_attend_alike m outcome follow v Serve fresh = pending_is m outcome v fresh v.pending refl

pub hosts_run_the_kernel : {S B : Type 0} → HostsRunTheKernel S B
hosts_run_the_kernel m follow v p = (turn_keeps m follow v p (is_effective m v.running.shared p (proc_in v p))).0

-- The beginning

traced_first : at untraced (maps.insert maps.empty 1 (record { held = true; options = None; message = 0 })) ≡ (λ q. record { held = q == 1; options = None; message = 0 })
traced_first = at-insert untraced maps.empty 1 (record { held = true; options = None; message = 0 }) ∙ fun_ext (λ q. rw (one_first q, maps.get-empty nat_cmp q) (go (q == 1)))
  where
    go : (c : Bool) → cond c (record { held = true; options = None; message = 0 }) untraced ≡ record { held = c; options = None; message = 0 }
    go true = refl
    go false = refl

pub hosts_begin_alike : {S B : Type 0} → HostsBeginAlike S B
hosts_begin_alike {S} {B} s b =
    (same_host s _ _ [] [] _ _ 2 (ap₂ procs_by (tasks_first b) traced_first) (ap messages_by traced_first), fresh)
  where
    fresh : (q : ℕ) → 2 ≤ q → maps.get (first_hosting s b).traced q ≡ None
    fresh q l =
        let d : (1 == q) ≡ false = grind (arith, nat_tests) in
        let x : Traced = record { held = true; options = None; message = 0 } in
        rw (maps.get-insert nat_cmp_total maps.empty 1 x q, same_key q 1, d) (maps.get-empty nat_cmp q)

-- What a turn tells

module _ {S B : Type 0} (m : Machine S B) (w : TraceOptions) (child : ℕ) where
  abbrev Tells : Out S B → Type 0
  Tells o = (told_stop w (task_mode o.task) (item_of o) (by_pid child o.event) ≡ tracee_stop w o.task o.item o.event) × (ends_dying (task_mode o.task) ≡ is_dying o.task)

  stepped_tells : (s : S) (p : ℕ) (b : B) (r : Ran S B) → Tells (stepped m s p b r)
  stepped_tells s p b (Goes c) = (refl, refl)
  stepped_tells s p b Calls = (refl, refl)
  stepped_tells s p b (Faults signal cause) = (refl, refl)
  stepped_tells s p b (Takes t signal cause) = (refl, refl)

  chosen_tells : (s : S) (b : B) (call : Call) (x : Option ℕ) → Tells (gives s (Alive b (chosen call x)))
  chosen_tells s b call None = (refl, refl)
  chosen_tells s b call (Some x) = (refl, refl)

  answer_tells : (s : S) (p : ℕ) (b : B) (call : Call) (a : Answer S B) → Tells (answered_call m s child p b call a)
  answer_tells s p b call (Refused e) = (refl, refl)
  answer_tells s p b call (Returns t c x) = (refl, refl)
  answer_tells s p b call (Jumps t c) = (refl, refl)
  answer_tells s p b call (Execs t c) = (refl, refl)
  answer_tells s p b call (Bears t c born) = (refl, refl)
  answer_tells s p b call Blocks = (refl, refl)
  answer_tells s p b call (Ends v) = (refl, refl)

  halts_tells : (continued : Bool) (s : S) (p : ℕ) (b : B) (signal : Signal) → Tells (halts continued m s p b signal)
  halts_tells true s p b signal = (refl, refl)
  halts_tells false s p b signal = (refl, refl)

  wakes_tells : (continued : Bool) (s : S) (p : ℕ) (b : B) (signal : Signal) → Tells (wakes continued m s p b signal)
  wakes_tells true s p b signal = (refl, refl)
  wakes_tells false s p b signal = (refl, refl)

  took_tells : (s : S) (p : ℕ) (b : B) (signal : Signal) (cause : Cause) (t : Took S B) → Tells (took m s p b signal cause t)
  took_tells s p b signal cause (Passes t c) = (refl, refl)
  took_tells s p b signal cause Stops = halts_tells (m.continued s p) s p b signal
  took_tells s p b signal cause (Kills v) = (refl, refl)

  lives_tells : (c : Choice) (s : S) (p : ℕ) (b : B) (stage : Stage) → Tells (lives m c s child p b stage)
  lives_tells c s p b Born = (refl, refl)
  lives_tells c s p b Run = stepped_tells s p b (m.step s p b)
  lives_tells c s p b (Faulting signal cause) = (refl, refl)
  lives_tells c s p b (Entered joined) = chosen_tells (joins m (joins m s p joined) p c.signal) b (call_of (m.regs b)) (result_word c)
  lives_tells c s p b (Doing call) = answer_tells s p b call (m.call s child p call b)
  lives_tells c s p b (Replaced call x) = (refl, refl)
  lives_tells c s p b (Acted call x replaced) = (refl, refl)
  lives_tells c s p b Finished = (refl, refl)
  lives_tells c s p b (Taken signal cause) = took_tells s p b signal cause (m.take s p signal cause b)
  lives_tells c s p b Dropped = (refl, refl)
  lives_tells c s p b (Stopped signal) = wakes_tells (m.continued s p) s p b signal
  lives_tells c s p b Released = (refl, refl)
  lives_tells c s p b Woken = (refl, refl)

  killed_tells : (killed : Bool) (c : Choice) (s : S) (p : ℕ) (b : B) (stage : Stage) → Tells (killed_or killed m c s child p b stage)
  killed_tells true c s p b stage = (refl, refl)
  killed_tells false c s p b stage = lives_tells c s p b stage

pub turns_tell : {S B : Type 0} → TurnsTell S B
turns_tell m c s child p (Alive b stage) w = killed_tells m w child (m.killed s p) c s p b stage
turns_tell m c s child p (Dying v) w = (refl, refl)
turns_tell m c s child p Gone w = (refl, refl)

wait_is_ready : {S B : Type 0} (h : Host S B) (queue : List Report) (tracees : List ℕ) → wait_ready queue tracees ≡ is_there (serve_wait h queue tracees).reply
wait_is_ready h [] [] = refl
wait_is_ready h [] (p ∷ ps) = refl
wait_is_ready h (r ∷ rs) ps = refl

pub hosts_are_ready : {S B : Type 0} → HostsAreReady S B
hosts_are_ready m outcome v = go v.pending
  where
    go : (x : Option Request) → ready_in x v.queue v.tracees ≡ would_answer m outcome (host_in v) x
    go None = refl
    go (Some (Boot_with boot limit words)) = refl
    go (Some Wait) = wait_is_ready (host_in v) v.queue v.tracees
    go (Some (To p q)) = refl
    go (Some Ask_outcome) = refl

-- the turn runs an instruction or changes the mode
abbrev Moves : {S B : Type 0} → Task B → Out S B → Type 0
Moves task o = (task_mode task ≡ Some mode.Run) ⊎ (task_mode o.task ≢ task_mode task)

pub hosts_are_able : {S B : Type 0} → HostsAreAble S B
hosts_are_able {S} {B} m follow v p = (
  λ h. (h.0, subst (λ (o : Out S B). Moves (at Gone v.running.tasks p) o) (out_is m follow v p) h.1),
  λ h. (h.0, subst (λ (o : Out S B). Moves (at Gone v.running.tasks p) o) (sym (out_is m follow v p)) h.1),
)
