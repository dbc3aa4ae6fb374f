-- What an answer leaves of a process and of its tracer's part.
use Rattle.std.proofs.Common.{◌≡◌, ℕ, Bool, true, false, cond, List, Option, Some, None, refl, sym, ap, subst, ◌∙◌, unwrap_or}
use Rattle.std.specs.Prelude.{is_some}
use Rattle.std.specs.Option.{option_map}
use Rattle.std.specs.Ordering.{nat_cmp}
use Rattle.std.specs.FinMap as maps
use Rattle.lx_abi.specs.declared.ptrace.Ask.{Ask}
use Rattle.lx_abi.specs.declared.ptrace.Ask.TheVariants.{Seize, SetOptions, GetRegs, SetRegs, Peek, Syscall, EventMsg, SigInfo, Listen}
use Rattle.lx_abi.specs.declared.ptrace.Reply.{Reply}
use Rattle.lx_abi.specs.declared.ptrace.Reply.TheVariants.{Done as Agreed}
use Rattle.lx_abi.specs.declared.ptrace.Request.{Request}
use Rattle.lx_model.specs.declared.stage.Stage.{Stage}
use Rattle.lx_model.specs.declared.stage.Stage.TheVariants.{Born, Run, Faulting, Entered, Doing, Replaced, Acted, Finished, Taken, Dropped, Stopped, Released, Woken}
use Rattle.lx_model.specs.declared.stage.Task.{Task}
use Rattle.lx_model.specs.declared.stage.Task.TheVariants.{Alive, Dying, Gone}
use Rattle.lx_model.specs.Finite.{at, placed, with_task}
use Rattle.lx_model.specs.Rows.{row}
use Rattle.lx_proc.specs.declared.state.Shared.{Shared}
use Rattle.lx_proc.specs.declared.state.UserState.{UserState}
use Rattle.lx_turn.specs.Linux.{linux}
use Rattle.lx_kernel.specs.Runs.{Run as KernelRun}
use Rattle.lx_kernel.specs.Tracing.{task_in, with_change, with_part}
use Rattle.lx_kernel.specs.declared.tracing.Change.TheVariants.{Resume}
use Rattle.lx_kernel.proofs.Placed.{put_same, remove_absent}
use Rattle.lx_abi.specs.declared.ptrace.TraceOptions.{TraceOptions}
use Rattle.pt_model.specs.declared.ptrace.Traced.{Traced}
use Rattle.lx_abi.specs.Options.{trace_options}
use Rattle.pt_model.specs.Ptrace.{Proc}
use Rattle.pt_model.specs.Requests.{esrch, eio, Answered, says, let_go, goes_from, stopped, seize, unseized}
use Rattle.pt_model.specs.Hosting.{Hosted, as_proc, untraced, with_answer, hosting_to}
use Rattle.pt_kernel.specs.declared.tracees.Tracees.{Tracees}
use Rattle.pt_kernel.specs.Stops.{is_alive, seize_options}
use Rattle.pt_kernel.specs.Hosts.{Linux_host, hosting_by, made, IsSwept, with_user, with_tracee, IsAnswer, GoesOn}

-- What stands already

there : (x : Option (Task UserState)) (b : UserState) (stage : Stage) → unwrap_or x Gone ≡ Alive b stage → x ≡ Some (Alive b stage)
there None b stage e = absurd (cc e)
there (Some task) b stage e = ap (λ o. Some o) e

pub same_user : (k : KernelRun) (p : ℕ) (b : UserState) (stage : Stage) → task_in k p ≡ Alive b stage → with_user k p (Alive b stage) ≡ k
same_user k p b stage e = ap (λ tasks. record k { running = record { shared = k.running.shared; tasks = tasks; child = k.running.child; log = k.running.log } }) (put_same k.running.tasks p (Alive b stage) (there (maps.get k.running.tasks p) b stage e))

abbrev with_tasks : KernelRun → maps.FinMap nat_cmp (Task UserState) → KernelRun
with_tasks k tasks = record k { running = record { shared = k.running.shared; tasks = tasks; child = k.running.child; log = k.running.log } }

kept : (k : KernelRun) (p : ℕ) (x : Option (Task UserState)) → maps.get k.running.tasks p ≡ x → (x ≡ Some Gone → ⊥) → placed k.running.tasks p (unwrap_or x Gone) ≡ k.running.tasks
kept k p None e h = remove_absent k.running.tasks p e
kept k p (Some (Alive b stage)) e h = put_same k.running.tasks p (Alive b stage) e
kept k p (Some (Dying w)) e h = put_same k.running.tasks p (Dying w) e
kept k p (Some Gone) e h = absurd (h refl)

pub task_kept : (k : KernelRun) (p : ℕ) → IsSwept k.running → with_user k p (task_in k p) ≡ k
task_kept k p swept = ap (with_tasks k) (kept k p (maps.get k.running.tasks p) refl (swept p))

pub same_tracee : (x : Tracees) (p : ℕ) (t : Traced) → maps.get x.traced p ≡ Some t → record x { traced = maps.insert x.traced p t } ≡ x
same_tracee x p t e = ap (λ m. record x { traced = m }) (put_same x.traced p t e)

pub known_there : (x : Option Traced) → (unwrap_or x untraced).held ≡ true → x ≡ Some (unwrap_or x untraced)
known_there None h = absurd (cc h)
known_there (Some t) h = refl

-- Answers that change nothing, one of the two, or the process alone

module _ (k : KernelRun) (x : Tracees) (p : ℕ) (t : Traced) (known : maps.get x.traced p ≡ Some t) where
  pub answer_reads : (b : UserState) (stage : Stage) → task_in k p ≡ Alive b stage → (a : Answered UserState) (r : Reply) → a ≡ says (as_proc (Alive b stage) t) r → IsAnswer k x p t.message a r k x
  answer_reads b stage e a r h = subst (λ c. IsAnswer k x p t.message c r k x) (sym h)
      (record { kernel = sym (same_user k p b stage e); tracees = sym (same_tracee x p t known); reply = refl })

  pub answer_sets : (b : UserState) (stage : Stage) → task_in k p ≡ Alive b stage → (a : Answered UserState) (r : Reply) (held : Bool) (w : Option TraceOptions) (x' : Tracees) →
      a ≡ says (record { task = Alive b stage; held = held; options = w }) r → x' ≡ record x { traced = maps.insert x.traced p (record { held = held; options = w; message = t.message }) } →
      IsAnswer k x p t.message a r k x'
  answer_sets b stage e a r held w x' h g = subst (λ c. IsAnswer k x p t.message c r k x') (sym h)
      (record { kernel = sym (same_user k p b stage e); tracees = g; reply = refl })

  pub answer_writes : (a : Answered UserState) (r : Reply) (task : Task UserState) (k' : KernelRun) → a ≡ says (as_proc task t) r → k' ≡ with_user k p task → IsAnswer k x p t.message a r k' x
  answer_writes a r task k' h g = subst (λ c. IsAnswer k x p t.message c r k' x) (sym h)
      (record { kernel = g; tracees = sym (same_tracee x p t known); reply = refl })

  pub unseized_reads : IsSwept k.running → (a : Answered UserState) (r : Reply) → a ≡ says (as_proc (task_in k p) t) r → IsAnswer k x p t.message a r k x
  unseized_reads swept a r h = subst (λ c. IsAnswer k x p t.message c r k x) (sym h)
      (record { kernel = sym (task_kept k p swept); tracees = sym (same_tracee x p t known); reply = refl })

  pub unseized_seizes : IsSwept k.running → (a : Answered UserState) (w : TraceOptions) (x' : Tracees) → a ≡ seize (as_proc (task_in k p) t) (Some w) → x' ≡ with_tracee x p t.message (seize (as_proc (task_in k p) t) (Some w)) → IsAnswer k x p t.message a Agreed k x'
  unseized_seizes swept a w x' h g = subst (λ c. IsAnswer k x p t.message c Agreed k x') (sym h)
      (record { kernel = sym (task_kept k p swept); tracees = g; reply = refl })

  -- Syscall

  refused_by : (b : UserState) (stage : Stage) → task_in k p ≡ Alive b stage → (y : Option Stage) (goes : Bool) (k' : KernelRun) → GoesOn k p b y goes k' → goes ≡ false → IsAnswer k x p t.message (goes_from (as_proc (Alive b stage) t) b y) eio k' x
  refused_by b stage e None goes k' g h = subst (λ l. IsAnswer k x p t.message (says (as_proc (Alive b stage) t) eio) eio l x) (sym g.1) (answer_reads b stage e (says (as_proc (Alive b stage) t) eio) eio refl)
  refused_by b stage e (Some s) goes k' g h = absurd (cc (g.0, h))

  pub syscall_refused : (b : UserState) (stage : Stage) (n : ℕ) → task_in k p ≡ Alive b stage → (goes : Bool) (k' : KernelRun) (r : Reply) → GoesOn k p b ((row stage).resume n) goes k' → goes ≡ false → r ≡ eio → IsAnswer k x p t.message (goes_from (as_proc (Alive b stage) t) b ((row stage).resume n)) r k' x
  syscall_refused b stage n e goes k' r g h reply = subst (λ q. IsAnswer k x p t.message (goes_from (as_proc (Alive b stage) t) b ((row stage).resume n)) q k' x) (sym reply)
      (refused_by b stage e ((row stage).resume n) goes k' g h)

  released_by : (b : UserState) (stage : Stage) (y : Option Stage) (goes : Bool) (k' : KernelRun) (x' : Tracees) → GoesOn k p b y goes k' → goes ≡ true →
      x' ≡ record x { traced = maps.insert x.traced p (record { held = false; options = t.options; message = t.message }) } → IsAnswer k x p t.message (goes_from (as_proc (Alive b stage) t) b y) Agreed k' x'
  released_by b stage None goes k' x' g h f = absurd (cc (g.0, h))
  released_by b stage (Some s) goes k' x' g h f = record { kernel = g.1; tracees = f; reply = refl }

  pub syscall_done : (b : UserState) (stage : Stage) (n : ℕ) (goes : Bool) (k' : KernelRun) (x' : Tracees) → GoesOn k p b ((row stage).resume n) goes k' → goes ≡ true →
      x' ≡ record x { traced = maps.insert x.traced p (record { held = false; options = t.options; message = t.message }) } → IsAnswer k x p t.message (goes_from (as_proc (Alive b stage) t) b ((row stage).resume n)) Agreed k' x'
  syscall_done b stage n goes k' x' g h f = released_by b stage ((row stage).resume n) goes k' x' g h f

-- Where a process goes on

goes_to : (k : KernelRun) (p : ℕ) (b : UserState) (to : Option Stage) → GoesOn k p b to (is_some (option_map (λ s. Alive b s) to)) (with_part k p (option_map (λ s. Alive b s) to))
goes_to k p b None = (refl, refl)
goes_to k p b (Some stage) = (refl, refl)

pub goes_on : (k : KernelRun) (p : ℕ) (b : UserState) (stage : Stage) (n : ℕ) → task_in k p ≡ Alive b stage → (goes : Bool) (k' : KernelRun) →
    goes ≡ is_some (with_change (Resume n) (task_in k p)) → k' ≡ with_part k p (with_change (Resume n) (task_in k p)) → GoesOn k p b ((row stage).resume n) goes k'
goes_on k p b stage n e goes k' there part =
    subst (λ c. GoesOn k p b ((row stage).resume n) c k') (sym (there ∙ ap (λ task. is_some (with_change (Resume n) task)) e))
    (subst (λ l. GoesOn k p b ((row stage).resume n) (is_some (option_map (λ s. Alive b s) ((row stage).resume n))) l) (sym (part ∙ ap (λ task. with_part k p (with_change (Resume n) task)) e))
    (goes_to k p b ((row stage).resume n)))

-- Listen lets go where a process stands, at a group stop alone

listened : (t : Proc UserState) (b : UserState) (stage : Stage) → goes_from t b (row stage).listen ≡ cond (is_some (row stage).listen) (let_go t b stage) (says t eio)
listened t b Born = refl
listened t b Run = refl
listened t b (Faulting signal cause) = refl
listened t b (Entered joined) = refl
listened t b (Doing call) = refl
listened t b (Replaced call r) = refl
listened t b (Acted call r replaced) = refl
listened t b Finished = refl
listened t b (Taken signal cause) = refl
listened t b Dropped = refl
listened t b (Stopped signal) = refl
listened t b Released = refl
listened t b Woken = refl

pub listens_by : (t : Proc UserState) (b : UserState) (stage : Stage) (c : Bool) → is_some (row stage).listen ≡ c → goes_from t b (row stage).listen ≡ cond c (let_go t b stage) (says t eio)
listens_by t b stage c e = listened t b stage ∙ ap (λ x. cond x (let_go t b stage) (says t eio)) e

-- Before Seize

pub not_seized : (t : Proc UserState) (q : Ask) → seize_options q ≡ None → unseized t q ≡ says t esrch
not_seized t (Seize options) e = absurd (cc e)
not_seized t (SetOptions options) e = refl
not_seized t GetRegs e = refl
not_seized t (SetRegs r) e = refl
not_seized t (Peek address length) e = refl
not_seized t (Syscall n) e = refl
not_seized t EventMsg e = refl
not_seized t SigInfo e = refl
not_seized t Listen e = refl

options_of : (o options : ℕ) → Some o ≡ Some options → o ≡ options
options_of o options e = cc

pub is_seized : (t : Proc UserState) (q : Ask) (options : ℕ) → seize_options q ≡ Some options → unseized t q ≡ seize t (trace_options options)
is_seized t (Seize o) options e = ap (λ n. seize t (trace_options n)) (options_of o options e)
is_seized t (SetOptions o) options e = absurd (cc e)
is_seized t GetRegs options e = absurd (cc e)
is_seized t (SetRegs r) options e = absurd (cc e)
is_seized t (Peek address length) options e = absurd (cc e)
is_seized t (Syscall n) options e = absurd (cc e)
is_seized t EventMsg options e = absurd (cc e)
is_seized t SigInfo options e = absurd (cc e)
is_seized t Listen options e = absurd (cc e)

-- The whole

pub alive_is : (task : Task UserState) → is_alive task ≡ true → (b : UserState) × ((stage : Stage) × (task ≡ Alive b stage))
alive_is (Alive b stage) h = (b, (stage, refl))
alive_is (Dying w) h = absurd (cc h)
alive_is Gone h = absurd (cc h)

module _ (k : KernelRun) (x : Tracees) (p : ℕ) (t : Traced) (known : t ≡ at untraced x.traced p) (q : Ask) (turns : List ℕ) (pending : Option Request) where
  abbrev v : Linux_host
  v = hosting_by k.running x turns pending

  abbrev to : Task UserState → Bool → Option TraceOptions → Hosted Shared UserState
  to task held w = hosting_to linux v p t.message (as_proc task t) held w task q

  pub answered_is : (a : Answered UserState) (r : Reply) (k' : KernelRun) (x' : Tracees) → IsAnswer k x p t.message a r k' x' → made (hosting_by k'.running x' turns pending) (Some r) ≡ with_answer v p t.message a
  answered_is a r k' x' h = ap (λ l. made (hosting_by l.running x' turns pending) (Some r)) h.kernel ∙ ap (λ y. made (hosting_by (with_task k.running p a.proc.task) y turns pending) (Some r)) h.tracees ∙ ap (λ s. made (hosting_by (with_task k.running p a.proc.task) (with_tracee x p t.message a) turns pending) (Some s)) h.reply

  abbrev to_at : Traced → Hosted Shared UserState
  to_at u = hosting_to linux v p u.message (as_proc (task_in k p) u) u.held u.options (task_in k p) q

  pub to_stopped : (b : UserState) (stage : Stage) (w : TraceOptions) (r : Reply) (k' : KernelRun) (x' : Tracees) → t.held ≡ true → t.options ≡ Some w → task_in k p ≡ Alive b stage →
      IsAnswer k x p t.message (stopped linux (as_proc (Alive b stage) t) b stage t.message q) r k' x' → made (hosting_by k'.running x' turns pending) (Some r) ≡ to_at (at untraced x.traced p)
  to_stopped b stage w r k' x' held options e h =
      answered_is (stopped linux (as_proc (Alive b stage) t) b stage t.message q) r k' x' h
      ∙ ap (λ task. to task true (Some w)) (sym e) ∙ ap (λ c. to (task_in k p) c (Some w)) (sym held) ∙ ap (λ y. to (task_in k p) t.held y) (sym options)
      ∙ ap to_at known

  pub to_unseized : (r : Reply) (x' : Tracees) → t.held ≡ true → t.options ≡ None → IsAnswer k x p t.message (unseized (as_proc (task_in k p) t) q) r k x' → made (hosting_by k.running x' turns pending) (Some r) ≡ to_at (at untraced x.traced p)
  to_unseized r x' held options h =
      answered_is (unseized (as_proc (task_in k p) t) q) r k x' h
      ∙ ap (λ c. to (task_in k p) c None) (sym held) ∙ ap (λ y. to (task_in k p) t.held y) (sym options)
      ∙ ap to_at known

  ended : (task : Task UserState) (w : TraceOptions) → is_alive task ≡ false → made v (Some esrch) ≡ to task true (Some w)
  ended (Alive b stage) w h = absurd (cc h)
  ended (Dying word) w h = refl
  ended Gone w h = refl

  pub to_ended : (w : TraceOptions) (r : Reply) → t.held ≡ true → t.options ≡ Some w → is_alive (task_in k p) ≡ false → r ≡ esrch → made v (Some r) ≡ to_at (at untraced x.traced p)
  to_ended w r held options h reply =
      ap (λ s. made v (Some s)) reply ∙ ended (task_in k p) w h
      ∙ ap (λ c. to (task_in k p) c (Some w)) (sym held) ∙ ap (λ y. to (task_in k p) t.held y) (sym options)
      ∙ ap to_at known

  pub to_free : (r : Reply) → t.held ≡ false → r ≡ esrch → made v (Some r) ≡ to_at (at untraced x.traced p)
  to_free r held reply = ap (λ s. made v (Some s)) reply ∙ ap (λ c. to (task_in k p) c t.options) (sym held) ∙ ap to_at known
