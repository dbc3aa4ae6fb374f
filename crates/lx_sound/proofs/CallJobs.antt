-- No call changes what is said of a process's stop, but for SIGCONT that it sends.
use Rattle.std.proofs.Common.{◌≡◌, ℕ, Bool, true, false, cond, Option, Some, None, refl, sym, subst}
use Rattle.std.specs.Prelude.{◌==◌, not}
use Rattle.std.specs.FinMap as maps
use Rattle.std.specs.Int.{w64, to_le_bytes}
use Rattle.std.specs.declared.result.Result.{Result}
use Rattle.std.specs.declared.result.Result.TheVariants.{Ok, Err}
use Rattle.rv_mem.specs.Memory.{Memory}
use Rattle.lx_abi.specs.Errnos.{efault, einval, enosys}
use Rattle.lx_abi.specs.declared.log.Call.{Call}
use Rattle.lx_abi.specs.declared.log.Cause.TheVariants.{Sent}
use Rattle.lx_abi.specs.declared.signal.Signal.{Signal}
use Rattle.lx_model.specs.Machine.{Refused, Returns, Jumps, Execs, Bears, Blocks, Ends}
use Rattle.lx_sig.specs.Calls as signals
use Rattle.lx_sig.specs.Calls.{Outcome}
use Rattle.lx_sig.specs.Frames.{frame_at, popped_mask}
use Rattle.lx_sig.specs.Pending.{action_of}
use Rattle.lx_sig.specs.Reactions.{after_exec}
use Rattle.lx_sig.specs.Sigaction.{action_bytes, acted, may_set, new_action, sigaction, with_action}
use Rattle.lx_sig.specs.Sigprocmask.{mask_changed, may_mask, new_set, sigprocmask, with_mask}
use Rattle.lx_sig.specs.declared.state.Action.{Action}
use Rattle.lx_sig.specs.declared.state.Signals.{Signals}
use Rattle.lx_proc.specs.Answers.{Answers, argument, low_argument}
use Rattle.lx_proc.specs.Sending.{receives}
use Rattle.lx_proc.specs.State.{with_signals}
use Rattle.lx_proc.specs.declared.state.Entry.{Entry}
use Rattle.lx_proc.specs.declared.state.Life.{Life}
use Rattle.lx_proc.specs.declared.state.Life.TheVariants.{Alive, Dying, Zombie}
use Rattle.lx_proc.specs.declared.state.Shared.{Shared}
use Rattle.lx_proc.specs.declared.state.UserState.{UserState}
use Rattle.lx_fcalls.specs.Write.{sigpipe}
use Rattle.lx_fcalls.proofs.FileAnswers.{OfFiles, files_hold}
use Rattle.lx_pcalls.specs.Clone.{child_entry}
use Rattle.lx_pcalls.specs.Interruption.{interruptible, blocks_or_returns, is_interrupted}
use Rattle.lx_pcalls.specs.Kill.{sends, sent_to}
use Rattle.lx_pcalls.specs.Signals.{leaves}
use Rattle.lx_pcalls.proofs.ProcessAnswers.{OfProcesses, processes_hold}
use Rattle.lx_turn.specs.Calls.{does, called}
use Rattle.lx_sound.proofs.Jobs.{KeepsJob, SameJobs, job_stays, jobs_stay, changed_job, changed_at, received_job, told_job}

-- a child comes with its parent's entry, which is at no stop
abbrev pub AnswerJobs : ℕ → Shared → ℕ → Answers → Type 0
AnswerJobs child s p (Refused e) = Unit {0}
AnswerJobs child s p (Returns t c x) = SameJobs s.entries t.entries
AnswerJobs child s p (Jumps t c) = SameJobs s.entries t.entries
AnswerJobs child s p (Execs t c) = SameJobs s.entries t.entries
AnswerJobs child s p (Bears t c newborn) = (e : Entry) × (t.entries ≡ maps.insert s.entries child (child_entry e p))
AnswerJobs child s p Blocks = Unit {0}
AnswerJobs child s p (Ends w) = Unit {0}

-- signals of a call

abbrev OutcomeJob : Signals → Outcome → Type 0
OutcomeJob g (Err e) = Unit {0}
OutcomeJob g (Ok c) = c.signals.job ≡ g.job

either_job : (g : Signals) (t : Bool) (x y : Outcome) → OutcomeJob g x → OutcomeJob g y → OutcomeJob g (cond t x y)
either_job g true x y h k = h
either_job g false x y h k = k

left_job : (g g' : Signals) (r : Result Memory ℕ) → g'.job ≡ g.job → OutcomeJob g (signals.leaves r g')
left_job g g' (Err e) h = tt
left_job g g' (Ok m) h = h

action_job : (g : Signals) (n : ℕ) (new : Option Action) → (with_action g n new).job ≡ g.job
action_job g n None = refl
action_job g n (Some a) = refl

mask_job : (g : Signals) (how : ℕ) (new : Option ℕ) → (with_mask g how new).job ≡ g.job
mask_job g how None = refl
mask_job g how (Some set) = refl

acted_job : (g : Signals) (m : Memory) (n : ℕ) (new : Option Action) (old : ℕ) → OutcomeJob g (acted g m n new old)
unfolding acted
acted_job g m n new old = either_job g (may_set n new) _ (Err einval) (left_job g (with_action g n new) (signals.given m old (action_bytes (action_of g n))) (action_job g n new)) tt

sigaction_job : (g : Signals) (m : Memory) (call : Call) → OutcomeJob g (sigaction g m call)
unfolding sigaction
sigaction_job g m call =
    either_job g (not (argument call 3 == 8)) (Err einval) _ tt
    (either_job g (signals.is_unreadable m (argument call 1) 24) (Err efault) _ tt (acted_job g m (low_argument call 0) (new_action m (argument call 1)) (argument call 2)))

masked_job : (g : Signals) (m : Memory) (how : ℕ) (new : Option ℕ) (old : ℕ) → OutcomeJob g (mask_changed g m how new old)
unfolding mask_changed
masked_job g m how new old = either_job g (may_mask how new) _ (Err einval) (left_job g (with_mask g how new) (signals.given m old (to_le_bytes w64 g.mask)) (mask_job g how new)) tt

sigprocmask_job : (g : Signals) (m : Memory) (call : Call) → OutcomeJob g (sigprocmask g m call)
unfolding sigprocmask
sigprocmask_job g m call =
    either_job g (not (argument call 3 == 8)) (Err einval) _ tt
    (either_job g (signals.is_unreadable m (argument call 1) 8) (Err efault) _ tt (masked_job g m (argument call 0) (new_set m (argument call 1)) (argument call 2)))

sent_to_job : (e : Entry) (l : Life) (p : ℕ) (signal : Signal) → KeepsJob e.signals.job (sent_to e l p signal).signals.job
sent_to_job e Alive p signal = received_job e signal (Sent p)
sent_to_job e (Dying w) p signal = job_stays e.signals.job
sent_to_job e (Zombie w) p signal = job_stays e.signals.job

module _ (child : ℕ) (s : Shared) (p : ℕ) (call : Call) (b : UserState) where
  sends_job : (target : ℕ) (signal : Option Signal) → SameJobs s.entries (sends s p target signal).entries
  sends_job target None = jobs_stay s.entries
  sends_job target (Some signal) = changed_job s.entries target (λ e. sent_to e e.life p signal) (λ e. sent_to_job e e.life p signal)

  leaves_job : (e : Entry) → maps.get s.entries p ≡ Some e → (o : Outcome) → OutcomeJob e.signals o → AnswerJobs child s p (leaves s p b o)
  leaves_job e there (Err error) h = tt
  leaves_job e there (Ok c) h = changed_at s.entries p (λ x. with_signals x c.signals) e there (subst (KeepsJob e.signals.job) (sym h) (job_stays e.signals.job))

  file_jobs : OfFiles s p call b (AnswerJobs child s p)
  file_jobs = record {
    refuses = λ e listed. tt;
    waits = λ k. tt;
    returns = λ tree fds input console x. jobs_stay s.entries;
    writes = λ tree fds input console at bytes x. jobs_stay s.entries;
    goes = λ path. changed_job s.entries p (λ e. record e { directory = path }) (λ e. job_stays e.signals.job);
    breaks = changed_job s.entries p (λ e. receives e sigpipe (Sent p)) (λ e. received_job e sigpipe (Sent p));
  }

  process_jobs : OfProcesses s child p call b (AnswerJobs child s p)
  process_jobs = record {
    refuses = λ e listed. tt;
    waits = λ k. tt;
    returns = λ x. jobs_stay s.entries;
    loses = λ a n heap x. jobs_stay s.entries;
    gains = λ m heap x fits. jobs_stay s.entries;
    acts = λ e there k. leaves_job e there (sigaction e.signals b.memory call) (sigaction_job e.signals b.memory call);
    masks = λ e there k. leaves_job e there (sigprocmask e.signals b.memory call) (sigprocmask_job e.signals b.memory call);
    restores = λ e there. changed_at s.entries p (λ x. with_signals x (popped_mask e.signals (frame_at b.memory b.hart))) e there (job_stays e.signals.job);
    sends = λ a k is. sends_job a.pid a.signal;
    tells = λ n found k. told_job s n;
    writes = λ n at bytes found k. told_job s n;
    bears = λ e there k room. (e, refl);
    execs = λ content argv env k whole. changed_job s.entries p (λ e. with_signals e (after_exec e.signals)) (λ e. job_stays e.signals.job);
    ends = λ k. tt;
  }

  interrupted_jobs : (t : Bool) → AnswerJobs child s p (blocks_or_returns s b t)
  interrupted_jobs true = jobs_stay s.entries
  interrupted_jobs false = tt

  interruptible_jobs : (a : Answers) → AnswerJobs child s p a → AnswerJobs child s p (interruptible s p b a)
  interruptible_jobs (Refused e) h = h
  interruptible_jobs (Returns t c x) h = h
  interruptible_jobs (Jumps t c) h = h
  interruptible_jobs (Execs t c) h = h
  interruptible_jobs (Bears t c newborn) h = h
  interruptible_jobs Blocks h = interrupted_jobs (is_interrupted (maps.get s.entries p))
  interruptible_jobs (Ends w) h = h

  pub does_jobs : AnswerJobs child s p (does s child p call b)
  unfolding does
  does_jobs =
      interruptible_jobs (called s child p call b)
      (files_hold s p call b (AnswerJobs child s p) file_jobs _ (processes_hold s child p call b (AnswerJobs child s p) process_jobs (Refused enosys) tt))
