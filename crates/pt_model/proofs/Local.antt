-- One process at a time: a turn, and a served request, lead from a phase to a phase.
use Rattle.std.proofs.Common.{zero, suc, ◌≡◌, ◌⊎◌, inl, inr, ⊎_elim, ℕ, ◌+◌, ◌≤◌, Bool, true, false, cond, List, [], ◌∷◌, ◌++◌, map, Option, Some, None, length, length-append, refl, sym, ap, ap₂, subst, ◌∙◌, add-zero, append-nil, arith, unwrap_or}
use Rattle.std.specs.Prelude.{◌==◌, ◌&&◌, ◌||◌}
use Rattle.std.specs.Option.{option_to_list}
use Rattle.std.proofs.lemmas.Bool.Decides.{nat_tests}
use mathlib.Core.Path.{fun_ext}
use Rattle.lx_abi.specs.declared.log.Call.{Call}
use Rattle.lx_abi.specs.declared.log.Cause.{Cause}
use Rattle.lx_abi.specs.declared.log.Item.{Item}
use Rattle.lx_abi.specs.declared.log.Mode.{Mode}
use Rattle.lx_abi.specs.declared.log.Mode.TheVariants as mode
use Rattle.lx_abi.specs.declared.ptrace.Ask.{Ask}
use Rattle.lx_abi.specs.declared.ptrace.Ask.TheVariants.{Seize}
use Rattle.lx_abi.specs.declared.ptrace.Reply.{Reply}
use Rattle.lx_abi.specs.declared.ptrace.Reply.TheVariants.{Done as Agreed, Registers as Registers_are, OutOfTurns as Out_of_turns}
use Rattle.lx_abi.specs.declared.script.Choice.{Choice}
use Rattle.lx_abi.specs.declared.signal.Signal.{Signal}
use Rattle.lx_abi.specs.declared.status.EventStop.TheVariants.{Fork as At_fork, Exec as At_exec, Stop as At_start}
use Rattle.lx_abi.specs.Errnos.{enosys}
use Rattle.lx_abi.specs.Log.{Noted, items_of, entries}
use Rattle.lx_abi.specs.Scripts.{no_choice}
use Rattle.lx_abi.specs.Errors.{error_word}
use Rattle.lx_abi.specs.Signals.{is_signal, is_stop, signal_numbered}
use Rattle.lx_abi.specs.Status.{is_end}
use Rattle.lx_model.specs.Machine.{call_of, a0_of, a7_of, sp_of, with_a0, with_a7, Machine, IsMachine, with_result, Ran, Goes, Calls, Faults, Takes, Answer, Refused, Returns, Jumps, Execs, Bears, Blocks, Ends, Took, Passes, Stops, Kills}
use Rattle.lx_model.specs.declared.event.PtraceEvent.{PtraceEvent}
use Rattle.lx_model.specs.declared.event.PtraceEvent.TheVariants.{Plain}
use Rattle.lx_model.specs.Turn.{stage_mode, Out, gives, dies, stepped, joins, chosen, result_word, answered, halts, took, wakes, lives, killed_or, turn}
use Rattle.lx_model.specs.declared.stage.Stage.{Stage}
use Rattle.lx_model.specs.declared.stage.Stage.TheVariants.{Born, Run, Faulting, Entered, Doing, Replaced, Acted, Finished, Taken, Dropped, Stopped, Released, Woken}
use Rattle.lx_model.specs.declared.stage.Task.{Task}
use Rattle.lx_model.specs.declared.stage.Task.TheVariants.{Alive, Dying, Gone}
use Rattle.lx_model.specs.Kernel.{Script, put, choice_at}
use Rattle.pt_model.specs.Ptrace.{is_there, proc_after, is_dying, is_effective, reports_of, stop_at}
use Rattle.pt_model.specs.Requests.{Answered, says, answer, esrch, peeked}
use Rattle.pt_model.specs.Parts.{Half, At_entry, At_exit, Options, enter_part, done_part}
use Rattle.lx_abi.specs.Calls.{has_effects}
use Rattle.lx_abi.specs.Effects.{forks, execs, exits}
use Rattle.pt_model.specs.Admissible.{Standing, Unmet, Between, After_signal, Halted, Unread, Read, After_event, was_read, is_exit_word, end_fits}
use Rattle.pt_model.specs.Tracer.{Known, Awaiting, Seizing, Entry_regs, Entry_peek, Entry_set, Exit_regs, Exit_set, Exit_peek, Signal_info, Resuming, Listening, asks, asked_options, options_word, signal_word, Heard, hears, entry_with, look_entry, read_entry, exit, look_exit, read_exit, exit_with, peeked_entry, peeked_exit, bytes_of}
use Rattle.pt_model.specs.View.{may_lose, reads, read_on, most_reads, part, parts, Due, Logged, Unlogged, items_in, report_of}
use Rattle.pt_model.specs.Headline.{IsTold, IsTexts}
use Rattle.pt_model.proofs.Words.{signal_back}
use Rattle.pt_model.proofs.Registers.{hidden_number, result_back, restored}
use Rattle.pt_model.proofs.Phases.{Phase, Running, Enter_due, Enter_asked, Enter_peeking, Enter_setting, Enter_resuming, Enter_free, In_call, In_replaced, Has_acted, Exit_due, Exit_asked, Exit_setting, Exit_peeking, Exit_resuming, Exit_free, Fault_free, Sig_due, Sig_asked, Sig_resuming, Sig_free, Halt_due, Halt_asked, Halt_free, Wake_due, Wake_resuming, Wake_free, Dead_due, Dead, Nobody, Unborn, Boot_held, Born_due, Born_resuming, Born_free, Event_due, Event_resuming, Loose, DuesOf, free, held, masked, left, left_masked, call_in, result_in, acted_masked, task_of, proc_of, due_in, hand_in, stage_of, enter_of, done_of, rest_of, signal_of, halt_of, exit_of, is_other, is_between, Outside, Passing, Halting, Entering, Calling, fits_end, Chosen, Reading, Knows, AllOf, more, some, dead, reaped, is_unborn, is_traced, Fate, Goes_on, Says_nothing, Owes_nothing, Loses}

pub same_pid : (p : ℕ) → (p == p) ≡ true
same_pid p = grind (arith, nat_tests)

one_or_none : (b : Bool) (i : Item) → length (cond b (i ∷ []) []) ≡ cond b 1 0
one_or_none true i = refl
one_or_none false i = refl

none_more : (p : ℕ) (e : ℕ → ℕ) → more p [] e ≡ e
none_more p e = fun_ext (λ n. add-zero (e n))

abbrev nil : (A : Type 0) → List A
nil A = []

no_dues : (b : Bool) → nil Due ≡ cond b [] [] ++ []
no_dues true = refl
no_dues false = refl

no_items : (b : Bool) → nil Noted ≡ cond b [] []
no_items true = refl
no_items false = refl

-- a child that a turn bears
pub data Birth {S B : Type 0} (m : Machine S B) (f : Bool) (ph : Phase B) (e : PtraceEvent B) : Type 0 where
  No_birth : e ≡ Plain → Birth m f ph e
  Loose_birth : (proc_of m f ph).options ≡ None → is_traced ph ≡ false → Birth m f ph e
  Traced_birth : (proc_of m f ph).options ≡ Some (asked_options f) → reaped ph ≡ false → Birth m f ph e

-- what is asked of an answer to a call
abbrev pub Fits : {S B : Type 0} → Call → Answer S B → Type 0
Fits c (Refused e) = Unit {0}
Fits c (Returns s b x) = Unit {0}
Fits c (Jumps s b) = Unit {0}
Fits c (Execs s b) = has_effects c.number execs ≡ true
Fits c (Bears s b born) = has_effects c.number forks ≡ true
Fits c Blocks = Unit {0}
Fits c (Ends w) = (has_effects c.number exits ≡ true) × (is_exit_word w ≡ true)

call_fits : {S B : Type 0} (m : Machine S B) → IsTold m → (s : S) (child p : ℕ) (c : Call) (b : B) (a : Answer S B) → m.call s child p c b ≡ a → Fits c a
call_fits m told s child p c b (Refused e) h = tt
call_fits m told s child p c b (Returns t d x) h = tt
call_fits m told s child p c b (Jumps t d) h = tt
call_fits m told s child p c b (Execs t d) h = told.by_execve s t child p c b d h
call_fits m told s child p c b (Bears t d born) h = told.by_clone s t child p c b d born h
call_fits m told s child p c b Blocks h = tt
call_fits m told s child p c b (Ends w) h = told.by_exit s child p c b w h

or_left : (a b : Bool) → a ≡ true → (a || b) ≡ true
or_left true b h = refl
or_left false b h = absurd (cc h)

or_right : (a b : Bool) → b ≡ true → (a || b) ≡ true
or_right true b h = refl
or_right false b h = h

exit_is_end : (w : ℕ) → is_exit_word w ≡ true → is_end w ≡ true
exit_is_end w h = or_left (is_exit_word w) (is_signal w) h

signal_is_end : (w : ℕ) → is_signal w ≡ true → is_end w ≡ true
signal_is_end w h = or_right (is_exit_word w) (is_signal w) h

-- what a turn of p does, in the kernel and in the host, from this phase
pub record Turned {S B : Type 0} (m : Machine S B) (f : Bool) (o : Options) (script : Script) (p : ℕ) (ph : Phase B) (k : Known) (e : ℕ → ℕ) (kernel host : Out S B) : Type 0 where
  pub next : Phase B
  pub shared : host.shared ≡ kernel.shared
  pub event : host.event ≡ kernel.event
  pub proc : proc_after (proc_of m f ph).options host.task host.item host.event ≡ proc_of m f next
  pub task : kernel.task ≡ task_of m next
  pub knows : Knows m o script next k (more p (option_to_list kernel.item) e)
  pub stage : stage_of m next ≡ stage_of m ph
  pub dues : List Due
  pub due : due_in m p next ≡ cond (is_dying host.task) [] (due_in m p ph) ++ dues
  pub logged : items_in dues ≡ cond (is_traced ph) (option_to_list kernel.item) []
  pub tasks : DuesOf p dues
  pub hand : hand_in m p next ≡ cond (is_dying host.task) [] (hand_in m p ph)
  pub reports : map report_of dues ≡ reports_of p (stop_at (proc_of m f ph).options host.task host.item host.event)
  pub whole : AllOf p (option_to_list kernel.item)
  pub fate : Fate m p ph next (is_dying host.task) (cond (is_traced ph) (option_to_list kernel.item) [])
  pub listed : reaped next ≡ false → reaped ph ≡ false
  pub unborn : is_unborn next ≡ is_unborn ph
  pub sort : is_traced next ≡ is_traced ph
  pub birth : Birth m f ph host.event

-- the items of a turn are its process's own
module _ {S B : Type 0} (m : Machine S B) (s : S) (child p : ℕ) where
  stepped_task : (b : B) (r : Ran S B) → AllOf p (option_to_list (stepped m s p b r).item)
  stepped_task b (Goes c) = tt
  stepped_task b Calls = (refl, tt)
  stepped_task b (Faults n cause) = tt
  stepped_task b (Takes t n cause) = (refl, tt)

  answered_task : (b : B) (c : Call) (d : Answer S B) → AllOf p (option_to_list (answered m s child p b c d).item)
  answered_task b c (Refused e) = tt
  answered_task b c Blocks = tt
  answered_task b c (Returns t d x) = tt
  answered_task b c (Jumps t d) = tt
  answered_task b c (Execs t d) = tt
  answered_task b c (Bears t d born) = tt
  answered_task b c (Ends w) = (refl, tt)

  halts_task : (continued : Bool) (b : B) (n : Signal) → AllOf p (option_to_list (halts continued m s p b n).item)
  halts_task true b n = tt
  halts_task false b n = (refl, tt)

  wakes_task : (continued : Bool) (b : B) (n : Signal) → AllOf p (option_to_list (wakes continued m s p b n).item)
  wakes_task true b n = tt
  wakes_task false b n = tt

  took_task : (b : B) (n : Signal) (cause : Cause) (t : Took S B) → AllOf p (option_to_list (took m s p b n cause t).item)
  took_task b n cause (Passes t c) = tt
  took_task b n cause Stops = halts_task (m.continued s p) b n
  took_task b n cause (Kills w) = (refl, tt)

  lives_task : (c : Choice) (b : B) (stage : Stage) → AllOf p (option_to_list (lives m c s child p b stage).item)
  lives_task c b Born = tt
  lives_task c b Run = stepped_task b (m.step s p b)
  lives_task c b (Faulting n cause) = (refl, tt)
  lives_task c b (Entered joined) = tt
  lives_task c b (Doing call) = answered_task b call (m.call s child p call b)
  lives_task c b (Replaced call x) = tt
  lives_task c b (Acted call x replaced) = (refl, tt)
  lives_task c b Finished = tt
  lives_task c b (Taken n cause) = took_task b n cause (m.take s p n cause b)
  lives_task c b Dropped = tt
  lives_task c b (Stopped n) = wakes_task (m.continued s p) b n
  lives_task c b Released = tt
  lives_task c b Woken = tt

  killed_task : (kk : Bool) (c : Choice) (b : B) (stage : Stage) → AllOf p (option_to_list (killed_or kk m c s child p b stage).item)
  killed_task true c b stage = (refl, tt)
  killed_task false c b stage = lives_task c b stage

  turn_task : (c : Choice) (h : Task B) → AllOf p (option_to_list (turn m c s child p h).item)
  turn_task c (Alive b stage) = killed_task (m.killed s p) c b stage
  turn_task c (Dying w) = tt
  turn_task c Gone = tt

module _ {S B : Type 0} (m : Machine S B) (laws : IsMachine m) (words : IsTold m) (o : Options) (script : Script) (s : S) (child p : ℕ) (k : Known) (e : ℕ → ℕ) where
  keep : (ph : Phase B) → Knows m o script ph k e → Knows m o script ph k (more p [] e)
  keep ph h = subst (λ g. Knows m o script ph k g) (sym (none_more p e)) h

  -- what p owes to the trace where SIGKILL comes
  abbrev pub Owes : Phase B → Mode → Type 0
  Owes ph mode = (hand_in m p ph ++ items_in (due_in m p ph) ≡ []) ⊎ ((x : Noted) × (hand_in m p ph ++ items_in (due_in m p ph) ≡ x ∷ []) × (may_lose mode ≡ true))

  -- a tracee that has not ended
  abbrev pub Real : Bool → Phase B → Type 0
  Real f ph = (reaped ph ≡ false) × (is_unborn ph ≡ false) × (is_traced ph ≡ true) × ((proc_of m f ph).options ≡ Some (asked_options f))

  -- SIGKILL from any phase before Dying
  other_place : (ph : Phase B) → dead ph ≡ false → reaped ph ≡ false → is_other (stage_of m ph) ≡ true
  other_place (Running b) a l = refl
  other_place (Enter_due b) a l = refl
  other_place (Enter_asked b) a l = refl
  other_place (Enter_peeking b d w n) a l = refl
  other_place (Enter_setting b v n) a l = refl
  other_place (Enter_resuming b r n) a l = refl
  other_place (Enter_free b r n) a l = refl
  other_place (In_call b c) a l = refl
  other_place (In_replaced b v) a l = refl
  other_place (Has_acted b c r) a l = refl
  other_place (Exit_due b c r) a l = refl
  other_place (Exit_asked b c r) a l = refl
  other_place (Exit_setting b v) a l = refl
  other_place (Exit_peeking b c x r d w n) a l = refl
  other_place (Exit_resuming b) a l = refl
  other_place (Exit_free b) a l = refl
  other_place (Fault_free b n cause) a l = refl
  other_place (Sig_due b n cause) a l = refl
  other_place (Sig_asked b n cause) a l = refl
  other_place (Sig_resuming b n cause) a l = refl
  other_place (Sig_free b n cause) a l = refl
  other_place (Halt_due b n) a l = refl
  other_place (Halt_asked b n) a l = refl
  other_place (Halt_free b n) a l = refl
  other_place (Wake_due b) a l = refl
  other_place (Wake_resuming b) a l = refl
  other_place (Wake_free b) a l = refl
  other_place (Born_due b) a l = refl
  other_place (Born_resuming b) a l = refl
  other_place (Born_free b) a l = refl
  other_place (Event_due n b c) a l = refl
  other_place (Event_resuming b c) a l = refl
  other_place (Dead_due w mode s) a l = absurd (cc a)
  other_place (Dead w) a l = absurd (cc a)
  other_place Nobody a l = absurd (cc a)
  other_place (Loose x) a l = absurd (cc a)
  other_place (Unborn t) a l = absurd (cc l)
  other_place (Boot_held b) a l = absurd (cc l)

  -- SIGKILL may be told of a tracee wherever it stands
  unmet_fits : k.standing ≡ Unmet → fits_end k 9 ≡ true
  unmet_fits h = ap (λ x. end_fits k.called.number (is_there k.saved) x 9) h

  unread_fits : k.standing ≡ Unread → fits_end k 9 ≡ true
  unread_fits h = ap (λ x. end_fits k.called.number (is_there k.saved) x 9) h

  passing_fits : {n : Signal} → k.standing ≡ After_signal n → fits_end k 9 ≡ true
  passing_fits h = ap (λ x. end_fits k.called.number (is_there k.saved) x 9) h

  halting_fits : k.standing ≡ Halted → fits_end k 9 ≡ true
  halting_fits h = ap (λ x. end_fits k.called.number (is_there k.saved) x 9) h

  between_fits : is_between k.standing ≡ true → fits_end k 9 ≡ true
  between_fits h = go k.called.number (is_there k.saved) k.standing h
    where
      go : (n : ℕ) (r : Bool) (x : Standing) → is_between x ≡ true → end_fits n r x 9 ≡ true
      go n r Between g = refl
      go n r (After_signal v) g = refl
      go n r _ g = absurd (cc g)

  read_fits : was_read k.standing ≡ true → fits_end k 9 ≡ true
  read_fits h = go k.called.number (is_there k.saved) k.standing h
    where
      go : (n : ℕ) (r : Bool) (x : Standing) → was_read x ≡ true → end_fits n r x 9 ≡ true
      go n true Read g = refl
      go n false Read g = refl
      go n r After_event g = refl
      go n r _ g = absurd (cc g)

  killed_turned : (f : Bool) (ph : Phase B) (stage other : Stage) → dead ph ≡ false → Real f ph → fits_end k 9 ≡ true → Owes ph (stage_mode stage) → Turned m f o script p ph k e (dies m s p 9 stage) (dies m s p 9 other)
  killed_turned f ph stage other alive real fits owes = record {
    next = Dead_due 9 (stage_mode stage) (stage_of m ph);
    shared = refl;
    event = refl;
    proc = ap (λ w. proc_after {B = B} w (Dying 9) (dies m s p 9 other).item Plain) real.3;
    task = refl;
    knows = (refl, fits, other_place ph alive real.0);
    stage = refl;
    dues = Logged (exit_of p 9 (stage_mode stage)) ∷ [];
    due = refl;
    logged = ap (λ t. cond t (exit_of p 9 (stage_mode stage) ∷ []) []) (sym real.2);
    tasks = (refl, tt);
    hand = refl;
    reports = ap (λ w. reports_of p (stop_at {B = B} w (Dying 9) (dies m s p 9 other).item Plain)) (sym real.3);
    whole = (refl, tt);
    fate = subst (λ t. Fate m p ph (Dead_due 9 (stage_mode stage) (stage_of m ph)) true (cond t (exit_of p 9 (stage_mode stage) ∷ []) [])) (sym real.2) (⊎_elim (λ q. Owes_nothing refl refl alive q) (λ q. Loses refl refl alive q.0 q.1 (stage_mode stage) q.2 refl) owes);
    listed = λ _. real.0;
    unborn = sym real.1;
    sort = sym real.2;
    birth = No_birth refl;
  }

  killed_or_turned : (f : Bool) (kk : Bool) (ph : Phase B) → dead ph ≡ false → Real f ph → fits_end k 9 ≡ true → (ck ch : Choice) (kb hb : B) (ks hs : Stage) → Owes ph (stage_mode ks) → (kk ≡ false → Turned m f o script p ph k e (lives m ck s child p kb ks) (lives m ch s child p hb hs)) → Turned m f o script p ph k e (killed_or kk m ck s child p kb ks) (killed_or kk m ch s child p hb hs)
  killed_or_turned f true ph alive real fits ck ch kb hb ks hs owes g = killed_turned f ph ks hs alive real fits owes
  killed_or_turned f false ph alive real fits ck ch kb hb ks hs owes g = g refl

  entered_once : (n : ℕ) (b : B) → entries p n (items_of (enter_of m p b ∷ [])) ≡ cond (n == a7_of (m.regs b)) 1 0
  entered_once n b = rw (same_pid p) (one_or_none (n == a7_of (m.regs b)) (enter_of m p b).item)

  -- an exit in its own call, which is not replaced
  exit_fits : (c : Call) (w : ℕ) → k.saved ≡ None → k.called ≡ c → k.standing ≡ Read → has_effects c.number exits ≡ true → is_exit_word w ≡ true → fits_end k w ≡ true
  exit_fits c w saved called read number word = rw (saved, called, read) (or_right (w == 9) (has_effects c.number exits && is_exit_word w) (ap₂ (λ x y. x && y) number word))

  passed : {n : Signal} → Passing n k e → Outside k e
  passed h = record { outside = h.outside; between = ap is_between h.passing; same = h.same }

  stepped_turned : (f : Bool) (b : B) → Outside k e → (r : Ran S B) → Turned m f o script p (Running b) k e (stepped m s p b r) (stepped m s p b r)
  stepped_turned f b h (Goes c) = record { next = Running c; shared = refl; event = refl; proc = refl; task = refl; knows = keep (Running c) h; stage = refl; dues = []; due = refl; logged = refl; tasks = tt; hand = refl; reports = refl; whole = tt; fate = Goes_on refl refl refl; listed = λ _. refl; unborn = refl; sort = refl; birth = Traced_birth refl refl }
  stepped_turned f b h Calls = record { next = Enter_due b; shared = refl; event = refl; proc = refl; task = refl; knows = record { inside_is = h.outside; stands = h.between; one_more = λ n. ap₂ (λ x y. x + y) (h.same n) (entered_once n b) }; stage = refl; dues = Logged (enter_of m p b) ∷ []; due = refl; logged = refl; tasks = (refl, tt); hand = refl; reports = refl; whole = (refl, tt); fate = Goes_on refl refl refl; listed = λ _. refl; unborn = refl; sort = refl; birth = Traced_birth refl refl }
  stepped_turned f b h (Faults n cause) = record { next = Fault_free b n cause; shared = refl; event = refl; proc = refl; task = refl; knows = keep (Fault_free b n cause) h; stage = refl; dues = []; due = refl; logged = refl; tasks = tt; hand = refl; reports = refl; whole = tt; fate = Goes_on refl refl refl; listed = λ _. refl; unborn = refl; sort = refl; birth = Traced_birth refl refl }
  stepped_turned f b h (Takes t n cause) = record { next = Sig_due b n cause; shared = refl; event = refl; proc = refl; task = refl; knows = keep (Sig_due b n cause) h; stage = refl; dues = Logged (signal_of m p b n cause) ∷ []; due = refl; logged = refl; tasks = (refl, tt); hand = refl; reports = refl; whole = (refl, tt); fate = Goes_on refl refl refl; listed = λ _. refl; unborn = refl; sort = refl; birth = Traced_birth refl refl }

  forks_turned : (f : Bool) (b : B) (c : Call) → f ≡ o.follow → Calling true None c k e × (k.standing ≡ Read) → has_effects c.number forks ≡ true → (t : S) (d born : B) → Turned m f o script p (In_call b c) k e (answered m s child p b c (Bears t d born)) (answered m s child p b c (Bears t d born))
  forks_turned true b c same h number t d born = record { next = Event_due At_fork (with_result m d child) c; shared = refl; event = refl; proc = ap (λ y. held true (Alive (with_result m d child) (Acted c y false))) (sym (result_back m laws d child)); task = ap (λ y. Alive (with_result m d child) (Acted c y false)) (sym (result_back m laws d child)); knows = keep (Event_due At_fork (with_result m d child) c) (h.0, h.1, ap₂ (λ x y. x && y) (sym same) number); stage = refl; dues = Unlogged p At_fork ∷ []; due = refl; logged = refl; tasks = (refl, tt); hand = refl; reports = refl; whole = tt; fate = Goes_on refl refl refl; listed = λ _. refl; unborn = refl; sort = refl; birth = Traced_birth refl refl }
  forks_turned false b c same h number t d born = record { next = Has_acted (with_result m d child) c None; shared = refl; event = refl; proc = ap (λ y. free false (Alive (with_result m d child) (Acted c y false))) (sym (result_back m laws d child)); task = ap (λ y. Alive (with_result m d child) (Acted c y false)) (sym (result_back m laws d child)); knows = keep (Has_acted (with_result m d child) c None) h.0; stage = refl; dues = []; due = refl; logged = refl; tasks = tt; hand = refl; reports = refl; whole = tt; fate = Goes_on refl refl refl; listed = λ _. refl; unborn = refl; sort = refl; birth = Traced_birth refl refl }

  answered_turned : (f : Bool) (b : B) (c : Call) → f ≡ o.follow → Calling true None c k e × (k.standing ≡ Read) → (d : Answer S B) → Fits c d → Turned m f o script p (In_call b c) k e (answered m s child p b c d) (answered m s child p b c d)
  answered_turned f b c same h Blocks ends = record { next = In_call b c; shared = refl; event = refl; proc = refl; task = refl; knows = keep (In_call b c) h; stage = refl; dues = []; due = refl; logged = refl; tasks = tt; hand = refl; reports = refl; whole = tt; fate = Goes_on refl refl refl; listed = λ _. refl; unborn = refl; sort = refl; birth = Traced_birth refl refl }
  answered_turned f b c same h (Refused r) ends = record { next = Has_acted (with_result m b (error_word r)) c None; shared = refl; event = refl; proc = ap (λ y. free f (Alive (with_result m b (error_word r)) (Acted c y false))) (sym (result_back m laws b (error_word r))); task = ap (λ y. Alive (with_result m b (error_word r)) (Acted c y false)) (sym (result_back m laws b (error_word r))); knows = keep (Has_acted (with_result m b (error_word r)) c None) h.0; stage = refl; dues = []; due = refl; logged = refl; tasks = tt; hand = refl; reports = refl; whole = tt; fate = Goes_on refl refl refl; listed = λ _. refl; unborn = refl; sort = refl; birth = Traced_birth refl refl }
  answered_turned f b c same h (Returns t d x) ends = record { next = Has_acted (with_result m d x) c None; shared = refl; event = refl; proc = ap (λ y. free f (Alive (with_result m d x) (Acted c y false))) (sym (result_back m laws d x)); task = ap (λ y. Alive (with_result m d x) (Acted c y false)) (sym (result_back m laws d x)); knows = keep (Has_acted (with_result m d x) c None) h.0; stage = refl; dues = []; due = refl; logged = refl; tasks = tt; hand = refl; reports = refl; whole = tt; fate = Goes_on refl refl refl; listed = λ _. refl; unborn = refl; sort = refl; birth = Traced_birth refl refl }
  answered_turned f b c same h (Jumps t d) ends = record { next = Has_acted d c None; shared = refl; event = refl; proc = refl; task = refl; knows = keep (Has_acted d c None) h.0; stage = refl; dues = []; due = refl; logged = refl; tasks = tt; hand = refl; reports = refl; whole = tt; fate = Goes_on refl refl refl; listed = λ _. refl; unborn = refl; sort = refl; birth = Traced_birth refl refl }
  answered_turned f b c same h (Execs t d) ends = record { next = Event_due At_exec d c; shared = refl; event = refl; proc = refl; task = refl; knows = keep (Event_due At_exec d c) (h.0, h.1, ends); stage = refl; dues = Unlogged p At_exec ∷ []; due = refl; logged = refl; tasks = (refl, tt); hand = refl; reports = refl; whole = tt; fate = Goes_on refl refl refl; listed = λ _. refl; unborn = refl; sort = refl; birth = Traced_birth refl refl }
  answered_turned f b c same h (Bears t d born) ends = forks_turned f b c same h ends t d born
  answered_turned f b c same h (Ends w) ends = record { next = Dead_due w mode.Doing None; shared = refl; event = refl; proc = refl; task = refl; knows = (exit_is_end w ends.1, exit_fits c w h.0.saved_is h.0.called_is h.1 ends.0 ends.1, refl); stage = refl; dues = Logged (exit_of p w mode.Doing) ∷ []; due = refl; logged = refl; tasks = (refl, tt); hand = refl; reports = refl; whole = (refl, tt); fate = Owes_nothing refl refl refl refl; listed = λ _. refl; unborn = refl; sort = refl; birth = Traced_birth refl refl }

  halts_turned : (f : Bool) (b : B) (n : Signal) (cause : Cause) → Passing n k e → is_stop n.number ≡ true → (continued : Bool) → Turned m f o script p (Sig_free b n cause) k e (halts continued m s p b n) (halts continued m s p b n)
  halts_turned f b n cause h stops true = record { next = Running b; shared = refl; event = refl; proc = refl; task = refl; knows = keep (Running b) (passed h); stage = refl; dues = []; due = refl; logged = refl; tasks = tt; hand = refl; reports = refl; whole = tt; fate = Goes_on refl refl refl; listed = λ _. refl; unborn = refl; sort = refl; birth = Traced_birth refl refl }
  halts_turned f b n cause h stops false = record { next = Halt_due b n; shared = refl; event = refl; proc = refl; task = refl; knows = keep (Halt_due b n) (h, stops); stage = refl; dues = Logged (halt_of m p b n) ∷ []; due = refl; logged = refl; tasks = (refl, tt); hand = refl; reports = refl; whole = (refl, tt); fate = Goes_on refl refl refl; listed = λ _. refl; unborn = refl; sort = refl; birth = Traced_birth refl refl }

  wakes_turned : (f : Bool) (b : B) (n : Signal) → Halting k e → (continued : Bool) → Turned m f o script p (Halt_free b n) k e (wakes continued m s p b n) (wakes continued m s p b n)
  wakes_turned f b n h true = record { next = Wake_due b; shared = refl; event = refl; proc = refl; task = refl; knows = keep (Wake_due b) h; stage = refl; dues = Unlogged p At_start ∷ []; due = refl; logged = refl; tasks = (refl, tt); hand = refl; reports = refl; whole = tt; fate = Goes_on refl refl refl; listed = λ _. refl; unborn = refl; sort = refl; birth = Traced_birth refl refl }
  wakes_turned f b n h false = record { next = Halt_free b n; shared = refl; event = refl; proc = refl; task = refl; knows = keep (Halt_free b n) h; stage = refl; dues = []; due = refl; logged = refl; tasks = tt; hand = refl; reports = refl; whole = tt; fate = Goes_on refl refl refl; listed = λ _. refl; unborn = refl; sort = refl; birth = Traced_birth refl refl }

  took_turned : (f : Bool) (b : B) (n : Signal) (cause : Cause) → Passing n k e → (t : Took S B) → ((w : ℕ) → t ≡ Kills w → is_signal w ≡ true) → (t ≡ Stops → is_stop n.number ≡ true) → Turned m f o script p (Sig_free b n cause) k e (took m s p b n cause t) (took m s p b n cause t)
  took_turned f b n cause h (Passes t c) ends stops = record { next = Running c; shared = refl; event = refl; proc = refl; task = refl; knows = keep (Running c) (passed h); stage = refl; dues = []; due = refl; logged = refl; tasks = tt; hand = refl; reports = refl; whole = tt; fate = Goes_on refl refl refl; listed = λ _. refl; unborn = refl; sort = refl; birth = Traced_birth refl refl }
  took_turned f b n cause h Stops ends stops = halts_turned f b n cause h (stops refl) (m.continued s p)
  took_turned f b n cause h (Kills w) ends stops = record { next = Dead_due w mode.Taken None; shared = refl; event = refl; proc = refl; task = refl; knows = (signal_is_end w (ends w refl), ap (λ x. end_fits k.called.number (is_there k.saved) x w) h.passing ∙ ends w refl, refl); stage = refl; dues = Logged (exit_of p w mode.Taken) ∷ []; due = refl; logged = refl; tasks = (refl, tt); hand = refl; reports = refl; whole = (refl, tt); fate = Owes_nothing refl refl refl refl; listed = λ _. refl; unborn = refl; sort = refl; birth = Traced_birth refl refl }

  entered_turned : (f : Bool) (b : B) (r : Option ℕ) (n : Option Signal) → Chosen script (m.regs b) r n k e → Turned m f o script p (Enter_free b r n) k e (gives (joins m s p n) (Alive b (chosen (call_of (m.regs b)) r))) (lives m no_choice s child p (masked m b r) (Entered n))
  entered_turned f b None n h = record { next = In_call b (call_of (m.regs b)); shared = refl; event = refl; proc = refl; task = refl; knows = keep (In_call b (call_of (m.regs b))) (h.calling, h.read); stage = refl; dues = []; due = refl; logged = refl; tasks = tt; hand = refl; reports = refl; whole = tt; fate = Goes_on refl refl refl; listed = λ _. refl; unborn = refl; sort = refl; birth = Traced_birth refl refl }
  entered_turned f b (Some v) n h = record { next = In_replaced b v; shared = refl; event = refl; proc = refl; task = refl; knows = keep (In_replaced b v) h.calling; stage = refl; dues = []; due = refl; logged = refl; tasks = tt; hand = refl; reports = refl; whole = tt; fate = Goes_on refl refl refl; listed = λ _. refl; unborn = refl; sort = refl; birth = Traced_birth refl refl }

  replaced_turned : (f : Bool) (b : B) (v : ℕ) → Calling true (Some v) (call_of (m.regs b)) k e → Turned m f o script p (In_replaced b v) k e (gives s (Alive (with_result m b v) (Acted (call_of (m.regs b)) v true))) (answered m s child p (masked m b (Some v)) (call_of (m.regs (masked m b (Some v)))) (Refused enosys))
  replaced_turned f b v h = record { next = Has_acted b (call_of (m.regs b)) (Some v); shared = refl; event = refl; proc = refl; task = refl; knows = keep (Has_acted b (call_of (m.regs b)) (Some v)) h; stage = refl; dues = []; due = refl; logged = refl; tasks = tt; hand = refl; reports = refl; whole = tt; fate = Goes_on refl refl refl; listed = λ _. refl; unborn = refl; sort = refl; birth = Traced_birth refl refl }

  loose_turned : (f : Bool) (h : Task B) → Turned m f o script p (Loose h) k e (turn m no_choice s child p h) (turn m no_choice s child p h)
  loose_turned f h = record { next = Loose (turn m no_choice s child p h).task; shared = refl; event = refl; proc = refl; task = refl; knows = tt; stage = refl; dues = []; due = no_dues (is_dying (turn m no_choice s child p h).task); logged = refl; tasks = tt; hand = no_items (is_dying (turn m no_choice s child p h).task); reports = refl; whole = turn_task m s child p no_choice h; fate = Says_nothing refl refl refl; listed = λ q. q; unborn = refl; sort = refl; birth = Loose_birth refl refl }

  -- a turn that reaches the kernel
  pub turned : (f : Bool) → f ≡ o.follow → (ph : Phase B) → Knows m o script ph k e → is_effective m s p (proc_of m f ph) ≡ true → Turned m f o script p ph k e (turn m (choice_at m script (is_traced ph) e (task_of m ph)) s child p (task_of m ph)) (turn m no_choice s child p (proc_of m f ph).task)
  turned f same (Running b) h g = killed_or_turned f (m.killed s p) (Running b) refl (refl, refl, refl, refl) (between_fits h.between) _ _ b b Run Run (inl refl) (λ q. stepped_turned f b h (m.step s p b))
  turned f same (Enter_due b) h g = killed_or_turned f (m.killed s p) (Enter_due b) refl (refl, refl, refl, refl) (between_fits h.stands) _ _ b b (Entered None) (Entered None) (inr (_, refl, refl)) (λ q. absurd (cc (g, q)))
  turned f same (Enter_asked b) h g = killed_or_turned f (m.killed s p) (Enter_asked b) refl (refl, refl, refl, refl) (unread_fits h.stands) _ _ b b (Entered None) (Entered None) (inr (_, refl, refl)) (λ q. absurd (cc (g, q)))
  turned f same (Enter_peeking b d w n) h g = killed_or_turned f (m.killed s p) (Enter_peeking b d w n) refl (refl, refl, refl, refl) (unread_fits h.0.stands) _ _ b b (Entered None) (Entered None) (inr (_, refl, refl)) (λ q. absurd (cc (g, q)))
  turned f same (Enter_setting b v n) h g = killed_or_turned f (m.killed s p) (Enter_setting b v n) refl (refl, refl, refl, refl) (read_fits h.calling.stands) _ _ b b (Entered None) (Entered None) (inl refl) (λ q. absurd (cc (g, q)))
  turned f same (Enter_resuming b r n) h g = killed_or_turned f (m.killed s p) (Enter_resuming b r n) refl (refl, refl, refl, refl) (read_fits h.calling.stands) _ _ b (masked m b r) (Entered None) (Entered None) (inl refl) (λ q. absurd (cc (g, q)))
  turned f same (Enter_free b r n) h g = killed_or_turned f (m.killed s p) (Enter_free b r n) refl (refl, refl, refl, refl) (read_fits h.calling.stands) _ _ b (masked m b r) (Entered None) (Entered n) (inl refl) (λ q. subst (λ x. Turned m f o script p (Enter_free b r n) k e (gives (joins m s p x) (Alive b (chosen (call_of (m.regs b)) (result_word (script (a7_of (m.regs b)) (e (a7_of (m.regs b)))))))) (lives m no_choice s child p (masked m b r) (Entered n))) (sym h.signal) (subst (λ x. Turned m f o script p (Enter_free b r n) k e (gives (joins m s p n) (Alive b (chosen (call_of (m.regs b)) x))) (lives m no_choice s child p (masked m b r) (Entered n))) (sym h.result) (entered_turned f b r n h)))
  turned f same (In_call b c) h g = killed_or_turned f (m.killed s p) (In_call b c) refl (refl, refl, refl, refl) (read_fits h.0.stands) _ _ b b (Doing c) (Doing c) (inl refl) (λ q. answered_turned f b c same h (m.call s child p c b) (call_fits m words s child p c b (m.call s child p c b) refl))
  turned f same (In_replaced b v) h g = killed_or_turned f (m.killed s p) (In_replaced b v) refl (refl, refl, refl, refl) (read_fits h.stands) _ _ b (masked m b (Some v)) (Replaced (call_of (m.regs b)) v) (Doing (call_of (m.regs (masked m b (Some v))))) (inl refl) (λ q. rw (laws.no_such s child p (call_of (m.regs (masked m b (Some v)))) (masked m b (Some v)) (hidden_number m laws b)) (replaced_turned f b v h))
  turned f same (Has_acted b c None) h g = killed_or_turned f (m.killed s p) (Has_acted b c None) refl (refl, refl, refl, refl) (read_fits h.stands) _ _ (left m b None) (left_masked m b None) (Acted c (a0_of (m.regs b)) false) (acted_masked m b c None) (inl refl) (λ q. record { next = Exit_due b c None; shared = refl; event = refl; proc = refl; task = refl; knows = keep (Exit_due b c None) h; stage = refl; dues = Logged (done_of m p b c None) ∷ []; due = refl; logged = refl; tasks = (refl, tt); hand = refl; reports = refl; whole = (refl, tt); fate = Goes_on refl refl refl; listed = λ _. refl; unborn = refl; sort = refl; birth = Traced_birth refl refl })
  turned f same (Has_acted b c (Some v)) h g = killed_or_turned f (m.killed s p) (Has_acted b c (Some v)) refl (refl, refl, refl, refl) (read_fits h.stands) _ _ (left m b (Some v)) (left_masked m b (Some v)) (Acted (call_in m b c (Some v)) (result_in m b (Some v)) (some (Some v))) (acted_masked m b c (Some v)) (inl refl) (λ q. record { next = Exit_due b c (Some v); shared = refl; event = refl; proc = refl; task = refl; knows = keep (Exit_due b c (Some v)) h; stage = refl; dues = Logged (done_of m p b c (Some v)) ∷ []; due = refl; logged = refl; tasks = (refl, tt); hand = refl; reports = refl; whole = (refl, tt); fate = Goes_on refl refl refl; listed = λ _. refl; unborn = refl; sort = refl; birth = Traced_birth refl refl })
  turned f same (Exit_due b c r) h g = killed_or_turned f (m.killed s p) (Exit_due b c r) refl (refl, refl, refl, refl) (read_fits h.stands) _ _ (left m b r) (left_masked m b r) Finished Finished (inr (_, refl, refl)) (λ q. absurd (cc (g, q)))
  turned f same (Exit_asked b c r) h g = killed_or_turned f (m.killed s p) (Exit_asked b c r) refl (refl, refl, refl, refl) (between_fits h.stands) _ _ (left m b r) (left_masked m b r) Finished Finished (inr (_, refl, refl)) (λ q. absurd (cc (g, q)))
  turned f same (Exit_setting b v) h g = killed_or_turned f (m.killed s p) (Exit_setting b v) refl (refl, refl, refl, refl) (between_fits h.stands) _ _ (left m b (Some v)) (left_masked m b (Some v)) Finished Finished (inr (_, refl, refl)) (λ q. absurd (cc (g, q)))
  turned f same (Exit_peeking b c x r d w n) h g = killed_or_turned f (m.killed s p) (Exit_peeking b c x r d w n) refl (refl, refl, refl, refl) (between_fits h.0.stands) _ _ b b Finished Finished (inr (_, refl, refl)) (λ q. absurd (cc (g, q)))
  turned f same (Exit_resuming b) h g = killed_or_turned f (m.killed s p) (Exit_resuming b) refl (refl, refl, refl, refl) (between_fits h.between) _ _ b b Finished Finished (inl refl) (λ q. absurd (cc (g, q)))
  turned f same (Exit_free b) h g = killed_or_turned f (m.killed s p) (Exit_free b) refl (refl, refl, refl, refl) (between_fits h.between) _ _ b b Finished Finished (inl refl) (λ q. record { next = Running b; shared = refl; event = refl; proc = refl; task = refl; knows = keep (Running b) h; stage = refl; dues = []; due = refl; logged = refl; tasks = tt; hand = refl; reports = refl; whole = tt; fate = Goes_on refl refl refl; listed = λ _. refl; unborn = refl; sort = refl; birth = Traced_birth refl refl })
  turned f same (Fault_free b n cause) h g = killed_or_turned f (m.killed s p) (Fault_free b n cause) refl (refl, refl, refl, refl) (between_fits h.between) _ _ b b (Faulting n cause) (Faulting n cause) (inl refl) (λ q. record { next = Sig_due b n cause; shared = refl; event = refl; proc = refl; task = refl; knows = keep (Sig_due b n cause) h; stage = refl; dues = Logged (signal_of m p b n cause) ∷ []; due = refl; logged = refl; tasks = (refl, tt); hand = refl; reports = refl; whole = (refl, tt); fate = Goes_on refl refl refl; listed = λ _. refl; unborn = refl; sort = refl; birth = Traced_birth refl refl })
  turned f same (Sig_due b n cause) h g = killed_or_turned f (m.killed s p) (Sig_due b n cause) refl (refl, refl, refl, refl) (between_fits h.between) _ _ b b (Taken n cause) (Taken n cause) (inr (_, refl, refl)) (λ q. absurd (cc (g, q)))
  turned f same (Sig_asked b n cause) h g = killed_or_turned f (m.killed s p) (Sig_asked b n cause) refl (refl, refl, refl, refl) (passing_fits h.passing) _ _ b b (Taken n cause) (Taken n cause) (inr (_, refl, refl)) (λ q. absurd (cc (g, q)))
  turned f same (Sig_resuming b n cause) h g = killed_or_turned f (m.killed s p) (Sig_resuming b n cause) refl (refl, refl, refl, refl) (passing_fits h.passing) _ _ b b (Taken n cause) (Taken n cause) (inl refl) (λ q. absurd (cc (g, q)))
  turned f same (Sig_free b n cause) h g = killed_or_turned f (m.killed s p) (Sig_free b n cause) refl (refl, refl, refl, refl) (passing_fits h.passing) _ _ b b (Taken n cause) (Taken n cause) (inl refl) (λ q. took_turned f b n cause h (m.take s p n cause b) (λ w. words.by_signal s p n cause b w) (words.by_stop s p n cause b))
  turned f same (Halt_due b n) h g = killed_or_turned f (m.killed s p) (Halt_due b n) refl (refl, refl, refl, refl) (passing_fits h.0.passing) _ _ b b (Stopped n) (Stopped n) (inr (_, refl, refl)) (λ q. absurd (cc (g, q)))
  turned f same (Halt_asked b n) h g = killed_or_turned f (m.killed s p) (Halt_asked b n) refl (refl, refl, refl, refl) (halting_fits h.halting) _ _ b b (Stopped n) (Stopped n) (inl refl) (λ q. absurd (cc (g, q)))
  turned f same (Halt_free b n) h g = killed_or_turned f (m.killed s p) (Halt_free b n) refl (refl, refl, refl, refl) (halting_fits h.halting) _ _ b b (Stopped n) (Stopped n) (inl refl) (λ q. wakes_turned f b n h (m.continued s p))
  turned f same (Wake_due b) h g = killed_or_turned f (m.killed s p) (Wake_due b) refl (refl, refl, refl, refl) (halting_fits h.halting) _ _ b b Woken Woken (inl refl) (λ q. absurd (cc (g, q)))
  turned f same (Wake_resuming b) h g = killed_or_turned f (m.killed s p) (Wake_resuming b) refl (refl, refl, refl, refl) (between_fits h.between) _ _ b b Woken Woken (inl refl) (λ q. absurd (cc (g, q)))
  turned f same (Wake_free b) h g = killed_or_turned f (m.killed s p) (Wake_free b) refl (refl, refl, refl, refl) (between_fits h.between) _ _ b b Woken Woken (inl refl) (λ q. record { next = Running b; shared = refl; event = refl; proc = refl; task = refl; knows = keep (Running b) h; stage = refl; dues = []; due = refl; logged = refl; tasks = tt; hand = refl; reports = refl; whole = tt; fate = Goes_on refl refl refl; listed = λ _. refl; unborn = refl; sort = refl; birth = Traced_birth refl refl })
  turned f same (Dead_due w mode st) h g = absurd (cc g)
  turned f same (Dead w) h g = record { next = Nobody; shared = refl; event = refl; proc = refl; task = refl; knows = tt; stage = refl; dues = []; due = refl; logged = refl; tasks = tt; hand = refl; reports = refl; whole = tt; fate = Says_nothing refl refl refl; listed = λ q. q; unborn = refl; sort = refl; birth = No_birth refl }
  turned f same Nobody h g = record { next = Nobody; shared = refl; event = refl; proc = refl; task = refl; knows = tt; stage = refl; dues = []; due = refl; logged = refl; tasks = tt; hand = refl; reports = refl; whole = tt; fate = Says_nothing refl refl refl; listed = λ q. q; unborn = refl; sort = refl; birth = No_birth refl }
  turned f same (Unborn true) h g = record { next = Unborn true; shared = refl; event = refl; proc = refl; task = refl; knows = keep (Unborn true) h; stage = refl; dues = []; due = refl; logged = refl; tasks = tt; hand = refl; reports = refl; whole = tt; fate = Goes_on refl refl refl; listed = λ q. q; unborn = refl; sort = refl; birth = No_birth refl }
  turned f same (Unborn false) h g = record { next = Unborn false; shared = refl; event = refl; proc = refl; task = refl; knows = keep (Unborn false) h; stage = refl; dues = []; due = refl; logged = refl; tasks = tt; hand = refl; reports = refl; whole = tt; fate = Goes_on refl refl refl; listed = λ q. q; unborn = refl; sort = refl; birth = No_birth refl }
  turned f same (Boot_held b) h g = absurd (cc g)
  turned f same (Born_due b) h g = killed_or_turned f (m.killed s p) (Born_due b) refl (refl, refl, refl, refl) (unmet_fits h.unmet) _ _ b b Born Born (inl refl) (λ q. absurd (cc (g, q)))
  turned f same (Born_resuming b) h g = killed_or_turned f (m.killed s p) (Born_resuming b) refl (refl, refl, refl, refl) (between_fits h.between) _ _ b b Born Born (inl refl) (λ q. absurd (cc (g, q)))
  turned f same (Born_free b) h g = killed_or_turned f (m.killed s p) (Born_free b) refl (refl, refl, refl, refl) (between_fits h.between) _ _ b b Born Born (inl refl) (λ q. record { next = Running b; shared = refl; event = refl; proc = refl; task = refl; knows = keep (Running b) h; stage = refl; dues = []; due = refl; logged = refl; tasks = tt; hand = refl; reports = refl; whole = tt; fate = Goes_on refl refl refl; listed = λ _. refl; unborn = refl; sort = refl; birth = Traced_birth refl refl })
  turned f same (Event_due n b c) h g = killed_or_turned f (m.killed s p) (Event_due n b c) refl (refl, refl, refl, refl) (read_fits h.0.stands) _ _ b b (Acted c (a0_of (m.regs b)) false) (Acted c (a0_of (m.regs b)) false) (inl refl) (λ q. absurd (cc (g, q)))
  turned f same (Event_resuming b c) h g = killed_or_turned f (m.killed s p) (Event_resuming b c) refl (refl, refl, refl, refl) (read_fits h.stands) _ _ b b (Acted c (a0_of (m.regs b)) false) (Acted c (a0_of (m.regs b)) false) (inl refl) (λ q. absurd (cc (g, q)))
  turned f same (Loose x) h g = loose_turned f x

-- the process that is seized owes its stop
pub data Seizes {S B : Type 0} (m : Machine S B) (p : ℕ) (ph next : Phase B) (seized : Bool) : Type 0 where
  Not_seized : seized ≡ false → due_in m p next ≡ due_in m p ph → reaped next ≡ reaped ph → Seizes m p ph next seized
  Seized : seized ≡ true → due_in m p next ≡ due_in m p ph ++ Unlogged p At_start ∷ [] → Seizes m p ph next seized

abbrev pub is_out : Reply → Bool
is_out Out_of_turns = true
is_out _ = false

-- a request to p that is served, and what the tracer makes of the reply
pub record Served {S B : Type 0} (m : Machine S B) (f : Bool) (o : Options) (script : Script) (p : ℕ) (ph : Phase B) (e : ℕ → ℕ) (a : Answered B) (h : Heard) : Type 0 where
  pub next : Phase B
  pub proc : a.proc ≡ proc_of m f next
  pub task : task_of m next ≡ task_of m ph
  pub knows : Knows m o script next h.known e
  pub stage : stage_of m next ≡ h.next
  pub seized : Seizes m p ph next a.seized
  pub said : List Noted
  pub printed : h.printed ≡ parts o said
  pub hand : said ++ hand_in m p next ≡ hand_in m p ph
  pub lives : dead next ≡ dead ph
  pub unborn : is_unborn next ≡ is_unborn ph
  pub sort : is_traced next ≡ is_traced ph
  pub in_turns : is_out a.reply ≡ false

pub some_inj : (x y : Awaiting) → Some x ≡ Some y → x ≡ y
some_inj x y q = ap (λ o. unwrap_or o x) q

counted : (f e : ℕ → ℕ) (c : ℕ) → ((n : ℕ) → e n ≡ f n + cond (n == c) 1 0) → (n : ℕ) → e n ≡ put f c (f c + 1) n
counted f e c h n = grind (arith, nat_tests, h n)

pub may_resume : (b c : Bool) → c ≡ true → (b || c) ≡ true
may_resume true c h = refl
may_resume false c h = h

zero_is_none : signal_numbered 0 ≡ None
unfolding signal_numbered
zero_is_none = refl

pub seize_answer : {S B : Type 0} (m : Machine S B) (message : ℕ) (f : Bool) (b : B) → answer m message (proc_of m f (Boot_held b)) (Seize (options_word f)) ≡ record { proc = proc_of m f (Born_due b); reply = Agreed; seized = true }
seize_answer m message true b = refl
seize_answer m message false b = refl

-- the same from another phase of the same owns
as_at : {S B : Type 0} (m : Machine S B) (f : Bool) (o : Options) (script : Script) (p : ℕ) (e : ℕ → ℕ) (ph other : Phase B) (a b : Answered B) (h : Heard) → Served m f o script p ph e a h → b.proc ≡ a.proc → is_out b.reply ≡ false → a.seized ≡ false → b.seized ≡ false → task_of m ph ≡ task_of m other → due_in m p ph ≡ due_in m p other → hand_in m p ph ≡ hand_in m p other → dead ph ≡ dead other → reaped ph ≡ reaped other → is_unborn ph ≡ is_unborn other → is_traced ph ≡ is_traced other → Served m f o script p other e b h
as_at m f o script p e ph other a b h u pr out qa qb ha du hd de re un tr = record { next = u.next; proc = pr ∙ u.proc; task = u.task ∙ ha; knows = u.knows; stage = u.stage; seized = go u.seized; said = u.said; printed = u.printed; hand = u.hand ∙ hd; lives = u.lives ∙ de; unborn = u.unborn ∙ un; sort = u.sort ∙ tr; in_turns = out }
  where
    go : Seizes m p ph u.next a.seized → Seizes m p other u.next b.seized
    go (Not_seized x y z) = Not_seized qb (y ∙ du) (z ∙ re)
    go (Seized x y) = absurd (cc (x, qa))

module _ {S B : Type 0} (m : Machine S B) (laws : IsMachine m) (o : Options) (texts : IsTexts o.texts) (script : Script) (p : ℕ) (k : Known) (e : ℕ → ℕ) where
  -- what is asked at a phase
  abbrev pub Serves : Bool → ℕ → Phase B → Ask → Awaiting → Type 0
  Serves f message ph q st = Served m f o script p ph e (answer m message (proc_of m f ph) q) (hears o script p k st (answer m message (proc_of m f ph) q).reply)

  dead_served : (f : Bool) (w : ℕ) (mode : Mode) → (is_end w ≡ true) × (fits_end k w ≡ true) → (st : Awaiting) → Served m f o script p (Dead_due w mode (Some st)) e (says (proc_of m f (Dead_due w mode (Some st))) esrch) (hears o script p k st esrch)
  dead_served f w mode h Seizing = record { next = Dead_due w mode None; proc = refl; task = refl; knows = (h.0, h.1, refl); stage = refl; seized = Not_seized refl refl refl; said = []; printed = refl; hand = refl; lives = refl; unborn = refl; sort = refl; in_turns = refl }
  dead_served f w mode h Entry_regs = record { next = Dead_due w mode None; proc = refl; task = refl; knows = (h.0, h.1, refl); stage = refl; seized = Not_seized refl refl refl; said = []; printed = refl; hand = refl; lives = refl; unborn = refl; sort = refl; in_turns = refl }
  dead_served f w mode h (Entry_peek r d x) = record { next = Dead_due w mode None; proc = refl; task = refl; knows = (h.0, h.1, refl); stage = refl; seized = Not_seized refl refl refl; said = []; printed = refl; hand = refl; lives = refl; unborn = refl; sort = refl; in_turns = refl }
  dead_served f w mode h (Entry_set r n) = record { next = Dead_due w mode None; proc = refl; task = refl; knows = (h.0, h.1, refl); stage = refl; seized = Not_seized refl refl refl; said = []; printed = refl; hand = refl; lives = refl; unborn = refl; sort = refl; in_turns = refl }
  dead_served f w mode h Exit_regs = record { next = Dead_due w mode None; proc = refl; task = refl; knows = (h.0, h.1, refl); stage = refl; seized = Not_seized refl refl refl; said = []; printed = refl; hand = refl; lives = refl; unborn = refl; sort = refl; in_turns = refl }
  dead_served f w mode h (Exit_set r x) = record { next = Dead_due w mode None; proc = refl; task = refl; knows = (h.0, h.1, refl); stage = refl; seized = Not_seized refl refl refl; said = []; printed = refl; hand = refl; lives = refl; unborn = refl; sort = refl; in_turns = refl }
  dead_served f w mode h (Exit_peek x r d y) = record { next = Dead_due w mode None; proc = refl; task = refl; knows = (h.0, h.1, refl); stage = refl; seized = Not_seized refl refl refl; said = []; printed = refl; hand = refl; lives = refl; unborn = refl; sort = refl; in_turns = refl }
  dead_served f w mode h (Signal_info n) = record { next = Dead_due w mode None; proc = refl; task = refl; knows = (h.0, h.1, refl); stage = refl; seized = Not_seized refl refl refl; said = []; printed = refl; hand = refl; lives = refl; unborn = refl; sort = refl; in_turns = refl }
  dead_served f w mode h (Resuming n) = record { next = Dead_due w mode None; proc = refl; task = refl; knows = (h.0, h.1, refl); stage = refl; seized = Not_seized refl refl refl; said = []; printed = refl; hand = refl; lives = refl; unborn = refl; sort = refl; in_turns = refl }
  dead_served f w mode h Listening = record { next = Dead_due w mode None; proc = refl; task = refl; knows = (h.0, h.1, refl); stage = refl; seized = Not_seized refl refl refl; said = []; printed = refl; hand = refl; lives = refl; unborn = refl; sort = refl; in_turns = refl }

  occurrence : (b : B) → Entering true (m.regs b) k e → (c : Choice) → script (a7_of (m.regs b)) (k.counts (a7_of (m.regs b)) + 1) ≡ c → script (a7_of (m.regs b)) (e (a7_of (m.regs b))) ≡ c
  occurrence b h c chosen =
      let here : e (a7_of (m.regs b)) ≡ k.counts (a7_of (m.regs b)) + 1 = rw (h.one_more (a7_of (m.regs b)), same_pid (a7_of (m.regs b))) refl in
      rw (here) chosen

  entry_served : (f : Bool) (b : B) (got : List (List ℕ)) → enter_part o p (call_of (m.regs b)) (sp_of (m.regs b)) got ≡ part o (enter_of m p b) → Entering true (m.regs b) k e → (c : Choice) (r : Option ℕ) → result_word c ≡ r → script (a7_of (m.regs b)) (k.counts (a7_of (m.regs b)) + 1) ≡ c → Served m f o script p (Enter_asked b) e (says (proc_of m f (Enter_asked b)) (Registers_are (m.regs b))) (entry_with o p (m.regs b) got k (signal_word c.signal) r)
  entry_served f b got told h c None q chosen = record { next = Enter_resuming b None c.signal; proc = refl; task = refl; knows = record { read = refl; calling = record { inside_is = h.inside_is; saved_is = refl; called_is = refl; stands = refl; same = counted k.counts e (a7_of (m.regs b)) h.one_more }; result = ap result_word (occurrence b h c chosen) ∙ q; signal = ap (λ (x : Choice). x.signal) (occurrence b h c chosen) }; stage = refl; seized = Not_seized refl refl refl; said = enter_of m p b ∷ []; printed = told ∙ sym (append-nil (part o (enter_of m p b))); hand = refl; lives = refl; unborn = refl; sort = refl; in_turns = refl }
  entry_served f b got told h c (Some v) q chosen = record { next = Enter_setting b v c.signal; proc = refl; task = refl; knows = record { read = refl; calling = record { inside_is = h.inside_is; saved_is = refl; called_is = refl; stands = refl; same = counted k.counts e (a7_of (m.regs b)) h.one_more }; result = ap result_word (occurrence b h c chosen) ∙ q; signal = ap (λ (x : Choice). x.signal) (occurrence b h c chosen) }; stage = refl; seized = Not_seized refl refl refl; said = enter_of m p b ∷ []; printed = told ∙ sym (append-nil (part o (enter_of m p b))); hand = refl; lives = refl; unborn = refl; sort = refl; in_turns = refl }

  -- the reader has read all, or looks once more
  read_all : (peek : ℕ → ℕ → List ℕ) (half : Half) (got : List (List ℕ)) (n : ℕ) → Reading o peek half got n → o.texts.wants half got ≡ None → got ≡ reads o.texts peek half most_reads []
  read_all peek half got zero r w = r.whole
  read_all peek half got (suc n) r w = ap (read_on peek (reads o.texts peek half n) got) (sym w) ∙ r.whole

  -- after so many reads nothing is wanted
  reads_end : (peek : ℕ → ℕ → List ℕ) (half : Half) (n : ℕ) (got : List (List ℕ)) → most_reads ≤ length got + n → o.texts.wants half (reads o.texts peek half n got) ≡ None
  reads_end peek half zero got l = texts.stops half got (omega (arith, l))
  reads_end peek half (suc n) got l = go (o.texts.wants half got) refl (λ w. reads_end peek half n (got ++ peek w.0 w.1 ∷ []) (omega (arith, l, length-append got (peek w.0 w.1 ∷ []))))
    where
      go : (w : Option (ℕ × ℕ)) → o.texts.wants half got ≡ w → ((x : ℕ × ℕ) → o.texts.wants half (reads o.texts peek half n (got ++ peek x.0 x.1 ∷ [])) ≡ None) → o.texts.wants half (read_on peek (reads o.texts peek half n) got w) ≡ None
      go None e again = e
      go (Some x) e again = again x

  read_more : (peek : ℕ → ℕ → List ℕ) (half : Half) (got : List (List ℕ)) (n : ℕ) (w : ℕ × ℕ) → Reading o peek half got n → o.texts.wants half got ≡ Some w → (j : ℕ) × Reading o peek half (got ++ peek w.0 w.1 ∷ []) j
  read_more peek half got zero w r q = absurd (cc (r.whole, reads_end peek half most_reads [] (omega arith), q))
  read_more peek half got (suc n) w r q = (n, record { whole = ap (read_on peek (reads o.texts peek half n) got) (sym q) ∙ r.whole })

  abbrev entry_half : B → Half
  entry_half b = At_entry (call_of (m.regs b)) (sp_of (m.regs b))

  look_served : (f : Bool) (b : B) (got : List (List ℕ)) (n : ℕ) → Reading o (m.peek b) (entry_half b) got n → o.shows (a7_of (m.regs b)) ≡ true → Entering true (m.regs b) k e → (w : Option (ℕ × ℕ)) → o.texts.wants (entry_half b) got ≡ w → Served m f o script p (Enter_asked b) e (says (proc_of m f (Enter_asked b)) (Registers_are (m.regs b))) (look_entry o script p (m.regs b) got k w)
  look_served f b got n r shown h None w = entry_served f b got (ap (enter_part o p (call_of (m.regs b)) (sp_of (m.regs b))) (read_all (m.peek b) (entry_half b) got n r w)) h (script (a7_of (m.regs b)) (k.counts (a7_of (m.regs b)) + 1)) (result_word (script (a7_of (m.regs b)) (k.counts (a7_of (m.regs b)) + 1))) refl refl
  look_served f b got n r shown h (Some x) w = record { next = Enter_peeking b got x n; proc = refl; task = refl; knows = (h, r, w, shown); stage = refl; seized = Not_seized refl refl refl; said = []; printed = refl; hand = refl; lives = refl; unborn = refl; sort = refl; in_turns = refl }

  read_entry_served : (f : Bool) (b : B) (got : List (List ℕ)) (n : ℕ) → Reading o (m.peek b) (entry_half b) got n → Entering true (m.regs b) k e → (shown : Bool) → o.shows (a7_of (m.regs b)) ≡ shown → Served m f o script p (Enter_asked b) e (says (proc_of m f (Enter_asked b)) (Registers_are (m.regs b))) (read_entry o script p (m.regs b) got k shown)
  read_entry_served f b got n r h true shown = look_served f b got n r shown h (o.texts.wants (entry_half b) got) refl
  read_entry_served f b got n r h false shown = entry_served f b [] (rw shown refl) h (script (a7_of (m.regs b)) (k.counts (a7_of (m.regs b)) + 1)) (result_word (script (a7_of (m.regs b)) (k.counts (a7_of (m.regs b)) + 1))) refl refl

  -- what Peek read comes to the tracer
  bytes_served : (f : Bool) (b : B) (d : List (List ℕ)) (w : ℕ × ℕ) (n : ℕ) (bytes : List ℕ) → Served m f o script p (Enter_asked b) e (says (proc_of m f (Enter_asked b)) (Registers_are (m.regs b))) (read_entry o script p (m.regs b) (d ++ bytes ∷ []) k true) → Served m f o script p (Enter_peeking b d w n) e (says (proc_of m f (Enter_peeking b d w n)) (peeked bytes)) (peeked_entry o script p (m.regs b) d k (bytes_of (peeked bytes)))
  bytes_served f b d w n [] u = as_at m f o script p e (Enter_asked b) (Enter_peeking b d w n) _ _ _ u refl refl refl refl refl refl refl refl refl refl refl
  bytes_served f b d w n (x ∷ bytes) u = as_at m f o script p e (Enter_asked b) (Enter_peeking b d w n) _ _ _ u refl refl refl refl refl refl refl refl refl refl refl

  -- the rest of a call, where its body is as in the kernel
  abbrev done_phase : B → ℕ → Bool → Phase B
  done_phase b x replaced = Exit_peeking b k.called x replaced [] (0, 0) 0

  abbrev DoneServed : Bool → B → ℕ → Bool → Heard → Type 0
  DoneServed f b x replaced h = Served m f o script p (done_phase b x replaced) e (says (held f (Alive b Finished)) Agreed) h

  exit_served : (f : Bool) (b : B) (x : ℕ) (replaced : Bool) (got : List (List ℕ)) → (k.inside ≡ false) × (is_between k.standing ≡ true) → ((n : ℕ) → e n ≡ k.counts n) → done_part o p k.called x replaced got ≡ part o (rest_of m p b k.called x replaced) → DoneServed f b x replaced (exit o p x replaced got k)
  exit_served f b x replaced got inside same told = record { next = Exit_resuming b; proc = refl; task = refl; knows = record { outside = inside.0; between = inside.1; same = same }; stage = refl; seized = Not_seized refl refl refl; said = rest_of m p b k.called x replaced ∷ []; printed = told ∙ sym (append-nil (part o (rest_of m p b k.called x replaced))); hand = refl; lives = refl; unborn = refl; sort = refl; in_turns = refl }

  look_exit_served : (f : Bool) (b : B) (x : ℕ) (replaced : Bool) (got : List (List ℕ)) (n : ℕ) → Reading o (m.peek b) (At_exit k.called x) got n → (k.inside ≡ false) × (is_between k.standing ≡ true) → ((n : ℕ) → e n ≡ k.counts n) → o.shows k.called.number ≡ true → (w : Option (ℕ × ℕ)) → o.texts.wants (At_exit k.called x) got ≡ w → DoneServed f b x replaced (look_exit o p x replaced got k w)
  look_exit_served f b x replaced got n r inside same shown None w = exit_served f b x replaced got inside same (ap (done_part o p k.called x replaced) (read_all (m.peek b) (At_exit k.called x) got n r w))
  look_exit_served f b x replaced got n r inside same shown (Some y) w = record { next = Exit_peeking b k.called x replaced got y n; proc = refl; task = refl; knows = (record { inside_is = inside.0; saved_is = refl; called_is = refl; stands = inside.1; same = same }, r, w, shown); stage = refl; seized = Not_seized refl refl refl; said = []; printed = refl; hand = refl; lives = refl; unborn = refl; sort = refl; in_turns = refl }

  read_exit_served : (f : Bool) (b : B) (x : ℕ) (replaced : Bool) (got : List (List ℕ)) (n : ℕ) → Reading o (m.peek b) (At_exit k.called x) got n → (k.inside ≡ false) × (is_between k.standing ≡ true) → ((n : ℕ) → e n ≡ k.counts n) → (shown : Bool) → o.shows k.called.number ≡ shown → DoneServed f b x replaced (read_exit o p x replaced got k shown)
  read_exit_served f b x replaced got n r inside same true shown = look_exit_served f b x replaced got n r inside same shown (o.texts.wants (At_exit k.called x) got) refl
  read_exit_served f b x replaced got n r inside same false shown = exit_served f b x replaced [] inside same (rw shown refl)

  bytes_done : (f : Bool) (b : B) (x : ℕ) (replaced : Bool) (d : List (List ℕ)) (w : ℕ × ℕ) (n : ℕ) (bytes : List ℕ) → DoneServed f b x replaced (read_exit o p x replaced (d ++ bytes ∷ []) k true) → Served m f o script p (Exit_peeking b k.called x replaced d w n) e (says (held f (Alive b Finished)) (peeked bytes)) (peeked_exit o p x replaced d k (bytes_of (peeked bytes)))
  bytes_done f b x replaced d w n [] u = as_at m f o script p e (done_phase b x replaced) (Exit_peeking b k.called x replaced d w n) _ _ _ u refl refl refl refl refl refl refl refl refl refl refl
  bytes_done f b x replaced d w n (y ∷ bytes) u = as_at m f o script p e (done_phase b x replaced) (Exit_peeking b k.called x replaced d w n) _ _ _ u refl refl refl refl refl refl refl refl refl refl refl

  asked_served : (f : Bool) (b : B) (c : Call) (r : Option ℕ) → Calling false r (call_in m b c r) k e → Served m f o script p (Exit_asked b c r) e (says (proc_of m f (Exit_asked b c r)) (Registers_are (m.regs (left_masked m b r)))) (exit_with o p (m.regs (left_masked m b r)) k r)
  asked_served f b c None h = as_at m f o script p e (done_phase b (a0_of (m.regs b)) false) (Exit_asked b c None) _ _ _ (read_exit_served f b (a0_of (m.regs b)) false [] most_reads (record { whole = refl }) (h.inside_is, h.stands) h.same (o.shows k.called.number) refl) refl refl refl refl refl refl (ap (λ c. rest_of m p b c (a0_of (m.regs b)) false ∷ []) h.called_is) refl refl refl refl
  asked_served f b c (Some v) h = record { next = Exit_setting b v; proc = refl; task = refl; knows = h; stage = ap (λ (c : Call). Some (Exit_set (with_a7 (with_a0 (m.regs (left_masked m b (Some v))) v) c.number) v)) (sym h.called_is); seized = Not_seized refl refl refl; said = []; printed = refl; hand = refl; lives = refl; unborn = refl; sort = refl; in_turns = refl }

  set_served : (f : Bool) (b : B) (v : ℕ) → Calling false (Some v) (call_of (m.regs b)) k e → Served m f o script p (Exit_setting b v) e (says (held f (Alive (m.with_regs (left_masked m b (Some v)) (with_a7 (with_a0 (m.regs (left_masked m b (Some v))) v) (a7_of (m.regs b)))) Finished)) Agreed) (read_exit o p v true [] k (o.shows k.called.number))
  set_served f b v h = as_at m f o script p e (done_phase (with_result m b v) v true) (Exit_setting b v) _ _ _ (read_exit_served f (with_result m b v) v true [] most_reads (record { whole = refl }) (h.inside_is, h.stands) h.same (o.shows k.called.number) refl) (ap (λ c. held f (Alive c Finished)) (restored m laws b v)) refl refl refl refl refl (ap (λ c. rest_of m p (with_result m b v) c v true ∷ []) h.called_is) refl refl refl refl

  resumed_entry : (f : Bool) (message : ℕ) (b : B) (r : Option ℕ) (n : Option Signal) → Chosen script (m.regs b) r n k e → Serves f message (Enter_resuming b r n) (asks o (Resuming (signal_word n))) (Resuming (signal_word n))
  resumed_entry f message b r None h = rw zero_is_none (record { next = Enter_free b r None; proc = refl; task = refl; knows = h; stage = refl; seized = Not_seized refl refl refl; said = []; printed = refl; hand = refl; lives = refl; unborn = refl; sort = refl; in_turns = refl })
  resumed_entry f message b r (Some v) h =
      let j : is_signal v.number ≡ true = v.in_range in
      rw (may_resume (v.number == 0) (is_signal v.number) j, signal_back v) (record { next = Enter_free b r (Some v); proc = refl; task = refl; knows = h; stage = refl; seized = Not_seized refl refl refl; said = []; printed = refl; hand = refl; lives = refl; unborn = refl; sort = refl; in_turns = refl })

  pub served : (message : ℕ) (ph : Phase B) → Knows m o script ph k e → (st : Awaiting) → stage_of m ph ≡ Some st → Serves o.follow message ph (asks o st) st
  served message (Enter_asked b) h st q = subst (λ x. Serves o.follow message (Enter_asked b) (asks o x) x) (some_inj _ _ q) (read_entry_served o.follow b [] most_reads (record { whole = refl }) h (o.shows (a7_of (m.regs b))) refl)
  served message (Enter_peeking b d w n) h st q =
      let j : (i : ℕ) × Reading o (m.peek b) (entry_half b) (d ++ m.peek b w.0 w.1 ∷ []) i = read_more (m.peek b) (entry_half b) d n w h.1 h.2 in
      subst (λ x. Serves o.follow message (Enter_peeking b d w n) (asks o x) x) (some_inj _ _ q) (rw (texts.fits (entry_half b) d w h.2) (bytes_served o.follow b d w n (m.peek b w.0 w.1) (read_entry_served o.follow b (d ++ m.peek b w.0 w.1 ∷ []) j.0 j.1 h.0 true h.3)))
  served message (Enter_setting b v n) h st q = subst (λ x. Serves o.follow message (Enter_setting b v n) (asks o x) x) (some_inj _ _ q) (record { next = Enter_resuming b (Some v) n; proc = refl; task = refl; knows = h; stage = refl; seized = Not_seized refl refl refl; said = []; printed = refl; hand = refl; lives = refl; unborn = refl; sort = refl; in_turns = refl })
  served message (Enter_resuming b r n) h st q = subst (λ x. Serves o.follow message (Enter_resuming b r n) (asks o x) x) (some_inj _ _ q) (resumed_entry o.follow message b r n h)
  served message (Exit_asked b c r) h st q = subst (λ x. Serves o.follow message (Exit_asked b c r) (asks o x) x) (some_inj _ _ q) (subst (λ x. Served m o.follow o script p (Exit_asked b c r) e (says (proc_of m o.follow (Exit_asked b c r)) (Registers_are (m.regs (left_masked m b r)))) (exit_with o p (m.regs (left_masked m b r)) k x)) (sym h.saved_is) (asked_served o.follow b c r h))
  served message (Exit_setting b v) h st q = subst (λ x. Serves o.follow message (Exit_setting b v) (asks o x) x) (some_inj _ _ q) (set_served o.follow b v h)
  served message (Exit_peeking b c x r d w n) h st q =
      let half : Half = At_exit c x in
      let j : (i : ℕ) × Reading o (m.peek b) (At_exit c x) (d ++ m.peek b w.0 w.1 ∷ []) i = read_more (m.peek b) (At_exit c x) d n w h.1 h.2 in
      subst (λ y. Serves o.follow message (Exit_peeking b c x r d w n) (asks o y) y) (some_inj _ _ q) (rw (texts.fits (At_exit c x) d w h.2)
      (subst (λ y. Served m o.follow o script p (Exit_peeking b y x r d w n) e (says (held o.follow (Alive b Finished)) (peeked (m.peek b w.0 w.1))) (peeked_exit o p x r d k (bytes_of (peeked (m.peek b w.0 w.1))))) h.0.called_is
      (bytes_done o.follow b x r d w n (m.peek b w.0 w.1) (read_exit_served o.follow b x r (d ++ m.peek b w.0 w.1 ∷ []) j.0 (subst (λ y. Reading o (m.peek b) (At_exit y x) (d ++ m.peek b w.0 w.1 ∷ []) j.0) (sym h.0.called_is) j.1) (h.0.inside_is, h.0.stands) h.0.same true (ap (λ (y : Call). o.shows y.number) h.0.called_is ∙ h.3)))))
  served message (Exit_resuming b) h st q = subst (λ x. Serves o.follow message (Exit_resuming b) (asks o x) x) (some_inj _ _ q) (record { next = Exit_free b; proc = refl; task = refl; knows = h; stage = refl; seized = Not_seized refl refl refl; said = []; printed = refl; hand = refl; lives = refl; unborn = refl; sort = refl; in_turns = refl })
  served message (Sig_asked b n cause) h st q = subst (λ x. Serves o.follow message (Sig_asked b n cause) (asks o x) x) (some_inj _ _ q) (record { next = Sig_resuming b n cause; proc = refl; task = refl; knows = h; stage = refl; seized = Not_seized refl refl refl; said = signal_of m p b n cause ∷ []; printed = refl; hand = refl; lives = refl; unborn = refl; sort = refl; in_turns = refl })
  served message (Sig_resuming b n cause) h st q = subst (λ x. Serves o.follow message (Sig_resuming b n cause) (asks o x) x) (some_inj _ _ q) (rw (same_pid n.number) (record { next = Sig_free b n cause; proc = refl; task = refl; knows = h; stage = refl; seized = Not_seized refl refl refl; said = []; printed = refl; hand = refl; lives = refl; unborn = refl; sort = refl; in_turns = refl }))
  served message (Halt_asked b n) h st q = subst (λ x. Serves o.follow message (Halt_asked b n) (asks o x) x) (some_inj _ _ q) (record { next = Halt_free b n; proc = refl; task = refl; knows = h; stage = refl; seized = Not_seized refl refl refl; said = []; printed = refl; hand = refl; lives = refl; unborn = refl; sort = refl; in_turns = refl })
  served message (Wake_resuming b) h st q = subst (λ x. Serves o.follow message (Wake_resuming b) (asks o x) x) (some_inj _ _ q) (record { next = Wake_free b; proc = refl; task = refl; knows = h; stage = refl; seized = Not_seized refl refl refl; said = []; printed = refl; hand = refl; lives = refl; unborn = refl; sort = refl; in_turns = refl })
  served message (Dead_due w mode (Some x)) h st q = subst (λ y. Serves o.follow message (Dead_due w mode (Some x)) (asks o y) y) (some_inj _ _ q) (dead_served o.follow w mode (h.0, h.1) x)
  served message (Boot_held b) h st q = subst (λ x. Serves o.follow message (Boot_held b) (asks o x) x) (some_inj _ _ q) (rw (seize_answer m message o.follow b) (record { next = Born_due b; proc = refl; task = refl; knows = h; stage = refl; seized = Seized refl refl; said = []; printed = refl; hand = refl; lives = refl; unborn = refl; sort = refl; in_turns = refl }))
  served message (Born_resuming b) h st q = subst (λ x. Serves o.follow message (Born_resuming b) (asks o x) x) (some_inj _ _ q) (record { next = Born_free b; proc = refl; task = refl; knows = h; stage = refl; seized = Not_seized refl refl refl; said = []; printed = refl; hand = refl; lives = refl; unborn = refl; sort = refl; in_turns = refl })
  served message (Event_resuming b c) h st q = subst (λ x. Serves o.follow message (Event_resuming b c) (asks o x) x) (some_inj _ _ q) (record { next = Has_acted b c None; proc = refl; task = refl; knows = h; stage = refl; seized = Not_seized refl refl refl; said = []; printed = refl; hand = refl; lives = refl; unborn = refl; sort = refl; in_turns = refl })
  served message (Dead_due w mode None) h st q = absurd (cc q)
  served message (Running b) h st q = absurd (cc q)
  served message (Enter_due b) h st q = absurd (cc q)
  served message (Enter_free b r n) h st q = absurd (cc q)
  served message (In_call b c) h st q = absurd (cc q)
  served message (In_replaced b v) h st q = absurd (cc q)
  served message (Has_acted b c r) h st q = absurd (cc q)
  served message (Exit_due b c r) h st q = absurd (cc q)
  served message (Exit_free b) h st q = absurd (cc q)
  served message (Fault_free b n cause) h st q = absurd (cc q)
  served message (Sig_due b n cause) h st q = absurd (cc q)
  served message (Sig_free b n cause) h st q = absurd (cc q)
  served message (Halt_due b n) h st q = absurd (cc q)
  served message (Halt_free b n) h st q = absurd (cc q)
  served message (Wake_due b) h st q = absurd (cc q)
  served message (Wake_free b) h st q = absurd (cc q)
  served message (Dead w) h st q = absurd (cc q)
  served message Nobody h st q = absurd (cc q)
  served message (Unborn t) h st q = absurd (cc q)
  served message (Born_due b) h st q = absurd (cc q)
  served message (Born_free b) h st q = absurd (cc q)
  served message (Event_due n b c) h st q = absurd (cc q)
  served message (Loose x) h st q = absurd (cc q)
