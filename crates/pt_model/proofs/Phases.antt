-- The table: where a process is between the kernel and the tracer, and what every part knows there.
use Rattle.std.proofs.Common.{◌≡◌, ℕ, ◌+◌, Bool, true, false, cond, List, [], ◌∷◌, ◌++◌, Option, Some, None, filter}
use Rattle.std.specs.Prelude.{◌==◌}
use Rattle.lx_abi.specs.declared.log.Call.{Call}
use Rattle.lx_abi.specs.declared.log.Cause.{Cause}
use Rattle.lx_abi.specs.declared.log.Item.TheVariants.{Enter, Done, Taken as Signalled, Stopped as Halts, Exit}
use Rattle.lx_abi.specs.declared.log.Mode.{Mode}
use Rattle.lx_abi.specs.declared.signal.Signal.{Signal}
use Rattle.lx_abi.specs.declared.status.EventStop.{EventStop}
use Rattle.lx_abi.specs.declared.status.EventStop.TheVariants.{Stop as At_start}
use Rattle.lx_abi.specs.Log.{Noted, pid_of, items_of, entries}
use Rattle.lx_abi.specs.Signals.{is_stop}
use Rattle.lx_abi.specs.Status.{is_end}
use Rattle.lx_model.specs.Machine.{Regs, call_of, a0_of, a7_of, sp_of, with_a0, with_a7, no_call, Machine, with_result}
use Rattle.lx_model.specs.Turn.{note_of, no_note, result_word}
use Rattle.lx_model.specs.declared.stage.Stage.{Stage}
use Rattle.lx_model.specs.declared.stage.Stage.TheVariants.{Born, Run, Faulting, Entered, Doing, Replaced, Acted, Finished, Taken, Stopped, Woken}
use Rattle.lx_model.specs.declared.stage.Task.{Task}
use Rattle.lx_model.specs.declared.stage.Task.TheVariants.{Alive, Dying, Gone}
use Rattle.lx_model.specs.Kernel.{Script}
use Rattle.pt_model.specs.Ptrace.{Proc, is_there}
use Rattle.pt_model.specs.Parts.{Half, At_entry, At_exit, Options}
use Rattle.pt_model.specs.Admissible.{Standing, Unmet, Between, After_signal, Halted, Unread, Read, was_read, event_fits, end_fits}
use Rattle.pt_model.specs.Tracer.{Known, Awaiting, Seizing, Entry_regs, Entry_peek, Entry_set, Exit_regs, Exit_set, Exit_peek, Signal_info, Resuming, Listening, asked_options, signal_word}
use Rattle.pt_model.specs.View.{has_exit, may_lose, reads, most_reads, Due, Logged, Unlogged, due_pid, items_in}
use Rattle.pt_model.proofs.Registers.{no_such_result}

pub data Phase (B : Type 0) : Type 0 where
  Running : B → Phase B
  Enter_due : B → Phase B
  Enter_asked : B → Phase B
  -- with what was read, what is wanted, and how often more may be wanted
  Enter_peeking : B → List (List ℕ) → ℕ × ℕ → ℕ → Phase B
  Enter_setting : B → ℕ → Option Signal → Phase B
  Enter_resuming : B → Option ℕ → Option Signal → Phase B
  Enter_free : B → Option ℕ → Option Signal → Phase B
  In_call : B → Call → Phase B
  In_replaced : B → ℕ → Phase B
  -- of a replaced call, with its result, the body is that before the call
  Has_acted : B → Call → Option ℕ → Phase B
  Exit_due : B → Call → Option ℕ → Phase B
  Exit_asked : B → Call → Option ℕ → Phase B
  Exit_setting : B → ℕ → Phase B
  Exit_peeking : B → Call → ℕ → Bool → List (List ℕ) → ℕ × ℕ → ℕ → Phase B
  Exit_resuming : B → Phase B
  Exit_free : B → Phase B
  Fault_free : B → Signal → Cause → Phase B
  Sig_due : B → Signal → Cause → Phase B
  Sig_asked : B → Signal → Cause → Phase B
  Sig_resuming : B → Signal → Cause → Phase B
  Sig_free : B → Signal → Cause → Phase B
  -- stopped by a signal
  Halt_due : B → Signal → Phase B
  Halt_asked : B → Signal → Phase B
  Halt_free : B → Signal → Phase B
  Wake_due : B → Phase B
  Wake_resuming : B → Phase B
  Wake_free : B → Phase B
  Dead_due : ℕ → Mode → Option Awaiting → Phase B
  Dead : ℕ → Phase B
  Nobody : Phase B
  -- not yet born; will it be a tracee
  Unborn : Bool → Phase B
  -- process 1 before Seize
  Boot_held : B → Phase B
  Born_due : B → Phase B
  Born_resuming : B → Phase B
  Born_free : B → Phase B
  -- a clone or an execve that succeeded
  Event_due : EventStop → B → Call → Phase B
  Event_resuming : B → Call → Phase B
  -- not a tracee
  Loose : Task B → Phase B

-- the end of a process as it is logged
abbrev pub exit_of : ℕ → ℕ → Mode → Noted
exit_of p w mode = record { item = Exit p w mode; note = no_note }

abbrev pub some : {X : Type 0} → Option X → Bool
some (Some x) = true
some None = false

abbrev pub free : {B : Type 0} → Bool → Task B → Proc B
free follow h = record { task = h; held = false; options = Some (asked_options follow) }

abbrev pub held : {B : Type 0} → Bool → Task B → Proc B
held follow h = record { task = h; held = true; options = Some (asked_options follow) }

module _ {S B : Type 0} (m : Machine S B) where
  -- the traced process where its call is replaced
  abbrev pub masked : B → Option ℕ → B
  masked b None = b
  masked b (Some v) = m.with_regs b (with_a7 (m.regs b) no_call)

  -- after the call
  abbrev pub left : B → Option ℕ → B
  left b None = b
  left b (Some v) = with_result m b v

  abbrev pub left_masked : B → Option ℕ → B
  left_masked b None = b
  left_masked b (Some v) = with_result m (masked b (Some v)) no_such_result

  abbrev pub call_in : B → Call → Option ℕ → Call
  call_in b c None = c
  call_in b c (Some v) = call_of (m.regs b)

  abbrev pub result_in : B → Option ℕ → ℕ
  result_in b None = a0_of (m.regs b)
  result_in b (Some v) = v

  abbrev pub acted_masked : B → Call → Option ℕ → Stage
  acted_masked b c None = Acted c (a0_of (m.regs b)) false
  acted_masked b c (Some v) = Acted (call_of (m.regs (masked b (Some v)))) no_such_result false

  -- a signal that is to be joined
  abbrev pub task_of : Phase B → Task B
  task_of (Running b) = Alive b Run
  task_of (Enter_due b) = Alive b (Entered None)
  task_of (Enter_asked b) = Alive b (Entered None)
  task_of (Enter_peeking b d w n) = Alive b (Entered None)
  task_of (Enter_setting b v n) = Alive b (Entered None)
  task_of (Enter_resuming b r n) = Alive b (Entered None)
  task_of (Enter_free b r n) = Alive b (Entered None)
  task_of (In_call b c) = Alive b (Doing c)
  task_of (In_replaced b v) = Alive b (Replaced (call_of (m.regs b)) v)
  task_of (Has_acted b c r) = Alive (left b r) (Acted (call_in b c r) (result_in b r) (some r))
  task_of (Exit_due b c r) = Alive (left b r) Finished
  task_of (Exit_asked b c r) = Alive (left b r) Finished
  task_of (Exit_setting b v) = Alive (left b (Some v)) Finished
  task_of (Exit_peeking b c x r d w n) = Alive b Finished
  task_of (Exit_resuming b) = Alive b Finished
  task_of (Exit_free b) = Alive b Finished
  task_of (Fault_free b n cause) = Alive b (Faulting n cause)
  task_of (Sig_due b n cause) = Alive b (Taken n cause)
  task_of (Sig_asked b n cause) = Alive b (Taken n cause)
  task_of (Sig_resuming b n cause) = Alive b (Taken n cause)
  task_of (Sig_free b n cause) = Alive b (Taken n cause)
  task_of (Halt_due b n) = Alive b (Stopped n)
  task_of (Halt_asked b n) = Alive b (Stopped n)
  task_of (Halt_free b n) = Alive b (Stopped n)
  task_of (Wake_due b) = Alive b Woken
  task_of (Wake_resuming b) = Alive b Woken
  task_of (Wake_free b) = Alive b Woken
  task_of (Dead_due w mode s) = Dying w
  task_of (Dead w) = Dying w
  task_of Nobody = Gone
  task_of (Unborn t) = Gone
  task_of (Boot_held b) = Alive b Born
  task_of (Born_due b) = Alive b Born
  task_of (Born_resuming b) = Alive b Born
  task_of (Born_free b) = Alive b Born
  task_of (Event_due n b c) = Alive b (Acted c (a0_of (m.regs b)) false)
  task_of (Event_resuming b c) = Alive b (Acted c (a0_of (m.regs b)) false)
  task_of (Loose h) = h

  abbrev pub proc_of : Bool → Phase B → Proc B
  proc_of f (Running b) = free f (Alive b Run)
  proc_of f (Enter_due b) = held f (Alive b (Entered None))
  proc_of f (Enter_asked b) = held f (Alive b (Entered None))
  proc_of f (Enter_peeking b d w n) = held f (Alive b (Entered None))
  proc_of f (Enter_setting b v n) = held f (Alive b (Entered None))
  proc_of f (Enter_resuming b r n) = held f (Alive (masked b r) (Entered None))
  proc_of f (Enter_free b r n) = free f (Alive (masked b r) (Entered n))
  proc_of f (In_call b c) = free f (Alive b (Doing c))
  proc_of f (In_replaced b v) = free f (Alive (masked b (Some v)) (Doing (call_of (m.regs (masked b (Some v))))))
  proc_of f (Has_acted b c r) = free f (Alive (left_masked b r) (acted_masked b c r))
  proc_of f (Exit_due b c r) = held f (Alive (left_masked b r) Finished)
  proc_of f (Exit_asked b c r) = held f (Alive (left_masked b r) Finished)
  proc_of f (Exit_setting b v) = held f (Alive (left_masked b (Some v)) Finished)
  proc_of f (Exit_peeking b c x r d w n) = held f (Alive b Finished)
  proc_of f (Exit_resuming b) = held f (Alive b Finished)
  proc_of f (Exit_free b) = free f (Alive b Finished)
  proc_of f (Fault_free b n cause) = free f (Alive b (Faulting n cause))
  proc_of f (Sig_due b n cause) = held f (Alive b (Taken n cause))
  proc_of f (Sig_asked b n cause) = held f (Alive b (Taken n cause))
  proc_of f (Sig_resuming b n cause) = held f (Alive b (Taken n cause))
  proc_of f (Sig_free b n cause) = free f (Alive b (Taken n cause))
  proc_of f (Halt_due b n) = held f (Alive b (Stopped n))
  proc_of f (Halt_asked b n) = held f (Alive b (Stopped n))
  proc_of f (Halt_free b n) = free f (Alive b (Stopped n))
  proc_of f (Wake_due b) = held f (Alive b Woken)
  proc_of f (Wake_resuming b) = held f (Alive b Woken)
  proc_of f (Wake_free b) = free f (Alive b Woken)
  proc_of f (Dead_due w mode s) = held f (Dying w)
  proc_of f (Dead w) = free f (Dying w)
  proc_of f Nobody = free f Gone
  proc_of f (Unborn t) = record { task = Gone; held = false; options = None }
  proc_of f (Boot_held b) = record { task = Alive b Born; held = true; options = None }
  proc_of f (Born_due b) = held f (Alive b Born)
  proc_of f (Born_resuming b) = held f (Alive b Born)
  proc_of f (Born_free b) = free f (Alive b Born)
  proc_of f (Event_due n b c) = held f (Alive b (Acted c (a0_of (m.regs b)) false))
  proc_of f (Event_resuming b c) = held f (Alive b (Acted c (a0_of (m.regs b)) false))
  proc_of f (Loose h) = record { task = h; held = false; options = None }

  abbrev pub enter_of : ℕ → B → Noted
  enter_of p b = record { item = Enter p (call_of (m.regs b)); note = note_of m b }

  abbrev pub done_of : ℕ → B → Call → Option ℕ → Noted
  done_of p b c r = record { item = Done p (call_in b c r) (result_in b r) (some r); note = note_of m (left b r) }

  -- the rest of a call, where its body is as in the kernel
  abbrev pub rest_of : ℕ → B → Call → ℕ → Bool → Noted
  rest_of p b c x replaced = record { item = Done p c x replaced; note = note_of m b }

  abbrev pub signal_of : ℕ → B → Signal → Cause → Noted
  signal_of p b n cause = record { item = Signalled p n cause; note = note_of m b }

  abbrev pub halt_of : ℕ → B → Signal → Noted
  halt_of p b n = record { item = Halts p n; note = note_of m b }

  -- what is behind the reports of p in the queue
  abbrev pub due_in : ℕ → Phase B → List Due
  due_in p (Enter_due b) = Logged (enter_of p b) ∷ []
  due_in p (Exit_due b c r) = Logged (done_of p b c r) ∷ []
  due_in p (Sig_due b n cause) = Logged (signal_of p b n cause) ∷ []
  due_in p (Halt_due b n) = Logged (halt_of p b n) ∷ []
  due_in p (Wake_due b) = Unlogged p At_start ∷ []
  due_in p (Dead_due w mode s) = Logged (exit_of p w mode) ∷ []
  due_in p (Born_due b) = Unlogged p At_start ∷ []
  due_in p (Event_due n b c) = Unlogged p n ∷ []
  due_in p _ = []

  -- the item whose report was taken, and which is not yet printed
  abbrev pub hand_in : ℕ → Phase B → List Noted
  hand_in p (Enter_asked b) = enter_of p b ∷ []
  hand_in p (Enter_peeking b d w n) = enter_of p b ∷ []
  hand_in p (Exit_asked b c r) = done_of p b c r ∷ []
  hand_in p (Exit_setting b v) = done_of p b (call_of (m.regs b)) (Some v) ∷ []
  hand_in p (Exit_peeking b c x r d w n) = rest_of p b c x r ∷ []
  hand_in p (Sig_asked b n cause) = signal_of p b n cause ∷ []
  hand_in p _ = []

  -- what the tracer is asking of p
  abbrev pub stage_of : Phase B → Option Awaiting
  stage_of (Enter_asked b) = Some Entry_regs
  stage_of (Enter_peeking b d w n) = Some (Entry_peek (m.regs b) d w)
  stage_of (Enter_setting b v n) = Some (Entry_set (with_a7 (m.regs b) no_call) (signal_word n))
  stage_of (Enter_resuming b r n) = Some (Resuming (signal_word n))
  stage_of (Exit_asked b c r) = Some Exit_regs
  stage_of (Exit_setting b v) = Some (Exit_set (with_a7 (with_a0 (m.regs (left_masked b (Some v))) v) (a7_of (m.regs b))) v)
  stage_of (Exit_peeking b c x r d w n) = Some (Exit_peek x r d w)
  stage_of (Exit_resuming b) = Some (Resuming 0)
  stage_of (Sig_asked b n cause) = Some (Signal_info n.number)
  stage_of (Sig_resuming b n cause) = Some (Resuming n.number)
  stage_of (Halt_asked b n) = Some Listening
  stage_of (Wake_resuming b) = Some (Resuming 0)
  stage_of (Dead_due w mode s) = s
  stage_of (Boot_held b) = Some Seizing
  stage_of (Born_resuming b) = Some (Resuming 0)
  stage_of (Event_resuming b c) = Some (Resuming 0)
  stage_of _ = None

-- what the tracer knows of p, beside how often p entered each call

abbrev pub is_between : Standing → Bool
is_between Between = true
is_between (After_signal n) = true
is_between _ = false

pub record Unseen (k : Known) (e : ℕ → ℕ) : Type 0 where
  pub outside : k.inside ≡ false
  pub unmet : k.standing ≡ Unmet
  pub same : (n : ℕ) → e n ≡ k.counts n

pub record Outside (k : Known) (e : ℕ → ℕ) : Type 0 where
  pub outside : k.inside ≡ false
  pub between : is_between k.standing ≡ true
  pub same : (n : ℕ) → e n ≡ k.counts n

pub record Passing (s : Signal) (k : Known) (e : ℕ → ℕ) : Type 0 where
  pub outside : k.inside ≡ false
  pub passing : k.standing ≡ After_signal s
  pub same : (n : ℕ) → e n ≡ k.counts n

pub record Halting (k : Known) (e : ℕ → ℕ) : Type 0 where
  pub outside : k.inside ≡ false
  pub halting : k.standing ≡ Halted
  pub same : (n : ℕ) → e n ≡ k.counts n

-- before a syscall stop at an entry was told, and after
abbrev pub entry_stands : Bool → Standing → Type 0
entry_stands false standing = is_between standing ≡ true
entry_stands true standing = standing ≡ Unread

pub record Entering (inside : Bool) (r : Regs) (k : Known) (e : ℕ → ℕ) : Type 0 where
  pub inside_is : k.inside ≡ inside
  pub stands : entry_stands inside k.standing
  pub one_more : (n : ℕ) → e n ≡ k.counts n + cond (n == a7_of r) 1 0

-- before a syscall stop at an exit was told, and after
abbrev pub call_stands : Bool → Standing → Bool
call_stands true standing = was_read standing
call_stands false standing = is_between standing

pub record Calling (inside : Bool) (saved : Option ℕ) (c : Call) (k : Known) (e : ℕ → ℕ) : Type 0 where
  pub inside_is : k.inside ≡ inside
  pub saved_is : k.saved ≡ saved
  pub called_is : k.called ≡ c
  pub stands : call_stands inside k.standing ≡ true
  pub same : (n : ℕ) → e n ≡ k.counts n

pub record Chosen (script : Script) (r : Regs) (x : Option ℕ) (n : Option Signal) (k : Known) (e : ℕ → ℕ) : Type 0 where
  pub calling : Calling true x (call_of r) k e
  pub read : k.standing ≡ Read
  pub result : result_word (script (a7_of r) (e (a7_of r))) ≡ x
  pub signal : (script (a7_of r) (e (a7_of r))).signal ≡ n

-- nobody dies while he is seized
abbrev pub is_other : Option Awaiting → Bool
is_other None = true
is_other (Some Seizing) = false
is_other (Some _) = true

-- a word that may be told as the end
abbrev pub fits_end : Known → ℕ → Bool
fits_end k w = end_fits k.called.number (is_there k.saved) k.standing w

-- what is still to be read leads to what the item shows
pub record Reading (o : Options) (peek : ℕ → ℕ → List ℕ) (half : Half) (got : List (List ℕ)) (n : ℕ) : Type 0 where
  pub whole : reads o.texts peek half n got ≡ reads o.texts peek half most_reads []

module _ {S B : Type 0} (m : Machine S B) (o : Options) (script : Script) where
  abbrev pub Knows : Phase B → Known → (ℕ → ℕ) → Type 0
  Knows (Running b) k e = Outside k e
  Knows (Enter_due b) k e = Entering false (m.regs b) k e
  Knows (Enter_asked b) k e = Entering true (m.regs b) k e
  Knows (Enter_peeking b d w n) k e = Entering true (m.regs b) k e × Reading o (m.peek b) (At_entry (call_of (m.regs b)) (sp_of (m.regs b))) d n × (o.texts.wants (At_entry (call_of (m.regs b)) (sp_of (m.regs b))) d ≡ Some w) × (o.shows (a7_of (m.regs b)) ≡ true)
  Knows (Enter_setting b v n) k e = Chosen script (m.regs b) (Some v) n k e
  Knows (Enter_resuming b r n) k e = Chosen script (m.regs b) r n k e
  Knows (Enter_free b r n) k e = Chosen script (m.regs b) r n k e
  Knows (In_call b c) k e = Calling true None c k e × (k.standing ≡ Read)
  Knows (In_replaced b v) k e = Calling true (Some v) (call_of (m.regs b)) k e
  Knows (Has_acted b c r) k e = Calling true r (call_in m b c r) k e
  Knows (Exit_due b c r) k e = Calling true r (call_in m b c r) k e
  Knows (Exit_asked b c r) k e = Calling false r (call_in m b c r) k e
  Knows (Exit_setting b v) k e = Calling false (Some v) (call_of (m.regs b)) k e
  Knows (Exit_peeking b c x r d w n) k e = Calling false k.saved c k e × Reading o (m.peek b) (At_exit c x) d n × (o.texts.wants (At_exit c x) d ≡ Some w) × (o.shows c.number ≡ true)
  Knows (Exit_resuming b) k e = Outside k e
  Knows (Exit_free b) k e = Outside k e
  Knows (Fault_free b n cause) k e = Outside k e
  Knows (Sig_due b n cause) k e = Outside k e
  Knows (Sig_asked b n cause) k e = Passing n k e
  Knows (Sig_resuming b n cause) k e = Passing n k e
  Knows (Sig_free b n cause) k e = Passing n k e
  Knows (Halt_due b n) k e = Passing n k e × (is_stop n.number ≡ true)
  Knows (Halt_asked b n) k e = Halting k e
  Knows (Halt_free b n) k e = Halting k e
  Knows (Wake_due b) k e = Halting k e
  Knows (Wake_resuming b) k e = Outside k e
  Knows (Wake_free b) k e = Outside k e
  Knows (Dead_due w mode s) k e = (is_end w ≡ true) × (fits_end k w ≡ true) × (is_other s ≡ true)
  Knows (Dead w) k e = Unit {0}
  Knows Nobody k e = Unit {0}
  Knows (Unborn t) k e = Unseen k e
  Knows (Boot_held b) k e = Unseen k e
  Knows (Born_due b) k e = Unseen k e
  Knows (Born_resuming b) k e = Outside k e
  Knows (Born_free b) k e = Outside k e
  Knows (Event_due n b c) k e = Calling true None c k e × (k.standing ≡ Read) × (event_fits o.follow c.number n ≡ true)
  Knows (Event_resuming b c) k e = Calling true None c k e
  Knows (Loose h) k e = Unit {0}

abbrev pub noted_of : ℕ → List Noted → List Noted
noted_of p items = filter (λ i. p == pid_of i.item) items

abbrev pub dues_of : ℕ → List Due → List Due
dues_of p dues = filter (λ i. p == due_pid i) dues

-- how often p entered each call, with these items more
abbrev pub more : ℕ → List Noted → (ℕ → ℕ) → ℕ → ℕ
more p items e n = e n + entries p n (items_of items)

-- these are all p's
abbrev pub DuesOf : ℕ → List Due → Type 0
DuesOf p [] = Unit {0}
DuesOf p (i ∷ dues) = (due_pid i ≡ p) × DuesOf p dues

abbrev pub AllOf : ℕ → List Noted → Type 0
AllOf p [] = Unit {0}
AllOf p (i ∷ items) = (pid_of i.item ≡ p) × AllOf p items

-- does it add nothing more to the trace
abbrev pub dead : {B : Type 0} → Phase B → Bool
dead (Dead_due w mode s) = true
dead (Dead w) = true
dead Nobody = true
dead (Loose h) = true
dead _ = false

-- does Wait owe nothing of it
abbrev pub reaped : {B : Type 0} → Phase B → Bool
reaped (Dead w) = true
reaped Nobody = true
reaped (Unborn t) = true
reaped (Boot_held b) = true
reaped (Loose h) = true
reaped _ = false

abbrev pub is_unborn : {B : Type 0} → Phase B → Bool
is_unborn (Unborn t) = true
is_unborn _ = false

abbrev pub is_traced : {B : Type 0} → Phase B → Bool
is_traced (Unborn t) = t
is_traced (Loose h) = false
is_traced _ = true

-- what a turn does to the view
pub data Fate {S B : Type 0} (m : Machine S B) (p : ℕ) (ph next : Phase B) (dying : Bool) (items : List Noted) : Type 0 where
  Goes_on : dying ≡ false → dead ph ≡ false → has_exit p items ≡ false → Fate m p ph next dying items
  Says_nothing : dead next ≡ true → hand_in m p ph ++ items_in (due_in m p ph) ≡ [] → items ≡ [] → Fate m p ph next dying items
  Owes_nothing : dying ≡ true → dead next ≡ true → dead ph ≡ false → hand_in m p ph ++ items_in (due_in m p ph) ≡ [] → Fate m p ph next dying items
  Loses : dying ≡ true → dead next ≡ true → dead ph ≡ false → (x : Noted) → hand_in m p ph ++ items_in (due_in m p ph) ≡ x ∷ [] → (mode : Mode) → may_lose mode ≡ true → items ≡ exit_of p 9 mode ∷ [] → Fate m p ph next dying items
