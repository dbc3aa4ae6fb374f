-- Each request with its refusals, on the small machine.
use Rattle.std.specs.Prelude.{◌≡◌, ℕ, zero, suc, List, [], ◌∷◌, Option, Some, None}
use Rattle.lx_abi.specs.declared.ptrace.Ask.TheVariants.{Seize, SetOptions, GetRegs, SetRegs, Peek, Syscall, EventMsg, SigInfo}
use Rattle.lx_abi.specs.declared.ptrace.Reply.{Reply}
use Rattle.lx_abi.specs.declared.ptrace.Reply.TheVariants.{Done as Agreed, Status as Status_is, Bytes as Bytes_are, Message as Message_is, Info as Info_is}
use Rattle.lx_abi.specs.declared.ptrace.Request.{Request}
use Rattle.lx_abi.specs.declared.ptrace.Request.TheVariants.{Wait, To}
use Rattle.pt_model.specs.Ptrace.{Host, host_turn}
use Rattle.pt_model.specs.Requests.{esrch, eio, echild, einval, serve}
use Rattle.pt_model.specs.World.{first_world}
use Rattle.pt_model.specs.Tiny.{Shares, UserState, tiny, tiny_outcome, user, nothing_yet}

abbrev pub Tiny_host : Type 0
Tiny_host = Host Shares UserState

abbrev pub says : Tiny_host → Request → Option Reply
says h q = (serve tiny tiny_outcome h q).reply

abbrev pub after : Tiny_host → Request → Tiny_host
after h q = (serve tiny tiny_outcome h q).host

abbrev pub turns : ℕ → ℕ → Tiny_host → Tiny_host
turns p zero h = h
turns p (suc n) h = turns p n (host_turn tiny h p)

-- resumed with no signal
abbrev pub resumed : ℕ → Tiny_host → Tiny_host
resumed p h = after h (To p (Syscall 0))

abbrev pub waited : Tiny_host → Tiny_host
waited h = after h Wait

-- process 1 before Seize, seized, at its first entry stop, and at that call's exit stop
abbrev pub booted : List ℕ → Tiny_host
booted program = (first_world nothing_yet (user program)).host

abbrev pub seized : ℕ → List ℕ → Tiny_host
seized options program = after (booted program) (To 1 (Seize options))

abbrev pub at_entry : ℕ → List ℕ → Tiny_host
at_entry options program = turns 1 3 (resumed 1 (waited (seized options program)))

abbrev pub at_exit : ℕ → List ℕ → Tiny_host
at_exit options program = turns 1 3 (resumed 1 (waited (at_entry options program)))

abbrev pub writing : List ℕ
writing = 64 ∷ 7 ∷ 94 ∷ 3 ∷ []

-- a fault at once: its signal stop
abbrev pub at_signal : Tiny_host
at_signal = turns 1 3 (resumed 1 (waited (seized 0x13 (999 ∷ 16 ∷ []))))

-- a clone, and an execve, at their event stops
abbrev pub at_fork_of : ℕ → List ℕ → Tiny_host
at_fork_of options program = turns 1 2 (resumed 1 (waited (at_entry options program)))

abbrev pub at_fork : ℕ → Tiny_host
at_fork options = at_fork_of options (220 ∷ 17 ∷ [])

abbrev pub at_exec : ℕ → Tiny_host
at_exec options = turns 1 2 (resumed 1 (waited (at_entry options (221 ∷ 0 ∷ []))))

-- ended, and not waited for
abbrev pub at_end : Tiny_host
at_end = turns 1 2 (resumed 1 (waited (at_entry 0x13 (94 ∷ 3 ∷ []))))

-- a child at its entry stop, which was not waited for, while its parent enters and makes a call that kills it
abbrev pub child_at_entry : Tiny_host
child_at_entry = turns 2 3 (resumed 2 (waited (waited (at_fork_of 0x13 (220 ∷ 17 ∷ 129 ∷ 209 ∷ [])))))

abbrev pub killing : Tiny_host
killing = turns 1 2 (resumed 1 (turns 1 3 (resumed 1 (turns 1 2 (resumed 1 child_at_entry)))))

-- resumed before Wait took its entry stop, and at its next stop
abbrev pub resumed_early : List ℕ → ℕ → Tiny_host
resumed_early program n = turns 1 n (resumed 1 (turns 1 3 (resumed 1 (waited (seized 0x13 program)))))

abbrev pub status : ℕ → ℕ → Option Reply
status p word = Some (Status_is p (record { word = word }))

-- ESRCH comes before any other refusal
pub record EsrchRows : Type 0 where
  pub before_seize : says (booted writing) (To 1 GetRegs) ≡ Some esrch
  pub set_options_before_seize : says (booted writing) (To 1 (SetOptions 4)) ≡ Some esrch
  pub peek_before_seize : says (booted writing) (To 1 (Peek 0 0)) ≡ Some esrch
  pub resume_before_seize : says (booted writing) (To 1 (Syscall 5)) ≡ Some esrch
  pub no_such_process : says (seized 0x13 writing) (To 2 (SetOptions 4)) ≡ Some esrch
  pub peek_of_none : says (seized 0x13 writing) (To 2 (Peek 0 0)) ≡ Some esrch
  pub resume_of_none : says (seized 0x13 writing) (To 2 (Syscall 5)) ≡ Some esrch
  -- not in a stop
  pub registers_of_running : says (resumed 1 (seized 0x13 writing)) (To 1 GetRegs) ≡ Some esrch
  pub set_registers_of_running : says (resumed 1 (seized 0x13 writing)) (To 1 (SetRegs [])) ≡ Some esrch
  pub message_of_running : says (resumed 1 (seized 0x13 writing)) (To 1 EventMsg) ≡ Some esrch
  pub info_of_running : says (resumed 1 (seized 0x13 writing)) (To 1 SigInfo) ≡ Some esrch
  -- a dying tracee is in no stop
  pub registers_of_dying : says at_end (To 1 GetRegs) ≡ Some esrch
  pub resume_of_dying : says at_end (To 1 (Syscall 5)) ≡ Some esrch

-- every Seize but that of process 1 before it was seized is ESRCH, and only then are the options looked at
pub record SeizeRows : Type 0 where
  pub good : says (booted writing) (To 1 (Seize 0x13)) ≡ Some Agreed
  pub no_options : says (booted writing) (To 1 (Seize 0)) ≡ Some Agreed
  pub bad_options : says (booted writing) (To 1 (Seize 4)) ≡ Some einval
  pub high_options : says (booted writing) (To 1 (Seize 0x33)) ≡ Some einval
  pub other : says (booted writing) (To 2 (Seize 4)) ≡ Some esrch
  pub twice : says (seized 0x13 writing) (To 1 (Seize 0x13)) ≡ Some esrch
  pub twice_badly : says (seized 0x13 writing) (To 1 (Seize 4)) ≡ Some esrch
  pub after_bad_options : says (after (booted writing) (To 1 (Seize 4))) (To 1 (Seize 0x13)) ≡ Some Agreed

pub record OptionRows : Type 0 where
  pub set : says (seized 0x13 writing) (To 1 (SetOptions 0)) ≡ Some Agreed
  pub bad : says (seized 0x13 writing) (To 1 (SetOptions 4)) ≡ Some einval
  pub high : says (seized 0x13 writing) (To 1 (SetOptions 0x20)) ≡ Some einval
  pub with_sysgood : says (at_entry 1 writing) Wait ≡ status 1 0x857f
  pub without_sysgood : says (at_entry 0 writing) Wait ≡ status 1 0x57f
  pub set_before_the_stop : says (turns 1 3 (resumed 1 (after (waited (seized 1 writing)) (To 1 (SetOptions 0))))) Wait
      ≡ status 1 0x57f

-- the length is looked at first
pub record PeekRows : Type 0 where
  pub read : says (at_entry 0x13 writing) (To 1 (Peek 3 1)) ≡ Some (Bytes_are (3 ∷ []))
  pub longest : says (at_entry 0x13 writing) (To 1 (Peek 3 4096)) ≡ Some (Bytes_are (3 ∷ []))
  pub none : says (at_entry 0x13 writing) (To 1 (Peek 3 0)) ≡ Some einval
  pub too_long : says (at_entry 0x13 writing) (To 1 (Peek 3 4097)) ≡ Some einval
  pub nothing_there : says (at_entry 0x13 writing) (To 1 (Peek 0 1)) ≡ Some eio
  pub none_of_nothing : says (at_entry 0x13 writing) (To 1 (Peek 0 0)) ≡ Some einval

-- which signals a resumption takes
pub record ResumeRows : Type 0 where
  pub start_stop : says (seized 0x13 writing) (To 1 (Syscall 0)) ≡ Some Agreed
  pub start_stop_signal : says (seized 0x13 writing) (To 1 (Syscall 10)) ≡ Some eio
  pub entry_stop : says (at_entry 0x13 writing) (To 1 (Syscall 0)) ≡ Some Agreed
  pub entry_stop_joined : says (at_entry 0x13 writing) (To 1 (Syscall 10)) ≡ Some Agreed
  pub entry_stop_kill : says (at_entry 0x13 writing) (To 1 (Syscall 9)) ≡ Some Agreed
  pub entry_stop_job_control : says (at_entry 0x13 writing) (To 1 (Syscall 19)) ≡ Some Agreed
  pub entry_stop_no_signal : says (at_entry 0x13 writing) (To 1 (Syscall 32)) ≡ Some eio
  pub exit_stop_signal : says (at_exit 0x13 writing) (To 1 (Syscall 10)) ≡ Some eio
  pub signal_stop_passed : says at_signal (To 1 (Syscall 11)) ≡ Some Agreed
  pub signal_stop_dropped : says at_signal (To 1 (Syscall 0)) ≡ Some Agreed
  pub signal_stop_other : says at_signal (To 1 (Syscall 10)) ≡ Some eio
  pub fork_stop_signal : says (at_fork 0x13) (To 1 (Syscall 10)) ≡ Some eio

pub record SigInfoRows : Type 0 where
  pub of_fault : says at_signal (To 1 SigInfo)
      ≡ Some (Info_is (record { signal = 11; code = 1; pid = 0; status = 0; address = 16 }))
  pub at_start : says (seized 0x13 writing) (To 1 SigInfo) ≡ Some einval
  pub at_entry_stop : says (at_entry 0x13 writing) (To 1 SigInfo) ≡ Some einval
  pub at_exit_stop : says (at_exit 0x13 writing) (To 1 SigInfo) ≡ Some einval
  pub at_event_stop : says (at_fork 0x13) (To 1 SigInfo) ≡ Some einval

-- a child's message begins at 0
pub record MessageRows : Type 0 where
  pub at_first : says (seized 0x13 writing) (To 1 EventMsg) ≡ Some (Message_is 0)
  pub of_fork : says (at_fork 0x13) (To 1 EventMsg) ≡ Some (Message_is 2)
  pub of_child : says (at_fork 0x13) (To 2 EventMsg) ≡ Some (Message_is 0)
  pub of_exec : says (at_exec 0x11) (To 1 EventMsg) ≡ Some (Message_is 1)
  -- without TRACEEXEC an execve has no message, nor a clone without TRACEFORK
  pub of_exec_unasked : says (turns 1 1 (at_exec 1)) (To 1 EventMsg) ≡ Some (Message_is 0)
  pub of_fork_unasked : says (turns 1 1 (at_fork 0x11)) (To 1 EventMsg) ≡ Some (Message_is 0)

-- statuses, in the order in which they arose
pub record WaitRows : Type 0 where
  pub no_tracee : says (booted writing) Wait ≡ Some echild
  pub start : says (seized 0x13 writing) Wait ≡ status 1 0x80057f
  -- it stays pending
  pub nothing_yet_told : says (waited (seized 0x13 writing)) Wait ≡ None
  pub exit_stop : says (at_exit 0x13 writing) Wait ≡ status 1 0x857f
  pub signal_stop : says at_signal Wait ≡ status 1 0xb7f
  pub fork : says (at_fork 0x13) Wait ≡ status 1 0x1057f
  pub then_the_child : says (waited (at_fork 0x13)) Wait ≡ status 2 0x80057f
  -- without TRACEFORK a clone is no stop
  pub fork_unasked : says (at_fork 0x11) Wait ≡ None
  pub fork_unasked_exit : says (turns 1 1 (at_fork 0x11)) Wait ≡ status 1 0x857f
  -- the child's entry stop is the first report, until the kill withdraws it
  pub child_entry : says killing Wait ≡ status 2 0x857f
  pub child_withdrawn : says (turns 2 1 killing) Wait ≡ status 1 0x857f
  pub child_killed : says (waited (waited (turns 2 1 killing))) Wait ≡ status 2 9
  pub exec : says (at_exec 0x13) Wait ≡ status 1 0x4057f
  pub exec_unasked : says (at_exec 1) Wait ≡ None
  -- two stops of one tracee, each told once
  pub early_first : says (resumed_early writing 3) Wait ≡ status 1 0x857f
  pub early_second : says (waited (resumed_early writing 3)) Wait ≡ status 1 0x857f
  pub early_no_more : says (waited (waited (resumed_early writing 3))) Wait ≡ None
  -- its end withdraws the stop before it
  pub early_end : says (resumed_early (94 ∷ 3 ∷ []) 2) Wait ≡ status 1 768
  pub end : says at_end Wait ≡ status 1 768
  pub after_the_end : says (waited at_end) Wait ≡ Some echild

pub record RequestRows : Type 0 where
  pub esrch_first : EsrchRows
  pub seizing : SeizeRows
  pub options : OptionRows
  pub peeking : PeekRows
  pub resuming : ResumeRows
  pub information : SigInfoRows
  pub messages : MessageRows
  pub waiting : WaitRows
