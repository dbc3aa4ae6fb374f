-- What is asked of the tracee in hand, and what its reply makes of what is known, asked next and shown: of its call's
-- entry and exit, and of a signal (ptrace(2), strace(1)).
use Rattle.std.specs.Prelude.{ℕ, ◌+◌, ◌==◌, Bool, true, false, cond, List, [], ◌∷◌, ◌++◌, Option, Some, None}
use Rattle.lx_abi.specs.declared.ptrace.Ask.{Ask}
use Rattle.lx_abi.specs.declared.ptrace.Ask.TheVariants.{Seize, GetRegs, SetRegs, Peek, Syscall, SigInfo, Listen}
use Rattle.lx_abi.specs.declared.ptrace.Info.{Info}
use Rattle.lx_abi.specs.declared.ptrace.Reply.{Reply}
use Rattle.lx_abi.specs.declared.ptrace.Reply.TheVariants.{Done as Agreed, Registers as Registers_are}
use Rattle.lx_abi.specs.declared.ptrace.Reply.TheVariants.{Bytes as Bytes_are, Info as Info_is, Errno as Errno_is}
use Rattle.lx_abi.specs.declared.ptrace.TraceOptions.{TraceOptions}
use Rattle.lx_abi.specs.declared.script.Choice.{Choice}
use Rattle.lx_abi.specs.declared.signal.Signal.{Signal}
use Rattle.lx_abi.specs.Errnos.{eio}
use Rattle.lx_abi.specs.Options.{option_bits}
use Rattle.lx_model.specs.Machine.{Regs, call_of, a0_of, a7_of, sp_of, with_a0, with_a7, no_call}
use Rattle.lx_model.specs.Turn.{result_word}
use Rattle.lx_model.specs.Kernel.{Script}
use Rattle.pt_model.specs.Known.{Known, opened, closed}
use Rattle.pt_model.specs.Parts.{At_entry, At_exit, Options, Part, Part_signal, enter_part, done_part}

-- what is being asked of the tracee in hand
pub data Awaiting : Type 0 where
  Seizing : Awaiting
  Entry_regs : Awaiting
  -- the registers, what was read, and the address and length that are read now
  Entry_peek : Regs → List (List ℕ) → ℕ × ℕ → Awaiting
  -- the registers with the number -1, and the signal to resume with
  Entry_set : Regs → ℕ → Awaiting
  Exit_regs : Awaiting
  -- the registers with the call's number and the result in its place
  Exit_set : Regs → ℕ → Awaiting
  -- the result, whether it was replaced, what was read, and what is read now
  Exit_peek : ℕ → Bool → List (List ℕ) → ℕ × ℕ → Awaiting
  -- the signal of the stop
  Signal_info : ℕ → Awaiting
  -- with a signal, 0 for none
  Resuming : ℕ → Awaiting
  -- letting go at a group stop
  Listening : Awaiting

-- the options of each tracee
abbrev pub asked_options : Bool → TraceOptions
asked_options follow = record { good = true; forks = follow; execs = true }

abbrev pub options_word : Bool → ℕ
options_word follow = option_bits (asked_options follow)

abbrev pub asks : Options → Awaiting → Ask
asks o Seizing = Seize (options_word o.follow)
asks o Entry_regs = GetRegs
asks o (Entry_peek r got w) = Peek w.0 w.1
asks o (Entry_set r n) = SetRegs r
asks o Exit_regs = GetRegs
asks o (Exit_set r x) = SetRegs r
asks o (Exit_peek x replaced got w) = Peek w.0 w.1
asks o (Signal_info n) = SigInfo
asks o (Resuming n) = Syscall n
asks o Listening = Listen

-- what a reply makes of what is known, what is asked next, and what is printed
pub record Heard : Type 0 where
  pub known : Known
  pub next : Option Awaiting
  pub printed : List Part

abbrev pub nothing : Known → Heard
nothing k = record { known = k; next = None; printed = [] }

abbrev pub moves : Known → Awaiting → Heard
moves k place = record { known = k; next = Some place; printed = [] }

abbrev pub signal_word : Option Signal → ℕ
signal_word None = 0
signal_word (Some signal) = signal.number

-- A call's entry

abbrev pub entry_with : Options → ℕ → Regs → List (List ℕ) → Known → ℕ → Option ℕ → Heard
entry_with o p r got k signal None = record {
  known = opened k r None;
  next = Some (Resuming signal);
  printed = enter_part o p (call_of r) (sp_of r) got;
}
entry_with o p r got k signal (Some x) = record {
  known = opened k r (Some x);
  next = Some (Entry_set (with_a7 r no_call) signal);
  printed = enter_part o p (call_of r) (sp_of r) got;
}

abbrev pub entry_by : Options → ℕ → Regs → List (List ℕ) → Known → Choice → Heard
entry_by o p r got k c = entry_with o p r got k (signal_word c.signal) (result_word c)

-- the entry is shown, and the script's choice for its occurrence made: for a result of its own the call
-- is changed to the number -1, which no call has
abbrev pub entry : Options → Script → ℕ → Regs → List (List ℕ) → Known → Heard
entry o script p r got k = entry_by o p r got k (script (a7_of r) (k.counts (a7_of r) + 1))

abbrev pub look_entry : Options → Script → ℕ → Regs → List (List ℕ) → Known → Option (ℕ × ℕ) → Heard
look_entry o script p r got k None = entry o script p r got k
look_entry o script p r got k (Some w) = moves k (Entry_peek r got w)

-- more is read where the call is shown
abbrev pub read_entry : Options → Script → ℕ → Regs → List (List ℕ) → Known → Bool → Heard
read_entry o script p r got k true = look_entry o script p r got k (o.texts.wants (At_entry (call_of r) (sp_of r)) got)
read_entry o script p r got k false = entry o script p r [] k

-- A call's exit

abbrev pub exit : Options → ℕ → ℕ → Bool → List (List ℕ) → Known → Heard
exit o p x replaced got k = record {
  known = closed k;
  next = Some (Resuming 0);
  printed = done_part o p k.called x replaced got;
}

abbrev pub look_exit : Options → ℕ → ℕ → Bool → List (List ℕ) → Known → Option (ℕ × ℕ) → Heard
look_exit o p x replaced got k None = exit o p x replaced got k
look_exit o p x replaced got k (Some w) = moves k (Exit_peek x replaced got w)

abbrev pub read_exit : Options → ℕ → ℕ → Bool → List (List ℕ) → Known → Bool → Heard
read_exit o p x replaced got k true = look_exit o p x replaced got k (o.texts.wants (At_exit k.called x) got)
read_exit o p x replaced got k false = exit o p x replaced [] k

-- at an exit stop a replaced call gets its number back, and the scripted result
abbrev pub exit_with : Options → ℕ → Regs → Known → Option ℕ → Heard
exit_with o p r k None = read_exit o p (a0_of r) false [] k (o.shows k.called.number)
exit_with o p r k (Some x) = moves k (Exit_set (with_a7 (with_a0 r x) k.called.number) x)

-- What a reply says

abbrev pub regs_in : Reply → Option Regs
regs_in (Registers_are r) = Some r
regs_in _ = None

-- what Peek read: EIO says that nothing is mapped there
abbrev pub bytes_of : Reply → Option (List ℕ)
bytes_of (Bytes_are bytes) = Some bytes
bytes_of (Errno_is n) = cond (n == eio) (Some []) None
bytes_of _ = None

abbrev pub told_info : Reply → Option Info
told_info (Info_is i) = Some i
told_info _ = None

abbrev pub says_done : Reply → Bool
says_done Agreed = true
says_done _ = false

-- A reply that concerns the tracee in hand, by what was asked. After ESRCH, which SIGKILL alone brings, nothing more is
-- asked of it.

abbrev pub at_entry_regs : Options → Script → ℕ → Known → Option Regs → Heard
at_entry_regs o script p k (Some r) = read_entry o script p r [] k (o.shows (a7_of r))
at_entry_regs o script p k None = nothing k

abbrev pub peeked_entry : Options → Script → ℕ → Regs → List (List ℕ) → Known → Option (List ℕ) → Heard
peeked_entry o script p r got k (Some bytes) = read_entry o script p r (got ++ bytes ∷ []) k true
peeked_entry o script p r got k None = nothing k

abbrev pub at_entry_set : Known → ℕ → Bool → Heard
at_entry_set k n true = moves k (Resuming n)
at_entry_set k n false = nothing k

abbrev pub at_exit_regs : Options → ℕ → Known → Option Regs → Heard
at_exit_regs o p k (Some r) = exit_with o p r k k.saved
at_exit_regs o p k None = nothing k

abbrev pub at_exit_set : Options → ℕ → Known → ℕ → Bool → Heard
at_exit_set o p k x true = read_exit o p x true [] k (o.shows k.called.number)
at_exit_set o p k x false = nothing k

abbrev pub peeked_exit : Options → ℕ → ℕ → Bool → List (List ℕ) → Known → Option (List ℕ) → Heard
peeked_exit o p x replaced got k (Some bytes) = read_exit o p x replaced (got ++ bytes ∷ []) k true
peeked_exit o p x replaced got k None = nothing k

abbrev pub at_info : ℕ → Known → ℕ → Option Info → Heard
at_info p k n (Some i) = record { known = k; next = Some (Resuming n); printed = Part_signal p i ∷ [] }
at_info p k n None = nothing k

-- after Seize, a resumption and Listen nothing more is asked of it
abbrev pub hears : Options → Script → ℕ → Known → Awaiting → Reply → Heard
hears o script p k Seizing reply = nothing k
hears o script p k Entry_regs reply = at_entry_regs o script p k (regs_in reply)
hears o script p k (Entry_peek r got w) reply = peeked_entry o script p r got k (bytes_of reply)
hears o script p k (Entry_set r n) reply = at_entry_set k n (says_done reply)
hears o script p k Exit_regs reply = at_exit_regs o p k (regs_in reply)
hears o script p k (Exit_set r x) reply = at_exit_set o p k x (says_done reply)
hears o script p k (Exit_peek x replaced got w) reply = peeked_exit o p x replaced got k (bytes_of reply)
hears o script p k (Signal_info n) reply = at_info p k n (told_info reply)
hears o script p k (Resuming n) reply = nothing k
hears o script p k Listening reply = nothing k
