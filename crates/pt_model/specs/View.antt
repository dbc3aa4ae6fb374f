-- A view of a log: what of it may be shown, and as which parts. At an end by SIGKILL the last item of its
-- process before it may be left out, where its report was not yet told; that is the one freedom of a trace.
use Rattle.std.specs.Prelude.{ℕ, zero, suc, ◌==◌, Bool, true, false, cond, ◌&&◌, ◌||◌, List, [], ◌∷◌, ◌++◌, Option, Some, None, filter}
use Rattle.lx_abi.specs.declared.log.Item.{Item}
use Rattle.lx_abi.specs.declared.log.Item.TheVariants.{Enter, Done, Taken as Signalled, Stopped as Halts, Exit}
use Rattle.lx_abi.specs.declared.status.EventStop.{EventStop}
use Rattle.lx_abi.specs.declared.status.Stop.TheVariants.{Syscall as Syscall_stop, Signal as Signal_stop, Group as Group_stop, Event as Event_stop, Ended}
use Rattle.lx_abi.specs.Log.{Note, Noted, pid_of}
pub use Rattle.lx_abi.specs.Modes.{may_lose}
use Rattle.lx_model.specs.Turn.{kill_word}
use Rattle.lx_model.specs.Kernel.{traces}
use Rattle.pt_model.specs.Ptrace.{Report}
use Rattle.pt_model.specs.Requests.{info_of}
use Rattle.pt_model.specs.Parts.{Half, At_entry, At_exit, Texts, Options, Part, Part_signal, Part_stopped, Part_exit, enter_part, done_part}

-- the first item of a process
abbrev pub first_of : ℕ → List Noted → Option Noted
first_of p [] = None
first_of p (n ∷ log) = cond (p == pid_of n.item) (Some n) (first_of p log)

-- an end by SIGKILL from a mode in which a tracee is held
abbrev pub is_kill : Item → Bool
is_kill (Exit p word left) = (word == kill_word) && may_lose left
is_kill _ = false

abbrev pub kills : Option Noted → Bool
kills None = false
kills (Some n) = is_kill n.item

-- the log, where the processes in lost lose their last item before such an end
abbrev pub view : (ℕ → Bool) → List Noted → List Noted
view lost [] = []
view lost (n ∷ log) =
    cond (lost (pid_of n.item) && kills (first_of (pid_of n.item) log)) (view lost log) (n ∷ view lost log)

-- an end by SIGKILL stands in the log
abbrev pub is_killed : Item → Bool
is_killed (Exit p word left) = word == kill_word
is_killed _ = false

abbrev pub has_kill : List Noted → Bool
has_kill [] = false
has_kill (n ∷ log) = is_killed n.item || has_kill log

-- the items of tracees
abbrev pub traced : Bool → List Noted → List Noted
traced follow log = filter (λ n. traces follow (pid_of n.item)) log

-- the process's end stands in the log
abbrev pub is_exit : ℕ → Item → Bool
is_exit p (Exit q word left) = p == q
is_exit _ _ = false

abbrev pub has_exit : ℕ → List Noted → Bool
has_exit p [] = false
has_exit p (n ∷ log) = is_exit p n.item || has_exit p log

-- Parts

abbrev pub read_on : (ℕ → ℕ → List ℕ) → (List (List ℕ) → List (List ℕ)) → List (List ℕ) → Option (ℕ × ℕ) → List (List ℕ)
read_on peek again got None = got
read_on peek again got (Some w) = again (got ++ peek w.0 w.1 ∷ [])

-- what is read of a memory for a half's text, after at most so many further reads
abbrev pub reads : Texts → (ℕ → ℕ → List ℕ) → Half → ℕ → List (List ℕ) → List (List ℕ)
reads t peek half zero got = got
reads t peek half (suc n) got = read_on peek (reads t peek half n) got (t.wants half got)

-- no text of a call needs more
abbrev pub most_reads : ℕ
most_reads = 96

-- what an item shows, from what its process could read when it was logged
abbrev pub item_parts : Options → Note → Item → List Part
item_parts o note (Enter p c) = enter_part o p c note.sp (reads o.texts note.peek (At_entry c note.sp) most_reads [])
item_parts o note (Done p c x replaced) =
    done_part o p c x replaced (reads o.texts note.peek (At_exit c x) most_reads [])
item_parts o note (Signalled p signal cause) = Part_signal p (info_of signal cause) ∷ []
item_parts o note (Halts p signal) = Part_stopped p signal ∷ []
item_parts o note (Exit p word left) = Part_exit p word ∷ []

abbrev pub part : Options → Noted → List Part
part o n = item_parts o n.note n.item

abbrev pub parts : Options → List Noted → List Part
parts o [] = []
parts o (n ∷ log) = part o n ++ parts o log

-- Reports

-- what a report stands for: an item of the log, or a stop that logs nothing
pub data Due : Type 0 where
  Logged : Noted → Due
  Unlogged : ℕ → EventStop → Due

abbrev pub due_pid : Due → ℕ
due_pid (Logged i) = pid_of i.item
due_pid (Unlogged p n) = p

abbrev pub item_report : Item → Report
item_report (Enter p c) = record { pid = p; stop = Syscall_stop true }
item_report (Done p c x b) = record { pid = p; stop = Syscall_stop true }
item_report (Signalled p signal cause) = record { pid = p; stop = Signal_stop signal }
item_report (Halts p signal) = record { pid = p; stop = Group_stop signal }
item_report (Exit p w m) = record { pid = p; stop = Ended w }

abbrev pub report_of : Due → Report
report_of (Logged i) = item_report i.item
report_of (Unlogged p n) = record { pid = p; stop = Event_stop n }

-- the items of the log among these
abbrev pub items_in : List Due → List Noted
items_in [] = []
items_in (Logged i ∷ dues) = i ∷ items_in dues
items_in (Unlogged p n ∷ dues) = items_in dues
