-- Job control on the small machine: its modes, its requests, and whole runs.
use Rattle.std.specs.Prelude.{◌≡◌, ℕ, zero, suc, ◌==◌, ◌||◌, Bool, true, false, List, [], ◌∷◌, ◌++◌, Option, Some, None, map, filter}
use Rattle.lx_abi.specs.declared.log.Cause.TheVariants.{Sent, Kernel as By_kernel}
use Rattle.lx_abi.specs.declared.log.Item.{Item}
use Rattle.lx_abi.specs.declared.log.Item.TheVariants.{Enter, Done, Taken as Signalled, Stopped as Halts, Exit}
use Rattle.lx_abi.specs.declared.log.Mode.{Mode}
use Rattle.lx_abi.specs.declared.log.Mode.TheVariants as mode
use Rattle.lx_abi.specs.declared.ptrace.Ask.TheVariants.{GetRegs, Syscall, SigInfo, Listen}
use Rattle.lx_abi.specs.declared.ptrace.Reply.TheVariants.{Done as Agreed}
use Rattle.lx_abi.specs.declared.ptrace.Request.TheVariants.{Wait, To}
use Rattle.lx_abi.specs.declared.schedule.Event.{Event}
use Rattle.lx_abi.specs.declared.schedule.Event.TheVariants.{Turn, Serve}
use Rattle.lx_abi.specs.declared.signal.Signal.{Signal}
use Rattle.lx_abi.specs.Log.{Noted, items_of}
use Rattle.lx_abi.specs.Scripts.{no_choice}
use Rattle.lx_model.specs.Turn.{Out, turn}
use Rattle.lx_model.specs.declared.stage.Stage.{Stage}
use Rattle.lx_model.specs.declared.stage.Stage.TheVariants.{Run, Taken, Dropped, Stopped, Released, Woken}
use Rattle.lx_model.specs.declared.stage.Task.TheVariants.{Alive}
use Rattle.lx_model.specs.Kernel.{Script, kernel_run, first_kernel}
use Rattle.lx_model.specs.Finite.{task_mode, item_of}
use Rattle.pt_model.specs.Requests.{esrch, eio, einval}
use Rattle.pt_model.specs.Parts.{Options, Part, Part_enter, Part_done, Part_signal, Part_stopped, Part_exit}
use Rattle.pt_model.specs.Headline.{traced_run, plain_run}
use Rattle.pt_model.specs.Tiny.{Pending, Job, Change, Shares, UserState, cont, sigstop, sigkill, tstp, with_pending, with_jobs, send, tiny, tiny_outcome, user, nothing_yet}
use Rattle.pt_model.specs.RequestRows.{Tiny_host, says, after, turns, resumed, waited, booted, seized, at_entry, at_exit, writing, at_fork, at_end, status}
use Rattle.pt_model.specs.TinyRuns.{reads_once, first_read, times, ends}
use Rattle.pt_model.specs.World.{Whole}

-- Modes

-- the mode and what was logged; who has which signal pending, who is at a stop signal and whether SIGCONT came, and
-- what wait4 has not told of
abbrev pub Left : Type 0
Left = (Option Mode × Option Item) × List (ℕ × ℕ) × List (ℕ × Bool) × List (ℕ × ℕ)

abbrev pub shared_left : Shares → List (ℕ × ℕ) × List (ℕ × Bool) × List (ℕ × ℕ)
shared_left s = (
  map (λ (x : Pending). (x.pid, x.signal.number)) s.pending,
  map (λ (j : Job). (j.pid, j.continued)) s.jobs,
  map (λ (c : Change). (c.pid, c.word)) s.changes,
)

abbrev pub left : Out Shares UserState → Left
left o =
    ((task_mode o.task, item_of o), (shared_left o.shared).0, (shared_left o.shared).1, (shared_left o.shared).2)

abbrev pub pending : Signal → List Pending
pending signal = record { pid = 2; signal = signal; cause = Sent 1 } ∷ []

-- process 2 is at a stop signal, and SIGCONT came since or not
abbrev pub at_stop_signal : Bool → List Job
at_stop_signal continued = record { pid = 2; continued = continued } ∷ []

abbrev pub shares : List Job → List Pending → Shares
shares jobs pending = with_jobs (with_pending nothing_yet pending) jobs

-- what a turn of process 2, a child, gives from this stage
abbrev pub row : List Job → List Pending → Stage → Left
row jobs pending stage = left (turn tiny no_choice (shares jobs pending) 3 2 (Alive (user []) stage))

pub record StopRows : Type 0 where
  pub takes_stop : row [] (pending sigstop) Run
      ≡ ((Some mode.Taken, Some (Signalled 2 sigstop (Sent 1))), [], (2, false) ∷ [], [])
  pub stops : row (at_stop_signal false) [] (Taken sigstop By_kernel)
      ≡ ((Some mode.Stopped, Some (Halts 2 sigstop)), (1, 17) ∷ [], (2, false) ∷ [], (2, 0x137f) ∷ [])
  -- SIGCONT came at Taken, and isn't lost
  pub stops_no_more : row (at_stop_signal true) [] (Taken sigstop By_kernel) ≡ ((Some mode.Run, None), [], [], [])
  pub stays : row (at_stop_signal false) [] (Stopped sigstop)
      ≡ ((Some mode.Stopped, None), [], (2, false) ∷ [], [])
  -- no other signal wakes it
  pub stays_at_signal : row (at_stop_signal false) (pending tstp) (Stopped sigstop)
      ≡ ((Some mode.Stopped, None), (2, 20) ∷ [], (2, false) ∷ [], [])
  pub wakes : row (at_stop_signal true) (pending cont) (Stopped sigstop)
      ≡ ((Some mode.Woken, None), (1, 17) ∷ (2, 18) ∷ [], [], (2, 0xffff) ∷ [])
  pub woken : row [] (pending cont) Woken ≡ ((Some mode.Run, None), (2, 18) ∷ [], [], [])
  pub takes_cont : row [] [] (Taken cont By_kernel) ≡ ((Some mode.Run, None), [], [], [])
  -- a tracer that drops a stop signal, or ends a group stop, leaves no SIGCONT for a later stop
  pub dropped : row (at_stop_signal true) [] Dropped ≡ ((Some mode.Run, None), [], [], [])
  pub released : row (at_stop_signal true) [] Released ≡ ((Some mode.Run, None), [], [], [])
  -- SIGKILL before all
  pub killed_taken : row (at_stop_signal true) (pending sigkill) (Taken sigstop By_kernel)
      ≡ ((Some mode.Dying, Some (Exit 2 9 mode.Taken)), (2, 9) ∷ [], (2, true) ∷ [], [])
  pub killed_stopped : row (at_stop_signal true) (pending sigkill) (Stopped sigstop)
      ≡ ((Some mode.Dying, Some (Exit 2 9 mode.Stopped)), (2, 9) ∷ [], (2, true) ∷ [], [])
  pub killed_released : row (at_stop_signal false) (pending sigkill) Released
      ≡ ((Some mode.Dying, Some (Exit 2 9 mode.Stopped)), (2, 9) ∷ [], (2, false) ∷ [], [])
  pub killed_woken : row [] (pending sigkill) Woken
      ≡ ((Some mode.Dying, Some (Exit 2 9 mode.Woken)), (2, 9) ∷ [], [], [])

-- what process 2 is sent
abbrev pub sent : List Job → List Pending → Signal → List (ℕ × ℕ) × List (ℕ × Bool) × List (ℕ × ℕ)
sent jobs pending signal = shared_left (send (shares jobs pending) 2 signal By_kernel)

pub record SendRows : Type 0 where
  pub stop_takes_cont : sent [] (pending cont) tstp ≡ ((2, 20) ∷ [], [], [])
  pub cont_takes_stops : sent [] (pending sigstop ++ pending tstp) cont ≡ ((2, 18) ∷ [], [], [])
  pub stops_keep_stops : sent [] (pending sigstop) tstp ≡ ((2, 20) ∷ (2, 19) ∷ [], [], [])
  -- SIGCONT is noted at a stop signal alone, each time it is sent
  pub cont_at_stop : sent (at_stop_signal false) [] cont ≡ ((2, 18) ∷ [], (2, true) ∷ [], [])
  pub cont_again : sent (at_stop_signal false) (pending cont) cont ≡ ((2, 18) ∷ [], (2, true) ∷ [], [])
  pub cont_elsewhere : sent [] [] cont ≡ ((2, 18) ∷ [], [], [])
  -- a stop signal that is sent later takes SIGCONT away, but the process was continued
  pub stop_after_cont : sent (at_stop_signal true) (pending cont) sigstop ≡ ((2, 19) ∷ [], (2, true) ∷ [], [])

-- Requests

-- a signal that it sends to itself, at its signal stop, and passed on
abbrev pub sent_itself : ℕ → Tiny_host
sent_itself n = turns 1 2 (resumed 1 (waited (at_exit 0x13 (129 ∷ n ∷ 94 ∷ 3 ∷ []))))

abbrev pub passed_on : ℕ → Tiny_host → Tiny_host
passed_on n h = after (waited h) (To 1 (Syscall n))

-- at the group stop, and after Wait told of it
abbrev pub at_stop : Tiny_host
at_stop = turns 1 1 (passed_on 19 (sent_itself 119))

abbrev pub told_stop : Tiny_host
told_stop = waited at_stop

abbrev pub listening : Tiny_host
listening = after told_stop (To 1 Listen)

-- SIGCONT by another process
abbrev pub continued : Tiny_host → Tiny_host
continued h = record {
  shared = send h.shared 1 cont By_kernel;
  procs = h.procs;
  queue = h.queue;
  tracees = h.tracees;
  messages = h.messages;
  child = h.child;
}

pub record ListenRows : Type 0 where
  pub signal_stop : says (sent_itself 119) Wait ≡ status 1 0x137f
  pub stop : says at_stop Wait ≡ status 1 0x80137f
  pub stop_by_other : says (turns 1 1 (passed_on 20 (sent_itself 120))) Wait ≡ status 1 0x80147f
  -- a group stop has no siginfo
  pub information : says told_stop (To 1 SigInfo) ≡ Some einval
  pub listen : says told_stop (To 1 Listen) ≡ Some Agreed
  -- once it listens it is in no stop, and is not told of again
  pub registers_of_listening : says listening (To 1 GetRegs) ≡ Some esrch
  pub listen_twice : says listening (To 1 Listen) ≡ Some esrch
  pub no_more_stop : says (turns 1 3 listening) Wait ≡ None
  -- SIGCONT is told of once it listens, and not before
  pub held_at_stop : says (turns 1 3 (continued told_stop)) Wait ≡ None
  pub woken : says (turns 1 1 (continued listening)) Wait ≡ status 1 0x80057f
  pub woken_after_listen : says (turns 1 1 (after (continued told_stop) (To 1 Listen))) Wait ≡ status 1 0x80057f
  pub woken_once : says (turns 1 3 (resumed 1 (waited (turns 1 1 (continued listening))))) Wait ≡ status 1 0x127f
  -- resumed by Syscall it goes on without SIGCONT, and calls again
  pub released : says told_stop (To 1 (Syscall 0)) ≡ Some Agreed
  pub released_goes_on : says (turns 1 3 (resumed 1 told_stop)) Wait ≡ status 1 0x857f
  -- no signal goes with it
  pub released_with_signal : says told_stop (To 1 (Syscall 19)) ≡ Some eio
  pub woken_with_signal : says (waited (turns 1 1 (continued listening))) (To 1 (Syscall 18)) ≡ Some eio
  -- at any other stop Listen is EIO, and ESRCH comes before
  pub at_start : says (seized 0x13 writing) (To 1 Listen) ≡ Some eio
  pub at_entry_stop : says (at_entry 0x13 writing) (To 1 Listen) ≡ Some eio
  pub at_exit_stop : says (at_exit 0x13 writing) (To 1 Listen) ≡ Some eio
  pub at_signal_stop : says (sent_itself 119) (To 1 Listen) ≡ Some eio
  pub at_event_stop : says (at_fork 0x13) (To 1 Listen) ≡ Some eio
  pub at_waking : says (turns 1 1 (continued listening)) (To 1 Listen) ≡ Some eio
  pub before_seize : says (booted writing) (To 1 Listen) ≡ Some esrch
  pub of_none : says (seized 0x13 writing) (To 2 Listen) ≡ Some esrch
  pub of_dying : says at_end (To 1 Listen) ≡ Some esrch

-- Whole runs

-- kill and wait4 are shown
abbrev pub options : Options
options = record {
  follow = true;
  shows = λ n. (n == 129) || (n == 260);
  texts = record { wants = reads_once; text = first_read };
}

abbrev pub no_script : Script
no_script call n = no_choice

-- turns of a process, and whatever is asked after each
abbrev pub served_turns : ℕ → ℕ → List Event
served_turns p n = times n (Turn p ∷ Serve ∷ Serve ∷ Serve ∷ Serve ∷ Serve ∷ Serve ∷ Serve ∷ Serve ∷ [])

-- the parent has its turns until it waits, and then the child until it is stopped or has ended
abbrev pub schedule : List Event
schedule =
    times 3 (Serve ∷ []) ++ served_turns 1 30 ++ served_turns 2 10 ++ served_turns 1 30
    ++ served_turns 2 20 ++ served_turns 1 30

-- kind, pid; a call's number or result, a signal or a word; a signal's code
abbrev pub brief : Part → ℕ × ℕ × ℕ × ℕ
brief (Part_enter p c text) = (0, p, c.number, 0)
brief (Part_done p c x replaced text) = (1, p, x, 0)
brief (Part_signal p i) = (2, p, i.signal, i.code)
brief (Part_exit p w) = (3, p, w, 0)
brief (Part_stopped p s) = (4, p, s.number, 0)

-- a clone; kill(2, SIGSTOP), wait4(2, .., WUNTRACED), kill(2, SIGCONT), wait4(2, .., 0), and an exit with 0; the
-- child exits with 3
abbrev pub stops_child : List ℕ
stops_child = 220 ∷ 18 ∷ 129 ∷ 219 ∷ 260 ∷ 202 ∷ 129 ∷ 218 ∷ 260 ∷ 200 ∷ 94 ∷ 0 ∷ []

-- the same without the first wait4
abbrev pub continues_child : List ℕ
continues_child = 220 ∷ 18 ∷ 129 ∷ 219 ∷ 129 ∷ 218 ∷ 260 ∷ 200 ∷ 94 ∷ 0 ∷ []

-- and without SIGCONT
abbrev pub leaves_child : List ℕ
leaves_child = 220 ∷ 18 ∷ 129 ∷ 219 ∷ 260 ∷ 200 ∷ 94 ∷ 0 ∷ []

-- a clone; kill(2, SIGSTOP), kill(2, SIGKILL), wait4(2, .., 0), and an exit with 0
abbrev pub kills_stopped : List ℕ
kills_stopped = 220 ∷ 18 ∷ 129 ∷ 219 ∷ 129 ∷ 209 ∷ 260 ∷ 200 ∷ 94 ∷ 0 ∷ []

-- the second kill is entered before the child has taken SIGSTOP, which is passed on
abbrev pub before_stop : List Event
before_stop = times 3 (Serve ∷ []) ++ served_turns 1 15 ++ served_turns 2 2

-- SIGKILL comes before Wait has told of the group stop, or once the child listens
abbrev pub killed_untold : List Event
killed_untold = before_stop ++ Turn 2 ∷ Turn 1 ∷ Turn 1 ∷ Turn 2 ∷ [] ++ served_turns 2 3 ++ served_turns 1 30

abbrev pub killed_listening : List Event
killed_listening =
    before_stop ++ served_turns 2 1 ++ Turn 1 ∷ Turn 1 ∷ Turn 2 ∷ [] ++ served_turns 2 3 ++ served_turns 1 30

abbrev pub repeat : ℕ → ℕ → List ℕ
repeat zero p = []
repeat (suc n) p = p ∷ repeat n p

-- what the untraced kernel logs of process 2
abbrev pub logged : Item → ℕ × ℕ
logged (Enter p c) = (0, c.number)
logged (Done p c x replaced) = (1, x)
logged (Signalled p signal cause) = (2, signal.number)
logged (Exit p w m) = (3, w)
logged (Halts p signal) = (4, signal.number)

abbrev pub is_of : ℕ → Item → Bool
is_of q (Enter p c) = q == p
is_of q (Done p c x replaced) = q == p
is_of q (Signalled p signal cause) = q == p
is_of q (Exit p w m) = q == p
is_of q (Halts p signal) = q == p

abbrev pub logged_of_child : List Noted → List (ℕ × ℕ)
logged_of_child log = map logged (filter (is_of 2) (items_of log))

abbrev pub plain : List ℕ → List ℕ → List (ℕ × ℕ)
plain program pids =
    logged_of_child (kernel_run tiny no_script true (first_kernel nothing_yet (user program)) pids).log

pub record JobRuns : Type 0 where
  -- a child that is stopped and continued, traced
  pub stopped_child :
      map brief (traced_run tiny tiny_outcome options no_script nothing_yet (user stops_child) schedule).printed
      ≡ (0, 1, 129, 0) ∷ (1, 1, 0, 0) ∷ (0, 1, 260, 0)
      ∷ (2, 2, 19, 0) ∷ (4, 2, 19, 0)
      ∷ (1, 1, 2, 0) ∷ (2, 1, 17, 5)
      ∷ (0, 1, 129, 0) ∷ (1, 1, 0, 0) ∷ (0, 1, 260, 0)
      ∷ (2, 2, 18, 0) ∷ (3, 2, 768, 0)
      ∷ (1, 1, 2, 0) ∷ (2, 1, 17, 6) ∷ (3, 1, 0, 0) ∷ []
  pub stopped_outcome :
      ends (traced_run tiny tiny_outcome options no_script nothing_yet (user stops_child) schedule)
      ≡ Whole (record {
        console = [];
        files = [];
        ended = record { pid = 2; word = 768 } ∷ record { pid = 1; word = 0 } ∷ [];
      })
  -- SIGKILL at a group stop that was not told leaves its line out, but the untraced kernel has logged it
  pub untold_stop :
      map brief (traced_run tiny tiny_outcome options no_script nothing_yet (user kills_stopped) killed_untold).printed
      ≡ (0, 1, 129, 0) ∷ (1, 1, 0, 0) ∷ (0, 1, 129, 0)
      ∷ (2, 2, 19, 0) ∷ (3, 2, 9, 0)
      ∷ (1, 1, 0, 0) ∷ (2, 1, 17, 5) ∷ (0, 1, 260, 0) ∷ (1, 1, 2, 0) ∷ (3, 1, 0, 0) ∷ []
  pub logged_stop :
      logged_of_child (plain_run tiny tiny_outcome options no_script nothing_yet (user kills_stopped) killed_untold).log
      ≡ (2, 19) ∷ (4, 19) ∷ (3, 9) ∷ []
  -- once it was told its line stands
  pub told_stop :
      map brief
      (traced_run tiny tiny_outcome options no_script nothing_yet (user kills_stopped) killed_listening).printed
      ≡ (0, 1, 129, 0) ∷ (1, 1, 0, 0) ∷ (0, 1, 129, 0)
      ∷ (2, 2, 19, 0) ∷ (4, 2, 19, 0) ∷ (3, 2, 9, 0)
      ∷ (1, 1, 0, 0) ∷ (2, 1, 17, 5) ∷ (0, 1, 260, 0) ∷ (1, 1, 2, 0) ∷ (3, 1, 0, 0) ∷ []
  -- the second: SIGCONT comes when the child has taken SIGSTOP
  pub continued_child : plain continues_child
      (repeat 13 1 ++ repeat 2 2 ++ repeat 6 1 ++ repeat 1 2 ++ repeat 10 1 ++ repeat 20 2)
      ≡ (2, 19) ∷ (2, 18) ∷ (0, 94) ∷ (3, 768) ∷ []
  -- and without it the child stays stopped
  pub left_child : plain leaves_child (repeat 13 1 ++ repeat 20 2 ++ repeat 20 1 ++ repeat 20 2)
      ≡ (2, 19) ∷ (4, 19) ∷ []

pub record JobRows : Type 0 where
  pub modes : StopRows
  pub sending : SendRows
  pub listening : ListenRows
  pub runs : JobRuns
