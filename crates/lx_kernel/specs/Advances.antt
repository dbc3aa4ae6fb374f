-- Turns of one process in a row, up to the first that logs something, or after which the process doesn't go on.
use Rattle.std.specs.Prelude.{◌≡◌, ◌⊎◌, ◌++◌, ℕ, zero, suc, ◌==◌, ◌||◌, Bool, true, false, Option, Some, None}
use Rattle.std.specs.Option.{option_to_list}
use Rattle.std.specs.Ordering.{nat_cmp}
use Rattle.std.specs.FinMap as maps
use Rattle.std.specs.FinMap.{FinMap}
use Rattle.lx_abi.specs.Errors.{error_word}
use Rattle.lx_abi.specs.Log.{entries}
use Rattle.lx_abi.specs.Occurrences.{count_of}
use Rattle.lx_abi.specs.Sys.{sys_sched_yield, sys_getpid, sys_getppid, sys_gettid, sys_brk, sys_munmap, sys_mmap}
use Rattle.lx_abi.specs.declared.log.Call.{Call}
use Rattle.lx_abi.specs.declared.log.Item.{Item}
use Rattle.lx_abi.specs.declared.log.Item.TheVariants as items
use Rattle.lx_abi.specs.declared.log.Mode.{Mode}
use Rattle.lx_abi.specs.declared.log.Mode.TheVariants as mode
use Rattle.lx_model.specs.Events.{by_pid}
use Rattle.lx_model.specs.Finite.{item_of}
use Rattle.lx_model.specs.Machine.{Goes, Calls, call_of}
use Rattle.lx_model.specs.Turn.{answered, gives}
use Rattle.lx_model.specs.declared.event.PtraceEvent.{PtraceEvent}
use Rattle.lx_model.specs.declared.event.PtraceEvent.TheVariants.{Plain}
use Rattle.lx_model.specs.declared.stage.Stage.{Stage}
use Rattle.lx_model.specs.declared.stage.Stage.TheVariants as stages
use Rattle.lx_model.specs.declared.stage.Task.{Task}
use Rattle.lx_model.specs.declared.stage.Task.TheVariants.{Alive}
use Rattle.lx_proc.specs.Registers.{regs}
use Rattle.lx_proc.specs.declared.reply.CallReply.{CallReply}
use Rattle.lx_proc.specs.declared.reply.CallReply.TheVariants as reply
use Rattle.lx_proc.specs.declared.state.Shared.{Shared}
use Rattle.lx_proc.specs.declared.state.UserState.{UserState}
use Rattle.lx_turn.specs.Calls.{does}
use Rattle.lx_turn.specs.Linux.{linux}
use Rattle.lx_turn.specs.Reactions.{resumed}
use Rattle.lx_turn.specs.declared.injection.Injection.{Injection}
use Rattle.lx_kernel.specs.Runs.{Run, turn_in, after_turn, mode_in, is_able_in}

-- it runs instructions, or is in a call
abbrev pub is_under_way : Mode → Bool
is_under_way mode.Born = false
is_under_way mode.Run = true
is_under_way mode.Faulting = false
is_under_way mode.Entered = false
is_under_way mode.Doing = true
is_under_way mode.Acted = true
is_under_way mode.Finished = false
is_under_way mode.Taken = false
is_under_way mode.Stopped = false
is_under_way mode.Woken = false
is_under_way mode.Dying = false
is_under_way mode.Zombie = false

-- the process can have another turn, and is under way
abbrev pub GoesOn : Run → ℕ → Type 0
GoesOn k pid = is_able_in k pid × ((m : Mode) × ((mode_in k pid ≡ Some m) × (is_under_way m ≡ true)))

-- its next turn logs nothing, nothing is done beside, and it goes on
pub record IsQuiet (k : Run) (pid : ℕ) : Type 0 where
  pub item_is : item_of (turn_in k pid) ≡ None
  pub event_is : (turn_in k pid).event ≡ Plain
  pub on : GoesOn (after_turn k pid) pid

-- so many quiet turns lead from k to k'
abbrev pub Quietly : Run → ℕ → ℕ → Run → Type 0
Quietly k pid zero k' = k' ≡ k
Quietly k pid (suc n) k' = IsQuiet k pid × Quietly (after_turn k pid) pid n k'

-- its next turn logs this, does this beside, a child by its pid, and leads to k'
pub record IsTurn (k : Run) (pid : ℕ) (item : Option Item) (event : PtraceEvent ℕ) (k' : Run) : Type 0 where
  pub item_is : item ≡ item_of (turn_in k pid)
  pub event_is : event ≡ by_pid k.running.child (turn_in k pid).event
  pub turned : k' ≡ after_turn k pid

-- so many turns of the process lead from k to k'; all but the last are quiet, and of the last it is told what it logs
-- and what it does beside
abbrev pub Leads : Run → ℕ → ℕ → Option Item → PtraceEvent ℕ → Run → Type 0
Leads k pid zero item event k' = (item ≡ None) × (event ≡ Plain) × (k' ≡ k)
Leads k pid (suc n) item event k' = (before : Run) × Quietly k pid n before × IsTurn before pid item event k'

-- Of a process's own part.

-- the kernel has these parts, and its script chooses so
pub record Fits (k : Run) (t : Injection) (s : Shared) (child pid : ℕ) : Type 0 where
  pub shared_is : k.running.shared ≡ s
  pub child_is : k.running.child ≡ child
  pub script_is : k.script ≡ t.script.now
  pub follow_is : k.follow ≡ t.follow
  pub agrees : (n : ℕ) → count_of t.occurrences.now pid n ≡ entries pid n k.running.log

-- the kernel with other parts of its processes' own
abbrev pub with_tasks : Run → FinMap nat_cmp (Task UserState) → Run
with_tasks k tasks = record k { running = record k.running { tasks = tasks } }

-- with an item more
abbrev pub with_log : Run → Option Item → Run
with_log k item = record k { running = record k.running { log = k.running.log ++ option_to_list item } }

-- and with another part of the process
abbrev pub left : Run → ℕ → Task UserState → Option Item → Run
left k pid task item = with_log (with_tasks k (maps.insert k.running.tasks pid task)) item

-- so many turns lead from the one part to the other in every kernel that has it, and leave what is shared
abbrev pub PartLeads : Injection → Shared → ℕ → ℕ → ℕ → Task UserState → Option Item → Task UserState → Type 0
PartLeads t s child pid n task item task' =
    (k : Run) → Fits k t s child pid → maps.get k.running.tasks pid ≡ Some task
    → Leads k pid n item Plain (left k pid task' item)

-- a call that asks only for its process's own part, or tells a number
abbrev pub is_own : ℕ → Bool
is_own n =
    (n == sys_sched_yield) || ((n == sys_getpid) || ((n == sys_getppid) || ((n == sys_gettid) || ((n == sys_brk)
    || ((n == sys_munmap) || (n == sys_mmap))))))

-- what such a call leaves in a0, by its reply
abbrev pub own_result : Option CallReply → ℕ
own_result (Some (reply.Refused e)) = error_word e.number
own_result (Some (reply.Returned x)) = x
own_result _ = 0

-- the call was done with this result, and left what is shared
abbrev pub IsDone : Shared → ℕ → ℕ → Call → UserState → UserState → ℕ → Type 0
IsDone s child pid call b c result =
    answered linux s child pid b call (does s child pid call b) ≡ gives s (Alive c (stages.Acted call result false))

-- such a call was gone through, to its end
abbrev pub IsGoneThrough : Shared → ℕ → ℕ → Call → UserState → UserState → Stage → Option Item → Type 0
IsGoneThrough s child pid call b c stage item =
    (x : ℕ) × IsDone s child pid call b c x × (stage ≡ stages.Finished) × (item ≡ Some (items.Done pid call x false))

-- one turn enters a call, or there is none
abbrev pub IsEntered : Call → ℕ → Stage → Stage → Type 0
IsEntered call n stage stage' = ((n ≡ 1) × (stage' ≡ stages.Doing call)) ⊎ ((n ≡ 0) × (stage' ≡ stage))

-- c comes from b by so many instructions; one that makes an interrupted call again is one of them
abbrev pub Follows : ℕ → UserState → UserState → Type 0
Follows zero b c = b ≡ c
Follows (suc n) b c = (d : UserState) × (resumed b b.interrupted ≡ Goes d) × Follows n d c

-- its next turn comes to a call
abbrev pub IsAtCall : UserState → Type 0
IsAtCall b = resumed b b.interrupted ≡ Calls

-- a body runs instructions, and then stands in Run, or at a call
abbrev pub StaysRunning : ℕ → UserState → Option Item → Task UserState → Type 0
StaysRunning n b item task =
    (c : UserState) × Follows n b c × (item ≡ None) × (task ≡ Alive c stages.Run)

abbrev pub ComesToCall : ℕ → ℕ → UserState → Option Item → Task UserState → Type 0
ComesToCall pid n b item task =
    (m : ℕ) × (c : UserState) × (n ≡ suc m) × Follows m b c × IsAtCall c
    × (item ≡ Some (items.Enter pid (call_of (regs c)))) × (task ≡ Alive c (stages.Entered None))

abbrev pub RunLeads : ℕ → ℕ → UserState → Option Item → Task UserState → Type 0
RunLeads pid n b item task = StaysRunning n b item task ⊎ ComesToCall pid n b item task
