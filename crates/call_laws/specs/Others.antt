-- Whose entry in the table of processes a call may change.
use Rattle.std.specs.Prelude.{◌≡◌, ℕ, ◌==◌, Bool, false, Option, Some, None, if◌then◌else◌}
use Rattle.std.specs.FinMap as maps
use Rattle.lx_abi.specs.Sys.{sys_clone, sys_kill, sys_wait4}
use Rattle.lx_abi.specs.declared.log.Call.{Call}
use Rattle.lx_proc.specs.Answers.{low_argument}
use Rattle.lx_proc.specs.declared.state.Entry.{Entry}
use Rattle.lx_proc.specs.declared.state.Shared.{Shared}

-- those of other processes are as they were
abbrev pub LeavesOthers : ℕ → Shared → Shared → Type 0
LeavesOthers p s t = (q : ℕ) → (q ≡ p → ⊥) → maps.get t.entries q ≡ maps.get s.entries q

abbrev pub is_child_of : ℕ → Option Entry → Bool
is_child_of p None = false
is_child_of p (Some e) = e.parent == p

-- beside the caller's: whom a kill aims at, whom wait4 tells of, a child of the caller, and the child that clone makes
abbrev pub may_change : Shared → ℕ → ℕ → Call → ℕ → Bool
may_change s child p call q =
    if call.number == sys_kill then q == low_argument call 0
    else if call.number == sys_wait4 then is_child_of p (maps.get s.entries q)
    else if call.number == sys_clone then q == child
    else false

-- all others are as they were
abbrev pub LeavesTheRest : ℕ → ℕ → Call → Shared → Shared → Type 0
LeavesTheRest child p call s t =
    (q : ℕ) → (q ≡ p → ⊥) → may_change s child p call q ≡ false → maps.get t.entries q ≡ maps.get s.entries q
