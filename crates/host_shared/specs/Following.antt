-- Who has the next turn after whom.
use Rattle.std.specs.Prelude.{◌≡◌, ℕ, ◌%◌, List, Option, Some, None, get_or}
use Rattle.pt_schedule.specs.Cycle.{next_able}
use Rattle.pt_kernel.specs.Hosts.{HostState, readiness_of}
use Rattle.host_shared.specs.declared.followers.Follower.{Follower}

-- q is the next able process in the cycle of pids after p
abbrev pub Follows : HostState → ℕ → ℕ → Type 0
Follows h p q = next_able (readiness_of h).able (readiness_of h).last_pid p ≡ Some q

-- the row of p tells of it, and that q has the next turn
abbrev pub Tells : List (Option Follower) → ℕ → ℕ → Type 0
Tells rows p q = get_or rows (p % 32) None ≡ Some (record { pid = p; next = q })

-- what is told is so
abbrev pub Knows : HostState → List (Option Follower) → Type 0
Knows h rows = (p q : ℕ) → Tells rows p q → Follows h p q
