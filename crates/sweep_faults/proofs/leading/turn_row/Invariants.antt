use Rattle.std.specs.Prelude.{◌≡◌, ◌≤◌, ◌<◌, ◌-◌, false}
use Rattle.sweep_faults.specs.declared.faults.Fault.{Fault}
use Rattle.sweep_faults.specs.Faults.{has_begun}
use Rattle.sweep_faults.specs.Heard.{HearsBeside}
use Rattle.sweep_faults.specs.Led.{IsAhead}
use Rattle.sweep_faults.proofs.Rows.{Made}
use Rattle.sweep_faults.proofs.leading.turn_row.Given as goal

-- so many turns of the row were made, and there is another; the place hasn't come
abbrev pub invariant-row : goal.invariant-row
invariant-row l =
    (l.made ≤ l.fn.more)
    × ((f : Fault) → has_begun f l.kernel.running.log ≡ false
    → (has_begun f l.initial.kernel.running.log ≡ false) × Made f l.initial.kernel l.fn.pid l.made l.kernel)
    × IsAhead l.fn.place l.left l.kernel.running.log × (0 < l.left)
    × HearsBeside l.fn.calls l.heard l.kernel.running.log

abbrev pub decreases-row : goal.decreases-row
decreases-row l = l.fn.more - l.made
