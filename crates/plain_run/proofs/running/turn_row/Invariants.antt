use Rattle.std.specs.Prelude.{◌≡◌, ◌≤◌, ◌-◌, List, [], ◌++◌}
use Rattle.lx_abi.specs.Log.{Noted}
use Rattle.plain_run.specs.Notes.{notes_of, turns_of}
use Rattle.plain_run.specs.Watched.{Tells}
use Rattle.plain_run.proofs.Turning.{Made}
use Rattle.plain_run.proofs.running.turn_row.Given as goal

-- so many turns of the row were made, and there is another; what they logged was told
abbrev pub invariant-row : goal.invariant-row
invariant-row g l =
    (l.made ≤ l.fn.more) × Made l.initial.kernel l.fn.pid l.made l.kernel
    × Tells l.initial.kernel (g.W.Watch.told l.initial.watch) l.kernel (g.W.Watch.told l.watch)
    × (g.W.Watch.begun l.watch ≡ g.W.Watch.begun l.initial.watch)
    × ((first : _) (ns : List Noted) → g.W.Watch.noting first l.initial.watch ns
    → g.W.Watch.noting first l.watch (ns ++ notes_of l.initial.kernel (turns_of l.made l.fn.pid [])))

abbrev pub decreases-row : goal.decreases-row
decreases-row g l = l.fn.more - l.made
