use Rattle.std.proofs.Common.{◌≡◌, ℕ, List, length}
use Rattle.std.specs.Option.{option_or}
use Rattle.sweep_rows.specs.Files.{left_at}
use Rattle.sweep_rows.specs.Index.{content_at}
use Rattle.sweep_rows.proofs.index.contents_left.Given as goal

abbrev pub invariant-loop-file : goal.invariant-loop-file
invariant-loop-file l =
    (path : List ℕ) → option_or (left_at l.left path) (content_at l.contents path) ≡ left_at l.files path

abbrev pub decreases-loop-file : goal.decreases-loop-file
decreases-loop-file l = length l.left
