use Rattle.std.proofs.Common.{◌≡◌, ◌++◌, length}
use Rattle.std.specs.List.{flat_map}
use Rattle.sweep_rows.specs.Files.{note_at}
use Rattle.sweep_rows.proofs.files.add_all_left.Given as goal

abbrev pub invariant-loop-file : goal.invariant-loop-file
invariant-loop-file l =
    l.notes.items ++ flat_map (λ f. note_at l.boot l.reference l.run f.path) l.left
    ≡ l.initial.notes.items ++ flat_map (λ f. note_at l.boot l.reference l.run f.path) l.reference

abbrev pub decreases-loop-file : goal.decreases-loop-file
decreases-loop-file l = length l.left
