use Rattle.std.proofs.Common.{◌≡◌, map, drop}
use Rattle.lx_boot.specs.Neighbours.{under_next}
use Rattle.lx_boot.proofs.neighbours.under_next.Given as goal

abbrev pub invariant-loop-file : goal.invariant-loop-file
invariant-loop-file l = under_next l.first (map (λ f. f.now) l.files) ≡ under_next l.last (map (λ f. f.now) (drop l.file-index l.files))
