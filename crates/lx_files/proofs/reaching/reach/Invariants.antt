use Rattle.std.proofs.Common.{◌≡◌}
use Rattle.std.proofs.Common.{[], drop, map}
use Rattle.lx_files.specs.Places.{reached, parts}
use Rattle.lx_files.specs.Trees.{Tree}
use Rattle.lx_files.specs.Folders.{at, names_of, named}
use Rattle.lx_files.proofs.reaching.reach.Given as goal

abbrev pub invariant-loop-part : goal.invariant-loop-part
invariant-loop-part l =
    let tree : Tree = record { names = named l.folders.standings l.numbers; nodes = l.nodes } in
    (l.folder ≡ at l.folders.children (names_of l.at.items))
    × (reached tree l.slashed l.at.items l.last (parts (map (λ p. p.now) (drop l.part-index l.pieces))) ≡ reached tree l.slashed l.fn.start.items [] (parts (map (λ p. p.now) l.pieces)))
