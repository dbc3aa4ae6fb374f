use Rattle.std.proofs.Common.{length}
use Rattle.std.specs.Prelude.{IfSome}
use Rattle.lx_files.specs.Ways.{AreKnown, IsWay}
use Rattle.lx_files.proofs.cache.way_among.Given as goal

abbrev pub invariant-loop-known : goal.invariant-loop-known
invariant-loop-known l =
    AreKnown l.folders.children l.left
    × IfSome l.best (λ w. IsWay l.folders.children l.folders.standings w.folder w.rest.now l.path)

abbrev pub decreases-loop-known : goal.decreases-loop-known
decreases-loop-known l = length l.left
