use Rattle.std.proofs.Common.{subst}
use Rattle.lx_files.specs.Ways.{AreKnown}
use Rattle.lx_files.proofs.Ways.{known_last}
use Rattle.lx_files.proofs.cache.way_among.Goals as goal

pub way_from-requires-clause-known : goal.way_from-requires-clause-known
way_from-requires-clause-known c = (known_last c.args.folders.now.children c.in-Some.before.now c.in-Some.known.now (subst (AreKnown c.args.folders.now.children) c.in-Some.ensures.cases.0 c.loop-known.invariant.0)).1

pub loop-known-preserved : goal.loop-known-preserved
loop-known-preserved c = (
  (known_last c.args.folders.now.children c.in-Some.before.now c.in-Some.known.now (subst (AreKnown c.args.folders.now.children) c.in-Some.ensures.cases.0 c.loop-known.invariant.0)).0,
  c.nearer-best.ensures c.args.folders.now.children c.args.folders.now.standings c.args.path.now c.loop-known.invariant.1 c.way_from.ensures,
)
