use Rattle.lx_files.proofs.Ways.{from_known}
use Rattle.lx_files.proofs.known.way_from.Goals as goal

pub returns-in-Some : goal.returns-in-Some
returns-in-Some c = from_known c.args.folders.now.children c.args.folders.now.standings c.args.folders.now.full_below c.requires.tree c.up.over.now c.up.folder c.up.invariant c.in-Some.rest.now c.args.path.now c.in-Some.ensures
