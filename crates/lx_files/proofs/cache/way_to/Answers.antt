use Rattle.lx_files.proofs.Ways.{from_top}
use Rattle.lx_files.proofs.cache.way_to.Goals as goal

pub returns-in-None : goal.returns-in-None
returns-in-None c = from_top c.args.folders.now.children c.args.folders.now.standings c.args.path.now
