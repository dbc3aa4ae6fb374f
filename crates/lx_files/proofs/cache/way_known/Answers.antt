use Rattle.lx_files.proofs.cache.way_known.Goals as goal

pub returns : goal.returns
returns c = c.nearer.ensures c.args.folders.now.children c.args.folders.now.standings c.args.path.now c.way_among-entered.ensures c.way_made.ensures
