use Rattle.lx_files.proofs.Flattening.{listed_none, listed_next, listed_on, all_listed}
use Rattle.lx_files.proofs.flat.flatten.Goals as goal

pub folders-init : goal.folders-init
folders-init c = listed_none c.args.folders.now.children c.args.numbers.now c.new-flat.result c.new-flat.ensures

pub folders-preserved : goal.folders-preserved
folders-preserved c = listed_on c.args.folders.now.children c.args.folders.now.standings c.args.folders.now.full_below c.requires.tree c.args.numbers.now c.requires.there c.add_path.new.flat c.folders.folder c.in-Some.next c.in-Some.ensures.0 c.in-Some.ensures.2 (listed_next c.args.folders.now.children c.args.folders.now.standings c.args.folders.now.full_below c.requires.tree c.args.numbers.now c.requires.there c.folders.flat c.add_path.new.flat c.folders.folder c.folders.invariant c.in_ok-add_path.ensures)

pub returns-in-None : goal.returns-in-None
returns-in-None c = all_listed c.args.folders.now.children c.args.folders.now.standings c.args.folders.now.full_below c.requires.tree c.args.numbers.now c.requires.there c.add_path.new.flat c.folders.folder c.in-None.ensures (listed_next c.args.folders.now.children c.args.folders.now.standings c.args.folders.now.full_below c.requires.tree c.args.numbers.now c.requires.there c.folders.flat c.add_path.new.flat c.folders.folder c.folders.invariant c.in_ok-add_path.ensures)
