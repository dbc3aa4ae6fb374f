use Rattle.lx_files.proofs.Fresh.{fresh_tree, fresh_there, fresh_named}
use Rattle.lx_files.proofs.name_tree.NameTree.new.Goals as goal

pub invariant_of-result : goal.invariant_of-result
invariant_of-result c = (fresh_tree c.new.result c.new-2.result c.new-3.result c.new.ensures c.new-2.ensures c.new-3.ensures, fresh_there c.new.result c.new-2.result c.new-3.result c.new.ensures c.new-2.ensures c.new-3.ensures, c.new-4.ensures c.new.result)

pub returns : goal.returns
returns c = fresh_named c.new.result c.new-2.result c.new-3.result c.new.ensures c.new-2.ensures c.new-3.ensures
