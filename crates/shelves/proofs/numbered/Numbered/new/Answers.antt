use Rattle.shelves.proofs.Lacked.{none_known}
use Rattle.shelves.proofs.numbered.Numbered.new.Goals as goal

pub invariant_of-result : goal.invariant_of-result
invariant_of-result g c = λ known. none_known c.new.result c.new-2.result c.new.ensures c.new-2.ensures
