use Rattle.lx_open.proofs.InRow.{next_in}
use Rattle.lx_open.proofs.row.Row.next_open.Goals as goal

pub returns : goal.returns
returns c = next_in c.args.self.now c.args.fd c.end.result c.find_open.result c.requires c.end.ensures.within c.end.ensures.none c.find_open.ensures
