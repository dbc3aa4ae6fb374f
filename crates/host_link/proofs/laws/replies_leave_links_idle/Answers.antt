use Rattle.host_link.proofs.Idle.{reply_leaves_idle}
use Rattle.host_link.proofs.laws.replies_leave_links_idle.Goals as goal

pub returns : goal.returns
returns c = reply_leaves_idle
