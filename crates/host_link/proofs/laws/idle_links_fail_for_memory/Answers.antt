use Rattle.host_link.proofs.Idle.{idle_fails_for_memory}
use Rattle.host_link.proofs.laws.idle_links_fail_for_memory.Goals as goal

pub returns : goal.returns
returns c = idle_fails_for_memory
