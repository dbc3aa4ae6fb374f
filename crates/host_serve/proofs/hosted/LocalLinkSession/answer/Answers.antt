use Rattle.host_serve.proofs.Ready.{fails_for_memory}
use Rattle.host_serve.proofs.hosted.LocalLinkSession.answer.Goals as goal

pub returns-in-Err-clause-failed : goal.returns-in-Err-clause-failed
returns-in-Err-clause-failed c = fails_for_memory _ _ _ _ (c.idle_links_fail_for_memory.ensures _ _ _ _ c.requires.able.0 c.requires.few c.requires.able.1 c.requires.no_boot c.in-Err.ensures.answered) c.in-Err.ensures.answered
