use Rattle.piped_runs.proofs.Piped.{piped_runs_tell}
use Rattle.piped_runs.proofs.laws.piped_runs_tell.Goals as goal

pub returns : goal.returns
returns g c = piped_runs_tell (λ l. l) g.R.Source.input g.W.Sink.contents g.W.Sink.puts g.W.Sink.broken c.ends_agree.ensures c.local_links_answer_their_own.ensures c.hosts_run_alike.ensures.begin c.linux_runs_tell.ensures.own
