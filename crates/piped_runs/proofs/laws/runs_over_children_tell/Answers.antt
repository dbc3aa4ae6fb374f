use Rattle.std.specs.Io.Buffered.{reader_remaining}
use Rattle.host_wire.specs.Counting.{calls_of, faults_of, input_of, inner_of}
use Rattle.host_link.specs.Children.{pipe_of}
use Rattle.host_link.specs.Streams.{left_in, taken_by}
use Rattle.piped_runs.proofs.Piped.{piped_runs_tell}
use Rattle.piped_runs.proofs.laws.runs_over_children_tell.Goals as goal

pub returns : goal.returns
returns g c = piped_runs_tell (λ l. pipe_of l) (λ e. input_of (λ out. reader_remaining (λ r. left_in g.P.Stdout.Read.remaining r) out) e) (λ e. taken_by g.P.Stdin.Write.contents (inner_of e)) (λ e. calls_of e) (λ e. faults_of e) c.ends_agree.ensures c.local_links_answer_their_own.ensures c.hosts_run_alike.ensures.begin c.linux_runs_tell.ensures.own
