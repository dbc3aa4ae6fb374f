use Rattle.std.proofs.Common.{◌≡◌, ◌++◌, map}
use Rattle.lx_proc.specs.WaitWords.{ended_of}
use Rattle.lx_proc.proofs.wait_words.list_words.Given as goal

abbrev pub invariant-loop-pid : goal.invariant-loop-pid
invariant-loop-pid l = l.list ++ map ended_of l.pid-iterator ≡ map ended_of l.words.entries
