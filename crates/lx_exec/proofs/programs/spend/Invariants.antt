use Rattle.std.proofs.Common.{◌≡◌, ◌+◌, take}
use Rattle.std.specs.List.{sum_by}
use Rattle.lx_proc.specs.Starts.{cost_of}
use Rattle.lx_exec.proofs.programs.spend.Given as goal

abbrev pub invariant-loop-word : goal.invariant-loop-word
invariant-loop-word l = l.left + sum_by cost_of (take l.word-index l.words) ≡ l.budget
