use Rattle.std.proofs.Common.{◌≡◌, ◌≤◌, ◌^◌, ◌+◌, drop}
use Rattle.std.specs.Prelude.{fold, max}
use Rattle.lx_exec.proofs.programs.highest_end.Given as goal

abbrev pub invariant-loop-segment : goal.invariant-loop-segment
invariant-loop-segment l = record {
  so_far : fold (λ end s. max end (s.address + s.size)) l.end (drop l.segment-index l.segments) ≡ fold (λ end s. max end (s.address + s.size)) 0 l.segments;
  small : l.end ≤ 2 ^ 37;
}
