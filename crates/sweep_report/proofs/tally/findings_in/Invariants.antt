use Rattle.std.proofs.Common.{◌≡◌, ◌+◌, ◌≤◌, length}
use Rattle.sweep_report.specs.Tallies.{findings_in}
use Rattle.sweep_report.proofs.tally.findings_in.Given as goal

abbrev pub invariant-loop-verdict : goal.invariant-loop-verdict
invariant-loop-verdict l =
    (l.findings + findings_in l.strict l.left ≡ findings_in l.strict l.verdicts)
    × (l.findings + length l.left ≤ length l.verdicts)

abbrev pub decreases-loop-verdict : goal.decreases-loop-verdict
decreases-loop-verdict l = length l.left
