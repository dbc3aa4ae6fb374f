use Rattle.std.proofs.Common.{◌≡◌, ◌≤◌, ◌-◌, true}
use Rattle.std.specs.List.{range_with_len}
use Rattle.lx_open.specs.Releases.{closed_each, AreEndsKept}
use Rattle.lx_open.proofs.Rows.{from}
use Rattle.lx_open.proofs.release.close_each.Given as goal

abbrev pub decreases-loop-fd : goal.decreases-loop-fd
decreases-loop-fd l = 256 - l.at

abbrev pub invariant-loop-fd : goal.invariant-loop-fd
invariant-loop-fd l = record {
  small : l.at ≤ 256;
  closed :
      closed_each l.on_exec (record { tree = l.tree; fds = l.fds }) l.pid (from l.at)
      ≡ closed_each l.on_exec (record { tree = l.fn.tree; fds = l.fn.fds }) l.pid (range_with_len 0 256);
  kept : l.kept ≡ true → AreEndsKept l.fn.fds l.fds;
}
