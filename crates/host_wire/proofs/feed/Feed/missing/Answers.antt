use Rattle.std.proofs.Common.{◌+◌, ◌<◌, length, sym, subst, arith}
use Rattle.host_frame.specs.Reading.{told_length}
use Rattle.host_wire.specs.Streams.{IsUnfinished}
use Rattle.host_wire.proofs.Streams.{lacks}
use Rattle.host_wire.proofs.feed.Feed.missing.Goals as goal

pub overflow_sub-result-2 : goal.overflow_sub-result-2
overflow_sub-result-2 c =
    let bytes = c.as_slice-bytes.result.now in
    let h : IsUnfinished bytes = subst IsUnfinished (sym c.as_slice-bytes.ensures.value) c.self.invariant in
    let n : length bytes < 4 + told_length bytes = lacks bytes h c.if-bytes-lt4.false in
    omega (arith, n, c.read_u32.ensures)

pub returns-clause-some : goal.returns-clause-some
returns-clause-some c =
    let bytes = c.as_slice-bytes.result.now in
    let h : IsUnfinished bytes = subst IsUnfinished (sym c.as_slice-bytes.ensures.value) c.self.invariant in
    let n : length bytes < 4 + told_length bytes = lacks bytes h c.if-bytes-lt4.false in
    omega (arith, n, c.read_u32.ensures)
