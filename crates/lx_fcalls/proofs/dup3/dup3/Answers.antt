use Rattle.std.proofs.Common.{◌≡◌, ◌<◌, false, rules}
use Rattle.std.specs.Prelude.{◌==◌}
use Rattle.lx_open.proofs.Replacing.{named_beside}
use Rattle.lx_fcalls.proofs.dup3.dup3.Goals as goal

pub replace-requires-clause-named : goal.replace-requires-clause-named
replace-requires-clause-named c =
    let small : c.low_argument-new.result < 256 = search rules in
    let differ : (c.low_argument-old.result == c.low_argument-new.result) ≡ false = search rules in
    named_beside c.args.shared.now.fds c.args.pid c.low_argument-old.result c.low_argument-new.result c.in-Some.slot small differ c.in-Some.ensures
