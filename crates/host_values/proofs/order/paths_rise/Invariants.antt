use Rattle.std.proofs.Common.{◌≡◌, drop, None}
use Rattle.std.specs.Option.{option_copied}
use Rattle.host_values.specs.Reading.{paths_rise}
use Rattle.host_values.proofs.order.paths_rise.Given as goal

abbrev pub invariant-loop-file : goal.invariant-loop-file
invariant-loop-file l = paths_rise (option_copied l.before) (drop l.file-index l.files) ≡ paths_rise None l.files
