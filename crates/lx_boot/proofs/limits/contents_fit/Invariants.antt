use Rattle.std.proofs.Common.{◌≡◌, ◌+◌, take}
use Rattle.std.specs.List.{sum_by}
use Rattle.lx_abi.specs.Limits.{most_contents}
use Rattle.lx_boot.specs.Limits.{content_size}
use Rattle.lx_boot.proofs.limits.contents_fit.Given as goal

abbrev pub invariant-loop-file : goal.invariant-loop-file
invariant-loop-file l = l.left + sum_by content_size (take l.file-index l.files) ≡ most_contents
