use Rattle.std.proofs.Common.{◌≡◌, take}
use Rattle.std.specs.Prelude.{nat_eq, fold, max}
use Rattle.std.specs.List.{common_prefix_len}
use Rattle.lx_boot.proofs.limits.longest_common.Given as goal

abbrev pub invariant-loop-file : goal.invariant-loop-file
invariant-loop-file l = l.longest ≡ fold (λ n f. max n (common_prefix_len nat_eq l.path f.path)) 0 (take l.file-index l.files)
