-- ftruncate(fd, length): ftruncate(2).
use Rattle.std.specs.Prelude.{ℕ, ◌^◌, nat_lt, nat_le, length}
use Rattle.lx_abi.specs.Errnos.{einval, efbig, enospc}
use Rattle.lx_abi.specs.declared.log.Call.{Call}
use Rattle.lx_abi.specs.Limits.{largest_file}
use Rattle.lx_model.specs.Machine.{Refused, Returns}
use Rattle.lx_files.specs.Contents.{padded_to}
use Rattle.lx_files.specs.Trees.{with_content, content}
use Rattle.lx_open.specs.declared.description.Object.{Object}
use Rattle.lx_open.specs.declared.description.Object.TheVariants.{Input, Console, ReadEnd, WriteEnd, Opened}
use Rattle.lx_proc.specs.Answers.{Answers, argument, low_argument, unless}
use Rattle.lx_proc.specs.State.{with_tree}
use Rattle.lx_proc.specs.declared.state.UserState.{UserState}
use Rattle.lx_proc.specs.declared.state.Shared.{Shared}
use Rattle.lx_fcalls.specs.Arguments.{opened}
use Rattle.lx_fcalls.specs.Moving.{has_space}

abbrev pub truncates_node : Shared → UserState → ℕ → ℕ → Answers
truncates_node s b n node =
    unless (nat_le n largest_file) efbig
    (unless (has_space s (length (content s.tree node)) n) enospc
    (Returns (with_tree s (with_content s.tree node (padded_to n))) b 0))

abbrev pub truncates : Shared → UserState → ℕ → Object → Answers
truncates s b n Input = Refused einval
truncates s b n Console = Refused einval
truncates s b n (ReadEnd pipe) = Refused einval
truncates s b n (WriteEnd pipe) = Refused einval
truncates s b n (Opened node) = truncates_node s b n node

unfoldable pub ftruncate : Shared → ℕ → Call → UserState → Answers
ftruncate s p call b =
    unless (nat_lt (argument call 1) (2 ^ 63)) einval
    (opened s p (low_argument call 0) (λ named d.
    unless d.may_write einval
    (truncates s b (argument call 1) d.object)))
