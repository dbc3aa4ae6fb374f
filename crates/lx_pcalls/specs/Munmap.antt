-- munmap(addr, length): munmap(2). Pages that aren't mapped are passed over.
use Rattle.std.specs.Prelude.{ℕ, ◌+◌, ◌*◌, ◌%◌, ◌==◌, ◌&&◌, nat_lt, nat_le, Bool}
use Rattle.rv_mem.specs.Mapping.{unmapped}
use Rattle.lx_abi.specs.Errnos.{einval}
use Rattle.lx_abi.specs.declared.log.Call.{Call}
use Rattle.lx_model.specs.Machine.{Returns}
use Rattle.lx_proc.specs.declared.state.Shared.{Shared}
use Rattle.lx_proc.specs.declared.state.UserState.{UserState}
use Rattle.lx_proc.specs.State.{with_memory}
use Rattle.lx_proc.specs.Answers.{Answers, argument, unless}
use Rattle.lx_exec.specs.Pages.{address_end, pages_for}

abbrev pub may_unmap : ℕ → ℕ → Bool
may_unmap address length = (address % 4096 == 0) && (nat_lt 0 length && nat_le (address + length) address_end)

unfoldable pub munmap : Shared → Call → UserState → Answers
munmap s call b =
    unless (may_unmap (argument call 0) (argument call 1)) einval
    (Returns s (with_memory b (unmapped b.memory (argument call 0) (4096 * pages_for (argument call 1)))) 0)
