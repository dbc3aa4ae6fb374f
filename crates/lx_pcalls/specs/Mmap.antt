-- mmap(addr, length, prot, flags, fd, offset): mmap(2), of private anonymous pages alone. The address is no more than a
-- hint, which isn't taken, and fd isn't looked at.
use Rattle.std.specs.Prelude.{ℕ, ◌*◌, ◌==◌, ◌&&◌, nat_lt, nat_le, Bool, is_none}
use Rattle.rv_mem.specs.Mapping.{mapped, limit_fault, highest_free}
use Rattle.rv_mem.specs.declared.rights.Rights.{Rights}
use Rattle.lx_abi.specs.Errnos.{enomem, einval}
use Rattle.lx_abi.specs.declared.log.Call.{Call}
use Rattle.lx_model.specs.Machine.{Returns}
use Rattle.lx_proc.specs.declared.state.Shared.{Shared}
use Rattle.lx_proc.specs.declared.state.UserState.{UserState}
use Rattle.lx_proc.specs.State.{with_memory}
use Rattle.lx_proc.specs.Answers.{Answers, argument, unless, given}
use Rattle.lx_exec.specs.Pages.{pages_for, rights_for}

-- flags MAP_PRIVATE 2 and MAP_ANONYMOUS 0x20, no others
abbrev pub may_map : Call → Bool
may_map call =
    nat_lt 0 (argument call 1) && nat_le (argument call 2) 7 && (argument call 3 == 0x22) && (argument call 5 == 0)

-- where pages are mapped
abbrev pub map_low : ℕ
map_low = 0x2800000000

abbrev pub map_high : ℕ
map_high = 0x3000000000

abbrev pub maps_at : Shared → UserState → ℕ → Rights → ℕ → Answers
maps_at s b pages rights a =
    unless (is_none (limit_fault (mapped b.memory a (4096 * pages) rights))) enomem
    (Returns s (with_memory b (mapped b.memory a (4096 * pages) rights)) a)

-- in the highest place that is free
abbrev pub maps : Shared → UserState → ℕ → Rights → Answers
maps s b pages rights = given (highest_free b.memory pages map_low map_high) enomem (maps_at s b pages rights)

unfoldable pub mmap : Shared → Call → UserState → Answers
mmap s call b = unless (may_map call) einval (maps s b (pages_for (argument call 1)) (rights_for (argument call 2)))
