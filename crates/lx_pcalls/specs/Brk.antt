-- brk(addr): brk(2). The result is where the heap ends then, wherever that is.
use Rattle.std.specs.Prelude.{ℕ, ◌+◌, ◌-◌, ◌*◌, ◌&&◌, nat_lt, nat_le, Bool, is_none, if◌then◌else◌}
use Rattle.rv_mem.specs.Memory.{Memory}
use Rattle.rv_mem.specs.Mapping.{mapped, unmapped, limit_fault}
use Rattle.lx_abi.specs.declared.log.Call.{Call}
use Rattle.lx_model.specs.Machine.{Returns}
use Rattle.lx_proc.specs.declared.state.Shared.{Shared}
use Rattle.lx_proc.specs.declared.state.Heap.{Heap}
use Rattle.lx_proc.specs.declared.state.UserState.{UserState}
use Rattle.lx_proc.specs.Answers.{Answers, argument}
use Rattle.lx_exec.specs.Pages.{address_end, pages_for, rights_for}

-- the most bytes of a heap
abbrev pub heap_limit : ℕ
heap_limit = 0x1000000

-- a heap begins where the program's segments end, so all of it lies below the end of the addresses
abbrev pub may_end : Heap → ℕ → Bool
may_end h x = nat_le h.start x && nat_le x (h.start + heap_limit) && nat_le x address_end && nat_le h.end address_end

-- whole pages hold the heap: the memory once it ends higher, or lower
abbrev pub grown : Memory → ℕ → ℕ → Memory
grown m from to = mapped m (4096 * pages_for from) (4096 * (pages_for to - pages_for from)) (rights_for 3)

abbrev pub shrunk : Memory → ℕ → ℕ → Memory
shrunk m from to = unmapped m (4096 * pages_for to) (4096 * (pages_for from - pages_for to))

abbrev pub with_heap : UserState → Memory → ℕ → UserState
with_heap b m x = record b { memory = m; heap = record b.heap { end = x } }

-- with too many pages nothing changes
abbrev pub grows : UserState → ℕ → UserState
grows b x =
    if is_none (limit_fault (grown b.memory b.heap.end x)) then with_heap b (grown b.memory b.heap.end x) x
    else b

abbrev pub resizes : UserState → ℕ → UserState
resizes b x = if nat_lt b.heap.end x then grows b x else with_heap b (shrunk b.memory b.heap.end x) x

-- nor where it can't end there
abbrev pub with_end : UserState → ℕ → UserState
with_end b x = if may_end b.heap x then resizes b x else b

unfoldable pub brk : Shared → Call → UserState → Answers
brk s call b = Returns s (with_end b (argument call 0)) (with_end b (argument call 0)).heap.end
