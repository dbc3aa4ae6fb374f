-- The memory of a process is within the most pages.
use Rattle.std.specs.Prelude.{◌≤◌}
use Rattle.rv_mem.specs.Memory.{Memory}
use Rattle.rv_mem.specs.Mapping.{page_count}
use Rattle.lx_model.specs.declared.stage.Task.{Task}
use Rattle.lx_model.specs.declared.stage.Task.TheVariants as task
use Rattle.lx_proc.specs.declared.state.UserState.{UserState}

abbrev pub HasFewPages : Memory → Type 0
HasFewPages m = page_count m ≤ 16384

-- who doesn't live has no memory
abbrev pub IsSmall : Task UserState → Type 0
IsSmall (task.Alive b stage) = HasFewPages b.memory
IsSmall (task.Dying w) = Unit {0}
IsSmall task.Gone = Unit {0}
