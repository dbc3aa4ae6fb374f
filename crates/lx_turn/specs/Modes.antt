-- Where a process stands.
use Rattle.std.specs.Prelude.{Option, Some, None}
use Rattle.lx_abi.specs.declared.log.Mode.{Mode}
use Rattle.lx_abi.specs.declared.log.Mode.TheVariants as mode
use Rattle.lx_model.specs.Turn.{stage_mode}
use Rattle.lx_model.specs.declared.stage.Task.{Task}
use Rattle.lx_model.specs.declared.stage.Task.TheVariants as task
use Rattle.lx_proc.specs.declared.state.Life.{Life}
use Rattle.lx_proc.specs.declared.state.Life.TheVariants.{Alive, Dying, Zombie}
use Rattle.lx_proc.specs.declared.state.Entry.{Entry}
use Rattle.lx_proc.specs.declared.state.UserState.{UserState}

-- where a process stands whose own part is given up
abbrev pub life_mode : Option Entry → Option Mode
life_mode None = None
life_mode (Some e) = zombie_mode e.life
  where
    zombie_mode : Life → Option Mode
    zombie_mode Alive = None
    zombie_mode (Dying w) = None
    zombie_mode (Zombie w) = Some mode.Zombie

-- where a process stands
abbrev pub task_mode : Option Entry → Task UserState → Option Mode
task_mode e (task.Alive b stage) = Some (stage_mode stage)
task_mode e (task.Dying w) = Some mode.Dying
task_mode e task.Gone = life_mode e
