-- sched_yield(): sched_yield(2). Which process runs next is a schedule's, whatever is called.
use Rattle.lx_model.specs.Machine.{Returns}
use Rattle.lx_proc.specs.declared.state.Shared.{Shared}
use Rattle.lx_proc.specs.declared.state.UserState.{UserState}
use Rattle.lx_proc.specs.Answers.{Answers}

abbrev pub sched_yield : Shared → UserState → Answers
sched_yield s b = Returns s b 0
