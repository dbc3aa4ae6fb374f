-- Linux as a machine: what instructions, calls and signals do to the state.
use Rattle.std.specs.FinMap as maps
use Rattle.rv_mem.specs.Memory.{mapped_prefix}
use Rattle.lx_model.specs.Machine.{Machine}
use Rattle.lx_proc.specs.declared.state.Shared.{Shared}
use Rattle.lx_proc.specs.declared.state.UserState.{UserState}
use Rattle.lx_proc.specs.Registers.{regs, with_regs}
use Rattle.lx_pcalls.specs.Taking.{takes}
use Rattle.lx_turn.specs.Reactions.{next_of, runs, is_killed, joined}
use Rattle.lx_pcalls.specs.Ends as end
use Rattle.lx_pcalls.specs.Stops.{is_continued_at, settles, stopped, woken}
use Rattle.lx_turn.specs.Calls.{does}

abbrev pub linux : Machine Shared UserState
linux = record {
  regs = regs;
  with_regs = with_regs;
  peek = λ b a n. mapped_prefix b.memory a n;
  step = λ s p b. runs s p b (next_of (maps.get s.entries p));
  call = does;
  take = λ s p signal cause b. takes s p b signal cause;
  killed = λ s p. is_killed (maps.get s.entries p);
  join = joined;
  continued = λ s p. is_continued_at (maps.get s.entries p);
  settle = settles;
  stop = stopped;
  wake = woken;
  die = end.dies;
  release_task = end.buried;
}
