-- How often a process has entered a call.
use Rattle.std.specs.Prelude.{ℕ, ◌≤◌, List, length}
use Rattle.lx_abi.specs.Log.{entries}
use Rattle.lx_abi.specs.declared.boot.Boot.{Boot}
use Rattle.lx_abi.specs.declared.script.Rule.{Rule}
use Rattle.lx_kernel.specs.First.{first_run}
use Rattle.lx_kernel.specs.Laws.{after_all}

-- after any turns of a boot it is at most as often as there were turns, so that 64 bits count it
abbrev pub EntriesAreFew : Type 0
EntriesAreFew = (boot : Boot) (script : List Rule) (pids : List ℕ) (p call : ℕ) →
    entries p call (after_all (first_run boot script) pids).running.log ≤ length pids
