-- The first state of a kernel.
use Rattle.std.specs.Prelude.{List, [], true, false}
use Rattle.lx_abi.specs.declared.boot.Boot.{Boot}
use Rattle.lx_abi.specs.declared.script.Rule.{Rule}
use Rattle.lx_boot.specs.First.{first_shared, first_tasks}
use Rattle.lx_kernel.specs.Runs.{Run}

-- process 1 is alone, and nothing is logged; the log is kept
abbrev pub first_run : Boot → List Rule → Run
first_run boot script = record {
  running = record {
    shared = first_shared boot.limits boot.files boot.input;
    tasks = first_tasks boot.argv boot.env;
    child = 2;
    log = [];
  };
  script = script;
  follow = boot.follow;
  failed = false;
  keeps_log = true;
}

-- the same, but for the log, which isn't kept
abbrev pub first_run_without_log : Boot → List Rule → Run
first_run_without_log boot script = record (first_run boot script) { keeps_log = false }
