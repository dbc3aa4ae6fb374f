-- The parts of a kernel's first state.
use Rattle.std.specs.Prelude.{ℕ, List, [], true, false, None}
use Rattle.std.specs.FinMap as maps
use Rattle.std.specs.FinMap.{FinMap}
use Rattle.std.specs.Ordering.{nat_cmp}
use Rattle.lx_abi.specs.declared.boot.GuestFile.{GuestFile}
use Rattle.lx_abi.specs.declared.boot.Limits.{Limits}
use Rattle.lx_model.specs.declared.stage.Task.{Task}
use Rattle.lx_model.specs.declared.stage.Stage.TheVariants.{Born}
use Rattle.lx_model.specs.declared.stage.Task.TheVariants as task
use Rattle.lx_sig.specs.Reactions.{no_signals}
use Rattle.lx_open.specs.declared.description.Object.{Object}
use Rattle.lx_open.specs.declared.description.Object.TheVariants.{Input, Console}
use Rattle.lx_open.specs.declared.description.Description.{Description}
use Rattle.lx_open.specs.declared.fd_table.FdTable.{FdTable}
use Rattle.lx_open.specs.Opens.{opened, no_fds}
use Rattle.lx_proc.specs.declared.state.Entry.{Entry}
use Rattle.lx_proc.specs.declared.state.Shared.{Shared}
use Rattle.lx_proc.specs.declared.state.UserState.{UserState}
use Rattle.lx_proc.specs.declared.state.Life.TheVariants.{Alive}
use Rattle.lx_proc.specs.State.{limits_of}
use Rattle.lx_exec.specs.Programs.{booted}
use Rattle.lx_files.specs.Boots.{tree_of}

-- process 1 has no parent, is in the root, and nothing is pending
abbrev pub first_entry : Entry
first_entry = record { life = Alive; news = None; parent = 0; directory = []; signals = no_signals }

abbrev pub first_entries : FinMap nat_cmp Entry
first_entries = maps.insert maps.empty 1 first_entry

-- what is read, and what is written
abbrev pub reads : Object → Description
reads object = record { object = object; offset = 0; may_read = true; may_write = false; appends = false }

abbrev pub writes : Object → Description
writes object = record { object = object; offset = 0; may_read = false; may_write = true; appends = true }

-- descriptor 0 is the input, 1 and 2 are the console
unfoldable pub first_fds : FdTable
first_fds =
    opened (opened (opened no_fds 1 0 (reads Input) false) 1 1 (writes Console) false) 1 2 (writes Console) false

abbrev pub first_shared : Limits → List GuestFile → List ℕ → Shared
first_shared limits files input = record {
  limits = limits_of limits;
  tree = tree_of files;
  fds = first_fds;
  input = input;
  console = [];
  entries = first_entries;
  ended = maps.empty;
}

abbrev pub first_tasks : List (List ℕ) → List (List ℕ) → FinMap nat_cmp (Task UserState)
first_tasks argv env = maps.insert maps.empty 1 (task.Alive (booted argv env) Born)
