-- What processes share, and what each has to itself.
use Rattle.std.specs.Prelude.{ℕ, Bool, true, false, List, [], Option, Some, None}
use Rattle.std.specs.Option.{option_map, unwrap_or}
use Rattle.std.specs.Ordering.{nat_cmp}
use Rattle.std.specs.FinMap as maps
use Rattle.std.specs.FinMap.{FinMap}
use Rattle.rv_mem.specs.Memory.{Memory}
use Rattle.rv_hart.specs.declared.hart.Hart.{Hart}
use Rattle.lx_abi.specs.declared.boot.Limits.{Limits}
use Rattle.lx_files.specs.declared.tree.Tree.{Tree}
use Rattle.lx_open.specs.declared.fd_table.FdTable.{FdTable}
use Rattle.lx_open.specs.Releases.{Held}
pub use Rattle.lx_sig.specs.declared.state.Signals.{Signals}
pub use Rattle.lx_sig.specs.declared.state.Interrupted.{Interrupted}
pub use Rattle.lx_proc.specs.declared.state.Life.{Life}
pub use Rattle.lx_proc.specs.declared.state.Life.TheVariants.{Alive, Dying, Zombie}
pub use Rattle.lx_proc.specs.declared.state.News.{News}
pub use Rattle.lx_proc.specs.declared.state.Entry.{Entry}
pub use Rattle.lx_proc.specs.declared.state.ProcessLimits.{ProcessLimits}
pub use Rattle.lx_proc.specs.declared.state.Shared.{Shared}
pub use Rattle.lx_proc.specs.declared.state.Heap.{Heap}
pub use Rattle.lx_proc.specs.declared.state.UserState.{UserState}

-- How many processes there may be, by what a boot asks for.

abbrev pub limits_of : Limits → ProcessLimits
limits_of limits = record { live = limits.live; last_pid = limits.last_pid }

-- The table of processes.

abbrev pub Entries : Type 0
Entries = FinMap nat_cmp Entry

abbrev pub changed_entry : Entries → ℕ → (Entry → Entry) → Option Entry → Entries
changed_entry entries p f None = entries
changed_entry entries p f (Some e) = maps.insert entries p (f e)

-- the table with the process's entry changed, where it has one
abbrev pub changed : Entries → ℕ → (Entry → Entry) → Entries
changed entries p f = changed_entry entries p f (maps.get entries p)

abbrev pub with_signals : Entry → Signals → Entry
with_signals e signals = record e { signals = signals }

abbrev pub signals_in : Option Entry → Option Signals
signals_in None = None
signals_in (Some e) = Some e.signals

-- what wait4 is to tell of takes the place of what it hasn't told of
abbrev pub with_news : Entry → Option News → Entry
with_news e news = record e { news = news }

-- What is shared.

abbrev pub with_entries : Shared → Entries → Shared
with_entries s entries = record s { entries = entries }

-- the process has this entry
abbrev pub with_entry : Shared → ℕ → Entry → Shared
with_entry s p e = with_entries s (maps.insert s.entries p e)

abbrev pub with_tree : Shared → Tree → Shared
with_tree s tree = record s { tree = tree }

abbrev pub with_fds : Shared → FdTable → Shared
with_fds s fds = record s { fds = fds }

abbrev pub with_held : Shared → Held → Shared
with_held s h = record s { tree = h.tree; fds = h.fds }

-- the process's signals are these, where it has an entry
abbrev pub with_signals_at : Shared → ℕ → Signals → Shared
with_signals_at s p signals = with_entries s (changed s.entries p (λ e. with_signals e signals))

-- the working directory; a process without an entry is in the root
abbrev pub directory : Shared → ℕ → List ℕ
directory s p = unwrap_or (option_map (λ e. e.directory) (maps.get s.entries p)) []

-- What a process has to itself.

abbrev pub with_memory : UserState → Memory → UserState
with_memory b m = record b { memory = m }

abbrev pub with_hart : UserState → Hart → UserState
with_hart b h = record b { hart = h }
