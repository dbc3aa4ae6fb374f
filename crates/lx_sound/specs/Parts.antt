-- What holds of all that processes share.
use Rattle.std.specs.Prelude.{◌≡◌, ℕ, ◌<◌, Bool, true, false, Option, Some, None, IsSome}
use Rattle.std.specs.FinMap as maps
use Rattle.lx_abi.specs.Limits.{most_fds}
use Rattle.lx_files.specs.Trees.{node_at}
use Rattle.lx_files.specs.declared.tree.Tree.{Tree}
use Rattle.lx_open.specs.Opens.{pair}
use Rattle.lx_open.specs.declared.fd_table.FdTable.{FdTable}
use Rattle.lx_proc.specs.declared.state.Entry.{Entry}
use Rattle.lx_proc.specs.declared.state.Life.{Life}
use Rattle.lx_proc.specs.declared.state.Life.TheVariants.{Alive, Dying, Zombie}
use Rattle.lx_proc.specs.declared.state.Shared.{Shared}
use Rattle.lx_proc.specs.State.{Entries}
use Rattle.lx_sound.specs.Together.{HoldTogether}
use Rattle.lx_sound.specs.Reached.{AreReached}
use Rattle.lx_sound.specs.Rooted.{is_directory, IsRooted}
use Rattle.lx_sound.specs.Within.{AreWithin}
use Rattle.lx_sound.specs.Masks.{AreSignals}

abbrev pub is_alive : Life → Bool
is_alive Alive = true
is_alive (Dying w) = false
is_alive (Zombie w) = false

abbrev pub lives : Option Entry → Bool
lives None = false
lives (Some e) = is_alive e.life

pub record EntrySound (tree : Tree) (e : Entry) : Type 0 where
  -- the working directory is a directory
  pub directory : is_directory (node_at tree e.directory) ≡ true
  pub signals : AreSignals e.signals

abbrev pub EntriesSound : Tree → Entries → Type 0
EntriesSound tree m = (p : ℕ) (e : Entry) → maps.get m p ≡ Some e → EntrySound tree e

-- who has a descriptor lives: who is dying, a zombie or gone has none
abbrev pub AreOwned : FdTable → Entries → Type 0
AreOwned fds m = (p fd : ℕ) → fd < most_fds → IsSome (maps.get fds.slots (pair p fd)) → lives (maps.get m p) ≡ true

pub record PartsSound (s : Shared) : Type 0 where
  pub files : HoldTogether s.tree s.fds
  pub reached : AreReached s.tree s.fds
  pub rooted : IsRooted s.tree
  pub entries : EntriesSound s.tree s.entries
  pub owned : AreOwned s.fds s.entries
  pub within : AreWithin s
