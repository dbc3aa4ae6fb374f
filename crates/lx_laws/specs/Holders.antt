-- Who leads to what is open: nothing stays that nobody can use (close(2), pipe(7), unlink(2)).
use Rattle.std.specs.Prelude.{◌≡◌, ℕ, ◌⊎◌, true, List, Some}
use Rattle.std.specs.FinMap as maps
use Rattle.lx_abi.specs.declared.outcome.Node.{Node}
use Rattle.lx_files.specs.Paths.{Path}
use Rattle.lx_model.specs.declared.stage.Task.{Task}
use Rattle.lx_open.specs.Opens.{slot}
use Rattle.lx_open.specs.declared.description.Description.{Description}
use Rattle.lx_open.specs.declared.description.Object.{Object}
use Rattle.lx_open.specs.declared.description.Object.TheVariants.{ReadEnd, WriteEnd, Opened}
use Rattle.lx_open.specs.declared.description.Slot.{Slot}
use Rattle.lx_open.specs.declared.fd_table.FdTable.{FdTable}
use Rattle.lx_proc.specs.declared.state.Shared.{Shared}
use Rattle.lx_proc.specs.declared.state.UserState.{UserState}
use Rattle.lx_sound.specs.Parts.{lives}
use Rattle.lx_sound.specs.Sound.{Sound}

-- a descriptor of a process that lives names the description
abbrev pub HasHolder : Shared → ℕ → Type 0
HasHolder s n =
    (p : ℕ) × (fd : ℕ) × (named : Slot)
    × (slot s.fds p fd ≡ Some named) × (named.description ≡ n) × (lives (maps.get s.entries p) ≡ true)

-- a description is of this
abbrev pub IsOpen : FdTable → Object → Type 0
IsOpen fds object = (n : ℕ) × (d : Description) × (maps.get fds.descriptions n ≡ Some d) × (d.object ≡ object)

pub record AllHaveHolders (s : Shared) : Type 0 where
  pub descriptions : (n : ℕ) (d : Description) → maps.get s.fds.descriptions n ≡ Some d → HasHolder s n
  -- an end of each pipe is open
  pub pipes : (n : ℕ) (bytes : List ℕ) → maps.get s.fds.pipes n ≡ Some bytes →
      IsOpen s.fds (ReadEnd n) ⊎ IsOpen s.fds (WriteEnd n)
  -- each file and directory has a path, or is open
  pub nodes : (n : ℕ) (x : Node) → maps.get s.tree.nodes n ≡ Some x →
      ((path : Path) × (maps.get s.tree.names path ≡ Some n)) ⊎ IsOpen s.fds (Opened n)

-- so it is in every state that is sound, of the untraced kernel and of the ptrace machine
abbrev pub NothingIsLeftOpen : Type 0
NothingIsLeftOpen = (s : Shared) (tasks : ℕ → Task UserState) (child : ℕ) → Sound s tasks child → AllHaveHolders s
