-- The end of a process (_exit(2), wait(2)).
use Rattle.std.specs.Prelude.{ℕ, ◌/◌, ◌%◌, ◌==◌, Bool, true, false, nat_lt, fold, Option, Some, None, if◌then◌else◌, refl}
use Rattle.std.specs.List.{filter}
use Rattle.std.specs.FinMap as maps
use Rattle.lx_abi.specs.declared.log.Cause.{Cause}
use Rattle.lx_abi.specs.declared.log.Cause.TheVariants.{Exited, Killed}
use Rattle.lx_abi.specs.declared.signal.Signal.{Signal}
use Rattle.lx_sig.specs.Pending.{action_of}
use Rattle.lx_open.specs.Releases.{all_closed}
use Rattle.lx_proc.specs.declared.state.Life.{Life}
use Rattle.lx_proc.specs.declared.state.Entry.{Entry}
use Rattle.lx_proc.specs.declared.state.Shared.{Shared}
use Rattle.lx_proc.specs.declared.state.Life.TheVariants.{Dying, Zombie}
use Rattle.lx_proc.specs.State.{Entries, changed, with_entries, with_held, with_news}
use Rattle.lx_proc.specs.Sending.{receives}
use Rattle.lx_proc.specs.Families.{is_zombie}

abbrev pub with_life : Entry → Life → Entry
with_life e life = record e { life = life }

-- Entering Dying.

abbrev pub with_word : Shared → ℕ → ℕ → Shared
with_word s p w = record s {
  entries = changed (changed s.entries p (λ e. with_news e None)) p (λ e. with_life e (Dying w));
  ended = maps.insert s.ended p w;
}

-- the descriptors are closed, and the wait word is kept, also when the process leaves the table
abbrev pub dies : Shared → ℕ → ℕ → Shared
dies s p w = with_word (with_held s (all_closed s.tree s.fds p)) p w

-- Leaving Dying.

abbrev pub orphan : Entries → ℕ → Entry → Bool → Entries
orphan entries child e true = maps.remove entries child
orphan entries child e false = maps.insert entries child (record e { parent = 0 })

abbrev pub released_entry : Entries → ℕ → ℕ → Option Entry → Entries
released_entry entries p child None = entries
released_entry entries p child (Some e) = if e.parent == p then orphan entries child e (is_zombie e.life) else entries

-- a child of p gets parent 0, and leaves the table where it is a zombie
unfoldable pub released : ℕ → Entries → ℕ → Entries
released p entries child = released_entry entries p child (maps.get entries child)

-- so does each; pids begin at 1
unfoldable pub orphaned : Entries → ℕ → Entries
orphaned entries p = fold (released p) entries (filter (nat_lt 0) (maps.keys entries))

-- how a parent is told: the low seven bits of a wait word are the signal that ended the process, or 0
abbrev pub cause_of_end : ℕ → ℕ → Cause
cause_of_end p w = if w % 128 == 0 then Exited p (w / 256 % 256) else Killed p (w % 128)

abbrev pub sigchld : Signal
sigchld = record { number = 17; in_range = refl }

-- while SIGCHLD is set to SIG_IGN, 1, no change of a child makes it, and children that end leave the table at once
-- (wait(2), NOTES)
abbrev pub wants_no_news : Entry → Bool
wants_no_news e = (action_of e.signals 17).handler == 1

abbrev pub told_of : Entry → Cause → Entry
told_of parent cause = receives parent sigchld cause

abbrev pub told : Entry → ℕ → ℕ → Entry
told parent p w = told_of parent (cause_of_end p w)

abbrev pub retired_by : Entries → ℕ → ℕ → ℕ → Option Entry → Entries
retired_by entries p w parent None = maps.remove entries p
retired_by entries p w parent (Some e) =
    if wants_no_news e then maps.remove entries p
    else changed (changed entries parent (λ e. told e p w)) p (λ e. with_life e (Zombie w))

-- the process waits for its parent as a zombie, or leaves the table where nobody will wait
abbrev pub retired : Entries → ℕ → ℕ → ℕ → Entries
retired entries p w parent = retired_by entries p w parent (maps.get entries parent)

abbrev pub buried_entry : Entries → ℕ → ℕ → Option Entry → Entries
buried_entry entries p w None = entries
buried_entry entries p w (Some e) = retired (orphaned entries p) p w e.parent

unfoldable pub buried : Shared → ℕ → ℕ → Shared
buried s p w = with_entries s (buried_entry s.entries p w (maps.get s.entries p))
