-- Group stops (signal(7)), and what a parent is told of them (wait(2), WUNTRACED and WCONTINUED).
use Rattle.std.specs.Prelude.{ℕ, Bool, false, Option, Some, None, if◌then◌else◌}
use Rattle.std.specs.FinMap as maps
use Rattle.lx_abi.specs.declared.log.Cause.{Cause}
use Rattle.lx_abi.specs.declared.log.Cause.TheVariants as cause
use Rattle.lx_abi.specs.declared.signal.Signal.{Signal}
use Rattle.lx_sig.specs.Pending.{settled, is_continued}
use Rattle.lx_proc.specs.declared.state.Entry.{Entry}
use Rattle.lx_proc.specs.declared.state.News.TheVariants as news
use Rattle.lx_proc.specs.declared.state.Shared.{Shared}
use Rattle.lx_proc.specs.State.{Entries, changed, with_entries, with_news, with_signals}
use Rattle.lx_pcalls.specs.Ends.{wants_no_news, told_of}

-- a parent is told of a child that lives on, unless SIGCHLD is set to be ignored
abbrev pub heard_by : Entries → ℕ → Cause → Option Entry → Entries
heard_by entries parent c None = entries
heard_by entries parent c (Some e) = if wants_no_news e then entries else changed entries parent (λ e. told_of e c)

abbrev pub heard : Entries → ℕ → Cause → Entries
heard entries parent c = heard_by entries parent c (maps.get entries parent)

-- a stop, and a waking, take the place of what wait4 has not told of
abbrev pub stop_entry : Entries → ℕ → Signal → Option Entry → Entries
stop_entry entries p signal None = entries
stop_entry entries p signal (Some e) =
    heard (changed entries p (λ e. with_news e (Some (news.Stopped signal)))) e.parent (cause.Stopped p signal.number)

-- a process is stopped by the signal
unfoldable pub stopped : Shared → ℕ → Signal → Shared
stopped s p signal = with_entries s (stop_entry s.entries p signal (maps.get s.entries p))

abbrev pub settled_at : Entries → ℕ → Entries
settled_at entries p = changed entries p (λ e. with_signals e (settled e.signals))

-- a process leaves the signal that it took, or its group stop
abbrev pub settles : Shared → ℕ → Shared
settles s p = with_entries s (settled_at s.entries p)

abbrev pub wake_entry : Entries → ℕ → Option Entry → Entries
wake_entry entries p None = entries
wake_entry entries p (Some e) =
    heard (changed (settled_at entries p) p (λ e. with_news e (Some news.Continued))) e.parent (cause.Continued p)

-- a stopped process is woken
unfoldable pub woken : Shared → ℕ → Shared
woken s p = with_entries s (wake_entry s.entries p (maps.get s.entries p))

abbrev pub is_continued_at : Option Entry → Bool
is_continued_at None = false
is_continued_at (Some e) = is_continued e.signals
