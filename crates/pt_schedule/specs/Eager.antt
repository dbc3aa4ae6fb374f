-- Words `p` and `p.`, and the default schedule: requests are served at once, before any other turn.
use Rattle.std.specs.Prelude.{◌≡◌, ℕ, ◌≤◌, ◌<◌, Bool, true, false, ◌&&◌, List, [], ◌∷◌, length, map, Some}
use Rattle.lx_abi.specs.declared.schedule.Event.{Event}
use Rattle.lx_abi.specs.declared.schedule.Event.TheVariants.{Turn}
use Rattle.lx_abi.specs.declared.schedule.Word.{Word}
use Rattle.lx_abi.specs.declared.schedule.Word.TheVariants as word
use Rattle.lx_kernel.specs.Laws.{after_all}
use Rattle.lx_kernel.specs.Runs.{Run, after_turn}
use Rattle.pt_schedule.specs.declared.schedule.Schedule.{Schedule}
use Rattle.pt_schedule.specs.declared.worded.Worded.{Worded}
use Rattle.pt_schedule.specs.Schedules.{Readiness, Given, serve_of, next_worded, most_events, worded, next_turn_of}
use Rattle.pt_schedule.specs.Untraced.{readiness_of}

-- a word after whose turns requests are served while one is ready
abbrev pub is_eager : Word → Bool
is_eager (word.Turn p) = true
is_eager (word.TurnAlone p) = false
is_eager word.Serve = false
is_eager (word.UntilReturn p) = true

abbrev pub are_eager : List Word → Bool
are_eager [] = true
are_eager (w ∷ ws) = is_eager w && are_eager ws

-- a schedule of such words, at any moment
pub record IsEager (w : Worded) : Type 0 where
  pub serving : w.serving ≡ true
  pub words : are_eager w.words ≡ true

-- it gives a turn, or has ended, and stays such a schedule
pub record GivesTurn (g : Given Worded) : Type 0 where
  pub turns : (e : Event) → g.event ≡ Some e → (p : ℕ) × (e ≡ Turn p)
  pub eager : IsEager g.schedule

-- The law: it serves a request that is ready, and nothing else comes before; where none is ready it gives turns alone.
pub record ServesFirst (w : Worded) (seen : Readiness) : Type 0 where
  pub serves : seen.ready ≡ true → next_worded w seen ≡ serve_of w
  pub turns : seen.ready ≡ false → GivesTurn (next_worded w seen)

abbrev pub EagerWordsServeFirst : Type 0
EagerWordsServeFirst = (w : Worded) (seen : Readiness) → IsEager w → 0 < w.left → ServesFirst w seen

-- a schedule gives a kernel without a tracer these turns, one after the other; the kernel and the schedule after them
abbrev pub GivesTurns : Run → Schedule → List ℕ → Run → Schedule → Type 0
GivesTurns k s [] z t = (z ≡ k) × (t ≡ s)
GivesTurns k s (p ∷ ps) z t =
    ((next_turn_of s (readiness_of k)).pid ≡ Some p)
    × GivesTurns (after_turn k p) (next_turn_of s (readiness_of k)).schedule ps z t

-- The law: a word `p` for each of these turns gives them to every kernel.

abbrev pub turn_words : List ℕ → List Word
turn_words turns = map (λ p. word.Turn p) turns

unfoldable pub TurnsGiveThemselves : Type 0
TurnsGiveThemselves = (k : Run) (turns : List ℕ) (n : ℕ) → length turns ≤ n → n ≤ most_events
    → (left : Schedule) × GivesTurns k (worded (turn_words turns) n) turns (after_all k turns) left
