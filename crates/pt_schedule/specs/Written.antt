-- Words as a text, and events as words.
use Rattle.std.specs.Prelude.{◌≡◌, ℕ, ◌+◌, ◌^◌, ◌<◌, ◌≤◌, true, false, List, [], ◌∷◌, ◌++◌, length, map, replicate, codes, decimal, Some}
use Rattle.std.specs.List.{AllByRecursion as Each}
use Rattle.lx_abi.specs.Words.{words_of}
use Rattle.lx_abi.specs.declared.schedule.Event.{Event}
use Rattle.lx_abi.specs.declared.schedule.Event.TheVariants.{Turn, Serve}
use Rattle.lx_abi.specs.declared.schedule.Word.{Word}
use Rattle.lx_abi.specs.declared.schedule.Word.TheVariants as word
use Rattle.pt_schedule.specs.Said.{given_along}
use Rattle.pt_schedule.specs.Schedules.{Readiness, most_events, worded}

-- a word as a text has it
abbrev pub word_text : Word → List ℕ
word_text (word.Turn p) = decimal p
word_text (word.TurnAlone p) = codes "-" ++ decimal p
word_text word.Serve = codes "s"
word_text (word.UntilReturn p) = decimal p ++ codes "."

-- words a line each
abbrev pub words_text : List Word → List ℕ
words_text [] = []
words_text (w ∷ ws) = word_text w ++ (codes "\n" ++ words_text ws)

-- a process's number is one that code has
abbrev pub IsNumbered : Word → Type 0
IsNumbered (word.Turn p) = p < 2 ^ 32
IsNumbered (word.TurnAlone p) = p < 2 ^ 32
IsNumbered word.Serve = Unit {0}
IsNumbered (word.UntilReturn p) = p < 2 ^ 32

-- what is written is read as these words
abbrev pub WordsReadBack : Type 0
WordsReadBack = (ws : List Word) → Each IsNumbered ws → words_of (words_text ws) ≡ Some ws

-- the word that gives an event alone
abbrev pub event_word : Event → Word
event_word (Turn p) = word.TurnAlone p
event_word Serve = word.Serve

-- no request is ready before the first of these events
abbrev pub BeginsUnready : List Readiness → Type 0
BeginsUnready [] = Unit {0}
BeginsUnready (seen ∷ more) = seen.ready ≡ false

-- A schedule serves the requests that are ready before its first word; from there on the words of events give these
-- events, whatever is seen.
abbrev pub EventsAreGiven : Type 0
EventsAreGiven = (events : List Event) (limit : ℕ) (first sights : List Readiness)
    → Each (λ seen. seen.ready ≡ true) first → BeginsUnready sights → length sights ≡ length events
    → length first + length events ≤ limit → length first + length events ≤ most_events
    → given_along (worded (map event_word events) limit) (first ++ sights)
    ≡ replicate (length first) Serve ++ events
