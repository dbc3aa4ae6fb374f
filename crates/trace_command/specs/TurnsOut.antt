-- The events of a run as the words of a schedule that gives them. Such a schedule serves the first requests, three at
-- most, before its first word.
use Rattle.std.specs.Prelude.{ℕ, ◌-◌, Bool, false, nat_lt, cond, List, [], ◌∷◌, ◌++◌, map, Option}
use Rattle.std.specs.Io.KnownBytes.{Appends}
use Rattle.std.specs.List.{AllByRecursion as Each}
use Rattle.front_end.specs.Streams.{IsOpenedFor, stream_of}
use Rattle.front_end.specs.declared.streams.Opened.{Opened}
use Rattle.lx_abi.specs.declared.schedule.Event.{Event}
use Rattle.lx_abi.specs.declared.schedule.Event.TheVariants.{Turn, Serve}
use Rattle.pt_schedule.specs.Written.{IsNumbered, event_word, words_text}

-- the event is one of those, as long as so many are left
abbrev pub is_first : ℕ → Event → Bool
is_first left (Turn p) = false
is_first left Serve = nat_lt 0 left

abbrev pub left_after : ℕ → Event → ℕ
left_after left x = cond (is_first left x) (left - 1) 0

abbrev pub kept : ℕ → Event → List Event
kept left x = cond (is_first left x) [] (x ∷ [])

-- the events behind those
abbrev pub behind : ℕ → List Event → List Event
behind left [] = []
behind left (x ∷ xs) = kept left x ++ behind (left_after left x) xs

abbrev pub left_behind : ℕ → List Event → ℕ
left_behind left [] = left
left_behind left (x ∷ xs) = left_behind (left_after left x) xs

-- their words, a line each
abbrev pub text_behind : ℕ → List Event → List ℕ
text_behind left events = words_text (map event_word (behind left events))

abbrev pub turns_text : List Event → List ℕ
turns_text events = text_behind 3 events

-- each process has a number that code has
abbrev pub AreNumbered : List Event → Type 0
AreNumbered events = Each (λ e. IsNumbered (event_word e)) events

-- A file that was opened for this path is written these words, and nothing else. It takes the place of an older one when
-- it is whole.
abbrev pub WritesTurns : {F : Type 0} → (Opened F → Option (List ℕ)) → List ℕ → List Event → Type 0
WritesTurns {F} held path events =
    (old : Opened F)
    × ((new : Opened F)
    × (IsOpenedFor (stream_of path) old × (Appends (held old) (held new) (turns_text events) × AreNumbered events)))
