-- A list that begins with a turn, or is empty, begins at its next turn.
use Rattle.std.proofs.Common.{◌≡◌, ℕ, List, [], ◌∷◌, Option, Some, None, refl}
use Rattle.std.specs.List.{slice_get}
use Rattle.lx_abi.specs.declared.schedule.Event.{Event}
use Rattle.lx_abi.specs.declared.schedule.Event.TheVariants.{Turn, Serve}
use Rattle.lx_abi.specs.declared.schedule.Word.{Word}
use Rattle.lx_abi.specs.declared.schedule.Word.TheVariants as word
use Rattle.pt_schedule.specs.Turns.{from_turn, turns_from}

pub no_event : (es : List Event) → slice_get es 0 ≡ None → es ≡ turns_from es
no_event [] h = refl
no_event (e ∷ es) h = absurd (cc h)

pub turn_event : (es : List Event) (p : ℕ) → slice_get es 0 ≡ Some (Turn p) → es ≡ turns_from es
turn_event [] p h = absurd (cc h)
turn_event (Turn q ∷ es) p h = refl
turn_event (Serve ∷ es) p h = absurd (cc h)

pub no_word : (ws : List Word) → slice_get ws 0 ≡ None → ws ≡ from_turn ws
no_word [] h = refl
no_word (w ∷ ws) h = absurd (cc h)

pub turn_word : (ws : List Word) (p : ℕ) → slice_get ws 0 ≡ Some (word.Turn p) → ws ≡ from_turn ws
turn_word [] p h = absurd (cc h)
turn_word (word.Turn q ∷ ws) p h = refl
turn_word (word.TurnAlone q ∷ ws) p h = refl
turn_word (word.Serve ∷ ws) p h = absurd (cc h)
turn_word (word.UntilReturn q ∷ ws) p h = refl

pub alone_word : (ws : List Word) (p : ℕ) → slice_get ws 0 ≡ Some (word.TurnAlone p) → ws ≡ from_turn ws
alone_word [] p h = absurd (cc h)
alone_word (word.Turn q ∷ ws) p h = refl
alone_word (word.TurnAlone q ∷ ws) p h = refl
alone_word (word.Serve ∷ ws) p h = absurd (cc h)
alone_word (word.UntilReturn q ∷ ws) p h = refl

pub return_word : (ws : List Word) (p : ℕ) → slice_get ws 0 ≡ Some (word.UntilReturn p) → ws ≡ from_turn ws
return_word [] p h = absurd (cc h)
return_word (word.Turn q ∷ ws) p h = refl
return_word (word.TurnAlone q ∷ ws) p h = refl
return_word (word.Serve ∷ ws) p h = absurd (cc h)
return_word (word.UntilReturn q ∷ ws) p h = refl
