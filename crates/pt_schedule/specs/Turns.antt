-- Words and events from the next turn on.
use Rattle.std.specs.Prelude.{List, [], ◌∷◌}
use Rattle.lx_abi.specs.declared.schedule.Event.{Event}
use Rattle.lx_abi.specs.declared.schedule.Event.TheVariants.{Turn, Serve}
use Rattle.lx_abi.specs.declared.schedule.Word.{Word}
use Rattle.lx_abi.specs.declared.schedule.Word.TheVariants as word

-- the words from the next turn on
abbrev pub from_turn : List Word → List Word
from_turn [] = []
from_turn (word.Turn p ∷ ws) = word.Turn p ∷ ws
from_turn (word.TurnAlone p ∷ ws) = word.TurnAlone p ∷ ws
from_turn (word.Serve ∷ ws) = from_turn ws
from_turn (word.UntilReturn p ∷ ws) = word.UntilReturn p ∷ ws

-- the events from the next turn on
abbrev pub turns_from : List Event → List Event
turns_from [] = []
turns_from (Turn p ∷ es) = Turn p ∷ es
turns_from (Serve ∷ es) = turns_from es
