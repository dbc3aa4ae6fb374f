-- What is noted of a journal.
use Rattle.std.specs.Prelude.{Bool, cond, List, Option, None, Some}
use Rattle.lx_abi.specs.declared.schedule.Event.{Event}
use Rattle.pt_journal.specs.Journals.{events_of}
use Rattle.pt_journal.specs.declared.entry.Entry.{Entry}

-- its events, where they are asked for
abbrev pub noted_of : Bool → List Entry → Option (List Event)
noted_of notes entries = cond notes (Some (events_of entries)) None
