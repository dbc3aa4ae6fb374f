-- A journal by what is noted.
use Rattle.std.specs.Prelude.{ℕ, List, [], ◌∷◌, ◌++◌, Some, None, map}
use Rattle.lx_abi.specs.declared.schedule.Event.TheVariants.{Turn, Serve}
use Rattle.pt_journal.specs.declared.entry.Entry.{Entry}
use Rattle.pt_journal.specs.declared.entry.Entry.TheVariants.{Ask, Did}
use Rattle.pt_journal.specs.declared.note.Note.{Note}
use Rattle.pt_journal.specs.declared.note.Note.TheVariants.{Asked, Served, Turned}

abbrev pub noted_by : Note → List Entry
noted_by (Asked requests) = map (λ q. Ask q) requests.items
noted_by (Served replies) = map (λ r. Did Serve (Some r)) replies.items
noted_by (Turned pid) = Did (Turn pid) None ∷ []

abbrev pub entries_of : List Note → List Entry
entries_of [] = []
entries_of (x ∷ xs) = noted_by x ++ entries_of xs
