-- The book of a record that was opened.
use Rattle.logbook.specs.Pages.{Book}
use Rattle.transcript.specs.declared.record.Opened.{Opened}

abbrev pub book_of : Opened → Book
book_of o = o.seen.book
