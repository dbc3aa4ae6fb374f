use Rattle.std.proofs.Common.{List, ◌++◌, ap, ◌∙◌}
use Rattle.pt_journal.specs.declared.entry.Entry.{Entry}
use Rattle.pt_journal.specs.Notes.{entries_of, noted_by}
use Rattle.pt_journal.proofs.Noting.{noted_more}
use Rattle.pt_journal.proofs.journal.Journal.note.Goals as goal

pub returns : goal.returns
returns c =
    ap entries_of c.and-self-inside.ensures ∙ noted_more c.self.inside.notes.items c.args.note ∙ ap (λ (l : List Entry). l ++ noted_by c.args.note) c.self.view_is
