-- A journal with one note more.
use Rattle.std.proofs.Common.{◌≡◌, List, [], ◌∷◌, ◌++◌, refl, sym, ap, ◌∙◌, append_assoc, append-nil}
use Rattle.pt_journal.specs.declared.entry.Entry.{Entry}
use Rattle.pt_journal.specs.declared.note.Note.{Note}
use Rattle.pt_journal.specs.Notes.{entries_of, noted_by}

pub noted_more : (xs : List Note) (x : Note) → entries_of (xs ++ x ∷ []) ≡ entries_of xs ++ noted_by x
noted_more [] x = append-nil (noted_by x)
noted_more (y ∷ ys) x = ap (λ (l : List Entry). noted_by y ++ l) (noted_more ys x) ∙ sym (append_assoc (noted_by y) (entries_of ys) (noted_by x))
