-- The table of processes, changed at one.
use Rattle.std.proofs.Common.{◌≡◌, ℕ, Some, ap, sym, ◌∙◌}
use Rattle.std.specs.FinMap as maps
use Rattle.lx_proc.specs.State.{Entry, Entries, changed, changed_entry}

-- an entry that was there, and what was written through its borrow
pub changed_by : (entries : Entries) (p : ℕ) (f : Entry → Entry) (e : Entry) → Some e ≡ maps.get entries p → changed entries p f ≡ maps.insert entries p (f e)
changed_by entries p f e is = ap (changed_entry entries p f) (sym is)

-- two changes that are the same of the entry that is there
pub changed_alike : (entries : Entries) (p : ℕ) (f g : Entry → Entry) (e : Entry) → Some e ≡ maps.get entries p → f e ≡ g e → changed entries p f ≡ changed entries p g
changed_alike entries p f g e is same = changed_by entries p f e is ∙ ap (maps.insert entries p) same ∙ sym (changed_by entries p g e is)
