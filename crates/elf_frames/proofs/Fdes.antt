-- Entries one after the other.
use Rattle.std.proofs.Common.{ℕ, zero, suc, ◌≡◌, ◌∙◌, List, [], ◌++◌, Option, Some, None, refl, sym, append_assoc}
use Rattle.std.specs.Prelude.{option_to_list}
use Rattle.std.proofs.lemmas.List.{append-nil}
use Rattle.elf_frames.specs.declared.tables.Table.{Table}
use Rattle.elf_frames.specs.declared.entries.Entry.{Entry}
use Rattle.elf_frames.specs.declared.entries.Fde.{Fde}
use Rattle.elf_frames.specs.Entries.{entry_at, fde_in, fdes_from}

none_left : (t : Table) (bytes : List ℕ) (n : ℕ) → fdes_from n t bytes None ≡ []
unfolding fdes_from
none_left t bytes zero = refl
none_left t bytes (suc n) = refl

pub no_entry : (t : Table) (bytes : List ℕ) (n : ℕ) (front total : List Fde) (next : Option Entry) → next ≡ None
    → front ++ fdes_from n t bytes next ≡ total → front ≡ total
no_entry t bytes n front total next none so_far =
    let here : front ++ fdes_from n t bytes next ≡ front = rw (none, none_left t bytes n) (append-nil front) in
    sym here ∙ so_far

pub one_entry : (t : Table) (bytes : List ℕ) (n m : ℕ) (front new total : List Fde) (next after : Option Entry) (e : Entry) → n ≡ suc m → next ≡ Some e
    → after ≡ entry_at bytes e.end → new ≡ front ++ option_to_list (fde_in t bytes e)
    → front ++ fdes_from n t bytes next ≡ total → new ++ fdes_from m t bytes after ≡ total
unfolding fdes_from
one_entry t bytes n m front new total next after e k some is pushed so_far =
    let here : front ++ fdes_from n t bytes next ≡ front ++ (option_to_list (fde_in t bytes e) ++ fdes_from m t bytes (entry_at bytes e.end)) = rw (some, k) refl in
    let there : new ++ fdes_from m t bytes after ≡ (front ++ option_to_list (fde_in t bytes e)) ++ fdes_from m t bytes (entry_at bytes e.end) = rw (is, pushed) refl in
    there ∙ append_assoc front (option_to_list (fde_in t bytes e)) (fdes_from m t bytes (entry_at bytes e.end)) ∙ sym here ∙ so_far

pub all_entries : (t : Table) (bytes : List ℕ) (n : ℕ) (front total : List Fde) (next : Option Entry) → n ≡ 0
    → front ++ fdes_from n t bytes next ≡ total → front ≡ total
unfolding fdes_from
all_entries t bytes n front total next none so_far =
    let here : front ++ fdes_from n t bytes next ≡ front = rw none (append-nil front) in
    sym here ∙ so_far
