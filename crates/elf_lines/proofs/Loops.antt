-- What loops have still to do, one step at a time: where a count isn't used up, it is one more than what is left of it.
use Rattle.std.proofs.Common.{◌≡◌, ℕ, zero, suc, ◌+◌, ◌-◌, ◌<◌, ◌≤◌, List, [], ◌∷◌, ◌++◌, length, drop, Bool, true, false, Option, Some, None, refl, sym, ap, ◌∙◌, append_assoc, arith}
use Rattle.std.proofs.lemmas.List.{append-nil}
use Rattle.std.specs.Prelude.{option_to_list}
use Rattle.elf_lines.specs.declared.fields.Header.{Header}
use Rattle.elf_lines.specs.declared.programs.Registers.{Registers}
use Rattle.elf_lines.specs.declared.programs.Appended.{Appended}
use Rattle.elf_lines.specs.declared.rows.Row.{Row}
use Rattle.elf_lines.specs.Headers.{unit_at}
use Rattle.elf_lines.specs.Programs.{opcode_at, ended, registers_behind, last_behind, rows_of_opcodes}
use Rattle.elf_lines.specs.Files.{Pools, Shape, Place, told, is_end, string_at, format_at, attribute_at, entry_from, entry_at, entry_behind, behind_entries, behind_texts}
use Rattle.elf_lines.specs.Rows.{rows_of_unit, rows_from}

-- ---- opcodes

pub one_opcode : (h : Header) (lengths : List ℕ) (unit count i : ℕ) (r : Registers) (last : Option Registers) (bytes : List ℕ) (now : Registers) (what : Appended) (rest : List ℕ)
    (front total : List Row) → i < count → opcode_at h lengths r bytes ≡ Some (now, what, rest)
    → front ++ rows_of_opcodes h lengths unit (count - i) r last bytes ≡ total
    → (front ++ option_to_list (ended unit last now what)) ++ rows_of_opcodes h lengths unit (count - (i + 1)) (registers_behind h now what) (last_behind last now what) rest ≡ total
unfolding rows_of_opcodes
one_opcode h lengths unit count i r last bytes now what rest front total lt read so_far =
    let k : count - i ≡ suc (count - (i + 1)) = omega arith in
    let here : front ++ rows_of_opcodes h lengths unit (count - i) r last bytes
    ≡ (front ++ option_to_list (ended unit last now what)) ++ rows_of_opcodes h lengths unit (count - (i + 1)) (registers_behind h now what) (last_behind last now what) rest
    = rw (k, read) (sym (append_assoc front (option_to_list (ended unit last now what)) (rows_of_opcodes h lengths unit (count - (i + 1)) (registers_behind h now what) (last_behind last now what) rest))) in
    sym here ∙ so_far

pub bad_opcode : (h : Header) (lengths : List ℕ) (unit count i : ℕ) (r : Registers) (last : Option Registers) (bytes : List ℕ)
    (front total : List Row) → i < count → opcode_at h lengths r bytes ≡ None
    → front ++ rows_of_opcodes h lengths unit (count - i) r last bytes ≡ total → front ≡ total
unfolding rows_of_opcodes
bad_opcode h lengths unit count i r last bytes front total lt read so_far =
    let k : count - i ≡ suc (count - (i + 1)) = omega arith in
    let here : front ++ rows_of_opcodes h lengths unit (count - i) r last bytes ≡ front = rw (k, read) (append-nil front) in
    sym here ∙ so_far

pub no_opcode : (h : Header) (lengths : List ℕ) (unit count i : ℕ) (r : Registers) (last : Option Registers) (bytes : List ℕ)
    (front total : List Row) → count ≤ i
    → front ++ rows_of_opcodes h lengths unit (count - i) r last bytes ≡ total → front ≡ total
unfolding rows_of_opcodes
no_opcode h lengths unit count i r last bytes front total le so_far =
    let k : count - i ≡ 0 = omega arith in
    let here : front ++ rows_of_opcodes h lengths unit (count - i) r last bytes ≡ front = rw k (append-nil front) in
    sym here ∙ so_far

-- ---- units

pub one_unit : (all count i : ℕ) (bytes : List ℕ) (wide : Bool) (content rest : List ℕ) (front total : List Row) → i < count → unit_at bytes ≡ Some (wide, content, rest)
    → front ++ rows_from all (count - i) bytes ≡ total
    → (front ++ rows_of_unit wide (all - length bytes) content) ++ rows_from all (count - (i + 1)) rest ≡ total
unfolding rows_from
one_unit all count i bytes wide content rest front total lt read so_far =
    let k : count - i ≡ suc (count - (i + 1)) = omega arith in
    let here : front ++ rows_from all (count - i) bytes ≡ (front ++ rows_of_unit wide (all - length bytes) content) ++ rows_from all (count - (i + 1)) rest
    = rw (k, read) (sym (append_assoc front (rows_of_unit wide (all - length bytes) content) (rows_from all (count - (i + 1)) rest))) in
    sym here ∙ so_far

pub bad_unit : (all count i : ℕ) (bytes : List ℕ) (front total : List Row) → i < count → unit_at bytes ≡ None
    → front ++ rows_from all (count - i) bytes ≡ total → front ≡ total
unfolding rows_from
bad_unit all count i bytes front total lt read so_far =
    let k : count - i ≡ suc (count - (i + 1)) = omega arith in
    let here : front ++ rows_from all (count - i) bytes ≡ front = rw (k, read) (append-nil front) in
    sym here ∙ so_far

pub no_unit : (all count i : ℕ) (bytes : List ℕ) (front total : List Row) → count ≤ i
    → front ++ rows_from all (count - i) bytes ≡ total → front ≡ total
unfolding rows_from
no_unit all count i bytes front total le so_far =
    let k : count - i ≡ 0 = omega arith in
    let here : front ++ rows_from all (count - i) bytes ≡ front = rw k (append-nil front) in
    sym here ∙ so_far

-- ---- attributes

pub one_attribute : (s : Pools) (count i : ℕ) (formats : List ℕ) (p : Place) (bytes : List ℕ) (kind form : ℕ) (after text : List ℕ) (n : ℕ) (rest : List ℕ)
    (total : Option (Place × List ℕ)) → i < count → format_at formats ≡ Some (kind, form, after) → attribute_at s form bytes ≡ Some (text, n, rest)
    → entry_from s (count - i) formats p bytes ≡ total
    → entry_from s (count - (i + 1)) after (told kind text n p) rest ≡ total
unfolding entry_from
one_attribute s count i formats p bytes kind form after text n rest total lt read attribute so_far =
    let k : count - i ≡ suc (count - (i + 1)) = omega arith in
    let here : entry_from s (count - i) formats p bytes
    ≡ entry_from s (count - (i + 1)) after (told kind text n p) rest = rw (k, read, attribute) refl in
    sym here ∙ so_far

pub bad_format : (s : Pools) (count i : ℕ) (formats : List ℕ) (p : Place) (bytes : List ℕ)
    (total : Option (Place × List ℕ)) → i < count → format_at formats ≡ None
    → entry_from s (count - i) formats p bytes ≡ total → total ≡ None
unfolding entry_from
bad_format s count i formats p bytes total lt read so_far =
    let k : count - i ≡ suc (count - (i + 1)) = omega arith in
    let here : entry_from s (count - i) formats p bytes ≡ None = rw (k, read) refl in
    sym so_far ∙ here

pub bad_attribute : (s : Pools) (count i : ℕ) (formats : List ℕ) (p : Place) (bytes : List ℕ) (kind form : ℕ) (after : List ℕ)
    (total : Option (Place × List ℕ)) → i < count → format_at formats ≡ Some (kind, form, after) → attribute_at s form bytes ≡ None
    → entry_from s (count - i) formats p bytes ≡ total → total ≡ None
unfolding entry_from
bad_attribute s count i formats p bytes kind form after total lt read attribute so_far =
    let k : count - i ≡ suc (count - (i + 1)) = omega arith in
    let here : entry_from s (count - i) formats p bytes ≡ None = rw (k, read, attribute) refl in
    sym so_far ∙ here

pub no_attribute : (s : Pools) (count i : ℕ) (formats : List ℕ) (p : Place) (bytes : List ℕ)
    (total : Option (Place × List ℕ)) → count ≤ i
    → entry_from s (count - i) formats p bytes ≡ total → total ≡ Some (p, bytes)
unfolding entry_from
no_attribute s count i formats p bytes total le so_far =
    let k : count - i ≡ 0 = omega arith in
    let here : entry_from s (count - i) formats p bytes ≡ Some (p, bytes) = rw k refl in
    sym so_far ∙ here

-- ---- entries

pub one_entry : (s : Pools) (f : Shape) (count i : ℕ) (bytes : List ℕ) (p : Place) (rest : List ℕ) (total : Option (List ℕ)) → i < count
    → entry_at s f bytes ≡ Some (p, rest)
    → behind_entries s f (count - i) bytes ≡ total → behind_entries s f (count - (i + 1)) rest ≡ total
unfolding behind_entries
one_entry s f count i bytes p rest total lt read so_far =
    let k : count - i ≡ suc (count - (i + 1)) = omega arith in
    let here : behind_entries s f (count - i) bytes ≡ behind_entries s f (count - (i + 1)) rest = rw (k, read) refl in
    sym here ∙ so_far

pub bad_entry : (s : Pools) (f : Shape) (count i : ℕ) (bytes : List ℕ) (total : Option (List ℕ)) → i < count
    → entry_at s f bytes ≡ None
    → behind_entries s f (count - i) bytes ≡ total → total ≡ None
unfolding behind_entries
bad_entry s f count i bytes total lt read so_far =
    let k : count - i ≡ suc (count - (i + 1)) = omega arith in
    let here : behind_entries s f (count - i) bytes ≡ None = rw (k, read) refl in
    sym so_far ∙ here

pub no_entry : (s : Pools) (f : Shape) (count i : ℕ) (bytes : List ℕ) (total : Option (List ℕ)) → count ≤ i
    → behind_entries s f (count - i) bytes ≡ total → total ≡ Some bytes
unfolding behind_entries
no_entry s f count i bytes total le so_far =
    let k : count - i ≡ 0 = omega arith in
    let here : behind_entries s f (count - i) bytes ≡ Some bytes = rw k refl in
    sym so_far ∙ here

-- ---- the entry behind others

pub past_entry : (counted : Bool) (s : Pools) (f : Shape) (count i : ℕ) (bytes : List ℕ) (p : Place) (rest : List ℕ) (total : Option (Place × List ℕ)) → i < count
    → is_end counted bytes ≡ false → entry_at s f bytes ≡ Some (p, rest)
    → entry_behind counted s f (count - i) bytes ≡ total → entry_behind counted s f (count - (i + 1)) rest ≡ total
unfolding entry_behind
past_entry counted s f count i bytes p rest total lt more read so_far =
    let k : count - i ≡ suc (count - (i + 1)) = omega arith in
    let here : entry_behind counted s f (count - i) bytes ≡ entry_behind counted s f (count - (i + 1)) rest = rw (k, more, read) refl in
    sym here ∙ so_far

pub past_bad : (counted : Bool) (s : Pools) (f : Shape) (count i : ℕ) (bytes : List ℕ) (total : Option (Place × List ℕ)) → i < count
    → is_end counted bytes ≡ false → entry_at s f bytes ≡ None
    → entry_behind counted s f (count - i) bytes ≡ total → total ≡ None
unfolding entry_behind
past_bad counted s f count i bytes total lt more read so_far =
    let k : count - i ≡ suc (count - (i + 1)) = omega arith in
    let here : entry_behind counted s f (count - i) bytes ≡ None = rw (k, more, read) refl in
    sym so_far ∙ here

pub past_end : (counted : Bool) (s : Pools) (f : Shape) (count i : ℕ) (bytes : List ℕ) (total : Option (Place × List ℕ)) → i < count
    → is_end counted bytes ≡ true → entry_behind counted s f (count - i) bytes ≡ total → total ≡ None
unfolding entry_behind
past_end counted s f count i bytes total lt end so_far =
    let k : count - i ≡ suc (count - (i + 1)) = omega arith in
    let here : entry_behind counted s f (count - i) bytes ≡ None = rw (k, end) refl in
    sym so_far ∙ here

pub here_end : (counted : Bool) (s : Pools) (f : Shape) (count i : ℕ) (bytes : List ℕ) (total : Option (Place × List ℕ)) → count ≤ i
    → is_end counted bytes ≡ true → entry_behind counted s f (count - i) bytes ≡ total → total ≡ None
unfolding entry_behind
here_end counted s f count i bytes total le end so_far =
    let k : count - i ≡ 0 = omega arith in
    let here : entry_behind counted s f (count - i) bytes ≡ None = rw (k, end) refl in
    sym so_far ∙ here

pub here_entry : (counted : Bool) (s : Pools) (f : Shape) (count i : ℕ) (bytes : List ℕ) (total : Option (Place × List ℕ)) → count ≤ i
    → is_end counted bytes ≡ false → entry_behind counted s f (count - i) bytes ≡ total → total ≡ entry_at s f bytes
unfolding entry_behind
here_entry counted s f count i bytes total le more so_far =
    let k : count - i ≡ 0 = omega arith in
    let here : entry_behind counted s f (count - i) bytes ≡ entry_at s f bytes = rw (k, more) refl in
    sym so_far ∙ here

-- ---- texts up to an empty one

pub one_text : (count i : ℕ) (bytes p : List ℕ) (d : ℕ) (rest : List ℕ) (total : Option (List ℕ)) → i < count → is_end false bytes ≡ false → string_at bytes ≡ Some (p, d, rest)
    → behind_texts (count - i) bytes ≡ total → behind_texts (count - (i + 1)) rest ≡ total
unfolding behind_texts
one_text count i bytes p d rest total lt more read so_far =
    let k : count - i ≡ suc (count - (i + 1)) = omega arith in
    let here : behind_texts (count - i) bytes ≡ behind_texts (count - (i + 1)) rest = rw (k, more, read) refl in
    sym here ∙ so_far

pub bad_text : (count i : ℕ) (bytes : List ℕ) (total : Option (List ℕ)) → i < count → is_end false bytes ≡ false → string_at bytes ≡ None
    → behind_texts (count - i) bytes ≡ total → total ≡ None
unfolding behind_texts
bad_text count i bytes total lt more read so_far =
    let k : count - i ≡ suc (count - (i + 1)) = omega arith in
    let here : behind_texts (count - i) bytes ≡ None = rw (k, more, read) refl in
    sym so_far ∙ here

pub empty_text : (count i : ℕ) (bytes : List ℕ) (total : Option (List ℕ)) → i < count → is_end false bytes ≡ true
    → behind_texts (count - i) bytes ≡ total → total ≡ Some (drop 1 bytes)
unfolding behind_texts
empty_text count i bytes total lt end so_far =
    let k : count - i ≡ suc (count - (i + 1)) = omega arith in
    let here : behind_texts (count - i) bytes ≡ Some (drop 1 bytes) = rw (k, end) refl in
    sym so_far ∙ here

pub no_text : (count i : ℕ) (bytes : List ℕ) (total : Option (List ℕ)) → count ≤ i → behind_texts (count - i) bytes ≡ total → total ≡ None
unfolding behind_texts
no_text count i bytes total le so_far =
    let k : count - i ≡ 0 = omega arith in
    let here : behind_texts (count - i) bytes ≡ None = rw k refl in
    sym so_far ∙ here
