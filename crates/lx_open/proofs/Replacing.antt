-- A descriptor is put in the place of another before what that named is released.
use Rattle.std.proofs.Common.{◌≡◌, ℕ, ◌+◌, ◌<◌, Bool, true, false, cond, Option, Some, None, refl, ap, sym, subst, ◌∙◌, arith}
use Rattle.std.proofs.lemmas.Bool.Decides.{nat_tests}
use Rattle.std.specs.Prelude.{◌==◌, ◌||◌, nat_lt}
use Rattle.std.specs.Ordering.{nat_cmp, eq_by_cmp}
use Rattle.std.specs.Cmp.{nat_cmp_total}
use Rattle.std.specs.FinMap as maps
use Rattle.lx_abi.specs.Limits.{most_fds}
use Rattle.lx_files.specs.declared.tree.Tree.{Tree}
use Rattle.lx_files.specs.Tallies.{how_many, holds, one_if, weight}
use Rattle.lx_files.proofs.Totals.{total-insert, total-remove, insert-remove, get-removed}
use Rattle.lx_open.specs.Kinds.{Slot, SlotMap, Description, Object, Input, Console, ReadEnd, WriteEnd, Opened, names_description}
use Rattle.lx_open.specs.Opens.{FdTable, pair, slot, with_slot, is_named, has_readers, has_writers}
use Rattle.lx_open.specs.Releases.{Held, pipe_released, object_released, description_dropped, description_released, slot_closed, closed, renamed, replaced, IsNamedBeside}

abbrev with_slots : FdTable → SlotMap → FdTable
with_slots fds slots = record fds { slots = slots }

abbrev swapped : Held → SlotMap → Held
swapped h slots = record h { fds = with_slots h.fds slots }

-- What a release of a description leaves, whatever the slots.

module _ (slots : SlotMap) where
  pipe_swapped : (fds : FdTable) (pipe : ℕ) → with_slots (pipe_released fds pipe) slots ≡ pipe_released (with_slots fds slots) pipe
  pipe_swapped fds pipe = go (has_readers fds pipe || has_writers fds pipe)
    where
      go : (b : Bool) → with_slots (cond b fds (record fds { pipes = maps.remove fds.pipes pipe })) slots ≡ cond b (with_slots fds slots) (record (with_slots fds slots) { pipes = maps.remove fds.pipes pipe })
      go true = refl
      go false = refl

  object_swapped : (tree : Tree) (fds : FdTable) (object : Object) → swapped (object_released tree fds object) slots ≡ object_released tree (with_slots fds slots) object
  object_swapped tree fds Input = refl
  object_swapped tree fds Console = refl
  object_swapped tree fds (ReadEnd pipe) = ap (λ (t : FdTable). record { tree = tree; fds = t }) (pipe_swapped fds pipe)
  object_swapped tree fds (WriteEnd pipe) = ap (λ (t : FdTable). record { tree = tree; fds = t }) (pipe_swapped fds pipe)
  object_swapped tree fds (Opened node) = refl

  dropped_swapped : (tree : Tree) (fds : FdTable) (n : ℕ) (o : Option Description) → swapped (description_dropped tree fds n o) slots ≡ description_dropped tree (with_slots fds slots) n o
  dropped_swapped tree fds n None = refl
  dropped_swapped tree fds n (Some d) = object_swapped tree (record fds { descriptions = maps.remove fds.descriptions n }) d.object

  released_swapped : (tree : Tree) (fds : FdTable) (n : ℕ) → holds (names_description n) slots ≡ is_named fds n
      → description_released tree (with_slots fds slots) n ≡ swapped (description_released tree fds n) slots
  unfolding description_released
  released_swapped tree fds n e = go (is_named fds n) (holds (names_description n) slots) e
    where
      go : (b d : Bool) → d ≡ b
          → cond d (record { tree = tree; fds = with_slots fds slots }) (description_dropped tree (with_slots fds slots) n (maps.get fds.descriptions n))
          ≡ swapped (cond b (record { tree = tree; fds = fds }) (description_dropped tree fds n (maps.get fds.descriptions n))) slots
      go true true e = refl
      go false false e = sym (dropped_swapped tree fds n (maps.get fds.descriptions n))
      go true false e = absurd (cc e)
      go false true e = absurd (cc e)

-- Which descriptions are named.

some_one : (n : ℕ) → 0 < n → nat_lt 0 n ≡ true
some_one n h = grind (arith, nat_tests)

named_alike : (slots : SlotMap) (k n : ℕ) (s : Slot) → holds (names_description s.description) (maps.remove slots k) ≡ true
    → holds (names_description n) (maps.insert slots k s) ≡ holds (names_description n) (maps.remove slots k)
named_alike slots k n s beside = go (s.description == n) refl
  where
    put : how_many (names_description n) (maps.insert slots k s) + 0 ≡ how_many (names_description n) (maps.remove slots k) + one_if (names_description n s)
    put =
        let sum = total-insert nat_cmp_total (λ x. one_if (names_description n x)) (maps.remove slots k) k s in
        let none = ap (weight (λ x. one_if (names_description n x))) (get-removed nat_cmp_total maps.nat_cmp-IsAntisymmetric (λ x. 0) slots k) in
        let same = ap (how_many (names_description n)) (insert-remove nat_cmp_total maps.nat_cmp-IsAntisymmetric (λ x. 0) slots k s) in
        omega (arith, sum, none, same)

    go : (b : Bool) → (s.description == n) ≡ b → holds (names_description n) (maps.insert slots k s) ≡ holds (names_description n) (maps.remove slots k)
    go true e =
        let is : s.description ≡ n = grind (arith, nat_tests, e) in
        let one = ap one_if e in
        some_one _ (omega (arith, put, one)) ∙ sym (subst (λ m. holds (names_description m) (maps.remove slots k) ≡ true) is beside)
    go false e =
        let none = ap one_if e in
        ap (nat_lt 0) (omega (arith, put, none))

-- Replaced.

slot_small : (fds : FdTable) (pid fd : ℕ) → fd < most_fds → slot fds pid fd ≡ maps.get fds.slots (pair pid fd)
slot_small fds pid fd lt = let small : nat_lt fd most_fds ≡ true = grind (arith, nat_tests, lt) in ap (λ b. cond b (maps.get fds.slots (pair pid fd)) None) small

released_slots : (tree : Tree) (fds : FdTable) (n : ℕ) → (description_released tree fds n).fds.slots ≡ fds.slots
released_slots tree fds n = ap (λ (h : Held). h.fds.slots) (released_swapped fds.slots tree fds n refl)

none_unless : (o : Option Slot) → ((x : Slot) → o ≡ Some x → ⊥) → o ≡ None
none_unless None never = refl
none_unless (Some x) never = absurd (never x refl)

pub replaced_none : (tree : Tree) (fds : FdTable) (pid fd : ℕ) (s : Slot) (o : Option Slot) → ((x : Slot) → o ≡ Some x → ⊥) → o ≡ slot fds pid fd → record { tree = tree; fds = with_slot fds pid fd s } ≡ replaced tree fds pid fd s
unfolding replaced closed
replaced_none tree fds pid fd s o never is = ap (λ o. renamed (slot_closed tree fds (pair pid fd) o) pid fd s) (sym (none_unless o never) ∙ is)

pub replaced_some : (tree : Tree) (fds : FdTable) (pid fd : ℕ) (s was : Slot) → Some was ≡ slot fds pid fd → IsNamedBeside fds pid fd s.description
    → description_released tree (with_slot fds pid fd s) was.description ≡ replaced tree fds pid fd s
unfolding replaced closed
replaced_some tree fds pid fd s was some beside =
    let k = pair pid fd in
    let left : FdTable = with_slots fds (maps.remove fds.slots k) in
    let h : Held = description_released tree left was.description in
    released_swapped (maps.insert fds.slots k s) tree left was.description (named_alike fds.slots k was.description s beside)
    ∙ ap (swapped h) (sym (insert-remove nat_cmp_total maps.nat_cmp-IsAntisymmetric (λ x. 0) fds.slots k s) ∙ ap (λ (m : SlotMap). maps.insert m k s) (sym (released_slots tree left was.description)))
    ∙ ap (λ o. renamed (slot_closed tree fds k o) pid fd s) some

-- a slot at another descriptor names its description
pub named_beside : (fds : FdTable) (pid old new : ℕ) (s : Slot) → new < most_fds → (old == new) ≡ false → Some s ≡ slot fds pid old → IsNamedBeside fds pid new s.description
named_beside fds pid old new s small other some = go (nat_lt old most_fds) refl some
  where
    apart : nat_lt old most_fds ≡ true → eq_by_cmp nat_cmp (pair pid old) (pair pid new) ≡ false
    apart lt = grind (arith, nat_tests, other, lt, small)

    go : (b : Bool) → nat_lt old most_fds ≡ b → Some s ≡ cond b (maps.get fds.slots (pair pid old)) None → IsNamedBeside fds pid new s.description
    go false lt some = absurd (cc some)
    go true lt some =
        let stays = maps.get-remove nat_cmp_total fds.slots (pair pid new) (pair pid old) ∙ ap (λ b. cond b None (maps.get fds.slots (pair pid old))) (apart lt) ∙ sym some in
        let sum = total-remove nat_cmp_total maps.nat_cmp-IsAntisymmetric (λ x. one_if (names_description s.description x)) (maps.remove fds.slots (pair pid new)) (pair pid old) in
        let it = ap (weight (λ x. one_if (names_description s.description x))) stays in
        let same : (s.description == s.description) ≡ true = grind (arith, nat_tests) in
        let one = ap one_if same in
        some_one _ (omega (arith, sum, it, one))
