-- A child has a copy of its parent's row.
use Rattle.std.proofs.Common.{◌≡◌, ◌≢◌, ℕ, zero, suc, ◌+◌, ◌<◌, ◌≤◌, false, [], Option, Some, None, refl, ap, sym, ◌∙◌, arith, get_or}
use Rattle.std.proofs.lemmas.Bool.Decides.{nat_tests}
use Rattle.std.specs.Prelude.{◌/◌, ◌%◌, ◌==◌}
use Rattle.std.specs.List.{range_with_len}
use Rattle.std.specs.Cmp.{nat_cmp_total}
use Rattle.std.specs.FinMap as maps
use Rattle.shelves.proofs.Shelved.{alike, apart_from, tells}
use Rattle.lx_files.specs.declared.counts.Counts.{Counts}
use Rattle.lx_files.specs.Tallies.{count_of, one_if, how_many, weight, Forgets}
use Rattle.lx_files.proofs.Totals.{total-insert, remove-none}
use Rattle.lx_open.specs.Kinds.{Slot, SlotMap, names_description}
use Rattle.lx_open.specs.Counted.{SameCounts, CountsFollow, put_back}
use Rattle.lx_open.specs.Opens.{pair, inherited_slot, inherited_each}
use Rattle.lx_open.specs.Rows.{Slots, IsRowOf, CountsSlot, CountsRow, named_in, with_row}
use Rattle.lx_open.proofs.Flat.{parts, put_there, in_row, beside_row}
use Rattle.lx_open.proofs.Rows.{inherited_end}

-- Counted.

-- what a slot that may be there adds
abbrev adds : ℕ → Option Slot → ℕ
adds i = weight (λ s. one_if (names_description i s))

none_named : (i : ℕ) (row : Slots) → named_in i row 0 ≡ 0
unfolding named_in
none_named i row = refl

one_more : (i : ℕ) (row : Slots) (fd end : ℕ) → end ≡ fd + 1 → named_in i row end ≡ adds i (get_or row fd None) + named_in i row fd
unfolding named_in
one_more i row fd end e = ap (named_in i row) (let s : end ≡ suc fd = omega (arith, e) in s)

named_alike : (i : ℕ) (a b : Slots) (n : ℕ) → ((q : ℕ) → q < n → get_or a q None ≡ get_or b q None) → named_in i a n ≡ named_in i b n
named_alike i a b zero h = none_named i a ∙ sym (none_named i b)
named_alike i a b (suc n) h =
    one_more i a n (suc n) (omega arith)
    ∙ ap (λ o. adds i o + named_in i a n) (h n (omega arith))
    ∙ ap (λ k. adds i (get_or b n None) + k) (named_alike i a b n (λ q lt. h q (omega (arith, lt))))
    ∙ sym (one_more i b n (suc n) (omega arith))

-- from one on there are none
named_past : (i : ℕ) (row : Slots) (n m : ℕ) → n ≤ m → ((q : ℕ) → n ≤ q → q < m → get_or row q None ≡ None) → named_in i row m ≡ named_in i row n
named_past i row n zero le none = ap (named_in i row) (let same : 0 ≡ n = omega (arith, le) in same)
named_past i row n (suc m) le none = elim (tells n (suc m)) [
  | alike e t ↦ ap (named_in i row) (sym e)
  | apart_from other t ↦
      let low : n ≤ m = omega (arith, le, other) in
      let step = one_more i row m (suc m) (omega arith) in
      let here = ap (adds i) (none m low (omega arith)) in
      let rest = named_past i row n m low (λ q from lt. none q from (omega (arith, lt))) in
      omega (arith, step, here, rest)
]

pub counts_end : (c : Counts) (row : Slots) (end : ℕ) → end ≡ 0 → CountsRow c row end c
counts_end c row end e n = let zero = ap (named_in n row) e ∙ none_named n row in omega (arith, zero)

pub counts_step : (c d e : Counts) (row : Slots) (fd end : ℕ) (o : Option Slot) → end ≡ fd + 1 → o ≡ get_or row fd None → CountsSlot o c d → CountsRow d row fd e → CountsRow c row end e
counts_step c d e row fd end o is there more rest n =
    let step = one_more n row fd end is in let here = ap (adds n) there in let m = more n in let r = rest n in
    omega (arith, step, here, m, r)

-- what was counted counts no more
pub counts_back : (c d e f : Counts) (o : Option Slot) → CountsSlot o c d → SameCounts d e → Forgets names_description o e f → SameCounts c f
counts_back c d e f o more same less n =
    let m = more n in let s = same n in let l = less n in omega (arith, m, s, l)

pub counts_none : (c : Counts) (m : SlotMap) (pid : ℕ) (row : Slots) → IsRowOf m pid None → IsRowOf m pid (Some row) → CountsRow c row 256 c
counts_none c m pid row none has n =
    let zero = named_past n row 0 256 (omega arith) (λ q from lt. sym (has q lt) ∙ none q lt) ∙ none_named n row in
    omega (arith, zero)

pub counts_process : (c d : Counts) (m : SlotMap) (pid end : ℕ) (row row' : Slots) → IsRowOf m pid (Some row) → IsRowOf m pid (Some row') → end ≤ 256
    → ((q : ℕ) → end ≤ q → q < 256 → get_or row q None ≡ None) → CountsRow c row end d → CountsRow c row' 256 d
counts_process c d m pid end row row' is has within none rest n =
    rest n ∙ ap (λ k. k + count_of c n) (sym (named_past n row end 256 within none) ∙ named_alike n row row' 256 (λ q lt. sym (is q lt) ∙ has q lt))

-- A row is given.

-- the slots after the first are as they were
after_row : (m : SlotMap) (pid : ℕ) (row : Slots) (n f : ℕ) → n ≤ f → maps.get (with_row m pid row n) (pair pid f) ≡ maps.get m (pair pid f)
unfolding with_row
after_row m pid row zero f le = refl
after_row m pid row (suc n) f le =
    put_there (with_row m pid row n) (pair pid n) (get_or row n None) (pair pid f) (λ e. let bad : ⊥ = omega (arith, e, le) in bad)
    ∙ after_row m pid row n f (omega (arith, le))

one_put : (i : ℕ) (m : SlotMap) (k : ℕ) (o : Option Slot) → maps.get m k ≡ None → how_many (names_description i) (put_back m k o) ≡ adds i o + how_many (names_description i) m
one_put i m k None none =
    let same = ap (how_many (names_description i)) (remove-none nat_cmp_total maps.nat_cmp-IsAntisymmetric (λ x. 0) m k none) in
    omega (arith, same)
one_put i m k (Some s) none =
    let sum = total-insert nat_cmp_total (λ x. one_if (names_description i x)) m k s in
    let zero = ap (adds i) none in
    omega (arith, sum, zero)

how_many_in : (i : ℕ) (m : SlotMap) (pid : ℕ) (row : Slots) (n : ℕ) → n ≤ 256 → IsRowOf m pid None → how_many (names_description i) (with_row m pid row n) ≡ named_in i row n + how_many (names_description i) m
unfolding with_row
how_many_in i m pid row zero le none =
    let nothing = none_named i row in
    let same : how_many (names_description i) (with_row m pid row 0) ≡ how_many (names_description i) m = refl in
    omega (arith, nothing, same)
how_many_in i m pid row (suc n) le none =
    let here = one_put i (with_row m pid row n) (pair pid n) (get_or row n None) (after_row m pid row n n (omega arith) ∙ none n (omega (arith, le))) in
    let rest = how_many_in i m pid row n (omega (arith, le)) none in
    let step = one_more i row n (suc n) (omega arith) in
    omega (arith, here, rest, step)

pub counts_given : (c d : Counts) (m n : SlotMap) (pid : ℕ) (row : Slots) → IsRowOf m pid None → n ≡ with_row m pid row 256 → CountsRow c row 256 d → CountsFollow c m d n
counts_given c d m n pid row none is counts i =
    let all = how_many_in i m pid row 256 (omega arith) none in
    let there = ap (how_many (names_description i)) is in
    let more = counts i in
    omega (arith, all, there, more)

pub has_row : (m n : SlotMap) (pid : ℕ) (row : Slots) → n ≡ with_row m pid row 256 → IsRowOf n pid (Some row)
has_row m n pid row is fd lt = ap (λ (t : SlotMap). maps.get t (pair pid fd)) is ∙ in_row m pid row 256 fd lt

-- what was given is taken back
pub row_back : (m n o : SlotMap) (pid : ℕ) (row : Slots) → IsRowOf m pid None → n ≡ with_row m pid row 256 → o ≡ with_row n pid [] 256 → o ≡ m
row_back m n o pid row none is gone = gone ∙ maps.same_map nat_cmp_total maps.nat_cmp-IsAntisymmetric _ _ (λ k.
    ap (maps.get (with_row n pid [] 256)) (sym (parts k)) ∙ at (k / 256) (k % 256) (omega arith) ∙ ap (maps.get m) (parts k))
  where
    at : (p f : ℕ) → f < 256 → maps.get (with_row n pid [] 256) (pair p f) ≡ maps.get m (pair p f)
    at p f lt = elim (tells p pid) [
      | alike e t ↦
          ap (λ i. maps.get (with_row n pid [] 256) (pair i f)) e
          ∙ in_row n pid [] 256 f lt
          ∙ sym (ap (λ i. maps.get m (pair i f)) e ∙ none f lt)
      | apart_from other t ↦
          beside_row n pid [] 256 p f (omega arith) lt other
          ∙ ap (λ (t : SlotMap). maps.get t (pair p f)) is
          ∙ beside_row m pid row 256 p f (omega arith) lt other
    ]

-- Inherited.

put_slot : (m : SlotMap) (child fd : ℕ) (o : Option Slot) → maps.get m (pair child fd) ≡ None → inherited_slot m child fd o ≡ put_back m (pair child fd) o
put_slot m child fd None none = sym (remove-none nat_cmp_total maps.nat_cmp-IsAntisymmetric (λ x. 0) m (pair child fd) none)
put_slot m child fd (Some s) none = refl

given_from : (k n : ℕ) (m : SlotMap) (parent child : ℕ) (row : Slots) → n + k ≡ 256 → parent ≢ child → IsRowOf m child None → IsRowOf m parent (Some row)
    → with_row m child row 256 ≡ inherited_each (with_row m child row n) parent child (range_with_len n k)
unfolding inherited_each with_row
given_from zero n m parent child row e other none has = ap (with_row m child row) (let same : 256 ≡ n = omega (arith, e) in same)
given_from (suc k) n m parent child row e other none has =
    let t = with_row m child row n in
    let lt : n < 256 = omega (arith, e) in
    let next : n + 1 ≡ suc n = omega arith in
    given_from k (n + 1) m parent child row (omega (arith, e)) other none has
    ∙ ap (λ i. inherited_each (with_row m child row i) parent child (range_with_len (n + 1) k)) next
    ∙ ap (λ (u : SlotMap). inherited_each u parent child (range_with_len (n + 1) k))
    (ap (put_back t (pair child n)) (sym (beside_row m child row n parent n (omega (arith, e)) lt other ∙ has n lt))
    ∙ sym (put_slot t child n (maps.get t (pair parent n)) (after_row m child row n n (omega arith) ∙ none n lt)))

apart : (a b : ℕ) → (a == b) ≡ false → a ≢ b
apart a b e is = let bad : ⊥ = grind (arith, nat_tests, e, is) in bad

pub given : (m n : SlotMap) (parent child : ℕ) (row : Slots) → (parent == child) ≡ false → IsRowOf m child None → IsRowOf m parent (Some row) → n ≡ with_row m child row 256 → n ≡ inherited_each m parent child (range_with_len 0 256)
unfolding with_row
given m n parent child row other none has is = is ∙ given_from 256 0 m parent child row refl (apart parent child other) none has

pub nothing_given : (m : SlotMap) (parent child : ℕ) → IsRowOf m parent None → m ≡ inherited_each m parent child (range_with_len 0 256)
nothing_given m parent child none = inherited_end m parent child 0 (omega arith) (λ q from lt. none q lt)
