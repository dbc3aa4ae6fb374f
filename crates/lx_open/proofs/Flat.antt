-- Rows as one map from pair to slot.
use Rattle.std.proofs.Common.{◌≡◌, ◌≢◌, ℕ, zero, suc, ◌<◌, ◌≤◌, true, cond, List, [], ◌∷◌, Option, Some, None, refl, sym, ap, subst, ◌∙◌, arith, rules, get_or, length}
use Rattle.std.specs.Prelude.{◌/◌, ◌%◌, IsSome}
use Rattle.std.proofs.lemmas.Nat.{div-add-mod'}
use Rattle.std.specs.Ordering.{nat_cmp, eq_by_cmp}
use Rattle.std.specs.Cmp.{nat_cmp_total}
use Rattle.std.specs.FinMap as maps
use Rattle.shelves.proofs.Shelved.{Tells, alike, apart_from, tells}
use Rattle.lx_open.specs.Kinds.{Slot, SlotMap}
use Rattle.lx_open.specs.Counted.{put_back}
use Rattle.lx_open.specs.Opens.{pair}
use Rattle.lx_open.specs.Nexts.{IsNextOpen}
use Rattle.lx_open.specs.Rows.{Slots, Rows, HasAt, IsNextIn, IsRowOf, AreOfPids, row_slot, slot_at, with_row, with_rows, flat}

-- Pairs.

pub parts : (k : ℕ) → pair (k / 256) (k % 256) ≡ k
parts k = div-add-mod' k 256

small : (k : ℕ) → k % 256 < 256
small k = omega arith

pub other_process : (p q f g : ℕ) → f < 256 → g < 256 → p ≢ q → pair p f ≢ pair q g
other_process p q f g a b n e = n (omega (arith, a, b, e))

get-put_back : (m : SlotMap) (k : ℕ) (o : Option Slot) (q : ℕ) → maps.get (put_back m k o) q ≡ cond (eq_by_cmp nat_cmp q k) o (maps.get m q)
get-put_back m k None q = maps.get-remove nat_cmp_total m k q
get-put_back m k (Some s) q = maps.get-insert nat_cmp_total m k s q

put_here : (m : SlotMap) (k : ℕ) (o : Option Slot) (q : ℕ) → q ≡ k → maps.get (put_back m k o) q ≡ o
put_here m k o q is = elim (tells q k) [
  | alike e t ↦ get-put_back m k o q ∙ ap (λ b. cond b o (maps.get m q)) t
  | apart_from n t ↦ absurd (n is)
]

pub put_there : (m : SlotMap) (k : ℕ) (o : Option Slot) (q : ℕ) → q ≢ k → maps.get (put_back m k o) q ≡ maps.get m q
put_there m k o q not_it = elim (tells q k) [
  | alike e t ↦ absurd (not_it e)
  | apart_from n t ↦ get-put_back m k o q ∙ ap (λ b. cond b o (maps.get m q)) t
]

-- One row.

pub in_row : (m : SlotMap) (pid : ℕ) (row : Slots) (n f : ℕ) → f < n → maps.get (with_row m pid row n) (pair pid f) ≡ get_or row f None
unfolding with_row
in_row m pid row zero f lt = absurd (omega (arith, lt))
in_row m pid row (suc n) f lt = elim (tells f n) [
  | alike e t ↦ put_here (with_row m pid row n) (pair pid n) (get_or row n None) (pair pid f) (ap (pair pid) e) ∙ ap (λ i. get_or row i None) (sym e)
  | apart_from other t ↦
      put_there (with_row m pid row n) (pair pid n) (get_or row n None) (pair pid f) (λ e. other (omega (arith, e)))
      ∙ in_row m pid row n f (omega (arith, lt, other))
]

pub beside_row : (m : SlotMap) (pid : ℕ) (row : Slots) (n p f : ℕ) → n ≤ 256 → f < 256 → p ≢ pid → maps.get (with_row m pid row n) (pair p f) ≡ maps.get m (pair p f)
unfolding with_row
beside_row m pid row zero p f le lt other = refl
beside_row m pid row (suc n) p f le lt other =
    put_there (with_row m pid row n) (pair pid n) (get_or row n None) (pair p f) (other_process p pid f n lt (omega (arith, le)) other)
    ∙ beside_row m pid row n p f (omega (arith, le)) lt other

-- All rows.

get-with_rows : (es : List (ℕ × Slots)) (p f : ℕ) → f < 256 → maps.get (with_rows es) (pair p f) ≡ row_slot (maps.find nat_cmp p es) f
unfolding with_rows
get-with_rows [] p f lt = maps.get-empty nat_cmp (pair p f)
get-with_rows (e ∷ es) p f lt = elim (tells p e.0) [
  | alike is t ↦
      ap (λ i. maps.get (with_row (with_rows es) e.0 e.1 256) (pair i f)) is
      ∙ in_row (with_rows es) e.0 e.1 256 f lt
      ∙ ap (λ b. row_slot (cond b (Some e.1) (maps.find nat_cmp p es)) f) (sym t)
  | apart_from other t ↦
      beside_row (with_rows es) e.0 e.1 256 p f (omega arith) lt other
      ∙ get-with_rows es p f lt
      ∙ ap (λ b. row_slot (cond b (Some e.1) (maps.find nat_cmp p es)) f) (sym t)
]

pub get-flat : (rows : Rows) (p f : ℕ) → f < 256 → maps.get (flat rows) (pair p f) ≡ slot_at rows p f
unfolding flat
get-flat rows p f lt = get-with_rows (maps.entries rows) p f lt ∙ ap (λ o. row_slot o f) (sym (maps.get-entries rows p))

-- what stands at a key
pub flat_at : (rows : Rows) (k : ℕ) → maps.get (flat rows) k ≡ slot_at rows (k / 256) (k % 256)
flat_at rows k = ap (maps.get (flat rows)) (sym (parts k)) ∙ get-flat rows (k / 256) (k % 256) (small k)

-- a map that has the same at each pair
same_flat : (rows : Rows) (m : SlotMap) → ((p f : ℕ) → f < 256 → slot_at rows p f ≡ maps.get m (pair p f)) → flat rows ≡ m
same_flat rows m h = maps.same_map nat_cmp_total maps.nat_cmp-IsAntisymmetric _ _ (λ k. flat_at rows k ∙ h (k / 256) (k % 256) (small k) ∙ ap (maps.get m) (parts k))

alike_flat : (rows rows' : Rows) → ((p f : ℕ) → f < 256 → slot_at rows' p f ≡ slot_at rows p f) → flat rows' ≡ flat rows
alike_flat rows rows' h = same_flat rows' (flat rows) (λ p f lt. h p f lt ∙ sym (get-flat rows p f lt))

-- Rows that come, change and go.

get-put : (rows : Rows) (pid : ℕ) (row : Slots) (p : ℕ) → maps.get (maps.insert rows pid row) p ≡ cond (eq_by_cmp nat_cmp p pid) (Some row) (maps.get rows p)
get-put rows pid row p = maps.get-insert nat_cmp_total rows pid row p

-- a row has the same for each descriptor
pub row_alike : (rows : Rows) (pid : ℕ) (row' : Slots) → ((f : ℕ) → get_or row' f None ≡ slot_at rows pid f) → flat (maps.insert rows pid row') ≡ flat rows
row_alike rows pid row' same = alike_flat rows (maps.insert rows pid row') (λ p f lt. elim (tells p pid) [
  | alike e t ↦
      ap (λ o. row_slot o f) (get-put rows pid row' p ∙ ap (λ b. cond b (Some row') (maps.get rows p)) t)
      ∙ same f ∙ ap (λ i. slot_at rows i f) (sym e)
  | apart_from n t ↦ ap (λ o. row_slot o f) (get-put rows pid row' p ∙ ap (λ b. cond b (Some row') (maps.get rows p)) t)
])

-- one descriptor has another slot
pub row_put : (rows : Rows) (pid fd : ℕ) (row row' : Slots) (o : Option Slot) → fd < 256 → Some row ≡ maps.get rows pid → HasAt row fd o row' → flat (maps.insert rows pid row') ≡ put_back (flat rows) (pair pid fd) o
row_put rows pid fd row row' o small_fd there has = same_flat (maps.insert rows pid row') (put_back (flat rows) (pair pid fd) o) (λ p f lt. elim (tells p pid) [
  | alike e t ↦
      ap (λ o. row_slot o f) (get-put rows pid row' p ∙ ap (λ b. cond b (Some row') (maps.get rows p)) t)
      ∙ by_fd p f lt e (tells f fd)
  | apart_from n t ↦
      ap (λ o. row_slot o f) (get-put rows pid row' p ∙ ap (λ b. cond b (Some row') (maps.get rows p)) t)
      ∙ sym (put_there (flat rows) (pair pid fd) o (pair p f) (other_process p pid f fd lt small_fd n) ∙ get-flat rows p f lt)
])
  where
    by_fd : (p f : ℕ) → f < 256 → p ≡ pid → Tells f fd → get_or row' f None ≡ maps.get (put_back (flat rows) (pair pid fd) o) (pair p f)
    by_fd p f lt e (alike is t) =
        ap (λ i. get_or row' i None) is ∙ has.here
        ∙ sym (put_here (flat rows) (pair pid fd) o (pair p f) (omega (arith, e, is)))
    by_fd p f lt e (apart_from n t) =
        has.others f n
        ∙ sym (put_there (flat rows) (pair pid fd) o (pair p f) (λ s. n (omega (arith, e, s)))
        ∙ get-flat rows p f lt ∙ ap (λ i. slot_at rows i f) e ∙ ap (λ o. row_slot o f) (sym there))

-- a process without a row has no slot to lose
pub no_row : (rows : Rows) (pid fd : ℕ) → fd < 256 → maps.get rows pid ≡ None → flat rows ≡ maps.remove (flat rows) (pair pid fd)
no_row rows pid fd lt none = same_flat rows (put_back (flat rows) (pair pid fd) None) (λ p f small_f. elim (tells (pair p f) (pair pid fd)) [
  | alike e t ↦
      sym (get-flat rows p f small_f) ∙ ap (maps.get (flat rows)) e ∙ get-flat rows pid fd lt ∙ ap (λ o. row_slot o fd) none
      ∙ sym (put_here (flat rows) (pair pid fd) None (pair p f) e)
  | apart_from n t ↦ sym (put_there (flat rows) (pair pid fd) None (pair p f) n ∙ get-flat rows p f small_f)
])

-- a row that has none
no_length : (row : Slots) → length row ≡ 0 → row ≡ []
no_length [] e = refl
no_length (s ∷ row) e = absurd (omega (arith, e))

pub row_dropped : (rows : Rows) (pid : ℕ) (row : Slots) → Some row ≡ maps.get rows pid → length row ≡ 0 → flat (maps.remove rows pid) ≡ flat rows
row_dropped rows pid row there none = alike_flat rows (maps.remove rows pid) (λ p f lt. elim (tells p pid) [
  | alike e t ↦
      ap (λ o. row_slot o f) (maps.get-remove nat_cmp_total rows pid p ∙ ap (λ b. cond b None (maps.get rows p)) t)
      ∙ sym (ap (λ i. slot_at rows i f) e ∙ ap (λ o. row_slot o f) (sym there) ∙ ap (λ (r : Slots). get_or r f None) (no_length row none))
  | apart_from n t ↦ ap (λ o. row_slot o f) (maps.get-remove nat_cmp_total rows pid p ∙ ap (λ b. cond b None (maps.get rows p)) t)
])

-- its last slot goes, and so does it
same_pid : (p : ℕ) → eq_by_cmp nat_cmp p p ≡ true
same_pid p = elim (tells p p) [
  | alike e t ↦ t
  | apart_from n t ↦ absurd (n refl)
]

pub row_emptied : (rows rows' rows'' : Rows) (pid fd : ℕ) (row row' : Slots) → fd < 256 → Some row ≡ maps.get rows pid → HasAt row fd None row'
    → rows' ≡ maps.insert rows pid row' → length row' ≡ 0 → rows'' ≡ maps.remove rows' pid → flat rows'' ≡ maps.remove (flat rows) (pair pid fd)
row_emptied rows rows' rows'' pid fd row row' small_fd there has put none gone =
    let here : maps.get rows' pid ≡ Some row' = ap (λ (m : Rows). maps.get m pid) put ∙ get-put rows pid row' pid ∙ ap (λ b. cond b (Some row') (maps.get rows pid)) (same_pid pid) in
    ap flat gone ∙ row_dropped rows' pid row' (sym here) none ∙ ap flat put ∙ row_put rows pid fd row row' None small_fd there has

pub none_flat : (rows : Rows) → rows ≡ maps.empty → flat rows ≡ maps.empty
none_flat rows e = same_flat rows maps.empty (λ p f lt. ap (λ m. slot_at m p f) e ∙ ap (λ o. row_slot o f) (maps.get-empty nat_cmp p) ∙ sym (maps.get-empty nat_cmp (pair p f)))

-- a process has another row, or none
pub row_set : (rows : Rows) (pid : ℕ) (row : Slots) → flat (maps.insert rows pid row) ≡ with_row (flat rows) pid row 256
row_set rows pid row = same_flat (maps.insert rows pid row) (with_row (flat rows) pid row 256) (λ p f lt. elim (tells p pid) [
  | alike e t ↦
      ap (λ o. row_slot o f) (get-put rows pid row p ∙ ap (λ b. cond b (Some row) (maps.get rows p)) t)
      ∙ sym (ap (λ i. maps.get (with_row (flat rows) pid row 256) (pair i f)) e ∙ in_row (flat rows) pid row 256 f lt)
  | apart_from n t ↦
      ap (λ o. row_slot o f) (get-put rows pid row p ∙ ap (λ b. cond b (Some row) (maps.get rows p)) t)
      ∙ sym (beside_row (flat rows) pid row 256 p f (omega arith) lt n ∙ get-flat rows p f lt)
])

pub row_gone : (rows : Rows) (pid : ℕ) → flat (maps.remove rows pid) ≡ with_row (flat rows) pid [] 256
row_gone rows pid = same_flat (maps.remove rows pid) (with_row (flat rows) pid [] 256) (λ p f lt. elim (tells p pid) [
  | alike e t ↦
      ap (λ o. row_slot o f) (maps.get-remove nat_cmp_total rows pid p ∙ ap (λ b. cond b None (maps.get rows p)) t)
      ∙ sym (ap (λ i. maps.get (with_row (flat rows) pid [] 256) (pair i f)) e ∙ in_row (flat rows) pid [] 256 f lt)
  | apart_from n t ↦
      ap (λ o. row_slot o f) (maps.get-remove nat_cmp_total rows pid p ∙ ap (λ b. cond b None (maps.get rows p)) t)
      ∙ sym (beside_row (flat rows) pid [] 256 p f (omega arith) lt n ∙ get-flat rows p f lt)
])

-- what a process has is what its row says
pub row_of : (rows : Rows) (pid : ℕ) → IsRowOf (flat rows) pid (maps.get rows pid)
row_of rows pid fd lt = get-flat rows pid fd lt

pub row_like : (m : SlotMap) (pid : ℕ) (row row' : Option Slots) → row' ≡ row → IsRowOf m pid row → IsRowOf m pid row'
row_like m pid row row' e is fd lt = is fd lt ∙ ap (λ o. row_slot o fd) (sym e)

-- Pids, and what stands at a key.

none_beyond : (rows : Rows) (pid : ℕ) → AreOfPids rows → 4294967296 ≤ pid → maps.get rows pid ≡ None
none_beyond rows pid few le = go (maps.get rows pid) refl
  where
    go : (o : Option Slots) → maps.get rows pid ≡ o → maps.get rows pid ≡ None
    go None e = e
    go (Some row) e = let less = few pid (subst IsSome (sym e) (search rules)) in absurd (omega (arith, le, less))

pub no_pid : (rows : Rows) (k : ℕ) → AreOfPids rows → 4294967296 ≤ k / 256 → None ≡ maps.get (flat rows) k
no_pid rows k few le = sym (flat_at rows k ∙ ap (λ o. row_slot o (k % 256)) (none_beyond rows (k / 256) few le))

pub here_at : (rows : Rows) (k pid fd : ℕ) → pid ≡ k / 256 → fd ≡ k % 256 → slot_at rows pid fd ≡ maps.get (flat rows) k
here_at rows k pid fd e f = ap (λ p. slot_at rows p fd) e ∙ ap (slot_at rows (k / 256)) f ∙ sym (flat_at rows k)

pub as_pair : (k pid fd : ℕ) → pid ≡ k / 256 → fd ≡ k % 256 → pair pid fd ≡ k
as_pair k pid fd e f = ap (λ p. pair p fd) e ∙ ap (pair (k / 256)) f ∙ parts k

pub is_small : (k fd : ℕ) → fd ≡ k % 256 → fd < 256
is_small k fd e = subst (λ i. i < 256) (sym e) (small k)

-- The next one.

pub next_none : (rows : Rows) (pid fd : ℕ) → maps.get rows pid ≡ None → IsNextOpen (flat rows) pid fd None
next_none rows pid fd none q le lt = get-flat rows pid q lt ∙ ap (λ o. row_slot o q) none

pub next_flat : (rows : Rows) (pid fd : ℕ) (row : Slots) (r : Option ℕ) → Some row ≡ maps.get rows pid → IsNextIn row fd r → IsNextOpen (flat rows) pid fd r
next_flat rows pid fd row None there next = λ q le lt. get-flat rows pid q lt ∙ ap (λ o. row_slot o q) (sym there) ∙ next q le lt
next_flat rows pid fd row (Some n) there next = (
  next.0,
  next.1,
  subst IsSome (sym (get-flat rows pid n next.1 ∙ ap (λ o. row_slot o n) (sym there))) next.2,
  λ q le lt. get-flat rows pid q (let small = next.1 in omega (arith, lt, small)) ∙ ap (λ o. row_slot o q) (sym there) ∙ next.3 q le lt,
)

-- Only pids have rows, before and after.

pub pids_put : (rows : Rows) (pid : ℕ) (row : Slots) → pid < 4294967296 → AreOfPids rows → AreOfPids (maps.insert rows pid row)
pids_put rows pid row lt few p some = elim (tells p pid) [
  | alike e t ↦ omega (arith, lt, e)
  | apart_from n t ↦ few p (subst IsSome (get-put rows pid row p ∙ ap (λ b. cond b (Some row) (maps.get rows p)) t) some)
]

pub pids_again : (rows : Rows) (pid : ℕ) (row row' : Slots) → Some row ≡ maps.get rows pid → AreOfPids rows → AreOfPids (maps.insert rows pid row')
pids_again rows pid row row' there few = pids_put rows pid row' (few pid (subst IsSome there (search rules))) few

pub pids_removed : (rows : Rows) (pid : ℕ) → AreOfPids rows → AreOfPids (maps.remove rows pid)
pids_removed rows pid few p some = elim (tells p pid) [
  | alike e t ↦ absurd (let none : IsSome {T = Slots} None = subst IsSome (maps.get-remove nat_cmp_total rows pid p ∙ ap (λ b. cond b None (maps.get rows p)) t) some in cc none)
  | apart_from n t ↦ few p (subst IsSome (maps.get-remove nat_cmp_total rows pid p ∙ ap (λ b. cond b None (maps.get rows p)) t) some)
]

pub pids_of_none : (rows : Rows) → rows ≡ maps.empty → AreOfPids rows
pids_of_none rows e p some = absurd (let none : IsSome {T = Slots} None = subst IsSome (ap (λ m. maps.get m p) e ∙ maps.get-empty nat_cmp p) some in cc none)

pub no_pid_there : (rows : Rows) (k : ℕ) → AreOfPids rows → 4294967296 ≤ k / 256 → IsSome (maps.get (flat rows) k) → ⊥
no_pid_there rows k few le some = let none : IsSome {T = Slot} None = subst IsSome (sym (no_pid rows k few le)) some in cc none

-- what isn't there may be taken away
pub nothing_removed : (m : SlotMap) (k : ℕ) → None ≡ maps.get m k → m ≡ maps.remove m k
nothing_removed m k none = maps.same_map nat_cmp_total maps.nat_cmp-IsAntisymmetric _ _ (λ q. elim (tells q k) [
  | alike e t ↦ ap (maps.get m) e ∙ sym none ∙ sym (put_here m k None q e)
  | apart_from n t ↦ sym (put_there m k None q n)
])
