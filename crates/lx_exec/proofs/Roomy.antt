-- The start of a program has few pages, and its bytes are mapped.
use Rattle.std.proofs.Common.{◌≡◌, ◌≢◌, ℕ, zero, suc, ◌+◌, ◌-◌, ◌*◌, ◌/◌, ◌<◌, ◌≤◌, ◌⊎◌, inl, inr, Bool, true, false, cond, Option, Some, None, List, [], ◌∷◌, ◌++◌, length, map, get_or, refl, sym, ap, subst, ◌∙◌, arith, length-append, All}
use Rattle.std.specs.Prelude.{◌||◌, not, nat_lt, nat_le, min, max, is_some, if◌then◌else◌, fold}
use Rattle.std.specs.Ordering.{nat_cmp, eq_by_cmp}
use Rattle.std.specs.Cmp.{unsigned_tied}
use Rattle.std.specs.FinMap as maps
use Rattle.std.specs.FinMap.{get, insert, keys, get-insert, contains_key-keys}
use Rattle.std.specs.FinSet as set
use Rattle.std.specs.List.{list_any, filter, range_with_len, IsDistinct, AllByRecursion}
use Rattle.std.specs.Set.{is_member}
use Rattle.std.proofs.lemmas.Bool.{or_left, or_right, or_parts, or_cases, cases_Bool, both_ways}
use Rattle.std.proofs.lemmas.Bool.Decides.{nat_tests, eqb_tells}
use Rattle.std.proofs.lemmas.Cmp.{nat_cmp_total, eq_by_cmp_equiv}
use Rattle.std.proofs.lemmas.List.Sums.{length-filter}
use Rattle.std.proofs.lemmas.List.Folds.{list_any_at}
use Rattle.std.proofs.lemmas.Map.Made.{length-le_from_is_member}
use Rattle.lx_abi.specs.Limits.{start_limit}
use Rattle.rv_mem.specs.Memory.{Memory, Cell, first_fault, fault_of, written, with_byte, or_memory}
use Rattle.rv_mem.specs.Mapping.{mapped, mapped_cell, page_count, limit_fault}
use Rattle.rv_mem.specs.declared.rights.Rights.{Rights}
use Rattle.rv_mem.specs.declared.rights.Access.TheVariants.{Load}
use Rattle.rv_mem.specs.declared.fault.MemFault.{MemFault}
use Rattle.rv_mem.specs.declared.fault.MemFault.TheVariants as fault
use Rattle.elf_image.specs.declared.layout.Extent.{Extent}
use Rattle.elf_image.specs.declared.image.Segment.{Segment}
use Rattle.elf_image.specs.declared.image.Image.{Image}
use Rattle.elf_image.specs.Images.{extent_of, IsInRange}
use Rattle.elf_image.specs.Layout.{touches, pages_of}
use Rattle.elf_image.specs.Layout.{page_count as extents_count}
use Rattle.std.specs.Int.{w64, to_le_bytes}
use Rattle.lx_exec.specs.declared.programs.Start.{Start}
use Rattle.lx_exec.specs.Programs.{with_segment, with_image, bare_memory, stack_top, stack_size, page, read_write, read_execute, return_code, rights_of, doublewords, start_size, IsStart}
use Rattle.lx_exec.specs.Rooms.{stack_pages, pages_under, program_pages, segment_mapped, IsOn, IsMapped, IsOnStack}

-- what a memory has at an address once addresses are mapped, or bytes written

insert_here : (m : Memory) (a : ℕ) (c : Cell) (q : ℕ) → q ≡ a → get (insert m a c) q ≡ Some c
insert_here m a c q e = get-insert nat_cmp_total m a c q ∙ rw (unsigned_tied q a) (grind (arith, nat_tests))

insert_past : (m : Memory) (a : ℕ) (c : Cell) (q : ℕ) → q ≢ a → get (insert m a c) q ≡ get m q
insert_past m a c q n = get-insert nat_cmp_total m a c q ∙ rw (unsigned_tied q a) (grind (arith, nat_tests))

-- what is there stays there
insert_keeps : (m : Memory) (a : ℕ) (c : Cell) (q : ℕ) → is_some (get m q) ≡ true → is_some (get (insert m a c) q) ≡ true
insert_keeps m a c q h = elim (eqb_tells q a) [
  | inl e ↦ ap is_some (insert_here m a c q e.1)
  | inr e ↦ ap is_some (insert_past m a c q e.1) ∙ h
]

mapped_keeps : (m : Memory) (a n : ℕ) (r : Rights) (q : ℕ) → is_some (get m q) ≡ true → is_some (get (mapped m a n r) q) ≡ true
unfolding mapped
mapped_keeps m a zero r q h = h
mapped_keeps m a (suc n) r q h = mapped_keeps (insert m a (mapped_cell r (get m a))) (a + 1) n r q (insert_keeps m a (mapped_cell r (get m a)) q h)

mapped_there : (m : Memory) (a n : ℕ) (r : Rights) (q : ℕ) → a ≤ q → q < a + n → is_some (get (mapped m a n r) q) ≡ true
unfolding mapped
mapped_there m a zero r q l h = absurd (omega arith)
mapped_there m a (suc n) r q l h = elim (eqb_tells q a) [
  | inl e ↦ mapped_keeps (insert m a (mapped_cell r (get m a))) (a + 1) n r q (ap is_some (insert_here m a (mapped_cell r (get m a)) q e.1))
  | inr e ↦ let later : a + 1 ≤ q = omega (arith, e.1) in mapped_there (insert m a (mapped_cell r (get m a))) (a + 1) n r q later (omega arith)
]

-- what is there was there, or is mapped now
mapped_from : (m : Memory) (a n : ℕ) (r : Rights) (q : ℕ) → is_some (get (mapped m a n r) q) ≡ true → (is_some (get m q) ≡ true) ⊎ ((a ≤ q) × (q < a + n))
unfolding mapped
mapped_from m a zero r q h = inl h
mapped_from m a (suc n) r q h = elim (mapped_from (insert m a (mapped_cell r (get m a))) (a + 1) n r q h) [
  | inl there ↦ elim (eqb_tells q a) [
    | inl e ↦ inr (omega (arith, e.1), omega (arith, e.1))
    | inr e ↦ inl (sym (ap is_some (insert_past m a (mapped_cell r (get m a)) q e.1)) ∙ there)
  ]
  | inr now ↦ inr (omega (arith, now.0), omega (arith, now.1))
]

with_byte_same : (m : Memory) (a b : ℕ) (q : ℕ) (o : Option Cell) → get m a ≡ o → is_some (get (with_byte m a b o) q) ≡ is_some (get m q)
with_byte_same m a b q None e = refl
with_byte_same m a b q (Some c) e = elim (eqb_tells q a) [
  | inl s ↦ ap is_some (insert_here m a (record { byte = b; rights = c.rights }) q s.1) ∙ sym (ap is_some (ap (get m) s.1 ∙ e))
  | inr s ↦ ap is_some (insert_past m a (record { byte = b; rights = c.rights }) q s.1)
]

written_same : (m : Memory) (a : ℕ) (bs : List ℕ) (q : ℕ) → is_some (get (written m a bs) q) ≡ is_some (get m q)
unfolding written
written_same m a [] q = refl
written_same m a (b ∷ bs) q = written_same (with_byte m a b (get m a)) (a + 1) bs q ∙ with_byte_same m a b q (get m a) refl

-- a load of what is mapped has no fault

may_load : (a : ℕ) (o : Option Cell) → is_some o ≡ true → fault_of Load a o ≡ None
may_load a None h = absurd (cc)
may_load a (Some c) h = refl

loaded : (m : Memory) (a n : ℕ) → IsMapped m a (a + n) → first_fault Load m a n ≡ None
unfolding first_fault
loaded m a zero h = refl
loaded m a (suc n) h =
    let here : fault_of Load a (get m a) ≡ None = may_load a (get m a) (h.at a (omega arith) (omega arith)) in
    let rest = loaded m (a + 1) n (record { at = λ q l k. h.at q (omega arith) (omega arith) }) in
    rw (here, first_fault) rest

pub only_room : (e : MemFault) (o : Option MemFault) → o ≡ None → e ≡ or_memory o → e ≡ fault.Memory
only_room e o h k = k ∙ ap or_memory h

pub load_short : (m : Memory) (a n : ℕ) (e : MemFault) → IsMapped m a (a + n) → e ≡ or_memory (first_fault Load m a n) → e ≡ fault.Memory
load_short m a n e h k = only_room e (first_fault Load m a n) (loaded m a n h) k

within_limit : (n : ℕ) → n ≤ 16384 → (if nat_le n 16384 then None else Some fault.TooLarge) ≡ None
within_limit n h = grind (arith, nat_tests)

pub map_short : (m : Memory) (e : MemFault) → page_count m ≤ 16384 → e ≡ or_memory (limit_fault m) → e ≡ fault.Memory
map_short m e h k = only_room e (limit_fault m) (within_limit (page_count m) h) k

pub mapped_within : (m : Memory) (a n b l : ℕ) (r : Rights) → a ≤ b → b + l ≤ a + n → IsMapped (mapped m a n r) b (b + l)
mapped_within m a n b l r low high = record { at = λ q h k. mapped_there m a n r q (omega arith) (omega arith) }

-- how many pages

abbrev same : ℕ → ℕ → Bool
same = eq_by_cmp nat_cmp

abbrev has : List ℕ → ℕ → Bool
has = is_member same

tied : (k x : ℕ) → k ≡ x → same k x ≡ true
tied k x e = unsigned_tied k x ∙ grind (arith, nat_tests)

untied : (k x : ℕ) → k ≢ x → same k x ≡ false
untied k x n = unsigned_tied k x ∙ grind (arith, nat_tests)

one : (k x : ℕ) → same k x ≡ true → k ≡ x
one k x h = elim (eqb_tells k x) [ inl e ↦ e.1 | inr e ↦ absurd (both_ways (same k x) (untied k x e.1) h) ]

record Picked (xs : List ℕ) : Type 0 where
  pub list : List ℕ
  pub long : set.len (set.from_list {R = nat_cmp} xs) ≡ length list
  pub apart : IsDistinct same list
  pub alike : (k : ℕ) → has list k ≡ has xs k

none_equal : (x : ℕ) (zs : List ℕ) → has zs x ≡ false → AllByRecursion (λ y. same x y ≡ false) zs
none_equal x [] h = tt
none_equal x (z ∷ zs) h = let parts = or_parts (same x z) (has zs x) h in (parts.0, none_equal x zs parts.1)

one_longer : (xs : List ℕ) (x : ℕ) (b : Bool) → has xs x ≡ b → set.len (set.from_list {R = nat_cmp} (x ∷ xs)) ≡ cond b (set.len (set.from_list {R = nat_cmp} xs)) (set.len (set.from_list {R = nat_cmp} xs) + 1)
one_longer xs x b e = set.len-insert nat_cmp_total (set.from_list xs) x ∙ ap (λ c. cond c (set.len (set.from_list {R = nat_cmp} xs)) (set.len (set.from_list {R = nat_cmp} xs) + 1)) (set.contains-from_list nat_cmp_total xs x ∙ e)

again : (xs : List ℕ) (x k : ℕ) → has xs x ≡ true → has xs k ≡ (same k x || has xs k)
again xs x k h = elim (eqb_tells k x) [
  | inl e ↦ (ap (has xs) e.1 ∙ h) ∙ sym (or_left (same k x) (has xs k) (tied k x e.1))
  | inr e ↦ sym (ap (λ b. b || has xs k) (untied k x e.1))
]

pick : (xs : List ℕ) → Picked xs
unfolding IsDistinct
pick [] = record { list = []; long = set.len-empty nat_cmp; apart = tt; alike = λ k. refl }
pick (x ∷ xs) = go (pick xs) (has xs x) refl
  where
    go : Picked xs → (b : Bool) → has xs x ≡ b → Picked (x ∷ xs)
    go p true e = record { list = p.list; long = one_longer xs x true e ∙ p.long; apart = p.apart; alike = λ k. p.alike k ∙ again xs x k e }
    go p false e = record {
      list = x ∷ p.list;
      long = one_longer xs x false e ∙ (let l = p.long in omega arith);
      apart = (none_equal x p.list (p.alike x ∙ e), p.apart);
      alike = λ k. ap (λ b. same k x || b) (p.alike k);
    }

bounded : (xs ys : List ℕ) → ((k : ℕ) → has xs k ≡ true → has ys k ≡ true) → set.len (set.from_list {R = nat_cmp} xs) ≤ length ys
bounded xs ys h =
    let p = pick xs in
    let le : length p.list ≤ length ys = length-le_from_is_member (eq_by_cmp_equiv nat_cmp_total) p.list ys p.apart (λ q t. h q (sym (p.alike q) ∙ t)) in
    let e = p.long in
    omega arith

from_quotient : (ks : List ℕ) (k : ℕ) → has (map (λ a. a / 4096) ks) k ≡ true → (q : ℕ) × (has ks q ≡ true) × (q / 4096 ≡ k)
from_quotient [] k h = absurd (cc)
from_quotient (x ∷ ks) k h = elim (or_cases (same k (x / 4096)) (has (map (λ a. a / 4096) ks) k) h) [
  | inl e ↦ (x, or_left _ _ (tied x x refl), sym (one k (x / 4096) e))
  | inr e ↦ let r = from_quotient ks k e in (r.0, or_right (same r.0 x) (has ks r.0) r.1, r.2)
]

pub count_on : (ps : List ℕ) (m : Memory) → IsOn ps m → page_count m ≤ length ps
unfolding page_count
count_on ps m h =
    bounded (map (λ a. a / 4096) (keys m)) ps (λ k t.
    let q = from_quotient (keys m) k t in
    subst (λ (n : ℕ). has ps n ≡ true) q.2 (h.on q.0 (contains_key-keys m q.0 ∙ q.1)))

pub on_nothing : (ps : List ℕ) → IsOn ps maps.empty
on_nothing ps = record { on = λ a h. absurd (let e = sym (ap is_some (maps.get-empty nat_cmp a)) ∙ h in let no : ⊥ = cc e in no) }

pub on_mapped : (ps : List ℕ) (m : Memory) (p n : ℕ) (r : Rights) → IsOn ps m → ((q : ℕ) → p ≤ q → q < p + n → has ps q ≡ true) → IsOn ps (mapped m (4096 * p) (4096 * n) r)
on_mapped ps m p n r h pages = record {
  on = λ a t. elim (mapped_from m (4096 * p) (4096 * n) r a t) [
    | inl there ↦ h.on a there
    | inr now ↦ pages (a / 4096) (omega (arith, now.0)) (omega (arith, now.1))
  ];
}

pub on_written : (ps : List ℕ) (m : Memory) (a : ℕ) (bs : List ℕ) → IsOn ps m → IsOn ps (written m a bs)
on_written ps m a bs h = record { on = λ q t. h.on q (sym (written_same m a bs q) ∙ t) }

pub mapped_on : (m : Memory) (a n low high : ℕ) (r : Rights) → IsMapped m low high → IsMapped (mapped m a n r) low high
mapped_on m a n low high r h = record { at = λ q l k. mapped_keeps m a n r q (h.at q l k) }

pub written_on : (m : Memory) (a low high : ℕ) (bs : List ℕ) → IsMapped m low high → IsMapped (written m a bs) low high
written_on m a low high bs h = record { at = λ q l k. written_same m a bs q ∙ h.at q l k }

-- the pages of segments

has_range : (a n q : ℕ) → a ≤ q → q < a + n → has (range_with_len a n) q ≡ true
has_range a zero q l h = absurd (omega arith)
has_range a (suc n) q l h = elim (eqb_tells q a) [
  | inl e ↦ or_left (same q a) (has (range_with_len (a + 1) n) q) (tied q a e.1)
  | inr e ↦ or_right (same q a) (has (range_with_len (a + 1) n) q) (has_range (a + 1) n q (omega (arith, e.1)) (omega arith))
]

has_front : (xs ys : List ℕ) (q : ℕ) → has xs q ≡ true → has (xs ++ ys) q ≡ true
has_front [] ys q h = absurd (cc)
has_front (x ∷ xs) ys q h = elim (or_cases (same q x) (has xs q) h) [
  | inl e ↦ or_left (same q x) (has (xs ++ ys) q) e
  | inr e ↦ or_right (same q x) (has (xs ++ ys) q) (has_front xs ys q e)
]

has_back : (xs ys : List ℕ) (q : ℕ) → has ys q ≡ true → has (xs ++ ys) q ≡ true
has_back [] ys q h = h
has_back (x ∷ xs) ys q h = or_right (same q x) (has (xs ++ ys) q) (has_back xs ys q h)

between : (x y a b : ℕ) → x < y → x < b → a < y → a < b → nat_lt (max x a) (min y b) ≡ true
between x y a b h i j k = grind (arith, nat_tests)

is_between : (x y a b : ℕ) → nat_lt (max x a) (min y b) ≡ true → (x < b) × (a < y)
is_between x y a b h = (grind (arith, nat_tests), grind (arith, nat_tests))

touches_its_pages : (e : Extent) (q : ℕ) → 0 < e.size → e.address / 4096 ≤ q → q < e.address / 4096 + ((e.address + e.size - 1) / 4096 + 1 - e.address / 4096) → touches q e ≡ true
touches_its_pages e q some l h = between (4096 * q) (4096 * q + 4096) e.address (e.address + e.size) (omega arith) (omega arith) (omega arith) (omega arith)

page_of_touched : (e : Extent) (q : ℕ) → touches q e ≡ true → has (pages_of e) q ≡ true
page_of_touched e q h =
    let b = is_between (4096 * q) (4096 * q + 4096) e.address (e.address + e.size) h in
    has_range (e.address / 4096) ((e.address + e.size - 1) / 4096 + 1 - e.address / 4096) q (omega (arith, b.1)) (omega (arith, b.0, b.1))

passes : (p : ℕ → Bool) (xs : List ℕ) (q : ℕ) → has xs q ≡ true → p q ≡ true → has (filter p xs) q ≡ true
passes p [] q h k = absurd (cc)
passes p (x ∷ xs) q h k = elim (or_cases (same q x) (has xs q) h) [
  | inl e ↦ rw (sym (ap p (one q x e)) ∙ k) (or_left (same q x) (has (filter p xs) q) e)
  | inr e ↦ go (p x) (passes p xs q e k)
]
  where
    go : (b : Bool) → has (filter p xs) q ≡ true → has (cond b (x ∷ filter p xs) (filter p xs)) q ≡ true
    go true t = or_right (same q x) (has (filter p xs) q) t
    go false t = t

page_under : (es : List Extent) (q : ℕ) → list_any (touches q) es ≡ true → has (pages_under es) q ≡ true
unfolding pages_under
page_under [] q h = absurd (cc)
page_under (e ∷ es) q h = elim (cases_Bool (list_any (touches q) es)) [
  | inl later ↦ has_back (filter (λ page. not (list_any (touches page) es)) (pages_of e)) (pages_under es) q (page_under es q later)
  | inr never ↦
      has_front (filter (λ page. not (list_any (touches page) es)) (pages_of e)) (pages_under es) q
      (passes (λ page. not (list_any (touches page) es)) (pages_of e) q (page_of_touched e q (touched (touches q e) (list_any (touches q) es) h never)) (ap not never))
]
  where
    touched : (a b : Bool) → (a || b) ≡ true → b ≡ false → a ≡ true
    touched true b s t = refl
    touched false b s t = absurd (both_ways b t s)

length-under : (es : List Extent) → length (pages_under es) ≡ extents_count es
unfolding pages_under
length-under [] = refl
length-under (e ∷ es) =
    length-append (filter (λ page. not (list_any (touches page) es)) (pages_of e)) (pages_under es)
    ∙ (let a = length-filter (λ (page : ℕ). not (list_any (touches page) es)) (pages_of e) in let b = length-under es in omega arith)

length-range : (a n : ℕ) → length (range_with_len a n) ≡ n
length-range a zero = refl
length-range a (suc n) = omega (arith, length-range (a + 1) n)

length-stack : length stack_pages ≡ 65
unfolding stack_pages
length-stack = length-range 0x3FFFFBF 65

on_stack_page : (q : ℕ) → 0x3FFFFBF ≤ q → q < 0x3FFFFBF + 65 → has stack_pages q ≡ true
unfolding stack_pages
on_stack_page q l h = has_range 0x3FFFFBF 65 q l h

-- a segment's memory

pub has_page : (ss : List Segment) (s : Segment) (q : ℕ) → list_any (λ t. touches q (extent_of t)) ss ≡ true → has (program_pages ss) q ≡ true
has_page ss s q h = has_back stack_pages (pages_under (map extent_of ss)) q (page_under (map extent_of ss) q (through ss ∙ h))
  where
    through : (ts : List Segment) → list_any (touches q) (map extent_of ts) ≡ list_any (λ t. touches q (extent_of t)) ts
    through [] = refl
    through (t ∷ ts) = ap (λ b. touches q (extent_of t) || b) (through ts)

length-program_pages : (ss : List Segment) → extents_count (map extent_of ss) ≤ 8192 → length (program_pages ss) ≤ 16384
length-program_pages ss h =
    let a = length-append stack_pages (pages_under (map extent_of ss)) in
    let b = length-under (map extent_of ss) in
    let c = length-stack in
    omega arith

pub segment_on : (ss : List Segment) (m : Memory) (i : ℕ) (s : Segment) → IsOn (program_pages ss) m → i < length ss → s ≡ get_or ss i s → All IsInRange ss → IsOn (program_pages ss) (segment_mapped m s)
segment_on ss m i s h l e all =
    let r : IsInRange s = subst IsInRange (sym e) (all i s l) in
    on_mapped (program_pages ss) m (s.address / 4096) ((s.address + s.size - 1) / 4096 + 1 - s.address / 4096) (rights_of s.rights) h
    (λ q low high. has_page ss s q
    (list_any_at (λ (t : Segment). touches q (extent_of t)) ss i s l (ap (λ (t : Segment). touches q (extent_of t)) (sym e) ∙ touches_its_pages (extent_of s) q r.some low high)))

pub segment_few : (ss : List Segment) (m : Memory) (i : ℕ) (s : Segment) → extents_count (map extent_of ss) ≤ 8192 → IsOn (program_pages ss) m → i < length ss → s ≡ get_or ss i s → All IsInRange ss → page_count (segment_mapped m s) ≤ 16384
segment_few ss m i s few h l e r =
    let a = count_on (program_pages ss) (segment_mapped m s) (segment_on ss m i s h l e r) in
    let b = length-program_pages ss few in
    omega arith

segment_done : (ps : List ℕ) (m : Memory) (s : Segment) → IsOn ps (segment_mapped m s) → IsOn ps (with_segment m s)
unfolding with_segment
segment_done ps m s h = on_written ps (segment_mapped m s) s.address s.bytes h

pub segment_room : (ss : List Segment) (m n : Memory) (i : ℕ) (s : Segment) → IsOn (program_pages ss) m → i < length ss → s ≡ get_or ss i s → All IsInRange ss → n ≡ with_segment m s → IsOn (program_pages ss) n
segment_room ss m n i s h l e all k = subst (IsOn (program_pages ss)) (sym k) (segment_done (program_pages ss) m s (segment_on ss m i s h l e all))

segment_keeps : (m : Memory) (s : Segment) (low high : ℕ) → IsMapped m low high → IsMapped (with_segment m s) low high
unfolding with_segment
segment_keeps m s low high h = written_on (segment_mapped m s) s.address low high s.bytes (mapped_on m (4096 * (s.address / 4096)) (4096 * ((s.address + s.size - 1) / 4096 + 1 - s.address / 4096)) low high (rights_of s.rights) h)

segments_keep : (ss : List Segment) (m : Memory) (low high : ℕ) → IsMapped m low high → IsMapped (fold with_segment m ss) low high
segments_keep [] m low high h = h
segments_keep (s ∷ ss) m low high h = segments_keep ss (with_segment m s) low high (segment_keeps m s low high h)

-- the stack

abbrev low : ℕ
low = stack_top - stack_size

abbrev stack_alone : Memory
stack_alone = mapped maps.empty (stack_top - stack_size) stack_size read_write

stack_on : IsOn stack_pages stack_alone
stack_on = on_mapped stack_pages maps.empty 0x3FFFFBF 64 read_write (on_nothing stack_pages) (λ q l h. on_stack_page q l (omega arith))

pub stack_few : page_count stack_alone ≤ 16384
stack_few = let a = count_on stack_pages stack_alone stack_on in let b = length-stack in omega arith

bare_on_stack : IsOn stack_pages bare_memory
bare_on_stack =
    on_written stack_pages (mapped (written stack_alone stack_top []) stack_top page read_execute) stack_top return_code
    (on_mapped stack_pages (written stack_alone stack_top []) 0x3FFFFFF 1 read_execute (on_written stack_pages stack_alone stack_top [] stack_on) (λ q l h. on_stack_page q (omega arith) (omega arith)))

pub bare_few : page_count (mapped (written stack_alone stack_top []) stack_top page read_execute) ≤ 16384
bare_few =
    let on = on_mapped stack_pages (written stack_alone stack_top []) 0x3FFFFFF 1 read_execute (on_written stack_pages stack_alone stack_top [] stack_on) (λ q l h. on_stack_page q (omega arith) (omega arith)) in
    let a = count_on stack_pages (mapped (written stack_alone stack_top []) stack_top page read_execute) on in
    let b = length-stack in
    omega arith

pub bare_on : (ss : List Segment) → IsOn (program_pages ss) bare_memory
bare_on ss = record { on = λ a h. has_front stack_pages (pages_under (map extent_of ss)) (a / 4096) (bare_on_stack.on a h) }

bare_stack : IsMapped bare_memory low stack_top
bare_stack =
    written_on (mapped (written stack_alone stack_top []) stack_top page read_execute) stack_top low stack_top return_code
    (mapped_on (written stack_alone stack_top []) stack_top page low stack_top read_execute
    (written_on stack_alone stack_top low stack_top [] (mapped_within maps.empty low stack_size low stack_size read_write (omega arith) (omega arith))))

within : (m : Memory) (a n : ℕ) → IsMapped m low stack_top → low ≤ a → a + n ≤ stack_top → IsMapped m a (a + n)
within m a n h l k = record { at = λ q low' high'. h.at q (omega arith) (omega arith) }

words_mapped : (image : Image) (s : Start) → IsOnStack s → IsMapped (with_image bare_memory image) s.address (s.address + length s.strings.items)
words_mapped image s on = within (with_image bare_memory image) s.address (length s.strings.items) (segments_keep image.segments bare_memory low stack_top bare_stack) on.words_low on.words_high

length-doublewords : (xs : List ℕ) → length (doublewords xs) ≡ 8 * length xs
length-doublewords [] = refl
length-doublewords (x ∷ xs) = length-append (to_le_bytes w64 x) (doublewords xs) ∙ omega (arith, length-doublewords xs)

vector_mapped : (image : Image) (s : Start) → IsOnStack s → IsMapped (written (with_image bare_memory image) s.address s.strings.items) s.sp (s.sp + length (doublewords s.vector.items))
vector_mapped image s on =
    written_on (with_image bare_memory image) s.address s.sp (s.sp + length (doublewords s.vector.items)) s.strings.items
    (within (with_image bare_memory image) s.sp (length (doublewords s.vector.items)) (segments_keep image.segments bare_memory low stack_top bare_stack) on.vector_low
    (let e = length-doublewords s.vector.items in let h = on.vector_high in omega arith))

pub start_on_stack : (s : Start) (argv env : List (List ℕ)) → IsStart s argv env → start_size argv env ≤ start_limit → IsOnStack s
start_on_stack s argv env is h =
    let a = is.address_is in
    let p = is.sp_is in
    let w = ap length is.strings_are in
    let v = ap length is.vector_is in
    record { words_low = omega arith; words_high = omega arith; vector_low = omega arith; vector_high = omega arith }

-- the same of what the code has at hand

all_loaded : (image : Image) (m n : Memory) (ss : List Segment) → m ≡ bare_memory → ss ≡ image.segments → n ≡ fold with_segment m ss → n ≡ with_image bare_memory image
all_loaded image m n ss a b k = k ∙ ap (λ (x : Memory). fold with_segment x ss) a ∙ ap (fold with_segment bare_memory) b

pub segments_room : (image : Image) (m : Memory) (ss : List Segment) → m ≡ bare_memory → ss ≡ image.segments → IsOn (program_pages ss) m
segments_room image m ss a b = subst (IsOn (program_pages ss)) (sym a) (bare_on ss)

pub words_there : (image : Image) (s : Start) (m n : Memory) (ss : List Segment) (ws : List ℕ) → m ≡ bare_memory → ss ≡ image.segments → n ≡ fold with_segment m ss → ws ≡ s.strings.items → IsOnStack s → IsMapped n s.address (s.address + length ws)
words_there image s m n ss ws a b k e on =
    subst (λ (x : Memory). IsMapped x s.address (s.address + length ws)) (sym (all_loaded image m n ss a b k))
    (subst (λ (x : List ℕ). IsMapped (with_image bare_memory image) s.address (s.address + length x)) (sym e) (words_mapped image s on))

pub vector_there : (image : Image) (s : Start) (m n o : Memory) (ss : List Segment) (ws ns v : List ℕ) → m ≡ bare_memory → ss ≡ image.segments → n ≡ fold with_segment m ss → ws ≡ s.strings.items → o ≡ written n s.address ws → ns ≡ s.vector.items → v ≡ doublewords ns → IsOnStack s → IsMapped o s.sp (s.sp + length v)
vector_there image s m n o ss ws ns v a b k e w f g on =
    let whole : o ≡ written (with_image bare_memory image) s.address s.strings.items = w ∙ ap (λ (x : Memory). written x s.address ws) (all_loaded image m n ss a b k) ∙ ap (written (with_image bare_memory image) s.address) e in
    subst (λ (x : Memory). IsMapped x s.sp (s.sp + length v)) (sym whole)
    (subst (λ (x : List ℕ). IsMapped (written (with_image bare_memory image) s.address s.strings.items) s.sp (s.sp + length x)) (sym (g ∙ ap doublewords f)) (vector_mapped image s on))
