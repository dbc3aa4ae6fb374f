-- The gaps between pages, and the marks of them.
use Rattle.std.proofs.Common.{◌≡◌, ℕ, zero, suc, ◌+◌, ◌-◌, ◌*◌, ◌/◌, ◌<◌, ◌≤◌, ◌⊎◌, inl, inr, List, [], ◌∷◌, ◌++◌, length, Bool, true, false, Option, Some, None, refl, sym, ◌∙◌, ap, subst, arith}
use Rattle.std.specs.Prelude.{IsSome, IfSome, IfNone, is_some, is_none, not, IsTrue, IsFalse, Result, Ok, Err, OnOk, OnErr}
use Rattle.std.specs.Ordering.{nat_cmp}
use Rattle.std.specs.BTreeSet.{BTreeSet, contains, IsKeyRangeOf}
use Rattle.std.specs.FinMap.{get}
use Rattle.std.specs.Option.{unwrap_or}
use Rattle.std.specs.declared.ops.Bound.TheVariants.{Included, Unbounded}
use Rattle.rv_mem.specs.Beginnings.{Begun, IsAboveGap}
use Rattle.rv_mem.specs.Memory.{Memory, Cell, written}
use Rattle.rv_mem.specs.Mapping.{mapped, unmapped}
use Rattle.rv_mem.specs.Pages.{memory_of, IsIndex, Lacks}
use Rattle.rv_mem.specs.declared.page.Page.{Page}
use Rattle.rv_mem.specs.declared.rights.Rights.{Rights}
use Rattle.rv_mem.specs.declared.beginnings.Beginnings.{Beginnings}
use Rattle.rv_mem.proofs.Cells.{Index, a_page, page_cell, no_cell, stands, missing, search_for}
use Rattle.rv_mem.proofs.Mapped.{get-mapped_in, get-mapped_out, get-unmapped_in, get-unmapped_out}
use Rattle.rv_mem.proofs.Rooms.{Room}
use Rattle.rv_mem.proofs.Writes.{with_new, get-written_in, get-written_out}
use Rattle.rv_mem.proofs.Tables.{at_least_from, at_most_to}

-- where not no page has a number, the page is mapped
pub mapped_there : {index : Index} (ps : List Page) (n : ℕ) → IsIndex index ps → (Lacks ps n → ⊥) → IsSome (get (memory_of ps) (4096 * n))
mapped_there ps n t there = elim (search_for ps n) [
  | missing none ↦ absurd (there none)
  | stands i at ↦
      let p = a_page ps i at.0 in
      let cell = page_cell ps i p.0 (4096 * n) t at.0 p.1 (omega (arith, at.1)) in
      rw cell refl
]

-- the last mark up to a number is the greatest
pub greatest_mark : (s : BTreeSet ℕ) (hi m : ℕ) (r rest : List ℕ) → IsKeyRangeOf nat_cmp Unbounded (Included hi) s r → r ≡ rest ++ m ∷ [] → (n : ℕ) → m < n → n ≤ hi → contains nat_cmp s n ≡ true → ⊥
greatest_mark s hi m r rest is e n l g there =
    let most = at_least_from m n (is.4 m rest e n (tt, at_most_to n hi g) there) in
    omega (arith, most, l)

-- where a number stands to those from f up to e
pub data Standing (f e n : ℕ) : Type 0 where
  before : n < f → Standing f e n
  first : f ≡ n → Standing f e n
  between : f < n → n < e → Standing f e n
  last : e ≡ n → Standing f e n
  after : e < n → Standing f e n

-- the order of two numbers
data Order (x y : ℕ) : Type 0 where
  less : x < y → Order x y
  same : y ≡ x → Order x y
  more : y < x → Order x y

order : (x y : ℕ) → Order x y
order x y = elim (at_least x y) [
  | inl l ↦ less l
  | inr g ↦ elim (at_least y x) [ inl l ↦ more l | inr h ↦ same (omega (arith, g, h)) ]
]
  where
    at_least : (a b : ℕ) → (a < b) ⊎ (b ≤ a)
    at_least a b = grind arith

pub standing : (f e n : ℕ) → Standing f e n
standing f e n = elim (order n f) [
  | less l ↦ before l
  | same s ↦ first s
  | more l ↦ elim (order n e) [ less g ↦ between l g | same s ↦ last s | more g ↦ after g ]
]

-- ---- memories that pages were added to, or taken out of
beside : (f e n : ℕ) → f ≤ e → (n < f) ⊎ (e < n) → (4096 * n < 4096 * f) ⊎ (4096 * f + 4096 * (e - f) ≤ 4096 * n)
beside f e n le (inl l) = inl (omega (arith, l))
beside f e n le (inr g) = inr (omega (arith, g, le))

-- a memory that is another outside of the pages from f up to e
abbrev pub IsOutside : ℕ → ℕ → Memory → Memory → Type 0
IsOutside f e m m' = (q : ℕ) → (q < 4096 * f) ⊎ (4096 * f + 4096 * (e - f) ≤ q) → get m q ≡ get m' q

pub mapped_outside : (f e : ℕ) (m m' : Memory) (r : Rights) → m' ≡ mapped m (4096 * f) (4096 * (e - f)) r → IsOutside f e m m'
mapped_outside f e m m' r is = λ q out. sym (ap (λ (x : Memory). get x q) is ∙ get-mapped_out m (4096 * f) (4096 * (e - f)) r q out)

pub unmapped_outside : (f e : ℕ) (m m' : Memory) → m' ≡ unmapped m (4096 * f) (4096 * (e - f)) → IsOutside f e m m'
unmapped_outside f e m m' is = λ q out. sym (ap (λ (x : Memory). get x q) is ∙ get-unmapped_out m (4096 * f) (4096 * (e - f)) q out)

-- a gap that lies below the pages from f up to e stands in both memories
pub gap_before_all : (f e : ℕ) (m m' : Memory) → IsOutside f e m m' → (n pages : ℕ) → n < f → IsAboveGap m' n pages → IsAboveGap m n pages
gap_before_all f e m m' alike n pages l g = record {
  some = g.some;
  fits = g.fits;
  here = subst IsSome (sym (alike (4096 * n) (inl (omega (arith, l))))) g.here;
  free = λ k under near. alike (4096 * k) (inl (omega (arith, l, under))) ∙ g.free k under near;
}

-- so does one that lies above them, if a page is between
pub gap_after_all : (f e : ℕ) (m m' : Memory) → IsOutside f e m m' → (n pages k : ℕ) → f ≤ e → e ≤ k → k < n → IsSome (get m' (4096 * k)) → IsAboveGap m' n pages → IsAboveGap m n pages
gap_after_all f e m m' alike n pages k rising from l there g = record {
  some = g.some;
  fits = g.fits;
  here = subst IsSome (sym (alike (4096 * n) (inr (omega (arith, l, from, rising))))) g.here;
  free = λ i under near. elim (order k i) [
    | less above ↦ alike (4096 * i) (inr (omega (arith, above, from, rising))) ∙ g.free i under near
    | same is ↦ absurd (in_gap (omega (arith, is, near)))
    | more below ↦ absurd (in_gap (omega (arith, below, near)))
  ];
}
  where
    in_gap : n ≤ k + pages → ⊥
    in_gap near = let never = subst IsSome (g.free k l near) there in let no : ⊥ = cc never in no

pub none_within : (m : Memory) (f e : ℕ) (r : Rights) (n pages : ℕ) → f < n → n < e → IsAboveGap (mapped m (4096 * f) (4096 * (e - f)) r) n pages → ⊥
none_within m f e r n pages l u g =
    let never = sym (get-mapped_in m (4096 * f) (4096 * (e - f)) r (4096 * (n - 1)) (omega (arith, l)) (omega (arith, l, u))) ∙ g.free (n - 1) (omega (arith, l)) (omega (arith, l, g.some)) in
    let no : ⊥ = cc never in
    no

pub none_within_unmapped : (m : Memory) (f e n pages : ℕ) → f < n → n < e → IsAboveGap (unmapped m (4096 * f) (4096 * (e - f))) n pages → ⊥
none_within_unmapped m f e n pages l u g =
    let never = subst IsSome (get-unmapped_in m (4096 * f) (4096 * (e - f)) (4096 * n) (omega (arith, l)) (omega (arith, u, l))) g.here in
    let no : ⊥ = cc never in
    no

-- ---- memories that were written to
with_byte_there : (b : ℕ) (o : Option Cell) → is_some (with_new b o) ≡ is_some o
with_byte_there b None = refl
with_byte_there b (Some c) = refl

written_there : (m : Memory) (a : ℕ) (bs : List ℕ) (q : ℕ) → is_some (get (written m a bs) q) ≡ is_some (get m q)
written_there m a bs q = elim (order q a) [
  | less l ↦ ap is_some (get-written_out m a bs q (inl l))
  | same e ↦ from (omega (arith, e))
  | more g ↦ from (omega (arith, g))
]
  where
    from : a ≤ q → is_some (get (written m a bs) q) ≡ is_some (get m q)
    from l = elim (order q (a + length bs)) [
      | less g ↦ ap is_some (get-written_in m a bs q l g) ∙ with_byte_there _ (get m q)
      | same e ↦ ap is_some (get-written_out m a bs q (inr (omega (arith, e))))
      | more g ↦ ap is_some (get-written_out m a bs q (inr (omega (arith, g))))
    ]

none_too : (o p : Option Cell) → is_some o ≡ is_some p → o ≡ None → p ≡ None
none_too o None e n = refl
none_too o (Some c) e n = absurd (let never = sym (ap is_some n) ∙ e in let no : ⊥ = cc never in no)

-- the gaps are the same where the same addresses are mapped
same_gap : (m m' : Memory) → ((q : ℕ) → is_some (get m q) ≡ is_some (get m' q)) → (n pages : ℕ) → IsAboveGap m n pages → IsAboveGap m' n pages
same_gap m m' there n pages g = record {
  some = g.some;
  fits = g.fits;
  here = sym (there (4096 * n)) ∙ g.here;
  free = λ k under near. none_too (get m (4096 * k)) (get m' (4096 * k)) (there (4096 * k)) (g.free k under near);
}

begun_written : (b : Beginnings) (m : Memory) (a : ℕ) (bs : List ℕ) → Begun b m → Begun b (written m a bs)
begun_written b m a bs begun = λ n pages g. begun n pages (same_gap (written m a bs) m (written_there m a bs) n pages g)

pub begun_if_ok : {E : Type 0} (r : Result (Unit {0}) E) (b : Beginnings) (m m' : Memory) (a : ℕ) (bs : List ℕ) → OnOk r (m' ≡ written m a bs) → OnErr r (m' ≡ m) → Begun b m → Begun b m'
begun_if_ok (Ok x) b m m' a bs ok err begun = subst (Begun b) (sym ok) (begun_written b m a bs begun)
begun_if_ok (Err e) b m m' a bs ok err begun = subst (Begun b) (sym err) begun

pub begun_if : (w : Bool) (b : Beginnings) (m m' : Memory) (a : ℕ) (bs : List ℕ) → (IsTrue w → m' ≡ written m a bs) → (IsFalse w → m' ≡ m) → Begun b m → Begun b m'
begun_if true b m m' a bs ok err begun = subst (Begun b) (sym (ok refl)) (begun_written b m a bs begun)
begun_if false b m m' a bs ok err begun = subst (Begun b) (sym (err refl)) begun

-- where no page is, there is no gap before one
pub begun_empty : (b : Beginnings) (ps : List Page) → ps ≡ [] → Begun b (memory_of ps)
begun_empty b ps e = λ n pages g. absurd (let never = sym g.here ∙ ap is_some (no_cell ps (4096 * n) (λ k h s. omega (arith, h, ap length e))) in let no : ⊥ = cc never in no)

-- a page that is missing has no gap before it
pub no_gap : (ps : List Page) (n pages : ℕ) (o : Option ℕ) → is_none o ≡ true → IfNone o (Lacks ps n) → IsAboveGap (memory_of ps) n pages → ⊥
no_gap ps n pages None e none g =
    let first : n ≡ 4096 * n / 4096 = omega arith in
    let never = sym g.here ∙ ap is_some (no_cell ps (4096 * n) (λ k h s. none k h (s ∙ sym first))) in
    let no : ⊥ = cc never in
    no
no_gap ps n pages (Some i) e none g = let no : ⊥ = cc e in no

pub absent_if : (o : Option ℕ) (b : Bool) → is_some o ≡ not b → b ≡ true → is_none o ≡ true
absent_if o true e t = rw e refl
absent_if o false e t = absurd (let no : ⊥ = cc t in no)

-- a gap ends above the last page below
pub gap_above_page : {index : Index} (ps : List Page) (n below pages : ℕ) → IsIndex index ps → (Lacks ps below → ⊥) → below < n → IsAboveGap (memory_of ps) n pages → pages ≤ n - (below + 1)
gap_above_page ps n below pages t there l g = elim (order (below + pages) n) [
  | less s ↦ omega (arith, s)
  | same e ↦ absurd (never (omega (arith, e)))
  | more s ↦ absurd (never (omega (arith, s)))
]
  where
    never : n ≤ below + pages → ⊥
    never near = let e = subst IsSome (g.free below l near) (mapped_there ps below t there) in let no : ⊥ = cc e in no

-- the least number of a page from e on, or e if there is none
pub record IsNext (ps : List Page) (e top : ℕ) : Type 0 where
  pub from : e ≤ top
  pub free : (k : ℕ) → e ≤ k → k < top → Lacks ps k
  pub none : (k : ℕ) → top < k → (Lacks ps top → ⊥) ⊎ Lacks ps k

pub next_of : (ps : List Page) (e top : ℕ) (o : Option ℕ) → top ≡ unwrap_or o e → IfSome o (λ n. e ≤ n) → IfSome o (λ n. Lacks ps n → ⊥) → IfSome o (λ n. (k : ℕ) → e ≤ k → k < n → Lacks ps k) → IfNone o ((k : ℕ) → e ≤ k → Lacks ps k) → IsNext ps e top
next_of ps e top None is from there least absent = record {
  from = omega (arith, is);
  free = λ k l g. absurd (omega (arith, is, l, g));
  none = λ k l. inr (absent k (omega (arith, is, l)));
}
next_of ps e top (Some n) is from there least absent = record {
  from = omega (arith, is, from);
  free = λ k l g. least k l (omega (arith, is, g));
  none = λ k l. inl (subst (λ (i : ℕ). Lacks ps i → ⊥) (sym is) there);
}

-- a gap is before a page that is there
pub page_above_gap : (ps : List Page) (n pages : ℕ) → Lacks ps n → IsAboveGap (memory_of ps) n pages → ⊥
page_above_gap ps n pages none g = no_gap ps n pages None refl none g

-- ---- down to a gap
some_or_none : (o : Option Cell) → IsSome o ⊎ (o ≡ None)
some_or_none None = inr refl
some_or_none (Some c) = inl refl

-- where no gap of n pages lies before any page from the end of a room up to k, no page is there
pub free_up : (m : Memory) (k n p : ℕ) → 0 < n → ((q : ℕ) → p ≤ q → q < p + n → get m (4096 * q) ≡ None) → ((i : ℕ) → p + n ≤ i → i ≤ k → IsAboveGap m i n → ⊥)
    → (d x : ℕ) → p ≤ x → x < p + n + d → p + n + d ≤ k + 1 → get m (4096 * x) ≡ None
free_up m k n p some room none zero x from to within = room x from (omega (arith, to))
free_up m k n p some room none (suc d) x from to within = elim (order x (p + n + d)) [
  | less l ↦ free_up m k n p some room none d x from l (omega (arith, within))
  | more g ↦ absurd (omega (arith, g, to))
  | same e ↦ elim (some_or_none (get m (4096 * x))) [
    | inr nothing ↦ nothing
    | inl there ↦ absurd (none x (omega (arith, e)) (omega (arith, e, within)) (record {
      some = some;
      fits = omega (arith, e);
      here = there;
      free = λ i under near. free_up m k n p some room none d i (omega (arith, near, e)) (omega (arith, under, e)) (omega (arith, within));
    }))
  ]
]

-- no room reaches above the last gap of its size before a page, if too few pages are missing above that page
pub room_below_gap : (m : Memory) (s k n low high top a : ℕ) → IsSome (get m (4096 * k)) → ((i : ℕ) → s < i → i ≤ k → IsAboveGap m i n → ⊥) → Room m n low high a → a / 4096 + n ≤ top → top < k + 1 + n → k < top → a / 4096 + n ≤ s
room_below_gap m s k n low high top a here none r fits tight under = elim (order s (a / 4096 + n)) [
  | more l ↦ omega (arith, l)
  | same e ↦ omega (arith, e)
  | less l ↦ elim (order k (a / 4096 + n)) [
    | less g ↦ absurd (never (room k (omega (arith, fits, tight)) g))
    | same e ↦ absurd (never (above (omega (arith, e)) l))
    | more g ↦ absurd (never (above (omega (arith, g)) l))
  ]
]
  where
    room : (q : ℕ) → a / 4096 ≤ q → q < a / 4096 + n → get m (4096 * q) ≡ None
    room q from to = r.free (4096 * q) (omega (arith, from, r.edge)) (omega (arith, to, r.edge))

    above : a / 4096 + n ≤ k → s < a / 4096 + n → get m (4096 * k) ≡ None
    above from past = free_up m k n (a / 4096) (omega (arith, tight, under)) room (λ i l g. none i (omega (arith, l, past)) g) (k + 1 - (a / 4096 + n)) k (omega (arith, from)) (omega (arith, from)) (omega (arith, from))

    never : get m (4096 * k) ≡ None → ⊥
    never nothing = let e = subst IsSome nothing here in let no : ⊥ = cc e in no
