-- Descriptors one after another.
use Rattle.std.proofs.Common.{◌≡◌, ℕ, zero, suc, ◌+◌, ◌-◌, ◌<◌, ◌≤◌, Bool, true, false, cond, List, [], ◌∷◌, Some, None, refl, ap, ◌∙◌, sym, arith}
use Rattle.std.specs.Prelude.{nat_lt}
use Rattle.std.specs.List.{range_with_len}
use Rattle.std.specs.FinMap as maps
use Rattle.lx_abi.specs.Limits.{most_fds}
use Rattle.lx_open.specs.Kinds.{SlotMap}
use Rattle.lx_open.specs.Opens.{FdTable, pair, slot, inherited_slot, inherited_each}
use Rattle.lx_open.specs.Releases.{Held, closed, is_meant, closed_if_meant, closed_each}
use Rattle.lx_open.specs.Nexts.{IsNextOpen}

-- the numbers from n on
abbrev pub from : ℕ → List ℕ
from n = range_with_len n (256 - n)

next : (n : ℕ) → n < 256 → from n ≡ n ∷ from (n + 1)
next n lt = let k : 256 - n ≡ suc (256 - (n + 1)) = omega (arith, lt) in rw k refl

last : (n : ℕ) → 256 ≤ n → from n ≡ []
last n le = let k : 256 - n ≡ 0 = omega (arith, le) in rw k refl

-- Closed.

closed_next : (on_exec : Bool) (h : Held) (pid n : ℕ) → n < 256 → closed_each on_exec (closed_if_meant on_exec h pid n) pid (from (n + 1)) ≡ closed_each on_exec h pid (from n)
unfolding closed_each
closed_next on_exec h pid n lt = sym (ap (closed_each on_exec h pid) (next n lt))

closed_last : (on_exec : Bool) (h : Held) (pid n : ℕ) → 256 ≤ n → h ≡ closed_each on_exec h pid (from n)
unfolding closed_each
closed_last on_exec h pid n le = sym (ap (closed_each on_exec h pid) (last n le))

pub no_slot : (fds : FdTable) (pid n : ℕ) → maps.get fds.slots (pair pid n) ≡ None → slot fds pid n ≡ None
no_slot fds pid n none = go (nat_lt n most_fds)
  where
    go : (b : Bool) → cond b (maps.get fds.slots (pair pid n)) None ≡ None
    go true = none
    go false = refl

untouched : (on_exec : Bool) (h : Held) (pid n : ℕ) → maps.get h.fds.slots (pair pid n) ≡ None → closed_if_meant on_exec h pid n ≡ h
untouched on_exec h pid n none = ap (λ o. cond (is_meant on_exec o) (closed h.tree h.fds pid n) h) (no_slot h.fds pid n none)

closed_skip : (on_exec : Bool) (h : Held) (pid k n m : ℕ) → m ≡ n + k → m ≤ 256 → ((q : ℕ) → n ≤ q → q < m → maps.get h.fds.slots (pair pid q) ≡ None)
    → closed_each on_exec h pid (from m) ≡ closed_each on_exec h pid (from n)
closed_skip on_exec h pid zero n m is le none = ap (λ i. closed_each on_exec h pid (from i)) (let same : m ≡ n = omega (arith, is) in same)
closed_skip on_exec h pid (suc k) n m is le none =
    closed_skip on_exec h pid k (n + 1) m (omega (arith, is)) le (λ q more less. none q (omega (arith, more)) less)
    ∙ sym (ap (λ t. closed_each on_exec t pid (from (n + 1))) (untouched on_exec h pid n (none n (omega arith) (omega (arith, is)))))
    ∙ closed_next on_exec h pid n (omega (arith, is, le))

-- one is closed, and those before it name nothing
pub closed_step : (on_exec : Bool) (h : Held) (pid n m : ℕ) → IsNextOpen h.fds.slots pid n (Some m)
    → closed_each on_exec (closed_if_meant on_exec h pid m) pid (from (m + 1)) ≡ closed_each on_exec h pid (from n)
closed_step on_exec h pid n m is_next =
    let le = is_next.0 in let lt = is_next.1 in
    closed_next on_exec h pid m lt ∙ closed_skip on_exec h pid (m - n) n m (omega (arith, le)) (omega (arith, lt)) is_next.3

pub closed_end : (on_exec : Bool) (h : Held) (pid n : ℕ) → n ≤ 256 → IsNextOpen h.fds.slots pid n None → h ≡ closed_each on_exec h pid (from n)
closed_end on_exec h pid n le none = closed_last on_exec h pid 256 (omega arith) ∙ closed_skip on_exec h pid (256 - n) n 256 (omega (arith, le)) (omega arith) none

-- Inherited.

inherited_next : (slots : SlotMap) (parent child n : ℕ) → n < 256
    → inherited_each (inherited_slot slots child n (maps.get slots (pair parent n))) parent child (from (n + 1)) ≡ inherited_each slots parent child (from n)
unfolding inherited_each
inherited_next slots parent child n lt = sym (ap (inherited_each slots parent child) (next n lt))

inherited_last : (slots : SlotMap) (parent child n : ℕ) → 256 ≤ n → slots ≡ inherited_each slots parent child (from n)
unfolding inherited_each
inherited_last slots parent child n le = sym (ap (inherited_each slots parent child) (last n le))

inherited_skip : (slots : SlotMap) (parent child k n m : ℕ) → m ≡ n + k → m ≤ 256 → ((q : ℕ) → n ≤ q → q < m → maps.get slots (pair parent q) ≡ None)
    → inherited_each slots parent child (from m) ≡ inherited_each slots parent child (from n)
inherited_skip slots parent child zero n m is le none = ap (λ i. inherited_each slots parent child (from i)) (let same : m ≡ n = omega (arith, is) in same)
inherited_skip slots parent child (suc k) n m is le none =
    inherited_skip slots parent child k (n + 1) m (omega (arith, is)) le (λ q more less. none q (omega (arith, more)) less)
    ∙ sym (ap (λ o. inherited_each (inherited_slot slots child n o) parent child (from (n + 1))) (none n (omega arith) (omega (arith, is))))
    ∙ inherited_next slots parent child n (omega (arith, is, le))

pub inherited_step : (slots : SlotMap) (parent child n m : ℕ) → IsNextOpen slots parent n (Some m)
    → inherited_each (inherited_slot slots child m (maps.get slots (pair parent m))) parent child (from (m + 1)) ≡ inherited_each slots parent child (from n)
inherited_step slots parent child n m is_next =
    let le = is_next.0 in let lt = is_next.1 in
    inherited_next slots parent child m lt ∙ inherited_skip slots parent child (m - n) n m (omega (arith, le)) (omega (arith, lt)) is_next.3

pub inherited_end : (slots : SlotMap) (parent child n : ℕ) → n ≤ 256 → IsNextOpen slots parent n None → slots ≡ inherited_each slots parent child (from n)
inherited_end slots parent child n le none = inherited_last slots parent child 256 (omega arith) ∙ inherited_skip slots parent child (256 - n) n 256 (omega (arith, le)) (omega arith) none
