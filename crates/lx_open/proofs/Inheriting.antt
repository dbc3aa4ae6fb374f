-- A child has its parent's descriptors, one after another, and what it had comes back where one finds no memory.
use Rattle.std.proofs.Common.{◌≡◌, ℕ, ◌+◌, true, cond, Option, Some, None, ap, sym, subst, ◌∙◌, arith, rules}
use Rattle.std.proofs.lemmas.Bool.Decides.{nat_tests}
use Rattle.std.specs.Prelude.{IsSome}
use Rattle.std.specs.Ordering.{nat_cmp, eq_by_cmp}
use Rattle.std.specs.Cmp.{nat_cmp_total}
use Rattle.std.specs.FinMap as maps
use Rattle.containers.proofs.Maps.{insert-insert}
use Rattle.lx_files.specs.declared.counts.Counts.{Counts}
use Rattle.lx_files.specs.Tallies.{one_if, how_many, weight, Forgets}
use Rattle.lx_files.proofs.Totals.{total-insert, remove-insert, insert-same}
use Rattle.lx_open.specs.Kinds.{Slot, SlotMap, names_description}
use Rattle.lx_open.specs.Counted.{CountsAll, CountsMore, CountsFollow, put_back, fds_from}
use Rattle.lx_open.specs.Opens.{pair, inherited_slot, inherited_each}
use Rattle.lx_open.specs.Nexts.{IsNextOpen}
use Rattle.lx_open.proofs.Rows.{inherited_step}

itself : (n : ℕ) → eq_by_cmp nat_cmp n n ≡ true
itself n = grind (arith, nat_tests)

pub there : (m n : SlotMap) (k : ℕ) (s : Slot) → n ≡ maps.insert m k s → IsSome (maps.get n k)
there m n k s put =
    let is : maps.get n k ≡ Some s = ap (λ (t : SlotMap). maps.get t k) put ∙ maps.get-insert nat_cmp_total m k s k ∙ ap (λ b. cond b (Some s) (maps.get m k)) (itself k) in
    subst IsSome (sym is) (search rules)

-- what stood there is there again
pub stands_again : (m n : SlotMap) (k : ℕ) (s : Slot) (was : Option Slot) → was ≡ maps.get m k → n ≡ maps.insert m k s → put_back n k was ≡ m
stands_again m n k s None is put =
    ap (λ (t : SlotMap). maps.remove t k) put ∙ remove-insert nat_cmp_total maps.nat_cmp-IsAntisymmetric (λ x. 0) m k s (sym is)
stands_again m n k s (Some old) is put =
    ap (λ (t : SlotMap). maps.insert t k old) put ∙ insert-insert m k s old ∙ insert-same nat_cmp_total maps.nat_cmp-IsAntisymmetric (λ x. 0) m k old (sym is)

-- a slot more, and one count more
pub counts_all : (c d : Counts) (m n : SlotMap) (k : ℕ) (s : Slot) → CountsAll c m → CountsMore s c d → n ≡ maps.insert m k s → CountsAll d n
counts_all c d m n k s all more put i =
    let sum = total-insert nat_cmp_total (λ x. one_if (names_description i x)) m k s in
    let there = ap (how_many (names_description i)) put in
    let a = all i in let b = more i in
    omega (arith, sum, there, a, b)

-- what stood there counts no more once the others stand
pub counts_follow : (c d e f : Counts) (m n o : SlotMap) (k : ℕ) (s : Slot) (was : Option Slot) → CountsAll c m → CountsMore s c d → n ≡ maps.insert m k s → was ≡ maps.get m k → CountsFollow d n e o → Forgets names_description was e f → CountsFollow c m f o
counts_follow c d e f m n o k s was all more put is follow less i =
    let sum = total-insert nat_cmp_total (λ x. one_if (names_description i x)) m k s in
    let there = ap (how_many (names_description i)) put in
    let w = ap (weight (λ x. one_if (names_description i x))) is in
    let a = all i in let b = more i in let l = follow i in let r = less i in
    omega (arith, sum, there, w, a, b, l, r)

-- one is inherited, and then the others
pub inherits : (m n o : SlotMap) (parent child from fd key : ℕ) (s : Slot) → IsNextOpen m parent from (Some fd) → Some s ≡ maps.get m (pair parent fd) → key ≡ pair child fd → n ≡ maps.insert m key s
    → o ≡ inherited_each n parent child (fds_from (fd + 1)) → o ≡ inherited_each m parent child (fds_from from)
inherits m n o parent child from fd key s next some is put rest =
    rest
    ∙ ap (λ (t : SlotMap). inherited_each t parent child (fds_from (fd + 1))) (put ∙ ap (λ i. maps.insert m i s) is ∙ ap (inherited_slot m child fd) some)
    ∙ inherited_step m parent child from fd next
