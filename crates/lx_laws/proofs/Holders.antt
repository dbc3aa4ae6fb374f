-- What a map holds that passes a test stands at some key; so what is open has a holder.
use Rattle.std.proofs.Common.{◌≡◌, ℕ, ◌+◌, ◌<◌, ◌⊎◌, inl, inr, ⊎_elim, ◌||◌, ◌&&◌, Bool, true, false, cond, T, List, [], ◌∷◌, Some, None, refl, ap, sym, subst, ◌∙◌, arith}
use Rattle.std.proofs.lemmas.Bool.Decides.{nat_tests}
use Rattle.std.proofs.lemmas.Cmp.{nat_list_cmp_total}
use Rattle.std.specs.Prelude.{◌==◌, ◌/◌, ◌%◌, nat_lt, is_some}
use Rattle.std.specs.declared.cmp.Ordering.{Ordering}
use Rattle.std.specs.declared.cmp.Ordering.TheVariants.{Less, Equal, Greater}
use Rattle.std.specs.Ordering.{is_eq, is_lt}
use Rattle.std.specs.Cmp.{IsTotalOrder, tied_itself, nat_cmp_total}
use Rattle.std.specs.FinMap as maps
use Rattle.std.specs.FinMap.{FinMap}
use Rattle.std.specs.FinMap.Entries.{find, below_all, is_sorted}
use Rattle.lx_abi.specs.Limits.{most_fds}
use Rattle.lx_files.specs.Kinds.{is_number}
use Rattle.lx_files.specs.Tallies.{sum_of, total, one_if, holds}
use Rattle.lx_files.specs.Trees.{has_path}
use Rattle.lx_files.proofs.Texts.{path_cmp-IsAntisymmetric}
use Rattle.lx_open.specs.Kinds.{is_reading, is_writing, is_open, names_description, reads_pipe, writes_pipe, has_node}
use Rattle.lx_open.specs.Opens.{pair, is_named, has_readers, has_writers, is_open_node}
use Rattle.lx_open.specs.declared.description.Object.{Object}
use Rattle.lx_open.specs.declared.description.Object.TheVariants.{Input, Console, ReadEnd, WriteEnd, Opened}
use Rattle.lx_proc.specs.declared.state.Shared.{Shared}
use Rattle.lx_sound.specs.Parts.{PartsSound}
use Rattle.lx_laws.specs.Holders.{HasHolder, AllHaveHolders, NothingIsLeftOpen}

first : (a b : Bool) → T (a && b) → T a
first true b h = tt
first false b h = h

second : (a b : Bool) → T (a && b) → T b
second true b h = h
second false b h = absurd h

less : (o : Ordering) → T (is_lt o) → o ≡ Less
less Less h = refl
less Equal h = absurd h
less Greater h = absurd h

equal : (o : Ordering) → is_eq o ≡ true → o ≡ Equal
equal Less h = absurd (cc h)
equal Equal h = refl
equal Greater h = absurd (cc h)

equals : (n k : ℕ) → (n == k) ≡ true → n ≡ k
equals n k h = grind (arith, nat_tests)

without_none : (n : ℕ) → nat_lt 0 (0 + n) ≡ true → nat_lt 0 n ≡ true
without_none n h = let same : 0 + n ≡ n = omega arith in subst (λ i. nat_lt 0 i ≡ true) same h

module _ {K X : Type 0} {R : K → K → Ordering} (o : IsTotalOrder R) (same : maps.IsAntisymmetric R) (q : X → Bool) where
  abbrev f : X → ℕ
  f x = one_if (q x)

  none_below : (k : K) (es : List (K × X)) → T (below_all R k es) → find R k es ≡ None
  none_below k [] h = refl
  none_below k (e ∷ es) h = ap (λ r. cond (is_eq r) (Some e.1) (find R k es)) (less (R k e.0) (first _ _ h)) ∙ none_below k es (second _ _ h)

  abbrev Found : List (K × X) → Type 0
  Found es = (k : K) × (x : X) × (find R k es ≡ Some x) × (q x ≡ true)

  found : (es : List (K × X)) → T (is_sorted R es) → nat_lt 0 (sum_of f es) ≡ true → Found es
  found [] s h = absurd (cc h)
  found (e ∷ es) s h = go (q e.1) refl h (found es (second _ _ s))
    where
      later : Found es → Found (e ∷ es)
      later it = (it.0, it.1, apart (is_eq (R it.0 e.0)) refl ∙ it.2, it.3)
        where
          apart : (b : Bool) → is_eq (R it.0 e.0) ≡ b → cond (is_eq (R it.0 e.0)) (Some e.1) (find R it.0 es) ≡ find R it.0 es
          apart true is =
              let at : it.0 ≡ e.0 = same it.0 e.0 (equal (R it.0 e.0) is) in
              let none : find R it.0 es ≡ None = subst (λ k. find R k es ≡ None) (sym at) (none_below e.0 es (first _ _ s)) in
              let some : find R it.0 es ≡ Some it.1 = it.2 in
              absurd (cc (none, some))
          apart false is = ap (λ b. cond b (Some e.1) (find R it.0 es)) is

      go : (b : Bool) → q e.1 ≡ b → nat_lt 0 (one_if (q e.1) + sum_of f es) ≡ true → (nat_lt 0 (sum_of f es) ≡ true → Found es) → Found (e ∷ es)
      go true is h rest = (e.0, e.1, ap (λ r. cond (is_eq r) (Some e.1) (find R e.0 es)) (tied_itself o e.0), is)
      go false is h rest = later (rest (without_none (sum_of f es) (subst (λ b. nat_lt 0 (one_if b + sum_of f es) ≡ true) is h)))

  pub some_passes : (m : FinMap R X) → holds q m ≡ true → (k : K) × (x : X) × (maps.get m k ≡ Some x) × (q x ≡ true)
  unfolding total
  some_passes m h = let it = found (maps.entries m) (maps.entries_sorted m) h in (it.0, it.1, maps.get-entries m it.0 ∙ it.2, it.3)

either : (a b : Bool) → (a || b) ≡ true → (a ≡ true) ⊎ (b ≡ true)
either true b h = inl refl
either false b h = inr h

-- what a description is of

reads : (n : ℕ) (o : Object) → is_reading n o ≡ true → o ≡ ReadEnd n
reads n Input h = absurd (cc h)
reads n Console h = absurd (cc h)
reads n (ReadEnd pipe) h = ap ReadEnd (equals pipe n h)
reads n (WriteEnd pipe) h = absurd (cc h)
reads n (Opened node) h = absurd (cc h)

writes : (n : ℕ) (o : Object) → is_writing n o ≡ true → o ≡ WriteEnd n
writes n Input h = absurd (cc h)
writes n Console h = absurd (cc h)
writes n (ReadEnd pipe) h = absurd (cc h)
writes n (WriteEnd pipe) h = ap WriteEnd (equals pipe n h)
writes n (Opened node) h = absurd (cc h)

opens : (n : ℕ) (o : Object) → is_open n o ≡ true → o ≡ Opened n
opens n Input h = absurd (cc h)
opens n Console h = absurd (cc h)
opens n (ReadEnd pipe) h = absurd (cc h)
opens n (WriteEnd pipe) h = absurd (cc h)
opens n (Opened node) h = ap Opened (equals node n h)

module _ (s : Shared) (h : PartsSound s) where
  -- a key of a slot is a pid and a descriptor
  holder : (n : ℕ) → is_named s.fds n ≡ true → HasHolder s n
  holder n named =
      let it = some_passes nat_cmp_total maps.nat_cmp-IsAntisymmetric (names_description n) s.fds.slots named in
      let p : ℕ = it.0 / most_fds in
      let fd : ℕ = it.0 % most_fds in
      let less : fd < most_fds = omega arith in
      let key : pair p fd ≡ it.0 = omega arith in
      let there : maps.get s.fds.slots (pair p fd) ≡ Some it.1 = ap (maps.get s.fds.slots) key ∙ it.2 in
      let below : nat_lt fd most_fds ≡ true = grind (arith, nat_tests, less) in
      (p, fd, it.1, ap (λ b. cond b (maps.get s.fds.slots (pair p fd)) None) below ∙ there, equals it.1.description n it.3, h.owned p fd less (ap is_some there))

  pub all_have_holders : AllHaveHolders s
  all_have_holders = record {
    descriptions = λ n d is. holder n (h.reached.named n d is);
    pipes = λ n bytes is. ⊎_elim
        (λ has. let it = some_passes nat_cmp_total maps.nat_cmp-IsAntisymmetric (reads_pipe n) s.fds.descriptions has in inl (it.0, it.1, it.2, reads n it.1.object it.3))
        (λ has. let it = some_passes nat_cmp_total maps.nat_cmp-IsAntisymmetric (writes_pipe n) s.fds.descriptions has in inr (it.0, it.1, it.2, writes n it.1.object it.3))
        (either (has_readers s.fds n) (has_writers s.fds n) (h.reached.ended n bytes is));
    nodes = λ n x is. ⊎_elim
        (λ has. let it = some_passes nat_list_cmp_total path_cmp-IsAntisymmetric (is_number n) s.tree.names has in inl (it.0, it.2 ∙ ap Some (equals it.1 n it.3)))
        (λ has. let it = some_passes nat_cmp_total maps.nat_cmp-IsAntisymmetric (has_node n) s.fds.descriptions has in inr (it.0, it.1, it.2, opens n it.1.object it.3))
        (either (has_path s.tree n) (is_open_node s.fds n) (h.reached.placed n x is));
  }

pub nothing_is_left_open : NothingIsLeftOpen
nothing_is_left_open s tasks child sound = all_have_holders s sound.parts
