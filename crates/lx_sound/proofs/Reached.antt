-- What is there stays reached: whatever is closed, or loses its name, goes once nothing else leads to it.
use Rattle.std.proofs.Common.{◌≡◌, ℕ, zero, suc, ◌+◌, ◌<◌, ◌≤◌, ◌||◌, Bool, true, false, cond, List, [], ◌∷◌, Option, Some, None, refl, ap, sym, subst, ◌∙◌, arith}
use Rattle.std.proofs.lemmas.Bool.Decides.{nat_tests}
use Rattle.std.proofs.lemmas.Cmp.{nat_list_cmp_total}
use Rattle.std.specs.Prelude.{◌==◌, nat_lt}
use Rattle.std.specs.List.{range_with_len}
use Rattle.std.specs.declared.cmp.Ordering.{Ordering}
use Rattle.std.specs.Ordering.{nat_cmp}
use Rattle.std.specs.Cmp.{IsTotalOrder, nat_cmp_total}
use Rattle.std.specs.FinMap as maps
use Rattle.std.specs.FinMap.{FinMap}
use Rattle.containers.specs.Vacant.{vacant}
use Rattle.containers.proofs.Vacant.{vacant_is_least}
use Rattle.lx_abi.specs.Limits.{most_fds}
use Rattle.lx_abi.specs.declared.outcome.Node.{Node}
use Rattle.lx_files.specs.Paths.{Path}
use Rattle.lx_files.specs.Kinds.{is_number, changed_node, changed_file}
use Rattle.lx_files.specs.Tallies.{total, weight, one_if, holds}
use Rattle.lx_files.specs.Trees.{has_path, created, with_content, without_path, without_node}
use Rattle.lx_files.specs.declared.tree.Tree.{Tree}
use Rattle.lx_files.proofs.Texts.{path_cmp-IsAntisymmetric}
use Rattle.lx_files.proofs.Totals.{total-insert, total-remove}
use Rattle.lx_open.specs.Kinds.{SlotMap, DescriptionMap, is_reading, is_writing, is_open, names_description, reads_pipe, writes_pipe, has_node, moved}
use Rattle.lx_open.specs.Opens.{pair, slot, description, is_named, has_readers, has_writers, is_open_node, with_slot, opened, with_pipe, with_offset, with_held, pipe_changed, inherited_slot, inherited_each, inherited}
use Rattle.lx_open.specs.Releases.{Held, node_released, pipe_released, object_released, description_dropped, description_released, slot_closed, closed, unlinked_node, unlinked, is_meant, closed_if_meant, closed_each, all_closed, closed_on_exec}
use Rattle.lx_open.specs.declared.description.Description.{Description}
use Rattle.lx_open.specs.declared.description.Object.{Object}
use Rattle.lx_open.specs.declared.description.Object.TheVariants.{Input, Console, ReadEnd, WriteEnd, Opened}
use Rattle.lx_open.specs.declared.description.Slot.{Slot}
use Rattle.lx_open.specs.declared.fd_table.FdTable.{FdTable}
use Rattle.lx_sound.specs.Reached.{AreReached}
use Rattle.lx_sound.proofs.Maps.{inserted_other, removed_other}

-- Whether a map holds a value that passes a test, once it has one more, another in a place, or one less.

module _ {K X : Type 0} {R : K → K → Ordering} (o : IsTotalOrder R) (same : maps.IsAntisymmetric R) (q : X → Bool) (m : FinMap R X) (k : K) where
  abbrev f : X → ℕ
  f x = one_if (q x)

  one_is : (x : X) → q x ≡ true → f x ≡ 1
  one_is x is = ap one_if is

  more_hold : (v : X) → maps.get m k ≡ None → holds q m ≡ true → holds q (maps.insert m k v) ≡ true
  more_hold v none h =
      let sum : total f (maps.insert m k v) + weight f (maps.get m k) ≡ total f m + f v = total-insert o f m k v in
      let zero : weight f (maps.get m k) ≡ 0 = ap (weight f) none in
      let some : nat_lt 0 (total f m) ≡ true = h in
      grind (arith, nat_tests, sum, zero, some)

  own_holds : (v : X) → q v ≡ true → holds q (maps.insert m k v) ≡ true
  own_holds v is =
      let sum : total f (maps.insert m k v) + weight f (maps.get m k) ≡ total f m + f v = total-insert o f m k v in
      let out : total f (maps.remove m k) + weight f (maps.get m k) ≡ total f m = total-remove o same f m k in
      let one : f v ≡ 1 = one_is v is in
      grind (arith, nat_tests, sum, out, one)

  same_hold : (v w : X) → maps.get m k ≡ Some w → q v ≡ q w → holds q m ≡ true → holds q (maps.insert m k v) ≡ true
  same_hold v w there alike h =
      let sum : total f (maps.insert m k v) + weight f (maps.get m k) ≡ total f m + f v = total-insert o f m k v in
      let own : weight f (maps.get m k) ≡ f w = ap (weight f) there in
      let equal : f v ≡ f w = ap one_if alike in
      let some : nat_lt 0 (total f m) ≡ true = h in
      grind (arith, nat_tests, sum, own, equal, some)

  others_hold : (w : X) → maps.get m k ≡ Some w → q w ≡ false → holds q m ≡ true → holds q (maps.remove m k) ≡ true
  others_hold w there other h =
      let out : total f (maps.remove m k) + weight f (maps.get m k) ≡ total f m = total-remove o same f m k in
      let zero : weight f (maps.get m k) ≡ 0 = ap (weight f) there ∙ ap one_if other in
      let some : nat_lt 0 (total f m) ≡ true = h in
      grind (arith, nat_tests, out, zero, some)

-- The same of the maps here.

module _ {X : Type 0} (q : X → Bool) (m : FinMap nat_cmp X) (k : ℕ) where
  more : (v : X) → maps.get m k ≡ None → holds q m ≡ true → holds q (maps.insert m k v) ≡ true
  more = more_hold nat_cmp_total maps.nat_cmp-IsAntisymmetric q m k

  own : (v : X) → q v ≡ true → holds q (maps.insert m k v) ≡ true
  own = own_holds nat_cmp_total maps.nat_cmp-IsAntisymmetric q m k

  alike : (v w : X) → maps.get m k ≡ Some w → q v ≡ q w → holds q m ≡ true → holds q (maps.insert m k v) ≡ true
  alike = same_hold nat_cmp_total maps.nat_cmp-IsAntisymmetric q m k

  others : (w : X) → maps.get m k ≡ Some w → q w ≡ false → holds q m ≡ true → holds q (maps.remove m k) ≡ true
  others = others_hold nat_cmp_total maps.nat_cmp-IsAntisymmetric q m k

either_on : (a b a' b' : Bool) → (a ≡ true → a' ≡ true) → (b ≡ true → b' ≡ true) → (a || b) ≡ true → (a' || b') ≡ true
either_on true b a' b' f g h = ap (λ x. x || b') (f refl)
either_on false true a' b' f g h = ap (λ x. a' || x) (g refl) ∙ right a'
  where
    right : (x : Bool) → (x || true) ≡ true
    right true = refl
    right false = refl
either_on false false a' b' f g h = absurd (cc h)

left_on : (a b : Bool) → a ≡ true → (a || b) ≡ true
left_on a b h = ap (λ x. x || b) h

right_on : (a b : Bool) → b ≡ true → (a || b) ≡ true
right_on true b h = refl
right_on false b h = h

itself : (n : ℕ) → (n == n) ≡ true
itself n = grind (arith, nat_tests)

equals : (n k : ℕ) → (n == k) ≡ true → n ≡ k
equals n k h = grind (arith, nat_tests)

turned : (n k : ℕ) → (n == k) ≡ false → (k == n) ≡ false
turned n k h = grind (arith, nat_tests)

-- each entry of a map with one put in is that one, or was there under another key
module _ {X : Type 0} (m : FinMap nat_cmp X) (k : ℕ) (v : X) where
  each : (P : ℕ → Type 0) → P k → ((n : ℕ) (x : X) → maps.get m n ≡ Some x → P n) → (n : ℕ) (x : X) → maps.get (maps.insert m k v) n ≡ Some x → P n
  each P new old n x is = go (n == k) refl
    where
      go : (b : Bool) → (n == k) ≡ b → P n
      go true same = subst P (sym (equals n k same)) new
      go false other = old n x (sym (inserted_other m k v n other) ∙ is)

  -- and of one without an entry it was there, under another key
  left_in : (n : ℕ) (x : X) → maps.get (maps.remove m k) n ≡ Some x → ((n == k) ≡ false) × (maps.get m n ≡ Some x)
  left_in n x is = go (n == k) refl
    where
      gone : maps.get (maps.remove m k) k ≡ None
      gone = maps.get-remove nat_cmp_total m k k ∙ grind (arith, nat_tests)

      go : (b : Bool) → (n == k) ≡ b → ((n == k) ≡ false) × (maps.get m n ≡ Some x)
      go true same = let none : maps.get (maps.remove m k) n ≡ None = ap (maps.get (maps.remove m k)) (equals n k same) ∙ gone in absurd (cc (none, is))
      go false other = (other, sym (removed_other m k n other) ∙ is)

-- What is opened.

module _ (tree : Tree) (fds : FdTable) (h : AreReached tree fds) where
  -- a free descriptor names what is there
  pub named_reached : (p fd : ℕ) (s : Slot) → maps.get fds.slots (pair p fd) ≡ None → AreReached tree (with_slot fds p fd s)
  named_reached p fd s free = record {
    named = λ n d is. more (names_description n) fds.slots (pair p fd) s free (h.named n d is);
    ended = h.ended;
    placed = h.placed;
  }

  pub opened_reached : (p fd : ℕ) (d : Description) (closes : Bool) → maps.get fds.slots (pair p fd) ≡ None → AreReached tree (opened fds p fd d closes)
  opened_reached p fd d closes free = record {
    named = each fds.descriptions v d (λ n. is_named (opened fds p fd d closes) n ≡ true)
        (own (names_description v) fds.slots (pair p fd) s (itself v))
        (λ n x is. more (names_description n) fds.slots (pair p fd) s free (h.named n x is));
    ended = λ n bytes is. either_on (has_readers fds n) (has_writers fds n) _ _ (more (reads_pipe n) fds.descriptions v d none) (more (writes_pipe n) fds.descriptions v d none) (h.ended n bytes is);
    placed = λ n x is. either_on (has_path tree n) (is_open_node fds n) _ _ (λ e. e) (more (has_node n) fds.descriptions v d none) (h.placed n x is);
  }
    where
      v : ℕ
      v = vacant fds.descriptions

      none : maps.get fds.descriptions (vacant fds.descriptions) ≡ None
      none = (vacant_is_least fds.descriptions).0

      s : Slot
      s = record { description = vacant fds.descriptions; closes_on_exec = closes }

  -- a pipe of which an end is open
  pub piped_reached : (pipe : ℕ) (bytes : List ℕ) → (has_readers fds pipe || has_writers fds pipe) ≡ true → AreReached tree (with_pipe fds pipe bytes)
  piped_reached pipe bytes has = record {
    named = h.named;
    ended = each fds.pipes pipe bytes (λ n. (has_readers fds n || has_writers fds n) ≡ true) has h.ended;
    placed = h.placed;
  }

  changed_reached : (pipe : ℕ) (f : List ℕ → List ℕ) (o : Option (List ℕ)) → maps.get fds.pipes pipe ≡ o → AreReached tree (pipe_changed fds pipe f o)
  changed_reached pipe f None is = h
  changed_reached pipe f (Some bytes) is = piped_reached pipe (f bytes) (h.ended pipe bytes is)

  pub held_reached : (pipe : ℕ) (f : List ℕ → List ℕ) → AreReached tree (with_held fds pipe f)
  held_reached pipe f = changed_reached pipe f (maps.get fds.pipes pipe) refl

  moved_reached_at : (n offset : ℕ) (o : Option Description) → maps.get fds.descriptions n ≡ o → AreReached tree (record fds { descriptions = moved fds.descriptions n offset o })
  moved_reached_at n offset None is = h
  moved_reached_at n offset (Some d) is = record {
    named = each fds.descriptions n (record d { offset = offset }) (λ i. is_named fds i ≡ true) (h.named n d is) h.named;
    ended = λ i bytes there. either_on (has_readers fds i) (has_writers fds i) _ _
        (alike (reads_pipe i) fds.descriptions n (record d { offset = offset }) d is refl) (alike (writes_pipe i) fds.descriptions n (record d { offset = offset }) d is refl) (h.ended i bytes there);
    placed = λ i x there. either_on (has_path tree i) (is_open_node fds i) _ _ (λ e. e) (alike (has_node i) fds.descriptions n (record d { offset = offset }) d is refl) (h.placed i x there);
  }

  pub moved_reached : (n offset : ℕ) → AreReached tree (with_offset fds n offset)
  moved_reached n offset = moved_reached_at n offset (maps.get fds.descriptions n) refl

  -- Nodes.

  pub created_reached : (path : Path) (x : Node) → maps.get tree.names path ≡ None → AreReached (created tree path x) fds
  created_reached path x free = record {
    named = h.named;
    ended = h.ended;
    placed = each tree.nodes v x (λ n. (has_path (created tree path x) n || is_open_node fds n) ≡ true)
        (left_on _ (is_open_node fds v) (own_holds nat_list_cmp_total path_cmp-IsAntisymmetric (is_number v) tree.names path v (itself v)))
        (λ n y is. either_on (has_path tree n) (is_open_node fds n) _ _ (more_hold nat_list_cmp_total path_cmp-IsAntisymmetric (is_number n) tree.names path v free) (λ e. e) (h.placed n y is));
  }
    where
      v : ℕ
      v = vacant tree.nodes

  content_reached_at : (node : ℕ) (f : List ℕ → List ℕ) (o : Option Node) → maps.get tree.nodes node ≡ o → AreReached (record tree { nodes = changed_file tree.nodes node f o }) fds
  content_reached_at node f None is = h
  content_reached_at node f (Some x) is = record {
    named = h.named;
    ended = h.ended;
    placed = each tree.nodes node (changed_node f x) (λ n. (has_path tree n || is_open_node fds n) ≡ true) (h.placed node x is) h.placed;
  }

  pub content_reached : (node : ℕ) (f : List ℕ → List ℕ) → AreReached (with_content tree node f) fds
  content_reached node f = content_reached_at node f (maps.get tree.nodes node) refl

-- both ends of a new pipe
pub pipes_reached : (tree : Tree) (fds : FdTable) → AreReached tree fds → (p first second pipe : ℕ) (r w : Description) (closes : Bool) → w.object ≡ WriteEnd pipe →
    maps.get fds.slots (pair p first) ≡ None → maps.get (opened fds p first r closes).slots (pair p second) ≡ None →
    AreReached tree (opened (opened (with_pipe fds pipe []) p first r closes) p second w closes)
pipes_reached tree fds h p first second pipe r w closes writes free free' =
    let one : FdTable = opened fds p first r closes in
    let two : FdTable = opened one p second w closes in
    piped_reached tree two (opened_reached tree one (opened_reached tree fds h p first r closes free) p second w closes free') pipe []
    (right_on (has_readers two pipe) _ (own (writes_pipe pipe) one.descriptions (vacant one.descriptions) w (ap (is_writing pipe) writes ∙ itself pipe)))

-- A child's slots.

abbrev Names : DescriptionMap → SlotMap → Type 0
Names ds slots = (n : ℕ) (d : Description) → maps.get ds n ≡ Some d → holds (names_description n) slots ≡ true

abbrev FreeFrom : SlotMap → ℕ → ℕ → Type 0
FreeFrom slots child a = (fd : ℕ) → a ≤ fd → fd < most_fds → maps.get slots (pair child fd) ≡ None

inherits_named : (ds : DescriptionMap) (slots : SlotMap) (child a : ℕ) (o : Option Slot) → a < most_fds → FreeFrom slots child a → Names ds slots → Names ds (inherited_slot slots child a o)
inherits_named ds slots child a None below free h = h
inherits_named ds slots child a (Some s) below free h = λ n d is. more (names_description n) slots (pair child a) s (free a (omega arith) below) (h n d is)

inherits_free : (slots : SlotMap) (child a : ℕ) (o : Option Slot) → FreeFrom slots child a → FreeFrom (inherited_slot slots child a o) child (a + 1)
inherits_free slots child a None free = λ fd le less. free fd (omega (arith, le)) less
inherits_free slots child a (Some s) free = λ fd le less. inserted_other slots (pair child a) s (pair child fd) (apart fd le) ∙ free fd (omega (arith, le)) less
  where
    apart : (fd : ℕ) → a + 1 ≤ fd → (pair child fd == pair child a) ≡ false
    apart fd le = grind (arith, nat_tests, le)

each_named : (ds : DescriptionMap) (slots : SlotMap) (parent child a n : ℕ) → a + n ≤ most_fds → FreeFrom slots child a → Names ds slots → Names ds (inherited_each slots parent child (range_with_len a n))
unfolding inherited_each
each_named ds slots parent child a zero le free h = h
each_named ds slots parent child a (suc n) le free h =
    each_named ds (inherited_slot slots child a (maps.get slots (pair parent a))) parent child (a + 1) n (omega (arith, le))
    (inherits_free slots child a (maps.get slots (pair parent a)) free) (inherits_named ds slots child a (maps.get slots (pair parent a)) (omega (arith, le)) free h)

pub inherited_reached : (tree : Tree) (fds : FdTable) → AreReached tree fds → (parent child : ℕ) → ((fd : ℕ) → fd < most_fds → maps.get fds.slots (pair child fd) ≡ None) → AreReached tree (inherited fds parent child)
unfolding inherited
inherited_reached tree fds h parent child free = record {
  named = each_named fds.descriptions fds.slots parent child 0 most_fds (omega arith) (λ fd le less. free fd less) h.named;
  ended = h.ended;
  placed = h.placed;
}

-- What is closed.

abbrev Reaches : Held → Type 0
Reaches x = AreReached x.tree x.fds

-- all but what one object is of
record AllBut (tree : Tree) (fds : FdTable) (o : Object) : Type 0 where
  named : (n : ℕ) (d : Description) → maps.get fds.descriptions n ≡ Some d → is_named fds n ≡ true
  ended : (n : ℕ) (bytes : List ℕ) → maps.get fds.pipes n ≡ Some bytes → is_reading n o ≡ false → is_writing n o ≡ false → (has_readers fds n || has_writers fds n) ≡ true
  placed : (n : ℕ) (x : Node) → maps.get tree.nodes n ≡ Some x → is_open n o ≡ false → (has_path tree n || is_open_node fds n) ≡ true

pub pipe_reached : (tree : Tree) (fds : FdTable) (pipe : ℕ) →
    ((n : ℕ) (d : Description) → maps.get fds.descriptions n ≡ Some d → is_named fds n ≡ true) →
    ((n : ℕ) (bytes : List ℕ) → maps.get fds.pipes n ≡ Some bytes → (pipe == n) ≡ false → (has_readers fds n || has_writers fds n) ≡ true) →
    ((n : ℕ) (x : Node) → maps.get tree.nodes n ≡ Some x → (has_path tree n || is_open_node fds n) ≡ true) →
    AreReached tree (pipe_released fds pipe)
pipe_reached tree fds pipe named ended placed = go (has_readers fds pipe || has_writers fds pipe) refl
  where
    any : (has_readers fds pipe || has_writers fds pipe) ≡ true → (n : ℕ) (bytes : List ℕ) → maps.get fds.pipes n ≡ Some bytes → (b : Bool) → (pipe == n) ≡ b → (has_readers fds n || has_writers fds n) ≡ true
    any has n bytes is true same = subst (λ i. (has_readers fds i || has_writers fds i) ≡ true) (equals pipe n same) has
    any has n bytes is false other = ended n bytes is other

    go : (b : Bool) → (has_readers fds pipe || has_writers fds pipe) ≡ b → AreReached tree (cond b fds (record fds { pipes = maps.remove fds.pipes pipe }))
    go true has = record { named = named; ended = λ n bytes is. any has n bytes is (pipe == n) refl; placed = placed }
    go false none = record {
      named = named;
      ended = λ n bytes is. let x = left_in fds.pipes pipe [] n bytes is in ended n bytes x.1 (turned n pipe x.0);
      placed = placed;
    }

pub node_reached : (tree : Tree) (fds : FdTable) (node : ℕ) →
    ((n : ℕ) (d : Description) → maps.get fds.descriptions n ≡ Some d → is_named fds n ≡ true) →
    ((n : ℕ) (bytes : List ℕ) → maps.get fds.pipes n ≡ Some bytes → (has_readers fds n || has_writers fds n) ≡ true) →
    ((n : ℕ) (x : Node) → maps.get tree.nodes n ≡ Some x → (node == n) ≡ false → (has_path tree n || is_open_node fds n) ≡ true) →
    AreReached (node_released tree fds node) fds
node_reached tree fds node named ended placed = go (has_path tree node || is_open_node fds node) refl
  where
    any : (has_path tree node || is_open_node fds node) ≡ true → (n : ℕ) (x : Node) → maps.get tree.nodes n ≡ Some x → (b : Bool) → (node == n) ≡ b → (has_path tree n || is_open_node fds n) ≡ true
    any has n x is true same = subst (λ i. (has_path tree i || is_open_node fds i) ≡ true) (equals node n same) has
    any has n x is false other = placed n x is other

    go : (b : Bool) → (has_path tree node || is_open_node fds node) ≡ b → AreReached (cond b tree (without_node tree node)) fds
    go true has = record { named = named; ended = ended; placed = λ n x is. any has n x is (node == n) refl }
    go false none = record {
      named = named;
      ended = ended;
      placed = λ n x is. let y = left_in tree.nodes node x n x is in placed n x y.1 (turned n node y.0);
    }

object_reached : (tree : Tree) (fds : FdTable) (o : Object) → AllBut tree fds o → Reaches (object_released tree fds o)
object_reached tree fds Input h = record { named = h.named; ended = λ n bytes is. h.ended n bytes is refl refl; placed = λ n x is. h.placed n x is refl }
object_reached tree fds Console h = record { named = h.named; ended = λ n bytes is. h.ended n bytes is refl refl; placed = λ n x is. h.placed n x is refl }
object_reached tree fds (ReadEnd pipe) h = pipe_reached tree fds pipe h.named (λ n bytes is other. h.ended n bytes is other refl) (λ n x is. h.placed n x is refl)
object_reached tree fds (WriteEnd pipe) h = pipe_reached tree fds pipe h.named (λ n bytes is other. h.ended n bytes is refl other) (λ n x is. h.placed n x is refl)
object_reached tree fds (Opened node) h = node_reached tree fds node h.named (λ n bytes is. h.ended n bytes is refl refl) (λ n x is other. h.placed n x is other)

-- all but one description
record AllButOne (tree : Tree) (fds : FdTable) (k : ℕ) : Type 0 where
  named : (n : ℕ) (d : Description) → maps.get fds.descriptions n ≡ Some d → (n == k) ≡ false → is_named fds n ≡ true
  ended : (n : ℕ) (bytes : List ℕ) → maps.get fds.pipes n ≡ Some bytes → (has_readers fds n || has_writers fds n) ≡ true
  placed : (n : ℕ) (x : Node) → maps.get tree.nodes n ≡ Some x → (has_path tree n || is_open_node fds n) ≡ true

dropped_reached : (tree : Tree) (fds : FdTable) (k : ℕ) → AllButOne tree fds k → (o : Option Description) → maps.get fds.descriptions k ≡ o → Reaches (description_dropped tree fds k o)
dropped_reached tree fds k h None there = record { named = λ n d is. all n d is (n == k) refl; ended = h.ended; placed = h.placed }
  where
    all : (n : ℕ) (d : Description) → maps.get fds.descriptions n ≡ Some d → (b : Bool) → (n == k) ≡ b → is_named fds n ≡ true
    all n d is true same = let none : maps.get fds.descriptions n ≡ None = ap (maps.get fds.descriptions) (equals n k same) ∙ there in absurd (cc (none, is))
    all n d is false other = h.named n d is other
dropped_reached tree fds k h (Some d) there =
    object_reached tree (record fds { descriptions = maps.remove fds.descriptions k }) d.object (record {
      named = λ n x is. let y = left_in fds.descriptions k d n x is in h.named n x y.1 y.0;
      ended = λ n bytes is unread unwritten. either_on (has_readers fds n) (has_writers fds n) _ _ (others (reads_pipe n) fds.descriptions k d there unread) (others (writes_pipe n) fds.descriptions k d there unwritten) (h.ended n bytes is);
      placed = λ n x is unopened. either_on (has_path tree n) (is_open_node fds n) _ _ (λ e. e) (others (has_node n) fds.descriptions k d there unopened) (h.placed n x is);
    })

description_reached : (tree : Tree) (fds : FdTable) (k : ℕ) → AllButOne tree fds k → Reaches (description_released tree fds k)
unfolding description_released
description_reached tree fds k h = go (is_named fds k) refl
  where
    all : is_named fds k ≡ true → (n : ℕ) (d : Description) → maps.get fds.descriptions n ≡ Some d → (b : Bool) → (n == k) ≡ b → is_named fds n ≡ true
    all has n d is true same = subst (λ i. is_named fds i ≡ true) (sym (equals n k same)) has
    all has n d is false other = h.named n d is other

    go : (b : Bool) → is_named fds k ≡ b → Reaches (cond b (record { tree = tree; fds = fds }) (description_dropped tree fds k (description fds k)))
    go true has = record { named = λ n d is. all has n d is (n == k) refl; ended = h.ended; placed = h.placed }
    go false none = dropped_reached tree fds k h (description fds k) refl

slot_reached : (tree : Tree) (fds : FdTable) → AreReached tree fds → (key : ℕ) (o : Option Slot) → ((s : Slot) → o ≡ Some s → maps.get fds.slots key ≡ Some s) → Reaches (slot_closed tree fds key o)
slot_reached tree fds h key None there = h
slot_reached tree fds h key (Some s) there =
    description_reached tree (record fds { slots = maps.remove fds.slots key }) s.description (record {
      named = λ n d is other. others (names_description n) fds.slots key s (there s refl) (turned n s.description other) (h.named n d is);
      ended = h.ended;
      placed = h.placed;
    })

slot_is : (fds : FdTable) (pid fd : ℕ) (s : Slot) → slot fds pid fd ≡ Some s → maps.get fds.slots (pair pid fd) ≡ Some s
slot_is fds pid fd s = go (nat_lt fd most_fds)
  where
    go : (b : Bool) → cond b (maps.get fds.slots (pair pid fd)) None ≡ Some s → maps.get fds.slots (pair pid fd) ≡ Some s
    go true e = e
    go false e = absurd (cc e)

pub closed_reached : (tree : Tree) (fds : FdTable) → AreReached tree fds → (pid fd : ℕ) → Reaches (closed tree fds pid fd)
unfolding closed
closed_reached tree fds h pid fd = slot_reached tree fds h (pair pid fd) (slot fds pid fd) (slot_is fds pid fd)

either_reached : (b : Bool) (x y : Held) → Reaches x → Reaches y → Reaches (cond b x y)
either_reached true x y p q = p
either_reached false x y p q = q

each_reached : (on_exec : Bool) (x : Held) (pid : ℕ) (ns : List ℕ) → Reaches x → Reaches (closed_each on_exec x pid ns)
unfolding closed_each
each_reached on_exec x pid [] h = h
each_reached on_exec x pid (fd ∷ ns) h =
    each_reached on_exec (closed_if_meant on_exec x pid fd) pid ns
    (either_reached (is_meant on_exec (slot x.fds pid fd)) (closed x.tree x.fds pid fd) x (closed_reached x.tree x.fds h pid fd) h)

pub all_closed_reached : (tree : Tree) (fds : FdTable) → AreReached tree fds → (pid : ℕ) → Reaches (all_closed tree fds pid)
unfolding all_closed
all_closed_reached tree fds h pid = each_reached false (record { tree = tree; fds = fds }) pid (range_with_len 0 most_fds) h

pub exec_reached : (tree : Tree) (fds : FdTable) → AreReached tree fds → (pid : ℕ) → Reaches (closed_on_exec tree fds pid)
unfolding closed_on_exec
exec_reached tree fds h pid = each_reached true (record { tree = tree; fds = fds }) pid (range_with_len 0 most_fds) h

-- A name that is taken away.

unlinked_at : (tree : Tree) (fds : FdTable) → AreReached tree fds → (path : Path) (o : Option ℕ) → maps.get tree.names path ≡ o → AreReached (unlinked_node (without_path tree path) fds o) fds
unlinked_at tree fds h path None there = record {
  named = h.named;
  ended = h.ended;
  placed = λ n x is. either_on (has_path tree n) (is_open_node fds n) _ _ (λ e. nothing n e) (λ e. e) (h.placed n x is);
}
  where
    nothing : (n : ℕ) → has_path tree n ≡ true → has_path (without_path tree path) n ≡ true
    nothing n e =
        let out : total (λ x. one_if (is_number n x)) (maps.remove tree.names path) + weight (λ x. one_if (is_number n x)) (maps.get tree.names path) ≡ total (λ x. one_if (is_number n x)) tree.names = total-remove nat_list_cmp_total path_cmp-IsAntisymmetric (λ x. one_if (is_number n x)) tree.names path in
        let zero : weight (λ x. one_if (is_number n x)) (maps.get tree.names path) ≡ 0 = ap (weight (λ x. one_if (is_number n x))) there in
        let some : nat_lt 0 (total (λ x. one_if (is_number n x)) tree.names) ≡ true = e in
        grind (arith, nat_tests, out, zero, some)
unlinked_at tree fds h path (Some node) there =
    node_reached (without_path tree path) fds node h.named h.ended
    (λ n x is other. either_on (has_path tree n) (is_open_node fds n) _ _ (others_hold nat_list_cmp_total path_cmp-IsAntisymmetric (is_number n) tree.names path node there other) (λ e. e) (h.placed n x is))

pub unlinked_reached : (tree : Tree) (fds : FdTable) → AreReached tree fds → (path : Path) → AreReached (unlinked tree fds path) fds
unfolding unlinked
unlinked_reached tree fds h path = unlinked_at tree fds h path (maps.get tree.names path) refl
