-- What is left once descriptors are closed.
use Rattle.std.proofs.Common.{◌≡◌, ℕ, zero, suc, ◌+◌, ◌-◌, ◌≤◌, ◌<◌, ◌||◌, Bool, true, false, cond, List, [], ◌∷◌, Option, Some, None, refl, ap, sym, subst, ◌∙◌, arith}
use Rattle.std.proofs.lemmas.Bool.Decides.{nat_tests}
use Rattle.std.specs.Prelude.{◌==◌, nat_lt}
use Rattle.std.specs.List.{range_with_len}
use Rattle.std.specs.Cmp.{nat_cmp_total}
use Rattle.std.specs.FinMap as maps
use Rattle.lx_abi.specs.declared.outcome.Node.{Node}
use Rattle.lx_abi.specs.Limits.{most_fds}
use Rattle.lx_files.specs.Kinds.{NodeMap, size_of}
use Rattle.lx_files.specs.Paths.{Path}
use Rattle.lx_files.specs.Tallies.{total, weight}
use Rattle.lx_files.specs.Trees.{node_at, has_path, without_path, without_node}
use Rattle.lx_files.specs.declared.tree.Tree.{Tree}
use Rattle.lx_files.proofs.Totals.{total-remove}
use Rattle.lx_open.specs.declared.description.Description.{Description}
use Rattle.lx_open.specs.declared.description.Object.{Object}
use Rattle.lx_open.specs.declared.description.Object.TheVariants.{Input, Console, ReadEnd, WriteEnd, Opened}
use Rattle.lx_open.specs.declared.description.Slot.{Slot}
use Rattle.lx_open.specs.declared.fd_table.FdTable.{FdTable}
use Rattle.lx_open.specs.Opens.{pair, slot, description, is_named, has_readers, has_writers, is_open_node}
use Rattle.lx_open.specs.Releases.{Held, node_released, pipe_released, object_released, description_dropped, description_released, slot_closed, closed, unlinked_node, unlinked, is_meant, closed_if_meant, closed_each, all_closed, closed_on_exec}
use Rattle.lx_sound.proofs.Maps.{removed}
use Rattle.lx_sound.proofs.Trees.{released_at, released_names}

-- no node is new
pub record FewerNodes (m m' : NodeMap) : Type 0 where
  pub nodes : (n : ℕ) (x : Node) → maps.get m' n ≡ Some x → maps.get m n ≡ Some x
  pub few : maps.len m' ≤ maps.len m
  pub sum : total size_of m' ≤ total size_of m

-- nor a descriptor or a description, and what stands at each path stays
pub record Fewer (tree : Tree) (fds : FdTable) (tree' : Tree) (fds' : FdTable) : Type 0 where
  pub kept : FewerNodes tree.nodes tree'.nodes
  pub names : tree'.names ≡ tree.names
  pub paths : (q : Path) → node_at tree' q ≡ node_at tree q
  pub slots : (key : ℕ) (x : Slot) → maps.get fds'.slots key ≡ Some x → maps.get fds.slots key ≡ Some x
  pub descriptions : (n : ℕ) (d : Description) → maps.get fds'.descriptions n ≡ Some d → maps.get fds.descriptions n ≡ Some d

abbrev pub FewerIn : Tree → FdTable → Held → Type 0
FewerIn tree fds h = Fewer tree fds h.tree h.fds

nodes_stay : (m : NodeMap) → FewerNodes m m
nodes_stay m = record { nodes = λ n x is. is; few = omega arith; sum = omega arith }

nodes_then : (a b c : NodeMap) → FewerNodes a b → FewerNodes b c → FewerNodes a c
nodes_then a b c h g = record {
  nodes = λ n x is. h.nodes n x (g.nodes n x is);
  few = let one = h.few in let two = g.few in omega (arith, one, two);
  sum = let one = h.sum in let two = g.sum in omega (arith, one, two);
}

all_stay : (tree : Tree) (fds : FdTable) → Fewer tree fds tree fds
all_stay tree fds = record { kept = nodes_stay tree.nodes; names = refl; paths = λ q. refl; slots = λ key x is. is; descriptions = λ n d is. is }

fewer_then : (a : Tree) (fa : FdTable) (b : Tree) (fb : FdTable) (c : Tree) (fc : FdTable) → Fewer a fa b fb → Fewer b fb c fc → Fewer a fa c fc
fewer_then a fa b fb c fc h g = record {
  kept = nodes_then a.nodes b.nodes c.nodes h.kept g.kept;
  names = g.names ∙ h.names;
  paths = λ q. g.paths q ∙ h.paths q;
  slots = λ key x is. h.slots key x (g.slots key x is);
  descriptions = λ n d is. h.descriptions n d (g.descriptions n d is);
}

take_few : (m : NodeMap) (k : ℕ) → maps.len (maps.remove m k) ≤ maps.len m
take_few m k = subst (λ n. n ≤ maps.len m) (sym (maps.len-remove nat_cmp_total m k)) (go (maps.contains_key m k))
  where
    go : (b : Bool) → cond b (maps.len m - 1) (maps.len m) ≤ maps.len m
    go true = omega arith
    go false = omega arith

without_fewer : (m : NodeMap) (node : ℕ) → FewerNodes m (maps.remove m node)
without_fewer m node = record {
  nodes = λ n x is. removed nat_cmp_total m node n x is;
  few = take_few m node;
  sum = let all : total size_of (maps.remove m node) + weight size_of (maps.get m node) ≡ total size_of m = total-remove nat_cmp_total maps.nat_cmp-IsAntisymmetric size_of m node in omega (arith, all);
}

abbrev nodes_of : Tree → NodeMap
nodes_of t = t.nodes

released_fewer : (tree : Tree) (fds : FdTable) (node : ℕ) → FewerNodes tree.nodes (node_released tree fds node).nodes
released_fewer tree fds node = go (has_path tree node || is_open_node fds node)
  where
    go : (b : Bool) → FewerNodes tree.nodes (nodes_of (cond b tree (without_node tree node)))
    go true = nodes_stay tree.nodes
    go false = without_fewer tree.nodes node

pub unlinked_fewer : (tree : Tree) (fds : FdTable) (path : Path) → FewerNodes tree.nodes (unlinked tree fds path).nodes
unfolding unlinked
unlinked_fewer tree fds path = go (maps.get tree.names path)
  where
    go : (o : Option ℕ) → FewerNodes tree.nodes (nodes_of (unlinked_node (without_path tree path) fds o))
    go None = nodes_stay tree.nodes
    go (Some node) = released_fewer (without_path tree path) fds node

-- What is closed.

node_fewer : (tree : Tree) (fds : FdTable) (node : ℕ) → Fewer tree fds (node_released tree fds node) fds
node_fewer tree fds node = record {
  kept = released_fewer tree fds node;
  names = released_names tree fds node;
  paths = λ q. released_at tree fds node q;
  slots = λ key x is. is;
  descriptions = λ n d is. is;
}

pipe_fewer : (tree : Tree) (fds : FdTable) (pipe : ℕ) → Fewer tree fds tree (pipe_released fds pipe)
pipe_fewer tree fds pipe = go (has_readers fds pipe || has_writers fds pipe)
  where
    go : (b : Bool) → Fewer tree fds tree (cond b fds (record fds { pipes = maps.remove fds.pipes pipe }))
    go true = all_stay tree fds
    go false = record { kept = nodes_stay tree.nodes; names = refl; paths = λ q. refl; slots = λ key x is. is; descriptions = λ n d is. is }

object_fewer : (tree : Tree) (fds : FdTable) (o : Object) → FewerIn tree fds (object_released tree fds o)
object_fewer tree fds Input = all_stay tree fds
object_fewer tree fds Console = all_stay tree fds
object_fewer tree fds (ReadEnd pipe) = pipe_fewer tree fds pipe
object_fewer tree fds (WriteEnd pipe) = pipe_fewer tree fds pipe
object_fewer tree fds (Opened node) = node_fewer tree fds node

module _ (tree : Tree) (fds : FdTable) where
  undescribed_fewer : (n : ℕ) → Fewer tree fds tree (record fds { descriptions = maps.remove fds.descriptions n })
  undescribed_fewer n = record {
    kept = nodes_stay tree.nodes;
    names = refl;
    paths = λ q. refl;
    slots = λ key x is. is;
    descriptions = λ i d is. removed nat_cmp_total fds.descriptions n i d is;
  }

  dropped_fewer : (n : ℕ) (o : Option Description) → FewerIn tree fds (description_dropped tree fds n o)
  dropped_fewer n None = all_stay tree fds
  dropped_fewer n (Some d) =
      let left : FdTable = record fds { descriptions = maps.remove fds.descriptions n } in
      fewer_then tree fds tree left (object_released tree left d.object).tree (object_released tree left d.object).fds (undescribed_fewer n) (object_fewer tree left d.object)

  description_fewer : (n : ℕ) → FewerIn tree fds (description_released tree fds n)
  unfolding description_released
  description_fewer n = go (is_named fds n)
    where
      go : (b : Bool) → FewerIn tree fds (cond b (record { tree = tree; fds = fds }) (description_dropped tree fds n (description fds n)))
      go true = all_stay tree fds
      go false = dropped_fewer n (description fds n)

slotless_fewer : (tree : Tree) (fds : FdTable) (key : ℕ) → Fewer tree fds tree (record fds { slots = maps.remove fds.slots key })
slotless_fewer tree fds key = record {
  kept = nodes_stay tree.nodes;
  names = refl;
  paths = λ q. refl;
  slots = λ k x is. removed nat_cmp_total fds.slots key k x is;
  descriptions = λ i d is. is;
}

slot_fewer : (tree : Tree) (fds : FdTable) (key : ℕ) (o : Option Slot) → FewerIn tree fds (slot_closed tree fds key o)
slot_fewer tree fds key None = all_stay tree fds
slot_fewer tree fds key (Some s) =
    let left : FdTable = record fds { slots = maps.remove fds.slots key } in
    let h : Held = description_released tree left s.description in
    fewer_then tree fds tree left h.tree h.fds (slotless_fewer tree fds key) (description_fewer tree left s.description)

pub closed_fewer : (tree : Tree) (fds : FdTable) (pid fd : ℕ) → FewerIn tree fds (closed tree fds pid fd)
unfolding closed
closed_fewer tree fds pid fd = slot_fewer tree fds (pair pid fd) (slot fds pid fd)

meant_fewer : (on_exec : Bool) (h : Held) (pid fd : ℕ) → FewerIn h.tree h.fds (closed_if_meant on_exec h pid fd)
meant_fewer on_exec h pid fd = go (is_meant on_exec (slot h.fds pid fd))
  where
    go : (b : Bool) → FewerIn h.tree h.fds (cond b (closed h.tree h.fds pid fd) h)
    go true = closed_fewer h.tree h.fds pid fd
    go false = all_stay h.tree h.fds

each_fewer : (on_exec : Bool) (h : Held) (pid : ℕ) (ns : List ℕ) → FewerIn h.tree h.fds (closed_each on_exec h pid ns)
unfolding closed_each
each_fewer on_exec h pid [] = all_stay h.tree h.fds
each_fewer on_exec h pid (fd ∷ ns) =
    let one : Held = closed_if_meant on_exec h pid fd in
    let all : Held = closed_each on_exec one pid ns in
    fewer_then h.tree h.fds one.tree one.fds all.tree all.fds (meant_fewer on_exec h pid fd) (each_fewer on_exec one pid ns)

pub all_closed_fewer : (tree : Tree) (fds : FdTable) (pid : ℕ) → FewerIn tree fds (all_closed tree fds pid)
unfolding all_closed
all_closed_fewer tree fds pid = each_fewer false (record { tree = tree; fds = fds }) pid (range_with_len 0 most_fds)

pub exec_fewer : (tree : Tree) (fds : FdTable) (pid : ℕ) → FewerIn tree fds (closed_on_exec tree fds pid)
unfolding closed_on_exec
exec_fewer tree fds pid = each_fewer true (record { tree = tree; fds = fds }) pid (range_with_len 0 most_fds)

-- Who has all of them closed has none.

abbrev pub NoSlot : Held → ℕ → Type 0
NoSlot h key = maps.get h.fds.slots key ≡ None

none_later : (h g : Held) (key : ℕ) → FewerIn h.tree h.fds g → NoSlot h key → NoSlot g key
none_later h g key fewer none = go (maps.get g.fds.slots key) refl
  where
    go : (o : Option Slot) → maps.get g.fds.slots key ≡ o → o ≡ None
    go None is = refl
    go (Some x) is = let there = fewer.slots key x is in absurd (cc (there, none))

pub slot_gone : (tree : Tree) (fds : FdTable) (key : ℕ) (o : Option Slot) → maps.get fds.slots key ≡ o → NoSlot (slot_closed tree fds key o) key
slot_gone tree fds key None is = is
slot_gone tree fds key (Some s) is =
    let left : FdTable = record fds { slots = maps.remove fds.slots key } in
    none_later (record { tree = tree; fds = left }) (description_released tree left s.description) key (description_fewer tree left s.description)
    (maps.get-remove nat_cmp_total fds.slots key key ∙ grind (arith, nat_tests))

-- a descriptor that is closed names nothing
pub closed_none : (tree : Tree) (fds : FdTable) (pid fd : ℕ) → nat_lt fd most_fds ≡ true → NoSlot (closed tree fds pid fd) (pair pid fd)
unfolding closed
closed_none tree fds pid fd below =
    let is : slot fds pid fd ≡ maps.get fds.slots (pair pid fd) = ap (λ b. cond b (maps.get fds.slots (pair pid fd)) None) below in
    subst (λ o. NoSlot (slot_closed tree fds (pair pid fd) o) (pair pid fd)) (sym is) (slot_gone tree fds (pair pid fd) (maps.get fds.slots (pair pid fd)) refl)

closed_gone : (h : Held) (pid fd : ℕ) → nat_lt fd most_fds ≡ true → NoSlot (closed_if_meant false h pid fd) (pair pid fd)
unfolding closed
closed_gone h pid fd below = go (maps.get h.fds.slots (pair pid fd)) refl
  where
    is_slot : (o : Option Slot) → maps.get h.fds.slots (pair pid fd) ≡ o → slot h.fds pid fd ≡ o
    is_slot o is = ap (λ b. cond b (maps.get h.fds.slots (pair pid fd)) None) below ∙ is

    go : (o : Option Slot) → maps.get h.fds.slots (pair pid fd) ≡ o → NoSlot (cond (is_meant false (slot h.fds pid fd)) (slot_closed h.tree h.fds (pair pid fd) (slot h.fds pid fd)) h) (pair pid fd)
    go None is = subst (λ o. NoSlot (cond (is_meant false o) (slot_closed h.tree h.fds (pair pid fd) o) h) (pair pid fd)) (sym (is_slot None is)) is
    go (Some s) is = subst (λ o. NoSlot (cond (is_meant false o) (slot_closed h.tree h.fds (pair pid fd) o) h) (pair pid fd)) (sym (is_slot (Some s) is)) (slot_gone h.tree h.fds (pair pid fd) (Some s) is)

each_gone : (h : Held) (pid fd a n : ℕ) → a ≤ fd → fd < a + n → nat_lt fd most_fds ≡ true → NoSlot (closed_each false h pid (range_with_len a n)) (pair pid fd)
unfolding closed_each
each_gone h pid fd a zero low high below = absurd (omega (arith, low, high))
each_gone h pid fd a (suc n) low high below = go (a == fd) refl (each_gone (closed_if_meant false h pid a) pid fd (a + 1) n)
  where
    one : Held
    one = closed_if_meant false h pid a

    go : (b : Bool) → (a == fd) ≡ b → (a + 1 ≤ fd → fd < a + 1 + n → nat_lt fd most_fds ≡ true → NoSlot (closed_each false one pid (range_with_len (a + 1) n)) (pair pid fd)) → NoSlot (closed_each false one pid (range_with_len (a + 1) n)) (pair pid fd)
    go true eq later =
        let is : a ≡ fd = grind (arith, nat_tests, eq) in
        let gone : NoSlot one (pair pid fd) = subst (λ i. NoSlot (closed_if_meant false h pid i) (pair pid fd)) (sym is) (closed_gone h pid fd below) in
        none_later one (closed_each false one pid (range_with_len (a + 1) n)) (pair pid fd) (each_fewer false one pid (range_with_len (a + 1) n)) gone
    go false other later = later (grind (arith, nat_tests, other, low)) (omega (arith, high)) below

pub none_left : (tree : Tree) (fds : FdTable) (pid fd : ℕ) → fd < most_fds → NoSlot (all_closed tree fds pid) (pair pid fd)
unfolding all_closed
none_left tree fds pid fd below = each_gone (record { tree = tree; fds = fds }) pid fd 0 most_fds (omega arith) below (grind (arith, nat_tests, below))
