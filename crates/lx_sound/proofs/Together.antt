-- What is done to the tree and the descriptors keeps them together.
use Rattle.std.proofs.Common.{◌≡◌, ℕ, ◌≤◌, ⊎_elim, ◌||◌, Bool, true, false, cond, List, [], ◌∷◌, length, Option, Some, None, refl, ap, sym, subst, ◌∙◌, arith}
use Rattle.std.proofs.lemmas.Bool.Decides.{nat_tests}
use Rattle.std.proofs.lemmas.Cmp.{nat_list_cmp_total}
use Rattle.std.specs.Prelude.{◌==◌, is_some, IsSome}
use Rattle.std.specs.List.{range_with_len}
use Rattle.std.specs.Cmp.{nat_cmp_total}
use Rattle.std.specs.FinMap as maps
use Rattle.containers.specs.Vacant.{vacant}
use Rattle.containers.proofs.Vacant.{vacant_is_least}
use Rattle.lx_abi.specs.Limits.{most_fds, pipe_size}
use Rattle.lx_abi.specs.declared.outcome.Node.{Node}
use Rattle.lx_abi.specs.declared.outcome.Node.TheVariants.{File, Directory}
use Rattle.lx_files.specs.Paths.{Path}
use Rattle.lx_files.specs.Kinds.{changed_node, changed_file}
use Rattle.lx_files.proofs.Texts.{path_cmp-IsAntisymmetric}
use Rattle.lx_files.specs.declared.tree.Tree.{Tree}
use Rattle.lx_files.specs.Trees.{has_path, created, with_content, without_path, without_node}
use Rattle.lx_open.specs.declared.description.Description.{Description}
use Rattle.lx_open.specs.declared.description.Object.{Object}
use Rattle.lx_open.specs.declared.description.Object.TheVariants.{Input, Console, ReadEnd, WriteEnd, Opened}
use Rattle.lx_open.specs.declared.description.Slot.{Slot}
use Rattle.lx_open.specs.declared.fd_table.FdTable.{FdTable}
use Rattle.lx_open.specs.Kinds.{SlotMap, is_reading, is_writing, is_open, names_description, reads_pipe, writes_pipe, has_node}
use Rattle.lx_open.specs.Opens.{pair, slot, description, is_named, has_readers, has_writers, is_open_node, with_slot, with_description, opened, with_pipe, with_offset, with_held, pipe_changed, inherited_slot, inherited_each, inherited}
use Rattle.lx_open.specs.Kinds.{moved}
use Rattle.lx_open.specs.Releases.{Held, node_released, pipe_released, object_released, description_dropped, description_released, slot_closed, closed, unlinked_node, unlinked, is_meant, closed_if_meant, closed_each, all_closed, closed_on_exec}
use Rattle.lx_sound.specs.Together.{is_file, is_there, HoldTogether}
use Rattle.lx_sound.proofs.Maps.{inserted, still_there, there_now, removed, removed_other, inserted_other, none_passes}

abbrev pub Together : Held → Type 0
Together h = HoldTogether h.tree h.fds

-- what stands elsewhere is there as before
abbrev SameThere : Tree → FdTable → Tree → FdTable → Type 0
SameThere tree fds tree' fds' = (o : Object) → is_there tree fds o ≡ true → is_there tree' fds' o ≡ true

-- Descriptors.

module _ (tree : Tree) (fds : FdTable) (h : HoldTogether tree fds) where
  -- a descriptor names what is there
  pub named_together : (pid fd : ℕ) (s : Slot) → IsSome (maps.get fds.descriptions s.description) → HoldTogether tree (with_slot fds pid fd s)
  named_together pid fd s some = record {
    slots = λ key named e. ⊎_elim (λ is. subst (λ (x : Slot). IsSome (maps.get fds.descriptions x.description)) is some) (λ old. h.slots key named old) (inserted nat_cmp_total fds.slots (pair pid fd) s key named e);
    objects = λ n d e. go d.object (h.objects n d e);
    pipes = h.pipes;
    names = h.names;
  }
    where
      go : SameThere tree fds tree (with_slot fds pid fd s)
      go Input e = e
      go Console e = e
      go (ReadEnd pipe) e = e
      go (WriteEnd pipe) e = e
      go (Opened node) e = e

  -- a description of what is there
  pub described_together : (n : ℕ) (d : Description) → is_there tree fds d.object ≡ true → HoldTogether tree (with_description fds n d)
  described_together n d there = record {
    slots = λ key named e. still_there nat_cmp_total fds.descriptions n d named.description (h.slots key named e);
    objects = λ i x e. go x.object (⊎_elim (λ is. subst (λ (x : Description). is_there tree fds x.object ≡ true) is there) (λ old. h.objects i x old) (inserted nat_cmp_total fds.descriptions n d i x e));
    pipes = h.pipes;
    names = h.names;
  }
    where
      go : SameThere tree fds tree (with_description fds n d)
      go Input e = e
      go Console e = e
      go (ReadEnd pipe) e = e
      go (WriteEnd pipe) e = e
      go (Opened node) e = e

  pub piped_together : (pipe : ℕ) (bytes : List ℕ) → length bytes ≤ pipe_size → HoldTogether tree (with_pipe fds pipe bytes)
  piped_together pipe bytes le = record {
    slots = h.slots;
    objects = λ n d e. go d.object (h.objects n d e);
    pipes = λ n x e. ⊎_elim (λ is. subst (λ (x : List ℕ). length x ≤ pipe_size) is le) (λ old. h.pipes n x old) (inserted nat_cmp_total fds.pipes pipe bytes n x e);
    names = h.names;
  }
    where
      go : SameThere tree fds tree (with_pipe fds pipe bytes)
      go Input e = e
      go Console e = e
      go (ReadEnd q) e = still_there nat_cmp_total fds.pipes pipe bytes q e
      go (WriteEnd q) e = still_there nat_cmp_total fds.pipes pipe bytes q e
      go (Opened node) e = e

  moved_at : (n offset : ℕ) (o : Option Description) → maps.get fds.descriptions n ≡ o → HoldTogether tree (record fds { descriptions = moved fds.descriptions n offset o })
  moved_at n offset None e = h
  moved_at n offset (Some d) e = described_together n (record d { offset = offset }) (h.objects n d e)

  pub moved_together : (n offset : ℕ) → HoldTogether tree (with_offset fds n offset)
  moved_together n offset = moved_at n offset (maps.get fds.descriptions n) refl

  changed_at : (pipe : ℕ) (f : List ℕ → List ℕ) → ((bytes : List ℕ) → maps.get fds.pipes pipe ≡ Some bytes → length (f bytes) ≤ pipe_size) → (o : Option (List ℕ)) → maps.get fds.pipes pipe ≡ o → HoldTogether tree (pipe_changed fds pipe f o)
  changed_at pipe f le None e = h
  changed_at pipe f le (Some bytes) e = piped_together pipe (f bytes) (le bytes e)

  pub held_together : (pipe : ℕ) (f : List ℕ → List ℕ) → ((bytes : List ℕ) → maps.get fds.pipes pipe ≡ Some bytes → length (f bytes) ≤ pipe_size) → HoldTogether tree (with_held fds pipe f)
  held_together pipe f le = changed_at pipe f le (maps.get fds.pipes pipe) refl

  -- other slots, of descriptions that are there
  slots_together : (slots : SlotMap) → ((key : ℕ) (named : Slot) → maps.get slots key ≡ Some named → IsSome (maps.get fds.descriptions named.description)) → HoldTogether tree (record fds { slots = slots })
  slots_together slots there = record { slots = there; objects = λ n d e. go d.object (h.objects n d e); pipes = h.pipes; names = h.names }
    where
      go : SameThere tree fds tree (record fds { slots = slots })
      go Input e = e
      go Console e = e
      go (ReadEnd pipe) e = e
      go (WriteEnd pipe) e = e
      go (Opened node) e = e

pub opened_together : (tree : Tree) (fds : FdTable) → HoldTogether tree fds → (pid fd : ℕ) (d : Description) (closes : Bool) → is_there tree fds d.object ≡ true → HoldTogether tree (opened fds pid fd d closes)
opened_together tree fds h pid fd d closes there =
    let n = vacant fds.descriptions in
    named_together tree (with_description fds n d) (described_together tree fds h n d there) pid fd (record { description = n; closes_on_exec = closes }) (subst (λ (x : Option Description). IsSome x) (sym (there_now nat_cmp_total fds.descriptions n d)) refl)

-- A child's slots.

abbrev SlotsAre : FdTable → SlotMap → Type 0
SlotsAre fds slots = (key : ℕ) (named : Slot) → maps.get slots key ≡ Some named → IsSome (maps.get fds.descriptions named.description)

inherits_one : (fds : FdTable) (slots : SlotMap) (child fd key : ℕ) (o : Option Slot) → maps.get slots key ≡ o → SlotsAre fds slots → SlotsAre fds (inherited_slot slots child fd o)
inherits_one fds slots child fd key None is h = h
inherits_one fds slots child fd key (Some s) is h = λ k named e.
    ⊎_elim (λ eq. subst (λ (x : Slot). IsSome (maps.get fds.descriptions x.description)) eq (h key s is)) (λ old. h k named old) (inserted nat_cmp_total slots (pair child fd) s k named e)

inherits_each : (fds : FdTable) (slots : SlotMap) (parent child : ℕ) (ns : List ℕ) → SlotsAre fds slots → SlotsAre fds (inherited_each slots parent child ns)
unfolding inherited_each
inherits_each fds slots parent child [] h = h
inherits_each fds slots parent child (fd ∷ ns) h =
    inherits_each fds (inherited_slot slots child fd (maps.get slots (pair parent fd))) parent child ns
    (inherits_one fds slots child fd (pair parent fd) (maps.get slots (pair parent fd)) refl h)

pub inherited_together : (tree : Tree) (fds : FdTable) → HoldTogether tree fds → (parent child : ℕ) → HoldTogether tree (inherited fds parent child)
unfolding inherited
inherited_together tree fds h parent child =
    slots_together tree fds h (inherited_each fds.slots parent child (range_with_len 0 most_fds)) (inherits_each fds fds.slots parent child (range_with_len 0 most_fds) h.slots)

-- Nodes.

module _ (tree : Tree) (fds : FdTable) (h : HoldTogether tree fds) where
  vacant_is_none : maps.get tree.nodes (vacant tree.nodes) ≡ None
  vacant_is_none = (vacant_is_least tree.nodes).0

  pub created_together : (path : Path) (x : Node) → HoldTogether (created tree path x) fds
  created_together path x = record {
    slots = h.slots;
    objects = λ n d e. go d.object (h.objects n d e);
    pipes = h.pipes;
    names = λ p n e. ⊎_elim
        (λ is. subst (λ k. IsSome (maps.get (created tree path x).nodes k)) is (subst (λ (y : Option Node). IsSome y) (sym (there_now nat_cmp_total tree.nodes (vacant tree.nodes) x)) refl))
        (λ old. still_there nat_cmp_total tree.nodes (vacant tree.nodes) x n (h.names p n old))
        (inserted nat_list_cmp_total tree.names path (vacant tree.nodes) p n e);
  }
    where
      at_node : (node : ℕ) (b : Bool) → (node == vacant tree.nodes) ≡ b → is_file (maps.get tree.nodes node) ≡ true → is_file (maps.get (maps.insert tree.nodes (vacant tree.nodes) x) node) ≡ true
      at_node node false other e = ap is_file (inserted_other tree.nodes (vacant tree.nodes) x node other) ∙ e
      at_node node true eq e =
          let is : node ≡ vacant tree.nodes = grind (arith, nat_tests, eq) in
          let no : is_file (maps.get tree.nodes node) ≡ false = ap (λ n. is_file (maps.get tree.nodes n)) is ∙ ap is_file vacant_is_none in
          absurd (cc (no, e))

      go : SameThere tree fds (created tree path x) fds
      go Input e = e
      go Console e = e
      go (ReadEnd pipe) e = e
      go (WriteEnd pipe) e = e
      go (Opened node) e = at_node node (node == vacant tree.nodes) refl e

  file_changed : (f : List ℕ → List ℕ) (x : Node) → is_file (Some (changed_node f x)) ≡ is_file (Some x)
  file_changed f (File bytes) = refl
  file_changed f Directory = refl

  content_at : (node : ℕ) (f : List ℕ → List ℕ) (o : Option Node) → maps.get tree.nodes node ≡ o → HoldTogether (record tree { nodes = changed_file tree.nodes node f o }) fds
  content_at node f None is = h
  content_at node f (Some x) is = record {
    slots = h.slots;
    objects = λ n d e. go d.object (h.objects n d e);
    pipes = h.pipes;
    names = λ p n e. still_there nat_cmp_total tree.nodes node (changed_node f x) n (h.names p n e);
  }
    where
      at_node : (n : ℕ) (b : Bool) → (n == node) ≡ b → is_file (maps.get tree.nodes n) ≡ true → is_file (maps.get (maps.insert tree.nodes node (changed_node f x)) n) ≡ true
      at_node n false other e = ap is_file (inserted_other tree.nodes node (changed_node f x) n other) ∙ e
      at_node n true eq e =
          let same : n ≡ node = grind (arith, nat_tests, eq) in
          ap (λ k. is_file (maps.get (maps.insert tree.nodes node (changed_node f x)) k)) same
          ∙ ap is_file (there_now nat_cmp_total tree.nodes node (changed_node f x)) ∙ file_changed f x ∙ sym (ap is_file is) ∙ ap (λ k. is_file (maps.get tree.nodes k)) (sym same) ∙ e

      go : SameThere tree fds (record tree { nodes = maps.insert tree.nodes node (changed_node f x) }) fds
      go Input e = e
      go Console e = e
      go (ReadEnd pipe) e = e
      go (WriteEnd pipe) e = e
      go (Opened n) e = at_node n (n == node) refl e

  pub content_together : (node : ℕ) (f : List ℕ → List ℕ) → HoldTogether (with_content tree node f) fds
  content_together node f = content_at node f (maps.get tree.nodes node) refl

  pub without_path_together : (path : Path) → HoldTogether (without_path tree path) fds
  without_path_together path = record {
    slots = h.slots;
    objects = λ n d e. go d.object (h.objects n d e);
    pipes = h.pipes;
    names = λ p n e. h.names p n (removed nat_list_cmp_total tree.names path p n e);
  }
    where
      go : SameThere tree fds (without_path tree path) fds
      go Input e = e
      go Console e = e
      go (ReadEnd pipe) e = e
      go (WriteEnd pipe) e = e
      go (Opened n) e = e

  neither : (x y : Bool) → (x || y) ≡ false → (x ≡ false) × (y ≡ false)
  neither true y e = absurd (cc e)
  neither false y e = (refl, e)

  without_node_together : (node : ℕ) → has_path tree node ≡ false → is_open_node fds node ≡ false → HoldTogether (without_node tree node) fds
  without_node_together node unnamed unopened = record {
    slots = h.slots;
    objects = λ n d e. go d.object (none_passes nat_cmp_total maps.nat_cmp-IsAntisymmetric (has_node node) fds.descriptions unopened n d e) (h.objects n d e);
    pipes = h.pipes;
    names = λ p n e. subst (λ (y : Option Node). IsSome y) (sym (removed_other tree.nodes node n (none_passes nat_list_cmp_total path_cmp-IsAntisymmetric (λ x. x == node) tree.names unnamed p n e))) (h.names p n e);
  }
    where
      go : (o : Object) → is_open node o ≡ false → is_there tree fds o ≡ true → is_there (without_node tree node) fds o ≡ true
      go Input other e = e
      go Console other e = e
      go (ReadEnd pipe) other e = e
      go (WriteEnd pipe) other e = e
      go (Opened n) other e = ap is_file (removed_other tree.nodes node n other) ∙ e

  pub node_together : (node : ℕ) → HoldTogether (node_released tree fds node) fds
  node_together node = go (has_path tree node || is_open_node fds node) refl
    where
      go : (b : Bool) → (has_path tree node || is_open_node fds node) ≡ b → HoldTogether (cond b tree (without_node tree node)) fds
      go true e = h
      go false e = without_node_together node (neither (has_path tree node) _ e).0 (neither (has_path tree node) _ e).1

  without_pipe_together : (pipe : ℕ) → has_readers fds pipe ≡ false → has_writers fds pipe ≡ false → HoldTogether tree (record fds { pipes = maps.remove fds.pipes pipe })
  without_pipe_together pipe unread unwritten = record {
    slots = h.slots;
    objects = λ n d e. go d.object (none_passes nat_cmp_total maps.nat_cmp-IsAntisymmetric (reads_pipe pipe) fds.descriptions unread n d e)
        (none_passes nat_cmp_total maps.nat_cmp-IsAntisymmetric (writes_pipe pipe) fds.descriptions unwritten n d e) (h.objects n d e);
    pipes = λ n x e. h.pipes n x (removed nat_cmp_total fds.pipes pipe n x e);
    names = h.names;
  }
    where
      go : (o : Object) → is_reading pipe o ≡ false → is_writing pipe o ≡ false → is_there tree fds o ≡ true → is_there tree (record fds { pipes = maps.remove fds.pipes pipe }) o ≡ true
      go Input r w e = e
      go Console r w e = e
      go (ReadEnd q) r w e = ap is_some (removed_other fds.pipes pipe q r) ∙ e
      go (WriteEnd q) r w e = ap is_some (removed_other fds.pipes pipe q w) ∙ e
      go (Opened n) r w e = e

  pub pipe_together : (pipe : ℕ) → HoldTogether tree (pipe_released fds pipe)
  pipe_together pipe = go (has_readers fds pipe || has_writers fds pipe) refl
    where
      go : (b : Bool) → (has_readers fds pipe || has_writers fds pipe) ≡ b → HoldTogether tree (cond b fds (record fds { pipes = maps.remove fds.pipes pipe }))
      go true e = h
      go false e = without_pipe_together pipe (neither (has_readers fds pipe) _ e).0 (neither (has_readers fds pipe) _ e).1

  pub object_together : (o : Object) → Together (object_released tree fds o)
  object_together Input = h
  object_together Console = h
  object_together (ReadEnd pipe) = pipe_together pipe
  object_together (WriteEnd pipe) = pipe_together pipe
  object_together (Opened node) = node_together node

-- What is closed.

module _ (tree : Tree) (fds : FdTable) (h : HoldTogether tree fds) where
  undescribed_together : (n : ℕ) → is_named fds n ≡ false → HoldTogether tree (record fds { descriptions = maps.remove fds.descriptions n })
  undescribed_together n unnamed = record {
    slots = λ key named e. subst (λ (y : Option Description). IsSome y) (sym (removed_other fds.descriptions n named.description (none_passes nat_cmp_total maps.nat_cmp-IsAntisymmetric (names_description n) fds.slots unnamed key named e))) (h.slots key named e);
    objects = λ i d e. go d.object (h.objects i d (removed nat_cmp_total fds.descriptions n i d e));
    pipes = h.pipes;
    names = h.names;
  }
    where
      go : SameThere tree fds tree (record fds { descriptions = maps.remove fds.descriptions n })
      go Input e = e
      go Console e = e
      go (ReadEnd pipe) e = e
      go (WriteEnd pipe) e = e
      go (Opened node) e = e

  dropped_together : (n : ℕ) (o : Option Description) → is_named fds n ≡ false → Together (description_dropped tree fds n o)
  dropped_together n None unnamed = h
  dropped_together n (Some d) unnamed = object_together tree (record fds { descriptions = maps.remove fds.descriptions n }) (undescribed_together n unnamed) d.object

  pub released_together : (n : ℕ) → Together (description_released tree fds n)
  unfolding description_released
  released_together n = go (is_named fds n) refl
    where
      go : (b : Bool) → is_named fds n ≡ b → Together (cond b (record { tree = tree; fds = fds }) (description_dropped tree fds n (description fds n)))
      go true e = h
      go false e = dropped_together n (description fds n) e

slot_closed_together : (tree : Tree) (fds : FdTable) → HoldTogether tree fds → (key : ℕ) (o : Option Slot) → Together (slot_closed tree fds key o)
slot_closed_together tree fds h key None = h
slot_closed_together tree fds h key (Some s) =
    released_together tree (record fds { slots = maps.remove fds.slots key })
    (slots_together tree fds h (maps.remove fds.slots key) (λ k named e. h.slots k named (removed nat_cmp_total fds.slots key k named e))) s.description

pub closed_together : (tree : Tree) (fds : FdTable) → HoldTogether tree fds → (pid fd : ℕ) → Together (closed tree fds pid fd)
unfolding closed
closed_together tree fds h pid fd = slot_closed_together tree fds h (pair pid fd) (slot fds pid fd)

either_together : (b : Bool) (x y : Held) → Together x → Together y → Together (cond b x y)
either_together true x y p q = p
either_together false x y p q = q

each_together : (on_exec : Bool) (x : Held) (pid : ℕ) (ns : List ℕ) → Together x → Together (closed_each on_exec x pid ns)
unfolding closed_each
each_together on_exec x pid [] h = h
each_together on_exec x pid (fd ∷ ns) h =
    each_together on_exec (closed_if_meant on_exec x pid fd) pid ns
    (either_together (is_meant on_exec (slot x.fds pid fd)) (closed x.tree x.fds pid fd) x (closed_together x.tree x.fds h pid fd) h)

pub all_closed_together : (tree : Tree) (fds : FdTable) → HoldTogether tree fds → (pid : ℕ) → Together (all_closed tree fds pid)
unfolding all_closed
all_closed_together tree fds h pid = each_together false (record { tree = tree; fds = fds }) pid (range_with_len 0 most_fds) h

pub exec_together : (tree : Tree) (fds : FdTable) → HoldTogether tree fds → (pid : ℕ) → Together (closed_on_exec tree fds pid)
unfolding closed_on_exec
exec_together tree fds h pid = each_together true (record { tree = tree; fds = fds }) pid (range_with_len 0 most_fds) h

unlinked_at : (tree : Tree) (fds : FdTable) → HoldTogether tree fds → (o : Option ℕ) → HoldTogether (unlinked_node tree fds o) fds
unlinked_at tree fds h None = h
unlinked_at tree fds h (Some node) = node_together tree fds h node

pub unlinked_together : (tree : Tree) (fds : FdTable) → HoldTogether tree fds → (path : Path) → HoldTogether (unlinked tree fds path) fds
unfolding unlinked
unlinked_together tree fds h path = unlinked_at (without_path tree path) fds (without_path_together tree fds h path) (maps.get tree.names path)

-- Another descriptor of the process stays.

abbrev slots_of : Held → SlotMap
slots_of h = h.fds.slots

released_slots : (tree : Tree) (fds : FdTable) (n : ℕ) → (description_released tree fds n).fds.slots ≡ fds.slots
unfolding description_released
released_slots tree fds n = go (is_named fds n)
  where
    piped : (f : FdTable) (b : Bool) (pipe : ℕ) → slots_of (record { tree = tree; fds = cond b f (record f { pipes = maps.remove f.pipes pipe }) }) ≡ f.slots
    piped f true pipe = refl
    piped f false pipe = refl

    object : (f : FdTable) (o : Object) → (object_released tree f o).fds.slots ≡ f.slots
    object f Input = refl
    object f Console = refl
    object f (ReadEnd pipe) = piped f (has_readers f pipe || has_writers f pipe) pipe
    object f (WriteEnd pipe) = piped f (has_readers f pipe || has_writers f pipe) pipe
    object f (Opened node) = refl

    dropped : (o : Option Description) → (description_dropped tree fds n o).fds.slots ≡ fds.slots
    dropped None = refl
    dropped (Some d) = object (record fds { descriptions = maps.remove fds.descriptions n }) d.object

    go : (b : Bool) → slots_of (cond b (record { tree = tree; fds = fds }) (description_dropped tree fds n (description fds n))) ≡ fds.slots
    go true = refl
    go false = dropped (description fds n)

slot_closed_slots : (tree : Tree) (fds : FdTable) (key q : ℕ) (o : Option Slot) → (q == key) ≡ false → maps.get (slot_closed tree fds key o).fds.slots q ≡ maps.get fds.slots q
slot_closed_slots tree fds key q None other = refl
slot_closed_slots tree fds key q (Some s) other =
    ap (λ (m : SlotMap). maps.get m q) (released_slots tree (record fds { slots = maps.remove fds.slots key }) s.description) ∙ removed_other fds.slots key q other

pub closed_other : (tree : Tree) (fds : FdTable) (pid fd q : ℕ) → (q == pair pid fd) ≡ false → maps.get (closed tree fds pid fd).fds.slots q ≡ maps.get fds.slots q
unfolding closed
closed_other tree fds pid fd q other = slot_closed_slots tree fds (pair pid fd) q (slot fds pid fd) other
