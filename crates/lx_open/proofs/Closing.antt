-- A descriptor that is closed, or is not meant.
use Rattle.std.proofs.Common.{◌≡◌, ℕ, Bool, true, false, cond, Option, None, Some, refl, ap, sym, ◌∙◌}
use Rattle.std.specs.Prelude.{◌&&◌, not}
use Rattle.std.specs.Cmp.{nat_cmp_total}
use Rattle.std.specs.FinMap as maps
use Rattle.lx_files.specs.declared.tree.Tree.{Tree}
use Rattle.lx_files.proofs.Totals.{remove-none}
use Rattle.lx_open.specs.Kinds.{Slot, SlotMap}
use Rattle.lx_open.specs.Opens.{FdTable, pair, slot}
use Rattle.lx_open.specs.Releases.{Held, slot_closed, closed, is_meant, closed_if_meant}
use Rattle.lx_open.proofs.Rows.{no_slot}

-- one that names nothing
pub closed_none : (tree : Tree) (fds : FdTable) (pid fd : ℕ) (slots : SlotMap) → maps.get fds.slots (pair pid fd) ≡ None → slots ≡ maps.remove fds.slots (pair pid fd)
    → record { tree = tree; fds = record fds { slots = slots } } ≡ closed tree fds pid fd
unfolding closed
closed_none tree fds pid fd slots none gone =
    ap (λ (m : SlotMap). record { tree = tree; fds = record fds { slots = m } }) (gone ∙ remove-none nat_cmp_total maps.nat_cmp-IsAntisymmetric (λ x. 0) fds.slots (pair pid fd) none)
    ∙ ap (slot_closed tree fds (pair pid fd)) (sym (no_slot fds pid fd none))

pick : (c : Bool) (x y : Held) → not c ≡ false → x ≡ cond c x y
pick true x y e = refl
pick false x y e = absurd (cc e)

-- one that does not stay open is closed if it is meant
pub closed_meant : (on_exec : Bool) (h : Held) (pid fd : ℕ) → (on_exec && not (is_meant true (slot h.fds pid fd))) ≡ false → closed h.tree h.fds pid fd ≡ closed_if_meant on_exec h pid fd
unfolding closed
closed_meant on_exec h pid fd e = go on_exec (slot h.fds pid fd) refl e
  where
    go : (b : Bool) (o : Option Slot) → slot h.fds pid fd ≡ o → (b && not (is_meant true o)) ≡ false → closed h.tree h.fds pid fd ≡ cond (is_meant b o) (closed h.tree h.fds pid fd) h
    go false None is e = ap (slot_closed h.tree h.fds (pair pid fd)) is
    go false (Some s) is e = refl
    go true None is e = absurd (cc e)
    go true (Some s) is e = pick s.closes_on_exec (closed h.tree h.fds pid fd) h e
