-- What was opened is taken back.
use Rattle.std.proofs.Common.{◌≡◌, ℕ, Bool, true, cond, Option, Some, ap, sym, ◌∙◌, arith}
use Rattle.std.proofs.lemmas.Bool.Decides.{nat_tests}
use Rattle.std.specs.Ordering.{nat_cmp, eq_by_cmp}
use Rattle.std.specs.Cmp.{nat_cmp_total}
use Rattle.std.specs.FinMap as maps
use Rattle.containers.specs.Vacant.{vacant}
use Rattle.lx_files.proofs.Totals.{remove-insert}
use Rattle.lx_files.proofs.Full.{taken_back}
use Rattle.lx_open.specs.Kinds.{Slot, SlotMap, Description, DescriptionMap}
use Rattle.lx_open.specs.Opens.{FdTable, pair, opened, IsFree}

itself : (n : ℕ) → eq_by_cmp nat_cmp n n ≡ true
itself n = grind (arith, nat_tests)

module _ (was fds : FdTable) (pid fd : ℕ) (d : Description) (closes : Bool) where
  abbrev slot_opened : Slot
  slot_opened = record { description = vacant was.descriptions; closes_on_exec = closes }

  there : fds ≡ opened was pid fd d closes → maps.get fds.slots (pair pid fd) ≡ Some slot_opened
  there added =
      ap (λ (t : FdTable). maps.get t.slots (pair pid fd)) added
      ∙ maps.get-insert nat_cmp_total was.slots (pair pid fd) slot_opened (pair pid fd)
      ∙ ap (λ b. cond b (Some slot_opened) (maps.get was.slots (pair pid fd))) (itself (pair pid fd))

  pub nothing_taken : fds ≡ opened was pid fd d closes → (o : Option Slot) → ((s : Slot) → o ≡ Some s → ⊥) → o ≡ maps.get fds.slots (pair pid fd) → ⊥
  nothing_taken added o never is = never slot_opened (is ∙ there added)

  pub slots_back : (slots : SlotMap) → IsFree was pid fd → fds ≡ opened was pid fd d closes → slots ≡ maps.remove fds.slots (pair pid fd) → slots ≡ was.slots
  slots_back slots free added removed =
      removed ∙ ap (λ (t : FdTable). maps.remove t.slots (pair pid fd)) added
      ∙ remove-insert nat_cmp_total maps.nat_cmp-IsAntisymmetric (λ x. 0) was.slots (pair pid fd) slot_opened free

  pub descriptions_back : (ds : DescriptionMap) (s : Slot) → fds ≡ opened was pid fd d closes → Some s ≡ maps.get fds.slots (pair pid fd) → ds ≡ maps.remove fds.descriptions s.description → ds ≡ was.descriptions
  descriptions_back ds s added some removed =
      let same : Some s ≡ Some slot_opened = some ∙ there added in
      let is : s.description ≡ vacant was.descriptions = cc same in
      taken_back was.descriptions fds.descriptions ds s.description d is
      (ap (λ (t : FdTable). t.descriptions) added ∙ ap (λ n. maps.insert was.descriptions n d) (sym is)) removed
