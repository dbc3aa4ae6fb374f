-- A descriptor that is free stays so while another is opened.
use Rattle.std.proofs.Common.{◌≡◌, ℕ, false, cond, Some, ap, ◌∙◌, arith}
use Rattle.std.proofs.lemmas.Bool.Decides.{nat_tests}
use Rattle.std.specs.Prelude.{◌==◌}
use Rattle.std.specs.Ordering.{nat_cmp, eq_by_cmp}
use Rattle.std.specs.Cmp.{nat_cmp_total}
use Rattle.std.specs.FinMap as maps
use Rattle.lx_open.specs.declared.description.Slot.{Slot}
use Rattle.lx_open.specs.declared.fd_table.FdTable.{FdTable}
use Rattle.lx_open.specs.Opens.{pair, with_slot, IsFree}

apart : (pid fd other : ℕ) → (fd == other) ≡ false → eq_by_cmp nat_cmp (pair pid fd) (pair pid other) ≡ false
apart pid fd other differ = grind (arith, nat_tests, differ)

pub still_free : (fds : FdTable) (pid fd other : ℕ) (s : Slot) → IsFree fds pid fd → (fd == other) ≡ false → IsFree (with_slot fds pid other s) pid fd
still_free fds pid fd other s free differ =
    maps.get-insert nat_cmp_total fds.slots (pair pid other) s (pair pid fd) ∙ ap (λ b. cond b (Some s) (maps.get fds.slots (pair pid fd))) (apart pid fd other differ) ∙ free
