use Rattle.std.proofs.Common.{ℕ, ◌+◌, ◌*◌, ◌<◌, ◌≤◌, ◌/◌, ◌⊎◌, inl, inr, ◌∙◌, ap, arith}
use Rattle.std.specs.FinMap.{get}
use Rattle.rv_mem.specs.Memory.{Memory}
use Rattle.rv_mem.specs.Pages.{contents}
use Rattle.rv_mem.proofs.Cells.{number_at}
use Rattle.rv_mem.proofs.Mapped.{get-unmapped_out}
use Rattle.rv_mem.proofs.Changes.{unmapped_between}
use Rattle.rv_mem.proofs.mapping.unmap_pages.Goals as goal

beside : (q n first end : ℕ) → first ≤ n → n < end → (q / 4096 < first) ⊎ (end ≤ q / 4096) → (q < 4096 * n) ⊎ (4096 * n + 4096 ≤ q)
beside q n first end l g (inl h) = inl (omega (arith, l, h))
beside q n first end l g (inr h) = inr (omega (arith, g, h))

pub loop-place-preserved : goal.loop-place-preserved
loop-place-preserved c =
    let ps = c.loop-place.table.pages.items in
    let found = c.in-Some.ensures.found in
    record {
      whole = c.take_out.ensures.whole;
      outside = λ q h.
          ap (λ (m : Memory). get m q) c.take_out.ensures.unmapped
          ∙ get-unmapped_out (contents c.loop-place.table) (4096 * number_at ps c.in-Some.place) 4096 q (beside q (number_at ps c.in-Some.place) c.args.first c.args.end found.1 found.2 h)
          ∙ c.loop-place.invariant.outside q h;
    }

pub returns-clause-unmapped : goal.returns-clause-unmapped
returns-clause-unmapped c =
    unmapped_between (contents c.args.table.now) c.loop-place.table.pages.items c.args.first c.args.end c.requires.rising c.loop-place.invariant.outside c.in_default.ensures.absent
