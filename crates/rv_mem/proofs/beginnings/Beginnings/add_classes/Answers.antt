use Rattle.std.proofs.Common.{◌∙◌, ap}
use Rattle.rv_mem.specs.Beginnings.{is_in_class}
use Rattle.rv_mem.proofs.Gaps.{Sets, in_more}
use Rattle.rv_mem.proofs.beginnings.Beginnings.add_classes.Goals as goal

pub loop-self-preserved : goal.loop-self-preserved
loop-self-preserved c = record {
  kept = λ k n there.
      ap (λ (ss : Sets). is_in_class ss k n) c.in_ok-push.ensures.items
      ∙ in_more c.loop-self.self.gaps.items _ k n (c.loop-self.invariant.kept k n there);
  known = c.loop-self.invariant.known;
}
