use Rattle.std.proofs.Common.{ap, sym, ◌∙◌, arith}
use Rattle.std.specs.Prelude.{nat_lt, fold}
use Rattle.std.specs.List.{filter}
use Rattle.std.specs.FinMap as maps
use Rattle.lx_proc.specs.State.{Entries}
use Rattle.lx_pcalls.specs.Ends.{released, orphaned}
use Rattle.lx_pcalls.proofs.Releasing.{next_released, last_released, released_past}
use Rattle.lx_pcalls.proofs.ending.orphan_children.Goals as goal

pub loop-child-preserved : goal.loop-child-preserved
loop-child-preserved c =
    let old = c.args.entries.now in
    let now = c.loop-child.entries in
    let p = c.args.parent in
    let child = c.in-Some.child in
    let up = c.in-Some.ensures.0 in
    record {
      so_far = ap (λ (t : Entries). fold (released p) t (filter (nat_lt child) (maps.keys old))) c.release.ensures
          ∙ sym (next_released p old now c.loop-child.passed child (c.loop-child.invariant.later child up) c.in-Some.ensures) ∙ c.loop-child.invariant.so_far;
      later = λ q past. ap (λ (t : Entries). maps.get t q) c.release.ensures ∙ released_past p now child q past ∙ c.loop-child.invariant.later q (omega (arith, up, past));
    }

pub returns : goal.returns
unfolding orphaned
returns c =
    let old = c.args.entries.now in
    let now = c.loop-child.entries in
    sym (last_released c.args.parent old now c.loop-child.passed c.in_default.ensures) ∙ c.loop-child.invariant.so_far
