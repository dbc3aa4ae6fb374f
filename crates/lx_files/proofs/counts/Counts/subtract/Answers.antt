use Rattle.std.proofs.Common.{◌≡◌, ap, subst, ◌∙◌, ◌-◌, unwrap_or}
use Rattle.std.specs.Prelude.{OnSome}
use Rattle.std.specs.FinMap as maps
use Rattle.lx_files.specs.Tallies.{count_of}
use Rattle.lx_files.proofs.Counting.{count_less}
use Rattle.lx_files.proofs.counts.Counts.subtract.Goals as goal

pub returns-in-Some : goal.returns-in-Some
returns-in-Some c = λ n.
    let s = c.args.self.now in
    let w = c.saturating_sub.result in
    let h = subst (λ r. OnSome r (c.get_mut.follows.lender w ≡ maps.insert s.counts c.args.number w)) c.in-Some.is (c.get_mut.follows.holds w) in
    let less : w ≡ count_of s c.args.number - 1 = c.saturating_sub.ensures ∙ ap (λ o. unwrap_or o 0 - 1) c.in-Some.ensures.value in
    ap (λ m. unwrap_or (maps.get m n) 0) h ∙ count_less s.counts c.args.number w n less
