use Rattle.std.proofs.Common.{◌≡◌, ap, sym, subst, ◌∙◌, arith, length, List}
use Rattle.std.proofs.lemmas.Bool.Decides.{nat_tests}
use mathlib.Core.List.{IsPrefix}
use Rattle.transcript.specs.declared.said.Said.{Said}
use Rattle.transcript.proofs.Beginnings.{same}
use Rattle.transcript.proofs.record.Transcript.agrees.Goals as goal

pub returns : goal.returns
returns g c = λ e.
    let both = c.learn.new.self.log in
    let this : IsPrefix c.self.inside.seen.log both = subst (λ (l : List Said). IsPrefix l both) (ap (λ s. s.log) c.again-both.ensures) c.learn.ensures.2 in
    let lines : c.self.inside.lines ≡ c.other.inside.lines = grind (e, arith, nat_tests) in
    let long : length c.self.inside.seen.log ≡ length c.other.inside.seen.log = sym c.self.invariant.0 ∙ lines ∙ c.other.invariant.0 in
    sym c.self.view_is ∙ same c.self.inside.seen.log c.other.inside.seen.log both this c.learn.ensures.3 long ∙ c.other.view_is
