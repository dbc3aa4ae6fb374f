use Rattle.std.proofs.Common.{ℕ, ◌≡◌, ◌<◌, ◌≤◌, ◌/◌, ◌%◌, ◌+◌, ◌∷◌, ◌++◌, List, false, ap, sym, subst, ◌∙◌, ⊎_elim, arith}
use Rattle.std.proofs.lemmas.Bool.Decides.{nat_tests}
use Rattle.std.specs.Fmt.{digit_glyph, digits}
use Rattle.plain_log.proofs.Hexadecimal.{Puts, puts_last, puts_more, puts_end}
use Rattle.plain_log.proofs.room.Room.put_hexadecimal.Goals as goal

pub returns-then-left-eq0-clause-text : goal.returns-then-left-eq0-clause-text
returns-then-left-eq0-clause-text c =
    let none : c.loop.left / 16 ≡ 0 = grind (arith, nat_tests, c.if-left-eq0.true) in
    let room : c.loop.counter < 16 = grind (arith, nat_tests, c.loop-test.true) in
    c.put.ensures.text ∙ ap (λ g. g ∷ c.loop.self.text) c.glyph.ensures
    ∙ puts_last c.args.number c.loop.counter c.loop.left c.args.self.now.text c.loop.self.text room none c.loop.invariant.0

pub loop-preserved : goal.loop-preserved
loop-preserved c =
    let some : 0 < c.loop.left / 16 = grind (arith, nat_tests, c.if-left-eq0.false) in
    let room : c.loop.counter < 16 = grind (arith, nat_tests, c.loop-test.true) in
    let text = c.put.ensures.text ∙ ap (λ g. g ∷ c.loop.self.text) c.glyph.ensures in (
      subst (λ (t : List ℕ). Puts c.args.number (c.loop.counter + 1) (c.loop.left / 16) c.args.self.now.text t) (sym text)
          (puts_more c.args.number c.loop.counter c.loop.left c.args.self.now.text c.loop.self.text room some c.loop.invariant.0),
      (omega (arith, c.put.ensures.room, c.loop.invariant.1), omega (arith, room)),
    )

pub returns-clause-text : goal.returns-clause-text
returns-clause-text c =
    let end : c.loop.counter ≡ 16 = grind (arith, nat_tests, c.loop-test.false, c.loop.auto) in
    let none = puts_end c.args.number c.loop.left c.args.self.now.text c.loop.self.text (omega (arith, c.ranges))
    (subst (λ (k : ℕ). Puts c.args.number k c.loop.left c.args.self.now.text c.loop.self.text) end c.loop.invariant.0) in
    absurd (⊎_elim (λ e. omega (arith, e, end)) (λ some. omega (arith, some, none)) c.loop.invariant.0.some)
