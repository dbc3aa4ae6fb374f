use Rattle.std.proofs.Common.{◌≡◌, Option, Some, None, IfSome, IfNone, ap, subst, refl, sym, ◌↔◌}
use Rattle.rv_isa.specs.declared.inst.Inst.{Inst}
use Rattle.rv_isa.specs.Decoding.{instruction}
use Rattle.rv_isa.specs.Spelling.{Spells}
use Rattle.rv_isa.proofs.Found.{instruction_spelled}
use Rattle.rv_isa.proofs.decoding.decode.Goals as goal

-- a found value that is the only one is the answer exactly where it holds
exactly : (r : Option Inst) (P : Inst → Type 0) → IfSome r P → IfNone r ((i : Inst) → P i → ⊥) → ((i j : Inst) → P i → P j → i ≡ j) → (i : Inst) → (r ≡ Some i) ↔ P i
exactly None P found none one i = (λ e. cc, λ p. absurd (none i p))
exactly (Some x) P found none one i = (λ e. let same : x ≡ i = cc in subst P same found, λ p. ap Some (one x i found p))

-- two answers that are exact for one fact are the same
both : (r o : Option Inst) (P : Inst → Type 0) → ((i : Inst) → (r ≡ Some i) ↔ P i) → ((i : Inst) → (o ≡ Some i) ↔ P i) → r ≡ o
both None None P f g = refl
both r (Some x) P f g = (f x).1 ((g x).0 refl)
both (Some x) o P f g = sym ((g x).1 ((f x).0 refl))

pub returns-clause-exact : goal.returns-clause-exact
returns-clause-exact c =
    exactly c.spelled.result (λ i. Spells i c.args.word) c.spelled.ensures.found c.spelled.ensures.none
    (c.one_instruction.ensures c.args.word)

pub returns-clause-value : goal.returns-clause-value
returns-clause-value c =
    both c.spelled.result (instruction c.args.word) (λ i. Spells i c.args.word)
    (exactly c.spelled.result (λ i. Spells i c.args.word) c.spelled.ensures.found c.spelled.ensures.none (c.one_instruction.ensures c.args.word))
    (instruction_spelled c.args.word)
