-- What a run with two failures came to, beside the reference.
use Rattle.std.proofs.Common.{◌≡◌, ◌↔◌, IsTrue, IfOk, List, Result, Ok, Err, sym, ap, subst, ◌∙◌}
use Rattle.std.specs.declared.alloc.AllocError.{AllocError}
use Rattle.lx_abi.specs.declared.log.Item.{Item}
use Rattle.lx_kernel.specs.Runs.{Run}
use Rattle.sweep_faults.specs.declared.deep.Deep.{Deep}
use Rattle.sweep_faults.specs.declared.faults.Fault.{Fault}
use Rattle.sweep_faults.specs.Words.{HasWords}
use Rattle.sweep_rows.specs.Calls.{same_calls}
use Rattle.sweep_rows.specs.declared.verdicts.Reached.{Reached}
use Rattle.sweep_runs.specs.Deep.{DeepComesTo, DeepComparesTo, deep_of}
use Rattle.sweep_runs.specs.Rows.{fault_of}
use Rattle.sweep_runs.specs.Runs.{IsReached}
use Rattle.sweep_runs.specs.declared.deep.DeepCase.{DeepCase}
use Rattle.sweep_runs.specs.declared.leading.Compared.{Compared}
use Rattle.sweep_rows.specs.declared.setup.Setup.{Setup}

pub deep_compares : (setup : Setup) (reference : Reached) (case : DeepCase) (deep : Deep) (second : Fault) (k : Run) (r : Result Compared AllocError) → deep ≡ deep_of case → second ≡ fault_of case.second
    → DeepComesTo setup deep k → IfOk r (λ c. IsReached k c.reached)
    → IfOk r (λ c. c.alike ≡ same_calls reference.log.items k.running.log reference.ending.outcome.ended)
    → IfOk r (λ c. IsTrue c.has_words ↔ HasWords setup.boot.follow second k.running.log) → IfOk r (DeepComparesTo setup reference case)
deep_compares setup reference case deep second k (Ok c) both last run reached alike words = record {
  run = record { kernel = k; run = subst (λ (d : Deep). DeepComesTo setup d k) both run; reached = reached };
  alike = alike ∙ ap (λ (log : List Item). same_calls reference.log.items log reference.ending.outcome.ended) (sym reached.log);
  words =
      subst (λ (f : Fault). IsTrue c.has_words ↔ HasWords setup.boot.follow f c.reached.log.items) last
      (subst (λ (log : List Item). IsTrue c.has_words ↔ HasWords setup.boot.follow second log) (sym reached.log) words);
}
deep_compares setup reference case deep second k (Err e) both last run reached alike words = tt
