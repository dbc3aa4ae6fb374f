-- What a fault of an expression tells.
use Rattle.std.proofs.Common.{◌≡◌, ◌⊎◌, inl, inr, subst, sym, ◌∙◌, Result, Ok, Err}
use Rattle.std.specs.Prelude.{IfOk}
use Rattle.front_end.specs.Expressions.{IsRefusal, Refused}
use Rattle.front_end.specs.declared.fault.Fault.{Fault}
use Rattle.front_end.specs.declared.fault.Fault.TheVariants as the
use Rattle.tr_expr.specs.declared.fault.ExprFault.{ExprFault}
use Rattle.tr_expr.specs.declared.fault.ExprFault.TheVariants.{Memory}

pub refused_so : (fault : Fault) (f : ExprFault) (refuses : ExprFault → Type 0) → IsRefusal f fault
    → (f ≡ Memory) ⊎ refuses f → Refused refuses fault
refused_so (the.Usage text) f refuses is why = elim is [ ]
refused_so (the.Expression g reason) f refuses is (inl memory) = absurd (is.1 (is.0 ∙ memory))
refused_so (the.Expression g reason) f refuses is (inr why) = subst refuses (sym is.0) why
refused_so (the.Listing line kind) f refuses is why = elim is [ ]
refused_so (the.Host number reason) f refuses is why = elim is [ ]
refused_so (the.OutOfTurns text) f refuses is why = elim is [ ]
refused_so (the.Output text) f refuses is why = elim is [ ]
refused_so the.Memory f refuses is why = tt

pub kept_so : {A E : Type 0} (P Q : A → Type 0) (r : Result A E) → ((x : A) → P x → Q x) → IfOk r P → IfOk r Q
kept_so P Q (Ok x) f h = f x h
kept_so P Q (Err e) f h = tt
