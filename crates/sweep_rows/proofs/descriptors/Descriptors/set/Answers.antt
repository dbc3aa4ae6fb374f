use Rattle.std.proofs.Common.{[], ◌∷◌, ◌++◌, ap, ◌∙◌, not, filter}
use Rattle.std.specs.Prelude.{◌==◌}
use Rattle.std.specs.FinMap as maps
use Rattle.sweep_rows.specs.declared.descriptors.Descriptors.{Descriptors}
use Rattle.sweep_rows.proofs.Holding.{uses_set}
use Rattle.sweep_rows.proofs.descriptors.Descriptors.set.Goals as goal

pub returns-clause-uses : goal.returns-clause-uses
returns-clause-uses c =
    let new : Descriptors = record { alloc = c.take-own.new.self.alloc; at = c.take-own.new.self.at; processes = c.insert.new.self } in
    uses_set c.args.self.now new c.args.pid c.args.number c.args.used c.set.new.self
    (c.in_ok-set.ensures ∙ ap (λ hs. filter (λ h. not (c.args.number == h.number)) hs ++ (record { number = c.args.number; used = c.args.used }) ∷ []) c.take-own.ensures.own)
    (c.in_ok-insert.ensures.ok ∙ ap (λ m. maps.insert m c.args.pid c.set.new.self) c.take-own.ensures.rest)
