use Rattle.std.proofs.Common.{ℕ, sym, subst, ◌∙◌, arith}
use Rattle.std.specs.FinMap as maps
use Rattle.std.specs.Option.{option_and_then}
use Rattle.std.specs.Prelude.{IsSome}
use Rattle.lx_files.proofs.Cutting.{cut_rest}
use Rattle.lx_files.proofs.Knowing.{Reached, IsKnown, first_reached, next_reached, known_within, known_there, copied_some}
use Rattle.lx_files.proofs.folders.known_part.Goals.{then-is_some, else-is_some}
use Rattle.lx_files.proofs.folders.known_part.Goals as goal

pub names-init : goal.names-init
names-init c = (first_reached c.args.children.now c.args.path.now, omega arith, λ lt. absurd (omega (arith, lt)))

pub names-preserved : goal.names-preserved
names-preserved c =
    let end : ℕ = c.in-Some.end in
    let next : ℕ = c.in-Some-child.next in
    let reached : Reached c.args.children.now c.names.folder c.names.rest.now c.args.path.now = c.names.invariant.0 in
    let kept : IsKnown c.args.children.now c.args.numbers.now c.args.path.now c.if-is_some.known = elim c.if-is_some.branch [
      | then-is_some w ↦ subst (IsKnown c.args.children.now c.args.numbers.now c.args.path.now) (sym w.known-is) (
        known_within c.args.children.now c.names.folder next end c.names.rest.now c.args.path.now reached c.in-Some.ensures c.in-Some-child.ensures,
        λ lt. known_there c.args.children.now c.names.folder next end c.names.rest.now c.args.path.now reached c.in-Some.ensures c.in-Some-child.ensures
            (λ o. IsSome (option_and_then (maps.get c.args.numbers.now) o)) (copied_some c.get.result (maps.get c.args.numbers.now next) c.get.ensures (sym c.is_some.ensures ∙ w.if-is_some.true)),
      )
      | else-is_some w ↦ subst (IsKnown c.args.children.now c.args.numbers.now c.args.path.now) (sym w.known-is) (c.names.invariant.1, c.names.invariant.2)
    ] in (
      subst (λ r. Reached c.args.children.now next r c.args.path.now) (sym (c.after_first-rest.ensures ∙ cut_rest c.names.rest.now end))
          (next_reached c.args.children.now c.names.folder next end c.names.rest.now c.args.path.now reached c.in-Some.ensures c.in-Some-child.ensures),
      kept.0,
      kept.1,
    )
