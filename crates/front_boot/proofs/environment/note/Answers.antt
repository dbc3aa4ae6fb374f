use Rattle.std.proofs.Common.{◌≡◌, ℕ, List, Some, true, not, ap, subst, ◌∙◌}
use Rattle.std.specs.Prelude.{cond}
use Rattle.std.proofs.lemmas.Map.Text.{is_eq-slice_cmp}
use Rattle.front_boot.specs.Environment.{HasMore, has, has_in, name_of}
use Rattle.front_boot.proofs.environment.note.Goals as goal

pub returns-in_ok-insert-in-Some : goal.returns-in_ok-insert-in-Some
returns-in_ok-insert-in-Some c =
    let name = c.in-Some.name in
    let old = c.args.names.now in
    let new = c.insert.new.self in
    let updates = c.in_ok-insert-in-Some.ensures.updates in
    subst
    (λ o. (c.in_ok-insert-in-Some.field-0 ≡ not (has_in old o)) × HasMore o old new)
    c.in-Some.ensures (
      c.in_ok-insert-in-Some.ensures.added,
      λ n. updates.0 (record name { now = n }) ∙ ap (λ b. cond b true (has old n)) (is_eq-slice_cmp name.now n),
    )
