use Rattle.std.proofs.Common.{◌≡◌, ℕ, ◌+◌, Some, None, ap, sym, ◌∙◌, rules}
use Rattle.std.specs.Borrow.{Bor}
use Rattle.std.proofs.Common.{List, ◌≤◌, [], length, drop, get_or}
use Rattle.std.specs.declared.result.Result.TheVariants.{Ok}
use Rattle.std.proofs.Math.ListN.{drop_of_length-le}
use Rattle.lx_files.specs.Trees.{Tree, node_at}
use Rattle.lx_files.specs.Folders.{at, names_of, named}
use Rattle.lx_files.specs.Places.{reached, parts, bar, beyond}
use Rattle.lx_files.proofs.Walking.{stands_at}
use Rattle.lx_files.proofs.Walks.{reached_none, reached_stop, reached_step, parts_part, texts}
use Rattle.lx_files.proofs.reaching.reach.Goals as goal

abbrev nothing : Bor (List ℕ)
nothing = record { ref_ptr = (0, 0); now = [] }

pub loop-part-init : goal.loop-part-init
loop-part-init c =
    let tree : Tree = record { names = named c.args.folders.now.standings c.args.numbers.now; nodes = c.args.nodes.now } in
    let empty : c.as_slice-last.result.now ≡ [] = search rules in (
      c.find-folder.ensures ∙ ap (λ p. at c.args.folders.now.children (names_of p)) c.as_slice.ensures.value,
      ap (λ l. reached tree c.args.slashed c.args.start.items l (parts (texts c.args.pieces.now))) empty,
    )

pub returns-in-Some : goal.returns-in-Some
returns-in-Some c =
    let tree : Tree = record { names = named c.args.folders.now.standings c.args.numbers.now; nodes = c.args.nodes.now } in
    let at_path = c.loop-part.at.items in
    let last = c.loop-part.last.now in
    let part = (get_or c.args.pieces.now c.loop-part.part-index nothing).now in
    let rest = parts (texts (drop (c.loop-part.part-index + 1) c.args.pieces.now)) in
    let here = c.in_ok-folder.ensures.folder ∙ ap (λ p. at c.args.folders.now.children (names_of p)) c.in_ok-folder.ensures.path in
    let barred : Some c.in-Some.error.number ≡ bar (node_at tree (beyond at_path last)) =
    c.in-Some.ensures ∙ ap bar (stands_at c.args.folders.now.children c.args.folders.now.standings c.args.folders.now.full_below c.requires.tree c.args.numbers.now c.requires.there c.args.nodes.now c.in_ok-folder.folder (beyond at_path last) here) in
    sym (reached_stop tree c.args.slashed at_path last part rest c.in-Some.error.number barred)
    ∙ ap (reached tree c.args.slashed at_path last) (sym (parts_part c.args.pieces.now c.loop-part.part-index nothing c.loop-part-test.true (search rules)))
    ∙ c.loop-part.invariant.1

pub loop-part-preserved : goal.loop-part-preserved
loop-part-preserved c =
    let tree : Tree = record { names = named c.args.folders.now.standings c.args.numbers.now; nodes = c.args.nodes.now } in
    let at_path = c.loop-part.at.items in
    let last = c.loop-part.last.now in
    let part = (get_or c.args.pieces.now c.loop-part.part-index nothing).now in
    let rest = parts (texts (drop (c.loop-part.part-index + 1) c.args.pieces.now)) in
    let here = c.in_ok-folder.ensures.folder ∙ ap (λ p. at c.args.folders.now.children (names_of p)) c.in_ok-folder.ensures.path in
    let free : None ≡ bar (node_at tree (beyond at_path last)) =
    c.in-None.ensures ∙ ap bar (stands_at c.args.folders.now.children c.args.folders.now.standings c.args.folders.now.full_below c.requires.tree c.args.numbers.now c.requires.there c.args.nodes.now c.in_ok-folder.folder (beyond at_path last) here) in (
      c.in_ok-folder.ensures.folder,
      ap (λ p. reached tree c.args.slashed p part rest) c.in_ok-folder.ensures.path
          ∙ sym (reached_step tree c.args.slashed at_path last part rest free)
          ∙ ap (reached tree c.args.slashed at_path last) (sym (parts_part c.args.pieces.now c.loop-part.part-index nothing c.loop-part-test.true (search rules)))
          ∙ c.loop-part.invariant.1,
    )

pub returns : goal.returns
returns c =
    let tree : Tree = record { names = named c.args.folders.now.standings c.args.numbers.now; nodes = c.args.nodes.now } in
    let at_path = c.loop-part.at.items in
    let last = c.loop-part.last.now in
    let end : length c.args.pieces.now ≤ c.loop-part.part-index = search rules in
    ap (λ t. Ok (record { under = t; last = c.in_ok-from_slice.field-0; slashed = c.args.slashed })) c.from_vec.ensures
    ∙ ap (λ t. Ok (record { under = at_path; last = t; slashed = c.args.slashed })) c.in_ok-from_slice.ensures
    ∙ sym (reached_none tree c.args.slashed at_path last)
    ∙ ap (λ l. reached tree c.args.slashed at_path last (parts (texts l))) (sym (drop_of_length-le c.args.pieces.now end))
    ∙ c.loop-part.invariant.1
