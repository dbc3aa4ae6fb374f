use Rattle.std.proofs.Common.{◌≡◌, ◌+◌, ap, sym, ◌∙◌, arith}
use Rattle.lx_files.specs.Trees.{Tree}
use Rattle.lx_files.specs.Boots.{with_directory_at, with_directories}
use Rattle.lx_files.proofs.Planting.{known_stand, known_stand_past, one_more_place}
use Rattle.lx_files.proofs.boots.add_directories.Goals.{then-i-known+in_ok-add_directory_at, else-i-known}
use Rattle.lx_files.proofs.boots.add_directories.Goals as goal

pub loop-i-init : goal.loop-i-init
loop-i-init c = known_stand c.args.tree.now c.args.path.now c.known_part-known.result c.requires c.known_part-known.ensures.there

pub loop-i-preserved : goal.loop-i-preserved
loop-i-preserved c = elim c.if-i-known.branch [
  | then-i-known+in_ok-add_directory_at w ↦
      w.tree-is
      ∙ w.in_ok-add_directory_at.ensures
      ∙ ap (λ (t : Tree). with_directory_at t c.args.path.now c.loop-i.i) c.loop-i.invariant
      ∙ one_more_place c.args.tree.now c.args.path.now c.loop-i.i
  | else-i-known w ↦
      let at_known : c.loop-i.i ≡ c.known_part-known.result = let low = c.loop-i.auto.i in let high = w.if-i-known.false in grind (arith, low, high) in
      w.tree-is
      ∙ c.loop-i.invariant
      ∙ ap (with_directories c.args.tree.now c.args.path.now) at_known
      ∙ sym (known_stand c.args.tree.now c.args.path.now c.known_part-known.result c.requires c.known_part-known.ensures.there)
      ∙ known_stand_past c.args.tree.now c.args.path.now c.known_part-known.result c.requires c.known_part-known.ensures.there
      ∙ ap (λ i. with_directories c.args.tree.now c.args.path.now (i + 1)) (sym at_known)
]
