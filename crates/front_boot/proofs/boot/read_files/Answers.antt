use Rattle.std.proofs.Common.{◌≡◌, [], refl, map, take, ap, subst, sym, ◌∙◌}
use Rattle.std.proofs.lemmas.List.{append-nil, take_all}
use Rattle.front_boot.specs.Files.{NoneBehind}
use Rattle.front_boot.proofs.Filed.{some_behind, start_on}
use Rattle.front_boot.proofs.boot.read_files.Goals as goal

pub loop-word-init : goal.loop-word-init
loop-word-init g c = (([], sym (append-nil _)), refl)

pub loop-word-preserved : goal.loop-word-preserved
loop-word-preserved g c = (
  start_on _ _ _ c.in_ok-add_directory.ensures.more c.loop-word.invariant.0,
  some_behind c.args.directories.now c.loop-word.word-index _ _ c.loop-word-test.true,
)

pub returns-clause-files : goal.returns-clause-files
returns-clause-files g c = (
  c.in_ok-files.files,
  (
    c.in_ok-files.ensures.files,
    (
      c.loop-word.invariant.0,
      subst (λ words. NoneBehind (map (λ word. word.now) words) c.loop-word.files c.in_ok-files.files)
          (take_all c.loop-word.word-index c.args.directories.now c.loop-word-test.false) c.loop-word.invariant.1,
    ),
  ),
)
