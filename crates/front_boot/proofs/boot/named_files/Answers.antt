use Rattle.std.proofs.Common.{◌≡◌, map, take, ap, subst, sym, ◌∙◌}
use Rattle.std.proofs.lemmas.List.{take_all}
use Rattle.front_boot.specs.Files.{AreFilesOf}
use Rattle.front_boot.proofs.Filed.{read_more, words_more}
use Rattle.front_boot.proofs.boot.named_files.Goals as goal

pub loop-word-preserved : goal.loop-word-preserved
loop-word-preserved g c =
    read_more g.R.File.Read.remaining _ _ _ _ _ _ _ _
    (words_more c.args.words.now c.loop-word.word-index _ c.loop-word-test.true) c.loop-word.invariant
    c.in_ok-add_file.ensures.added

pub returns-clause-files : goal.returns-clause-files
returns-clause-files g c =
    subst (λ words. AreFilesOf g.R.File.Read.remaining c.args.left.now (map (λ word. word.now) words) c.loop-word.files)
    (take_all c.loop-word.word-index c.args.words.now c.loop-word-test.false) c.loop-word.invariant.0
