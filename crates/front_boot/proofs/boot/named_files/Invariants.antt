use Rattle.std.proofs.Common.{map, take}
use Rattle.front_boot.proofs.Filed.{Read}
use Rattle.front_boot.proofs.boot.named_files.Given as goal

abbrev pub invariant-loop-word : goal.invariant-loop-word
invariant-loop-word g l =
    Read g.R.File.Read.remaining l.fn.left (map (λ word. word.now) (take l.word-index l.words)) l.files l.left
