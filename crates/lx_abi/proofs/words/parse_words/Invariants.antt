use Rattle.std.proofs.Common.{◌≡◌, length, drop}
use Rattle.std.specs.Str.{chars}
use Rattle.lx_abi.specs.Words.{words_of, read_on}
use Rattle.lx_abi.proofs.words.parse_words.Given as goal

abbrev pub invariant-loop-character : goal.invariant-loop-character
invariant-loop-character l = words_of l.text ≡ read_on l.words.items l.piece.items (drop (length l.yielded) (chars l.text))
