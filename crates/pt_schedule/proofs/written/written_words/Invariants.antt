use Rattle.std.proofs.Common.{string_bytes}
use Rattle.pt_schedule.proofs.ReadBack.{IsWritten}
use Rattle.pt_schedule.proofs.written.written_words.Given as goal

abbrev pub invariant-loop-word : goal.invariant-loop-word
invariant-loop-word l = IsWritten l.words l.word-index (string_bytes l.text)
