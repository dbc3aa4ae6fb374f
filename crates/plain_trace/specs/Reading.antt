-- What is read for the text of a call, as a decoder takes it.
use Rattle.std.specs.Prelude.{ℕ, zero, suc, [], Option, Some, None}
use Rattle.lx_abi.specs.Log.{Note}
use Rattle.lx_kernel.specs.Runs.{Run}
use Rattle.lx_kernel.specs.Tracing.{task_in}
use Rattle.lx_turn.specs.Linux.{linux}
use Rattle.plain_run.specs.Notes.{note_at}
use Rattle.pt_model.specs.Parts.{Half}
use Rattle.pt_model.specs.View.{reads, most_reads}
use Rattle.tr_args.specs.Decoders.{Decoding, given, wants}
use Rattle.tr_args.specs.Reads.{texts_of}
use Rattle.tr_args.specs.Texts.{context_of}

-- what a process of this kernel can read
abbrev pub note_in : Run → ℕ → Note
note_in k pid = note_at linux (task_in k pid)

-- a decoder that was given what it wanted, so often at most
abbrev pub read_on : (Decoding → Decoding) → Note → Decoding → Option (ℕ × ℕ) → Decoding
read_on again note d None = d
read_on again note d (Some w) = again (given d (note.peek w.0 w.1))

unfoldable pub read_from : Note → ℕ → Decoding → Decoding
read_from note zero d = d
read_from note (suc n) d = read_on (read_from note n) note d (wants d)

-- of a half, with all that is read for it
unfoldable pub decoded : ℕ → Note → Half → Decoding
decoded limit note half = record {
  context = context_of limit half;
  got = reads (texts_of limit) note.peek half most_reads [];
}
