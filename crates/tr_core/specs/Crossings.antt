-- A call's entry and its exit, as the code has them in one.
use Rattle.std.specs.Prelude.{ℕ, Bool, List, Option}
use Rattle.lx_abi.specs.declared.log.Call.{Call}
use Rattle.lx_model.specs.Kernel.{Script}
use Rattle.lx_model.specs.Machine.{call_of, sp_of}
use Rattle.pt_model.specs.Parts.{Half, At_entry, At_exit, Options}
use Rattle.pt_model.specs.Tracer.{Known, Awaiting, Entry_peek, Exit_peek, Heard, entry, exit, read_entry, read_exit}
use Rattle.pt_model.specs.Tracer.{peeked_entry, peeked_exit}
use Rattle.tr_core.specs.declared.crossing.Crossing.{Crossing}
use Rattle.tr_core.specs.declared.crossing.Crossing.TheVariants.{Entering, Exiting}

abbrev pub half_at : Call → Crossing → Half
half_at called (Entering r) = At_entry (call_of r) (sp_of r)
half_at called (Exiting x replaced) = At_exit called x

-- what is asked while more is read
abbrev pub peek_at : Crossing → List (List ℕ) → ℕ × ℕ → Awaiting
peek_at (Entering r) got w = Entry_peek r got w
peek_at (Exiting x replaced) got w = Exit_peek x replaced got w

-- all that was wanted was read
abbrev pub told_at : Options → Script → ℕ → Crossing → List (List ℕ) → Known → Heard
told_at o script p (Entering r) got k = entry o script p r got k
told_at o script p (Exiting x replaced) got k = exit o p x replaced got k

-- more is read where the call is shown
abbrev pub reads_at : Options → Script → ℕ → Crossing → List (List ℕ) → Known → Bool → Heard
reads_at o script p (Entering r) got k shown = read_entry o script p r got k shown
reads_at o script p (Exiting x replaced) got k shown = read_exit o p x replaced got k shown

-- a string came, or not
abbrev pub peeked_at : Options → Script → ℕ → Crossing → List (List ℕ) → Known → Option (List ℕ) → Heard
peeked_at o script p (Entering r) got k came = peeked_entry o script p r got k came
peeked_at o script p (Exiting x replaced) got k came = peeked_exit o p x replaced got k came
