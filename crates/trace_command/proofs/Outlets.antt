-- Where a run has written its trace.
use Rattle.std.proofs.Common.{◌≡◌, ℕ, List, Option, Result, ap, subst, sym}
use Rattle.trace_run.specs.Writers.{Writer}
use Rattle.trace_run.specs.declared.running.Ended.{Ended}
use Rattle.trace_run.specs.declared.running.RunFault.{RunFault}
use Rattle.trace_command.specs.Outlets.{Beside, Closes, IsNew, IsOpenAt, beside_at, file_writer, trace_at}
use Rattle.trace_command.specs.Tracing.{Outputs, WritesTo}
use Rattle.trace_command.specs.declared.outlet.Destination.{Destination}
use Rattle.trace_command.specs.declared.outlet.Destination.TheVariants.{Error, Output, File}
use Rattle.trace_command.specs.declared.place.Place.{Place}
use Rattle.trace_command.specs.declared.place.Place.TheVariants as place
use Rattle.trace_command.specs.declared.trace_file.TraceFile.{TraceFile}
use Rattle.trace_command.proofs.Reaching.{writes_file}

same_out : {a b : Beside} → a ≡ b → a.out ≡ b.out
same_out e = ap (λ (x : Beside). x.out) e

same_err : {a b : Beside} → a ≡ b → a.err ≡ b.err
same_err e = ap (λ (x : Beside). x.err) e

-- where what stands beside is the same, the place is too
module _ {W : Type 0} (held : W → Option (List ℕ)) (writes : Result Ended RunFault → Writer → Writer → Type 0)
    (ended result : Result Ended RunFault) (old new : Outputs) where
  pub written_at : (at : Place) (to to' : Destination (TraceFile W)) → IsOpenAt (IsNew held) at to
      → beside_at to' new ≡ beside_at to old
      → writes ended (trace_at (file_writer held) to old) (trace_at (file_writer held) to' new)
      → Closes held to' ended result → WritesTo held writes result at old new
  written_at place.Error Error Error is e w c =
      (cc (same_out e), subst (λ r. writes r old.err new.err) (sym c) w)
  written_at place.Error Error Output is e w c = absurd (cc (same_out e))
  written_at place.Error Error (File f) is e w c = absurd (cc (same_err e))
  written_at place.Error Output to' is e w c = absurd is
  written_at place.Error (File f) to' is e w c = absurd is
  written_at place.Output Error to' is e w c = absurd is
  written_at place.Output Output Error is e w c = absurd (cc (same_out e))
  written_at place.Output Output Output is e w c =
      (cc (same_err e), subst (λ r. writes r old.out new.out) (sym c) w)
  written_at place.Output Output (File f) is e w c = absurd (cc (same_out e))
  written_at place.Output (File f) to' is e w c = absurd is
  written_at (place.File path) Error to' is e w c = absurd is
  written_at (place.File path) Output to' is e w c = absurd is
  written_at (place.File path) (File f) Error is e w c = absurd (cc (same_err e))
  written_at (place.File path) (File f) Output is e w c = absurd (cc (same_out e))
  written_at (place.File path) (File f) (File f') is e w c = (
    cc (same_out e),
    (
      cc (same_err e),
      writes_file held writes ended result is.0 c.0 (file_writer held f) (file_writer held f') is.1 w c.1,
    ),
  )
