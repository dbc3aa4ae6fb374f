-- Where a trace goes: to one of the outputs of a run, or to a file.
use Rattle.std.specs.Prelude.{◌≡◌, ⊤, ℕ, List, Option, None, Some, Result}
use Rattle.trace_run.specs.Writers.{Writer, writer_of}
use Rattle.trace_run.specs.declared.running.Ended.{Ended}
use Rattle.trace_run.specs.declared.running.RunFault.{RunFault}
use Rattle.trace_command.specs.Tracing.{Outputs, Reaches, outputs, unused}
use Rattle.trace_command.specs.Writers.{file_broken, file_contents, file_puts}
use Rattle.trace_command.specs.declared.outlet.Destination.{Destination}
use Rattle.trace_command.specs.declared.outlet.Destination.TheVariants.{Error, Output, File}
use Rattle.trace_command.specs.declared.outlet.Outlet.{Outlet}
use Rattle.trace_command.specs.declared.place.Place.{Place}
use Rattle.trace_command.specs.declared.place.Place.TheVariants as place
use Rattle.trace_command.specs.declared.trace_file.TraceFile.{TraceFile}

-- the writer of a trace that goes there, where files are such writers
abbrev pub trace_at : {F : Type 0} → (F → Writer) → Destination F → Outputs → Writer
trace_at file Error at = at.err
trace_at file Output at = at.out
trace_at file (File f) at = file f

-- the outputs that it doesn't go to
pub record Beside : Type 0 where
  pub out : Option Writer
  pub err : Option Writer

abbrev pub beside_at : {F : Type 0} → Destination F → Outputs → Beside
beside_at Error at = record { out = Some at.out; err = None }
beside_at Output at = record { out = None; err = Some at.err }
beside_at (File f) at = record { out = Some at.out; err = Some at.err }

-- both of an outlet, whose outputs are such writers
abbrev pub outputs_of : {O E F : Type 0} → (O → Writer) → (E → Writer) → Outlet O E F → Outputs
outputs_of out err o = outputs (out o.out) (err o.err)

abbrev pub trace_of : {O E F : Type 0} → (O → Writer) → (E → Writer) → (F → Writer) → Outlet O E F → Writer
trace_of out err file o = trace_at file o.trace (outputs_of out err o)

abbrev pub beside_of : {O E F : Type 0} → (O → Writer) → (E → Writer) → Outlet O E F → Beside
beside_of out err o = beside_at o.trace (outputs_of out err o)

-- a place is open so
abbrev pub IsOpenAt : {F : Type 0} → (F → Type 0) → Place → Destination F → Type 0
IsOpenAt is_new place.Error Error = ⊤
IsOpenAt is_new place.Error Output = ⊥
IsOpenAt is_new place.Error (File f) = ⊥
IsOpenAt is_new place.Output Error = ⊥
IsOpenAt is_new place.Output Output = ⊤
IsOpenAt is_new place.Output (File f) = ⊥
IsOpenAt is_new (place.File path) Error = ⊥
IsOpenAt is_new (place.File path) Output = ⊥
IsOpenAt is_new (place.File path) (File f) = is_new f

-- the file of a trace as a writer
abbrev pub file_writer : {W : Type 0} → (W → Option (List ℕ)) → TraceFile W → Writer
file_writer held f = writer_of (λ f. file_contents held f) (λ f. file_puts f) (λ f. file_broken f) f

-- nothing was written to it
abbrev pub IsNew : {W : Type 0} → (W → Option (List ℕ)) → TraceFile W → Type 0
IsNew {W} held f = (old : W) × (file_writer held f ≡ unused (held old))

-- behind a run that ended so it holds what was written, or the rest of that couldn't be
abbrev pub Closes : {W : Type 0} → (W → Option (List ℕ)) → Destination (TraceFile W) → Result Ended RunFault
    → Result Ended RunFault → Type 0
Closes held Error ended result = result ≡ ended
Closes held Output ended result = result ≡ ended
Closes {W} held (File f) ended result = (new : W) × Reaches ended result (file_contents held f) (held new)
