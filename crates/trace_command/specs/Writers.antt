-- Writers of std as those of a run: one that knows whether its last line is open, and the file of a trace.
use Rattle.std.specs.Prelude.{ℕ, List, Option}
use Rattle.std.specs.Io.Buffered.{writer_contents}
use Rattle.host_wire.specs.Counting.{calls_of, faults_of, inner_of}
use Rattle.trace_command.specs.declared.lines.Lines.{Lines}
use Rattle.trace_command.specs.declared.trace_file.Held.{Held}
use Rattle.trace_command.specs.declared.trace_file.TraceFile.{TraceFile}

abbrev pub contents_of : {W : Type 0} → (W → Option (List ℕ)) → Lines W → Option (List ℕ)
contents_of contents l = contents (inner_of l.sink)

abbrev pub puts_of : {W : Type 0} → Lines W → List ℕ
puts_of l = calls_of l.sink

abbrev pub broken_of : {W : Type 0} → Lines W → ℕ
broken_of l = faults_of l.sink

-- what was written, and what of it is kept back
abbrev pub held_contents : {W : Type 0} → (W → Option (List ℕ)) → Held W → Option (List ℕ)
held_contents contents h = writer_contents contents h.out

abbrev pub file_contents : {W : Type 0} → (W → Option (List ℕ)) → TraceFile W → Option (List ℕ)
file_contents contents f = held_contents contents (inner_of f.sink)

abbrev pub file_puts : {W : Type 0} → TraceFile W → List ℕ
file_puts f = calls_of f.sink

abbrev pub file_broken : {W : Type 0} → TraceFile W → ℕ
file_broken f = faults_of f.sink
