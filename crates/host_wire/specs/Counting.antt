-- A reader or writer, and whether it has failed.
use Rattle.std.specs.Prelude.{ℕ, List, Option, cond}
use Rattle.host_wire.specs.Ends.{Input}
use Rattle.host_wire.specs.declared.counted.Counted.{Counted}

abbrev pub inner_of : {T : Type 0} → Counted T → T
inner_of c = c.inner

abbrev pub faults_of : {T : Type 0} → Counted T → ℕ
faults_of c = cond c.broken 1 0

-- how many bytes each read gave, or each put was of
abbrev pub calls_of : {T : Type 0} → Counted T → List ℕ
calls_of c = c.calls.items

-- a reader of std, by the bytes that it has left
abbrev pub input_of : {T : Type 0} → (T → Option (List ℕ)) → Counted T → Input
input_of remaining c = record { remaining = remaining (inner_of c); reads = calls_of c; broken = faults_of c }
