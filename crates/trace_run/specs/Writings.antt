-- What was written to memory.
use Rattle.std.specs.Prelude.{ℕ, Bool, false, cond, List, [], Some}
use Rattle.trace_run.specs.Writers.{Writer}

pub record Writing : Type 0 where
  pub bytes : List ℕ
  pub is_broken : Bool
  -- how many bytes each put was of
  pub puts : List ℕ

abbrev pub writing : List ℕ → Writing
writing bytes = record { bytes = bytes; is_broken = false; puts = [] }

abbrev pub faults_of : Bool → ℕ
faults_of is_broken = cond is_broken 1 0

abbrev pub writer_in : Writing → Writer
writer_in w = record { contents = Some w.bytes; puts = w.puts; broken = faults_of w.is_broken }
