-- Writers, by what their puts leave.
use Rattle.std.specs.Prelude.{◌≡◌, ℕ, List, Option}
use Rattle.std.specs.Io.KnownBytes.{Appends}
use Rattle.host_wire.specs.Ends.{AppendsPart, IsPut}

-- the bytes that it holds where these are known, and how many bytes each put was of
pub record Writer : Type 0 where
  pub contents : Option (List ℕ)
  pub puts : List ℕ
  -- 1 once it has failed
  pub broken : ℕ

abbrev pub writer_of : {W : Type 0} → (W → Option (List ℕ)) → (W → List ℕ) → (W → ℕ) → W → Writer
writer_of contents puts broken w = record { contents = contents w; puts = puts w; broken = broken w }

-- one put, of these bytes
pub record PutsWhole (a b : Writer) (bytes : List ℕ) : Type 0 where
  pub written : Appends a.contents b.contents bytes
  pub counted : IsPut a.puts b.puts bytes
  pub unbroken : b.broken ≡ a.broken

-- one that failed, of which a first part is written
pub record PutsPart (a b : Writer) (bytes : List ℕ) : Type 0 where
  pub written : AppendsPart a.contents b.contents bytes
  pub counted : IsPut a.puts b.puts bytes
  pub broken : b.broken ≡ 1
