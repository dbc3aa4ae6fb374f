-- How counts of ends change.
use Rattle.std.specs.Prelude.{◌≡◌, ℕ, ◌+◌, ◌-◌, Bool, Option}
use Rattle.lx_files.specs.declared.counts.Counts.{Counts}
use Rattle.lx_files.specs.Tallies.{count_of, one_if, Agree, Forgets}
use Rattle.lx_open.specs.Kinds.{Object, Description, DescriptionMap, is_reading, is_writing, is_open, reads_pipe}
use Rattle.lx_open.specs.Kinds.{writes_pipe, has_node}
use Rattle.lx_open.specs.declared.ends.Ends.{Ends}

abbrev pub AddsIf : (ℕ → Bool) → Counts → Counts → Type 0
AddsIf p c d = (n : ℕ) → count_of d n ≡ one_if (p n) + count_of c n

abbrev pub TakesIf : (ℕ → Bool) → Counts → Counts → Type 0
TakesIf p c d = (n : ℕ) → count_of d n ≡ count_of c n - one_if (p n)

pub record More (e : Ends) (o : Object) (e' : Ends) : Type 0 where
  pub readers : AddsIf (λ n. is_reading n o) e.readers e'.readers
  pub writers : AddsIf (λ n. is_writing n o) e.writers e'.writers
  pub nodes : AddsIf (λ n. is_open n o) e.nodes e'.nodes

pub record Less (e : Ends) (o : Object) (e' : Ends) : Type 0 where
  pub readers : TakesIf (λ n. is_reading n o) e.readers e'.readers
  pub writers : TakesIf (λ n. is_writing n o) e.writers e'.writers
  pub nodes : TakesIf (λ n. is_open n o) e.nodes e'.nodes

pub record IsZero (e : Ends) : Type 0 where
  pub readers : (n : ℕ) → count_of e.readers n ≡ 0
  pub writers : (n : ℕ) → count_of e.writers n ≡ 0
  pub nodes : (n : ℕ) → count_of e.nodes n ≡ 0

-- one less for a description that was there
pub record ForgetsEnds (was : Option Description) (e e' : Ends) : Type 0 where
  pub readers : Forgets reads_pipe was e.readers e'.readers
  pub writers : Forgets writes_pipe was e.writers e'.writers
  pub nodes : Forgets has_node was e.nodes e'.nodes

-- the counts are those of the descriptions
pub record AgreeEnds (e : Ends) (m : DescriptionMap) : Type 0 where
  pub readers : Agree e.readers reads_pipe m
  pub writers : Agree e.writers writes_pipe m
  pub nodes : Agree e.nodes has_node m
