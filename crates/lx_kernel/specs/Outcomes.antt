-- What is left of a run.
use Rattle.lx_abi.specs.declared.outcome.Outcome.{Outcome}
use Rattle.lx_files.specs.Listing.{files_of}
use Rattle.lx_proc.specs.declared.state.Shared.{Shared}
use Rattle.lx_proc.specs.WaitWords.{ends_of}

-- the console, what stands at each path but the root, and the ends
abbrev pub outcome_in : Shared → Outcome
outcome_in s = record { console = s.console; files = files_of s.tree; ended = ends_of s.ended }
