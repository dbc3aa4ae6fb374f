-- What was read of the parts of a tampering expression.
use Rattle.std.specs.Prelude.{◌≡◌, List, None, option_map}
use Rattle.std.specs.List.{flat_map}
use Rattle.tr_expr.specs.declared.part.Part.{Part as Read}
use Rattle.tr_expr.specs.declared.part.Part.TheVariants.{Error as ReadError, Retval as ReadRetval}
use Rattle.tr_expr.specs.declared.part.Part.TheVariants.{Signal as ReadSignal, When as ReadWhen}
use Rattle.tr_expr.specs.declared.part.Part.TheVariants.{Unknown as ReadUnknown}
use Rattle.tr_expr.specs.declared.said.Said.{Said}
use Rattle.tr_expr.specs.Parts.{Part, Error, Retval, Signal, When, Unknown, part_causes, error_in, retval_in}
use Rattle.tr_expr.specs.Parts.{signal_in, when_in, last_said}
use Rattle.tr_expr.specs.Whens.{view}
use Rattle.tr_expr.specs.Faults.{found}

-- a part as it was read
abbrev pub shown : Read → Part
shown (ReadError value) = Error value.now
shown (ReadRetval value) = Retval value.now
shown (ReadSignal value) = Signal value.now
shown (ReadWhen value) = When value.now
shown ReadUnknown = Unknown

-- what the parts say, each the last that says so, and the fault that is found first
pub record IsSaidBy (parts : List Part) (said : Said) : Type 0 where
  pub found : said.fault ≡ found None (flat_map part_causes parts)
  pub error : said.error ≡ last_said error_in parts
  pub retval : said.retval ≡ last_said retval_in parts
  pub signal : said.signal ≡ last_said signal_in parts
  pub when : option_map view said.when ≡ last_said when_in parts
