-- Where a process stands, and whether a turn moves it.
use Rattle.std.specs.Prelude.{◌==◌, Bool, not, ◌||◌, Option}
use Rattle.lx_abi.specs.declared.log.Mode.{Mode}
pub use Rattle.lx_abi.specs.Modes.{is_finished, mode_number}

abbrev pub same_mode : Option Mode → Option Mode → Bool
same_mode x y = mode_number x == mode_number y

abbrev pub is_run : Option Mode → Bool
is_run x = mode_number x == 2

-- a turn from one mode to another runs an instruction or changes the mode
abbrev pub moves : Option Mode → Option Mode → Bool
moves before after = is_run before || not (same_mode before after)
