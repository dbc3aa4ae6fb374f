-- The text of a log of calls: a line an item.
use Rattle.std.specs.Prelude.{ℕ, List, ◌++◌, ◌-◌, ◌^◌, Bool, true, false, nat_lt, if◌then◌else◌, codes, decimal}
use Rattle.std.specs.List.{flat_map}
use Rattle.std.specs.Fmt.{digits}
use Rattle.lx_abi.specs.declared.log.Item.{Item}
use Rattle.lx_abi.specs.declared.log.Item.TheVariants.{Enter, Done, Taken, Stopped, Exit}

-- an argument of a call, and the space before it
abbrev pub argument_text : ℕ → List ℕ
argument_text n = codes " 0x" ++ digits 16 false n

-- a result of 64 bits, signed
abbrev pub result_text : ℕ → List ℕ
result_text n = if nat_lt n (2 ^ 63) then decimal n else codes "-" ++ decimal (2 ^ 64 - n)

-- a script gave the result
abbrev pub mark : Bool → List ℕ
mark replaced = if replaced then codes " r" else codes ""

unfoldable pub line_of : Item → List ℕ
line_of (Enter pid call) =
    codes "E " ++ (decimal pid ++ (codes " " ++ (decimal call.number
    ++ (flat_map argument_text call.arguments ++ codes "\n"))))
line_of (Done pid call result replaced) =
    codes "D " ++ (decimal pid ++ (codes " " ++ (result_text result ++ (mark replaced ++ codes "\n"))))
line_of (Taken pid signal cause) = codes "S " ++ (decimal pid ++ (codes " " ++ (decimal signal.number ++ codes "\n")))
line_of (Stopped pid signal) = codes "T " ++ (decimal pid ++ (codes " " ++ (decimal signal.number ++ codes "\n")))
line_of (Exit pid word left) = codes "X " ++ (decimal pid ++ (codes " " ++ (decimal word ++ codes "\n")))
