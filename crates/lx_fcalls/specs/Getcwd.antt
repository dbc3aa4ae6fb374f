-- getcwd(buf, size): getcwd(2). The length has the NUL.
use Rattle.std.specs.Prelude.{ℕ, ◌==◌, nat_le, List, [], ◌∷◌, ◌++◌, length, if◌then◌else◌}
use Rattle.lx_abi.specs.Errnos.{erange}
use Rattle.lx_abi.specs.declared.log.Call.{Call}
use Rattle.lx_files.specs.Paths.{Path, slash}
use Rattle.lx_proc.specs.Answers.{Answers, argument, unless, gives}
use Rattle.lx_proc.specs.State.{directory}
use Rattle.lx_proc.specs.declared.state.UserState.{UserState}
use Rattle.lx_proc.specs.declared.state.Shared.{Shared}

abbrev pub shown : Path → List ℕ
shown path = if length path == 0 then slash ∷ 0 ∷ [] else path ++ 0 ∷ []

unfoldable pub getcwd : Shared → ℕ → Call → UserState → Answers
getcwd s p call b =
    let text = shown (directory s p) in
    unless (nat_le (length text) (argument call 1)) erange
    (gives s b (argument call 0) text (length text))
