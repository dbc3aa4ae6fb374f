-- A second program, on the files that a run left.
use Rattle.std.specs.Prelude.{ℕ, List, [], ◌∷◌}
use Rattle.std.specs.List.{flat_map}
use Rattle.lx_abi.specs.declared.boot.Boot.{Boot}
use Rattle.lx_abi.specs.declared.boot.GuestFile.{GuestFile}
use Rattle.lx_abi.specs.declared.outcome.Node.{Node}
use Rattle.lx_abi.specs.declared.outcome.Node.TheVariants.{File, Directory}
use Rattle.lx_abi.specs.declared.outcome.OutcomeFile.{OutcomeFile}

-- a boot has directories by the files in them alone
abbrev pub given_again : List ℕ → Node → List GuestFile
given_again path (File content) = record { path = path; content = content } ∷ []
given_again path Directory = []

unfoldable pub files_again : List OutcomeFile → List GuestFile
files_again files = flat_map (λ f. given_again f.path f.node) files

-- a boot with the files that were left in the place of its own
abbrev pub boot_on : Boot → List OutcomeFile → Boot
boot_on boot left = record boot { files = files_again left }
