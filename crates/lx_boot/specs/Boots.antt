-- What a boot is refused for.
use Rattle.std.specs.Prelude.{◌≡◌, ◌≢◌, ℕ, Bool, true, false, not, ◌==◌, ◌&&◌, ◌||◌, nat_le, if◌then◌else◌, List, [], ◌∷◌, Option, Some, None}
use Rattle.std.specs.List.{list_any, slice_split}
use Rattle.std.specs.Str.{bytes_eq}
use Rattle.lx_abi.specs.declared.boot.Boot.{Boot}
use Rattle.lx_abi.specs.declared.boot.GuestFile.{GuestFile}
use Rattle.lx_abi.specs.Limits.{are_limits}
use Rattle.lx_boot.specs.declared.boots.BootFault.{BootFault}
use Rattle.lx_boot.specs.declared.boots.BootFault.TheVariants.{BadPath, Duplicate, NoProgram, TooLarge, Memory, BadLimit}
use Rattle.lx_boot.specs.Paths.{is_under}
use Rattle.lx_boot.specs.Limits.{files_fit}
use Rattle.lx_abi.specs.Limits.{start_limit}
use Rattle.lx_exec.specs.Programs.{start_size}

-- the number of a fault, as programs show it
abbrev pub fault_number : BootFault → ℕ
fault_number BadPath = 1
fault_number Duplicate = 2
fault_number NoProgram = 3
fault_number TooLarge = 4
fault_number Memory = 5
fault_number BadLimit = 6

-- an empty part of a path, `.` or `..`
unfoldable pub is_bad_part : List ℕ → Bool
is_bad_part part = bytes_eq part [] || bytes_eq part (46 ∷ []) || bytes_eq part (46 ∷ 46 ∷ [])

-- not absolute, or with a bad part between its slashes; so is the root (POSIX, "Pathname")
unfoldable pub is_bad_path : List ℕ → Bool
is_bad_path [] = true
is_bad_path (b ∷ parts) = not (b == 47) || list_any is_bad_part (slice_split (λ c. c == 47) parts)

-- a path that is bad, or under a file's
unfoldable pub is_misplaced : List GuestFile → List ℕ → Bool
is_misplaced files path = is_bad_path path || list_any (λ f. is_under path f.path) files

abbrev pub has_bad_path : List GuestFile → Bool
has_bad_path files = list_any (λ f. is_misplaced files f.path) files

-- two files have one path
abbrev pub has_duplicate : List GuestFile → Bool
has_duplicate [] = false
has_duplicate (f ∷ files) = list_any (λ g. bytes_eq f.path g.path) files || has_duplicate files

-- a word has a NUL byte
abbrev pub has_nul : List (List ℕ) → Bool
has_nul words = list_any (list_any (λ b. b == 0)) words

-- no first word, which names the program, or a word that has a NUL byte
abbrev pub has_no_program : List (List ℕ) → List (List ℕ) → Bool
has_no_program [] env = true
has_no_program (word ∷ words) env = has_nul (word ∷ words) || has_nul env

-- within the limits of files, and of a program's start
abbrev pub fits : Boot → Bool
fits boot = files_fit boot.files && nat_le (start_size boot.argv boot.env) start_limit

-- the first fault that applies
abbrev pub fault_of : Boot → Option BootFault
fault_of boot =
    if not (are_limits boot.limits) then Some BadLimit
    else if has_bad_path boot.files then Some BadPath
    else if has_duplicate boot.files then Some Duplicate
    else if has_no_program boot.argv boot.env then Some NoProgram
    else if fits boot then None
    else Some TooLarge

-- the fault is the boot's own, unless memory was refused
abbrev pub Refuses : Boot → BootFault → Type 0
Refuses boot fault = fault ≢ Memory → fault_of boot ≡ Some fault
