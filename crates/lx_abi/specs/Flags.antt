-- Flags and numbers that C's headers name (open(2), fstatat(2), unlinkat(2), lseek(2), mmap(2), wait4(2),
-- sigprocmask(2), sigaction(2), inode(7); the numbers of Linux's riscv64).
use Rattle.std.specs.Prelude.{ℕ, ◌-◌, ◌/◌, ◌%◌, ◌==◌, nat_lt, Bool, List, [], ◌∷◌, codes, if◌then◌else◌}
use Rattle.std.specs.Borrow.{Bor}

-- a number and its name
abbrev pub Named : Type 0
Named = ℕ × List ℕ

-- a row of code
abbrev pub named : ℕ × Bor (List ℕ) → Named
named row = (row.0, row.1.now)

abbrev pub is_flag : ℕ × Bor (List ℕ) → Bool
is_flag row = nat_lt 0 row.0

-- the flag, a power of two, is set
abbrev pub has : ℕ → Named → Bool
has word flag = word / flag.0 % 2 == 1

-- what is set beside these flags
unfoldable pub left_over : ℕ → List Named → ℕ
left_over word [] = word
left_over word (flag ∷ flags) = if has word flag then left_over (word - flag.0) flags else left_over word flags

abbrev pub access_modes : List Named
access_modes = (0, codes "O_RDONLY") ∷ (1, codes "O_WRONLY") ∷ (2, codes "O_RDWR") ∷ []

abbrev pub o_creat : Named
o_creat = (0x40, codes "O_CREAT")

abbrev pub o_excl : Named
o_excl = (0x80, codes "O_EXCL")

abbrev pub o_trunc : Named
o_trunc = (0x200, codes "O_TRUNC")

abbrev pub o_append : Named
o_append = (0x400, codes "O_APPEND")

abbrev pub o_cloexec : Named
o_cloexec = (0x80000, codes "O_CLOEXEC")

abbrev pub open_flags : List Named
open_flags = o_creat ∷ o_excl ∷ o_trunc ∷ o_append ∷ o_cloexec ∷ []

-- of dup3(2) and pipe2(2)
abbrev pub descriptor_flags : List Named
descriptor_flags = o_cloexec ∷ []

abbrev pub stat_flags : List Named
stat_flags = (0x100, codes "AT_SYMLINK_NOFOLLOW") ∷ []

abbrev pub at_removedir : Named
at_removedir = (0x200, codes "AT_REMOVEDIR")

abbrev pub unlink_flags : List Named
unlink_flags = at_removedir ∷ []

-- what an offset of lseek(2) is counted from
abbrev pub whences : List Named
whences = (0, codes "SEEK_SET") ∷ (1, codes "SEEK_CUR") ∷ (2, codes "SEEK_END") ∷ []

abbrev pub protections : List Named
protections = (1, codes "PROT_READ") ∷ (2, codes "PROT_WRITE") ∷ (4, codes "PROT_EXEC") ∷ []

abbrev pub map_flags : List Named
map_flags = (2, codes "MAP_PRIVATE") ∷ (0x20, codes "MAP_ANONYMOUS") ∷ []

abbrev pub wnohang : Named
wnohang = (1, codes "WNOHANG")

abbrev pub wstopped : Named
wstopped = (2, codes "WSTOPPED")

abbrev pub wcontinued : Named
wcontinued = (8, codes "WCONTINUED")

abbrev pub wait_options : List Named
wait_options = wnohang ∷ wstopped ∷ wcontinued ∷ []

-- what sigprocmask(2) does with its set
abbrev pub mask_changes : List Named
mask_changes = (0, codes "SIG_BLOCK") ∷ (1, codes "SIG_UNBLOCK") ∷ (2, codes "SIG_SETMASK") ∷ []

-- what stands in the place of a handler
abbrev pub handlers : List Named
handlers = (0, codes "SIG_DFL") ∷ (1, codes "SIG_IGN") ∷ []

abbrev pub sa_restart : Named
sa_restart = (0x10000000, codes "SA_RESTART")

abbrev pub sa_siginfo : Named
sa_siginfo = (4, codes "SA_SIGINFO")

abbrev pub sa_nodefer : Named
sa_nodefer = (0x40000000, codes "SA_NODEFER")

abbrev pub action_flags : List Named
action_flags = sa_restart ∷ sa_siginfo ∷ sa_nodefer ∷ []

-- the type of a file in st_mode, without its permissions
abbrev pub file_types : List Named
file_types =
    (0x1000, codes "S_IFIFO") ∷
    (0x2000, codes "S_IFCHR") ∷
    (0x4000, codes "S_IFDIR") ∷
    (0x8000, codes "S_IFREG") ∷
    []
