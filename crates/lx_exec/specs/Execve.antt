-- execve(path, argv, envp): execve(2). All words are read before the path is resolved.
use Rattle.std.specs.Prelude.{ℕ, Bool, true, false, nat_lt, List, Option, Some, None, is_some, if◌then◌else◌}
use Rattle.lx_abi.specs.Errnos.{enoent, e2big, enoexec, eacces, efault, enotdir, enametoolong}
use Rattle.lx_abi.specs.declared.log.Call.{Call}
use Rattle.lx_abi.specs.declared.outcome.Node.{Node}
use Rattle.lx_abi.specs.declared.outcome.Node.TheVariants as node
use Rattle.lx_abi.specs.Limits.{path_limit, start_limit}
use Rattle.elf_image.specs.declared.image.Image.{Image}
use Rattle.elf_image.specs.Checks.{fault_of}
use Rattle.elf_image.specs.Images.{image_of}
use Rattle.lx_model.specs.Machine.{Refused, Returns, Jumps, Execs, Bears, Blocks, Ends}
use Rattle.lx_sig.specs.Reactions.{after_exec}
use Rattle.lx_files.specs.Trees.{node_at}
use Rattle.lx_files.specs.Places.{place, path_of}
use Rattle.lx_files.specs.declared.places.Place.{Place}
use Rattle.lx_open.specs.Releases.{closed_on_exec}
use Rattle.lx_proc.specs.declared.state.Shared.{Shared}
use Rattle.lx_proc.specs.declared.state.UserState.{UserState}
use Rattle.lx_proc.specs.State.{changed, with_entries, with_held, with_signals, directory}
use Rattle.lx_proc.specs.Answers.{Answers, argument, given, granted}
use Rattle.lx_proc.specs.Texts.{Text, Whole, TooLong, Unreadable, text_at, list_at}
use Rattle.lx_exec.specs.Programs.{start_size, started}

abbrev pub begins : Shared → Image → List (List ℕ) → List (List ℕ) → Answers
begins s image argv env =
    if nat_lt start_limit (start_size argv env) then Refused e2big
    else Execs s (started image argv env)

abbrev pub runs : Shared → List ℕ → List (List ℕ) → List (List ℕ) → Answers
runs s content argv env = if is_some (fault_of content) then Refused enoexec else begins s (image_of content) argv env

-- a slash behind the path wants a directory
abbrev pub runs_file : Shared → Bool → List ℕ → List (List ℕ) → List (List ℕ) → Answers
runs_file s true content argv env = Refused enotdir
runs_file s false content argv env = runs s content argv env

abbrev pub runs_node : Shared → Bool → Option Node → List (List ℕ) → List (List ℕ) → Answers
runs_node s slashed None argv env = Refused enoent
runs_node s slashed (Some node.Directory) argv env = Refused eacces
runs_node s slashed (Some (node.File content)) argv env = runs_file s slashed content argv env

abbrev pub runs_at : Shared → List (List ℕ) → List (List ℕ) → Place → Answers
runs_at s argv env at = runs_node s at.slashed (node_at s.tree (path_of at)) argv env

-- a relative path begins in the working directory
abbrev pub runs_path : Shared → ℕ → List ℕ → List (List ℕ) → List (List ℕ) → Answers
runs_path s p path argv env = granted (place s.tree (directory s p) path) (runs_at s argv env)

abbrev pub with_lists : Shared → ℕ → Call → UserState → List ℕ → Answers
with_lists s p call b path =
    given (list_at b.memory (argument call 1)) efault (λ argv.
    given (list_at b.memory (argument call 2)) efault (λ env.
    runs_path s p path argv env))

abbrev pub with_path : Shared → ℕ → Call → UserState → Text → Answers
with_path s p call b Unreadable = Refused efault
with_path s p call b TooLong = Refused enametoolong
with_path s p call b (Whole path) = with_lists s p call b path

-- the program that takes the place of the caller's
unfoldable pub program : Shared → ℕ → Call → UserState → Answers
program s p call b = with_path s p call b (text_at b.memory path_limit (argument call 0))

-- a new program has its process's descriptors, but those that close on exec, and its signals, without handlers
abbrev pub renewed : Shared → ℕ → Shared
renewed s p =
    with_entries (with_held s (closed_on_exec s.tree s.fds p))
    (changed s.entries p (λ e. with_signals e (after_exec e.signals)))

abbrev pub renews : ℕ → Answers → Answers
renews p (Refused e) = Refused e
renews p (Returns s b x) = Returns s b x
renews p (Jumps s b) = Jumps s b
renews p (Execs s b) = Execs (renewed s p) b
renews p (Bears s b child) = Bears s b child
renews p Blocks = Blocks
renews p (Ends w) = Ends w

unfoldable pub execve : Shared → ℕ → Call → UserState → Answers
execve s p call b = renews p (program s p call b)
