-- What the system bounds: how many processes a boot may ask for, and sizes, in bytes where nothing else is said.
use Rattle.std.specs.Prelude.{ℕ, Bool, ◌&&◌, nat_le}
use Rattle.lx_abi.specs.declared.boot.Limits.{Limits}

-- from 1 to the most
abbrev pub is_between : ℕ → ℕ → Bool
is_between most n = nat_le 1 n && nat_le n most

-- 1 to 1,024 processes, 1 to 32,767 pids
abbrev pub are_limits : Limits → Bool
are_limits limits = is_between 1024 limits.live && is_between 32767 limits.last_pid

-- a path with its NUL (limits.h, PATH_MAX)
abbrev pub path_limit : ℕ
path_limit = 4096

-- a path without its NUL
abbrev pub longest_path : ℕ
longest_path = 4095

-- what stands between two slashes of a path (limits.h, NAME_MAX)
abbrev pub longest_name : ℕ
longest_name = 255

-- what a file holds; the last offset, too
abbrev pub largest_file : ℕ
largest_file = 16777216

-- what all files and the console hold together
abbrev pub most_contents : ℕ
most_contents = 67108864

-- files and directories, the root among them, by number
abbrev pub most_nodes : ℕ
most_nodes = 4096

-- descriptors of a process, by number: they are 0 to 255
abbrev pub most_fds : ℕ
most_fds = 256

-- what a pipe holds
abbrev pub pipe_size : ℕ
pipe_size = 65536

-- what one read or write moves
abbrev pub most_moved : ℕ
most_moved = 65536

-- what a tracer reads by one request
abbrev pub most_peeked : ℕ
most_peeked = 4096

-- what the words of a program and its environment take on its first stack, with all that stands below them
-- (execve(2), "Limits on size of arguments and environment")
abbrev pub start_limit : ℕ
start_limit = 65536

-- what a word takes there beside its own bytes: its NUL and its pointer
abbrev pub word_cost : ℕ
word_cost = 9
