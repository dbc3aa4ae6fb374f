-- What a call may do beside its own work, as bits.
use Rattle.std.specs.Prelude.{ℕ}

abbrev pub plain : ℕ
plain = 0

-- wait for another process
abbrev pub waits : ℕ
waits = 1

-- make a process
abbrev pub forks : ℕ
forks = 2

-- execute a program
abbrev pub execs : ℕ
execs = 4

-- end its process
abbrev pub exits : ℕ
exits = 8

-- its result is an address, and shown in hex (brk(2), mmap(2))
abbrev pub hex : ℕ
hex = 16

-- it leaves the descriptors, the signals and the children of each other process as they are
abbrev pub calm : ℕ
calm = 32
