-- The exit status of a program that ends in a fault, and of what kind a fault is.
use Rattle.std.specs.Prelude.{◌≡◌, ◌⊎◌, ℕ, Bool, true, false, Result, Ok, Err}
use Rattle.front_end.specs.declared.fault.Fault.{Fault}
use Rattle.front_end.specs.declared.fault.Fault.TheVariants as the

abbrev pub status_of : Fault → ℕ
status_of (the.Usage text) = 2
status_of (the.Expression fault reason) = 2
status_of (the.Listing line kind) = 2
status_of (the.Host number reason) = 3
status_of (the.OutOfTurns text) = 4
status_of (the.Output text) = 3
status_of the.Memory = 3

-- what comes of a command that ended so: its own status, or that of its fault, or 3 where this couldn't be told
abbrev pub IsStatusOf : Result ℕ Fault → ℕ → Type 0
IsStatusOf (Ok own) status = status ≡ own
IsStatusOf (Err fault) status = (status ≡ status_of fault) ⊎ (status ≡ 3)

-- the words, the schedule, a file, the input or the boot, or want of memory
abbrev pub is_usage_or_memory : Fault → Bool
is_usage_or_memory (the.Usage text) = true
is_usage_or_memory (the.Expression fault reason) = false
is_usage_or_memory (the.Listing line kind) = false
is_usage_or_memory (the.Host number reason) = false
is_usage_or_memory (the.OutOfTurns text) = false
is_usage_or_memory (the.Output text) = false
is_usage_or_memory the.Memory = true

-- an output that can't be written, or want of memory
abbrev pub is_output_or_memory : Fault → Bool
is_output_or_memory (the.Usage text) = false
is_output_or_memory (the.Expression fault reason) = false
is_output_or_memory (the.Listing line kind) = false
is_output_or_memory (the.Host number reason) = false
is_output_or_memory (the.OutOfTurns text) = false
is_output_or_memory (the.Output text) = true
is_output_or_memory the.Memory = true
