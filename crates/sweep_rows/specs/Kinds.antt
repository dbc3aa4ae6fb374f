-- In which ways a call fails.
use Rattle.std.specs.Prelude.{Bool, true, false, Option, Some, None}
use Rattle.lx_abi.specs.declared.errno.Errno.{Errno}
use Rattle.sweep_rows.specs.declared.kinds.Kind.{Kind}
use Rattle.sweep_rows.specs.declared.kinds.Kind.TheVariants as kind

-- the error that the call has
abbrev pub error_of : Kind → Option Errno
error_of (kind.Undone error) = Some error
error_of (kind.Done error) = Some error
error_of (kind.Short count) = None
error_of kind.Killed = None
error_of kind.Stop = None
error_of (kind.World w) = None

abbrev pub is_undone : Kind → Bool
is_undone (kind.Undone error) = true
is_undone (kind.Done error) = false
is_undone (kind.Short count) = false
is_undone kind.Killed = false
is_undone kind.Stop = false
is_undone (kind.World w) = false

abbrev pub is_stop : Kind → Bool
is_stop (kind.Undone error) = false
is_stop (kind.Done error) = false
is_stop (kind.Short count) = false
is_stop kind.Killed = false
is_stop kind.Stop = true
is_stop (kind.World w) = false

-- of every process, from the entry on
abbrev pub is_world : Kind → Bool
is_world (kind.Undone error) = false
is_world (kind.Done error) = false
is_world (kind.Short count) = false
is_world kind.Killed = false
is_world kind.Stop = false
is_world (kind.World w) = true
