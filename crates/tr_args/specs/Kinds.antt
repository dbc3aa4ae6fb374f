-- An argument of a call as strace(1) shows it, by its kind; before the call's result, or with it.
use Rattle.std.specs.Prelude.{ℕ, ◌-◌, ◌^◌, ◌&&◌, not, nat_le, Bool, true, false, Option, Some, None}
use Rattle.std.specs.Prelude.{if◌then◌else◌}
use Rattle.lx_abi.specs.declared.calls.Argument.{Argument}
use Rattle.lx_abi.specs.declared.calls.Argument.TheVariants as kind
use Rattle.lx_abi.specs.Flags.{has, o_creat}
use Rattle.tr_values.specs.Sheets.{Sheet, Shown, Has, put, ◌>>=◌}
use Rattle.tr_values.specs.Numbers.{int, long, unsigned, pointer, hex, mode}
use Rattle.tr_values.specs.Flags.{open_flags, descriptor_flags, stat_flags, unlink_flags, protection, map_flags}
use Rattle.tr_values.specs.Flags.{wait_options, whence, mask_change}
use Rattle.tr_args.specs.Paths.{path}
use Rattle.tr_args.specs.Buffers.{buffer}
use Rattle.tr_args.specs.Lists.{comma, list}
use Rattle.tr_args.specs.Environments.{environment}
use Rattle.tr_values.specs.Descriptors.{directory, pair}
use Rattle.tr_values.specs.Signals.{signal_number, signal_set, frame_mask}
use Rattle.tr_values.specs.Actions.{action}
use Rattle.tr_values.specs.Files.{stat}
use Rattle.tr_values.specs.WaitWords.{wait_status}
use Rattle.tr_values.specs.Children.{child_stack, clone_flags}
use Rattle.tr_args.specs.declared.context.ArgumentPlace.{ArgumentPlace}

-- a word of -4095 to -1
abbrev pub is_error : ℕ → Bool
is_error x = nat_le (2 ^ 64 - 4095) x

abbrev pub has_failed : Option ℕ → Bool
has_failed None = false
has_failed (Some result) = is_error result

-- how many bytes there are: the next argument says it, or the result
abbrev pub count_of : ℕ → Option ℕ → ℕ
count_of next None = next
count_of next (Some result) = result

-- by the kind of the argument
unfoldable pub shown : Argument → ArgumentPlace → Sheet → Shown
shown kind.Int p = int p.value
shown kind.Long p = long p.value
shown kind.Unsigned p = unsigned p.value
shown kind.Pointer p = pointer p.value
shown kind.Hex p = hex p.value
shown kind.Octal p = mode p.value
shown kind.Path p = path p.value
shown kind.Bytes p = buffer p.most p.value (count_of p.next p.result)
shown kind.Directory p = directory p.value
shown kind.SignalNumber p = signal_number p.value
shown kind.OpenFlags p = open_flags p.value
shown kind.CreationMode p = mode p.value
shown kind.CloseOnExec p = descriptor_flags p.value
shown kind.StatFlags p = stat_flags p.value
shown kind.Protection p = protection p.value
shown kind.MapFlags p = map_flags p.value
shown kind.WaitOptions p = wait_options p.value
shown kind.UnlinkFlags p = unlink_flags p.value
shown kind.Whence p = whence p.value
shown kind.MaskChange p = mask_change p.value
shown kind.Strings p = list p.most p.value
shown kind.Environment p = environment p.value
shown kind.Action p = action p.value
shown kind.SignalSet p = signal_set p.value
shown kind.Stat p = stat p.value
shown kind.DescriptorPair p = pair p.value
shown kind.WaitStatus p = wait_status p.value p.result
shown kind.FrameMask p = frame_mask p.sp
shown kind.ChildStack p = child_stack p.next
shown kind.CloneFlags p = clone_flags p.before

-- what the call writes into memory; its address stands there where the call failed
abbrev pub is_result : Argument → Bool
is_result kind.Path = true
is_result kind.Bytes = true
is_result kind.Action = true
is_result kind.SignalSet = true
is_result kind.Stat = true
is_result kind.DescriptorPair = true
is_result kind.WaitStatus = true
is_result _ = false

unfoldable pub argument : Argument → ArgumentPlace → Sheet → Shown
argument a p s = if is_result a && has_failed p.result then pointer p.value s else shown a p s

-- the mode of a new file is shown with O_CREAT alone
abbrev pub is_left_out : Argument → ArgumentPlace → Bool
is_left_out kind.CreationMode p = not (has p.before o_creat)
is_left_out _ p = false

-- an argument, behind a comma where one stands before it
abbrev pub next_argument : Bool → Argument → ArgumentPlace → Sheet → Shown
next_argument some a p s = if is_left_out a p then Has s else (put (comma some) s >>= argument a p)
