-- The text of each argument, and of an item of a list, is made of the next reads alone.
use Rattle.std.proofs.Common.{ℕ, zero, suc, ◌≡◌, ◌+◌, ◌-◌, ◌/◌, ◌%◌, ◌*◌, ◌^◌, ◌==◌, ◌&&◌, nat_lt, min, Bool, true, false, if◌then◌else◌, List, [], ◌++◌, length, take, Option, Some, None, codes, decimal}
use Rattle.lx_abi.specs.Flags as tables
use Rattle.lx_abi.specs.declared.calls.Argument.{Argument}
use Rattle.lx_abi.specs.declared.calls.Argument.TheVariants as kind
use Rattle.tr_args.specs.declared.context.ArgumentPlace.{ArgumentPlace}
use Rattle.tr_values.specs.Sheets.{Sheet, Shown, Has, put, reads, ◌>>=◌}
use Rattle.tr_values.specs.Numbers.{int, long, unsigned, pointer, pointer_text, hex, hex_text, mode, mode_text}
use Rattle.tr_values.specs.Escapes.{nul_at, quoted, cut}
use Rattle.tr_values.specs.Flags.{open_flags, access_mode, flags_text, descriptor_flags, stat_flags, unlink_flags, protection, map_flags, wait_options, action_flags, whence, mask_change}
use Rattle.tr_values.specs.Structs.{half_at, word_at, unless_null, struct, struct_read}
use Rattle.tr_args.specs.Paths.{path_read, path}
use Rattle.tr_args.specs.Buffers.{buffer_read, buffer}
use Rattle.tr_args.specs.Lists.{comma, words, null_at, item_read, item_more, item}
use Rattle.tr_args.specs.Environments.{variables, environment_read, environment}
use Rattle.tr_values.specs.Descriptors.{directory, pair_read, pair}
use Rattle.tr_values.specs.Signals.{name_of_signal, signal_or, signal_number, bare_signal, set_shown, set_read, signal_set, frame_mask}
use Rattle.tr_values.specs.Actions.{handler, action_read, action}
use Rattle.tr_values.specs.Files.{file_type, file_mode, stat_read, stat}
use Rattle.tr_values.specs.WaitWords.{exited, signalled, stopped, unnamed, is_stop_word, wait_word, word_read, wait_word_at, wait_status}
use Rattle.tr_values.specs.Children.{child_stack, clone_flags}
use Rattle.tr_args.specs.Kinds.{has_failed, count_of, shown, is_result, argument, is_left_out, next_argument}
use Rattle.tr_args.specs.Progress.{is_list}
use Rattle.tr_args.proofs.Fragments.{Framed, put_f, has_f, after_f, either_f, reads_f}

quoted_f : (bs : List ℕ) → Framed (quoted bs)
unfolding quoted
quoted_f bs = put_f _

cut_f : (bs : List ℕ) → Framed (cut bs)
cut_f bs = after_f (quoted bs) (put (codes "...")) (quoted_f bs) (put_f (codes "..."))

pointer_f : (x : ℕ) → Framed (pointer x)
unfolding pointer
pointer_f x = put_f (pointer_text x)

hex_f : (x : ℕ) → Framed (hex x)
unfolding hex
hex_f x = put_f (hex_text x)

int_f : (x : ℕ) → Framed (int x)
unfolding int
int_f x = put_f _

mode_f : (x : ℕ) → Framed (mode x)
unfolding mode
mode_f x = put_f (mode_text x)

null_f : (address : ℕ) (f : Sheet → Shown) → Framed f → Framed (unless_null address f)
null_f address f h = either_f (address == 0) (put (codes "NULL")) f (put_f (codes "NULL")) h

path_read_f : (address : ℕ) (bs : List ℕ) → Framed (path_read address bs)
unfolding path_read
path_read_f address bs = either_f (nat_lt (nul_at bs) (length bs)) (quoted (take (nul_at bs) bs)) (λ s. if nat_lt (length bs) 4096 then pointer address s else cut (take 4095 bs) s) (quoted_f _) (either_f (nat_lt (length bs) 4096) (pointer address) (cut (take 4095 bs)) (pointer_f address) (cut_f _))

path_f : (address : ℕ) → Framed (path address)
unfolding path
path_f address = null_f address _ (reads_f address 4096 (path_read address) (path_read_f address))

buffer_read_f : (address count shown : ℕ) (bs : List ℕ) → Framed (buffer_read address count shown bs)
unfolding buffer_read
buffer_read_f address count shown bs = either_f (nat_lt (length bs) shown) (pointer address) (λ s. if nat_lt shown count then cut bs s else quoted bs s) (pointer_f address) (either_f (nat_lt shown count) (cut bs) (quoted bs) (cut_f bs) (quoted_f bs))

buffer_f : (most address count : ℕ) → Framed (buffer most address count)
unfolding buffer
buffer_f most address count =
    null_f address _ (either_f (min count most == 0) (buffer_read address count 0 []) _ (buffer_read_f address count 0 [])
    (reads_f address (min count most) _ (buffer_read_f address count (min count most))))

item_read_f : (most address : ℕ) (bs : List ℕ) → Framed (item_read most address bs)
unfolding item_read
item_read_f most address bs = either_f (nat_lt (nul_at bs) (length bs)) (quoted (take (nul_at bs) bs)) (λ s. if nat_lt most (length bs) then cut (take most bs) s else pointer address s) (quoted_f _) (either_f (nat_lt most (length bs)) (cut (take most bs)) (pointer address) (cut_f _) (pointer_f address))

item_more_f : (most address : ℕ) (bs : List ℕ) → Framed (item_more most address bs)
unfolding item_more
item_more_f most address bs = either_f (length bs == 4096) (reads ((address + 4096) % 2 ^ 64) (most - 4095) (λ more. item_read most address (bs ++ more))) (item_read most address bs)
    (reads_f ((address + 4096) % 2 ^ 64) (most - 4095) (λ more. item_read most address (bs ++ more)) (λ more. item_read_f most address (bs ++ more)))
    (item_read_f most address bs)

item_f : (most address : ℕ) → Framed (item most address)
unfolding item
item_f most address = either_f (nat_lt most 4096) (reads address (most + 1) (item_read most address)) (reads address 4096 (item_more most address))
    (reads_f address (most + 1) (item_read most address) (item_read_f most address))
    (reads_f address 4096 (item_more most address) (item_more_f most address))

-- an item behind a comma
pub comma_item_f : (most : ℕ) (some : Bool) (address : ℕ) → Framed (λ s. put (comma some) s >>= item most address)
comma_item_f most some address = after_f (put (comma some)) (item most address) (put_f (comma some)) (item_f most address)

environment_read_f : (address : ℕ) (bs : List ℕ) → Framed (environment_read address bs)
unfolding environment_read
environment_read_f address bs = after_f (pointer address) (put (if nat_lt (null_at (words bs)) (length (words bs)) then variables (null_at (words bs)) else [])) (pointer_f address) (put_f _)

environment_f : (address : ℕ) → Framed (environment address)
unfolding environment
environment_f address = null_f address _ (reads_f address 4096 (environment_read address) (environment_read_f address))

struct_f : (address size : ℕ) (f : List ℕ → Sheet → Shown) → ((bs : List ℕ) → Framed (f bs)) → Framed (struct address size f)
struct_f address size f h = null_f address _ (reads_f address size (struct_read address size f) (λ bs. either_f (nat_lt (length bs) size) (pointer address) (f bs) (pointer_f address) (h bs)))

set_shown_f : (set : ℕ) → Framed (set_shown set)
unfolding set_shown
set_shown_f set = put_f _

signal_set_f : (address : ℕ) → Framed (signal_set address)
unfolding signal_set
signal_set_f address = struct_f address 8 set_read (λ bs. set_shown_f (word_at 0 bs))

frame_mask_f : (sp : ℕ) → Framed (frame_mask sp)
unfolding frame_mask
frame_mask_f sp = after_f (put (codes "{mask=")) (λ s. signal_set ((sp + 256) % 2 ^ 64) s >>= put (codes "}")) (put_f _) (after_f (signal_set ((sp + 256) % 2 ^ 64)) (put (codes "}")) (signal_set_f _) (put_f _))

handler_f : (x : ℕ) → Framed (handler x)
unfolding handler
handler_f x = put_f _

action_flags_f : (x : ℕ) → Framed (action_flags x)
unfolding action_flags
action_flags_f x = put_f _

action_read_f : (bs : List ℕ) → Framed (action_read bs)
unfolding action_read
action_read_f bs = after_f (put (codes "{sa_handler=")) _ (put_f _) (after_f (handler (word_at 0 bs)) _ (handler_f _) (after_f (put (codes ", sa_mask=")) _ (put_f _) (after_f (set_shown (word_at 16 bs)) _ (set_shown_f _) (after_f (put (codes ", sa_flags=")) _ (put_f _) (after_f (action_flags (word_at 8 bs)) (put (codes "}")) (action_flags_f _) (put_f _))))))

action_f : (address : ℕ) → Framed (action address)
unfolding action
action_f address = struct_f address 24 action_read action_read_f

file_type_f : (x : ℕ) → Framed (file_type x)
unfolding file_type
file_type_f x = put_f _

file_mode_f : (x : ℕ) → Framed (file_mode x)
unfolding file_mode
file_mode_f x = after_f (file_type (x / 4096 * 4096)) _ (file_type_f _) (after_f (put (codes "|")) (mode (x % 4096)) (put_f _) (mode_f _))

closed_f : (text behind : List ℕ) → Framed (λ s. put text s >>= put behind)
closed_f text behind = after_f (put text) (put behind) (put_f text) (put_f behind)

stat_read_f : (bs : List ℕ) → Framed (stat_read bs)
unfolding stat_read
stat_read_f bs = after_f (put (codes "{st_mode=")) _ (put_f (codes "{st_mode=")) (after_f (file_mode (half_at 16 bs)) _ (file_mode_f (half_at 16 bs)) (after_f (put (codes ", st_size=")) (λ s. put (decimal (word_at 48 bs)) s >>= put (codes ", ...}")) (put_f (codes ", st_size=")) (closed_f (decimal (word_at 48 bs)) (codes ", ...}"))))

stat_f : (address : ℕ) → Framed (stat address)
unfolding stat
stat_f address = struct_f address 128 stat_read stat_read_f

pair_read_f : (bs : List ℕ) → Framed (pair_read bs)
unfolding pair_read
pair_read_f bs = after_f (put (codes "[")) _ (put_f _) (after_f (int (half_at 0 bs)) _ (int_f _) (after_f (put (codes ", ")) _ (put_f _) (after_f (int (half_at 4 bs)) (put (codes "]")) (int_f _) (put_f _))))

pair_f : (address : ℕ) → Framed (pair address)
unfolding pair
pair_f address = struct_f address 8 pair_read pair_read_f

exited_f : (word : ℕ) → Framed (exited word)
exited_f word = after_f (put (codes "[{WIFEXITED(s) && WEXITSTATUS(s) == ")) (λ s. put (decimal (word / 256)) s >>= put (codes "}]")) (put_f (codes "[{WIFEXITED(s) && WEXITSTATUS(s) == ")) (closed_f (decimal (word / 256)) (codes "}]"))

signalled_f : (word : ℕ) → Framed (signalled word)
signalled_f word = after_f (put (codes "[{WIFSIGNALED(s) && WTERMSIG(s) == SIG")) (λ s. put (bare_signal word) s >>= put (codes "}]")) (put_f (codes "[{WIFSIGNALED(s) && WTERMSIG(s) == SIG")) (closed_f (bare_signal word) (codes "}]"))

stopped_f : (word : ℕ) → Framed (stopped word)
stopped_f word = after_f (put (codes "[{WIFSTOPPED(s) && WSTOPSIG(s) == SIG")) (λ s. put (bare_signal (word / 256)) s >>= put (codes "}]")) (put_f (codes "[{WIFSTOPPED(s) && WSTOPSIG(s) == SIG")) (closed_f (bare_signal (word / 256)) (codes "}]"))

unnamed_f : (word : ℕ) → Framed (unnamed word)
unnamed_f word = after_f (put (codes "[")) (λ s. hex word s >>= put (codes "]")) (put_f (codes "[")) (after_f (hex word) (put (codes "]")) (hex_f word) (put_f (codes "]")))

word_f : (word : ℕ) → Framed (wait_word word)
unfolding wait_word
word_f word =
    either_f ((word % 256 == 0) && nat_lt word 65536) (exited word) unless_exited (exited_f word)
    (either_f (nat_lt 0 word && nat_lt word 32) (signalled word) unless_signalled (signalled_f word)
    (either_f (is_stop_word word) (stopped word) unless_stopped (stopped_f word)
    (either_f (word == 65535) (put (codes "[{WIFCONTINUED(s)}]")) (unnamed word) (put_f (codes "[{WIFCONTINUED(s)}]")) (unnamed_f word)))) where
      unless_stopped : Sheet → Shown
      unless_stopped s = if word == 65535 then put (codes "[{WIFCONTINUED(s)}]") s else unnamed word s

      unless_signalled : Sheet → Shown
      unless_signalled s = if is_stop_word word then stopped word s else unless_stopped s

      unless_exited : Sheet → Shown
      unless_exited s = if nat_lt 0 word && nat_lt word 32 then signalled word s else unless_signalled s

word_at_f : (address : ℕ) → Framed (wait_word_at address)
unfolding wait_word_at
word_at_f address = struct_f address 4 word_read (λ bs. word_f (half_at 0 bs))

status_f : (address : ℕ) (o : Option ℕ) → Framed (wait_status address o)
status_f address None = word_at_f address
status_f address (Some zero) = pointer_f address
status_f address (Some (suc n)) = word_at_f address

signal_f : (x : ℕ) (o : Option (List ℕ)) → Framed (signal_or x o)
signal_f x (Some name) = put_f _
signal_f x None = int_f x

clone_f : (word : ℕ) → Framed (clone_flags word)
unfolding clone_flags
clone_f word = after_f (put (codes "flags=")) (λ s. if word == 17 then put (codes "SIGCHLD") s else hex word s) (put_f _) (either_f (word == 17) (put (codes "SIGCHLD")) (hex word) (put_f _) (hex_f word))

child_f : (x : ℕ) → Framed (child_stack x)
unfolding child_stack
child_f x = after_f (put (codes "child_stack=")) (pointer x) (put_f _) (pointer_f x)

open_flags_f : (word : ℕ) → Framed (open_flags word)
unfolding open_flags
open_flags_f word = after_f (access_mode (word % 4)) (put (flags_text true (word - word % 4) tables.open_flags)) (put_f _) (put_f _)

directory_f : (x : ℕ) → Framed (directory x)
unfolding directory
directory_f x = either_f (x % 2 ^ 32 == 2 ^ 32 - 100) (put (codes "AT_FDCWD")) (int x) (put_f _) (int_f x)

shown_f : (a : Argument) (p : ArgumentPlace) → is_list a ≡ false → Framed (shown a p)
unfolding shown long unsigned descriptor_flags stat_flags map_flags wait_options unlink_flags whence mask_change protection signal_number
shown_f kind.Int p h = int_f p.value
shown_f kind.Long p h = put_f _
shown_f kind.Unsigned p h = put_f _
shown_f kind.Pointer p h = pointer_f p.value
shown_f kind.Hex p h = hex_f p.value
shown_f kind.Octal p h = mode_f p.value
shown_f kind.Path p h = path_f p.value
shown_f kind.Bytes p h = buffer_f p.most p.value (count_of p.next p.result)
shown_f kind.Directory p h = directory_f p.value
shown_f kind.SignalNumber p h = signal_f p.value (name_of_signal (p.value % 2 ^ 32))
shown_f kind.OpenFlags p h = open_flags_f p.value
shown_f kind.CreationMode p h = mode_f p.value
shown_f kind.CloseOnExec p h = put_f _
shown_f kind.StatFlags p h = put_f _
shown_f kind.Protection p h = put_f _
shown_f kind.MapFlags p h = put_f _
shown_f kind.WaitOptions p h = put_f _
shown_f kind.UnlinkFlags p h = put_f _
shown_f kind.Whence p h = put_f _
shown_f kind.MaskChange p h = put_f _
shown_f kind.Strings p h = cc
shown_f kind.Environment p h = environment_f p.value
shown_f kind.Action p h = action_f p.value
shown_f kind.SignalSet p h = signal_set_f p.value
shown_f kind.Stat p h = stat_f p.value
shown_f kind.DescriptorPair p h = pair_f p.value
shown_f kind.WaitStatus p h = status_f p.value p.result
shown_f kind.FrameMask p h = frame_mask_f p.sp
shown_f kind.ChildStack p h = child_f p.next
shown_f kind.CloneFlags p h = clone_f p.before

argument_f : (a : Argument) (p : ArgumentPlace) → is_list a ≡ false → Framed (argument a p)
unfolding argument
argument_f a p h = either_f (is_result a && has_failed p.result) (pointer p.value) (shown a p) (pointer_f p.value) (shown_f a p h)

pub next_f : (some : Bool) (a : Argument) (p : ArgumentPlace) → is_list a ≡ false → Framed (next_argument some a p)
next_f some a p h = either_f (is_left_out a p) (λ s. Has s) (λ s. put (comma some) s >>= argument a p) has_f (after_f (put (comma some)) (argument a p) (put_f (comma some)) (argument_f a p h))
