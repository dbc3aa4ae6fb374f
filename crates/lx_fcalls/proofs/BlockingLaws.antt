-- A read or a write answers that it blocks where it would block, and nowhere else.
use Rattle.std.proofs.Common.{◌≡◌, ℕ, ◌+◌, ◌&&◌, Bool, true, false, cond, List, length, Option, Some, None, refl, ap, ◌∙◌}
use Rattle.std.specs.Prelude.{◌==◌, not, nat_lt, nat_le, ◌++◌, min, is_none, is_some}
use Rattle.lx_abi.specs.declared.log.Call.{Call}
use Rattle.lx_abi.specs.Limits.{largest_file, most_moved, pipe_size}
use Rattle.rv_mem.specs.Memory.{first_fault, bytes_at, written}
use Rattle.rv_mem.specs.declared.fault.MemFault.{MemFault}
use Rattle.rv_mem.specs.declared.rights.Access.TheVariants as access
use Rattle.lx_model.specs.Machine.{Refused, Returns, Blocks}
use Rattle.lx_abi.specs.Errnos.{ebadf, efault, efbig, enospc}
use Rattle.lx_open.specs.declared.description.Object.{Object}
use Rattle.lx_open.specs.declared.description.Object.TheVariants.{Input, Console, ReadEnd, WriteEnd, Opened}
use Rattle.lx_open.specs.declared.description.Description.{Description}
use Rattle.lx_open.specs.declared.description.Slot.{Slot}
use Rattle.lx_files.specs.Contents.{overwritten, length_after}
use Rattle.lx_files.specs.Trees.{content, with_content}
use Rattle.lx_open.specs.Opens.{with_offset, slot, description, held, has_readers}
use Rattle.lx_proc.specs.declared.state.Shared.{Shared}
use Rattle.lx_proc.specs.declared.state.UserState.{UserState}
use Rattle.lx_proc.specs.State.{with_memory}
use Rattle.lx_proc.specs.Answers.{Answers, argument, low_argument, unless, given, gives}
use Rattle.lx_fcalls.specs.Moving.{has_space}
use Rattle.lx_fcalls.specs.Read.{read, reads_object, waits}
use Rattle.lx_fcalls.specs.Write.{writes_file, breaks_pipe, write, writes_object, writes_console, writes_at, start_of}
use Rattle.lx_fcalls.specs.Blocking.{read_waits, reading_waits, read_would_block, write_waits, writing_waits, write_would_block, passes}
use Rattle.lx_proc.specs.Answers.{is_blocked}
use Rattle.lx_fcalls.proofs.Lengths.{length_bytes_at}

pub unless_never : (h : Bool) (e : ℕ) (a : Answers) → is_blocked a ≡ false → is_blocked (unless h e a) ≡ false
unless_never true e a never = never
unless_never false e a never = refl

pub gives_never : (s : Shared) (b : UserState) (at : ℕ) (bytes : List ℕ) (x : ℕ) → is_blocked (gives s b at bytes x) ≡ false
gives_never s b at bytes x = go (is_some (first_fault access.Write b.memory at (length bytes)))
  where
    go : (f : Bool) → is_blocked (cond f (Refused efault) (Returns s (with_memory b (written b.memory at bytes)) x)) ≡ false
    go true = refl
    go false = refl

or_blocks : (w : Bool) (a : Answers) → is_blocked a ≡ false → is_blocked (cond w Blocks a) ≡ w
or_blocks true a never = refl
or_blocks false a never = never

reading : (s : Shared) (b : UserState) (named : Slot) (d : Description) (at n : ℕ) (o : Object) → is_blocked (reads_object s b named d at n o) ≡ reading_waits s.fds n o
reading s b named d at n Input = gives_never _ b at _ _
reading s b named d at n Console = refl
reading s b named d at n (ReadEnd pipe) = or_blocks (waits s.fds pipe n) _ (gives_never _ b at _ _)
reading s b named d at n (WriteEnd pipe) = refl
reading s b named d at n (Opened node) = gives_never _ b at _ _

unless_both : (h : Bool) (e : ℕ) (a : Answers) (w : Bool) → is_blocked a ≡ w → is_blocked (unless h e a) ≡ (h && w)
unless_both true e a w is = is
unless_both false e a w is = refl

pub read_blocks : (s : Shared) (p : ℕ) (call : Call) (b : UserState) → is_blocked (read s p call b) ≡ read_would_block s p call
unfolding read read_would_block
read_blocks s p call b = on_slot (slot s.fds p (low_argument call 0))
  where
    at : ℕ
    at = argument call 1

    n : ℕ
    n = min (argument call 2) most_moved

    on_description : (named : Slot) (o : Option Description) → is_blocked (given o ebadf (λ d. unless d.may_read ebadf (reads_object s b named d at n d.object))) ≡ passes (read_waits s.fds n) o
    on_description named None = refl
    on_description named (Some d) = unless_both d.may_read ebadf _ _ (reading s b named d at n d.object)

    on_slot : (o : Option Slot) → is_blocked (given o ebadf (λ named. given (description s.fds named.description) ebadf (λ d. unless d.may_read ebadf (reads_object s b named d at n d.object)))) ≡ passes (λ named. passes (read_waits s.fds n) (description s.fds named.description)) o
    on_slot None = refl
    on_slot (Some named) = on_description named (description s.fds named.description)

console_never : (s : Shared) (b : UserState) (bytes : List ℕ) → is_blocked (writes_console s b bytes) ≡ false
console_never s b bytes = unless_never (has_space s 0 (length bytes)) enospc (Returns (record s { console = s.console ++ bytes }) b (length bytes)) refl

file_never : (s : Shared) (b : UserState) (named : Slot) (node at : ℕ) (bytes : List ℕ) → is_blocked (writes_at s b named node at bytes) ≡ false
file_never s b named node at bytes =
    let old = length (content s.tree node) in
    let room = has_space s old (length_after old at (length bytes)) in
    let answer : Answers = Returns (record s { tree = with_content s.tree node (λ old. overwritten old at bytes); fds = with_offset s.fds named.description (at + length bytes) }) b (length bytes) in
    unless_never (nat_le (at + length bytes) largest_file) efbig (unless room enospc answer) (unless_never room enospc answer refl)

whole_never : (s : Shared) (b : UserState) (named : Slot) (d : Description) (node : ℕ) (bytes : List ℕ) → is_blocked (writes_file s b named d node bytes) ≡ false
whole_never s b named d node bytes = go (length bytes == 0)
  where
    go : (none : Bool) → is_blocked (cond none (Returns s b 0) (writes_at s b named node (start_of s d node) bytes)) ≡ false
    go true = refl
    go false = file_never s b named node (start_of s d node) bytes

in_pipe : (readers full : Bool) (broken put : Answers) → is_blocked broken ≡ false → is_blocked put ≡ false → is_blocked (cond (not readers) broken (cond full Blocks put)) ≡ (readers && full)
in_pipe true true broken put a b = refl
in_pipe true false broken put a b = b
in_pipe false full broken put a b = a

writing : (s : Shared) (p : ℕ) (b : UserState) (named : Slot) (d : Description) (bytes : List ℕ) (n : ℕ) (o : Object) → length bytes ≡ n → is_blocked (writes_object s p b named d bytes o) ≡ writing_waits s.fds n o
writing s p b named d bytes n Input is = refl
writing s p b named d bytes n Console is = console_never s b bytes
writing s p b named d bytes n (ReadEnd pipe) is = refl
writing s p b named d bytes n (WriteEnd pipe) is =
    in_pipe (has_readers s.fds pipe) (nat_lt pipe_size (length (held s.fds pipe) + length bytes)) (breaks_pipe s p b) _ refl refl
    ∙ ap (λ n. has_readers s.fds pipe && nat_lt pipe_size (length (held s.fds pipe) + n)) is
writing s p b named d bytes n (Opened node) is = whole_never s b named d node bytes

faulting : (f : Option MemFault) (a : Answers) (w : Bool) → is_blocked a ≡ w → is_blocked (cond (is_some f) (Refused efault) a) ≡ (is_none f && w)
faulting None a w is = is
faulting (Some f) a w is = refl

pub write_blocks : (s : Shared) (p : ℕ) (call : Call) (b : UserState) → is_blocked (write s p call b) ≡ write_would_block s p call b
unfolding write write_would_block
write_blocks s p call b = on_slot (slot s.fds p (low_argument call 0))
  where
    at : ℕ
    at = argument call 1

    n : ℕ
    n = min (argument call 2) most_moved

    writes : Slot → Description → Answers
    writes named d = unless d.may_write ebadf (cond (is_some (first_fault access.Read b.memory at n)) (Refused efault) (writes_object s p b named d (bytes_at b.memory at n) d.object))

    on_description : (named : Slot) (o : Option Description) → is_blocked (given o ebadf (writes named)) ≡ passes (write_waits s.fds b.memory at n) o
    on_description named None = refl
    on_description named (Some d) =
        unless_both d.may_write ebadf _ _ (faulting (first_fault access.Read b.memory at n) _ _ (writing s p b named d (bytes_at b.memory at n) n d.object (length_bytes_at b.memory at n)))

    on_slot : (o : Option Slot) → is_blocked (given o ebadf (λ named. given (description s.fds named.description) ebadf (writes named))) ≡ passes (λ named. passes (write_waits s.fds b.memory at n) (description s.fds named.description)) o
    on_slot None = refl
    on_slot (Some named) = on_description named (description s.fds named.description)
