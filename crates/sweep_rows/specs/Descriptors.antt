-- What each descriptor of each process stands for, as a log tells it (open(2), dup(2), close(2), fork(2)).
use Rattle.std.specs.Prelude.{ℕ, suc, ◌-◌, ◌^◌, ◌%◌, ◌==◌, ◌&&◌, ◌||◌, nat_lt, Bool, true, false, cond, if◌then◌else◌}
use Rattle.std.specs.Prelude.{List, [], ◌∷◌, slice_index, Option, Some, None}
use Rattle.std.specs.FinMap as maps
use Rattle.lx_abi.specs.Sys.{sys_openat, sys_close, sys_dup, sys_dup3, sys_write, sys_clone}
use Rattle.lx_abi.specs.declared.log.Call.{Call}
use Rattle.lx_abi.specs.declared.log.Item.{Item}
use Rattle.lx_abi.specs.declared.log.Item.TheVariants.{Enter, Done, Taken, Stopped, Exit}
use Rattle.sweep_rows.specs.declared.descriptors.Target.{Target}
use Rattle.sweep_rows.specs.declared.descriptors.Target.TheVariants.{Input, Output, Error, File, Other}
use Rattle.sweep_rows.specs.declared.descriptors.Use.{Use}
use Rattle.sweep_rows.specs.declared.descriptors.Held.{Held}
use Rattle.sweep_rows.specs.declared.descriptors.Descriptors.{Descriptors}

abbrev pub argument : Call → ℕ → ℕ
argument call n = slice_index call.arguments n

-- a descriptor has 32 bits
abbrev pub low : ℕ → ℕ
low word = word % 2 ^ 32

-- the descriptor that a call has as its first argument
abbrev pub descriptor : Call → ℕ
descriptor call = low (argument call 0)

-- the word is an error's: one of -4095 to -1
abbrev pub is_failure : ℕ → Bool
is_failure word = nat_lt (2 ^ 64 - 1 - 4095) word

abbrev pub is_dup : ℕ → Bool
is_dup number = (number == sys_dup) || (number == sys_dup3)

abbrev pub unwritten : Target → Use
unwritten target = record { target = target; wrote = false }

abbrev pub standard : ℕ → Target
standard number =
    if number == 0 then Input else (if number == 1 then Output else (if number == 2 then Error else Other))

-- what each descriptor of each process stands for when a run begins
abbrev pub at_boot : ℕ → ℕ → Use
at_boot pid number = unwritten (standard number)

-- one of a process stands for this from now on
abbrev pub with_use : ℕ → ℕ → Use → (ℕ → ℕ → Use) → ℕ → ℕ → Use
with_use pid number used uses p n = cond ((p == pid) && (n == number)) used (uses p n)

-- a child has its parent's
abbrev pub with_child : ℕ → ℕ → (ℕ → ℕ → Use) → ℕ → ℕ → Use
with_child parent child uses p n = cond (p == child) (uses parent n) (uses p n)

-- what they stand for after a call that was done, whose end stands at this place of the log
unfoldable pub after_call : ℕ → (ℕ → ℕ → Use) → ℕ → Call → ℕ → ℕ → ℕ → Use
after_call at uses pid call word =
    if call.number == sys_openat then with_use pid (low word) (unwritten (File at)) uses
    else (if is_dup call.number then with_use pid (low word) (uses pid (descriptor call)) uses
    else (if call.number == sys_close then with_use pid (descriptor call) (unwritten Other) uses
    else (if call.number == sys_write then
    with_use pid (descriptor call) (record (uses pid (descriptor call)) { wrote = true }) uses
    else (if call.number == sys_clone then with_child pid (low word) uses else uses))))

-- a call that failed, or was not made, changes nothing
unfoldable pub after_item : ℕ → Item → (ℕ → ℕ → Use) → ℕ → ℕ → Use
after_item at (Enter pid call) uses = uses
after_item at (Done pid call word replaced) uses =
    cond (replaced || is_failure word) uses (after_call at uses pid call word)
after_item at (Taken pid signal cause) uses = uses
after_item at (Stopped pid signal) uses = uses
after_item at (Exit pid word left) uses = uses

-- what they stand for after these items, the first of which has this place
abbrev pub uses_after : ℕ → (ℕ → ℕ → Use) → List Item → ℕ → ℕ → Use
uses_after at uses [] = uses
uses_after at uses (i ∷ is) = uses_after (suc at) (after_item at i uses) is

-- what they stand for after a log
abbrev pub uses_of : List Item → ℕ → ℕ → Use
uses_of log = uses_after 0 at_boot log

-- How they are kept: those of a process that something was told of, each once

abbrev pub use_in : List Held → ℕ → Use
use_in [] number = unwritten (standard number)
use_in (h ∷ hs) number = cond (number == h.number) h.used (use_in hs number)

abbrev pub held_of : Option (List Held) → List Held
held_of None = []
held_of (Some held) = held

abbrev pub uses_in : Descriptors → ℕ → ℕ → Use
uses_in d pid number = use_in (held_of (maps.get d.processes pid)) number
