-- No text of a call reads more than 96 times.
use Rattle.std.proofs.Common.{ℕ, zero, suc, ◌≡◌, ◌≤◌, ◌+◌, ◌-◌, ◌%◌, ◌^◌, ◌==◌, ◌&&◌, nat_le, nat_lt, Bool, true, false, if◌then◌else◌, List, [], ◌∷◌, length, Option, Some, None, option_map, find, codes, refl, arith, lit≤}
use Rattle.std.specs.List.{list_all}
use Rattle.std.proofs.lemmas.Bool.Decides.{nat_tests}
use Rattle.lx_abi.specs.declared.calls.Argument.{Argument}
use Rattle.lx_abi.specs.declared.calls.Argument.TheVariants as kind
use Rattle.lx_abi.specs.Calls.{Row, calls, call_format}
use Rattle.pt_model.specs.Requests.{may_peek}
use Rattle.pt_model.specs.Parts.{Half, At_entry, At_exit}
use Rattle.pt_model.specs.Headline.{IsTexts}
use Rattle.tr_args.specs.declared.context.ArgumentPlace.{ArgumentPlace}
use Rattle.tr_args.specs.declared.context.Context.{Context}
use Rattle.tr_values.specs.Sheets.{Sheet, Shown, Has, Wants, put, ◌>>=◌}
use Rattle.tr_values.specs.Numbers.{int, long, unsigned, pointer, hex, mode}
use Rattle.tr_values.specs.Flags.{open_flags, descriptor_flags, stat_flags, unlink_flags, protection, map_flags, wait_options, action_flags, whence, mask_change}
use Rattle.tr_values.specs.Structs.{struct, struct_read}
use Rattle.tr_args.specs.Lists.{comma}
use Rattle.tr_values.specs.Descriptors.{directory, pair_read, pair}
use Rattle.tr_values.specs.Signals.{name_of_signal, signal_or, signal_number, set_shown, set_read, signal_set, frame_mask}
use Rattle.tr_values.specs.Actions.{handler, action_read, action}
use Rattle.tr_values.specs.Files.{file_type, file_mode, stat_read, stat}
use Rattle.tr_values.specs.WaitWords.{exited, signalled, stopped as stopped_word, unnamed, is_stop_word, wait_word, word_read, wait_word_at, wait_status}
use Rattle.tr_values.specs.Children.{child_stack, clone_flags}
use Rattle.tr_args.specs.Kinds.{has_failed, count_of, shown, is_result, argument, is_left_out, next_argument}
use Rattle.tr_args.specs.Arguments.{place, arguments, format_by, format_of, joint, entry, rest, half_by, half, wish_of}
use Rattle.tr_values.specs.Calls.{name_text}
use Rattle.tr_args.specs.Texts.{context_of, texts}
use Rattle.tr_args.proofs.Formats.{find_keeps}
use Rattle.tr_args.proofs.Bounds.{Bounded, Within, wider, after, either, reads_within, choose}
use Rattle.tr_args.proofs.Costs.{null_w, path_w, buffer_w, list_w, environment_w}

struct_w : (address size : ℕ) (f : List ℕ → Sheet → Shown) → may_peek size ≡ true → ((bs : List ℕ) → Within 0 (f bs)) → Within 1 (struct address size f)
unfolding pointer
struct_w address size f e h = null_w 1 address _ (reads_within 0 address size (struct_read address size f) e (λ bs. either 0 (nat_lt (length bs) size) (pointer address) (f bs) (λ g s. omega arith) (λ g. h bs)))

signal_set_w : (address : ℕ) → Within 1 (signal_set address)
unfolding signal_set set_shown
signal_set_w address = struct_w address 8 set_read refl (λ bs s. omega arith)

frame_mask_w : (sp : ℕ) → Within 1 (frame_mask sp)
unfolding frame_mask
frame_mask_w sp = after 0 1 (put (codes "{mask=")) (λ s. signal_set ((sp + 256) % 2 ^ 64) s >>= put (codes "}")) (λ s. omega arith) (after 1 0 (signal_set ((sp + 256) % 2 ^ 64)) (put (codes "}")) (signal_set_w _) (λ s. omega arith))

action_w : (address : ℕ) → Within 1 (action address)
unfolding action action_read handler set_shown action_flags
action_w address = struct_w address 24 action_read refl (λ bs s. omega arith)

stat_w : (address : ℕ) → Within 1 (stat address)
unfolding stat stat_read file_mode file_type mode
stat_w address = struct_w address 128 stat_read refl (λ bs s. omega arith)

pair_w : (address : ℕ) → Within 1 (pair address)
unfolding pair pair_read int
pair_w address = struct_w address 8 pair_read refl (λ bs s. omega arith)

word_w : (word : ℕ) → Within 0 (wait_word word)
unfolding wait_word hex
word_w word s =
    choose 0 s ((word % 256 == 0) && nat_lt word 65536) (exited word s) unless_exited (omega arith)
    (choose 0 s (nat_lt 0 word && nat_lt word 32) (signalled word s) unless_signalled (omega arith)
    (choose 0 s (is_stop_word word) (stopped_word word s) unless_stopped (omega arith)
    (choose 0 s (word == 65535) (put (codes "[{WIFCONTINUED(s)}]") s) (unnamed word s) (omega arith) (omega arith)))) where
      unless_stopped : Shown
      unless_stopped = if word == 65535 then put (codes "[{WIFCONTINUED(s)}]") s else unnamed word s

      unless_signalled : Shown
      unless_signalled = if is_stop_word word then stopped_word word s else unless_stopped

      unless_exited : Shown
      unless_exited = if nat_lt 0 word && nat_lt word 32 then signalled word s else unless_signalled

word_at_w : (address : ℕ) → Within 1 (wait_word_at address)
unfolding wait_word_at
word_at_w address = struct_w address 4 word_read refl (λ bs. word_w _)

status_w : (address : ℕ) (o : Option ℕ) → Within 1 (wait_status address o)
unfolding pointer
status_w address None = word_at_w address
status_w address (Some zero) = λ s. omega arith
status_w address (Some (suc n)) = word_at_w address

signal_w : (x : ℕ) (o : Option (List ℕ)) → Within 1 (signal_or x o)
unfolding int
signal_w x (Some name) = λ s. omega arith
signal_w x None = λ s. omega arith

clone_w : (word : ℕ) → Within 1 (clone_flags word)
unfolding clone_flags hex
clone_w word = after 0 1 (put (codes "flags=")) _ (λ s. omega arith) (either 1 (word == 17) (put (codes "SIGCHLD")) (hex word) (λ e s. omega arith) (λ e s. omega arith))

abbrev pub cost : Argument → ℕ
cost kind.Strings = 65
cost _ = 1

shown_w : (a : Argument) (p : ArgumentPlace) → p.most ≤ 4096 → Within (cost a) (shown a p)
unfolding shown int long unsigned pointer hex mode descriptor_flags stat_flags map_flags wait_options unlink_flags whence mask_change open_flags protection child_stack directory signal_number
shown_w kind.Int p h s = omega arith
shown_w kind.Long p h s = omega arith
shown_w kind.Unsigned p h s = omega arith
shown_w kind.Pointer p h s = omega arith
shown_w kind.Hex p h s = omega arith
shown_w kind.Octal p h s = omega arith
shown_w kind.Path p h s = path_w p.value s
shown_w kind.Bytes p h s = buffer_w p.most p.value (count_of p.next p.result) h s
shown_w kind.Directory p h s = choose 1 s (p.value % 2 ^ 32 == 2 ^ 32 - 100) (put (codes "AT_FDCWD") s) (int p.value s) (omega arith) (omega arith)
shown_w kind.SignalNumber p h s = signal_w p.value (name_of_signal (p.value % 2 ^ 32)) s
shown_w kind.OpenFlags p h s = omega arith
shown_w kind.CreationMode p h s = omega arith
shown_w kind.CloseOnExec p h s = omega arith
shown_w kind.StatFlags p h s = omega arith
shown_w kind.Protection p h s = omega arith
shown_w kind.MapFlags p h s = omega arith
shown_w kind.WaitOptions p h s = omega arith
shown_w kind.UnlinkFlags p h s = omega arith
shown_w kind.Whence p h s = omega arith
shown_w kind.MaskChange p h s = omega arith
shown_w kind.Strings p h s = list_w p.most p.value h s
shown_w kind.Environment p h s = environment_w p.value s
shown_w kind.Action p h s = action_w p.value s
shown_w kind.SignalSet p h s = signal_set_w p.value s
shown_w kind.Stat p h s = stat_w p.value s
shown_w kind.DescriptorPair p h s = pair_w p.value s
shown_w kind.WaitStatus p h s = status_w p.value p.result s
shown_w kind.FrameMask p h s = frame_mask_w p.sp s
shown_w kind.ChildStack p h s = omega arith
shown_w kind.CloneFlags p h s = clone_w p.before s

argument_w : (a : Argument) (p : ArgumentPlace) → p.most ≤ 4096 → Within (cost a) (argument a p)
unfolding argument pointer
argument_w a p h = either (cost a) (is_result a && has_failed p.result) (pointer p.value) (shown a p) (λ e s. omega arith) (λ e. shown_w a p h)

next_w : (some : Bool) (a : Argument) (p : ArgumentPlace) → p.most ≤ 4096 → Within (cost a) (next_argument some a p)
next_w some a p h = either (cost a) (is_left_out a p) (λ s. Has s) (λ s. put (comma some) s >>= argument a p) (λ e s. omega arith) (λ e. wider (0 + cost a) (cost a) (λ s. put (comma some) s >>= argument a p) (omega arith) (after 0 (cost a) (put (comma some)) (argument a p) (λ s. omega arith) (argument_w a p h)))

abbrev pub costs : List Argument → ℕ
costs [] = 0
costs (a ∷ more) = cost a + costs more

arguments_w : (c : Context) (some : Bool) (i : ℕ) (kinds : List Argument) → c.most ≤ 4096 → Within (costs kinds) (arguments c some i kinds)
unfolding arguments
arguments_w c some i [] h = λ s. omega arith
arguments_w c some i (a ∷ more) h = after (cost a) (costs more) (next_argument some a (place c i)) (arguments c true (i + 1) more) (next_w some a (place c i) h) (arguments_w c true (i + 1) more h)

-- the table
abbrev cheap_in : Row → Bool
cheap_in row = nat_le (costs row.4) 96 && nat_le (costs row.5) 96

all_cheap : list_all cheap_in calls ≡ true
unfolding calls
all_cheap = refl

cheap_by : (n : ℕ) (o : Option Row) → find (λ row. row.0 == n) calls ≡ o → (costs (format_by (option_map (λ row. (row.4, row.5)) o)).0 ≤ 96) × (costs (format_by (option_map (λ row. (row.4, row.5)) o)).1 ≤ 96)
cheap_by n None e = (lit≤ tt, lit≤ tt)
cheap_by n (Some row) e = let k : cheap_in row ≡ true = find_keeps (λ row. row.0 == n) cheap_in row calls e all_cheap in (grind (arith, nat_tests, k), grind (arith, nat_tests, k))

cheap : (n : ℕ) → (costs (format_of n).0 ≤ 96) × (costs (format_of n).1 ≤ 96)
unfolding call_format
cheap n = cheap_by n (find (λ row. row.0 == n) calls) refl

entry_w : (c : Context) → c.most ≤ 4096 → Within 96 (entry c)
unfolding entry
entry_w c h = after 0 96 (put (name_text c.number)) named (λ s. omega arith) (after 0 96 (put (codes "(")) opened (λ s. omega arith) (after 96 0 listed (put (joint (format_of c.number))) (wider (costs (format_of c.number).0) 96 listed (cheap c.number).0 (arguments_w c false 0 (format_of c.number).0 h)) (λ s. omega arith))) where
  listed : Sheet → Shown
  listed s = arguments c false 0 (format_of c.number).0 s

  opened : Sheet → Shown
  opened s = listed s >>= put (joint (format_of c.number))

  named : Sheet → Shown
  named s = put (codes "(") s >>= opened

rest_w : (c : Context) → c.most ≤ 4096 → Within 96 (rest c)
unfolding rest
rest_w c h = wider (costs (format_of c.number).1) 96 _ (cheap c.number).1 (arguments_w c false (length (format_of c.number).0) (format_of c.number).1 h)

half_w : (o : Option ℕ) (c : Context) → c.most ≤ 4096 → Within 96 (half_by o c)
half_w None c h = entry_w c h
half_w (Some result) c h = rest_w c h

stopped : (s : Sheet) (d : Shown) → Bounded 96 s d → 96 ≤ length s.left → wish_of d ≡ None
stopped s (Has t) b h = refl
stopped s (Wants address n) b h = absurd (omega (arith, b.0, h))

fitting : (s : Sheet) (d : Shown) (w : ℕ × ℕ) → Bounded 96 s d → wish_of d ≡ Some w → may_peek w.1 ≡ true
fitting s (Has t) w b e = cc
fitting s (Wants address n) w b e = let here : (address, n) ≡ w = cc in rw (← here) b.1

most_of : (most : ℕ) (h : Half) → most ≤ 4096 → (context_of most h).most ≤ 4096
most_of most (At_entry c sp) e = e
most_of most (At_exit c x) e = e

pub texts_are_texts : (most : ℕ) → most ≤ 4096 → IsTexts (texts most)
unfolding half
texts_are_texts most e = record {
  stops = λ h got long. stopped (record { out = []; left = got }) _ (half_w (context_of most h).result (context_of most h) (most_of most h e) (record { out = []; left = got })) long;
  fits = λ h got w k. fitting (record { out = []; left = got }) _ w (half_w (context_of most h).result (context_of most h) (most_of most h e) (record { out = []; left = got })) k;
}
