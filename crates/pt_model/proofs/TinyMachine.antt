-- The small machine is one, what is asked of texts can be met, and its runs compute.
use Rattle.std.proofs.Common.{◌≡◌, ℕ, ◌≤◌, zero, suc, ◌*◌, ◌/◌, ◌%◌, Bool, true, false, cond, List, [], ◌∷◌, Option, Some, None, length, get_or, drop, filter, pred, refl, sym, ap, ap₂, length-take, ◌∙◌, unwrap_or, arith}
use Rattle.std.specs.Prelude.{◌==◌, ◌&&◌, ◌||◌}
use Rattle.std.proofs.lemmas.Bool.Decides.{nat_tests}
use Rattle.lx_abi.specs.declared.log.Call.{Call}
use Rattle.lx_abi.specs.declared.signal.Signal.{Signal}
use Rattle.lx_abi.specs.Signals.{is_signal, is_stop, cont_number, is_signal, signal_numbered}
use Rattle.lx_abi.specs.Status.{stop_of}
use Rattle.lx_model.specs.Machine.{IsMachine, Answer, Execs, Bears, Ends, Took, Passes, Stops, Kills}
use Rattle.pt_model.specs.Requests.{may_peek}
use Rattle.lx_abi.specs.Calls.{calls, has_effects}
use Rattle.lx_abi.specs.Effects.{forks, execs, exits}
use Rattle.pt_model.specs.Admissible.{is_exit_word}
use Rattle.pt_model.specs.Parts.{Half}
use Rattle.pt_model.specs.Headline.{IsTold, IsTexts}
use Rattle.pt_model.specs.Tiny.{padded, tiny, Shares, UserState, Change, tells_of, waits_for, wanted, calls as tiny_calls, first_argument}
use Rattle.pt_model.specs.TinyRuns.{RunsOfTiny, options, reads_once}

pub padded_length : (n : ℕ) (r : List ℕ) → length (padded n r) ≡ n
padded_length zero r = refl
padded_length (suc n) [] = ap suc (padded_length n [])
padded_length (suc n) (x ∷ r) = ap suc (padded_length n r)

pub padded_same : (n : ℕ) (r : List ℕ) → length r ≡ n → padded n r ≡ r
padded_same zero [] h = refl
padded_same zero (x ∷ r) h = absurd (cc h)
padded_same (suc n) [] h = absurd (cc h)
padded_same (suc n) (x ∷ r) h = ap (λ t. x ∷ t) (padded_same n r (ap pred h))

-- of 32 numbers the first is the pc
pub put_back : (r : List ℕ) → length r ≡ 32 → padded 32 (get_or r 0 0 ∷ drop 1 r) ≡ r
put_back [] h = absurd (cc h)
put_back (x ∷ r) h = padded_same 32 (x ∷ r) h

pub tiny_is : IsMachine tiny
tiny_is = record {
  size = λ b. padded_length 32 (b.pc ∷ drop 1 b.registers);
  reads_back = λ b r h. put_back r h;
  overwrites = λ b r t h g. refl;
  no_such = λ s child p c b h. rw h refl;
}

abbrev length_in : ℕ × ℕ → ℕ
length_in w = w.1

fits_once : (half : Half) (got : List (List ℕ)) (w : ℕ × ℕ) → reads_once half got ≡ Some w → may_peek w.1 ≡ true
fits_once half [] w h = ap (λ (o : Option (ℕ × ℕ)). may_peek (length_in (unwrap_or o (0, 1)))) (sym h)
fits_once half (x ∷ xs) w h = absurd (cc h)

stops_once : (half : Half) (got : List (List ℕ)) → 96 ≤ length got → reads_once half got ≡ None
stops_once half [] l = absurd (omega (arith, l))
stops_once half (x ∷ xs) l = refl

pub options_are : (follow : Bool) → IsTexts (options follow).texts
options_are follow = record { stops = stops_once; fits = fits_once }

-- an answer fits the call's number
abbrev fits : Call → Answer Shares UserState → Bool
fits c (Execs s b) = has_effects c.number execs
fits c (Bears s b born) = has_effects c.number forks
fits c (Ends w) = has_effects c.number exits && is_exit_word w
fits _ _ = true

abbrev end_fits : Took Shares UserState → Bool
end_fits (Passes s b) = true
end_fits Stops = true
end_fits (Kills w) = is_signal w

-- a stop comes of a stop signal
abbrev stop_fits : Signal → Took Shares UserState → Bool
stop_fits signal (Passes s b) = true
stop_fits signal Stops = is_stop signal.number
stop_fits signal (Kills w) = true

exit_word : (n : ℕ) → is_exit_word (n % 256 * 256) ≡ true
exit_word n = grind (arith, nat_tests)

or_left : (a b : Bool) → a ≡ true → (a || b) ≡ true
or_left true b h = refl
or_left false b h = absurd (cc h)

or_right : (a b : Bool) → b ≡ true → (a || b) ≡ true
or_right true b h = refl
or_right false b h = h

and_left : (a b : Bool) → (a && b) ≡ true → a ≡ true
and_left true b h = refl
and_left false b h = absurd (cc h)

and_right : (a b : Bool) → (a && b) ≡ true → b ≡ true
and_right true b h = h
and_right false b h = absurd (cc h)

either : (c : Call) (b : Bool) (x y : Answer Shares UserState) → (b ≡ true → fits c x ≡ true) → fits c y ≡ true → fits c (cond b x y) ≡ true
either c true x y h g = h refl
either c false x y h g = g

tells_fit : (s : Shares) (c : Call) (b : UserState) (pid : ℕ) (found : List Change) → fits c (tells_of s b pid found) ≡ true
tells_fit s c b pid [] = refl
tells_fit s c b pid (x ∷ xs) = refl

waits_fit : (s : Shares) (c : Call) (b : UserState) (n : ℕ) → fits c (waits_for s b n) ≡ true
waits_fit s c b n = tells_fit s c b (n / 100) (filter (wanted (n / 100) (n % 100)) s.changes)

calls_fit : (s : Shares) (child p : ℕ) (c : Call) (b : UserState) → fits c (tiny_calls s child p c b) ≡ true
unfolding has_effects calls
calls_fit s child p c b =
    either c (c.number == 63) _ _ (λ h. refl)
    (either c (c.number == 64) _ _ (λ h. refl)
    (either c (c.number == 172) _ _ (λ h. refl)
    (either c (c.number == 94) _ _ (λ h. ap₂ (λ x y. x && y) (or_right (c.number == 93) ((c.number == 94) || false) (or_left (c.number == 94) false h)) (exit_word (first_argument c)))
    (either c (c.number == 129) _ _ (λ h. refl)
    (either c (c.number == 220) _ _ (λ h. or_left (c.number == 220) false h)
    (either c (c.number == 221) _ _ (λ h. or_left (c.number == 221) false h)
    (either c (c.number == 260) _ _ (λ h. waits_fit s c b (first_argument c)) refl)))))))

takes_fit : (s : Shares) (b : UserState) (signal : Signal) (q r : Bool) → end_fits (cond q (Passes s b) (cond r Stops (Kills signal.number))) ≡ true
takes_fit s b signal true r = refl
takes_fit s b signal false true = refl
takes_fit s b signal false false = signal.in_range

stops_fit : (s : Shares) (b : UserState) (signal : Signal) (q r : Bool) → is_stop signal.number ≡ r → stop_fits signal (cond q (Passes s b) (cond r Stops (Kills signal.number))) ≡ true
stops_fit s b signal true r e = refl
stops_fit s b signal false true e = e
stops_fit s b signal false false e = refl

pub tiny_told : IsTold tiny
tiny_told = record {
  by_clone = λ s t child p c b d born e. sym (ap (fits c) e) ∙ calls_fit s child p c b;
  by_execve = λ s t child p c b d e. sym (ap (fits c) e) ∙ calls_fit s child p c b;
  by_exit = λ s child p c b word e. let h : (has_effects c.number exits && is_exit_word word) ≡ true = sym (ap (fits c) e) ∙ calls_fit s child p c b in (and_left _ _ h, and_right (has_effects c.number exits) _ h);
  by_signal = λ s p signal cause b word e. sym (ap end_fits e) ∙ takes_fit s b signal ((signal.number == 17) || (signal.number == cont_number)) (is_stop signal.number);
  by_stop = λ s p signal cause b e. sym (ap (stop_fits signal) e) ∙ stops_fit s b signal ((signal.number == 17) || (signal.number == cont_number)) (is_stop signal.number) refl;
  peeks = λ b a n. omega (arith, length-take n (cond (a == 0) [] (a ∷ [])));
}

pub runs_of_tiny : RunsOfTiny
unfolding signal_numbered stop_of has_effects calls
runs_of_tiny = record {
  replaced_write = refl;
  replaced_outcome = refl;
  plain_outcome = refl;
  used_up = refl;
  joined_signal = refl;
  fault = refl;
  ignored = refl;
  new_program = refl;
  unseen_child = refl;
  unseen_write = refl;
  seen_child = refl;
  seen_outcome = refl;
  killed_child = refl;
}
