-- What is written of words is read as these words, and words of events give these events.
use Rattle.std.proofs.Common.{◌≡◌, ℕ, zero, suc, ◌+◌, ◌-◌, ◌*◌, ◌/◌, ◌%◌, ◌^◌, ◌<◌, ◌≤◌, Bool, true, false, cond, if◌then◌else◌, List, [], ◌∷◌, ◌++◌, length, map, take, drop, replicate, Option, Some, None, refl, sym, ap, subst, ◌∙◌, arith, append_assoc, append-nil, codes, decimal, get_or}
use Rattle.std.specs.Prelude.{◌==◌, ◌&&◌, nat_lt, nat_le, slice_index, option_map}
use Rattle.std.specs.List.{AllByRecursion as Each}
use Rattle.std.specs.Char.{is_whitespace, is_ascii_digit}
use Rattle.std.specs.Str.{IsAscii}
use Rattle.std.proofs.lemmas.Bool.Decides.{nat_tests}
use Rattle.std.proofs.lemmas.Fmt.{decimal_by_steps, length-decimal-le}
use Rattle.std.proofs.lemmas.Str.{chars-IsAscii}
use Rattle.std.proofs.lemmas.Str.Ascii.{IsAscii-nil, IsAscii-cons}
use Rattle.std.proofs.lemmas.List.{length-append, take_more}
use Rattle.lx_abi.specs.Words.{spelled, at_most, process, word_of, ended, pieces, after_word, each_word, words_of}
use Rattle.lx_abi.specs.declared.schedule.Event.{Event}
use Rattle.lx_abi.specs.declared.schedule.Event.TheVariants.{Turn, Serve}
use Rattle.lx_abi.specs.declared.schedule.Word.{Word}
use Rattle.lx_abi.specs.declared.schedule.Word.TheVariants as word
use Rattle.pt_schedule.proofs.Saying.{words_are_said}
use Rattle.pt_schedule.specs.Said.{Last, said, serves_then, with_turn}
use Rattle.pt_schedule.specs.Schedules.{Readiness, most_events}
use Rattle.pt_schedule.specs.Written.{word_text, words_text, event_word, IsNumbered, BeginsUnready, WordsReadBack, EventsAreGiven}

-- Digits

abbrev AreDigits : List ℕ → Type 0
AreDigits ds = Each (λ c. is_ascii_digit c ≡ true) ds

spelled_more : (b : Bool) (n c m : ℕ) (ds : List ℕ) → b ≡ true → (if b then spelled (n * 10 + (c - 48)) ds else None) ≡ Some m → spelled (n * 10 + (c - 48)) ds ≡ Some m
spelled_more true n c m ds e h = h
spelled_more false n c m ds e h = absurd (cc e)

one_digit : (b : Bool) (n c : ℕ) → b ≡ true → (if b then Some (n * 10 + (c - 48)) else None) ≡ Some (n * 10 + (c - 48))
one_digit true n c e = refl
one_digit false n c e = absurd (cc e)

-- a digit more at the end
spelled_last : (ds : List ℕ) (n m c : ℕ) → AreDigits ds → is_ascii_digit c ≡ true → spelled n ds ≡ Some m → spelled n (ds ++ c ∷ []) ≡ Some (m * 10 + (c - 48))
spelled_last [] n m c all d e = one_digit (is_ascii_digit c) n c d ∙ ap (λ x. option_map (λ y. y * 10 + (c - 48)) x) e
spelled_last (x ∷ ds) n m c all d e = go (is_ascii_digit x) all.0 (λ h. spelled_last ds (n * 10 + (x - 48)) m c all.1 d h) e
  where
    go : (b : Bool) → b ≡ true → (spelled (n * 10 + (x - 48)) ds ≡ Some m → spelled (n * 10 + (x - 48)) (ds ++ c ∷ []) ≡ Some (m * 10 + (c - 48))) → (if b then spelled (n * 10 + (x - 48)) ds else None) ≡ Some m → (if b then spelled (n * 10 + (x - 48)) (ds ++ c ∷ []) else None) ≡ Some (m * 10 + (c - 48))
    go true t again h = again h
    go false t again h = absurd (cc t)

digits_last : (ds : List ℕ) (c : ℕ) → AreDigits ds → is_ascii_digit c ≡ true → AreDigits (ds ++ c ∷ [])
digits_last [] c all d = (d, tt)
digits_last (x ∷ ds) c all d = (all.0, digits_last ds c all.1 d)

record Spells (n : ℕ) (ds : List ℕ) : Type 0 where
  value : spelled 0 ds ≡ Some n
  digits : AreDigits ds
  some : 0 < length ds

digit : (n : ℕ) → n < 10 → is_ascii_digit (48 + n) ≡ true
digit n l = grind (arith, nat_tests)

spells : (n : ℕ) → n < 2 ^ 64 → Spells n (decimal n)
spells = decimal_by_steps Spells one more
  where
    one : (n : ℕ) → n < 10 → Spells n ((48 + n) ∷ [])
    one n l = record { value = one_digit (is_ascii_digit (48 + n)) 0 (48 + n) (digit n l) ∙ ap (λ m. Some m) (omega arith); digits = (digit n l, tt); some = omega arith }

    more : (n : ℕ) (ds : List ℕ) → 10 ≤ n → Spells (n / 10) ds → Spells n (ds ++ ((48 + n % 10) ∷ []))
    more n ds l s =
        let d : is_ascii_digit (48 + n % 10) ≡ true = digit (n % 10) (omega arith) in
        record {
          value = spelled_last ds 0 (n / 10) (48 + n % 10) s.digits d s.value ∙ ap (λ m. Some m) (omega arith);
          digits = digits_last ds (48 + n % 10) s.digits d;
          some = longer ds (48 + n % 10);
        }
      where
        longer : (ds : List ℕ) (c : ℕ) → 0 < length (ds ++ c ∷ [])
        longer [] c = omega arith
        longer (x ∷ ds) c = omega arith

-- A piece of digits

whole : (n : ℕ) (ds : List ℕ) → 0 < length ds → length ds ≤ 10 → n ≤ 4294967295 → spelled 0 ds ≡ Some n → process ds ≡ Some n
whole n ds some few least e = go (nat_lt 0 (length ds)) (nat_le (length ds) 10) (spelled 0 ds) (grind (arith, nat_tests)) (grind (arith, nat_tests)) e
  where
    in_range : (b : Bool) → b ≡ true → (if b then Some n else None) ≡ Some n
    in_range true h = refl
    in_range false h = absurd (cc h)

    go : (a b : Bool) (x : Option ℕ) → a ≡ true → b ≡ true → x ≡ Some n → (if a && b then at_most 4294967295 x else None) ≡ Some n
    go false b x h k l = absurd (cc h)
    go true false x h k l = absurd (cc k)
    go true true x h k l = ap (at_most 4294967295) l ∙ in_range (nat_le n 4294967295) (grind (arith, nat_tests))

is_process : (p : ℕ) → p < 2 ^ 32 → process (decimal p) ≡ Some p
is_process p l =
    let s : Spells p (decimal p) = spells p (omega (arith, l)) in
    whole p (decimal p) s.some (length-decimal-le 10 p (omega arith) (omega (arith, l)) (omega (arith, l))) (omega (arith, l)) s.value

-- no digit is `s` or `-` or `.`
other : (c x : ℕ) → is_ascii_digit c ≡ true → is_ascii_digit x ≡ false → (c == x) ≡ false
other c x h k = go (c == x) refl
  where
    same : (c x : ℕ) → (c == x) ≡ true → c ≡ x
    same c x e = grind (arith, nat_tests)

    go : (b : Bool) → (c == x) ≡ b → b ≡ false
    go true e = absurd (cc (h, k, ap is_ascii_digit (same c x e)))
    go false e = refl

at_first : (ds : List ℕ) (more : List ℕ) (x : ℕ) → AreDigits ds → 0 < length ds → is_ascii_digit x ≡ false → (slice_index (ds ++ more) 0 == x) ≡ false
at_first [] more x all some out = absurd (omega (arith, some))
at_first (c ∷ ds) more x all some out = other c x all.0 out

at_place : (ds : List ℕ) (i x : ℕ) → AreDigits ds → i < length ds → is_ascii_digit x ≡ false → (slice_index ds i == x) ≡ false
at_place [] i x all within out = absurd (omega (arith, within))
at_place (c ∷ ds) zero x all within out = other c x all.0 out
at_place (c ∷ ds) (suc i) x all within out = at_place ds i x all.1 (omega (arith, within)) out

at_last : (ds : List ℕ) (x : ℕ) → AreDigits ds → 0 < length ds → is_ascii_digit x ≡ false → (slice_index ds (length ds - 1) == x) ≡ false
at_last ds x all some out = at_place ds (length ds - 1) x all (omega (arith, some)) out

-- The four forms

chosen : (a b d : Bool) (x y z t : Option Word) → a ≡ false → b ≡ false → d ≡ false → (if a then x else (if b then y else (if d then z else t))) ≡ t
chosen true b d x y z t e f g = absurd (cc e)
chosen false true d x y z t e f g = absurd (cc f)
chosen false false true x y z t e f g = absurd (cc g)
chosen false false false x y z t e f g = refl

both_not : (a b : Bool) → b ≡ false → (a && b) ≡ false
both_not true b e = e
both_not false b e = refl

plain : (p : ℕ) (ds : List ℕ) → AreDigits ds → 0 < length ds → process ds ≡ Some p → word_of ds ≡ Some (word.Turn p)
plain p ds all some e =
    let first : (slice_index ds 0 == 115) ≡ false = subst (λ l. (slice_index l 0 == 115) ≡ false) (append-nil ds) (at_first ds [] 115 all some refl) in
    let minus : (slice_index ds 0 == 45) ≡ false = subst (λ l. (slice_index l 0 == 45) ≡ false) (append-nil ds) (at_first ds [] 45 all some refl) in
    chosen (length ds == 1 && slice_index ds 0 == 115) (slice_index ds 0 == 45) (slice_index ds (length ds - 1) == 46) (Some word.Serve) (option_map (λ n. word.TurnAlone n) (process (drop 1 ds))) (option_map (λ n. word.UntilReturn n) (process (take (length ds - 1) ds))) (option_map (λ n. word.Turn n) (process ds))
    (both_not (length ds == 1) (slice_index ds 0 == 115) first) minus (at_last ds 46 all some refl)
    ∙ ap (option_map (λ n. word.Turn n)) e

alone : (p : ℕ) (ds : List ℕ) → process ds ≡ Some p → word_of (45 ∷ ds) ≡ Some (word.TurnAlone p)
alone p ds e = pick (length (45 ∷ ds) == 1) ∙ ap (option_map (λ n. word.TurnAlone n)) e
  where
    pick : (a : Bool) → (if a && false then Some word.Serve else option_map (λ n. word.TurnAlone n) (process ds)) ≡ option_map (λ n. word.TurnAlone n) (process ds)
    pick true = refl
    pick false = refl

behind : (ds : List ℕ) (c : ℕ) → slice_index (ds ++ c ∷ []) (length ds) ≡ c
behind [] c = refl
behind (x ∷ ds) c = behind ds c

before : (ds : List ℕ) (c : ℕ) → take (length ds) (ds ++ c ∷ []) ≡ ds
before [] c = refl
before (x ∷ ds) c = ap (λ l. x ∷ l) (before ds c)

one_less : (ds : List ℕ) (c : ℕ) → length (ds ++ c ∷ []) - 1 ≡ length ds
one_less ds c = let e : length (ds ++ c ∷ []) ≡ length ds + 1 = length-append ds (c ∷ []) in omega (arith, e)

last_of : (ds : List ℕ) (c : ℕ) → slice_index (ds ++ c ∷ []) (length (ds ++ c ∷ []) - 1) ≡ c
last_of ds c = ap (slice_index (ds ++ c ∷ [])) (one_less ds c) ∙ behind ds c

front_of : (ds : List ℕ) (c : ℕ) → take (length (ds ++ c ∷ []) - 1) (ds ++ c ∷ []) ≡ ds
front_of ds c = ap (λ n. take n (ds ++ c ∷ [])) (one_less ds c) ∙ before ds c

third : (a b d : Bool) (x y z t : Option Word) → a ≡ false → b ≡ false → d ≡ true → (if a then x else (if b then y else (if d then z else t))) ≡ z
third true b d x y z t e f g = absurd (cc e)
third false true d x y z t e f g = absurd (cc f)
third false false false x y z t e f g = absurd (cc g)
third false false true x y z t e f g = refl

until : (p : ℕ) (ds : List ℕ) → AreDigits ds → 0 < length ds → process ds ≡ Some p → word_of (ds ++ 46 ∷ []) ≡ Some (word.UntilReturn p)
until p ds all some e =
    let text : List ℕ = ds ++ 46 ∷ [] in
    third (length text == 1 && slice_index text 0 == 115) (slice_index text 0 == 45) (slice_index text (length text - 1) == 46) (Some word.Serve) (option_map (λ n. word.TurnAlone n) (process (drop 1 text))) (option_map (λ n. word.UntilReturn n) (process (take (length text - 1) text))) (option_map (λ n. word.Turn n) (process text))
    (both_not (length text == 1) (slice_index text 0 == 115) (at_first ds (46 ∷ []) 115 all some refl)) (at_first ds (46 ∷ []) 45 all some refl) (ap (λ c. c == 46) (last_of ds 46))
    ∙ ap (λ l. option_map (λ n. word.UntilReturn n) (process l)) (front_of ds 46) ∙ ap (option_map (λ n. word.UntilReturn n)) e

-- A written word

abbrev IsPiece : List ℕ → Type 0
IsPiece cs = (0 < length cs) × Each (λ c. (is_whitespace c ≡ false) × (c < 128)) cs

record Read (w : Word) : Type 0 where
  piece : IsPiece (word_text w)
  is : word_of (word_text w) ≡ Some w

no_space : (c : ℕ) → is_ascii_digit c ≡ true → (is_whitespace c ≡ false) × (c < 128)
no_space c d = (grind (arith, nat_tests), grind (arith, nat_tests))

no_spaces : (ds : List ℕ) → AreDigits ds → Each (λ c. (is_whitespace c ≡ false) × (c < 128)) ds
no_spaces [] all = tt
no_spaces (c ∷ ds) all = (no_space c all.0, no_spaces ds all.1)

all_both : (P : ℕ → Type 0) (xs ys : List ℕ) → Each P xs → Each P ys → Each P (xs ++ ys)
all_both P [] ys a b = b
all_both P (x ∷ xs) ys a b = (a.0, all_both P xs ys a.1 b)

more_some : (ds cs : List ℕ) → 0 < length ds → 0 < length (ds ++ cs)
more_some [] cs l = absurd (omega (arith, l))
more_some (d ∷ ds) cs l = omega arith

read_word : (w : Word) → IsNumbered w → Read w
read_word (word.Turn p) l =
    let s : Spells p (decimal p) = spells p (omega (arith, l)) in
    record { piece = (s.some, no_spaces (decimal p) s.digits); is = plain p (decimal p) s.digits s.some (is_process p l) }
read_word (word.TurnAlone p) l =
    let s : Spells p (decimal p) = spells p (omega (arith, l)) in
    record { piece = (omega arith, ((refl, omega arith), no_spaces (decimal p) s.digits)); is = alone p (decimal p) (is_process p l) }
read_word word.Serve l = record { piece = (omega arith, ((refl, omega arith), tt)); is = refl }
read_word (word.UntilReturn p) l =
    let s : Spells p (decimal p) = spells p (omega (arith, l)) in
    record {
      piece = (more_some (decimal p) (46 ∷ []) s.some, all_both (λ c. (is_whitespace c ≡ false) × (c < 128)) (decimal p) (46 ∷ []) (no_spaces (decimal p) s.digits) ((refl, omega arith), tt));
      is = until p (decimal p) s.digits s.some (is_process p l);
    }

-- Words a line each

in_piece : (b : Bool) (x y : List (List ℕ)) → b ≡ false → (if b then x else y) ≡ y
in_piece true x y e = absurd (cc e)
in_piece false x y e = refl

gathered : (cs piece rest : List ℕ) → Each (λ c. (is_whitespace c ≡ false) × (c < 128)) cs → pieces piece (cs ++ rest) ≡ pieces (piece ++ cs) rest
gathered [] piece rest all = ap (λ l. pieces l rest) (sym (append-nil piece))
gathered (c ∷ cs) piece rest all =
    in_piece (is_whitespace c) (ended piece (pieces [] (cs ++ rest))) (pieces (piece ++ c ∷ []) (cs ++ rest)) all.0.0
    ∙ gathered cs (piece ++ c ∷ []) rest all.1 ∙ ap (λ l. pieces l rest) (append_assoc piece (c ∷ []) cs)

not_empty : (piece : List ℕ) (others : List (List ℕ)) → 0 < length piece → ended piece others ≡ piece ∷ others
not_empty piece others l = in_piece (length piece == 0) others (piece ∷ others) (grind (arith, nat_tests))

by_lines : (ws : List Word) → Each IsNumbered ws → each_word (pieces [] (words_text ws)) ≡ Some ws
by_lines [] all = refl
by_lines (w ∷ ws) all =
    let r : Read w = read_word w all.0 in
    ap each_word (gathered (word_text w) [] (10 ∷ words_text ws) r.piece.1 ∙ not_empty (word_text w) (pieces [] (words_text ws)) r.piece.0)
    ∙ ap (λ x. after_word x (each_word (pieces [] (words_text ws)))) r.is
    ∙ ap (λ x. option_map (λ l. w ∷ l) x) (by_lines ws all.1)

ascii : (cs rest : List ℕ) → Each (λ c. (is_whitespace c ≡ false) × (c < 128)) cs → IsAscii rest → IsAscii (cs ++ rest)
ascii [] rest all more = more
ascii (c ∷ cs) rest all more = IsAscii-cons c (cs ++ rest) all.0.1 (ascii cs rest all.1 more)

lines_ascii : (ws : List Word) → Each IsNumbered ws → IsAscii (words_text ws)
lines_ascii [] all = IsAscii-nil
lines_ascii (w ∷ ws) all = ascii (word_text w) (10 ∷ words_text ws) (read_word w all.0).piece.1 (IsAscii-cons 10 (words_text ws) (omega arith) (lines_ascii ws all.1))

pub read_back : WordsReadBack
unfolding words_of
read_back ws all = ap (λ cs. each_word (pieces [] cs)) (chars-IsAscii (words_text ws) (lines_ascii ws all)) ∙ by_lines ws all

-- Events

event_words_said : (events : List Event) (last : Last) (sights : List Readiness) → length sights ≡ length events → said (map event_word events) last sights ≡ events
event_words_said [] last [] e = refl
event_words_said [] last (s ∷ sights) e = absurd (omega (arith, e))
event_words_said (x ∷ events) last [] e = absurd (omega (arith, e))
event_words_said (Turn p ∷ events) last (seen ∷ more) e = ap (λ l. Turn p ∷ l) (event_words_said events (with_turn p last) more (omega (arith, e)))
event_words_said (Serve ∷ events) last (seen ∷ more) e = ap (λ l. Serve ∷ l) (event_words_said events last more (omega (arith, e)))

served : (b : Bool) (x y : List Event) → b ≡ true → cond b x y ≡ x
served true x y e = refl
served false x y e = absurd (cc e)

unserved_here : (b : Bool) (x y : List Event) → b ≡ false → cond b x y ≡ y
unserved_here true x y e = absurd (cc e)
unserved_here false x y e = refl

begun : (events : List Event) (sights : List Readiness) → BeginsUnready sights → length sights ≡ length events → serves_then (said (map event_word events) None) sights ≡ events
begun [] [] u e = refl
begun (x ∷ events) [] u e = absurd (omega (arith, e))
begun events (seen ∷ more) u e =
    unserved_here seen.ready (Serve ∷ serves_then (said (map event_word events) None) more) (said (map event_word events) None (seen ∷ more)) u ∙ event_words_said events None (seen ∷ more) e

serves_first : (next : List Readiness → List Event) (first sights : List Readiness) → Each (λ seen. seen.ready ≡ true) first → serves_then next (first ++ sights) ≡ replicate (length first) Serve ++ serves_then next sights
serves_first next [] sights all = refl
serves_first next (seen ∷ first) sights all =
    served seen.ready (Serve ∷ serves_then next (first ++ sights)) (next (seen ∷ first ++ sights)) all.0 ∙ ap (λ l. Serve ∷ l) (serves_first next first sights all.1)

many : (first sights : List Readiness) (n k : ℕ) → length sights ≡ n → length first + n ≤ k → length (first ++ sights) ≤ k
many [] sights n k e l = omega (arith, e, l)
many (s ∷ first) sights n k e l = let more : length (first ++ sights) ≤ k - 1 = many first sights n (k - 1) e (omega (arith, l)) in omega (arith, l, more)

pub events_given : EventsAreGiven
events_given events limit first sights ready unready e few most =
    words_are_said (map event_word events) limit (first ++ sights) (many first sights (length events) limit e few) (many first sights (length events) most_events e most)
    ∙ serves_first (said (map event_word events) None) first sights ready
    ∙ ap (λ l. replicate (length first) Serve ++ l) (begun events sights unready e)

-- A word more

line_more : (ws : List Word) (w : Word) → words_text (ws ++ w ∷ []) ≡ words_text ws ++ words_text (w ∷ [])
line_more [] w = refl
line_more (v ∷ ws) w =
    ap (λ l. word_text v ++ (codes "\n" ++ l)) (line_more ws w) ∙ sym (append_assoc (word_text v) (codes "\n" ++ words_text ws) (words_text (w ∷ [])))

number_more : (ws : List Word) (w : Word) → Each IsNumbered ws → IsNumbered w → Each IsNumbered (ws ++ w ∷ [])
number_more [] w all one = (one, tt)
number_more (v ∷ ws) w all one = (all.0, number_more ws w all.1 one)

-- the first words are written
pub record IsWritten (ws : List Word) (i : ℕ) (text : List ℕ) : Type 0 where
  pub is : text ≡ words_text (take i ws)
  pub numbered : Each IsNumbered (take i ws)

pub more_written : (ws : List Word) (i : ℕ) (d : Word) (text more : List ℕ) → i < length ws → IsWritten ws i text → IsNumbered (get_or ws i d) → more ≡ text ++ words_text (get_or ws i d ∷ []) → IsWritten ws (i + 1) more
more_written ws i d text more l h one e =
    let t : take (i + 1) ws ≡ take i ws ++ get_or ws i d ∷ [] = take_more ws i d l in
    record {
      is = e ∙ ap (λ x. x ++ words_text (get_or ws i d ∷ [])) h.is ∙ sym (line_more (take i ws) (get_or ws i d)) ∙ ap words_text (sym t);
      numbered = subst (λ x. Each IsNumbered x) (sym t) (number_more (take i ws) (get_or ws i d) h.numbered one);
    }

all_taken : (ws : List Word) (i : ℕ) → length ws ≤ i → take i ws ≡ ws
all_taken [] zero l = refl
all_taken [] (suc i) l = refl
all_taken (w ∷ ws) zero l = absurd (omega (arith, l))
all_taken (w ∷ ws) (suc i) l = ap (λ x. w ∷ x) (all_taken ws i (omega (arith, l)))

pub all_written : (ws : List Word) (i : ℕ) (text : List ℕ) → length ws ≤ i → IsWritten ws i text → words_of text ≡ Some ws
all_written ws i text l h =
    let t : take i ws ≡ ws = all_taken ws i l in
    ap words_of (h.is ∙ ap words_text t) ∙ read_back ws (subst (λ x. Each IsNumbered x) t h.numbered)

pub text_written : (ws : List Word) (i : ℕ) (text : List ℕ) → length ws ≤ i → IsWritten ws i text → text ≡ words_text ws
text_written ws i text l h = h.is ∙ ap words_text (all_taken ws i l)
