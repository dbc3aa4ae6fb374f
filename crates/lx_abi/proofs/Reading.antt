-- Reading the words of a schedule, a character at a time.
use Rattle.std.proofs.Common.{ℕ, ◌+◌, ◌≡◌, ◌≤◌, ◌<◌, ◌==◌, get_or, subst, List, [], ◌∷◌, ◌++◌, Option, Some, None, Bool, true, false, length, drop, Result, Ok, Err, OnOk, IfErr, refl, sym, ap, ◌∙◌, append_assoc, append-nil, if◌then◌else◌}
use Rattle.std.proofs.lemmas.List.{at_drop_all, at_drop_more}
use Rattle.std.specs.Char.{is_whitespace}
use Rattle.std.specs.Str.{chars}
use Rattle.lx_abi.specs.declared.schedule.Word.{Word}
use Rattle.lx_abi.specs.declared.words.ScheduleFault.{ScheduleFault}
use Rattle.lx_abi.specs.declared.words.ScheduleFault.TheVariants.{BadWord, Memory}
use Rattle.lx_abi.specs.Words.{word_of, ended, pieces, after_word, each_word, words_of, IsRefusal, before, read_on, PieceRead, PieceRefused, CharRead, CharRefused}

one_more : (ws : List Word) (w : Word) (o : Option (List Word)) → before ws (after_word (Some w) o) ≡ before (ws ++ w ∷ []) o
one_more ws w None = refl
one_more ws w (Some more) = ap Some (sym (append_assoc ws (w ∷ []) more))

of_piece : (piece : List ℕ) (others : List (List ℕ)) (b : Bool) → b ≡ false → each_word (if b then others else piece ∷ others) ≡ after_word (word_of piece) (each_word others)
of_piece piece others false e = refl
of_piece piece others true e = cc

-- a piece that is a word
pub piece_read : (ws new : List Word) (w : Word) (piece : List ℕ) → (length piece == 0) ≡ false → word_of piece ≡ Some w → new ≡ ws ++ w ∷ []
    → PieceRead ws piece new
piece_read ws new w piece b e n others =
    ap (before ws) (of_piece piece others (length piece == 0) b ∙ ap (λ o. after_word o (each_word others)) e)
    ∙ (one_more ws w (each_word others) ∙ ap (λ v. before v (each_word others)) (sym n))

refused_before : (e : ScheduleFault) (ws : List Word) (o : Option (List Word)) → IsRefusal e o → IsRefusal e (before ws o)
refused_before BadWord ws o h = ap (before ws) h
refused_before Memory ws o h = tt

of_char : (ws : List Word) (piece : List ℕ) (c : ℕ) (rest : List ℕ) (b : Bool) (o : Option (List Word)) → is_whitespace c ≡ b
    → before ws (each_word (if b then ended piece (pieces [] rest) else pieces (piece ++ c ∷ []) rest)) ≡ o → read_on ws piece (c ∷ rest) ≡ o
unfolding read_on
of_char ws piece c rest b o w e = rw w e

-- a character of the piece
pub char_kept : (ws : List Word) (piece new : List ℕ) (c : ℕ) → is_whitespace c ≡ false → new ≡ piece ++ c ∷ []
    → CharRead ws piece c ws new
unfolding read_on
char_kept ws piece new c w n rest = of_char ws piece c rest false _ w (ap (λ p. before ws (each_word (pieces p rest))) (sym n))

-- white space after a piece
pub piece_ended : (ws more : List Word) (piece new : List ℕ) (c : ℕ) → is_whitespace c ≡ true → new ≡ []
    → PieceRead ws piece more
    → CharRead ws piece c more new
unfolding read_on
piece_ended ws more piece new c w n e rest =
    of_char ws piece c rest true _ w (e (pieces [] rest) ∙ ap (λ p. before more (each_word (pieces p rest))) (sym n))

pub piece_refused : (f : ScheduleFault) (ws : List Word) (piece : List ℕ) (c : ℕ) → is_whitespace c ≡ true
    → PieceRefused f piece
    → CharRefused f ws piece c
unfolding read_on
piece_refused f ws piece c w h rest = rw w (refused_before f ws (each_word (ended piece (pieces [] rest))) (h (pieces [] rest)))

-- over results
pub on_ok : {T E P Q R : Type 0} (r : Result T E) → (P → Q → R) → OnOk r P → OnOk r Q → OnOk r R
on_ok (Ok x) f p q = f p q
on_ok (Err e) f p q = tt

pub if_err : {T E : Type 0} {P Q : E → Type 0} (r : Result T E) → ((e : E) → P e → Q e) → IfErr r P → IfErr r Q
if_err (Ok x) f h = tt
if_err (Err e) f h = f e h

-- the whole text
none_before : (o : Option (List Word)) → o ≡ before [] o
none_before None = refl
none_before (Some ws) = refl

pub begun : (text : List ℕ) → words_of text ≡ read_on [] [] (chars text)
unfolding words_of read_on
begun text = none_before (each_word (pieces [] (chars text)))

at_char : (ws : List Word) (piece : List ℕ) (cs : List ℕ) (n c : ℕ) → (n < length cs) × (c ≡ get_or cs n c) → read_on ws piece (drop n cs) ≡ read_on ws piece (c ∷ drop (n + 1) cs)
at_char ws piece cs n c h = at_drop_more (read_on ws piece) cs n c h.0 ∙ ap (λ x. read_on ws piece (x ∷ drop (n + 1) cs)) (sym h.1)

-- one character more of the text
pub turned : (o : Option (List Word)) (ws more : List Word) (piece new cs : List ℕ) (n c m : ℕ) → (n < length cs) × (c ≡ get_or cs n c) → m ≡ n + 1
    → CharRead ws piece c more new
    → o ≡ read_on ws piece (drop n cs) → o ≡ read_on more new (drop m cs)
turned o ws more piece new cs n c m h k e i = i ∙ (at_char ws piece cs n c h ∙ (e (drop (n + 1) cs) ∙ ap (λ x. read_on more new (drop x cs)) (sym k)))

pub refused_turn : (f : ScheduleFault) (o : Option (List Word)) (ws : List Word) (piece cs : List ℕ) (n c : ℕ) → (n < length cs) × (c ≡ get_or cs n c)
    → CharRefused f ws piece c
    → o ≡ read_on ws piece (drop n cs) → IsRefusal f o
refused_turn f o ws piece cs n c h e i = subst (λ x. IsRefusal f x) (sym (i ∙ at_char ws piece cs n c h)) (e (drop (n + 1) cs))

pub ended_all : (o : Option (List Word)) (ws more : List Word) (piece cs : List ℕ) (n : ℕ) → length cs ≤ n
    → PieceRead ws piece more
    → o ≡ read_on ws piece (drop n cs) → o ≡ Some more
unfolding read_on
ended_all o ws more piece cs n l e i = i ∙ (at_drop_all (read_on ws piece) cs n l ∙ (e [] ∙ ap Some (append-nil more)))

pub refused_all : (f : ScheduleFault) (o : Option (List Word)) (ws : List Word) (piece cs : List ℕ) (n : ℕ) → length cs ≤ n
    → PieceRefused f piece
    → o ≡ read_on ws piece (drop n cs) → IsRefusal f o
unfolding read_on
refused_all f o ws piece cs n l h i = subst (λ x. IsRefusal f x) (sym (i ∙ at_drop_all (read_on ws piece) cs n l)) (refused_before f ws (each_word (ended piece [])) (h []))
