-- What is said of a console, one piece more.
use Rattle.std.proofs.Common.{◌≡◌, ℕ, suc, Bool, true, false, List, [], ◌∷◌, ◌++◌, refl, sym, ap, ap₂, ◌∙◌, append-nil, append_assoc}
use Rattle.std.specs.Prelude.{take, drop}
use Rattle.std.proofs.Math.Seq.{take-add}
use Rattle.std.proofs.lemmas.List.{drop-drop, drop_min, take_min}
use Rattle.lx_abi.specs.declared.log.Item.{Item}
use Rattle.sweep_rows.specs.Descriptors.{at_boot, after_item, uses_after, uses_in}
use Rattle.sweep_rows.specs.Known.{IsKnown}
use Rattle.sweep_rows.specs.Said.{by_items, by_pieces, unsaid, with_said, IsBoth, Parting, Says}
use Rattle.sweep_rows.specs.Streams.{parted, piece_of, said_in, streams_of, with_piece}
use Rattle.sweep_rows.specs.declared.descriptors.Use.{Use}
use Rattle.sweep_rows.specs.declared.known.Known.{Known}
use Rattle.sweep_rows.specs.declared.streams.Piece.{Piece}
use Rattle.sweep_rows.specs.declared.streams.Streams.{Streams}

-- Pieces

pub one_said : (pieces : List Piece) (piece : Piece) (p : Parting) → by_pieces (pieces ++ piece ∷ []) p ≡ with_said piece (by_pieces pieces p)
one_said [] piece p = refl
one_said (x ∷ pieces) piece p = one_said pieces piece (with_said x p)

-- so many bytes of a text, of whatever length it is
abbrev of_length : ℕ → Bool → Parting → Parting
of_length n error p = record { streams = with_piece error (take n p.text) p.streams; text = drop n p.text }

said_is : (piece : Piece) (p : Parting) → with_said piece p ≡ of_length piece.length piece.error p
said_is piece p =
    ap₂ (λ taken left. record { streams = with_piece piece.error taken p.streams; text = left })
    (take_min piece.length p.text) (drop_min piece.length p.text)

nothing_added : (error : Bool) (s : Streams) → with_piece error [] s ≡ s
nothing_added true s = ap (λ text. record s { err = text }) (append-nil s.err)
nothing_added false s = ap (λ text. record s { out = text }) (append-nil s.out)

both_added : (error : Bool) (a b : List ℕ) (s : Streams) → with_piece error (a ++ b) s ≡ with_piece error b (with_piece error a s)
both_added true a b s = ap (λ text. record s { err = text }) (sym (append_assoc s.err a b))
both_added false a b s = ap (λ text. record s { out = text }) (sym (append_assoc s.out a b))

pub none_said : (piece : Piece) (p : Parting) → piece.length ≡ 0 → with_said piece p ≡ p
none_said piece p none =
    said_is piece p ∙ ap (λ n. of_length n piece.error p) none
    ∙ ap (λ s. record { streams = s; text = p.text }) (nothing_added piece.error p.streams)

pub both_said : (a b both : Piece) (p : Parting) → IsBoth a b both → with_said both p ≡ with_said b (with_said a p)
both_said a b both p is =
    said_is both p
    ∙ ap₂ (λ n error. of_length n error p) is.length is.error
    ∙ ap₂ (λ text left. record { streams = with_piece a.error text p.streams; text = left }) (take-add a.length b.length p.text) (sym (drop-drop b.length a.length p.text))
    ∙ ap (λ s. record { streams = s; text = drop b.length (drop a.length p.text) }) (both_added a.error (take a.length p.text) (take b.length (drop a.length p.text)) p.streams)
    ∙ ap (λ error. of_length b.length error (of_length a.length a.error p)) is.alike
    ∙ sym (said_is b (of_length a.length a.error p))
    ∙ ap (with_said b) (sym (said_is a p))

-- Items of a log

items_more : (past : List Item) (at : ℕ) (uses : ℕ → ℕ → Use) (item : Item) (p : Parting) → by_items at uses (past ++ item ∷ []) p ≡ with_said (piece_of (uses_after at uses past) item) (by_items at uses past p)
items_more [] at uses item p = refl
items_more (i ∷ past) at uses item p = items_more past (suc at) (after_item at i uses) item (with_said (piece_of uses i) p)

pub says_more : (pieces pieces' : List Piece) (past : List Item) (item : Item) (known : Known)
    → ((p : Parting) → by_pieces pieces' p ≡ with_said (piece_of (uses_in known.descriptors) item) (by_pieces pieces p))
    → IsKnown past known → Says pieces past → Says pieces' (past ++ item ∷ [])
says_more pieces pieces' past item known pushed is says p =
    pushed p
    ∙ ap₂ (λ uses q. with_said (piece_of uses item) q) is.uses (says p)
    ∙ sym (items_more past 0 at_boot item p)

items_part : (log : List Item) (at : ℕ) (uses : ℕ → ℕ → Use) (s : Streams) (text : List ℕ) → parted at uses s text log ≡ (by_items at uses log (record { streams = s; text = text })).streams
items_part [] at uses s text = refl
items_part (i ∷ log) at uses s text =
    items_part log (suc at) (after_item at i uses)
    (with_piece (piece_of uses i).error (take (said_in (piece_of uses i) text) text) s) (drop (said_in (piece_of uses i) text) text)

pub says_streams : (pieces : List Piece) (log : List Item) (console : List ℕ) → Says pieces log → (by_pieces pieces (unsaid console)).streams ≡ streams_of log console
unfolding streams_of
says_streams pieces log console says =
    ap (λ (p : Parting). p.streams) (says (unsaid console)) ∙ sym (items_part log 0 at_boot (unsaid console).streams console)
