-- One line of a listing, in either pass.
use Rattle.std.proofs.Common.{◌≡◌, ℕ, ◌+◌, ◌<◌, ◌≤◌, List, ◌∷◌, ◌++◌, length, get_or, drop, Result, Ok, Err, Bor, refl, sym, ap, ◌∙◌, append_assoc, arith, length-append}
use Rattle.std.proofs.lemmas.List.{at_drop_more, at_drop_all, append-nil}
use Rattle.rv_asm.specs.declared.fault.AsmKind.{AsmKind}
use Rattle.rv_asm.specs.declared.fault.AsmFault.{AsmFault}
use Rattle.rv_asm.specs.Codes.{◌>>=◌, Location}
use Rattle.rv_asm.specs.Lines.{line_of, next_at}
use Rattle.rv_asm.specs.Listing.{places, places_at, line_bytes, bytes_from, with_front}
use Rattle.rv_syntax.specs.Text.{texts}

-- ---- labels

pub place_next : (ls : List (Bor (List ℕ))) (i : ℕ) (d : Bor (List ℕ)) (at : ℕ) (front total : List Location) (names : List (List ℕ)) (body : List ℕ) → i < length ls
    → ◌≡◌ {A = List (List ℕ) × List ℕ} (names, body) (line_of (get_or ls i d).now)
    → front ++ places at (i + 1) (texts (drop i ls)) ≡ total → (front ++ places_at at (i + 1) names) ++ places (next_at at body) (i + 1 + 1) (texts (drop (i + 1) ls)) ≡ total
unfolding places
place_next ls i d at front total names body lt line so_far =
    let parts = at_drop_more (λ (x : List (Bor (List ℕ))). places at (i + 1) (texts x)) ls i d lt in
    let n-is : names ≡ (line_of (get_or ls i d).now).0 = ap (λ (p : List (List ℕ) × List ℕ). p.0) line in
    let b-is : body ≡ (line_of (get_or ls i d).now).1 = ap (λ (p : List (List ℕ) × List ℕ). p.1) line in
    let rest = places (next_at at body) (i + 1 + 1) (texts (drop (i + 1) ls)) in
    let whole : front ++ places at (i + 1) (texts (drop i ls)) ≡ (front ++ places_at at (i + 1) names) ++ rest =
    ap (λ (x : List Location). front ++ x) parts ∙ rw (← n-is, ← b-is) (sym (append_assoc front (places_at at (i + 1) names) rest)) in
    sym whole ∙ so_far

pub places_end : (ls : List (Bor (List ℕ))) (i at : ℕ) (front total : List Location) → length ls ≤ i → front ++ places at (i + 1) (texts (drop i ls)) ≡ total → front ≡ total
unfolding places
places_end ls i at front total le so_far =
    let none = at_drop_all (λ (x : List (Bor (List ℕ))). places at (i + 1) (texts x)) ls i le in
    sym (append-nil front) ∙ ap (λ (x : List Location). front ++ x) (sym none) ∙ so_far

-- ---- bytes

split_front : (front new : List ℕ) (r : Result (List ℕ) AsmKind) → with_front front r ≡ Ok new → (bytes : List ℕ) × (r ≡ Ok bytes) × (new ≡ front ++ bytes)
split_front front new (Ok bytes) e = (bytes, refl, cc)
split_front front new (Err k) e = absurd cc

regroup : (front bytes : List ℕ) (r : Result (List ℕ) AsmFault) → with_front front (r >>= λ rest. Ok (bytes ++ rest)) ≡ with_front (front ++ bytes) r
regroup front bytes (Ok x) = ap (λ (bs : List ℕ). Ok bs) (sym (append_assoc front bytes x))
regroup front bytes (Err e) = refl

emit_bytes : (ps : List Location) (ls : List (Bor (List ℕ))) (i : ℕ) (d : Bor (List ℕ)) (front bytes : List ℕ) (total : Result (List ℕ) AsmFault) → i < length ls
    → line_bytes ps (0x10000 + length front) (i + 1) (get_or ls i d).now ≡ Ok bytes → with_front front (bytes_from ps (0x10000 + length front) (i + 1) (texts (drop i ls))) ≡ total
    → with_front (front ++ bytes) (bytes_from ps (0x10000 + length (front ++ bytes)) (i + 1 + 1) (texts (drop (i + 1) ls))) ≡ total
unfolding bytes_from
emit_bytes ps ls i d front bytes total lt line so_far =
    let parts = at_drop_more (λ (x : List (Bor (List ℕ))). with_front front (bytes_from ps (0x10000 + length front) (i + 1) (texts x))) ls i d lt in
    let here : 0x10000 + length (front ++ bytes) ≡ 0x10000 + length front + length bytes = omega (arith, length-append front bytes) in
    let rest = bytes_from ps (0x10000 + length front + length bytes) (i + 1 + 1) (texts (drop (i + 1) ls)) in
    let opened : with_front front (bytes_from ps (0x10000 + length front) (i + 1) (texts (get_or ls i d ∷ drop (i + 1) ls))) ≡ with_front front (rest >>= λ bs. Ok (bytes ++ bs)) = rw line refl in
    let moved = ap (λ (at : ℕ). with_front (front ++ bytes) (bytes_from ps at (i + 1 + 1) (texts (drop (i + 1) ls)))) here in
    moved ∙ sym (regroup front bytes rest) ∙ sym opened ∙ sym parts ∙ so_far

pub emit_next : (ps : List Location) (ls : List (Bor (List ℕ))) (i : ℕ) (d : Bor (List ℕ)) (front new : List ℕ) (total : Result (List ℕ) AsmFault) → i < length ls
    → with_front front (line_bytes ps (0x10000 + length front) (i + 1) (get_or ls i d).now) ≡ Ok new → with_front front (bytes_from ps (0x10000 + length front) (i + 1) (texts (drop i ls))) ≡ total
    → with_front new (bytes_from ps (0x10000 + length new) (i + 1 + 1) (texts (drop (i + 1) ls))) ≡ total
emit_next ps ls i d front new total lt line so_far =
    let parts = split_front front new (line_bytes ps (0x10000 + length front) (i + 1) (get_or ls i d).now) line in
    ap (λ (x : List ℕ). with_front x (bytes_from ps (0x10000 + length x) (i + 1 + 1) (texts (drop (i + 1) ls)))) parts.2 ∙ emit_bytes ps ls i d front parts.0 total lt parts.1 so_far

pub emit_fault : (ps : List Location) (ls : List (Bor (List ℕ))) (i : ℕ) (d : Bor (List ℕ)) (front : List ℕ) (total : Result (List ℕ) AsmFault) (k : AsmKind) → i < length ls
    → line_bytes ps (0x10000 + length front) (i + 1) (get_or ls i d).now ≡ Err k → with_front front (bytes_from ps (0x10000 + length front) (i + 1) (texts (drop i ls))) ≡ total
    → total ≡ Err (record { line = i + 1; kind = k })
unfolding bytes_from
emit_fault ps ls i d front total k lt line so_far =
    let parts = at_drop_more (λ (x : List (Bor (List ℕ))). with_front front (bytes_from ps (0x10000 + length front) (i + 1) (texts x))) ls i d lt in
    let opened : with_front front (bytes_from ps (0x10000 + length front) (i + 1) (texts (get_or ls i d ∷ drop (i + 1) ls))) ≡ Err (record { line = i + 1; kind = k }) = rw line refl in
    sym so_far ∙ parts ∙ opened

pub emit_end : (ps : List Location) (ls : List (Bor (List ℕ))) (i at : ℕ) (front : List ℕ) (total : Result (List ℕ) AsmFault) → length ls ≤ i → with_front front (bytes_from ps at (i + 1) (texts (drop i ls))) ≡ total → total ≡ Ok front
unfolding bytes_from
emit_end ps ls i at front total le so_far =
    let none = at_drop_all (λ (x : List (Bor (List ℕ))). with_front front (bytes_from ps at (i + 1) (texts x))) ls i le in
    sym so_far ∙ none ∙ ap (λ (bs : List ℕ). Ok bs) (append-nil front)
