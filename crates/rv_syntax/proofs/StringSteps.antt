-- One byte of a string.
use Rattle.std.proofs.Common.{◌≡◌, ℕ, ◌+◌, ◌<◌, ◌≤◌, List, [], ◌∷◌, ◌++◌, length, get_or, take, drop, Option, Some, None, option_map, refl, sym, ap, ◌∙◌, arith}
use Rattle.std.proofs.lemmas.List.{at_drop_more, at_drop_all, append-nil, take_all, length-drop}
use Rattle.rv_syntax.specs.declared.strings.StringReader.{StringReader}
use Rattle.rv_syntax.specs.declared.strings.StringReader.TheVariants.{Plain}
use Rattle.rv_syntax.specs.declared.strings.Step.{Step}
use Rattle.rv_syntax.specs.declared.strings.Step.TheVariants.{Close, Refuse, Go, Put}
use Rattle.rv_syntax.specs.Strings.{step_of, behind, after_step, string_from}

behind-some : (front bs rest : List ℕ) → behind front (Some (bs, rest)) ≡ Some (front ++ bs, rest)
behind-some [] bs rest = refl
behind-some (b ∷ front) bs rest = ap (option_map (λ x. (b ∷ x.0, x.1))) (behind-some front bs rest)

behind-none : (front : List ℕ) → behind front None ≡ None
behind-none [] = refl
behind-none (b ∷ front) = ap (option_map (λ x. (b ∷ x.0, x.1))) (behind-none front)

behind-push : (front : List ℕ) (b : ℕ) (s : Option (List ℕ × List ℕ)) → behind (front ++ b ∷ []) s ≡ behind front (behind (b ∷ []) s)
behind-push [] b s = refl
behind-push (a ∷ front) b s = ap (option_map (λ x. (a ∷ x.0, x.1))) (behind-push front b s)

one_byte : (r : StringReader) (text : List ℕ) (i : ℕ) (front : List ℕ) (s : Step) → i < length text → s ≡ step_of r (get_or text i 0)
    → behind front (string_from r (drop i text)) ≡ behind front (after_step s (drop (i + 1) text) (λ next. string_from next (drop (i + 1) text)))
one_byte r text i front s lt is =
    at_drop_more (λ (x : List ℕ). behind front (string_from r x)) text i 0 lt
    ∙ ap (λ (x : Step). behind front (after_step x (drop (i + 1) text) (λ next. string_from next (drop (i + 1) text)))) (sym is)

pub string_closed : (r : StringReader) (text : List ℕ) (i n : ℕ) (front : List ℕ) (total : Option (List ℕ × List ℕ)) → i < length text → length text ≤ n + (i + 1) → Close ≡ step_of r (get_or text i 0)
    → behind front (string_from r (drop i text)) ≡ total → Some (front, take n (drop (i + 1) text)) ≡ total
string_closed r text i n front total lt enough is so_far =
    let all : take n (drop (i + 1) text) ≡ drop (i + 1) text = take_all n (drop (i + 1) text) (omega (arith, length-drop (i + 1) text)) in
    let step = one_byte r text i front Close lt is in
    let content : behind front (Some ([], drop (i + 1) text)) ≡ Some (front, drop (i + 1) text) = behind-some front [] (drop (i + 1) text) ∙ ap (λ (x : List ℕ). Some (x, drop (i + 1) text)) (append-nil front) in
    ap (λ (x : List ℕ). Some (front, x)) all ∙ sym content ∙ sym step ∙ so_far

pub string_refused : (r : StringReader) (text : List ℕ) (i : ℕ) (front : List ℕ) (total : Option (List ℕ × List ℕ)) → i < length text → Refuse ≡ step_of r (get_or text i 0)
    → behind front (string_from r (drop i text)) ≡ total → None ≡ total
string_refused r text i front total lt is so_far = sym (behind-none front) ∙ sym (one_byte r text i front Refuse lt is) ∙ so_far

pub string_goes : (r next : StringReader) (text : List ℕ) (i : ℕ) (front : List ℕ) (total : Option (List ℕ × List ℕ)) → i < length text → Go next ≡ step_of r (get_or text i 0)
    → behind front (string_from r (drop i text)) ≡ total → behind front (string_from next (drop (i + 1) text)) ≡ total
string_goes r next text i front total lt is so_far = sym (one_byte r text i front (Go next) lt is) ∙ so_far

pub string_put : (r : StringReader) (b : ℕ) (text : List ℕ) (i : ℕ) (front : List ℕ) (total : Option (List ℕ × List ℕ)) → i < length text → Put b ≡ step_of r (get_or text i 0)
    → behind front (string_from r (drop i text)) ≡ total → behind (front ++ b ∷ []) (string_from Plain (drop (i + 1) text)) ≡ total
string_put r b text i front total lt is so_far = behind-push front b (string_from Plain (drop (i + 1) text)) ∙ sym (one_byte r text i front (Put b) lt is) ∙ so_far

pub string_open : (r : StringReader) (text : List ℕ) (i : ℕ) (front : List ℕ) (total : Option (List ℕ × List ℕ)) → length text ≤ i → behind front (string_from r (drop i text)) ≡ total → None ≡ total
string_open r text i front total le so_far = sym (behind-none front) ∙ sym (at_drop_all (λ (x : List ℕ). behind front (string_from r x)) text i le) ∙ so_far
