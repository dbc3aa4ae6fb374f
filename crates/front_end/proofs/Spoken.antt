-- Expressions, read one by one.
use Rattle.std.proofs.Common.{◌≡◌, ℕ, ◌+◌, ◌<◌, List, [], ◌∷◌, ◌++◌, map, take, drop, length, get_or, refl, sym, ap, subst, ◌∙◌, append_assoc, string_bytes}
use Rattle.std.specs.List.{AllZip}
use Rattle.std.proofs.lemmas.List.{append-nil, drop_more, map-append, take-append-drop, take_more}
use Rattle.lx_abi.specs.declared.script.Rule.{Rule}
use Rattle.lx_abi.specs.declared.script.Set.{Set}
use Rattle.lx_abi.specs.declared.script.Set.TheVariants.{AllBut}
use Rattle.tr_expr.specs.declared.expr.Expr.{Expr}
use Rattle.tr_expr.specs.declared.expr.Expr.TheVariants.{Trace, Inject}
use Rattle.front_end.specs.Expressions.{SaysText, rule_of, rules_by, shown_after, shown_by}

pub all_more : {A B : Type 0} (R : A → B → Type 0) (xs : List A) (ys : List B) (x : A) (y : B) → AllZip R xs ys → R x y
    → AllZip R (xs ++ x ∷ []) (ys ++ y ∷ [])
all_more R [] [] x y all one = (one, tt)
all_more R [] (b ∷ ys) x y all one = elim all [ ]
all_more R (a ∷ xs) [] x y all one = elim all [ ]
all_more R (a ∷ xs) (b ∷ ys) x y all one = (all.0, all_more R xs ys x y all.1 one)

pub shown_more : (shown : Set) (read : List Expr) (e : Expr)
    → shown_by shown (read ++ e ∷ []) ≡ shown_after (shown_by shown read) e
shown_more shown [] e = refl
shown_more shown (x ∷ read) e = shown_more (shown_after shown x) read e

pub rules_more : (read : List Expr) (e : Expr) → rules_by (read ++ e ∷ []) ≡ rules_by read ++ rule_of e
rules_more [] e = append-nil (rule_of e)
rules_more (x ∷ read) e =
    ap (λ rules. rule_of x ++ rules) (rules_more read e) ∙ sym (append_assoc (rule_of x) (rules_by read) (rule_of e))

-- the texts of the first words, and of one more
pub texts_more : {A : Type 0} (text : A → List ℕ) (words : List A) (k : ℕ) (d : A) → k < length words
    → map text (take (k + 1) words) ≡ map text (take k words) ++ text (get_or words k d) ∷ []
texts_more text words k d less =
    ap (map text) (take_more words k d less) ∙ map-append text (take k words) (get_or words k d ∷ [])

-- the texts around one
pub texts_around : {A : Type 0} (text : A → List ℕ) (words : List A) (k : ℕ) (d : A) → k < length words
    → map text words ≡ map text (take k words) ++ text (get_or words k d) ∷ map text (drop (k + 1) words)
texts_around text words k d less =
    ap (map text) (sym (take-append-drop k words)) ∙ map-append text (take k words) (drop k words)
    ∙ ap (λ l. map text (take k words) ++ map text l) (drop_more words k d less)

-- what expressions say together, and one more
abbrev pub Said : List (List ℕ) → Set → List Rule → Type 0
Said texts shown rules =
    (read : List Expr)
    × AllZip SaysText texts read × (shown ≡ shown_by (AllBut []) read) × (rules ≡ rules_by read)

pub said_more : (texts texts' : List (List ℕ)) (text : List ℕ) (e : Expr) (shown shown' : Set) (rules rules' : List Rule)
    → texts' ≡ texts ++ text ∷ [] → SaysText text e → shown' ≡ shown_after shown e → rules' ≡ rules ++ rule_of e
    → Said texts shown rules → Said texts' shown' rules'
said_more texts texts' text e shown shown' rules rules' split says next more said =
    let read = said.0 in (
      read ++ e ∷ [],
      subst (λ t. AllZip SaysText t (read ++ e ∷ [])) (sym split) (all_more SaysText texts read text e said.1 says),
      next ∙ ap (λ s. shown_after s e) said.2 ∙ sym (shown_more (AllBut []) read e),
      more ∙ ap (λ r. r ++ rule_of e) said.3 ∙ sym (rules_more read e),
    )
