-- Of functions the nearest in which an address lies.
use Rattle.std.proofs.Common.{◌≡◌, ◌⊎◌, inl, inr, ℕ, ◌<◌, ◌≤◌, Bool, true, false, cond, ◌&&◌, List, [], ◌∷◌, ◌++◌, Option, Some, None, eqb, nat_lt, refl, sym, ◌∙◌, subst, append_assoc, arith}
use Rattle.std.proofs.lemmas.List.{append-nil}
use Rattle.std.proofs.lemmas.List.Elements.{All-nil, All-push, All-weaker, Contains-push, Contains-append_left}
use Rattle.std.proofs.lemmas.Bool.{ltb-true, ltb-false, le-ltb, eqb-true, eqb-false, ne_eqb, or_parts, or_from, or_cases, and_parts, and_cases, and_left, and_right, cases_eq}
use Rattle.elf_symbols.specs.declared.symbols.Function.{Function}
use Rattle.elf_symbols.specs.Addresses.{lies_in, is_nearer, met, nearest, function_from, IsAt}

-- no function is nearer than itself
not_nearer : (f : Function) → is_nearer f f ≡ false
not_nearer f =
    or_from (nat_lt f.start f.start) (eqb f.start f.start && nat_lt f.length f.length) (le-ltb f.start f.start (omega arith))
    (and_right (eqb f.start f.start) (nat_lt f.length f.length) (le-ltb f.length f.length (omega arith)))

-- where x isn't shorter than g by name, and f is, x isn't shorter than f
not_shorter : (x f g : Function) → f.start ≡ g.start → f.length < g.length → x.start ≡ f.start
    → (eqb x.start g.start ≡ false) ⊎ (nat_lt x.length g.length ≡ false) → nat_lt x.length f.length ≡ false
not_shorter x f g same shorter e (inr long) =
    let le : g.length ≤ x.length = ltb-false x.length g.length long in
    le-ltb x.length f.length (omega arith)
not_shorter x f g same shorter e (inl apart) = absurd (eqb-false x.start g.start apart (e ∙ same))

there : (x f g : Function) → f.start ≡ g.start → f.length < g.length → (eqb x.start g.start && nat_lt x.length g.length) ≡ false
    → (x.start ≡ f.start) ⊎ (x.start ≡ f.start → ⊥) → (eqb x.start f.start && nat_lt x.length f.length) ≡ false
there x f g same shorter unlike (inl e) =
    and_right (eqb x.start f.start) (nat_lt x.length f.length)
    (not_shorter x f g same shorter e (and_cases (eqb x.start g.start) (nat_lt x.length g.length) unlike))
there x f g same shorter unlike (inr apart) = and_left (eqb x.start f.start) (nat_lt x.length f.length) (ne_eqb x.start f.start apart)

-- x isn't nearer than g, and so not than f that is nearer than g
by_case : (x f g : Function) → x.start ≤ g.start → (eqb x.start g.start && nat_lt x.length g.length) ≡ false
    → (nat_lt g.start f.start ≡ true) ⊎ ((eqb f.start g.start && nat_lt f.length g.length) ≡ true) → is_nearer x f ≡ false
by_case x f g low unlike (inl later) =
    let above : g.start < f.start = ltb-true g.start f.start later in
    or_from (nat_lt f.start x.start) (eqb x.start f.start && nat_lt x.length f.length) (le-ltb f.start x.start (omega arith))
    (and_left (eqb x.start f.start) (nat_lt x.length f.length) (ne_eqb x.start f.start (λ e. omega arith)))
by_case x f g low unlike (inr near) =
    let both = and_parts (eqb f.start g.start) (nat_lt f.length g.length) near in
    let same : f.start ≡ g.start = eqb-true f.start g.start both.0 in
    let shorter : f.length < g.length = ltb-true f.length g.length both.1 in
    or_from (nat_lt f.start x.start) (eqb x.start f.start && nat_lt x.length f.length) (le-ltb f.start x.start (omega arith))
    (there x f g same shorter unlike (cases_eq x.start f.start))

still_not : (x f g : Function) → is_nearer x g ≡ false → is_nearer f g ≡ true → is_nearer x f ≡ false
still_not x f g unlike near =
    let parts = or_parts (nat_lt g.start x.start) (eqb x.start g.start && nat_lt x.length g.length) unlike in
    by_case x f g (ltb-false g.start x.start parts.0) parts.1
    (or_cases (nat_lt g.start f.start) (eqb f.start g.start && nat_lt f.length g.length) near)

-- no function in which the address lies is nearer than f
abbrev IsBeaten : ℕ → Function → Function → Type 0
IsBeaten address f g = lies_in address g ≡ true → is_nearer g f ≡ false

-- the address lies in f too
first_met : (address : ℕ) (seen : List Function) (f : Function) → lies_in address f ≡ true → IsAt seen address None → IsAt (seen ++ f ∷ []) address (Some f)
first_met address seen f inside none = (
  Contains-push seen f,
  inside,
  All-push (IsBeaten address f) seen f (All-weaker (λ g. lies_in address g ≡ false) (IsBeaten address f) (λ g no yes. absurd (cc (sym no ∙ yes))) seen none) (λ _. not_nearer f),
)

replaced : (address : ℕ) (seen : List Function) (f g : Function) (near : Bool) → near ≡ is_nearer f g → lies_in address f ≡ true → IsAt seen address (Some g)
    → IsAt (seen ++ f ∷ []) address (cond near (Some f) (Some g))
replaced address seen f g true is inside so_far = (
  Contains-push seen f,
  inside,
  All-push (IsBeaten address f) seen f (All-weaker (IsBeaten address g) (IsBeaten address f) (λ x beaten lies. still_not x f g (beaten lies) (sym is)) seen so_far.2) (λ _. not_nearer f),
)
replaced address seen f g false is inside so_far = (
  Contains-append_left seen (f ∷ []) g so_far.0,
  so_far.1,
  All-push (IsBeaten address g) seen f so_far.2 (λ _. sym is),
)

-- it doesn't
passed : (address : ℕ) (seen : List Function) (so_far : Option Function) (f : Function) → lies_in address f ≡ false → IsAt seen address so_far → IsAt (seen ++ f ∷ []) address so_far
passed address seen None f outside none = All-push (λ g. lies_in address g ≡ false) seen f none outside
passed address seen (Some g) f outside so_far = (
  Contains-append_left seen (f ∷ []) g so_far.0,
  so_far.1,
  All-push (IsBeaten address g) seen f so_far.2 (λ lies. absurd (cc (sym outside ∙ lies))),
)

lying : (address : ℕ) (seen : List Function) (so_far : Option Function) (f : Function) → lies_in address f ≡ true → IsAt seen address so_far → IsAt (seen ++ f ∷ []) address (nearest so_far f)
lying address seen None f lies none = first_met address seen f lies none
lying address seen (Some g) f lies so_far = replaced address seen f g (is_nearer f g) refl lies so_far

one_more : (address : ℕ) (seen : List Function) (so_far : Option Function) (f : Function) (lies : Bool) → lies ≡ lies_in address f → IsAt seen address so_far
    → IsAt (seen ++ f ∷ []) address (cond lies (nearest so_far f) so_far)
one_more address seen so_far f true is so = lying address seen so_far f (sym is) so
one_more address seen so_far f false is so = passed address seen so_far f (sym is) so

from : (address : ℕ) (rest seen : List Function) (so_far : Option Function) → IsAt seen address so_far → IsAt (seen ++ rest) address (function_from address so_far rest)
from address [] seen so_far so = subst (λ fs. IsAt fs address so_far) (sym (append-nil seen)) so
from address (f ∷ fs) seen so_far so =
    subst (λ all. IsAt all address (function_from address so_far (f ∷ fs))) (append_assoc seen (f ∷ []) fs)
    (from address fs (seen ++ f ∷ []) (met address so_far f) (one_more address seen so_far f (lies_in address f) refl so))

pub nearest_of : (fs : List Function) (address : ℕ) → IsAt fs address (function_from address None fs)
nearest_of fs address = from address fs [] None (All-nil (λ g. lies_in address g ≡ false))
