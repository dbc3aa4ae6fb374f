-- What stands on the stack when a program starts.
use Rattle.std.proofs.Common.{◌≡◌, ℕ, ◌+◌, List, [], ◌∷◌, ◌++◌, length, refl, ap, sym, ◌∙◌, append_assoc, length-append}
use Rattle.lx_exec.specs.Programs.{strings}

pub strings-append : (xs ys : List (List ℕ)) → strings (xs ++ ys) ≡ strings xs ++ strings ys
strings-append [] ys = refl
strings-append (x ∷ xs) ys = ap (λ r. x ++ 0 ∷ r) (strings-append xs ys) ∙ sym (append_assoc x (0 ∷ strings xs) (strings ys))

pub length-strings : (xs ys : List (List ℕ)) → length (strings (xs ++ ys)) ≡ length (strings xs) + length (strings ys)
length-strings xs ys = ap length (strings-append xs ys) ∙ length-append (strings xs) (strings ys)
