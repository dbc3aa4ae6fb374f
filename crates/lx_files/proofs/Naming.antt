-- Names of paths, and where they lead.
use Rattle.std.proofs.Common.{◌≡◌, ℕ, Bool, true, false, cond, List, [], ◌∷◌, ◌++◌, length, Option, Some, None, refl, ap, sym, ◌∙◌, arith, append-nil}
use Rattle.std.proofs.lemmas.List.Splits.{join_with_byte-slice_split, length-slice_split}
use Rattle.std.specs.Prelude.{◌==◌, ◌||◌}
use Rattle.std.specs.List.{onto_first, join_with_byte}
use Rattle.lx_files.specs.Paths.{Path, slash, has_slash}
use Rattle.lx_files.specs.Folders.{Children, child_of, led, split, turned, names_of, at, top}

onto-append : (x : ℕ) (xs ys : List (List ℕ)) → ¬ (length xs ≡ 0) → onto_first x (xs ++ ys) ≡ onto_first x xs ++ ys
onto-append x [] ys some = absurd (some refl)
onto-append x (part ∷ parts) ys some = refl

some_parts : (text : List ℕ) → ¬ (length (split text) ≡ 0)
some_parts text none = let n = length-slice_split (λ b. b == slash) text in omega (arith, n, none)

pub split-append : (p q : List ℕ) → split (p ++ slash ∷ q) ≡ split p ++ split q
split-append [] q = refl
split-append (x ∷ p) q = go (x == slash) (split-append p q)
  where
    go : (b : Bool) → split (p ++ slash ∷ q) ≡ split p ++ split q → cond b ([] ∷ split (p ++ slash ∷ q)) (onto_first x (split (p ++ slash ∷ q))) ≡ cond b ([] ∷ split p) (onto_first x (split p)) ++ split q
    go true again = ap (λ l. [] ∷ l) again
    go false again = ap (onto_first x) again ∙ onto-append x (split p) (split q) (some_parts p)

pub split-bare : (name : List ℕ) → has_slash name ≡ false → split name ≡ name ∷ []
split-bare [] h = refl
split-bare (x ∷ name) h = go (x == slash) h (split-bare name)
  where
    go : (b : Bool) → (b || has_slash name) ≡ false → (has_slash name ≡ false → split name ≡ name ∷ []) → cond b ([] ∷ split name) (onto_first x (split name)) ≡ (x ∷ name) ∷ []
    go true e again = absurd (cc e)
    go false e again = ap (onto_first x) (again e)

turned-append : (xs ys acc : List (List ℕ)) → turned (xs ++ ys) acc ≡ turned ys (turned xs acc)
turned-append [] ys acc = refl
turned-append (x ∷ xs) ys acc = turned-append xs ys (x ∷ acc)

turned-twice : (xs acc ys : List (List ℕ)) → turned (turned xs acc) ys ≡ turned acc (xs ++ ys)
turned-twice [] acc ys = refl
turned-twice (x ∷ xs) acc ys = turned-twice xs (x ∷ acc) ys

-- names further on
pub names_of-append : (p q : List ℕ) → names_of (p ++ slash ∷ q) ≡ turned (split q) (names_of p)
unfolding names_of
names_of-append p q = ap (λ l. turned l []) (split-append p q) ∙ turned-append (split p) (split q) []

pub names_of-next : (p name : List ℕ) → has_slash name ≡ false → names_of (p ++ slash ∷ name) ≡ name ∷ names_of p
names_of-next p name h = names_of-append p name ∙ ap (λ l. turned l (names_of p)) (split-bare name h)

pub names_of-one : (name : List ℕ) → has_slash name ≡ false → names_of name ≡ name ∷ []
unfolding names_of
names_of-one name h = ap (λ l. turned l []) (split-bare name h)

-- paths of the same names are the same
pub names_of-same : (p q : List ℕ) → names_of p ≡ names_of q → p ≡ q
unfolding names_of
names_of-same p q e =
    let turns : turned (turned (split p) []) [] ≡ turned (turned (split q) []) [] = ap (λ l. turned l []) e in
    let parts : split p ≡ split q = sym (turned-twice (split p) [] [] ∙ append-nil (split p)) ∙ turns ∙ turned-twice (split q) [] [] ∙ append-nil (split q) in
    sym (join_with_byte-slice_split 47 p) ∙ ap (join_with_byte 47) parts ∙ join_with_byte-slice_split 47 q

pub led-at : (children : Children) (names acc : List (List ℕ)) → led children (at children acc) names ≡ at children (turned names acc)
unfolding led at
led-at children [] acc = refl
led-at children (name ∷ names) acc = led-at children names (name ∷ acc)

-- what a path leads to from the top
pub led-top : (children : Children) (path : Path) → led children (Some top) (split path) ≡ at children (names_of path)
unfolding at names_of
led-top children path = led-at children (split path) []

pub led-step : (children : Children) (folder : Option ℕ) (name : List ℕ) (names : List (List ℕ)) → led children folder (name ∷ names) ≡ led children (child_of children name folder) names
unfolding led
led-step children folder name names = refl

pub led-none : (children : Children) (names : List (List ℕ)) → led children None names ≡ None
unfolding led
led-none children [] = refl
led-none children (name ∷ names) = led-none children names

pub led-end : (children : Children) (folder : Option ℕ) → led children folder [] ≡ folder
unfolding led
led-end children folder = refl

pub at-next : (children : Children) (name : List ℕ) (above : List (List ℕ)) → at children (name ∷ above) ≡ child_of children name (at children above)
unfolding at
at-next children name above = refl

pub at-top : (children : Children) → at children [] ≡ Some top
unfolding at
at-top children = refl
