-- Files of words, one by one.
use Rattle.std.proofs.Common.{◌≡◌, ℕ, List, [], ◌∷◌, ◌++◌, Option, refl, sym, ap, subst, ◌∙◌, append_assoc}
use Rattle.std.proofs.Common.{arith, ◌+◌, ◌<◌, map, take, length, get_or}
use Rattle.std.specs.Borrow.{Bor}
use Rattle.std.specs.Prelude.{min}
use Rattle.std.proofs.lemmas.List.{map-append, take_more}
use Rattle.lx_abi.specs.declared.boot.GuestFile.{GuestFile}
use Rattle.front_boot.specs.Files.{Adds, AreFilesOf, IsFileOf, NoneBehind, StartWith, left_behind, left_over}

module _ {F : Type 0} (remaining : F → Option (List ℕ)) where
  pub one_file : (left : ℕ) (words : List (List ℕ)) (files : List GuestFile) (word : List ℕ) (file : GuestFile)
      → AreFilesOf remaining left words files → IsFileOf remaining (min (left_over left files) 16777216) word file
      → AreFilesOf remaining left (words ++ word ∷ []) (files ++ file ∷ [])
  one_file left [] [] word file all one = (one, tt)
  one_file left [] (f ∷ files) word file all one = elim all [ ]
  one_file left (w ∷ words) [] word file all one = elim all [ ]
  one_file left (w ∷ words) (f ∷ files) word file all one =
      (all.0, one_file (left_behind left f) words files word file all.1 one)

pub left_more : (left : ℕ) (files : List GuestFile) (file : GuestFile)
    → left_over left (files ++ file ∷ []) ≡ left_behind (left_over left files) file
left_more left [] file = refl
left_more left (f ∷ files) file = left_more (left_behind left f) files file

-- what is known of the files, and of what is left
abbrev pub Read : {F : Type 0} → (F → Option (List ℕ)) → ℕ → List (List ℕ) → List GuestFile → ℕ → Type 0
Read remaining first words files left = AreFilesOf remaining first words files × (left ≡ left_over first files)

pub read_more : {F : Type 0} (remaining : F → Option (List ℕ)) (first : ℕ) (words words' : List (List ℕ))
    (files files' : List GuestFile) (left left' : ℕ) (word : List ℕ) → words' ≡ words ++ word ∷ []
    → Read remaining first words files left → Adds remaining word left left' files files'
    → Read remaining first words' files' left'
read_more remaining first words words' files files' left left' word split read added =
    let file = added.0 in
    let here = subst (λ l. IsFileOf remaining (min l 16777216) word file) read.1 added.1.0 in
    let all = one_file remaining first words files word file read.0 here in (
      subst (λ w. AreFilesOf remaining first w files') (sym split)
          (subst (λ f. AreFilesOf remaining first (words ++ word ∷ []) f) (sym added.1.1.1) all),
      added.1.1.0 ∙ ap (λ l. left_behind l file) read.1 ∙ sym (left_more first files file)
          ∙ ap (left_over first) (sym added.1.1.1),
    )

pub start_on : (files files' first : List GuestFile) → StartWith files' files → StartWith files first
    → StartWith files' first
start_on files files' first more before =
    (before.0 ++ more.0, more.1 ∙ ap (λ l. l ++ more.0) before.1 ∙ append_assoc first before.0 more.0)

one_behind : (words : List (List ℕ)) (word : List ℕ) (files named : List GuestFile)
    → NoneBehind (words ++ word ∷ []) files named
one_behind [] word files named = tt
one_behind (w ∷ words) word files named = tt

more_behind : (words words' : List (List ℕ)) (word : List ℕ) (files named : List GuestFile)
    → words' ≡ words ++ word ∷ [] → NoneBehind words' files named
more_behind words words' word files named split =
    subst (λ w. NoneBehind w files named) (sym split) (one_behind words word files named)

-- the first words, and one more
pub words_more : (words : List (Bor (List ℕ))) (k : ℕ) (d : Bor (List ℕ)) → k < length words
    → map (λ word. word.now) (take (k + 1) words) ≡ map (λ word. word.now) (take k words) ++ (get_or words k d).now ∷ []
words_more words k d less =
    ap (map (λ word. word.now)) (take_more words k d less)
    ∙ map-append (λ word. word.now) (take k words) (get_or words k d ∷ [])

pub some_behind : (words : List (Bor (List ℕ))) (k : ℕ) (files named : List GuestFile) → k < length words
    → NoneBehind (map (λ word. word.now) (take (k + 1) words)) files named
some_behind [] k files named less = absurd (omega arith)
some_behind (word ∷ words) k files named less = more_behind _ _ _ files named (words_more (word ∷ words) k word less)
