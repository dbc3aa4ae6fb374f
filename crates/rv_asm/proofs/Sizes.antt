-- The bytes of a statement are as many as its size says, and its words spell its instructions.
use Rattle.std.proofs.Common.{◌≡◌, ℕ, ◌*◌, Bool, true, false, cond, ◌&&◌, List, [], ◌∷◌, length, Option, Some, None, Result, Ok, Err, refl, sym, ap, subst, arith, length-append}
use Rattle.std.specs.Prelude.{ℤ, pos, negsuc}
use Rattle.std.proofs.lemmas.Bool.{ltb-true, eqb-true}
use Rattle.std.proofs.lemmas.List.{length-replicate}
use Rattle.rv_isa.specs.Fields.{IsSigned}
use Rattle.rv_isa.specs.declared.inst.Inst.{Inst}
use Rattle.rv_isa.specs.declared.inst.Inst.TheVariants as inst
use Rattle.rv_isa.specs.Spelling.{word, Spells, HasWord}
use Rattle.rv_asm.specs.declared.code.Expansion.{Expansion}
use Rattle.rv_asm.specs.declared.code.Expansion.TheVariants.{Nothing, One, Two}
use Rattle.rv_asm.specs.declared.fault.AsmKind.{AsmKind}
use Rattle.rv_asm.specs.declared.fault.AsmKind.TheVariants.{Range, Label}
use Rattle.rv_syntax.specs.declared.forms.Width.{Width}
use Rattle.rv_syntax.specs.declared.forms.Width.TheVariants as width
use Rattle.rv_syntax.specs.declared.numbers.Number.{Number}
use Rattle.std.specs.Option.{option_map_or}
use Rattle.rv_syntax.specs.Statements.{Said, Does, Sets, Branches, Jumps, Points, Numbers, Text, Space, Align}
use Rattle.rv_asm.specs.Codes.{◌>>=◌, Location, address_of, is_signed, has_word, encoded, words_of, AllSpelled, bytes_in, padding, size_of, instructions_of, bytes_of, number_bytes, numbers_bytes, words_bytes}

both_of : (x y : Bool) → (x && y) ≡ true → (x ≡ true) × (y ≡ true)
both_of true y e = (refl, e)
both_of false y e = absurd cc

in_field : (k : ℕ) (z : ℤ) → is_signed k z ≡ true → IsSigned k z
in_field k (pos n) e = ltb-true _ _ e
in_field k (negsuc n) e = ltb-true _ _ e

-- the test finds the instructions that have a word
fits_word : (i : Inst) → has_word i ≡ true → HasWord i
fits_word (inst.Lui rd upper) e = ltb-true _ _ e
fits_word (inst.Auipc rd upper) e = ltb-true _ _ e
fits_word (inst.Jal rd offset) e = let both = both_of (is_signed 20 offset) _ e in (in_field 20 offset both.0, eqb-true _ _ both.1)
fits_word (inst.Jalr rd rs1 offset) e = in_field 11 offset e
fits_word (inst.Branch condition rs1 rs2 offset) e = let both = both_of (is_signed 12 offset) _ e in (in_field 12 offset both.0, eqb-true _ _ both.1)
fits_word (inst.Load kind rd rs1 offset) e = in_field 11 offset e
fits_word (inst.Store kind rs1 rs2 offset) e = in_field 11 offset e
fits_word (inst.Immediate operation rd rs1 n) e = in_field 11 n e
fits_word (inst.ShiftImmediate shift rd rs1 amount) e = ltb-true _ _ e
fits_word (inst.AddImmediateWord rd rs1 n) e = in_field 11 n e
fits_word (inst.ShiftImmediateWord shift rd rs1 amount) e = ltb-true _ _ e
fits_word (inst.Operation operation rd rs1 rs2) e = tt
fits_word (inst.WordOperation operation rd rs1 rs2) e = tt
fits_word (inst.Fence rd rs1 ordering) e = ltb-true _ _ e
fits_word inst.EnvironmentCall e = tt
fits_word inst.EnvironmentBreak e = tt

chosen : (b : Bool) (w a : ℕ) → ◌≡◌ {A = Result ℕ AsmKind} (cond b (Ok w) (Err Range)) (Ok a) → (b ≡ true) × (a ≡ w)
chosen true w a e = (refl, cc)
chosen false w a e = absurd cc

encoded_spells : (i : Inst) (a : ℕ) → encoded i ≡ Ok a → Spells i a
encoded_spells i a e = let parts = chosen (has_word i) (word i) a e in (fits_word i parts.0, parts.1)

first_of_two : {A B : Type 0} (r : Result A AsmKind) (f : A → Result B AsmKind) (x : B) → (r >>= f) ≡ Ok x → (a : A) × (r ≡ Ok a) × (f a ≡ Ok x)
first_of_two (Ok a) f x e = (a, refl, e)
first_of_two (Err k) f x e = absurd cc

pub words_spell : (is : Expansion Inst) (ws : Expansion ℕ) → words_of is ≡ Ok ws → AllSpelled is ws
words_spell Nothing ws e = cc
words_spell (One i) ws e =
    let first = first_of_two (encoded i) (λ a. Ok (One a)) ws e in
    (first.0, cc first.2, encoded_spells i first.0 first.1)
words_spell (Two i j) ws e =
    let first = first_of_two (encoded i) (λ a. encoded j >>= λ b. Ok (Two a b)) ws e in
    let second = first_of_two (encoded j) (λ b. Ok (Two first.0 b)) ws first.2 in
    (first.0, second.0, cc second.2, encoded_spells i first.0 first.1, encoded_spells j second.0 second.1)

-- ---- sizes

one_long : (i : Inst) (ws : Expansion ℕ) → words_of (One i) ≡ Ok ws → length (words_bytes ws) ≡ 4
one_long i ws e = let spelled = words_spell (One i) ws e in ap (λ (x : Expansion ℕ). length (words_bytes x)) spelled.1

two_long : (i j : Inst) (ws : Expansion ℕ) → words_of (Two i j) ≡ Ok ws → length (words_bytes ws) ≡ 8
two_long i j ws e = let spelled = words_spell (Two i j) ws e in ap (λ (x : Expansion ℕ). length (words_bytes x)) spelled.2

known_one : (i : Inst) (is : Expansion Inst) (ws : Expansion ℕ) → ◌≡◌ {A = Result (Expansion Inst) AsmKind} (Ok (One i)) (Ok is) → words_of is ≡ Ok ws → length (words_bytes ws) ≡ 4
known_one i is ws found e = let same : One i ≡ is = cc in one_long i ws (subst (λ (x : Expansion Inst). words_of x ≡ Ok ws) (sym same) e)

known_two : (i j : Inst) (is : Expansion Inst) (ws : Expansion ℕ) → ◌≡◌ {A = Result (Expansion Inst) AsmKind} (Ok (Two i j)) (Ok is) → words_of is ≡ Ok ws → length (words_bytes ws) ≡ 8
known_two i j is ws found e = let same : Two i j ≡ is = cc in two_long i j ws (subst (λ (x : Expansion Inst). words_of x ≡ Ok ws) (sym same) e)

setting_long : (b c : Bool) (i j k : Inst) (is : Expansion Inst) (ws : Expansion ℕ) → ◌≡◌ {A = Result (Expansion Inst) AsmKind} (cond b (Ok (One i)) (cond c (Ok (Two j k)) (Err Range))) (Ok is) → words_of is ≡ Ok ws
    → length (words_bytes ws) ≡ cond b 4 8
setting_long true c i j k is ws found e = known_one i is ws found e
setting_long false true i j k is ws found e = known_two j k is ws found e
setting_long false false i j k is ws found e = absurd cc

pointing_long : (b : Bool) (i j : Inst) (is : Expansion Inst) (ws : Expansion ℕ) → ◌≡◌ {A = Result (Expansion Inst) AsmKind} (cond b (Ok (Two i j)) (Err Range)) (Ok is) → words_of is ≡ Ok ws
    → length (words_bytes ws) ≡ 8
pointing_long true i j is ws found e = known_two i j is ws found e
pointing_long false i j is ws found e = absurd cc

labelled : (o : Option ℕ) (make : ℕ → Result (Expansion Inst) AsmKind) (is : Expansion Inst) → option_map_or make o (Err Label) ≡ Ok is → (target : ℕ) × (make target ≡ Ok is)
labelled (Some target) make is e = (target, e)
labelled None make is e = absurd cc

length-numbers_bytes : (w : Width) (ns : List Number) → length (numbers_bytes w ns) ≡ bytes_in w * length ns
length-numbers_bytes w [] = omega arith
length-numbers_bytes width.Byte (n ∷ ns) = omega (arith, length-append (number_bytes width.Byte n) (numbers_bytes width.Byte ns), length-numbers_bytes width.Byte ns)
length-numbers_bytes width.Word (n ∷ ns) = omega (arith, length-append (number_bytes width.Word n) (numbers_bytes width.Word ns), length-numbers_bytes width.Word ns)
length-numbers_bytes width.Double (n ∷ ns) = omega (arith, length-append (number_bytes width.Double n) (numbers_bytes width.Double ns), length-numbers_bytes width.Double ns)

-- the bytes that stand for a statement are as many as its size says, so labels stand where they are said to
pub sizes_agree : (ps : List Location) (at : ℕ) (s : Said) (is : Expansion Inst) (ws : Expansion ℕ) → instructions_of ps at s ≡ Ok is → words_of is ≡ Ok ws → length (bytes_of at s ws) ≡ size_of at s
unfolding instructions_of bytes_of size_of
sizes_agree ps at (Does i) is ws found e = known_one i is ws found e
sizes_agree ps at (Sets rd n) is ws found e = setting_long _ _ _ _ _ is ws found e
sizes_agree ps at (Branches condition rs1 rs2 label) is ws found e = let at_label = labelled (address_of ps label) _ is found in known_one _ is ws at_label.1 e
sizes_agree ps at (Jumps rd label) is ws found e = let at_label = labelled (address_of ps label) _ is found in known_one _ is ws at_label.1 e
sizes_agree ps at (Points rd label) is ws found e = let at_label = labelled (address_of ps label) _ is found in pointing_long _ _ _ is ws at_label.1 e
sizes_agree ps at (Numbers w ns) is ws found e = length-numbers_bytes w ns
sizes_agree ps at (Text bytes) is ws found e = refl
sizes_agree ps at (Space n) is ws found e = length-replicate n.magnitude 0
sizes_agree ps at (Align n) is ws found e = length-replicate (padding n.magnitude at) 0
