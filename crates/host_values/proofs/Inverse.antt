-- What is read is spelled so, and what is spelled so is read: fields that are tested, and items of lists.
use Rattle.std.proofs.Common.{◌≡◌, ℕ, ◌^◌, ◌<◌, Bool, true, false, cond, ◌&&◌, eqb, List, [], ◌∷◌, ◌++◌, length, Option, Some, None, refl, sym, ap, subst, ◌∙◌, append_assoc, arith, inl, inr, ◌⊎◌}
use Rattle.std.proofs.lemmas.Bool.{eqb-true, and_parts}
use Rattle.std.proofs.lemmas.Option.{some_pair_parts}
use Rattle.lx_abi.specs.declared.boot.GuestFile.{GuestFile}
use Rattle.lx_abi.specs.declared.outcome.Node.{Node}
use Rattle.lx_abi.specs.declared.outcome.Node.TheVariants.{File, Directory}
use Rattle.lx_abi.specs.declared.outcome.OutcomeFile.{OutcomeFile}
use Rattle.lx_abi.specs.declared.outcome.Ended.{Ended}
use Rattle.lx_abi.specs.declared.schedule.Word.{Word}
use Rattle.lx_abi.specs.declared.schedule.Word.TheVariants.{Turn, TurnAlone, Serve, UntilReturn}
use Rattle.host_values.specs.Reading.{◌>>=◌, word_of, node_of, schedule_word_at, outcome_file_at, ended_at, guest_file_at}
use Rattle.host_values.specs.Spelling.{byte, word, text, schedule_word, node, outcome_file, ended, guest_file, FitsText, FitsGuestFile, FitsWord, FitsNode, FitsOutcomeFile, FitsEnded}
use Rattle.host_values.proofs.Forms.{IsForm, Takes, Takes-then, same, bind_some, some_is, byte_form, word_form, text_form, guest_file_form, file_is, of_two, and_then, pick}

-- ---- fields that are tested

pub choose : {A : Type 0} (b : Bool) (x y : A) {z : A} → cond b x y ≡ z → ((b ≡ true) × (x ≡ z)) ⊎ ((b ≡ false) × (y ≡ z))
choose true x y e = inl (refl, e)
choose false x y e = inr (refl, e)

pub if_some : {A : Type 0} (b : Bool) (x y : A) → cond b (Some x) None ≡ Some y → (b ≡ true) × (x ≡ y)
if_some true x y e = (refl, cc)
if_some false x y e = absurd cc

-- a last field that is tested
pub of_one_if : {A X : Type 0} {Fits : A → Type 0} {spelling : A → List ℕ} {reads : List ℕ → Option (A × List ℕ)} (test : A → Bool) (make : A → X) → IsForm (same {A = A}) Fits spelling reads
    → IsForm make (λ a. Fits a × (test a ≡ true)) spelling (λ bytes. reads bytes >>= λ a. cond (test a.0) (Some (make a.0, a.1)) None)
of_one_if {A = A} {X = X} {Fits = Fits} {spelling = spelling} {reads = reads} test make f = record {
  takes = λ bytes x rest fits e.
      let b = bind_some (reads bytes) (λ a. cond (test a.0) (Some (make a.0, a.1)) None) (x, rest) e in
      let t = f.takes bytes b.0.0 b.0.1 fits b.1 in
      let g = if_some (test b.0.0) (make b.0.0, b.0.1) (x, rest) b.2 in
      let x-is : make b.0.0 ≡ x = ap (λ (p : X × List ℕ). p.0) g.1 in
      let rest-is : b.0.1 ≡ rest = ap (λ (p : X × List ℕ). p.1) g.1 in
      (t.0, sym x-is ∙ ap make t.1, (t.2, ap test (sym t.1) ∙ g.0), subst (λ (r : List ℕ). Takes bytes (spelling t.0) r) rest-is t.3);
  again = λ a rest fits. rw (f.again a rest fits.0, fits.1) refl;
}

-- two fields that together tell a value
pub of_two_to : {A B X Y : Type 0} {Fits : A → Type 0} {spelling : A → List ℕ} {reads : List ℕ → Option (A × List ℕ)} {Suits : B → Type 0} {write : B → List ℕ} {gets : List ℕ → Option (B × List ℕ)} (to : A → B → Option X) (make : X → Y) (tells : X → List ℕ) (FitsX : X → Type 0)
    → IsForm (same {A = A}) Fits spelling reads → IsForm (same {A = B}) Suits write gets
    → ((a : A) (b : B) (x : X) → Fits a → Suits b → to a b ≡ Some x → (tells x ≡ spelling a ++ write b) × FitsX x)
    → ((x : X) → FitsX x → (a : A) × ((b : B) × (Fits a × (Suits b × ((tells x ≡ spelling a ++ write b) × (to a b ≡ Some x))))))
    → IsForm make FitsX tells (λ bytes. reads bytes >>= λ a. gets a.1 >>= λ b. to a.0 b.0 >>= λ x. Some (make x, b.1))
of_two_to {A = A} {B = B} {X = X} {Y = Y} {Fits = Fits} {spelling = spelling} {reads = reads} {Suits = Suits} {write = write} {gets = gets} to make tells FitsX f g down up = record {
  takes = λ bytes y rest all e.
      let b = bind_some (reads bytes) (λ a. gets a.1 >>= λ b. to a.0 b.0 >>= λ x. Some (make x, b.1)) (y, rest) e in
      let t = f.takes bytes b.0.0 b.0.1 all b.1 in
      let d = bind_some (gets b.0.1) (λ v. to b.0.0 v.0 >>= λ x. Some (make x, v.1)) (y, rest) b.2 in
      let u = g.takes b.0.1 d.0.0 d.0.1 t.3.rest_fits d.1 in
      let v = bind_some (to b.0.0 d.0.0) (λ x. Some (make x, d.0.1)) (y, rest) d.2 in
      let p = some_pair_parts (make v.0) y d.0.1 rest v.2 in
      let here : Takes bytes (spelling b.0.0) b.0.1 = subst (λ (a : A). Takes bytes (spelling a) b.0.1) (sym t.1) t.3 in
      let there : Takes b.0.1 (write d.0.0) d.0.1 = subst (λ (a : B). Takes b.0.1 (write a) d.0.1) (sym u.1) u.3 in
      let told = down b.0.0 d.0.0 v.0 (subst Fits (sym t.1) t.2) (subst Suits (sym u.1) u.2) v.1 in
      let whole : Takes bytes (spelling b.0.0 ++ write d.0.0) rest = subst (λ (r : List ℕ). Takes bytes (spelling b.0.0 ++ write d.0.0) r) p.1 (Takes-then bytes (spelling b.0.0) b.0.1 (write d.0.0) d.0.1 here there) in
      (v.0, sym p.0, told.1, subst (λ (s : List ℕ). Takes bytes s rest) (sym told.0) whole);
  again = λ x rest fits.
      let u = up x fits in
      let a : A = u.0 in
      let b : B = u.1.0 in
      let regroup : tells x ++ rest ≡ spelling a ++ (write b ++ rest) = ap (λ (s : List ℕ). s ++ rest) u.1.1.1.1.0 ∙ append_assoc (spelling a) (write b) rest in
      ap (λ bytes. reads bytes >>= λ a. gets a.1 >>= λ b. to a.0 b.0 >>= λ x. Some (make x, b.1)) regroup ∙ rw (f.again a (write b ++ rest) u.1.1.0, g.again b rest u.1.1.1.0, u.1.1.1.1.1) refl;
}

-- a form of fields as one of their value
pub retyped : {A X : Type 0} {Suits : A → Type 0} {spelling : A → List ℕ} {reads : List ℕ → Option (X × List ℕ)} (make : A → X) (fields : X → A) (tells : X → List ℕ) (Fits : X → Type 0) → IsForm make Suits spelling reads
    → ((x : X) → Fits x → make (fields x) ≡ x) → ((a : A) → tells (make a) ≡ spelling a) → ((a : A) → Suits a → Fits (make a)) → ((x : X) → Fits x → Suits (fields x)) → IsForm (same {A = X}) Fits tells reads
retyped {A = A} {X = X} {Suits = Suits} {spelling = spelling} {reads = reads} make fields tells Fits f made told down up = record {
  takes = λ bytes x rest all e.
      let t = f.takes bytes x rest all e in
      let told_is : spelling t.0 ≡ tells x = sym (told t.0) ∙ ap tells (sym t.1) in
      (x, refl, subst Fits (sym t.1) (down t.0 t.2), subst (λ (s : List ℕ). Takes bytes s rest) told_is t.3);
  again = λ x rest fits.
      let told_is : tells x ≡ spelling (fields x) = ap tells (sym (made x fits)) ∙ told (fields x) in
      ap (λ (s : List ℕ). reads (s ++ rest)) told_is ∙ f.again (fields x) rest (up x fits) ∙ ap (λ (y : X). Some (y, rest)) (made x fits);
}

-- ---- items of lists

pub guest_file_items : IsForm (same {A = GuestFile}) FitsGuestFile guest_file guest_file_at
guest_file_items = retyped {A = List ℕ × List ℕ} (λ v. file_is v.0 v.1) (λ f. (f.path, f.content)) guest_file FitsGuestFile guest_file_form (λ f fits. refl) (λ a. refl) (λ a fits. fits) (λ f fits. fits)

word_down : (kind pid : ℕ) (w : Word) → kind < 256 ^ 1 → pid < 256 ^ 4 → word_of kind pid ≡ Some w → (schedule_word w ≡ byte kind ++ word pid) × FitsWord w
word_down kind pid w small fits e = elim (pick {k = kind} {c = 1} e) [
  | inl h ↦ subst (λ (x : Word). (schedule_word x ≡ byte kind ++ word pid) × FitsWord x) (some_is (Turn pid) w h.1) (ap (λ (k : ℕ). byte k ++ word pid) (sym h.0), fits)
  | inr e ↦ elim (pick {k = kind} {c = 2} e) [
    | inl h ↦ subst (λ (x : Word). (schedule_word x ≡ byte kind ++ word pid) × FitsWord x) (some_is (TurnAlone pid) w h.1) (ap (λ (k : ℕ). byte k ++ word pid) (sym h.0), fits)
    | inr e ↦ elim (choose (eqb kind 3 && eqb pid 0) _ _ e) [
      | inl h ↦
          let both = and_parts (eqb kind 3) (eqb pid 0) h.0 in
          let told : byte 3 ++ word 0 ≡ byte kind ++ word pid = ap (λ (k : ℕ). byte k ++ word 0) (sym (eqb-true kind 3 both.0)) ∙ ap (λ (p : ℕ). byte kind ++ word p) (sym (eqb-true pid 0 both.1)) in
          subst (λ (x : Word). (schedule_word x ≡ byte kind ++ word pid) × FitsWord x) (some_is Serve w h.1) (told, tt)
      | inr e ↦ elim (pick {k = kind} {c = 4} e.1) [
        | inl h ↦ subst (λ (x : Word). (schedule_word x ≡ byte kind ++ word pid) × FitsWord x) (some_is (UntilReturn pid) w h.1) (ap (λ (k : ℕ). byte k ++ word pid) (sym h.0), fits)
        | inr e ↦ absurd (cc e)
      ]
    ]
  ]
]

abbrev Spells : {X : Type 0} → (X → List ℕ) → (ℕ → ℕ → Option X) → X → Type 0
Spells tells to x = (a : ℕ) × ((b : ℕ) × ((a < 256 ^ 1) × ((b < 256 ^ 4) × ((tells x ≡ byte a ++ word b) × (to a b ≡ Some x)))))

word_up : (w : Word) → FitsWord w → Spells schedule_word word_of w
word_up (Turn p) fits = (1, (p, (omega arith, (fits, (refl, refl)))))
word_up (TurnAlone p) fits = (2, (p, (omega arith, (fits, (refl, refl)))))
word_up Serve fits = (3, (0, (omega arith, (omega arith, (refl, refl)))))
word_up (UntilReturn p) fits = (4, (p, (omega arith, (fits, (refl, refl)))))

pub schedule_word_items : IsForm (same {A = Word}) FitsWord schedule_word schedule_word_at
unfolding schedule_word_at
schedule_word_items = of_two_to word_of (same {A = Word}) schedule_word FitsWord byte_form word_form word_down word_up

pub no_items : {X : Type 0} (xs : List X) → length xs ≡ 0 → xs ≡ []
no_items [] e = refl
no_items (x ∷ xs) e = absurd (omega (arith, e))

node_down : (kind : ℕ) (content : List ℕ) (n : Node) → kind < 256 ^ 1 → FitsText content → node_of kind content ≡ Some n → (node n ≡ byte kind ++ text content) × FitsNode n
node_down kind content n small fits e = elim (pick {k = kind} {c = 1} e) [
  | inl h ↦ subst (λ (x : Node). (node x ≡ byte kind ++ text content) × FitsNode x) (some_is (File content) n h.1) (ap (λ (k : ℕ). byte k ++ text content) (sym h.0), fits)
  | inr e ↦ elim (choose (eqb kind 2 && eqb (length content) 0) _ _ e) [
    | inl h ↦
        let both = and_parts (eqb kind 2) (eqb (length content) 0) h.0 in
        let empty = no_items content (eqb-true (length content) 0 both.1) in
        let told : byte 2 ++ text [] ≡ byte kind ++ text content = ap (λ (k : ℕ). byte k ++ text []) (sym (eqb-true kind 2 both.0)) ∙ ap (λ (c : List ℕ). byte kind ++ text c) (sym empty) in
        subst (λ (x : Node). (node x ≡ byte kind ++ text content) × FitsNode x) (some_is Directory n h.1) (told, tt)
    | inr e ↦ absurd (cc e.1)
  ]
]

node_up : (n : Node) → FitsNode n → (a : ℕ) × ((b : List ℕ) × ((a < 256 ^ 1) × (FitsText b × ((node n ≡ byte a ++ text b) × (node_of a b ≡ Some n)))))
node_up (File c) fits = (1, (c, (omega arith, (fits, (refl, refl)))))
node_up Directory fits = (2, ([], (omega arith, (omega arith, (refl, refl)))))

abbrev outcome_file_is : List ℕ → Node → OutcomeFile
outcome_file_is path n = record { path = path; node = n }

pub outcome_file_items : IsForm (same {A = OutcomeFile}) FitsOutcomeFile outcome_file outcome_file_at
unfolding outcome_file_at
outcome_file_items =
    retyped {A = List ℕ × Node} (λ v. outcome_file_is v.0 v.1) (λ f. (f.path, f.node)) outcome_file FitsOutcomeFile
    (and_then outcome_file_is text_form (λ path. of_two_to node_of (outcome_file_is path) node FitsNode byte_form text_form node_down node_up))
    (λ f fits. refl) (λ a. refl) (λ a fits. fits) (λ f fits. fits)

abbrev ended_is : ℕ → ℕ → Ended
ended_is pid w = record { pid = pid; word = w }

pub ended_items : IsForm (same {A = Ended}) FitsEnded ended ended_at
unfolding ended_at
ended_items = retyped {A = ℕ × ℕ} (λ v. ended_is v.0 v.1) (λ e. (e.pid, e.word)) ended FitsEnded (of_two ended_is word_form word_form) (λ e fits. refl) (λ a. refl) (λ a fits. fits) (λ e fits. fits)
