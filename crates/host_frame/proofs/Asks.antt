-- What is read is spelled so, and what is spelled so is read: what is asked of one process.
use Rattle.std.proofs.Common.{◌≡◌, ℕ, ◌^◌, ◌<◌, List, [], ◌++◌, Option, Some, refl, sym, ap, subst, ◌∙◌, append_assoc, inl, inr}
use Rattle.std.proofs.lemmas.Option.{some_pair_parts}
use Rattle.lx_abi.specs.declared.ptrace.Ask.{Ask}
use Rattle.lx_abi.specs.declared.ptrace.Ask.TheVariants.{Seize, SetOptions, GetRegs, SetRegs, Peek, Syscall, EventMsg, SigInfo, Listen}
use Rattle.lx_abi.specs.declared.ptrace.Request.{Request}
use Rattle.lx_abi.specs.declared.ptrace.Request.TheVariants.{To}
use Rattle.host_values.specs.Reading.{◌>>=◌, number_at}
use Rattle.host_values.specs.Spelling.{word, double, registers, AreRegisters}
use Rattle.host_values.proofs.Forms.{IsBytes, IsForm, Takes, Takes-then, bind_some, word_form, double_form, registers_form, of_one, of_two, pick}
use Rattle.host_frame.specs.Reading.{ask_at, to_at, seize_at, set_options_at, set_regs_at, peek_at, syscall_at}
use Rattle.host_frame.specs.Spelling.{ask_message, FitsAsk}

-- ---- kinds

pub seize_form : IsForm Seize (λ x. x < 256 ^ 4) word seize_at
unfolding seize_at
seize_form = of_one Seize word_form

set_options_form : IsForm SetOptions (λ x. x < 256 ^ 4) word set_options_at
unfolding set_options_at
set_options_form = of_one SetOptions word_form

set_regs_form : IsForm SetRegs AreRegisters registers set_regs_at
unfolding set_regs_at
set_regs_form = of_one SetRegs registers_form

peek_form : IsForm {A = ℕ × ℕ} (λ p. Peek p.0 p.1) (λ p. (p.0 < 256 ^ 8) × (p.1 < 256 ^ 4)) (λ p. double p.0 ++ word p.1) peek_at
unfolding peek_at
peek_form = of_two Peek double_form word_form

syscall_form : IsForm Syscall (λ x. x < 256 ^ 4) word syscall_at
unfolding syscall_at
syscall_form = of_one Syscall word_form

-- ---- all asks

-- the bytes begin with the body of this message
pub record IsAsk (kind : ℕ) (bytes rest : List ℕ) (x : Ask) : Type 0 where
  pub kind_is : (ask_message x).0 ≡ kind
  pub body : Takes bytes (ask_message x).1 rest
  pub fits : FitsAsk x

bare : {kind c : ℕ} {bytes rest : List ℕ} (x y : Ask) → IsBytes bytes → kind ≡ c → (ask_message y).0 ≡ c → (ask_message y).1 ≡ [] → FitsAsk y → ◌≡◌ {A = Option (Ask × List ℕ)} (Some (y, bytes)) (Some (x, rest)) → IsAsk kind bytes rest x
bare {kind = kind} {bytes = bytes} {rest = rest} x y all k c none fits e =
    let p = some_pair_parts y x bytes rest e in
    let body : Takes bytes (ask_message y).1 rest = record { parts = p.1 ∙ ap (λ (t : List ℕ). t ++ rest) (sym none); rest_fits = subst IsBytes p.1 all } in
    subst (IsAsk kind bytes rest) p.0 (record { kind_is = c ∙ sym k; body = body; fits = fits })

pub ask_takes : (kind : ℕ) (bytes : List ℕ) (x : Ask) (rest : List ℕ) → IsBytes bytes → ask_at kind bytes ≡ Some (x, rest) → IsAsk kind bytes rest x
ask_takes kind bytes x rest all e = elim (pick {k = kind} {c = 2} e) [
  | inl h ↦ let t = seize_form.takes bytes x rest all h.1 in subst (IsAsk kind bytes rest) (sym t.1) (record { kind_is = sym h.0; body = t.3; fits = t.2 })
  | inr e ↦ elim (pick {k = kind} {c = 3} e) [
    | inl h ↦ let t = set_options_form.takes bytes x rest all h.1 in subst (IsAsk kind bytes rest) (sym t.1) (record { kind_is = sym h.0; body = t.3; fits = t.2 })
    | inr e ↦ elim (pick {k = kind} {c = 5} e) [
      | inl h ↦ bare x GetRegs all h.0 refl refl tt h.1
      | inr e ↦ elim (pick {k = kind} {c = 6} e) [
        | inl h ↦ let t = set_regs_form.takes bytes x rest all h.1 in subst (IsAsk kind bytes rest) (sym t.1) (record { kind_is = sym h.0; body = t.3; fits = t.2 })
        | inr e ↦ elim (pick {k = kind} {c = 7} e) [
          | inl h ↦ let t = peek_form.takes bytes x rest all h.1 in subst (IsAsk kind bytes rest) (sym t.1) (record { kind_is = sym h.0; body = t.3; fits = t.2 })
          | inr e ↦ elim (pick {k = kind} {c = 8} e) [
            | inl h ↦ let t = syscall_form.takes bytes x rest all h.1 in subst (IsAsk kind bytes rest) (sym t.1) (record { kind_is = sym h.0; body = t.3; fits = t.2 })
            | inr e ↦ elim (pick {k = kind} {c = 9} e) [
              | inl h ↦ bare x EventMsg all h.0 refl refl tt h.1
              | inr e ↦ elim (pick {k = kind} {c = 10} e) [
                | inl h ↦ bare x SigInfo all h.0 refl refl tt h.1
                | inr e ↦ elim (pick {k = kind} {c = 13} e) [
                  | inl h ↦ bare x Listen all h.0 refl refl tt h.1
                  | inr e ↦ absurd (cc e)
                ]
              ]
            ]
          ]
        ]
      ]
    ]
  ]
]

pub ask_again : (x : Ask) (rest : List ℕ) → FitsAsk x → ask_at (ask_message x).0 ((ask_message x).1 ++ rest) ≡ Some (x, rest)
ask_again (Seize options) rest fits = seize_form.again options rest fits
ask_again (SetOptions options) rest fits = set_options_form.again options rest fits
ask_again GetRegs rest fits = refl
ask_again (SetRegs rs) rest fits = set_regs_form.again rs rest fits
ask_again (Peek address count) rest fits = peek_form.again (address, count) rest fits
ask_again (Syscall signal) rest fits = syscall_form.again signal rest fits
ask_again EventMsg rest fits = refl
ask_again SigInfo rest fits = refl
ask_again Listen rest fits = refl

-- a request to one process
pub to_again : (pid : ℕ) (ask : Ask) (rest : List ℕ) → pid < 256 ^ 4 → FitsAsk ask → to_at (ask_message ask).0 ((word pid ++ (ask_message ask).1) ++ rest) ≡ Some (To pid ask, rest)
unfolding to_at
to_again pid ask rest small fits =
    let regroup : (word pid ++ (ask_message ask).1) ++ rest ≡ word pid ++ ((ask_message ask).1 ++ rest) = append_assoc (word pid) (ask_message ask).1 rest in
    ap (λ (bytes : List ℕ). number_at 4 bytes >>= λ p. ask_at (ask_message ask).0 p.1 >>= λ a. Some (To p.0 a.0, a.1)) regroup
    ∙ rw (word_form.again pid ((ask_message ask).1 ++ rest) small, ask_again ask rest fits) refl

pub to_takes : (kind : ℕ) (bytes : List ℕ) (x : Request) (rest : List ℕ) → IsBytes bytes → to_at kind bytes ≡ Some (x, rest)
    → (pid : ℕ) × (ask : Ask) × (x ≡ To pid ask) × ((ask_message ask).0 ≡ kind) × Takes bytes (word pid ++ (ask_message ask).1) rest × (pid < 256 ^ 4) × FitsAsk ask
unfolding to_at
to_takes kind bytes x rest all e =
    let b = bind_some (number_at 4 bytes) (λ p. ask_at kind p.1 >>= λ a. Some (To p.0 a.0, a.1)) (x, rest) e in
    let t = word_form.takes bytes b.0.0 b.0.1 all b.1 in
    let d = bind_some (ask_at kind b.0.1) (λ a. Some (To b.0.0 a.0, a.1)) (x, rest) b.2 in
    let a = ask_takes kind b.0.1 d.0.0 d.0.1 t.3.rest_fits d.1 in
    let p = some_pair_parts (To b.0.0 d.0.0) x d.0.1 rest d.2 in
    let first : Takes bytes (word b.0.0) b.0.1 = subst (λ (k : ℕ). Takes bytes (word k) b.0.1) (sym t.1) t.3 in
    let whole : Takes bytes (word b.0.0 ++ (ask_message d.0.0).1) rest = subst (λ (r : List ℕ). Takes bytes (word b.0.0 ++ (ask_message d.0.0).1) r) p.1 (Takes-then bytes (word b.0.0) b.0.1 (ask_message d.0.0).1 d.0.1 first a.body) in
    (b.0.0, d.0.0, sym p.0, a.kind_is, whole, subst (λ (k : ℕ). k < 256 ^ 4) (sym t.1) t.2, a.fits)
