-- Entries of other processes into the call that fails.
use Rattle.std.proofs.Common.{◌≡◌, ◌↔◌, Bool, ℕ, zero, suc, ◌+◌, ◌<◌, ◌≤◌, true, false, not, ◌&&◌, ◌||◌, List, [], ◌∷◌, ◌++◌, refl, sym, ap, subst, ◌∙◌, arith}
use Rattle.std.specs.Prelude.{◌==◌, IsTrue, nat_le, if◌then◌else◌}
use Rattle.std.specs.List.{list_any, range_with_len}
use Rattle.std.proofs.lemmas.Bool.Decides.{nat_tests}
use Rattle.lx_abi.specs.declared.log.Call.{Call}
use Rattle.lx_abi.specs.declared.log.Item.{Item}
use Rattle.lx_abi.specs.declared.log.Item.TheVariants.{Enter, Done, Taken, Stopped, Exit}
use Rattle.lx_abi.specs.Log.{entries, is_entry}
use Rattle.lx_abi.specs.Occurrences.{count_of}
use Rattle.lx_model.specs.Kernel.{traces}
use Rattle.sweep_rows.proofs.Counting.{entries_more}
use Rattle.sweep_faults.specs.declared.entries.Entries.{Entries}
use Rattle.sweep_faults.specs.declared.faults.Fault.{Fault}
use Rattle.sweep_faults.specs.Entries.{AreEntries}
use Rattle.sweep_faults.specs.Faults.{is_undone}
use Rattle.sweep_faults.specs.Words.{AreFewer, HasWords, is_others}

no_more : (n : ℕ) → 0 + n ≡ n
no_more n = omega arith

entries_same : (p number : ℕ) (past : List Item) (item : Item) → is_entry p number item ≡ false → entries p number (past ++ item ∷ []) ≡ entries p number past
entries_same p number past item other =
    entries_more p number past item ∙ ap (λ b. (if b then 1 else 0) + entries p number past) other ∙ no_more (entries p number past)

-- Counts, one item more

no_entry : (item : Item) → ((pid : ℕ) (call : Call) → item ≡ Enter pid call → ⊥) → (p number : ℕ) → is_entry p number item ≡ false
no_entry (Enter pid call) other p number = absurd (other pid call refl)
no_entry (Done pid call word replaced) other p number = refl
no_entry (Taken pid signal cause) other p number = refl
no_entry (Stopped pid signal) other p number = refl
no_entry (Exit pid word left) other p number = refl

pub entries_other : (item : Item) → ((pid : ℕ) (call : Call) → item ≡ Enter pid call → ⊥) → (e : Entries) (past : List Item) → AreEntries e past → AreEntries e (past ++ item ∷ [])
entries_other item other e past h = record {
  agree = λ p number. h.agree p number ∙ sym (entries_same p number past item (no_entry item other p number));
  within = λ p number far. entries_same p number past item (no_entry item other p number) ∙ h.within p number far;
}

pub entries_entry : (e e' : Entries) (pid : ℕ) (call : Call) → ((p n : ℕ) → count_of e'.counts p n ≡ (if (p == pid) && (n == call.number) then 1 else 0) + count_of e.counts p n)
    → e.above ≤ e'.above → pid < e'.above → (past : List Item) → AreEntries e past → AreEntries e' (past ++ Enter pid call ∷ [])
entries_entry e e' pid call counts before above past h = record {
  agree = λ p n.
      counts p n ∙ ap (λ x. (if (p == pid) && (n == call.number) then 1 else 0) + x) (h.agree p n) ∙ sym (entries_more p n past (Enter pid call));
  within = λ p number far.
      let earlier : e.above ≤ p = omega (arith, before, far) in
      entries_same p number past (Enter pid call) (of p number (p == pid) refl far) ∙ h.within p number earlier;
}
  where
    of : (p number : ℕ) (b : Bool) → (p == pid) ≡ b → e'.above ≤ p → (b && (number == call.number)) ≡ false
    of p number true is far = absurd (grind (arith, nat_tests, is, above, far))
    of p number false is far = refl

pub first_entries : (e : Entries) → ((p n : ℕ) → count_of e.counts p n ≡ 0) → AreEntries e []
first_entries e none = record { agree = none; within = λ p n far. refl }

pub clone_entries : (e e' : Entries) → ((p n : ℕ) → count_of e'.counts p n ≡ count_of e.counts p n) → e'.above ≡ e.above → (log : List Item) → AreEntries e log → AreEntries e' log
clone_entries e e' counts above log h = record {
  agree = λ p n. counts p n ∙ h.agree p n;
  within = λ p n far. h.within p n (subst (λ x. x ≤ p) above far);
}

-- Processes that have entered it so often

none_of : (g : ℕ → Bool) (n a p : ℕ) → list_any g (range_with_len a n) ≡ false → a ≤ p → p < a + n → g p ≡ false
none_of g zero a p none least most = absurd (omega (arith, least, most))
none_of g (suc n) a p none least most =
    let within : p < (a + 1) + n = omega (arith, most) in
    of (g a) refl none (a == p) refl (λ behind later. none_of g n (a + 1) p behind later within)
  where
    of : (b : Bool) → g a ≡ b → (b || list_any g (range_with_len (a + 1) n)) ≡ false → (c : Bool) → (a == p) ≡ c →
        (list_any g (range_with_len (a + 1) n) ≡ false → a + 1 ≤ p → g p ≡ false) → g p ≡ false
    of true is none c e next = absurd (cc none)
    of false is none true e next =
        let same : a ≡ p = grind (arith, nat_tests, e) in
        subst (λ x. g x ≡ false) same is
    of false is none false e next =
        let later : a + 1 ≤ p = grind (arith, nat_tests, e, least) in
        next none later

all_none : (g : ℕ → Bool) (n a : ℕ) → ((p : ℕ) → g p ≡ false) → list_any g (range_with_len a n) ≡ false
all_none g zero a none = refl
all_none g (suc n) a none = ap (λ b. b || list_any g (range_with_len (a + 1) n)) (none a) ∙ all_none g n (a + 1) none

module _ (f : Fault) (e : Entries) (log : List Item) (h : AreEntries e log) where
  seldom : (p : ℕ) (a b : Bool) → (p == f.pid) ≡ a → nat_le f.n (count_of e.counts p f.call) ≡ b → (not a && b) ≡ false → (p ≡ f.pid → ⊥) → entries p f.call log < f.n
  seldom p true b ea eb none others =
      let same : p ≡ f.pid = grind (arith, nat_tests, ea) in
      absurd (others same)
  seldom p false true ea eb none others = absurd (cc none)
  seldom p false false ea eb none others =
      let less : count_of e.counts p f.call < f.n = grind (arith, nat_tests, eb) in
      subst (λ n. n < f.n) (h.agree p f.call) less

  fewer_all : (n : ℕ) → n ≡ e.above → list_any (is_others f e.counts) (range_with_len 0 n) ≡ false → 0 < f.n → AreFewer f log
  fewer_all n is none some p others = of (nat_le e.above p) refl
    where
      of : (far : Bool) → nat_le e.above p ≡ far → entries p f.call log < f.n
      of true far =
          let beyond : e.above ≤ p = grind (arith, nat_tests, far) in
          let never : entries p f.call log ≡ 0 = h.within p f.call beyond in
          omega (arith, never, some)
      of false far =
          let most : p < 0 + n = grind (arith, nat_tests, far, is) in
          seldom p (p == f.pid) (nat_le f.n (count_of e.counts p f.call)) refl refl
          (none_of (is_others f e.counts) n 0 p none (omega arith) most) others

  none_often : AreFewer f log → (p : ℕ) → is_others f e.counts p ≡ false
  none_often fewer p = of (p == f.pid) refl (nat_le f.n (count_of e.counts p f.call)) refl
    where
      of : (a : Bool) → (p == f.pid) ≡ a → (b : Bool) → nat_le f.n (count_of e.counts p f.call) ≡ b → (not a && b) ≡ false
      of true ea b eb = refl
      of false ea false eb = refl
      of false ea true eb =
          let others : p ≡ f.pid → ⊥ = λ same. grind (arith, nat_tests, ea, same) in
          let less : count_of e.counts p f.call < f.n = subst (λ n. n < f.n) (sym (h.agree p f.call)) (fewer p others) in
          absurd (grind (arith, nat_tests, eb, less))

  pub fewer_is : (any : Bool) (n : ℕ) → n ≡ e.above → any ≡ list_any (is_others f e.counts) (range_with_len 0 n) → (f.n ≡ 0 → ⊥) → IsTrue (not any) ↔ AreFewer f log
  fewer_is true n is any some = (
    λ no_one. absurd (cc no_one),
    λ fewer. absurd (cc (any ∙ all_none (is_others f e.counts) n 0 (none_often fewer))),
  )
  fewer_is false n is any some =
      let more : 0 < f.n = grind (arith, nat_tests, some) in
      (λ t. fewer_all n is (sym any) more, λ fewer. refl)

-- What is answered

pub never_fewer : (f : Fault) (log : List Item) → f.n ≡ 0 → IsTrue false ↔ AreFewer f log
never_fewer f log none = (
  λ h. absurd (cc h),
  λ fewer.
      let another : suc f.pid ≡ f.pid → ⊥ = λ same. omega (arith, same) in
      let less : entries (suc f.pid) f.call log < f.n = fewer (suc f.pid) another in
      absurd (omega (arith, none, less)),
)

pub done_words : (follow : Bool) (f : Fault) (log : List Item) → is_undone f.kind ≡ false → IsTrue false ↔ HasWords follow f log
done_words follow f log h = (λ e. absurd (cc e), λ words. absurd (cc (sym words.undone ∙ h)))

pub untraced_words : (follow : Bool) (f : Fault) (log : List Item) → traces follow f.pid ≡ false → IsTrue false ↔ HasWords follow f log
untraced_words follow f log h = (λ e. absurd (cc e), λ words. absurd (cc (sym words.traced ∙ h)))

alone_words : (f : Fault) (log : List Item) → is_undone f.kind ≡ true → traces false f.pid ≡ true → HasWords false f log
alone_words f log undone traced = record {
  undone = undone;
  traced = traced;
  alone = λ q t others.
      let same : q ≡ f.pid = grind (arith, nat_tests, t, traced) in
      absurd (others same);
}

pub first_words : (follow : Bool) (f : Fault) (log : List Item) → is_undone f.kind ≡ true → follow ≡ false → traces follow f.pid ≡ true → IsTrue true ↔ HasWords follow f log
first_words true f log undone e traced = absurd (cc e)
first_words false f log undone e traced = (λ h. alone_words f log undone traced, λ h. refl)

pub followed_words : (has follow : Bool) (f : Fault) (log : List Item) → is_undone f.kind ≡ true → follow ≡ true → (IsTrue has ↔ AreFewer f log) → IsTrue has ↔ HasWords follow f log
followed_words has false f log undone e h = absurd (cc e)
followed_words has true f log undone e h = (
  λ b. record { undone = undone; traced = refl; alone = λ q t others. h.0 b q others },
  λ words. h.1 (λ q others. words.alone q refl others),
)
