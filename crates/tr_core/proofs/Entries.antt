-- A call that is entered.
use Rattle.std.proofs.Common.{◌≡◌, ℕ, ◌+◌, Bool, true, false, cond, ◌&&◌, List, Option, Some, None, refl, sym, ap, ap₂, subst, ◌∙◌, arith}
use Rattle.std.specs.Prelude.{◌==◌, if◌then◌else◌}
use Rattle.std.proofs.lemmas.Bool.Decides.{nat_tests}
use mathlib.Core.Path.{fun_ext}
use Rattle.lx_abi.specs.declared.log.Call.{Call}
use Rattle.lx_abi.specs.declared.script.Choice.{Choice}
use Rattle.lx_model.specs.Kernel.{Script, put}
use Rattle.lx_model.specs.Machine.{Regs, call_of, sp_of, a7_of}
use Rattle.pt_model.specs.Parts.{Options, enter_part}
use Rattle.pt_model.specs.declared.standing.Standing.{Standing}
use Rattle.pt_model.specs.declared.standing.Standing.TheVariants.{Read}
use Rattle.pt_model.specs.Tracer.{Known, Heard, opened, entry, entry_with, signal_word, moves, stands_at}
use Rattle.pt_model.specs.Tracer as tracer
use Rattle.lx_model.specs.Turn.{result_word}
use Rattle.lx_abi.specs.Occurrences.{count_of}
use Rattle.tr_core.specs.Hearings.{Comes, counts_at, going_on, known_at}
use Rattle.tr_core.specs.Held.{IsHeld}
use Rattle.tr_core.specs.Known.{known_of, place_of}
use Rattle.tr_core.specs.Pens.{wrote as wrote_of, pen_after}
use Rattle.tr_core.specs.declared.heard.Heard.{Heard as CodeHeard}
use Rattle.tr_core.specs.declared.place.Awaiting.{Awaiting}
use Rattle.tr_core.specs.declared.session.Session.{Session}
use Rattle.tr_core.specs.declared.place.Tracee.{Tracee}

abbrev heard_at : Options → ℕ → Regs → List (List ℕ) → Known → ℕ → Option ℕ → Heard
heard_at o p r got k signal saved = record { known = opened k r saved; next = Some (going_on r signal saved); printed = enter_part o p (call_of r) (sp_of r) got }

pub entry_with-is : (o : Options) (p : ℕ) (r : Regs) (got : List (List ℕ)) (k : Known) (signal : ℕ) (saved : Option ℕ)
    → entry_with o p r got k signal saved ≡ record { known = opened k r saved; next = Some (going_on r signal saved); printed = enter_part o p (call_of r) (sp_of r) got }
entry_with-is o p r got k signal None = refl
entry_with-is o p r got k signal (Some x) = refl

-- one more of a number
pub counted : (f g : ℕ → ℕ) (pid number : ℕ) → ((n : ℕ) → g n ≡ (if (pid == pid) && (n == number) then 1 else 0) + f n) → put f number (f number + 1) ≡ g
counted f g pid number h = fun_ext (λ n. go n (pid == pid) (grind (arith, nat_tests)) (number == n) (n == number) refl (grind (arith, nat_tests)) (h n))
  where
    go : (n : ℕ) (a : Bool) → a ≡ true → (b c : Bool) → (number == n) ≡ b → c ≡ b → g n ≡ (if a && c then 1 else 0) + f n → cond b (f number + 1) (f n) ≡ g n
    go n false e b c i j k = absurd (cc e)
    go n true e true false i j k = absurd (cc j)
    go n true e false true i j k = absurd (cc j)
    go n true e false false i j k = omega (arith, k)
    go n true e true true i j k =
        let same : number ≡ n = grind (arith, nat_tests, i) in
        let here : f number ≡ f n = ap f same in
        omega (arith, k, here)

-- what is counted of others stays
pub others_stay : (pid number q n a b : ℕ) → (pid == q) ≡ false → a ≡ (if (q == pid) && (n == number) then 1 else 0) + b → a ≡ b
others_stay pid number q n a b e h = go (q == pid) (n == number) (grind (arith, nat_tests, e)) h
  where
    go : (x y : Bool) → x ≡ false → a ≡ (if x && y then 1 else 0) + b → a ≡ b
    go true y i k = absurd (cc i)
    go false y i k = omega (arith, k)

-- the code's step is the definition's
pub entered : (o : Options) (script : Script) (r : Regs) (got : List (List ℕ)) (s s' : Session) (p : ℕ) (t : Tracee) (call : Call) (choice : Choice) (saved : Option ℕ) (signal : ℕ) (next : Awaiting) (bytes : List ℕ)
    → call ≡ call_of r
    → choice ≡ script call.number (count_of s.counts p call.number + 1)
    → saved ≡ result_word choice
    → signal ≡ signal_word choice.signal
    → place_of next ≡ going_on r signal saved
    → ((q n : ℕ) → count_of s'.counts q n ≡ (if (q == p) && (n == call.number) then 1 else 0) + count_of s.counts q n)
    → bytes ≡ wrote_of s.printer (enter_part o p call (sp_of r) got)
    → s'.printer ≡ pen_after s.printer (enter_part o p call (sp_of r) got)
    → s'.settings ≡ s.settings
    → IsHeld s'.settings.options call next
    → Comes (entry o script p r got (known_at s p t)) (record { next = Some next; bytes = bytes }) s s' p t
    (record { inside = t.inside; called = call; saved = saved; standing = Read })
entered o script r got s s' p t call choice saved signal next bytes is chosen saves joins goes counts wrote pen same held =
    let k : Known = known_at s p t in
    let f : ℕ → ℕ = counts_at s.counts p in
    let g : ℕ → ℕ = counts_at s'.counts p in
    let c : Choice = script (a7_of r) (f (a7_of r) + 1) in
    let chosen' : choice ≡ c = chosen ∙ ap (λ x. script x.number (f x.number + 1)) is in
    let all : entry o script p r got k ≡ heard_at o p r got k signal saved =
    ap₂ (λ s x. entry_with o p r got k s x) (ap (λ x. signal_word x.signal) (sym chosen') ∙ sym joins) (ap (λ x. result_word x) (sym chosen') ∙ sym saves)
    ∙ entry_with-is o p r got k signal saved in
    let counts' : put f (a7_of r) (f (a7_of r) + 1) ≡ g = counted f g p (a7_of r) (λ n. counts p n ∙ ap (λ x. (if (p == p) && (n == x.number) then 1 else 0) + f n) is) in
    let after : Tracee = record { inside = t.inside; called = call; saved = saved; standing = Read } in
    subst (λ h. Comes h (record { next = Some next; bytes = bytes }) s s' p t after) (sym all)
    (record {
      known = λ i. record { inside = t.inside; called = sym is i; saved = saved; counts = counts' i; standing = Read };
      place = ap (λ x. Some x) (sym goes);
      text = wrote ∙ ap (λ x. wrote_of s.printer (enter_part o p x (sp_of r) got)) is;
      pen = pen ∙ ap (λ x. pen_after s.printer (enter_part o p x (sp_of r) got)) is;
      others = λ q n e. others_stay p call.number q n _ _ e (counts q n);
      settings = same;
      held = held;
    })

-- the same at what the code knows
pub stops : (k m : Known) (pl ql : tracer.Awaiting) (told : CodeHeard) (s : Session) (p : ℕ) (was is : Tracee) → m ≡ k → ql ≡ pl
    → Comes (moves m ql) told s s p is is → Comes (moves k pl) told s s p was is
stops k m pl ql told s p was is e f h = record {
  known = sym e ∙ h.known;
  place = ap (λ l. Some l) (sym f) ∙ h.place;
  text = h.text;
  pen = h.pen;
  others = λ q n x. refl;
  settings = refl;
  held = h.held;
}

pub stands : (t : Tracee) (s : Standing) (m : Standing) (counts : ℕ → ℕ) → s ≡ m → known_of (record { inside = t.inside; called = t.called; saved = t.saved; standing = s }) counts ≡ stands_at (known_of t counts) m
stands t s m counts e = ap (λ x. stands_at (known_of t counts) x) e
