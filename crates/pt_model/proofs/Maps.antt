-- Maps from pids, and lists of items and reports by pid.
use Rattle.std.proofs.Common.{◌≡◌, ◌≢◌, ◌⊎◌, ℕ, ◌+◌, Bool, true, false, cond, not, List, [], ◌∷◌, ◌++◌, map, filter, length, length-append, append_assoc, refl, sym, ap, ◌∙◌, arith}
use Rattle.std.specs.Prelude.{◌==◌, ◌||◌}
use Rattle.std.proofs.lemmas.Bool.Decides.{nat_tests}
use Rattle.std.proofs.lemmas.List.{map-append}
use Rattle.std.proofs.lemmas.List.Elements.{filter-append}
use Rattle.lx_abi.specs.declared.log.Item.{Item}
use Rattle.lx_abi.specs.declared.log.Item.TheVariants.{Enter, Done, Taken as Signalled, Stopped as Halts, Exit}
use Rattle.lx_abi.specs.Log.{Noted, pid_of, is_entry, items_of, entries}
use Rattle.lx_model.specs.Kernel.{put, traces}
use Rattle.pt_model.specs.Ptrace.{without}
use Rattle.pt_model.specs.Parts.{Options}
use Rattle.pt_model.specs.Tracer.{is_among}
use Rattle.pt_model.specs.View.{traced, part, parts, Due, Logged, Unlogged, due_pid, item_report, report_of, items_in}
use Rattle.pt_model.proofs.Phases.{noted_of, dues_of, AllOf, DuesOf}

pub same_or_not : (p q : ℕ) → (p ≡ q) ⊎ (p ≢ q)
same_or_not p q = grind (arith, nat_tests)

pub is_same : (p : ℕ) → (p == p) ≡ true
is_same p = grind (arith, nat_tests)

pub is_not_same : (p q : ℕ) → p ≢ q → (p == q) ≡ false
is_not_same p q h = grind (arith, nat_tests)

pub put_here : {X : Type 0} (f : ℕ → X) (p : ℕ) (x : X) → put f p x p ≡ x
put_here f p x = rw (is_same p) refl

pub put_apart : {X : Type 0} (f : ℕ → X) (p : ℕ) (x : X) (q : ℕ) → p ≢ q → put f p x q ≡ f q
put_apart f p x q h = rw (is_not_same p q h) refl

-- the items without those of p
abbrev pub items_without : ℕ → List Noted → List Noted
items_without p items = filter (λ i. not (p == pid_of i.item)) items

abbrev pub dues_without : ℕ → List Due → List Due
dues_without p dues = filter (λ i. not (p == due_pid i)) dues

item_pid : (i : Item) → (item_report i).pid ≡ pid_of i
item_pid (Enter p c) = refl
item_pid (Done p c x b) = refl
item_pid (Signalled p n cause) = refl
item_pid (Halts p n) = refl
item_pid (Exit p w m) = refl

pub report_pid : (i : Due) → (report_of i).pid ≡ due_pid i
report_pid (Logged i) = item_pid i.item
report_pid (Unlogged p n) = refl

pub without-map : (p : ℕ) (dues : List Due) → without p (map report_of dues) ≡ map report_of (dues_without p dues)
without-map p [] = refl
without-map p (i ∷ dues) = rw (report_pid i, without-map p dues) (go (p == due_pid i))
  where
    go : (b : Bool) → cond (not b) (report_of i ∷ map report_of (dues_without p dues)) (map report_of (dues_without p dues)) ≡ map report_of (cond (not b) (i ∷ dues_without p dues) (dues_without p dues))
    go true = refl
    go false = refl

pub items_in-append : (xs ys : List Due) → items_in (xs ++ ys) ≡ items_in xs ++ items_in ys
items_in-append [] ys = refl
items_in-append (Logged i ∷ xs) ys = ap (λ r. i ∷ r) (items_in-append xs ys)
items_in-append (Unlogged p n ∷ xs) ys = items_in-append xs ys

pub items_in-without : (p : ℕ) (dues : List Due) → items_in (dues_without p dues) ≡ items_without p (items_in dues)
items_in-without p [] = refl
items_in-without p (Logged i ∷ dues) = go (p == pid_of i.item) (items_in-without p dues)
  where
    go : (b : Bool) → items_in (dues_without p dues) ≡ items_without p (items_in dues) → items_in (cond (not b) (Logged i ∷ dues_without p dues) (dues_without p dues)) ≡ cond (not b) (i ∷ items_without p (items_in dues)) (items_without p (items_in dues))
    go true again = again
    go false again = ap (λ r. i ∷ r) again
items_in-without p (Unlogged q n ∷ dues) = go (p == q) (items_in-without p dues)
  where
    go : (b : Bool) → items_in (dues_without p dues) ≡ items_without p (items_in dues) → items_in (cond (not b) (Unlogged q n ∷ dues_without p dues) (dues_without p dues)) ≡ items_without p (items_in dues)
    go true again = again
    go false again = again

pub items_in-of : (p : ℕ) (dues : List Due) → items_in (dues_of p dues) ≡ noted_of p (items_in dues)
items_in-of p [] = refl
items_in-of p (Logged i ∷ dues) = go (p == pid_of i.item) (items_in-of p dues)
  where
    go : (b : Bool) → items_in (dues_of p dues) ≡ noted_of p (items_in dues) → items_in (cond b (Logged i ∷ dues_of p dues) (dues_of p dues)) ≡ cond b (i ∷ noted_of p (items_in dues)) (noted_of p (items_in dues))
    go true again = ap (λ r. i ∷ r) again
    go false again = again
items_in-of p (Unlogged q n ∷ dues) = go (p == q) (items_in-of p dues)
  where
    go : (b : Bool) → items_in (dues_of p dues) ≡ noted_of p (items_in dues) → items_in (cond b (Unlogged q n ∷ dues_of p dues) (dues_of p dues)) ≡ noted_of p (items_in dues)
    go true again = again
    go false again = again

pub dues_of-append : (q : ℕ) (xs ys : List Due) → dues_of q (xs ++ ys) ≡ dues_of q xs ++ dues_of q ys
dues_of-append q xs ys = filter-append (λ i. q == due_pid i) xs ys

pub dues_of_same-without : (p : ℕ) (dues : List Due) → dues_of p (dues_without p dues) ≡ []
dues_of_same-without p [] = refl
dues_of_same-without p (i ∷ dues) = grind (arith, nat_tests, dues_of_same-without p dues)

pub dues_of_other-without : (p q : ℕ) (dues : List Due) → p ≢ q → dues_of q (dues_without p dues) ≡ dues_of q dues
dues_of_other-without p q [] h = refl
dues_of_other-without p q (i ∷ dues) h = grind (arith, nat_tests, dues_of_other-without p q dues h)

pub dues_of_task : (p : ℕ) (dues : List Due) → DuesOf p dues → dues_of p dues ≡ dues
dues_of_task p [] h = refl
dues_of_task p (i ∷ dues) h = rw (h.0, is_same p, dues_of_task p dues h.1) refl

pub dues_of_other : (p q : ℕ) (dues : List Due) → p ≢ q → DuesOf p dues → dues_of q dues ≡ []
dues_of_other p q [] d h = refl
dues_of_other p q (i ∷ dues) d h = rw (h.0, is_not_same q p (λ e. d (sym e)), dues_of_other p q dues d h.1) refl

pub noted_of-append : (q : ℕ) (xs ys : List Noted) → noted_of q (xs ++ ys) ≡ noted_of q xs ++ noted_of q ys
noted_of-append q xs ys = filter-append (λ i. q == pid_of i.item) xs ys

pub noted_of_task : (p : ℕ) (items : List Noted) → AllOf p items → noted_of p items ≡ items
noted_of_task p [] h = refl
noted_of_task p (i ∷ items) h = rw (h.0, is_same p, noted_of_task p items h.1) refl

pub noted_of_other : (p q : ℕ) (items : List Noted) → p ≢ q → AllOf p items → noted_of q items ≡ []
noted_of_other p q [] d h = refl
noted_of_other p q (i ∷ items) d h = rw (h.0, is_not_same q p (λ e. d (sym e)), noted_of_other p q items d h.1) refl

not_entry : (p q n : ℕ) (i : Item) → p ≢ q → pid_of i ≡ p → is_entry q n i ≡ false
not_entry p q n (Enter r c) d h = rw (is_not_same q r (λ e. d (sym (e ∙ h)))) refl
not_entry p q n (Done r c x b) d h = refl
not_entry p q n (Signalled r s cause) d h = refl
not_entry p q n (Halts r s) d h = refl
not_entry p q n (Exit r w m) d h = refl

pub no_entry : (p q n : ℕ) (items : List Noted) → p ≢ q → AllOf p items → entries q n (items_of items) ≡ 0
no_entry p q n [] d h = refl
no_entry p q n (i ∷ items) d h = rw (not_entry p q n i.item d h.0, no_entry p q n items d h.1) refl

pub entries-append : (q n : ℕ) (xs ys : List Noted) → entries q n (items_of (xs ++ ys)) ≡ entries q n (items_of xs) + entries q n (items_of ys)
entries-append q n xs ys = ap (entries q n) (map-append (λ (i : Noted). i.item) xs ys) ∙ ap length (filter-append (is_entry q n) (items_of xs) (items_of ys)) ∙ length-append (filter (is_entry q n) (items_of xs)) (filter (is_entry q n) (items_of ys))

-- the items of a tracee are in the trace, and those of no other process
pub traced_task : (follow : Bool) (p : ℕ) (t : Bool) → traces follow p ≡ t → (items : List Noted) → AllOf p items → traced follow items ≡ cond t items []
traced_task follow p true e [] h = refl
traced_task follow p false e [] h = refl
traced_task follow p true e (i ∷ items) h = rw (h.0, e, traced_task follow p true e items h.1) refl
traced_task follow p false e (i ∷ items) h = rw (h.0, e, traced_task follow p false e items h.1) refl

pub traced-append : (follow : Bool) (xs ys : List Noted) → traced follow (xs ++ ys) ≡ traced follow xs ++ traced follow ys
traced-append follow xs ys = filter-append (λ i. traces follow (pid_of i.item)) xs ys

pub parts-append : (o : Options) (xs ys : List Noted) → parts o (xs ++ ys) ≡ parts o xs ++ parts o ys
parts-append o [] ys = refl
parts-append o (i ∷ xs) ys = ap (λ r. part o i ++ r) (parts-append o xs ys) ∙ sym (append_assoc (part o i) (parts o xs) (parts o ys))

pub equal_if : (p q : ℕ) → (q == p) ≡ true → p ≡ q
equal_if p q h = grind (arith, nat_tests)

-- one more that is told of
pub among_last : (q p : ℕ) (ps : List ℕ) → is_among q (ps ++ p ∷ []) ≡ (is_among q ps || (q == p))
among_last q p [] = or_false (q == p)
  where
    or_false : (b : Bool) → (b || false) ≡ b
    or_false true = refl
    or_false false = refl
among_last q p (x ∷ ps) = ap (λ b. (q == x) || b) (among_last q p ps) ∙ again (q == x) (is_among q ps) (q == p)
  where
    again : (a b c : Bool) → (a || (b || c)) ≡ ((a || b) || c)
    again true b c = refl
    again false b c = refl

pub among_new : (p : ℕ) (ps : List ℕ) → is_among p (ps ++ p ∷ []) ≡ true
among_new p ps = among_last p p ps ∙ ap (λ b. is_among p ps || b) (is_same p) ∙ either (is_among p ps)
  where
    either : (b : Bool) → (b || true) ≡ true
    either true = refl
    either false = refl

pub among_old : (q p : ℕ) (ps : List ℕ) → is_among q ps ≡ true → is_among q (ps ++ p ∷ []) ≡ true
among_old q p ps h = among_last q p ps ∙ ap (λ b. b || (q == p)) h
