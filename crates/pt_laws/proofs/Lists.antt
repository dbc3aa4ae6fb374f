-- What is listed and reported of one process, in lists of all.
use Rattle.std.proofs.Common.{◌≡◌, ◌≢◌, ℕ, Bool, true, false, cond, not, List, [], ◌∷◌, ◌++◌, Option, Some, None, refl, ap, sym, ◌∙◌, arith}
use Rattle.std.specs.Prelude.{◌==◌, filter}
use Rattle.std.proofs.lemmas.Bool.Decides.{nat_tests}
use Rattle.std.proofs.lemmas.List.Elements.{filter-append}
use Rattle.lx_abi.specs.declared.status.Stop.{Stop}
use Rattle.lx_model.specs.declared.stage.Task.{Task}
use Rattle.pt_model.specs.declared.ptrace.Report.{Report}
use Rattle.pt_model.specs.Ptrace.{without, reports_of as stops_of}
use Rattle.pt_model.proofs.Maps.{is_same, is_not_same}
use Rattle.pt_laws.specs.Stops.{StandsAt, listings, reports_of, LastStands, is_end, NoEnds}

pub own_without : (p : ℕ) (queue : List Report) → reports_of p (without p queue) ≡ []
own_without p [] = refl
own_without p (r ∷ queue) = go (p == r.pid) refl (own_without p queue)
  where
    go : (b : Bool) → (p == r.pid) ≡ b → reports_of p (without p queue) ≡ [] → reports_of p (cond (not b) (r ∷ without p queue) (without p queue)) ≡ []
    go true is rest = rest
    go false is rest = ap (λ b. cond b (r ∷ reports_of p (without p queue)) (reports_of p (without p queue))) is ∙ rest

pub other_without : (p q : ℕ) (queue : List Report) → p ≢ q → reports_of q (without p queue) ≡ reports_of q queue
other_without p q [] ne = refl
other_without p q (r ∷ queue) ne = go (p == r.pid) refl (other_without p q queue ne)
  where
    go : (b : Bool) → (p == r.pid) ≡ b → reports_of q (without p queue) ≡ reports_of q queue → reports_of q (cond (not b) (r ∷ without p queue) (without p queue)) ≡ cond (q == r.pid) (r ∷ reports_of q queue) (reports_of q queue)
    go true is rest =
        let other : (q == r.pid) ≡ false = grind (arith, nat_tests, is, ne) in
        rest ∙ sym (ap (λ b. cond b (r ∷ reports_of q queue) (reports_of q queue)) other)
    go false is rest = ap (λ more. cond (q == r.pid) (r ∷ more) more) rest

pub own_stops : (p : ℕ) (s : Option Stop) → reports_of p (stops_of p s) ≡ stops_of p s
own_stops p None = refl
own_stops p (Some s) = ap (λ b. cond b (record { pid = p; stop = s } ∷ []) []) (is_same p)

pub other_stops : (p q : ℕ) (s : Option Stop) → p ≢ q → reports_of q (stops_of p s) ≡ []
other_stops p q None ne = refl
other_stops p q (Some s) ne = ap (λ b. cond b (record { pid = p; stop = s } ∷ []) []) (is_not_same q p (λ e. ne (sym e)))

pub reports-append : (p : ℕ) (xs ys : List Report) → reports_of p (xs ++ ys) ≡ reports_of p xs ++ reports_of p ys
reports-append p xs ys = filter-append (λ r. p == r.pid) xs ys

pub listings-append : (p : ℕ) (xs ys : List ℕ) → listings p (xs ++ ys) ≡ listings p xs ++ listings p ys
listings-append p xs ys = filter-append (λ q. p == q) xs ys

pub own_listing : (p : ℕ) → listings p (p ∷ []) ≡ p ∷ []
own_listing p = ap (λ b. cond b (p ∷ []) []) (is_same p)

pub other_listing : (p q : ℕ) → p ≢ q → listings q (p ∷ []) ≡ []
other_listing p q ne = ap (λ b. cond b (p ∷ []) []) (is_not_same q p (λ e. ne (sym e)))

-- who is taken off the list isn't on it, and each other is as it was
pub own_left : (p : ℕ) (xs : List ℕ) → listings p (filter (λ q. not (p == q)) xs) ≡ []
own_left p [] = refl
own_left p (x ∷ xs) = go (p == x) refl (own_left p xs)
  where
    go : (b : Bool) → (p == x) ≡ b → listings p (filter (λ q. not (p == q)) xs) ≡ [] → listings p (cond (not b) (x ∷ filter (λ q. not (p == q)) xs) (filter (λ q. not (p == q)) xs)) ≡ []
    go true is rest = rest
    go false is rest = ap (λ b. cond b (x ∷ listings p (filter (λ q. not (p == q)) xs)) (listings p (filter (λ q. not (p == q)) xs))) is ∙ rest

pub other_left : (p q : ℕ) (xs : List ℕ) → p ≢ q → listings q (filter (λ i. not (p == i)) xs) ≡ listings q xs
other_left p q [] ne = refl
other_left p q (x ∷ xs) ne = go (p == x) refl (other_left p q xs ne)
  where
    go : (b : Bool) → (p == x) ≡ b → listings q (filter (λ i. not (p == i)) xs) ≡ listings q xs → listings q (cond (not b) (x ∷ filter (λ i. not (p == i)) xs) (filter (λ i. not (p == i)) xs)) ≡ cond (q == x) (x ∷ listings q xs) (listings q xs)
    go true is rest =
        let other : (q == x) ≡ false = grind (arith, nat_tests, is, ne) in
        rest ∙ sym (ap (λ b. cond b (x ∷ listings q xs) (listings q xs)) other)
    go false is rest = ap (λ more. cond (q == x) (x ∷ more) more) rest

-- a report more, and one less

pub last_stands : {B : Type 0} (t : Task B) (xs : List Report) (r : Report) → StandsAt t r.stop → LastStands t (xs ++ r ∷ [])
last_stands t [] r h = h
last_stands t (x ∷ []) r h = h
last_stands t (x ∷ y ∷ xs) r h = last_stands t (y ∷ xs) r h

pub later_stands : {B : Type 0} (t : Task B) (r : Report) (xs : List Report) → LastStands t (r ∷ xs) → LastStands t xs
later_stands t r [] h = tt
later_stands t r (x ∷ xs) h = h

pub no_ends-append : (xs : List Report) (r : Report) → NoEnds xs → is_end r.stop ≡ false → NoEnds (xs ++ r ∷ [])
no_ends-append [] r h other = (other, tt)
no_ends-append (x ∷ xs) r h other = (h.0, no_ends-append xs r h.1 other)

pub some_last : (xs : List Report) (r : Report) → xs ++ r ∷ [] ≡ [] → ⊥
some_last [] r h = cc h
some_last (x ∷ xs) r h = cc h
