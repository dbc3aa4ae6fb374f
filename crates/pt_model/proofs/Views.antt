-- What one more item does to a view.
use Rattle.std.proofs.Common.{◌≡◌, ◌≢◌, ⊎_elim, ℕ, Bool, true, false, cond, not, ◌&&◌, ◌||◌, List, [], ◌∷◌, ◌++◌, Option, Some, None, refl, sym, ap, ◌∙◌}
use Rattle.std.specs.Prelude.{◌==◌}
use Rattle.lx_abi.specs.declared.log.Item.{Item}
use Rattle.lx_abi.specs.declared.log.Item.TheVariants.{Enter, Done, Taken as Signalled, Stopped as Halts, Exit}
use Rattle.lx_abi.specs.declared.log.Mode.{Mode}
use Rattle.lx_abi.specs.Log.{Noted, pid_of}
use Rattle.lx_model.specs.Kernel.{put}
use Rattle.pt_model.specs.Ptrace.{is_there}
use Rattle.pt_model.specs.View.{first_of, has_exit, is_exit, may_lose, is_kill, kills, view, is_killed, has_kill}
use Rattle.pt_model.specs.Laws.{NoKillNoLoss}
use Rattle.pt_model.proofs.Phases.{noted_of, AllOf, exit_of}
use Rattle.pt_model.proofs.Maps.{same_or_not, is_same, is_not_same, put_here, put_apart, items_without}

abbrev first_or : Option Noted → Option Noted → Option Noted
first_or (Some i) o = Some i
first_or None o = o

first_of-append : (q : ℕ) (xs ys : List Noted) → first_of q (xs ++ ys) ≡ first_or (first_of q xs) (first_of q ys)
first_of-append q [] ys = refl
first_of-append q (i ∷ xs) ys = go (q == pid_of i.item) (first_of-append q xs ys)
  where
    go : (b : Bool) → first_of q (xs ++ ys) ≡ first_or (first_of q xs) (first_of q ys) → cond b (Some i) (first_of q (xs ++ ys)) ≡ first_or (cond b (Some i) (first_of q xs)) (first_of q ys)
    go true again = refl
    go false again = again

first_of_other : (p q : ℕ) (items : List Noted) → p ≢ q → AllOf p items → first_of q items ≡ None
first_of_other p q [] d h = refl
first_of_other p q (i ∷ items) d h = rw (h.0, is_not_same q p (λ e. d (sym e)), first_of_other p q items d h.1) refl

or_none : (o : Option Noted) → first_or o None ≡ o
or_none (Some i) = refl
or_none None = refl

-- items of a process that loses nothing
pub view-append : (lost : ℕ → Bool) (p : ℕ) → lost p ≡ false → (log items : List Noted) → AllOf p items → view lost (log ++ items) ≡ view lost log ++ items
view-append lost p l [] [] h = refl
view-append lost p l [] (i ∷ items) h = rw (h.0, l) (ap (λ r. i ∷ r) (view-append lost p l [] items h.1))
view-append lost p l (i ∷ log) items h = ⊎_elim
    (λ (e : p ≡ pid_of i.item). rw (← e, l) (ap (λ r. i ∷ r) (view-append lost p l log items h)))
    (λ (d : p ≢ pid_of i.item). rw (first_of-append (pid_of i.item) log items, first_of_other p (pid_of i.item) items d h, or_none, view-append lost p l log items h) (go (lost (pid_of i.item) && kills (first_of (pid_of i.item) log))))
    (same_or_not p (pid_of i.item))
  where
    go : (b : Bool) → cond b (view lost log ++ items) (i ∷ (view lost log ++ items)) ≡ cond b (view lost log) (i ∷ view lost log) ++ items
    go true = refl
    go false = refl

-- the items without the last one of p
abbrev pub drop_last : ℕ → List Noted → List Noted
drop_last p [] = []
drop_last p (i ∷ items) = cond ((p == pid_of i.item) && not (is_there (first_of p items))) items (i ∷ drop_last p items)

-- a process that loses nothing is seen as often
first_of-view : (lost : ℕ → Bool) (p : ℕ) → lost p ≡ false → (log : List Noted) → first_of p (view lost log) ≡ first_of p log
first_of-view lost p l [] = refl
first_of-view lost p l (i ∷ log) = ⊎_elim
    (λ (e : p ≡ pid_of i.item). let here : (p == pid_of i.item) ≡ true = rw (← e) (is_same p) in let kept : lost (pid_of i.item) ≡ false = ap lost (sym e) ∙ l in rw (kept, here) refl)
    (λ (d : p ≢ pid_of i.item). go (lost (pid_of i.item) && kills (first_of (pid_of i.item) log)) (is_not_same p (pid_of i.item) d) (first_of-view lost p l log))
    (same_or_not p (pid_of i.item))
  where
    go : (b : Bool) → (p == pid_of i.item) ≡ false → first_of p (view lost log) ≡ first_of p log → first_of p (cond b (view lost log) (i ∷ view lost log)) ≡ cond (p == pid_of i.item) (Some i) (first_of p log)
    go true f again = rw f again
    go false f again = rw f again

drop_none : (p : ℕ) (items : List Noted) → first_of p items ≡ None → drop_last p items ≡ items
drop_none p [] h = refl
drop_none p (i ∷ items) h = go (p == pid_of i.item) h (drop_none p items)
  where
    go : (b : Bool) → cond b (Some i) (first_of p items) ≡ None → (first_of p items ≡ None → drop_last p items ≡ items) → cond (b && not (is_there (first_of p items))) items (i ∷ drop_last p items) ≡ i ∷ items
    go true f again = absurd (cc f)
    go false f again = ap (λ r. i ∷ r) (again f)

or_left : (a b : Bool) → (a || b) ≡ false → a ≡ false
or_left true b h = absurd (cc h)
or_left false b h = refl

or_right : (a b : Bool) → (a || b) ≡ false → b ≡ false
or_right true b h = absurd (cc h)
or_right false b h = h

not_kill : (p : ℕ) (i : Item) → (p == pid_of i) ≡ true → is_exit p i ≡ false → is_kill i ≡ false
not_kill p (Enter q c) e h = refl
not_kill p (Done q c x b) e h = refl
not_kill p (Signalled q n cause) e h = refl
not_kill p (Halts q n) e h = refl
not_kill p (Exit q w m) e h = absurd (cc (e, h))

no_kill : (p : ℕ) (log : List Noted) → has_exit p log ≡ false → kills (first_of p log) ≡ false
no_kill p [] h = refl
no_kill p (i ∷ log) h = go (p == pid_of i.item) refl (or_left _ _ h) (no_kill p log (or_right (is_exit p i.item) _ h))
  where
    go : (b : Bool) → (p == pid_of i.item) ≡ b → is_exit p i.item ≡ false → kills (first_of p log) ≡ false → kills (cond b (Some i) (first_of p log)) ≡ false
    go true e f again = not_kill p i.item e f
    go false e f again = again

kill_here : (p : ℕ) (m : Mode) (i : Noted) (v : List Noted) → may_lose m ≡ true → (o : Option Noted) → kills o ≡ false → (o ≡ None → drop_last p v ≡ v) → cond (true && kills (first_or o (Some (exit_of p 9 m)))) (drop_last p v ++ exit_of p 9 m ∷ []) (i ∷ (drop_last p v ++ exit_of p 9 m ∷ [])) ≡ cond (true && not (is_there o)) v (i ∷ drop_last p v) ++ exit_of p 9 m ∷ []
kill_here p m i v may None h g = rw (may, g refl) refl
kill_here p m i v may (Some j) h g = rw h refl

pub view_killed : (lost : ℕ → Bool) (p : ℕ) (m : Mode) → may_lose m ≡ true → lost p ≡ false → (log : List Noted) → has_exit p log ≡ false → view (put lost p true) (log ++ exit_of p 9 m ∷ []) ≡ drop_last p (view lost log) ++ exit_of p 9 m ∷ []
view_killed lost p m may l [] h = rw (put_here lost p true) refl
view_killed lost p m may l (i ∷ log) h = ⊎_elim
    (λ (e : p ≡ pid_of i.item). same_case e (view_killed lost p m may l log (or_right (is_exit p i.item) _ h)))
    (λ (d : p ≢ pid_of i.item). rw (put_apart lost p true (pid_of i.item) d, first_of-append (pid_of i.item) log (exit_of p 9 m ∷ []), first_of_other p (pid_of i.item) (exit_of p 9 m ∷ []) d (refl, tt), or_none, view_killed lost p m may l log (or_right (is_exit p i.item) _ h)) (other_case d (lost (pid_of i.item) && kills (first_of (pid_of i.item) log))))
    (same_or_not p (pid_of i.item))
  where
    same_case : (e : p ≡ pid_of i.item) → view (put lost p true) (log ++ exit_of p 9 m ∷ []) ≡ drop_last p (view lost log) ++ exit_of p 9 m ∷ [] → cond (put lost p true (pid_of i.item) && kills (first_of (pid_of i.item) (log ++ exit_of p 9 m ∷ []))) (view (put lost p true) (log ++ exit_of p 9 m ∷ [])) (i ∷ view (put lost p true) (log ++ exit_of p 9 m ∷ [])) ≡ drop_last p (cond (lost (pid_of i.item) && kills (first_of (pid_of i.item) log)) (view lost log) (i ∷ view lost log)) ++ exit_of p 9 m ∷ []
    same_case e again =
        let here : (p == pid_of i.item) ≡ true = rw (← e) (is_same p) in
        let set : put lost p true (pid_of i.item) ≡ true = rw here refl in
        let seen : first_of (pid_of i.item) (log ++ exit_of p 9 m ∷ []) ≡ first_or (first_of p log) (Some (exit_of p 9 m)) = rw (← e, first_of-append p log (exit_of p 9 m ∷ []), is_same p) refl in
        let kept : lost (pid_of i.item) ≡ false = ap lost (sym e) ∙ l in
        rw (set, seen, kept, again, here, first_of-view lost p l log) (kill_here p m i (view lost log) may (first_of p log) (no_kill p log (or_right (is_exit p i.item) _ h)) (λ f. drop_none p (view lost log) (first_of-view lost p l log ∙ f)))

    other_case : (d : p ≢ pid_of i.item) (b : Bool) → cond b (drop_last p (view lost log) ++ exit_of p 9 m ∷ []) (i ∷ (drop_last p (view lost log) ++ exit_of p 9 m ∷ [])) ≡ drop_last p (cond b (view lost log) (i ∷ view lost log)) ++ exit_of p 9 m ∷ []
    other_case d true = refl
    other_case d false = rw (is_not_same p (pid_of i.item) d) refl

none_of : (p : ℕ) (items : List Noted) → noted_of p items ≡ [] → first_of p items ≡ None
none_of p [] h = refl
none_of p (i ∷ items) h = go (p == pid_of i.item) h (none_of p items)
  where
    go : (b : Bool) → cond b (i ∷ noted_of p items) (noted_of p items) ≡ [] → (noted_of p items ≡ [] → first_of p items ≡ None) → cond b (Some i) (first_of p items) ≡ None
    go true f again = absurd (cc f)
    go false f again = again f

pub without_none : (p : ℕ) (items : List Noted) → noted_of p items ≡ [] → items_without p items ≡ items
without_none p [] h = refl
without_none p (i ∷ items) h = go (p == pid_of i.item) h (without_none p items)
  where
    go : (b : Bool) → cond b (i ∷ noted_of p items) (noted_of p items) ≡ [] → (noted_of p items ≡ [] → items_without p items ≡ items) → cond (not b) (i ∷ items_without p items) (items_without p items) ≡ i ∷ items
    go true f again = absurd (cc f)
    go false f again = ap (λ r. i ∷ r) (again f)

is_there_one : (p : ℕ) (x : Noted) (items : List Noted) → noted_of p items ≡ x ∷ [] → is_there (first_of p items) ≡ true
is_there_one p x [] h = absurd (cc h)
is_there_one p x (i ∷ items) h = go (p == pid_of i.item) h (is_there_one p x items)
  where
    go : (b : Bool) → cond b (i ∷ noted_of p items) (noted_of p items) ≡ x ∷ [] → (noted_of p items ≡ x ∷ [] → is_there (first_of p items) ≡ true) → is_there (cond b (Some i) (first_of p items)) ≡ true
    go true f again = refl
    go false f again = again f

there_behind : (a b : Option Noted) → is_there b ≡ true → is_there (first_or a b) ≡ true
there_behind (Some i) b h = refl
there_behind None b h = h

drop_only : (p : ℕ) (x : Noted) (items : List Noted) → noted_of p items ≡ x ∷ [] → drop_last p items ≡ items_without p items
drop_only p x [] h = refl
drop_only p x (i ∷ items) h = go (p == pid_of i.item) h (drop_only p x items)
  where
    go : (b : Bool) → cond b (i ∷ noted_of p items) (noted_of p items) ≡ x ∷ [] → (noted_of p items ≡ x ∷ [] → drop_last p items ≡ items_without p items) → cond (b && not (is_there (first_of p items))) items (i ∷ drop_last p items) ≡ cond (not b) (i ∷ items_without p items) (items_without p items)
    go true f again = let none : noted_of p items ≡ [] = cc f in rw (none_of p items none, without_none p items none) refl
    go false f again = ap (λ r. i ∷ r) (again f)

-- what is behind has p's last item
pub drop_last_behind : (p : ℕ) (x : Noted) (xs ys : List Noted) → noted_of p ys ≡ x ∷ [] → drop_last p (xs ++ ys) ≡ xs ++ items_without p ys
drop_last_behind p x [] ys h = drop_only p x ys h
drop_last_behind p x (i ∷ xs) ys h = rw (first_of-append p xs ys, there_behind (first_of p xs) (first_of p ys) (is_there_one p x ys h), drop_last_behind p x xs ys h) (go (p == pid_of i.item))
  where
    go : (b : Bool) → cond (b && false) (xs ++ ys) (i ∷ (xs ++ items_without p ys)) ≡ i ∷ (xs ++ items_without p ys)
    go true = refl
    go false = refl

pub has_exit-append : (p : ℕ) (xs ys : List Noted) → has_exit p (xs ++ ys) ≡ (has_exit p xs || has_exit p ys)
has_exit-append p [] ys = refl
has_exit-append p (i ∷ xs) ys = go (is_exit p i.item) (has_exit-append p xs ys)
  where
    go : (b : Bool) → has_exit p (xs ++ ys) ≡ (has_exit p xs || has_exit p ys) → (b || has_exit p (xs ++ ys)) ≡ ((b || has_exit p xs) || has_exit p ys)
    go true again = refl
    go false again = again

not_exit : (p q : ℕ) (i : Item) → p ≢ q → pid_of i ≡ p → is_exit q i ≡ false
not_exit p q (Enter r c) d h = refl
not_exit p q (Done r c x b) d h = refl
not_exit p q (Signalled r n cause) d h = refl
not_exit p q (Halts r n) d h = refl
not_exit p q (Exit r w m) d h = is_not_same q r (λ e. d (sym (e ∙ h)))

pub no_exit_other : (p q : ℕ) (items : List Noted) → p ≢ q → AllOf p items → has_exit q items ≡ false
no_exit_other p q [] d h = refl
no_exit_other p q (i ∷ items) d h = rw (not_exit p q i.item d h.0, no_exit_other p q items d h.1) refl

-- without an end by SIGKILL nothing may be lost

left_or : (a b : Bool) → (a || b) ≡ false → (a ≡ false) × (b ≡ false)
left_or true b h = absurd (cc h)
left_or false b h = (refl, h)

spared : (i : Item) → is_killed i ≡ false → is_kill i ≡ false
spared (Enter p call) h = refl
spared (Done p call result replaced) h = refl
spared (Signalled p signal cause) h = refl
spared (Halts p signal) h = refl
spared (Exit p word left) h = rw h refl

no_kills : (p : ℕ) (log : List Noted) → has_kill log ≡ false → kills (first_of p log) ≡ false
no_kills p [] h = refl
no_kills p (n ∷ log) h = go (p == pid_of n.item) (no_kills p log (left_or (is_killed n.item) (has_kill log) h).1)
  where
    go : (b : Bool) → kills (first_of p log) ≡ false → kills (cond b (Some n) (first_of p log)) ≡ false
    go true again = spared n.item (left_or (is_killed n.item) (has_kill log) h).0
    go false again = again

pub no_kill_no_loss : NoKillNoLoss
no_kill_no_loss lost [] h = refl
no_kill_no_loss lost (n ∷ log) h =
    let rest : has_kill log ≡ false = (left_or (is_killed n.item) (has_kill log) h).1 in
    rw (no_kills (pid_of n.item) log rest, never (lost (pid_of n.item))) (ap (λ l. n ∷ l) (no_kill_no_loss lost log rest))
  where
    never : (b : Bool) → (b && false) ≡ false
    never true = refl
    never false = refl
