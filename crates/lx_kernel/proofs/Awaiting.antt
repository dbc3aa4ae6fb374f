-- What keeps a process that waits in wait4 waiting.
use Rattle.std.proofs.Common.{◌≡◌, ℕ, ◌<◌, Bool, true, false, cond, List, [], ◌∷◌, map, Option, Some, None, is_some, refl, ap, sym, subst, ◌∙◌, arith}
use Rattle.std.specs.Prelude.{◌==◌, ◌&&◌, ◌||◌, not, nat_lt, find, fold, if◌then◌else◌}
use Rattle.std.specs.List.{filter}
use Rattle.std.specs.Option.{unwrap_or, option_or}
use Rattle.std.specs.Ordering.{nat_cmp, eq_by_cmp}
use Rattle.std.specs.Cmp.{nat_cmp_total}
use Rattle.std.specs.FinMap as maps
use Rattle.std.specs.FinMap.{FinMap}
use Rattle.std.specs.FinMap.Entries as entry
use Rattle.std.proofs.lemmas.Bool.Decides.{nat_tests}
use Rattle.lx_abi.specs.declared.log.Call.{Call}
use Rattle.lx_abi.specs.declared.log.Cause.{Cause}
use Rattle.lx_abi.specs.declared.log.Cause.TheVariants as cause
use Rattle.lx_abi.specs.declared.signal.Signal.{Signal}
use Rattle.lx_proc.specs.declared.state.Entry.{Entry}
use Rattle.lx_proc.specs.declared.state.Shared.{Shared}
use Rattle.lx_proc.specs.declared.state.Life.{Life}
use Rattle.lx_proc.specs.declared.state.Life.TheVariants.{Alive, Dying, Zombie}
use Rattle.lx_proc.specs.declared.state.News.TheVariants.{Stopped, Continued}
use Rattle.lx_sig.specs.Pending.{settled}
use Rattle.lx_sig.specs.declared.state.Signals.{Signals}
use Rattle.lx_proc.specs.State.{Entries, changed, changed_entry, with_news, with_signals}
use Rattle.lx_proc.specs.Answers.{argument, low_argument}
use Rattle.lx_proc.specs.Families.{is_zombie}
use Rattle.lx_pcalls.specs.Calls.{would_block}
use Rattle.lx_pcalls.specs.Ends.{with_life, orphan, orphaned, released, released_entry, buried_entry, retired_by, told, told_of, wants_no_news}
use Rattle.lx_pcalls.specs.Kill.{sent_to}
use Rattle.lx_pcalls.specs.Stops.{heard_by, heard, stop_entry, settled_at, wake_entry}
use Rattle.lx_pcalls.specs.Wait4.{any_child, zombie_word, news_word, is_asked, is_meant_by, is_child, first_child, told_entry, may_wait, no_hang, wait4_would_block}
use Rattle.lx_pcalls.proofs.Finding.{skip}
use Rattle.lx_pcalls.proofs.Children.{child_there, unequal}
use Rattle.lx_kernel.specs.Waking.{told_by}
use Rattle.lx_kernel.proofs.Placed.{either, apart, get_put, get_left, other_put, other_left}

-- The keys that pass a test

module _ (test : ℕ → Bool) where
  passes_here : (P : Type 0) (k : ℕ) (ks : List ℕ) (b : Bool) → test k ≡ b → is_some (cond b (Some k) (find test ks)) ≡ true
      → ((n : ℕ) → test n ≡ true → P) → (is_some (find test ks) ≡ true → P) → P
  passes_here P k ks true holds e so later = so k holds
  passes_here P k ks false fails e so later = later e

  -- where one is found, one passes
  one_passes : (P : Type 0) → ((n : ℕ) → test n ≡ true → P) → (ks : List ℕ) → is_some (find test ks) ≡ true → P
  one_passes P so [] e = absurd (cc e)
  one_passes P so (k ∷ ks) e = passes_here P k ks (test k) refl e so (λ h. one_passes P so ks h)

  found_here : (n k : ℕ) (ks : List ℕ) (b : Bool) → test k ≡ b → cond b (Some k) (find test ks) ≡ Some n
      → (find test ks ≡ Some n → test n ≡ true) → test n ≡ true
  found_here n k ks true holds e later = ap (λ o. test (unwrap_or o k)) (sym e) ∙ holds
  found_here n k ks false fails e later = later e

  -- that which is found passes
  found_passes : (n : ℕ) (ks : List ℕ) → find test ks ≡ Some n → test n ≡ true
  found_passes n [] e = absurd (cc e)
  found_passes n (k ∷ ks) e = found_here n k ks (test k) refl e (λ h. found_passes n ks h)

module _ (test : ℕ → Bool) (n : ℕ) (holds : test n ≡ true) where
  unlike : (k : ℕ) → test k ≡ false → eq_by_cmp nat_cmp n k ≡ false
  unlike k fails = apart n k (eq_by_cmp nat_cmp n k) refl (λ e. let h : true ≡ false = sym holds ∙ ap test e ∙ fails in absurd (cc h))

  module _ {X : Type 0} where
    passes_step : (e : ℕ × X) (es : List (ℕ × X)) (b : Bool) → test e.0 ≡ b → is_some (entry.find nat_cmp n (e ∷ es)) ≡ true
        → (is_some (entry.find nat_cmp n es) ≡ true → is_some (find test (map (λ e. e.0) es)) ≡ true)
        → is_some (cond b (Some e.0) (find test (map (λ e. e.0) es))) ≡ true
    passes_step e es true passes there later = refl
    passes_step e es false fails there later = later (ap is_some (sym (skip n e es (unlike e.0 fails))) ∙ there)

    some_passes : (es : List (ℕ × X)) → is_some (entry.find nat_cmp n es) ≡ true → is_some (find test (map (λ e. e.0) es)) ≡ true
    some_passes [] there = absurd (cc there)
    some_passes (e ∷ es) there = passes_step e es (test e.0) refl there (λ h. some_passes es h)

    -- where a key passes, one is found
    some_key : (m : FinMap nat_cmp X) → is_some (maps.get m n) ≡ true → is_some (find test (maps.keys m)) ≡ true
    some_key m there = some_passes (maps.entries m) (ap is_some (sym (maps.get-entries m n)) ∙ there)

-- Changes of one entry

-- a child that q waits for stays one, and there is nothing new to tell of it
abbrev pub IsSpared : ℕ → ℕ → Option Entry → Option Entry → Type 0
IsSpared q n o o' =
    (wanted : ℕ) → (is_meant_by o q wanted None n ≡ true → is_meant_by o' q wanted None n ≡ true)
    × ((options : ℕ) → is_meant_by o' q wanted (Some options) n ≡ true → is_meant_by o q wanted (Some options) n ≡ true)

-- it is no child of q
abbrev pub IsOthers : ℕ → Option Entry → Type 0
IsOthers q None = Unit {0}
IsOthers q (Some e) = e.parent ≡ q → ⊥

spared_same : (q n : ℕ) (o o' : Option Entry) → o' ≡ o → IsSpared q n o o'
spared_same q n o o' e = λ wanted. (
  λ h. ap (λ x. is_meant_by x q wanted None n) e ∙ h,
  λ options h. ap (λ x. is_meant_by x q wanted (Some options) n) (sym e) ∙ h,
)

signals_spared : (q n : ℕ) (e : Entry) (signals : Signals) → IsSpared q n (Some e) (Some (with_signals e signals))
signals_spared q n e signals = λ wanted. (λ h. h, λ options h. h)

with_more : (a b : Bool) (o more : Option ℕ) → (a && b && is_some (option_or o None)) ≡ true → (a && b && is_some (option_or o more)) ≡ true
with_more true true None more h = absurd (cc h)
with_more true true (Some w) more h = refl
with_more true false o more h = absurd (cc h)
with_more false b o more h = absurd (cc h)

-- without news there is less to tell
silent_spared : (q n : ℕ) (e : Entry) → IsSpared q n (Some e) (Some (with_news e None))
silent_spared q n e = λ wanted. (
  λ h. h,
  λ options h. with_more (e.parent == q) (wanted == any_child || wanted == n) (zombie_word e.life) (news_word options e.news) h,
)

nothing_told : (a b : Bool) → (a && b && false) ≡ true → ⊥
nothing_told true true h = absurd (cc h)
nothing_told true false h = absurd (cc h)
nothing_told false b h = absurd (cc h)

-- of one that dies there is nothing to tell yet
dying_spared : (q n w : ℕ) (e : Entry) → IsSpared q n (Some (with_news e None)) (Some (with_life (with_news e None) (Dying w)))
dying_spared q n w e = λ wanted. (λ h. h, λ options h. absurd (nothing_told (e.parent == q) (wanted == any_child || wanted == n) h))

others_meant : (q : ℕ) (o : Option Entry) → IsOthers q o → (wanted : ℕ) (asked : Option ℕ) (n : ℕ) → is_meant_by o q wanted asked n ≡ false
others_meant q None h wanted asked n = refl
others_meant q (Some e) h wanted asked n = ap (λ b. b && (wanted == any_child || wanted == n) && is_asked asked e) (unequal e.parent q h)

never : {P : Type 0} (b : Bool) → b ≡ true → b ≡ false → P
never true h e = absurd (cc e)
never false h e = absurd (cc h)

others_spared : (q n : ℕ) (o o' : Option Entry) → IsOthers q o → IsOthers q o' → IsSpared q n o o'
others_spared q n o o' before after = λ wanted. (
  λ h. never (is_meant_by o q wanted None n) h (others_meant q o before wanted None n),
  λ options h. never (is_meant_by o' q wanted (Some options) n) h (others_meant q o' after wanted (Some options) n),
)

numbered : (a b : ℕ) → (a == b) ≡ true → a ≡ b
numbered a b h = grind (arith, nat_tests)

first_of : (a b c : Bool) → (a && b && c) ≡ true → a ≡ true
first_of true b c h = refl
first_of false b c h = h

-- a child of one is no other's
meant_others : (p q wanted : ℕ) (asked : Option ℕ) (n : ℕ) (o : Option Entry) → (q ≡ p → ⊥) → is_meant_by o p wanted asked n ≡ true → IsOthers q o
meant_others p q wanted asked n None ne h = tt
meant_others p q wanted asked n (Some e) ne h = λ is.
    ne (sym is ∙ numbered e.parent p (first_of (e.parent == p) (wanted == any_child || wanted == n) (is_asked asked e) h))

-- Changes of the table

abbrev pub AreSpared : Entries → Entries → ℕ → Type 0
AreSpared m m' q = (n : ℕ) → IsSpared q n (maps.get m n) (maps.get m' n)

pub all_same : (m : Entries) (q : ℕ) → AreSpared m m q
all_same m q = λ n wanted. (λ h. h, λ options h. h)

spared_then : (m m' m'' : Entries) (q : ℕ) → AreSpared m m' q → AreSpared m' m'' q → AreSpared m m'' q
spared_then m m' m'' q h g = λ n wanted. (λ e. (g n wanted).0 ((h n wanted).0 e), λ options e. (h n wanted).1 options ((g n wanted).1 options e))

put_spared : (m : Entries) (p q : ℕ) (e : Entry) → IsSpared q p (maps.get m p) (Some e) → AreSpared m (maps.insert m p e) q
put_spared m p q e h = λ n. either n p (IsSpared q n (maps.get m n) (maps.get (maps.insert m p e) n)) (n == p) refl
    (λ is. subst (λ k. IsSpared q k (maps.get m k) (maps.get (maps.insert m p e) k)) (sym is) (subst (λ o. IsSpared q p (maps.get m p) o) (sym (get_put m p e)) h))
    (λ ne. spared_same q n (maps.get m n) (maps.get (maps.insert m p e) n) (other_put m p n ne e))

left_spared : (m : Entries) (p q : ℕ) → IsOthers q (maps.get m p) → AreSpared m (maps.remove m p) q
left_spared m p q others = λ n. either n p (IsSpared q n (maps.get m n) (maps.get (maps.remove m p) n)) (n == p) refl
    (λ is. subst (λ k. IsSpared q k (maps.get m k) (maps.get (maps.remove m p) k)) (sym is)
    (subst (λ o. IsSpared q p (maps.get m p) o) (sym (get_left m p)) (others_spared q p (maps.get m p) None others tt)))
    (λ ne. spared_same q n (maps.get m n) (maps.get (maps.remove m p) n) (other_left m p n ne))

changed_spared : (m : Entries) (p q : ℕ) (f : Entry → Entry) (o : Option Entry) → maps.get m p ≡ o
    → ((e : Entry) → maps.get m p ≡ Some e → IsSpared q p (Some e) (Some (f e))) → AreSpared m (changed_entry m p f o) q
changed_spared m p q f None there h = all_same m q
changed_spared m p q f (Some e) there h = put_spared m p q (f e) (subst (λ o. IsSpared q p o (Some (f e))) (sym there) (h e there))

-- signals of an entry end no wait for it
pub signalled_spared : (m : Entries) (p q : ℕ) (g : Entry → Signals) → AreSpared m (changed m p (λ e. with_signals e (g e))) q
signalled_spared m p q g = changed_spared m p q (λ e. with_signals e (g e)) (maps.get m p) refl (λ e there. signals_spared q p e (g e))

-- nor does its working directory
pub directory_spared : (m : Entries) (p q : ℕ) (path : List ℕ) → AreSpared m (changed m p (λ e. record e { directory = path })) q
directory_spared m p q path = changed_spared m p q (λ e. record e { directory = path }) (maps.get m p) refl (λ e there wanted. (λ h. h, λ options h. h))

pub twice_spared : (m : Entries) (p q : ℕ) (g h : Entry → Signals)
    → AreSpared m (changed (changed m p (λ e. with_signals e (g e))) p (λ e. with_signals e (h e))) q
twice_spared m p q g h =
    let first : Entries = changed m p (λ e. with_signals e (g e)) in
    spared_then m first (changed first p (λ e. with_signals e (h e))) q (signalled_spared m p q g) (signalled_spared first p q h)

-- nor that its process is dying
module _ (m : Entries) (p q w : ℕ) where
  abbrev silenced : Entry → Entry
  silenced e = with_news e None

  abbrev died : Entry → Entry
  died e = with_life e (Dying w)

  silenced_is : (e x : Entry) → maps.get (maps.insert m p (silenced e)) p ≡ Some x → silenced e ≡ x
  silenced_is e x is = ap (λ o. unwrap_or o (silenced e)) (sym (get_put m p (silenced e)) ∙ is)

  died_at : (o : Option Entry) → maps.get m p ≡ o → AreSpared m (changed (changed_entry m p silenced o) p died) q
  died_at None there = changed_spared m p q died (maps.get m p) refl (λ e is. let none : None ≡ Some e = sym there ∙ is in absurd (cc none))
  died_at (Some e) there =
      let silent : Entries = maps.insert m p (silenced e) in
      spared_then m silent (changed silent p died) q
      (put_spared m p q (silenced e) (subst (λ o. IsSpared q p o (Some (silenced e))) (sym there) (silent_spared q p e)))
      (changed_spared silent p q died (maps.get silent p) refl (λ x is. subst (λ y. IsSpared q p (Some y) (Some (died y))) (silenced_is e x is) (dying_spared q p w e)))

  pub died_spared : AreSpared m (changed (changed m p silenced) p died) q
  died_spared = died_at (maps.get m p) refl

-- nor what a kill sends to another
sent_spared : (q n p : ℕ) (signal : Signal) (e : Entry) (l : Life) → IsSpared q n (Some e) (Some (sent_to e l p signal))
sent_spared q n p signal e Alive = signals_spared q n e (sent_to e Alive p signal).signals
sent_spared q n p signal e (Dying w) = λ wanted. (λ h. h, λ options h. h)
sent_spared q n p signal e (Zombie w) = λ wanted. (λ h. h, λ options h. h)

pub killed_spared : (m : Entries) (p target q : ℕ) (signal : Signal) → AreSpared m (changed m target (λ e. sent_to e e.life p signal)) q
killed_spared m p target q signal = changed_spared m target q (λ e. sent_to e e.life p signal) (maps.get m target) refl (λ e there. sent_spared q target p signal e e.life)

-- a child that one was told of was no other's
reaped_at : (m : Entries) (n q : ℕ) (o : Option Entry) → maps.get m n ≡ o → IsOthers q o → AreSpared m (told_entry m n o) q
reaped_at m n q None there others = all_same m q
reaped_at m n q (Some e) there others = go (is_zombie e.life)
  where
    go : (b : Bool) → AreSpared m (if b then maps.remove m n else changed m n (λ e. with_news e None)) q
    go true = left_spared m n q (subst (IsOthers q) (sym there) others)
    go false = changed_spared m n q (λ e. with_news e None) (maps.get m n) refl (λ e is. silent_spared q n e)

pub reaped_spared : (m : Entries) (p q wanted options n : ℕ) → (q ≡ p → ⊥) → first_child m p wanted (Some options) ≡ Some n → AreSpared m (told_entry m n (maps.get m n)) q
unfolding first_child is_child
reaped_spared m p q wanted options n ne found =
    let asked = Some options in
    reaped_at m n q (maps.get m n) refl (meant_others p q wanted asked n (maps.get m n) ne (found_passes (is_child m p wanted asked) n (maps.keys m) found))

-- nor is one that is born
pub born_spared : (m : Entries) (p child q : ℕ) (e : Entry) → (q ≡ p → ⊥) → e.parent ≡ p → maps.get m child ≡ None → AreSpared m (maps.insert m child e) q
born_spared m p child q e ne parent vacant =
    put_spared m child q e (subst (λ o. IsSpared q child o (Some e)) (sym vacant) (others_spared q child None (Some e) tt (λ is. ne (sym is ∙ parent))))

-- Burial

-- a process in an entry's place
others_put : (m : Entries) (n p q : ℕ) (e : Entry) → (p ≡ n → IsOthers q (Some e)) → IsOthers q (maps.get m p) → IsOthers q (maps.get (maps.insert m n e) p)
others_put m n p q e here h = either p n (IsOthers q (maps.get (maps.insert m n e) p)) (p == n) refl
    (λ is. subst (λ k. IsOthers q (maps.get (maps.insert m n e) k)) (sym is) (subst (IsOthers q) (sym (get_put m n e)) (here is)))
    (λ ne. subst (IsOthers q) (sym (other_put m n p ne e)) h)

none_others : (q : ℕ) (b : Bool) (o : Option Entry) → IsOthers q o → IsOthers q (cond b None o)
none_others q true o h = tt
none_others q false o h = h

others_left : (m : Entries) (n p q : ℕ) → IsOthers q (maps.get m p) → IsOthers q (maps.get (maps.remove m n) p)
others_left m n p q h = subst (IsOthers q) (sym (maps.get-remove nat_cmp_total m n p)) (none_others q (eq_by_cmp nat_cmp p n) (maps.get m p) h)

others_told : (m : Entries) (n p q w : ℕ) (o : Option Entry) → maps.get m n ≡ o → IsOthers q (maps.get m p) → IsOthers q (maps.get (changed_entry m n (λ e. told e p w) o) p)
others_told m n p q w None there h = h
others_told m n p q w (Some e) there h = others_put m n p q (told e p w) (λ is. subst (IsOthers q) (ap (maps.get m) is ∙ there) h) h

module _ (p q : ℕ) (ne : q ≡ p → ⊥) (up : 0 < q) where
  nobodys : (e : Entry) → IsOthers q (Some (record e { parent = 0 }))
  nobodys e = λ is. absurd (omega (arith, is, up))

  -- p's child gets parent 0, or leaves the table
  abbrev Leaves : Entries → Entries → Type 0
  Leaves m m' = AreSpared m m' q × (IsOthers q (maps.get m p) → IsOthers q (maps.get m' p))

  orphan_leaves : (m : Entries) (n : ℕ) (e : Entry) (b : Bool) → IsOthers q (maps.get m n) → Leaves m (orphan m n e b)
  orphan_leaves m n e true others = (left_spared m n q others, others_left m n p q)
  orphan_leaves m n e false others = (
    put_spared m n q (record e { parent = 0 }) (others_spared q n (maps.get m n) (Some (record e { parent = 0 })) others (nobodys e)),
    others_put m n p q (record e { parent = 0 }) (λ is. nobodys e),
  )

  mine_leaves : (m : Entries) (n : ℕ) (e : Entry) (b : Bool) → (e.parent == p) ≡ b → maps.get m n ≡ Some e → Leaves m (if b then orphan m n e (is_zombie e.life) else m)
  mine_leaves m n e true mine there =
      orphan_leaves m n e (is_zombie e.life) (subst (IsOthers q) (sym there) (λ is. ne (sym is ∙ numbered e.parent p mine)))
  mine_leaves m n e false other there = (all_same m q, λ h. h)

  entry_leaves : (m : Entries) (n : ℕ) (o : Option Entry) → maps.get m n ≡ o → Leaves m (released_entry m p n o)
  entry_leaves m n None there = (all_same m q, λ h. h)
  entry_leaves m n (Some e) there = mine_leaves m n e (e.parent == p) refl there

  released_leaves : (m : Entries) (n : ℕ) → Leaves m (released p m n)
  unfolding released
  released_leaves m n = entry_leaves m n (maps.get m n) refl

  each_leaves : (m : Entries) (ns : List ℕ) → Leaves m (fold (released p) m ns)
  each_leaves m [] = (all_same m q, λ h. h)
  each_leaves m (n ∷ ns) =
      let one = released_leaves m n in
      let more = each_leaves (released p m n) ns in
      (spared_then m (released p m n) (fold (released p) (released p m n) ns) q one.0 more.0, λ h. more.1 (one.1 h))

  orphaned_leaves : (m : Entries) → Leaves m (orphaned m p)
  unfolding orphaned
  orphaned_leaves m = each_leaves m (filter (nat_lt 0) (maps.keys m))

  zombie_spared : (m : Entries) (w : ℕ) (o : Option Entry) → maps.get m p ≡ o → IsOthers q (maps.get m p) → AreSpared m (changed_entry m p (λ e. with_life e (Zombie w)) o) q
  zombie_spared m w o there h = changed_spared m p q (λ e. with_life e (Zombie w)) o there
      (λ e is. let mine = subst (IsOthers q) is h in others_spared q p (Some e) (Some (with_life e (Zombie w))) mine mine)

  told_spared : (m : Entries) (w parent : ℕ) (b : Bool) → IsOthers q (maps.get m p)
      → AreSpared m (if b then maps.remove m p else changed (changed m parent (λ e. told e p w)) p (λ e. with_life e (Zombie w))) q
  told_spared m w parent true h = left_spared m p q h
  told_spared m w parent false h =
      let news : Entries = changed m parent (λ e. told e p w) in
      spared_then m news (changed news p (λ e. with_life e (Zombie w))) q
      (changed_spared m parent q (λ e. told e p w) (maps.get m parent) refl (λ e there. signals_spared q parent e (told e p w).signals))
      (zombie_spared news w (maps.get news p) refl (others_told m parent p q w (maps.get m parent) refl h))

  retired_spared : (m : Entries) (w parent : ℕ) (o : Option Entry) → IsOthers q (maps.get m p) → AreSpared m (retired_by m p w parent o) q
  retired_spared m w parent None h = left_spared m p q h
  retired_spared m w parent (Some e) h = told_spared m w parent (wants_no_news e) h

  -- a burial ends a wait of the parent alone
  pub buried_spared : (m : Entries) (w : ℕ) (o : Option Entry) → maps.get m p ≡ o → (q ≡ told_by p o → ⊥) → AreSpared m (buried_entry m p w o) q
  buried_spared m w None there other = all_same m q
  buried_spared m w (Some e) there other =
      let left = orphaned_leaves m in
      spared_then m (orphaned m p) (buried_entry m p w (Some e)) q left.0
      (retired_spared (orphaned m p) w e.parent (maps.get (orphaned m p) e.parent) (left.1 (subst (IsOthers q) (sym there) (λ is. other (sym is)))))

-- Stops and wakings

-- a process in the place of another's child, and of the same parent
mine_at : (m : Entries) (p q : ℕ) (f : Entry → Entry) → ((e : Entry) → (f e).parent ≡ e.parent) → (o : Option Entry) → maps.get m p ≡ o → IsOthers q o
    → AreSpared m (changed_entry m p f o) q × IsOthers q (maps.get (changed_entry m p f o) p)
mine_at m p q f kept None there h = (all_same m q, subst (IsOthers q) (sym there) h)
mine_at m p q f kept (Some e) there h =
    let after : IsOthers q (Some (f e)) = λ is. h (sym (kept e) ∙ is) in (
      put_spared m p q (f e) (subst (λ o. IsSpared q p o (Some (f e))) (sym there) (others_spared q p (Some e) (Some (f e)) h after)),
      subst (IsOthers q) (sym (get_put m p (f e))) after,
    )

mine_spared : (m : Entries) (p q : ℕ) (f : Entry → Entry) → ((e : Entry) → (f e).parent ≡ e.parent) → IsOthers q (maps.get m p)
    → AreSpared m (changed m p f) q × IsOthers q (maps.get (changed m p f) p)
mine_spared m p q f kept h = mine_at m p q f kept (maps.get m p) refl h

heard_spared : (m : Entries) (parent q : ℕ) (c : Cause) (o : Option Entry) → AreSpared m (heard_by m parent c o) q
heard_spared m parent q c None = all_same m q
heard_spared m parent q c (Some e) = go (wants_no_news e)
  where
    go : (b : Bool) → AreSpared m (if b then m else changed m parent (λ e. told_of e c)) q
    go true = all_same m q
    go false = changed_spared m parent q (λ e. told_of e c) (maps.get m parent) refl (λ e there. signals_spared q parent e (told_of e c).signals)

told_others : (p q : ℕ) (o : Option Entry) → (q ≡ told_by p o → ⊥) → IsOthers q o
told_others p q None h = tt
told_others p q (Some e) h = λ is. h (sym is)

-- a stop ends a wait of the parent alone
pub stopped_spared : (m : Entries) (p q : ℕ) (signal : Signal) (o : Option Entry) → maps.get m p ≡ o → (q ≡ told_by p o → ⊥) → AreSpared m (stop_entry m p signal o) q
stopped_spared m p q signal None there other = all_same m q
stopped_spared m p q signal (Some e) there other =
    let news = λ (e : Entry). with_news e (Some (Stopped signal)) in
    let left : Entries = changed m p news in
    let c = cause.Stopped p signal.number in
    spared_then m left (heard left e.parent c) q
    (mine_spared m p q news (λ e. refl) (subst (IsOthers q) (sym there) (told_others p q (Some e) other))).0
    (heard_spared left e.parent q c (maps.get left e.parent))

-- so does a waking
pub woken_spared : (m : Entries) (p q : ℕ) (o : Option Entry) → maps.get m p ≡ o → (q ≡ told_by p o → ⊥) → AreSpared m (wake_entry m p o) q
woken_spared m p q None there other = all_same m q
woken_spared m p q (Some e) there other =
    let news = λ (e : Entry). with_news e (Some Continued) in
    let first : Entries = settled_at m p in
    let left : Entries = changed first p news in
    let c = cause.Continued p in
    let settles = mine_spared m p q (λ e. with_signals e (settled e.signals)) (λ e. refl) (subst (IsOthers q) (sym there) (told_others p q (Some e) other)) in
    spared_then m first (heard left e.parent c) q settles.0
    (spared_then first left (heard left e.parent c) q (mine_spared first p q news (λ e. refl) settles.1).0
    (heard_spared left e.parent q c (maps.get left e.parent)))

-- Waits

not_kept : (a b : Bool) → (b ≡ true → a ≡ true) → not a ≡ true → not b ≡ true
not_kept true b h e = absurd (cc e)
not_kept false true h e = absurd (cc (h refl))
not_kept false false h e = refl

join : (a b : Bool) → a ≡ true → b ≡ true → (a && b) ≡ true
join true b e h = h
join false b e h = absurd (cc e)

waits_kept : (may hangs has none has' none' : Bool) → (has ≡ true → has' ≡ true) → (none' ≡ true → none ≡ true)
    → (may && hangs && has && not none) ≡ true → (may && hangs && has' && not none') ≡ true
waits_kept false hangs has none has' none' h g e = absurd (cc e)
waits_kept true false has none has' none' h g e = absurd (cc e)
waits_kept true true false none has' none' h g e = absurd (cc e)
waits_kept true true true none has' none' h g e = join has' (not none') (h refl) (not_kept none none' g e)

if_kept : (b x y : Bool) → (x ≡ true → y ≡ true) → (if b then x else false) ≡ true → (if b then y else false) ≡ true
if_kept true x y h e = h e
if_kept false x y h e = e

module _ (m m' : Entries) (q wanted : ℕ) (asked : Option ℕ) (kept : (n : ℕ) → is_meant_by (maps.get m n) q wanted asked n ≡ true → is_meant_by (maps.get m' n) q wanted asked n ≡ true) where
  -- a child that is found stays one
  child_kept : is_some (first_child m q wanted asked) ≡ true → is_some (first_child m' q wanted asked) ≡ true
  unfolding first_child is_child
  child_kept e = one_passes (is_child m q wanted asked) (is_some (first_child m' q wanted asked) ≡ true)
      (λ n h. some_key (is_child m' q wanted asked) n (kept n h) m' (child_there m' q wanted asked n (kept n h)))
      (maps.keys m) e

-- who waits in wait4 waits on where its children are spared
pub awaits_on : (s s' : Shared) (q : ℕ) → AreSpared s.entries s'.entries q → (call : Call) → would_block s q call ≡ true → would_block s' q call ≡ true
unfolding would_block wait4_would_block
awaits_on s s' q spared call =
    let wanted = low_argument call 0 in
    let options = argument call 2 in
    let has = λ (t : Shared). is_some (first_child t.entries q wanted None) in
    let none = λ (t : Shared). is_some (first_child t.entries q wanted (Some options)) in
    if_kept (call.number == 260) (wait4_would_block s q call) (wait4_would_block s' q call)
    (waits_kept (may_wait call) (not (no_hang call)) (has s) (none s) (has s') (none s')
    (child_kept s.entries s'.entries q wanted None (λ n h. (spared n wanted).0 h))
    (child_kept s'.entries s.entries q wanted (Some options) (λ n h. (spared n wanted).1 options h)))
