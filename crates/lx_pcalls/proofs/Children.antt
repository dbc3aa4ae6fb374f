-- The children of a process in the table.
use Rattle.std.proofs.Common.{◌≡◌, ℕ, ◌+◌, ◌*◌, ◌<◌, ◌≤◌, ◌&&◌, ◌||◌, Bool, true, false, cond, Option, Some, None, is_some, refl, ap, sym, subst, ◌∙◌, arith}
use Rattle.std.proofs.lemmas.Bool.Decides.{nat_tests}
use Rattle.std.specs.Prelude.{◌==◌, nat_le, nat_lt, not}
use Rattle.std.specs.Option.{option_or}
use Rattle.std.specs.FinMap as maps
use Rattle.lx_sig.specs.Frames.{has_bit}
use Rattle.lx_proc.specs.declared.state.Entry.{Entry}
use Rattle.lx_proc.specs.declared.state.Life.{Life}
use Rattle.lx_proc.specs.declared.state.Life.TheVariants.{Alive, Dying, Zombie}
use Rattle.lx_proc.specs.declared.state.News.{News}
use Rattle.lx_proc.specs.declared.state.News.TheVariants.{Stopped, Continued}
use Rattle.lx_proc.specs.State.{Entries}
use Rattle.lx_proc.specs.Pairs.{IsNextThat}
use Rattle.lx_proc.specs.Families.{is_zombie, has_child}
use Rattle.lx_proc.specs.Families.{is_child as is_child_in}
use Rattle.lx_pcalls.specs.Wait4.{any_child, zombie_word, news_word, is_of_zombies, is_asked, is_meant_by, is_child, first_child}
use Rattle.lx_pcalls.proofs.Finding.{none_found, found, first_of_all}

meant_there : (o : Option Entry) (p wanted : ℕ) (asked : Option ℕ) (n : ℕ) → is_meant_by o p wanted asked n ≡ true → is_some o ≡ true
meant_there None p wanted asked n h = absurd (cc h)
meant_there (Some e) p wanted asked n h = refl

-- a child is in it
pub child_there : (entries : Entries) (p wanted : ℕ) (asked : Option ℕ) (n : ℕ) → is_child entries p wanted asked n ≡ true → is_some (maps.get entries n) ≡ true
unfolding is_child
child_there entries p wanted asked n h = meant_there (maps.get entries n) p wanted asked n h

turned : (a b : Bool) → a && b ≡ b && a
turned true true = refl
turned true false = refl
turned false true = refl
turned false false = refl

and_true : (b : Bool) → b && true ≡ b
and_true true = refl
and_true false = refl

pub unequal : (n k : ℕ) → (n ≡ k → ⊥) → (n == k) ≡ false
unequal n k h = grind (arith, nat_tests)

any_is : (any_child == any_child) ≡ true
any_is = grind (arith, nat_tests)

-- Those that are listed

-- where those that are asked for are all children, or all zombies
abbrev pub AreListed : Option ℕ → Bool → Type 0
AreListed asked zombies = (e : Entry) → (not zombies || is_zombie e.life) ≡ is_asked asked e

pub all_listed : AreListed None false
all_listed e = refl

zombie_is : (life : Life) → is_zombie life ≡ is_some (zombie_word life)
zombie_is Alive = refl
zombie_is (Dying w) = refl
zombie_is (Zombie w) = refl

clear : (a b : Bool) → (not a && not b) ≡ true → (a ≡ false) × (b ≡ false)
clear true b h = absurd (cc h)
clear false true h = absurd (cc h)
clear false false h = (refl, refl)

no_news : (options : ℕ) (news : Option News) → has_bit options 1 ≡ false → has_bit options 3 ≡ false → None ≡ news_word options news
no_news options None u c = refl
no_news options (Some (Stopped signal)) u c = sym (ap (λ b. cond b (Some (signal.number * 256 + 0x7f)) None) u)
no_news options (Some Continued) u c = sym (ap (λ b. cond b (Some 0xffff) None) c)

or_none : (o : Option ℕ) → is_some o ≡ is_some (option_or o None)
or_none None = refl
or_none (Some w) = refl

pub zombies_listed : (options : ℕ) → is_of_zombies options ≡ true → AreListed (Some options) true
zombies_listed options h e =
    let bits = clear (has_bit options 1) (has_bit options 3) h in
    zombie_is e.life ∙ or_none (zombie_word e.life) ∙ ap (λ o. is_some (option_or (zombie_word e.life) o)) (no_news options e.news bits.0 bits.1)

module _ (p : ℕ) (asked : Option ℕ) where
  any_meant : (zombies : Bool) → AreListed asked zombies → (o : Option Entry) (n : ℕ) → is_child_in zombies p o ≡ is_meant_by o p any_child asked n
  any_meant zombies listed None n = refl
  any_meant zombies listed (Some e) n =
      turned (not zombies || is_zombie e.life) (e.parent == p)
      ∙ ap (λ b. (e.parent == p) && b) (listed e)
      ∙ ap (λ b. b && is_asked asked e) (sym (and_true (e.parent == p)))
      ∙ ap (λ b. (e.parent == p) && (b || (any_child == n)) && is_asked asked e) (sym any_is)

  others_meant : (o : Option Entry) (n : ℕ) → is_child_in false p o ≡ false → is_meant_by o p any_child asked n ≡ false
  others_meant None n h = refl
  others_meant (Some e) n h = ap (λ b. b && (any_child == any_child || any_child == n) && is_asked asked e) h

next_by : (f g : ℕ → Bool) → ((n : ℕ) → f n ≡ g n) → (after : ℕ) (r : Option ℕ) → IsNextThat f after r → IsNextThat g after r
next_by f g e after None h = λ q up. sym (e q) ∙ h q up
next_by f g e after (Some k) h = (h.0, sym (e k) ∙ h.1, λ q up down. sym (e q) ∙ h.2 q up down)

module _ (entries : Entries) (p : ℕ) (asked : Option ℕ) where
  pub next_listed : (zombies : Bool) → AreListed asked zombies → (r : Option ℕ) → IsNextThat (has_child entries zombies p) 0 r → IsNextThat (is_child entries p any_child asked) 0 r
  unfolding is_child
  next_listed zombies listed r h = next_by (has_child entries zombies p) (is_child entries p any_child asked) (λ n. any_meant p asked zombies listed (maps.get entries n) n) 0 r h

  -- key 0 was looked at, and then those above it
  pub first_any : (r : Option ℕ) → is_child entries p any_child asked 0 ≡ false → IsNextThat (is_child entries p any_child asked) 0 r → r ≡ first_child entries p any_child asked
  unfolding first_child
  first_any r fails h = first_of_all (is_child entries p any_child asked) entries (child_there entries p any_child asked) r fails h

  and_false : (b : Bool) → b && false ≡ false
  and_false true = refl
  and_false false = refl

  unmeant : (o : Option Entry) (wanted n : ℕ) → (wanted == any_child) ≡ false → (wanted == n) ≡ false → is_meant_by o p wanted asked n ≡ false
  unmeant None wanted n h k = refl
  unmeant (Some e) wanted n h k = rw (h, k, and_false) refl

  module _ (wanted : ℕ) (one : (wanted == any_child) ≡ false) where
    other : (n : ℕ) → (wanted == n) ≡ false → is_child entries p wanted asked n ≡ false
    unfolding is_child
    other n h = unmeant (maps.get entries n) wanted n one h

    all_fail : is_child entries p wanted asked wanted ≡ false → (n : ℕ) (b : Bool) → (wanted == n) ≡ b → is_child entries p wanted asked n ≡ false
    all_fail fails n true h = ap (is_child entries p wanted asked) (let same : n ≡ wanted = grind (arith, nat_tests) in same) ∙ fails
    all_fail fails n false h = other n h

    -- one alone was looked at
    pub first_wanted : is_child entries p wanted asked wanted ≡ true → Some wanted ≡ first_child entries p wanted asked
    unfolding first_child
    first_wanted holds = sym (found (is_child entries p wanted asked) entries wanted (child_there entries p wanted asked wanted holds) holds (λ q below. other q (grind (arith, nat_tests))))

    pub none_wanted : is_child entries p wanted asked wanted ≡ false → None ≡ first_child entries p wanted asked
    unfolding first_child
    none_wanted fails = sym (none_found (is_child entries p wanted asked) (λ n. all_fail fails n (wanted == n) refl) (maps.keys entries))

-- A walk through the children

module _ (entries : Entries) (p : ℕ) (asked : Option ℕ) where
  abbrev test : ℕ → Bool
  test = is_child entries p any_child asked

  abbrev pub None_to : ℕ → Type 0
  None_to to = (q : ℕ) → 0 < q → q ≤ to → test q ≡ false

  no_child : (q : ℕ) → has_child entries false p q ≡ false → test q ≡ false
  unfolding is_child
  no_child q h = others_meant p asked (maps.get entries q) q h

  before_step : (passed child : ℕ) → None_to passed → ((q : ℕ) → passed < q → q < child → has_child entries false p q ≡ false) →
      (q : ℕ) → 0 < q → q < child → (b : Bool) → nat_le q passed ≡ b → test q ≡ false
  before_step passed child none gap q up down true le = none q up (grind (arith, nat_tests))
  before_step passed child none gap q up down false gt = no_child q (gap q (grind (arith, nat_tests)) down)

  -- none before the next child
  pub none_before : (passed child : ℕ) → None_to passed → ((q : ℕ) → passed < q → q < child → has_child entries false p q ≡ false) →
      (q : ℕ) → 0 < q → q < child → test q ≡ false
  none_before passed child none gap q up down = before_step passed child none gap q up down (nat_le q passed) refl

  upto_step : (child : ℕ) → ((q : ℕ) → 0 < q → q < child → test q ≡ false) → test child ≡ false →
      (q : ℕ) → 0 < q → q ≤ child → (b : Bool) → nat_lt q child ≡ b → test q ≡ false
  upto_step child before here q up le true lt = before q up (grind (arith, nat_tests))
  upto_step child before here q up le false ge =
      subst (λ k. test k ≡ false) (let same : child ≡ q = grind (arith, nat_tests) in same) here

  -- nor is it one
  pub none_upto : (child : ℕ) → ((q : ℕ) → 0 < q → q < child → test q ≡ false) → test child ≡ false → None_to child
  none_upto child before here q up le = upto_step child before here q up le (nat_lt q child) refl

  after_step : (passed : ℕ) → None_to passed → ((q : ℕ) → passed < q → has_child entries false p q ≡ false) →
      (q : ℕ) → 0 < q → (b : Bool) → nat_le q passed ≡ b → test q ≡ false
  after_step passed none gap q up true le = none q up (grind (arith, nat_tests))
  after_step passed none gap q up false gt = no_child q (gap q (grind (arith, nat_tests)))

  -- none where no child is left
  pub none_after : (passed : ℕ) → None_to passed → ((q : ℕ) → passed < q → has_child entries false p q ≡ false) → (q : ℕ) → 0 < q → test q ≡ false
  none_after passed none gap q up = after_step passed none gap q up (nat_le q passed) refl
