-- The events of a schedule, call by call, are those that it gives to a list of requests.
use Rattle.std.proofs.Common.{◌≡◌, ℕ, true, List, [], ◌∷◌, ◌++◌, Option, Some, None, refl, sym, ap, ap₂, subst, ◌∙◌, append-nil}
use Rattle.lx_abi.specs.declared.outcome.Outcome.{Outcome}
use Rattle.lx_abi.specs.declared.ptrace.Reply.{Reply}
use Rattle.lx_abi.specs.declared.ptrace.Request.{Request}
use Rattle.lx_abi.specs.declared.schedule.Event.{Event}
use Rattle.lx_abi.specs.declared.schedule.Event.TheVariants.{Turn, Serve}
use Rattle.lx_model.specs.Machine.{Machine}
use Rattle.pt_model.specs.Ptrace.{Host, host_turn, is_there}
use Rattle.pt_model.specs.Requests.{serve}
use Rattle.pt_model.specs.Attending.{Called, answered_by, answers_to, called, event, left_pending, reply_or, turned, Schedules, Gives}
use Rattle.host_link.specs.RequestLists.{FeedsList, host_after, left_asked, turns_to}

module _ {S B : Type 0} (m : Machine S B) (outcome : S → Outcome) where
  -- what was done, by events that others follow
  record Before (long short : Called S B) (rest : List Event) : Type 0 where
    host : long.host ≡ short.host
    reply : long.reply ≡ short.reply
    left : long.left ≡ rest
    turns : long.turns ≡ short.turns

  abbrev fed_by : Option Reply → Host S B → List ℕ → List Event → Request → Called S B
  fed_by r g turns es q = answered_by r g turns es (λ k. called m outcome k q es)

  one_before : (q : Request) (es rest : List Event) (turns : List ℕ) (r : Option Reply) (g : Host S B) →
      (is_there (called m outcome g q es).reply ≡ true → (called m outcome g q es).left ≡ [] → Before (called m outcome g q (es ++ rest)) (called m outcome g q es) rest) →
      is_there (fed_by r g turns es q).reply ≡ true → (fed_by r g turns es q).left ≡ [] → Before (fed_by r g turns (es ++ rest) q) (fed_by r g turns es q) rest
  one_before q es rest turns (Some r) g again e l = record { host = refl; reply = refl; left = ap (λ x. x ++ rest) l; turns = refl }
  one_before q es rest turns None g again e l =
      let b = again e l in record { host = b.host; reply = b.reply; left = b.left; turns = ap (λ x. turns ++ x) b.turns }

  before_others : (fed rest : List Event) (h : Host S B) (q : Request) → is_there (called m outcome h q fed).reply ≡ true → (called m outcome h q fed).left ≡ [] → Before (called m outcome h q (fed ++ rest)) (called m outcome h q fed) rest
  before_others [] rest h q e l = absurd (cc e)
  before_others (x ∷ es) rest h q e l = one_before q es rest (turned m h x) (event m outcome (record { host = h; pending = Some q }) x).reply (event m outcome (record { host = h; pending = Some q }) x).attending.host (before_others es rest (event m outcome (record { host = h; pending = Some q }) x).attending.host q) e l

  -- where the events are used up nothing more is done
  pub over_host : (qs : List Request) (h : Host S B) → host_after m outcome h qs [] ≡ h
  over_host [] h = refl
  over_host (q ∷ qs) h = over_host qs h

  pub over_turns : (qs : List Request) (h : Host S B) → turns_to m outcome h qs [] ≡ []
  over_turns [] h = refl
  over_turns (q ∷ qs) h = over_turns qs h

  -- a list of requests, of which the first is answered by the first events
  pub record Goes (h : Host S B) (q : Request) (qs : List Request) (fed rest : List Event) (c : Called S B) : Type 0 where
    pub replies : answers_to m outcome h (q ∷ qs) (fed ++ rest) ≡ reply_or c.reply ∷ answers_to m outcome c.host qs rest
    pub host : host_after m outcome h (q ∷ qs) (fed ++ rest) ≡ host_after m outcome c.host qs rest
    pub turned : turns_to m outcome h (q ∷ qs) (fed ++ rest) ≡ c.turns ++ turns_to m outcome c.host qs rest

  by_before : (h : Host S B) (q : Request) (qs : List Request) (fed rest : List Event) → Before (called m outcome h q (fed ++ rest)) (called m outcome h q fed) rest → Goes h q qs fed rest (called m outcome h q fed)
  by_before h q qs fed rest b = record {
    replies = ap₂ (λ x y. x ∷ y) (ap reply_or b.reply) (ap₂ (λ g l. answers_to m outcome g qs l) b.host b.left);
    host = ap₂ (λ g l. host_after m outcome g qs l) b.host b.left;
    turned = ap₂ (λ x y. x ++ y) b.turns (ap₂ (λ g l. turns_to m outcome g qs l) b.host b.left);
  }

  pub goes_on : (h : Host S B) (q : Request) (qs : List Request) (fed rest : List Event) → (called m outcome h q fed).left ≡ [] → is_there (called m outcome h q fed).reply ≡ true → Goes h q qs fed rest (called m outcome h q fed)
  goes_on h q qs fed rest l e = by_before h q qs fed rest (before_others fed rest h q e l)

  -- and none after them
  pub ends : (h : Host S B) (q : Request) (qs : List Request) (fed : List Event) → (called m outcome h q fed).left ≡ [] → Goes h q qs fed [] (called m outcome h q fed)
  ends h q qs fed l =
      by_before h q qs fed [] (record {
        host = ap (λ es. (called m outcome h q es).host) (append-nil fed);
        reply = ap (λ es. (called m outcome h q es).reply) (append-nil fed);
        left = ap (λ es. (called m outcome h q es).left) (append-nil fed) ∙ l;
        turns = ap (λ es. (called m outcome h q es).turns) (append-nil fed);
      })

module _ {X S B : Type 0} (choose : Schedules X S B) (m : Machine S B) (outcome : S → Outcome) where
  -- the rest of a call, after an event
  on : (q : Request) (qs : List Request) (es more : List Event) (x y : X) (ts : List ℕ) (r : Option Reply) (h : Host S B)
      → (Gives choose m outcome x (record { host = h; pending = Some q }) es y → (called m outcome h q es).left ≡ [] → FeedsList choose m outcome y (called m outcome h q es).host (left_asked q qs (called m outcome h q es).reply) more → FeedsList choose m outcome x h (q ∷ qs) (es ++ more))
      → Gives choose m outcome x (record { host = h; pending = left_pending q r }) es y
      → (answered_by r h ts es (λ g. called m outcome g q es)).left ≡ []
      → FeedsList choose m outcome y (answered_by r h ts es (λ g. called m outcome g q es)).host (left_asked q qs (answered_by r h ts es (λ g. called m outcome g q es)).reply) more
      → FeedsList choose m outcome x h (left_asked q qs r) (es ++ more)
  on q qs [] more x y ts (Some r) h ih g l k = subst (λ z. FeedsList choose m outcome z h qs more) (sym g) k
  on q qs (e ∷ es) more x y ts (Some r) h ih g l k = absurd (cc l)
  on q qs es more x y ts None h ih g l k = ih g l k

  pub feeds_on : (q : Request) (qs : List Request) (fed more : List Event) (x y : X) (h : Host S B)
      → Gives choose m outcome x (record { host = h; pending = Some q }) fed y
      → (called m outcome h q fed).left ≡ []
      → FeedsList choose m outcome y (called m outcome h q fed).host (left_asked q qs (called m outcome h q fed).reply) more
      → FeedsList choose m outcome x h (q ∷ qs) (fed ++ more)
  feeds_on q qs [] more x y h g l k = subst (λ z. FeedsList choose m outcome z h (q ∷ qs) more) (sym g) k
  feeds_on q qs (Turn p ∷ es) more x y h g l k = (g.0, (g.1.0, feeds_on q qs es more g.0 y (host_turn m h p) g.1.1 l k))
  feeds_on q qs (Serve ∷ es) more x y h g l k =
      (g.0, (g.1.0, on q qs es more g.0 y [] (serve m outcome h q).reply (serve m outcome h q).host (feeds_on q qs es more g.0 y (serve m outcome h q).host) g.1.1 l k))

  -- what a schedule gives to a list is one list
  some_there : {A : Type 0} {a b : A} → Some a ≡ Some b → a ≡ b
  some_there e = cc

  both : {a b : Event × X} → a ≡ b → (a.0 ≡ b.0) × (a.1 ≡ b.1)
  both e = (ap (λ x. x.0) e, ap (λ x. x.1) e)

  pub fed_alike : (es fs : List Event) (x : X) (h : Host S B) (qs : List Request) → FeedsList choose m outcome x h qs es → FeedsList choose m outcome x h qs fs → es ≡ fs
  fed_alike es fs x h [] k l = k ∙ sym l
  fed_alike [] [] x h (q ∷ qs) k l = refl
  fed_alike [] (f ∷ fs) x h (q ∷ qs) k l = absurd (cc (sym k ∙ l.1.0))
  fed_alike (e ∷ es) [] x h (q ∷ qs) k l = absurd (cc (sym l ∙ k.1.0))
  fed_alike (e ∷ es) (f ∷ fs) x h (q ∷ qs) k l =
      let same = both (some_there (sym k.1.0 ∙ l.1.0)) in
      let again : FeedsList choose m outcome k.0 (event m outcome (record { host = h; pending = Some q }) e).attending.host (left_asked q qs (event m outcome (record { host = h; pending = Some q }) e).reply) fs =
      subst (λ z. FeedsList choose m outcome z (event m outcome (record { host = h; pending = Some q }) e).attending.host (left_asked q qs (event m outcome (record { host = h; pending = Some q }) e).reply) fs) (sym same.1)
      (subst (λ z. FeedsList choose m outcome l.0 (event m outcome (record { host = h; pending = Some q }) z).attending.host (left_asked q qs (event m outcome (record { host = h; pending = Some q }) z).reply) fs) (sym same.0) l.1.1) in
      ap₂ (λ a l. a ∷ l) same.0 (fed_alike es fs k.0 (event m outcome (record { host = h; pending = Some q }) e).attending.host (left_asked q qs (event m outcome (record { host = h; pending = Some q }) e).reply) k.1.1 again)
