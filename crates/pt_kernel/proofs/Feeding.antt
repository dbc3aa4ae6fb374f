-- A host is fed one event after the other.
use Rattle.std.proofs.Common.{◌≡◌, ℕ, zero, suc, ◌-◌, ◌+◌, ◌<◌, ◌≤◌, List, [], ◌∷◌, ◌++◌, replicate, Option, Some, None, refl, sym, ap, subst, ◌∙◌, arith}
use Rattle.lx_abi.specs.declared.ptrace.Reply.{Reply}
use Rattle.lx_abi.specs.declared.schedule.Event.{Event}
use Rattle.lx_abi.specs.declared.schedule.Event.TheVariants.{Turn}
use Rattle.pt_schedule.specs.declared.schedule.Schedule.{Schedule}
use Rattle.pt_schedule.specs.Rows.{run_of, after_turns as left_after_turns}
use Rattle.pt_schedule.specs.Schedules.{Given, next_of}
use Rattle.pt_schedule.proofs.Rowing.{runs_are_turns, none_after, more_after}
use Rattle.pt_kernel.specs.Hosts.{HostState, readiness_of, event_of}
use Rattle.pt_kernel.specs.Advances.{Leads}
use Rattle.pt_kernel.specs.AfterEvents.{after}
use Rattle.pt_kernel.specs.Attends.{Attended, GoesOn, IsFed, Notes}
use Rattle.pt_kernel.specs.Noted.{noting}
use Rattle.pt_kernel.proofs.Noting.{noting_nothing, noting_on}

-- One event more

module _ (h : HostState) (s : Schedule) where
  given_is : (e : Option Event) (s' : Schedule) → Given Schedule
  given_is e s' = record { event = e; schedule = s' }

  pub ended_is : (s' : Schedule) (noted : Option (List Event)) → record { event = None; schedule = s' } ≡ next_of s (readiness_of h) → Notes h s noted (record { host = h; schedule = s'; reply = None }) noted
  ended_is s' noted g = record {
    attends = record { fed = []; is_fed = (sym (ap (λ (x : Given Schedule). x.event) g), ap (λ (x : Given Schedule). ended x.schedule) g) };
    noted_are = sym (noting_nothing noted);
  }
    where
      ended : Schedule → Attended
      ended y = record { host = h; schedule = y; reply = None }

  pub answered_is : (e : Event) (s' : Schedule) (h' : HostState) (r : Reply) (noted noted' : Option (List Event)) → record { event = Some e; schedule = s' } ≡ next_of s (readiness_of h) → h' ≡ after h e → Some r ≡ (event_of h e).reply
      → noted' ≡ noting noted (e ∷ []) → Notes h s noted (record { host = h'; schedule = s'; reply = Some r }) noted'
  answered_is e s' h' r noted noted' g a q n = record {
    attends = record {
      fed = e ∷ [];
      is_fed = (
        sym (ap (λ (x : Given Schedule). x.event) g),
        subst (λ y. GoesOn (after h e) (next_of s (readiness_of h)).schedule [] (record { host = h'; schedule = s'; reply = Some r }) y (IsFed (after h e) (next_of s (readiness_of h)).schedule [] (record { host = h'; schedule = s'; reply = Some r }))) q
            (refl, ap (λ x. answer x s') a ∙ ap (λ (x : Given Schedule). answer (after h e) x.schedule) g),
      );
    };
    noted_are = n;
  }
    where
      answer : HostState → Schedule → Attended
      answer x y = record { host = x; schedule = y; reply = Some r }

  pub is_fed_on : (e : Event) (s' : Schedule) (h' : HostState) (z : Attended) (fed : List Event) → record { event = Some e; schedule = s' } ≡ next_of s (readiness_of h) → h' ≡ after h e → None ≡ (event_of h e).reply → IsFed h' s' fed z → IsFed h s (e ∷ fed) z
  is_fed_on e s' h' z fed g a q rest = (
    sym (ap (λ (x : Given Schedule). x.event) g),
    subst (λ y. GoesOn (after h e) (next_of s (readiness_of h)).schedule fed z y (IsFed (after h e) (next_of s (readiness_of h)).schedule fed z)) q
        (subst (λ x. IsFed x (next_of s (readiness_of h)).schedule fed z) a (subst (λ (x : Given Schedule). IsFed h' x.schedule fed z) g rest)),
  )

  -- and what it noted
  pub noted_on : (e : Event) (s' : Schedule) (h' : HostState) (z : Attended) (noted noted' last : Option (List Event)) → record { event = Some e; schedule = s' } ≡ next_of s (readiness_of h) → h' ≡ after h e → None ≡ (event_of h e).reply
      → noted' ≡ noting noted (e ∷ []) → Notes h' s' noted' z last → Notes h s noted z last
  noted_on e s' h' z noted noted' last g a q n rest = record {
    attends = record { fed = e ∷ rest.attends.fed; is_fed = is_fed_on e s' h' z rest.attends.fed g a q rest.attends.is_fed };
    noted_are = rest.noted_are ∙ ap (λ x. noting x rest.attends.fed) n ∙ noting_on noted (e ∷ []) rest.attends.fed;
  }

pub fewer_still : (a b c : ℕ) → a ≤ b → b < c → a < c
fewer_still a b c h g = omega (arith, h, g)

-- Turns in a row

leads_fed : (n : ℕ) (h h' : HostState) (s : Schedule) (p more : ℕ) (z : Attended) (fed : List Event) → Leads h p n h' → n ≤ more → (0 < more → run_of s ≡ Some (record { pid = p; turns = more })) →
    IsFed h' (left_after_turns s n) fed z → IsFed (after h (Turn p)) s (replicate n (Turn p) ++ fed) z
unfolding Leads
leads_fed zero h h' s p more z fed leads l told rest = subst (λ x. IsFed x s fed z) leads (subst (λ t. IsFed h' t fed z) (none_after s) rest)
leads_fed (suc n) h h' s p more z fed leads l told rest =
    let it = runs_are_turns s (record { pid = p; turns = more }) (told (omega (arith, l))) (omega (arith, l)) in
    let count : 1 + n ≡ suc n = omega arith in
    is_fed_on (after h (Turn p)) s (Turn p) (left_after_turns s 1) (after (after h (Turn p)) (Turn p)) z (replicate n (Turn p) ++ fed)
    (sym (it.next (readiness_of (after h (Turn p))) leads.0)) refl refl
    (leads_fed n (after h (Turn p)) h' (left_after_turns s 1) p (more - 1) z fed leads.1 (omega (arith, l)) (λ m. it.rest)
    (subst (λ t. IsFed h' t fed z) (sym (more_after s 1 n ∙ ap (left_after_turns s) count)) rest))

-- and noted, the first of them by itself
pub leads_noted : (n : ℕ) (h h' : HostState) (s : Schedule) (p more : ℕ) (z : Attended) (noted first rest last : Option (List Event)) → Leads h p n h' → n ≤ more → (0 < more → run_of s ≡ Some (record { pid = p; turns = more })) →
    first ≡ noting noted (replicate 1 (Turn p)) → rest ≡ noting first (replicate n (Turn p)) →
    Notes h' (left_after_turns s n) rest z last → Notes (after h (Turn p)) s (noting noted (Turn p ∷ [])) z last
leads_noted n h h' s p more z noted first rest last leads l told one many fed = record {
  attends = record { fed = replicate n (Turn p) ++ fed.attends.fed; is_fed = leads_fed n h h' s p more z fed.attends.fed leads l told fed.attends.is_fed };
  noted_are =
      fed.noted_are ∙ ap (λ x. noting x fed.attends.fed) (many ∙ ap (λ x. noting x (replicate n (Turn p))) one)
      ∙ noting_on (noting noted (Turn p ∷ [])) (replicate n (Turn p)) fed.attends.fed;
}
