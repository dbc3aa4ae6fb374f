-- What a host under a lock keeps, from step to step.
use Rattle.std.proofs.Common.{inl, inr, ◌≡◌, ◌≤◌, ◌<◌, ℕ, ◌+◌, Bool, true, false, List, [], ◌∷◌, ◌++◌, length, Option, Some, None, refl, sym, ap, subst, ◌∙◌, arith}
use Rattle.lx_abi.specs.declared.boot.Boot.{Boot}
use Rattle.lx_abi.specs.declared.ptrace.Reply.{Reply}
use Rattle.lx_abi.specs.declared.ptrace.Reply.TheVariants.{OutOfTurns as Out_of_turns}
use Rattle.lx_abi.specs.declared.ptrace.Request.{Request}
use Rattle.lx_abi.specs.declared.schedule.Event.{Event}
use Rattle.lx_abi.specs.declared.schedule.Event.TheVariants.{Turn, Serve}
use Rattle.lx_boot.specs.Boots.{fault_of}
use Rattle.lx_kernel.specs.Outcomes.{outcome_in}
use Rattle.lx_turn.specs.Linux.{linux}
use Rattle.pt_model.specs.declared.ptrace.Report.{Report}
use Rattle.pt_model.specs.Hosting.{with_pending, hosting_event, ready_in}
use Rattle.pt_model.specs.Ptrace.{is_there}
use Rattle.pt_kernel.specs.AfterEvents.{after}
use Rattle.pt_kernel.specs.Hosts.{HostState, Linux_host, readiness_of, event_of}
use Rattle.pt_journal.specs.Journals.{is_over, is_outcome, IsServed, Follows, Replays, last_from, after_entry}
use Rattle.pt_journal.specs.declared.entry.Entry.{Entry}
use Rattle.pt_journal.specs.declared.entry.Entry.TheVariants.{Ask, Did}
use Rattle.pt_schedule.specs.Cycle.{next_able}
use Rattle.pt_journal.specs.Journals.{events_of, last_turn}
use Rattle.host_shared.specs.declared.cut.Cut.{Cut}
use Rattle.host_shared.specs.declared.cut.Cut.TheVariants.{Limit, Nobody, Gate}
use Rattle.transcript.specs.declared.said.Said.{Said}
use Rattle.transcript.specs.declared.said.Said.TheVariants.{Asked, Answered}
use Rattle.pt_journal.specs.Told.{Told}
use Rattle.host_shared.specs.Hearing.{IsHeard, spoken, pairs}
use Rattle.host_shared.specs.HeldStates.{HeldState, CanPut, CanRefuse, CanServe, CanEnd, held_by, first_of, first_host, Kept, Counts, IsCut, IsNext, IsStuck, InCycle, host_by, Keeps}
use Rattle.host_shared.proofs.Hearing.{heard_first, heard_asked, heard_turned, heard_over, heard_end, heard_refused, pairs_spoken}
use Rattle.host_shared.proofs.Growing.{replays_more, over_more, events_more, events_same, last_asked, last_turned, last_served, turn_pending, answered_free}

not_over : (b closed : Bool) → (b ≡ true → closed ≡ true) → closed ≡ false → b ≡ false
not_over true closed over going = absurd (cc (over refl, going))
not_over false closed over going = refl

ready_there : (p : Option Request) (queue : List Report) (tracees : List ℕ) → ready_in p queue tracees ≡ true → is_there p ≡ true
ready_there None queue tracees e = absurd (cc e)
ready_there (Some q) queue tracees e = refl

pub can_go : (h : HeldState) → CanPut h → h.failed ≡ false → (h.closed ≡ false) × (h.host.hosting.pending ≡ None)
can_go h (inl failed) whole = absurd (cc (failed, whole))
can_go h (inr can) whole = can

pub can_refuse : (h : HeldState) → CanRefuse h → h.failed ≡ false → (h.closed ≡ true) × (h.over ≡ false) × (is_there h.host.hosting.pending ≡ false)
can_refuse h (inl failed) whole = absurd (cc (failed, whole))
can_refuse h (inr can) whole = can

pub can_serve : (h : HeldState) → CanServe h → h.failed ≡ false → (h.over ≡ false) × (is_there h.host.hosting.pending ≡ true)
can_serve h (inl failed) whole = absurd (cc (failed, whole))
can_serve h (inr can) whole = can

there_is : (p : Option Request) → is_there p ≡ true → (q : Request) × (p ≡ Some q)
there_is None e = absurd (cc e)
there_is (Some q) e = (q, refl)

none_there : (p : Option Request) → is_there p ≡ false → p ≡ None
none_there None e = refl
none_there (Some q) e = absurd (cc e)

abbrev first_of_all : Boot → HostState → ℕ → HeldState
first_of_all boot host limit = held_by boot host [] [] limit false false None false

booted : (boot : Boot) (host : HostState) (limit : ℕ) → fault_of boot ≡ None → host ≡ first_host boot → Keeps (first_of_all boot host limit) 0 0 false
booted boot host limit accepted is =
    subst (λ (h : HostState). Keeps (first_of_all boot h limit) 0 0 false) (sym is) (
      λ e. absurd (cc e),
      λ _. record {
        kept = record {
          accepted = accepted;
          replayed = refl;
          follow = refl;
          whole = refl;
          few = omega arith;
          over = λ e. absurd (cc e);
          if_open = λ _. refl;
          cut_so = tt;
          cycled = tt;
          shut = λ e. absurd (cc e);
          heard = heard_first [] refl;
        };
        counted = refl;
        latest = refl;
        waits = refl;
      },
    )

pub keeps_first : (boot kept : Boot) (host : HostState) (journal : List Entry) (said : List Said) (limit : ℕ) → fault_of boot ≡ None → host ≡ first_host boot → kept ≡ boot → journal ≡ [] → said ≡ []
    → Keeps (held_by kept host journal said limit false false None false) 0 0 false
keeps_first boot kept host journal said limit accepted is same none nothing =
    subst (λ (b : Boot). Keeps (held_by b host journal said limit false false None false) 0 0 false) (sym same)
    (subst (λ (j : List Entry). Keeps (held_by boot host j said limit false false None false) 0 0 false) (sym none)
    (subst (λ (s : List Said). Keeps (held_by boot host [] s limit false false None false) 0 0 false) (sym nothing) (booted boot host limit accepted is)))

-- a host that hasn't failed, by its follow
same_host : (h : HostState) (follow : Bool) → h.follow ≡ follow → h.failed ≡ false → h ≡ host_by h.hosting follow
same_host h follow e f = ap (λ (b : Bool). record { hosting = h.hosting; follow = h.follow; failed = b }) f ∙ ap (λ (b : Bool). host_by h.hosting b) e

in_cycle_more : (follow : Bool) (xs : List Entry) (x : Entry) (v g : Linux_host) (n : ℕ) → Replays linux outcome_in follow v xs g → InCycle follow v n xs → IsNext follow g (last_from n xs) x → InCycle follow v n (xs ++ x ∷ [])
in_cycle_more follow [] x v g n rep c next = (subst (λ u. IsNext follow u n x) rep next, tt)
in_cycle_more follow (Ask q ∷ ys) x v g n rep c next = (c.0, in_cycle_more follow ys x (after_entry linux outcome_in follow v (Ask q)) g n rep.2 c.1 next)
in_cycle_more follow (Did (Turn p) r ∷ ys) x v g n rep c next = (c.0, in_cycle_more follow ys x (after_entry linux outcome_in follow v (Did (Turn p) r)) g p rep.2 c.1 next)
in_cycle_more follow (Did Serve r ∷ ys) x v g n rep c next = (c.0, in_cycle_more follow ys x (after_entry linux outcome_in follow v (Did Serve r)) g n rep.2 c.1 next)

module _ (boot : Boot) (host : HostState) (journal : List Entry) (said : List Said) (limit events last : ℕ) (pending : Bool) where
  abbrev held : Bool → Bool → Option Cut → Bool → HeldState
  held closed failed cut over = held_by boot host journal said limit closed failed cut over

  pub keeps_stopped : (cut : Option Cut) (over : Bool) → Keeps (held true true cut over) events last pending
  keeps_stopped cut over = (λ _. refl, λ e. absurd (cc e))

  module _ (closed failed : Bool) (cut : Option Cut) (over : Bool) (k : Keeps (held closed failed cut over) events last pending) where
    -- closed, for a reason that holds
    closed_for : (cut' : Option Cut) → (failed ≡ false → Counts (held closed failed cut over) events last pending → IsCut (held closed failed cut over) cut') → Keeps (held true failed cut' over) events last pending
    closed_for cut' so = (
      λ _. refl,
      λ whole.
          let c = k.1 whole in
          record {
            kept = record {
              accepted = c.kept.accepted;
              replayed = c.kept.replayed;
              follow = c.kept.follow;
              whole = c.kept.whole;
              few = c.kept.few;
              over = λ _. refl;
              if_open = λ e. absurd (cc e);
              cut_so = cut_holds cut' (so whole c);
              cycled = c.kept.cycled;
              shut = λ _. refl;
              heard = c.kept.heard;
            };
            counted = c.counted;
            latest = c.latest;
            waits = c.waits;
          },
    )
      where
        cut_holds : (cut' : Option Cut) → IsCut (held closed failed cut over) cut' → IsCut (held true failed cut' over) cut'
        cut_holds None so = tt
        cut_holds (Some Limit) so = so
        cut_holds (Some Nobody) so = so
        cut_holds (Some Gate) so = tt

    pub keeps_closed : Keeps (held true failed cut over) events last pending
    keeps_closed = closed_for cut (λ whole c. c.kept.cut_so)

    pub keeps_shut : Keeps (held true failed (Some Gate) over) events last pending
    keeps_shut = closed_for (Some Gate) (λ whole c. tt)

    -- at its limit, or stuck
    pub full : failed ≡ false → limit ≤ events → IsCut (held closed failed cut over) (Some Limit)
    full whole enough =
        let c = k.1 whole in
        let few = c.kept.few in
        let counted = c.counted in
        omega (arith, few, counted, enough)

    pub stuck : failed ≡ false → is_there host.hosting.pending ≡ true → (readiness_of host).ready ≡ false → next_able (readiness_of host).able (readiness_of host).last_pid last ≡ None
        → IsCut (held closed failed cut over) (Some Nobody)
    stuck whole there waits nobody =
        let c = k.1 whole in
        (there, waits, subst (λ n. next_able (readiness_of host).able (readiness_of host).last_pid n ≡ None) c.latest nobody)

    pub cut_before : failed ≡ false → IsCut (held closed failed cut over) cut
    cut_before whole = (k.1 whole).kept.cut_so

    -- nothing more is said
    module _ (whole : failed ≡ false) (going : over ≡ false) where
      c : Counts (held closed failed cut over) events last pending
      c = k.1 whole

      heard : IsHeard false journal said host.hosting.pending
      heard = subst (λ (b : Bool). IsHeard b journal said host.hosting.pending) going c.kept.heard

      over_with : (said' : List Said) (cut' : Option Cut) → IsCut (held closed failed cut over) cut' → IsHeard true journal said' host.hosting.pending
          → Keeps (held_by boot host journal said' limit true failed cut' true) events last pending
      over_with said' cut' so told = (
        λ _. refl,
        λ _. record {
          kept = record {
            accepted = c.kept.accepted;
            replayed = c.kept.replayed;
            follow = c.kept.follow;
            whole = c.kept.whole;
            few = c.kept.few;
            over = λ _. refl;
            if_open = λ e. absurd (cc e);
            cut_so = cut_holds cut' so;
            cycled = c.kept.cycled;
            shut = λ _. refl;
            heard = told;
          };
          counted = c.counted;
          latest = c.latest;
          waits = c.waits;
        },
      )
        where
          cut_holds : (cut' : Option Cut) → IsCut (held closed failed cut over) cut' → IsCut (held_by boot host journal said' limit true failed cut' true) cut'
          cut_holds None so = tt
          cut_holds (Some Limit) so = so
          cut_holds (Some Nobody) so = so
          cut_holds (Some Gate) so = tt

      pub keeps_ended : is_there host.hosting.pending ≡ true → (cut' : Option Cut) → IsCut (held closed failed cut over) cut' → (said' : List Said) → said' ≡ said ++ Answered Out_of_turns ∷ []
          → Keeps (held_by boot host journal said' limit true failed cut' true) events last pending
      keeps_ended there cut' so said' is =
          let q = there_is host.hosting.pending there in
          over_with said' cut' so
          (subst (λ (s : List Said). IsHeard true journal s host.hosting.pending) (sym is)
          (heard_end journal said q.0 (subst (λ (p : Option Request). IsHeard false journal said p) q.1 heard) host.hosting.pending))

      pub keeps_refused : closed ≡ true → is_there host.hosting.pending ≡ false → (q : Request) (said' : List Said) → said' ≡ said ++ Asked q ∷ Answered Out_of_turns ∷ []
          → Keeps (held_by boot host journal said' limit closed failed cut true) events last pending
      keeps_refused shut none q said' is =
          subst (λ (b : Bool). Keeps (held_by boot host journal said' limit b failed cut true) events last pending) (sym shut)
          (over_with said' cut c.kept.cut_so
          (subst (λ (s : List Said). IsHeard true journal s host.hosting.pending) (sym is)
          (heard_refused journal said q (subst (λ (p : Option Request). IsHeard false journal said p) (none_there host.hosting.pending none) heard) host.hosting.pending)))

    -- more is done
    module _ (whole : failed ≡ false) (going : closed ≡ false) where
      d : Counts (held closed failed cut over) events last pending
      d = k.1 whole

      uncut : cut ≡ None
      uncut = d.kept.if_open going

      free : is_over journal ≡ false
      free = not_over (is_over journal) closed d.kept.over going

      unsaid : over ≡ false
      unsaid = not_over over closed d.kept.shut going

      hears : IsHeard false journal said host.hosting.pending
      hears = subst (λ (b : Bool). IsHeard b journal said host.hosting.pending) unsaid d.kept.heard

      heard_so : (journal' : List Entry) (said' : List Said) (pending' : Option Request) → IsHeard false journal' said' pending' → IsHeard over journal' said' pending'
      heard_so journal' said' pending' h = subst (λ (b : Bool). IsHeard b journal' said' pending') (sym unsaid) h

      none_is_so : (h : HeldState) (c : Option Cut) → c ≡ None → IsCut h c
      none_is_so h c none = subst (λ (x : Option Cut). IsCut h x) (sym none) tt

      pub keeps_asked : (q : Request) → host.hosting.pending ≡ None → (host' : HostState) → host' ≡ record host { hosting = with_pending host.hosting (Some q) }
          → (journal' : List Entry) → journal' ≡ journal ++ Ask q ∷ [] → (said' : List Said) → said' ≡ said ++ Asked q ∷ []
          → Keeps (held_by boot host' journal' said' limit closed failed cut over) events last true
      keeps_asked q none host' is journal' more said' says =
          subst (λ (s : List Said). Keeps (held_by boot host' journal' s limit closed failed cut over) events last true) (sym says)
          (subst (λ (j : List Entry). Keeps (held_by boot host' j (said ++ Asked q ∷ []) limit closed failed cut over) events last true) (sym more)
          (subst (λ (h : HostState). Keeps (held_by boot h (journal ++ Ask q ∷ []) (said ++ Asked q ∷ []) limit closed failed cut over) events last true) (sym is) (
            λ e. absurd (cc (e, whole)),
            λ _. record {
              kept = record {
                accepted = d.kept.accepted;
                replayed = replays_more linux outcome_in boot.follow journal (Ask q) (first_of boot) host.hosting d.kept.replayed free none;
                follow = d.kept.follow;
                whole = d.kept.whole;
                few = subst (λ es. length es ≤ limit) (sym (events_same journal q)) d.kept.few;
                over = λ e. absurd (cc (sym (over_more journal (Ask q) free) ∙ e));
                if_open = λ _. uncut;
                cut_so = none_is_so (held_by boot (record host { hosting = with_pending host.hosting (Some q) }) (journal ++ Ask q ∷ []) (said ++ Asked q ∷ []) limit closed failed cut over) cut uncut;
                cycled = in_cycle_more boot.follow journal (Ask q) (first_of boot) host.hosting 0 d.kept.replayed d.kept.cycled tt;
                shut = d.kept.shut;
                heard = heard_so (journal ++ Ask q ∷ []) (said ++ Asked q ∷ []) (Some q) (heard_asked journal said q (subst (λ (p : Option Request). IsHeard false journal said p) none hears));
              };
              counted = d.counted ∙ ap length (sym (events_same journal q));
              latest = d.latest ∙ sym (last_asked journal q 0);
              waits = refl;
            },
          )))

      -- an event that the ptrace machine makes so, at the boot's follow
      follows : (e : Event) (r : Option Reply) → IsServed e host.hosting.pending → r ≡ (event_of host e).reply → Follows linux outcome_in boot.follow host.hosting (Did e r)
      follows e r served is = (served, is ∙ ap (λ f. (hosting_event linux outcome_in f host.hosting e).reply) d.kept.follow)

      replayed : (e : Event) (r : Option Reply) → IsServed e host.hosting.pending → r ≡ (event_of host e).reply → Replays linux outcome_in boot.follow (first_of boot) (journal ++ Did e r ∷ []) (event_of host e).hosting
      replayed e r served is =
          subst (λ (g : Linux_host). Replays linux outcome_in boot.follow (first_of boot) (journal ++ Did e r ∷ []) g)
          (ap (λ f. (hosting_event linux outcome_in f host.hosting e).hosting) (sym d.kept.follow))
          (replays_more linux outcome_in boot.follow journal (Did e r) (first_of boot) host.hosting d.kept.replayed free (follows e r served is))

      pub keeps_turned : (p : ℕ) → next_able (readiness_of host).able (readiness_of host).last_pid last ≡ Some p → events < limit → (host' : HostState) → host' ≡ after host (Turn p)
          → (journal' : List Entry) → journal' ≡ journal ++ Did (Turn p) None ∷ [] → Keeps (held_by boot host' journal' said limit closed failed cut over) (events + 1) p pending
      keeps_turned p next below host' is journal' more =
          let grown = events_more journal (Turn p) None in
          let counted = d.counted in
          let still : (after host (Turn p)).hosting.pending ≡ host.hosting.pending = turn_pending linux outcome_in host.follow host.hosting p in
          subst (λ (j : List Entry). Keeps (held_by boot host' j said limit closed failed cut over) (events + 1) p pending) (sym more)
          (subst (λ (h : HostState). Keeps (held_by boot h (journal ++ Did (Turn p) None ∷ []) said limit closed failed cut over) (events + 1) p pending) (sym is) (
            λ e. absurd (cc (e, whole)),
            λ _. record {
              kept = record {
                accepted = d.kept.accepted;
                replayed = replayed (Turn p) None tt refl;
                follow = d.kept.follow;
                whole = refl;
                few = omega (arith, grown, counted, below);
                over = λ e. absurd (cc (sym (over_more journal (Did (Turn p) None) free) ∙ e));
                if_open = λ _. uncut;
                cut_so = none_is_so (held_by boot (after host (Turn p)) (journal ++ Did (Turn p) None ∷ []) said limit closed failed cut over) cut uncut;
                cycled = in_cycle_more boot.follow journal (Did (Turn p) None) (first_of boot) host.hosting 0 d.kept.replayed d.kept.cycled
                    (subst (λ n. next_able (readiness_of (host_by host.hosting boot.follow)).able (readiness_of (host_by host.hosting boot.follow)).last_pid n ≡ Some p) d.latest
                    (subst (λ (h : HostState). next_able (readiness_of h).able (readiness_of h).last_pid last ≡ Some p) (same_host host boot.follow d.kept.follow d.kept.whole) next));
                shut = d.kept.shut;
                heard =
                    heard_so (journal ++ Did (Turn p) None ∷ []) said (after host (Turn p)).hosting.pending
                    (subst (λ (z : Option Request). IsHeard false (journal ++ Did (Turn p) None ∷ []) said z) (sym still) (heard_turned journal said p host.hosting.pending hears));
              };
              counted = omega (arith, grown, counted);
              latest = sym (last_turned journal p None 0);
              waits = d.waits ∙ ap is_there (sym still);
            },
          ))

      pub keeps_served : (r : Reply) → events < limit → (readiness_of host).ready ≡ true → (event_of host Serve).reply ≡ Some r → (closed' over' : Bool) → closed' ≡ is_outcome r → over' ≡ closed'
          → (host' : HostState) → host' ≡ after host Serve → (journal' : List Entry) → journal' ≡ journal ++ Did Serve (Some r) ∷ [] → (said' : List Said) → said' ≡ said ++ Answered r ∷ []
          → Keeps (held_by boot host' journal' said' limit closed' failed cut over') (events + 1) last false
      keeps_served r below ready replied closed' over' ends same host' is journal' more said' says =
          let grown = events_more journal Serve (Some r) in
          let counted = d.counted in
          let there : is_there host.hosting.pending ≡ true = ready_there host.hosting.pending host.hosting.queue host.hosting.tracees ready in
          let q = there_is host.hosting.pending there in
          let gone : (after host Serve).hosting.pending ≡ None = none_there (after host Serve).hosting.pending (answered_free linux outcome_in host.hosting host.hosting.pending r replied) in
          subst (λ (s : List Said). Keeps (held_by boot host' journal' s limit closed' failed cut over') (events + 1) last false) (sym says)
          (subst (λ (j : List Entry). Keeps (held_by boot host' j (said ++ Answered r ∷ []) limit closed' failed cut over') (events + 1) last false) (sym more)
          (subst (λ (h : HostState). Keeps (held_by boot h (journal ++ Did Serve (Some r) ∷ []) (said ++ Answered r ∷ []) limit closed' failed cut over') (events + 1) last false) (sym is) (
            λ e. absurd (cc (e, whole)),
            λ _. record {
              kept = record {
                accepted = d.kept.accepted;
                replayed = replayed Serve (Some r) there (sym replied);
                follow = d.kept.follow;
                whole = refl;
                few = omega (arith, grown, counted, below);
                over = λ e. ends ∙ sym (over_more journal (Did Serve (Some r)) free) ∙ e;
                if_open = λ _. uncut;
                cut_so = none_is_so (held_by boot (after host Serve) (journal ++ Did Serve (Some r) ∷ []) (said ++ Answered r ∷ []) limit closed' failed cut over') cut uncut;
                cycled = in_cycle_more boot.follow journal (Did Serve (Some r)) (first_of boot) host.hosting 0 d.kept.replayed d.kept.cycled refl;
                shut = λ e. sym same ∙ e;
                heard =
                    subst (λ (z : Option Request). IsHeard over' (journal ++ Did Serve (Some r) ∷ []) (said ++ Answered r ∷ []) z) (sym gone)
                    (heard_over journal said q.0 r (subst (λ (z : Option Request). IsHeard false journal said z) q.1 hears) over');
              };
              counted = omega (arith, grown, counted);
              latest = d.latest ∙ sym (last_served journal (Some r) 0);
              waits = sym (ap is_there gone);
            },
          )))

-- where the last reply was given, the journal tells of what was said
pub tells : (h : HeldState) → Kept h → h.over ≡ true → (given : List (Request × Reply)) → h.said ≡ spoken given → Told h.journal given
tells h kept over given is =
    let heard : IsHeard true h.journal h.said h.host.hosting.pending = subst (λ (b : Bool). IsHeard b h.journal h.said h.host.hosting.pending) over kept.heard in
    subst (λ (g : List (Request × Reply)). Told h.journal g) (ap pairs is ∙ pairs_spoken given) heard.1
