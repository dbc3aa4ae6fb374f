-- A link in memory answers a list of requests as the ptrace machine does, which its schedule feeds.
use Rattle.std.proofs.Common.{◌≡◌, ◌+◌, ◌<◌, ◌^◌, true, false, List, [], ◌∷◌, ◌++◌, length, map, Option, Some, None, Ok, Err, arith, refl, sym, ap, ap₂, subst, ◌∙◌, inl, inr, append-nil, append_assoc}
use Rattle.std.specs.Prelude.{is_none}
use Rattle.lx_abi.specs.declared.ptrace.Reply.{Reply}
use Rattle.lx_abi.specs.declared.ptrace.Reply.TheVariants.{OutOfTurns as Out_of_turns}
use Rattle.lx_abi.specs.declared.ptrace.Request.{Request}
use Rattle.lx_abi.specs.declared.schedule.Event.{Event}
use Rattle.lx_proc.specs.declared.state.Shared.{Shared}
use Rattle.lx_proc.specs.declared.state.UserState.{UserState}
use Rattle.lx_turn.specs.Linux.{linux}
use Rattle.lx_kernel.specs.Outcomes.{outcome_in}
use Rattle.pt_model.specs.Attending.{answers_to, called, reply_or}
use Rattle.pt_model.specs.Hosting.{host_in, IsFresh, with_pending, hosting_asked}
use Rattle.pt_model.specs.HostLaws.{HostsBeginAlike}
use Rattle.pt_model.specs.Ptrace.{Host, is_there}
use Rattle.pt_kernel.specs.Attends.{Attended}
use Rattle.pt_kernel.specs.Hosts.{HostState, Linux_host, is_boot}
use Rattle.pt_kernel.specs.Seen.{next_of_host, IsCalled, HostsAreCalled}
use Rattle.pt_schedule.specs.declared.schedule.Schedule.{Schedule}
use Rattle.host_link.specs.LocalLinks.{Calls, IsIdle, faults_of, given_of, host_of, is_over, schedule_of}
use Rattle.host_link.specs.Locals.{Serves, reply_or_over}
use Rattle.host_link.specs.RequestLists.{FeedsList, host_after, left_asked, turns_to}
use Rattle.host_link.specs.LinkLists.{AnswersAll, IsServing, CountsAll, FirstLinksServe, LinksServeLists, ListsFailForMemory, ListsHaveOneAnswer, ServesList}
use Rattle.host_link.specs.declared.fault.LinkFault.{LinkFault}
use Rattle.host_link.specs.declared.fault.LinkFault.TheVariants.{Memory}
use Rattle.host_link.specs.declared.local.LocalLink.{LocalLink}
use Rattle.host_link.proofs.Idle.{idle_fails_for_memory, reply_leaves_idle}
use Rattle.host_link.proofs.RequestLists.{Goes, ends, fed_alike, feeds_on, goes_on, over_host, over_turns}

put_is : (v w : Linux_host) (q : Request) (x : Option Request) → hosting_asked v q x ≡ Some w → w ≡ with_pending v (Some q)
put_is v w q None e = sym (cc e)
put_is v w q (Some other) e = absurd (cc e)

-- ---- once the schedule has ended

record Over (b c : LocalLink) (xs : List (Request × Reply)) : Type 0 where
  host : host_of c ≡ host_of b
  replies : (h : Host Shared UserState) → map (λ x. x.1) xs ≡ answers_to linux outcome_in h (map (λ x. x.0) xs) []

-- a call then answers so, and changes nothing
over_call : (a b : LocalLink) (q : Request) (r : Reply) → is_over a ≡ true → Calls a q (Ok r) b → (r ≡ Out_of_turns) × (host_of b ≡ host_of a) × (is_over b ≡ true)
unfolding Calls
over_call a b q r over (inl c) = (c.1.0, c.1.1.0, c.1.1.1.1.0)
over_call a b q r over (inr c) = absurd (cc (sym over ∙ c.0))

over_all : (xs : List (Request × Reply)) (b c : LocalLink) → is_over b ≡ true → AnswersAll b xs c → Over b c xs
over_all [] b c over k = record { host = ap host_of k; replies = λ h. refl }
over_all (x ∷ xs) b c over k =
    let one = over_call b k.0 x.0 x.1 over k.1.0 in
    let more : Over k.0 c xs = over_all xs k.0 c one.2 k.1.1 in
    record { host = more.host ∙ one.1; replies = λ h. ap₂ (λ r rs. r ∷ rs) one.0 (more.replies h) }

-- ---- one call, and those after it

module _ (called_so : HostsAreCalled) where
  serves_so : (a : HostState) (s : Schedule) (q : Request) (z : Attended) → IsFresh a.hosting → a.failed ≡ false → (sv : Serves a s q z) → IsCalled (with_pending a.hosting (Some q)) s q z sv.attends.fed
  serves_so a s q z fresh whole sv =
      let put : sv.asked.hosting ≡ with_pending a.hosting (Some q) = put_is a.hosting sv.asked.hosting q a.hosting.pending sv.put in
      subst (λ (v : Linux_host). IsCalled v s q z sv.attends.fed) put
      (called_so sv.asked s q z (subst (λ (v : Linux_host). IsFresh v) (sym put) fresh) (ap (λ (h : HostState). h.failed) sv.rest ∙ whole) (ap (λ (v : Linux_host). v.pending) put) sv.attends)

  abbrev after : LocalLink → Option Reply → Attended
  after b x = record { host = host_of b; schedule = schedule_of b; reply = x }

  abbrev asks_of : List (Request × Reply) → List Request
  asks_of xs = map (λ x. x.0) xs

  abbrev replies_of : List (Request × Reply) → List Reply
  replies_of xs = map (λ x. x.1) xs

  -- the host answered, and goes on
  answered : (xs : List (Request × Reply)) (a b c : LocalLink) (q : Request) (r s : Reply) (fed : List Event) → IsCalled (with_pending (host_of a).hosting (Some q)) (schedule_of a) q (after b (Some s)) fed → r ≡ s
      → ServesList b (asks_of xs) (replies_of xs) c → ServesList a (q ∷ asks_of xs) (r ∷ replies_of xs) c
  answered xs a b c q r s fed k said more =
      let h : Host Shared UserState = host_in (host_of a).hosting in
      let g : Goes linux outcome_in h q (asks_of xs) fed more.events (called linux outcome_in h q fed) = goes_on linux outcome_in h q (asks_of xs) fed more.events k.used (ap is_there k.reply) in
      record {
        events = fed ++ more.events;
        given =
            feeds_on next_of_host linux outcome_in q (asks_of xs) fed more.events (schedule_of a) k.left h k.gives k.used
            (subst (λ z. FeedsList next_of_host linux outcome_in k.left (called linux outcome_in h q fed).host (left_asked q (asks_of xs) z) more.events) (sym k.reply)
            (subst (λ z. FeedsList next_of_host linux outcome_in k.left z (asks_of xs) more.events) (sym k.host)
            (subst (λ z. FeedsList next_of_host linux outcome_in z (host_in (host_of b).hosting) (asks_of xs) more.events) (k.goes_on refl) more.given)));
        replies = ap₂ (λ x y. x ∷ y) (said ∙ ap reply_or (sym k.reply)) (more.replies ∙ ap (λ z. answers_to linux outcome_in z (asks_of xs) more.events) (sym k.host)) ∙ sym g.replies;
        host = more.host ∙ ap (λ z. host_after linux outcome_in z (asks_of xs) more.events) (sym k.host) ∙ sym g.host;
        turned =
            more.turned
            ∙ ap₂ (λ x y. x ++ y) k.turned (ap (λ z. turns_to linux outcome_in z (asks_of xs) more.events) (sym k.host))
            ∙ append_assoc (host_of a).hosting.turns (called linux outcome_in h q fed).turns (turns_to linux outcome_in (called linux outcome_in h q fed).host (asks_of xs) more.events)
            ∙ ap (λ l. (host_of a).hosting.turns ++ l) (sym g.turned);
      }

  -- the schedule ended before
  ended : (xs : List (Request × Reply)) (a b c : LocalLink) (q : Request) (r : Reply) (fed : List Event) → IsCalled (with_pending (host_of a).hosting (Some q)) (schedule_of a) q (after b None) fed → r ≡ Out_of_turns
      → Over b c xs → ServesList a (q ∷ asks_of xs) (r ∷ replies_of xs) c
  ended xs a b c q r fed k said over =
      let h : Host Shared UserState = host_in (host_of a).hosting in
      let last : Host Shared UserState = (called linux outcome_in h q fed).host in
      let g : Goes linux outcome_in h q (asks_of xs) fed [] (called linux outcome_in h q fed) = ends linux outcome_in h q (asks_of xs) fed k.used in
      record {
        events = fed ++ [];
        given =
            feeds_on next_of_host linux outcome_in q (asks_of xs) fed [] (schedule_of a) k.left h k.gives k.used
            (subst (λ z. FeedsList next_of_host linux outcome_in k.left last (left_asked q (asks_of xs) z) []) (sym k.reply)
            (subst (λ z. FeedsList next_of_host linux outcome_in k.left z (q ∷ asks_of xs) []) (sym k.host) (k.ended refl)));
        replies = ap₂ (λ x y. x ∷ y) (said ∙ ap reply_or (sym k.reply)) (over.replies last) ∙ sym g.replies;
        host = ap (λ (z : HostState). host_in z.hosting) over.host ∙ sym k.host ∙ sym (over_host linux outcome_in (asks_of xs) last) ∙ sym g.host;
        turned =
            ap (λ (z : HostState). z.hosting.turns) over.host ∙ k.turned
            ∙ ap (λ l. (host_of a).hosting.turns ++ l)
            (sym (append-nil (called linux outcome_in h q fed).turns) ∙ ap (λ l. (called linux outcome_in h q fed).turns ++ l) (sym (over_turns linux outcome_in (asks_of xs) last)) ∙ sym g.turned);
      }

  by_reply : (xs : List (Request × Reply)) (a b c : LocalLink) (q : Request) (r : Reply) (x : Option Reply) (fed : List Event) → IsCalled (with_pending (host_of a).hosting (Some q)) (schedule_of a) q (after b x) fed
      → r ≡ reply_or_over x → is_over b ≡ is_none x → AnswersAll b xs c → (IsServing b → ServesList b (asks_of xs) (replies_of xs) c) → ServesList a (q ∷ asks_of xs) (r ∷ replies_of xs) c
  by_reply xs a b c q r (Some s) fed k said over rest again = answered xs a b c q r s fed k said (again (record { fresh = k.fresh; whole = k.whole; going = over }))
  by_reply xs a b c q r None fed k said over rest again = ended xs a b c q r fed k said (over_all xs b c over rest)

  by_call : (xs : List (Request × Reply)) (a b c : LocalLink) (q : Request) (r : Reply) → IsServing a → Calls a q (Ok r) b → AnswersAll b xs c → (IsServing b → ServesList b (asks_of xs) (replies_of xs) c) → ServesList a (q ∷ asks_of xs) (r ∷ replies_of xs) c
  unfolding Calls
  by_call xs a b c q r serving (inl k) rest again = absurd (cc (sym serving.going ∙ k.0))
  by_call xs a b c q r serving (inr k) rest again =
      by_reply xs a b c q r k.1.1.0 k.1.1.1.0.attends.fed (serves_so (host_of a) (schedule_of a) q (after b k.1.1.0) serving.fresh serving.whole k.1.1.1.0) k.1.1.1.1.0 k.1.1.1.1.1.0 rest again

  serve_list : (xs : List (Request × Reply)) (a c : LocalLink) → IsServing a → AnswersAll a xs c → ServesList a (asks_of xs) (replies_of xs) c
  serve_list [] a c serving k = record {
    events = [];
    given = refl;
    replies = refl;
    host = ap (λ (l : LocalLink). host_in (host_of l).hosting) k;
    turned = ap (λ (l : LocalLink). (host_of l).hosting.turns) k ∙ sym (append-nil (host_of a).hosting.turns);
  }
  serve_list (x ∷ xs) a c serving k = by_call xs a k.0 c x.0 x.1 serving k.1.0 k.1.1 (λ s. serve_list xs k.0 c s k.1.1)

pub links_serve_lists : HostsAreCalled → LinksServeLists
links_serve_lists called_so a b xs serving k = serve_list called_so xs a b serving k

-- ---- what is given to a list is given in one way

pub lists_have_one_answer : ListsHaveOneAnswer
lists_have_one_answer a qs rs ss b c k l =
    let h : Host Shared UserState = host_in (host_of a).hosting in
    let same : k.events ≡ l.events = fed_alike next_of_host linux outcome_in k.events l.events (schedule_of a) h qs k.given l.given in (
      k.replies ∙ ap (λ es. answers_to linux outcome_in h qs es) same ∙ sym l.replies,
      k.host ∙ ap (λ es. host_after linux outcome_in h qs es) same ∙ sym l.host,
    )

-- ---- where it begins, and how it may fail

pub first_links_serve : HostsBeginAlike Shared UserState → FirstLinksServe
first_links_serve begin a s b first whole going =
    record { fresh = subst (λ (v : Linux_host). IsFresh v) (sym first) (begin s b).1; whole = whole; going = going }

fails_for_memory : (xs : List (Request × Reply)) (a b c : LocalLink) (q : Request) (f : LinkFault) → IsIdle a → faults_of a ≡ 0 → given_of a + length xs < 2 ^ 40 → is_boot q ≡ false → CountsAll a xs b → Calls b q (Err f) c → f ≡ Memory
fails_for_memory [] a b c q f idle whole few request k failed =
    idle_fails_for_memory b c q f (ap faults_of k ∙ whole) (omega (arith, ap given_of k, few)) (subst (λ l. IsIdle l) (sym k) idle) request failed
fails_for_memory (x ∷ xs) a b c q f idle whole few request k failed =
    fails_for_memory xs k.0 b c q f (reply_leaves_idle a k.0 x.0 x.1 k.1.0) (k.1.1.1.0 ∙ whole) (omega (arith, k.1.1.0, few)) request k.1.1.1.1 failed

pub lists_fail_for_memory : ListsFailForMemory
lists_fail_for_memory a b c xs q f idle whole few request k failed = fails_for_memory xs a b c q f idle whole few request k failed
