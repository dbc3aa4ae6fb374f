-- Many rounds.
use Rattle.std.proofs.Common.{◌≡◌, ℕ, suc, ◌+◌, ◌≤◌, ◌^◌, List, [], ◌∷◌, ◌++◌, Option, Some, None, Ok, Err, refl, sym, ap, subst, ◌∙◌, arith, append_assoc}
use Rattle.std.specs.Prelude.{IfSome, false, true, length}
use Rattle.std.proofs.KnownBytes.{Appends-nil, Appends-trans}
use Rattle.std.proofs.lemmas.List.{map-append, append-nil}
use Rattle.std.specs.Io.KnownBytes.{Appends}
use Rattle.lx_abi.specs.declared.ptrace.Reply.{Reply}
use Rattle.lx_abi.specs.declared.ptrace.Reply.TheVariants.{Done as Agreed}
use Rattle.lx_abi.specs.declared.ptrace.Request.{Request}
use Rattle.tr_core.specs.declared.tracing.TraceFault.TheVariants.{Inadmissible, Memory}
use Rattle.tr_core.specs.States.{State, heard, said, request_of, is_faulted, admitted, taken_of, told, text}
use Rattle.tr_core.proofs.Told.{taken-heard, told-snoc, text-snoc}
use Rattle.trace_run.specs.declared.running.RunFault.{RunFault}
use Rattle.trace_run.specs.declared.running.RunFault.TheVariants.{Link, Trace, Output}
use Rattle.trace_run.specs.Runs.{Answers, Leads, Asked, replies_of, Ends, Round, sizes, Writes, FailsAtLast, Last, Runs}
use Rattle.trace_run.specs.Writers.{Writer, PutsWhole, PutsPart}

-- Puts

none_written : (s : State) (w : Writer) → Writes s [] w w
none_written s w = record { written = Appends-nil w.contents; counted = sym (append-nil w.puts); unbroken = refl }

sizes-snoc : (s : State) (rs : List Reply) (r : Reply) → sizes s (rs ++ r ∷ []) ≡ sizes s rs ++ length (said (told s rs) r) ∷ []
sizes-snoc s [] r = refl
sizes-snoc s (q ∷ rs) r = ap (λ l. length (said s q) ∷ l) (sizes-snoc (heard s q) rs r)

-- one more put
written-snoc : (s : State) (rs : List Reply) (r : Reply) (a b c : Writer) → Writes s rs a b → PutsWhole b c (said (told s rs) r) → Writes s (rs ++ r ∷ []) a c
written-snoc s rs r a b c w p = record {
  written = subst (Appends a.contents c.contents) (sym (text-snoc s rs r)) (Appends-trans a.contents b.contents c.contents (text s rs) (said (told s rs) r) w.written p.written);
  counted =
      p.counted ∙ ap (λ l. l ++ length (said (told s rs) r) ∷ []) w.counted ∙ append_assoc a.puts (sizes s rs) (length (said (told s rs) r) ∷ []) ∙ ap (λ l. a.puts ++ l) (sym (sizes-snoc s rs r));
  unbroken = p.unbroken ∙ w.unbroken;
}

-- Exchanges

leads-snoc : {L : Type 0} (answers : Answers L) (a b c : L) (xs : List (Request × Reply)) (q : Request) (r : Reply) → Leads answers a xs b → answers b q (Ok r) c → Leads answers a (xs ++ (q, r) ∷ []) c
leads-snoc answers a b c [] q r h k = (c, (subst (λ l. answers l q (Ok r) c) h k, refl))
leads-snoc answers a b c (x ∷ xs) q r h k = (h.0, (h.1.0, leads-snoc answers h.0 b c xs q r h.1.1 k))

asked-snoc : (s : State) (xs : List (Request × Reply)) (q : Request) (r : Reply) → Asked s xs → request_of (told s (replies_of xs)) ≡ Some q → Asked s (xs ++ (q, r) ∷ [])
asked-snoc s [] q r h e = (e, tt)
asked-snoc s (x ∷ xs) q r h e = (h.0, asked-snoc (heard s x.1) xs q r h.1 e)

replies-snoc : (xs : List (Request × Reply)) (q : Request) (r : Reply) → replies_of (xs ++ (q, r) ∷ []) ≡ replies_of xs ++ r ∷ []
replies-snoc xs q r = map-append (λ x. x.1) xs ((q, r) ∷ [])

-- between two rounds: this reply was not heard yet
pub record Going {L : Type 0} (answers : Answers L) (given : L → ℕ) (a : Ends L) (r : Reply) (b : Ends L) : Type 0 where
  pub before : List Reply
  pub exchanges : List (Request × Reply)
  pub are : Agreed ∷ replies_of exchanges ≡ before ++ r ∷ []
  pub state : b.state ≡ told a.state before
  pub writes : Writes a.state before a.writer b.writer
  pub led : Leads answers a.link exchanges b.link
  pub asked : Asked (heard a.state Agreed) exchanges
  pub taken : taken_of b.state ≤ given b.link
  pub room : taken_of b.state ≤ 2 ^ 40

module _ {L : Type 0} (answers : Answers L) (given : L → ℕ) (a : Ends L) where
  pub starts : taken_of a.state ≡ 0 → Going answers given a Agreed a
  starts e = record {
    before = [];
    exchanges = [];
    are = refl;
    state = refl;
    writes = none_written a.state a.writer;
    led = refl;
    asked = tt;
    taken = omega (arith, e);
    room = omega (arith, e);
  }

  module _ (r : Reply) (b : Ends L) (i : Going answers given a r b) where
    -- the state after the reply
    heard_so_far : (c : Ends L) → c.state ≡ heard b.state r → c.state ≡ told a.state (Agreed ∷ replies_of i.exchanges)
    heard_so_far c e = e ∙ ap (λ s. heard s r) i.state ∙ sym (told-snoc a.state i.before r) ∙ ap (told a.state) (sym i.are)

    -- and what is written, where it was put whole
    whole_so_far : (c : Ends L) → PutsWhole b.writer c.writer (said b.state r) → Writes a.state (Agreed ∷ replies_of i.exchanges) a.writer c.writer
    whole_so_far c w =
        subst (λ rs. Writes a.state rs a.writer c.writer) (sym i.are) (written-snoc a.state i.before r a.writer b.writer c.writer i.writes (subst (λ s. PutsWhole b.writer c.writer (said s r)) i.state w))

    -- where the run failed at this reply
    at_last : (fails : State → Reply → Writer → Type 0) → fails b.state r b.writer → FailsAtLast a.state (Agreed ∷ replies_of i.exchanges) a.writer fails
    at_last fails f = record {
      before = i.before;
      reply = r;
      split = i.are;
      writer = b.writer;
      writes = i.writes;
      failed = subst (λ s. fails s r b.writer) i.state f;
    }

    -- one more round
    pub goes : (next : Reply) (c : Ends L) → Round answers b r (Ok (Some next)) c → given c.link ≡ given b.link + 1 → given c.link ≤ 2 ^ 40 → Going answers given a next c
    unfolding Round
    goes next c h one most =
        let q : Request = h.2.0 in
        let now = heard_so_far c h.0 in
        let taken : taken_of c.state ≤ given c.link = omega (arith, one, subst (λ s. taken_of s ≤ suc (taken_of b.state)) (sym h.0) (taken-heard b.state r), i.taken) in
        record {
          before = i.before ++ r ∷ [];
          exchanges = i.exchanges ++ (q, next) ∷ [];
          are = ap (λ rs. Agreed ∷ rs) (replies-snoc i.exchanges q next) ∙ ap (λ rs. rs ++ next ∷ []) i.are;
          state = now ∙ ap (told a.state) i.are;
          writes = subst (λ rs. Writes a.state rs a.writer c.writer) i.are (whole_so_far c h.1);
          led = leads-snoc answers a.link b.link c.link i.exchanges q next i.led h.2.1.1;
          asked = asked-snoc (heard a.state Agreed) i.exchanges q next i.asked (ap request_of (sym now) ∙ h.2.1.0);
          taken = taken;
          room = omega (arith, taken, most);
        }

    -- the last round
    pub ended : (c : Ends L) → Round answers b r (Ok None) c → Runs answers a (Ok tt) c
    unfolding Round Last
    ended c h =
        let now = heard_so_far c h.0 in
        record {
          exchanges = i.exchanges;
          link = b.link;
          led = i.led;
          asked = i.asked;
          last = (now, whole_so_far c h.1, ap is_faulted (sym now) ∙ h.2, ap request_of (sym now) ∙ h.3, h.4);
        }

    pub failed : (fault : RunFault) (c : Ends L) → Round answers b r (Err fault) c → Runs answers a (Err fault) c
    unfolding Round Last
    failed (Link f) c h =
        let now = heard_so_far c h.0 in
        record {
          exchanges = i.exchanges;
          link = b.link;
          led = i.led;
          asked = i.asked;
          last = (now, whole_so_far c h.1, (h.2.0, (ap request_of (sym now) ∙ h.2.1.0, h.2.1.1)));
        }
    failed (Trace Inadmissible) c h = record {
      exchanges = i.exchanges;
      link = b.link;
      led = i.led;
      asked = i.asked;
      last = (heard_so_far c h.0, at_last (λ s q w. (admitted s q ≡ false) × (c.writer ≡ w)) (h.1, h.2), h.3);
    }
    failed (Trace Memory) c h = record {
      exchanges = i.exchanges;
      link = b.link;
      led = i.led;
      asked = i.asked;
      last = (at_last (λ s q w. (s.failed ≡ false → admitted s q ≡ true) × (c.writer ≡ w)) (h.0, h.1), h.2);
    }
    failed Output c h =
        let now = heard_so_far c h.0 in
        record {
          exchanges = i.exchanges;
          link = b.link;
          led = i.led;
          asked = i.asked;
          last = (now, at_last (λ s q w. PutsPart w c.writer (said s q)) h.1, ap is_faulted (sym now) ∙ h.2, h.3);
        }

    -- the same, of what the round answered
    pub goes_by : (o : Option Reply) (next : Reply) → o ≡ Some next → (c : Ends L) → Round answers b r (Ok o) c → IfSome o (λ _. (given c.link ≡ given b.link + 1) × (given c.link ≤ 2 ^ 40)) → Going answers given a next c
    goes_by None next e c h k = absurd (cc e)
    goes_by (Some n) next e c h k = subst (λ m. Going answers given a m c) (cc e) (goes n c h k.0 k.1)

    pub ended_by : (o : Option Reply) → o ≡ None → (c : Ends L) → Round answers b r (Ok o) c → Runs answers a (Ok tt) c
    ended_by None e c h = ended c h
    ended_by (Some n) e c h = absurd (cc e)
