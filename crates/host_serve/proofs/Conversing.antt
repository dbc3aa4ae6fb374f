-- A conversation goes on by a request and its reply, and ends.
use Rattle.std.proofs.Common.{◌≡◌, ℕ, ◌+◌, ◌≤◌, ◌^◌, List, [], ◌∷◌, ◌++◌, Option, Some, None, Result, Ok, Err, length, refl, sym, ap, subst, ◌∙◌, inl, inr, append_assoc, append-nil, arith}
use Rattle.std.specs.Io.KnownBytes.{Appends, Consumes}
use Rattle.std.proofs.KnownBytes.{Appends-nil, Appends-trans, Consumes-nil, Consumes-trans}
use Rattle.lx_abi.specs.declared.outcome.Outcome.{Outcome}
use Rattle.lx_abi.specs.declared.ptrace.Reply.{Reply}
use Rattle.lx_abi.specs.declared.ptrace.Request.{Request}
use Rattle.host_wire.specs.Ends.{Input, IsPut}
use Rattle.host_frame.specs.Spelling.{CanBeSpelled, spelled, reply_frame}
use Rattle.host_wire.specs.Streams.{Going, goes_on}
use Rattle.host_wire.proofs.Gathered.{unread}
use Rattle.host_wire.proofs.Streams.{frames_join}
use Rattle.host_serve.specs.declared.fault.ServeFault.{ServeFault}
use Rattle.host_serve.specs.declared.fault.ServeFault.TheVariants.{Read, Write, Wire, Order, Failed}
use Rattle.host_serve.specs.declared.session.Phase.{Phase}
use Rattle.host_serve.specs.declared.session.Phase.TheVariants.{Waiting, Refused as Refusing, Serving}
use Rattle.host_serve.specs.Requests.{IsOther, Next, request_frame}
use Rattle.host_serve.specs.Serving.{Boots, Answers, IsSentInPart, IsTooLong, SentAs, Answered, CanAnswer, Fails, Finishes, IsDue, Responds, Served, Serves, Unsent, outcome_at, replies_of}

-- one put more
put_more : (a sizes : List ℕ) (n : ℕ) {b c : List ℕ} → b ≡ a ++ sizes → c ≡ b ++ n ∷ [] → c ≡ a ++ (sizes ++ n ∷ [])
put_more a sizes n so_far more = more ∙ ap (λ (xs : List ℕ). xs ++ n ∷ []) so_far ∙ append_assoc a sizes (n ∷ [])

pub next_is : {b c : Input} {most number : ℕ} {o p : Option Request} → o ≡ p → Next most b (Ok o) number c → Next most b (Ok p) number c
next_is {b} {c} {most} {number} is n = subst (λ (x : Option Request). Next most b (Ok x) number c) is n

-- the request of a number up to 2^40 is one that a session can answer
pub can_answer : {S : Type 0} {number : ℕ} (ready : S → Type 0) (given : S → ℕ) (phase : Phase S) → IsDue ready given phase number → number ≤ 2 ^ 40 → CanAnswer ready given phase
can_answer ready given Waiting due few = tt
can_answer ready given Refusing due few = tt
can_answer ready given (Serving s) due few = (due.0, omega (arith, due.1, few))

module _ {S : Type 0} {most : ℕ} {boots : Boots S} {answers : Answers S} where
  pub starts : (a : Input) (old : Option (List ℕ)) (puts : List ℕ) → Serves most boots answers a a old old puts puts Waiting 1
  unfolding goes_on
  starts a old puts = record { exchanges = []; came = []; consumed = Consumes-nil a.remaining; led = refl; asked = refl; taken = (refl, refl); written = (Appends-nil old, sym (append-nil puts)); fit = tt; counted = refl }

  -- nothing was read or written
  pub fails_first : {left : S → Outcome} (a : Input) (old : Option (List ℕ)) (puts : List ℕ) (broken_writer : ℕ) → Served most boots answers left a a old old puts puts (Err Failed) broken_writer
  unfolding goes_on
  fails_first a old puts broken_writer = record {
    exchanges = [];
    phase = Waiting;
    middle = a;
    came = [];
    rest = [];
    consumed = Consumes-nil a.remaining;
    led = refl;
    asked = refl;
    taken = (refl, refl);
    last = unread a;
    ended = tt;
    written = (Appends-nil old, sym (append-nil puts));
    fit = tt;
  }

  pub goes_further : {a b c : Input} {d e f : Option (List ℕ)} {u v w : List ℕ} {phase : Phase S} {number : ℕ} (next : Phase S) (q : Request) (r : Reply)
      → Serves most boots answers a b d e u v phase number → Next most b (Ok (Some q)) number c → Answered boots answers phase q r next → SentAs (Ok tt) number r e f v w 0 → Serves most boots answers a c d f u w next (number + 1)
  goes_further {a} {b} {c} {d} {e} {f} {v = v} {w = w} {phase = phase} {number = number} next q r s n answered sent = record {
    exchanges = (q, r) ∷ s.exchanges;
    came = s.came ++ n.came;
    consumed = Consumes-trans a.remaining b.remaining c.remaining s.came n.came s.consumed n.received.consumed;
    led = (phase, (s.led, answered));
    taken = (b, (s.came, (n.came, (refl, (s.taken, (n.received, n.so ∙ ap (λ (k : ℕ). Going (request_frame k q ∷ []) []) s.counted))))));
    asked = frames_join _ s.came n.came _ s.asked (n.so ∙ ap (λ (k : ℕ). Going (request_frame k q ∷ []) []) s.counted);
    written = (
      Appends-trans d e f _ _ s.written.0 (subst (λ (k : ℕ). Appends e f (spelled (reply_frame k r))) s.counted sent.0),
      put_more _ _ _ s.written.1 (subst (λ (k : ℕ). IsPut v w (spelled (reply_frame k r))) s.counted sent.1.0),
    );
    fit = (subst (λ (k : ℕ). CanBeSpelled (reply_frame k r)) s.counted sent.1.1, s.fit);
    counted = omega (arith, s.counted);
  }

  pub ends_well : {left : S → Outcome} {a b c : Input} {d e : Option (List ℕ)} {u v : List ℕ} {phase : Phase S} {number broken_writer : ℕ} (outcome : Outcome)
      → Serves most boots answers a b d e u v phase number → Next most b (Ok None) number c → outcome ≡ outcome_at left phase → Served most boots answers left a c d e u v (Ok outcome) broken_writer
  ends_well {a = a} {b = b} {c = c} {phase = phase} outcome s n is = record {
    exchanges = s.exchanges;
    phase = phase;
    middle = b;
    came = s.came;
    rest = n.came;
    consumed = Consumes-trans a.remaining b.remaining c.remaining s.came n.came s.consumed n.received.consumed;
    led = s.led;
    asked = s.asked;
    taken = s.taken;
    last = n.received;
    ended = (n.so.0, (n.so.1.0, n.so.1.1, is));
    written = s.written;
    fit = s.fit;
  }

  pub ends_failed : {left : S → Outcome} {a b c : Input} {d e : Option (List ℕ)} {u v : List ℕ} {phase : Phase S} {number broken_writer : ℕ} {next : Option Request}
      → Serves most boots answers a b d e u v phase number → Next most b (Ok next) number c → Served most boots answers left a c d e u v (Err Failed) broken_writer
  ends_failed {a = a} {b = b} {c = c} {phase = phase} s n = record {
    exchanges = s.exchanges;
    phase = phase;
    middle = b;
    came = s.came;
    rest = n.came;
    consumed = Consumes-trans a.remaining b.remaining c.remaining s.came n.came s.consumed n.received.consumed;
    led = s.led;
    asked = s.asked;
    taken = s.taken;
    last = n.received;
    ended = tt;
    written = s.written;
    fit = s.fit;
  }

  pub ends_reading : {left : S → Outcome} {a b c : Input} {d e : Option (List ℕ)} {u v : List ℕ} {phase : Phase S} {number broken_writer : ℕ} (fault : ServeFault)
      → Serves most boots answers a b d e u v phase number → Next most b (Err fault) number c → Served most boots answers left a c d e u v (Err fault) broken_writer
  ends_reading {a = a} {b = b} {c = c} {phase = phase} Read s n = record {
    exchanges = s.exchanges;
    phase = phase;
    middle = b;
    came = s.came;
    rest = n.came;
    consumed = Consumes-trans a.remaining b.remaining c.remaining s.came n.came s.consumed n.received.consumed;
    led = s.led;
    asked = s.asked;
    taken = s.taken;
    last = n.received;
    ended = inl n.so;
    written = s.written;
    fit = s.fit;
  }
  ends_reading {a = a} {b = b} {c = c} {phase = phase} Wire s n = record {
    exchanges = s.exchanges;
    phase = phase;
    middle = b;
    came = s.came;
    rest = n.came;
    consumed = Consumes-trans a.remaining b.remaining c.remaining s.came n.came s.consumed n.received.consumed;
    led = s.led;
    asked = s.asked;
    taken = s.taken;
    last = n.received;
    ended = inl n.so;
    written = s.written;
    fit = s.fit;
  }
  ends_reading {a = a} {b = b} {c = c} {phase = phase} Order s n = record {
    exchanges = s.exchanges;
    phase = phase;
    middle = b;
    came = s.came;
    rest = n.came;
    consumed = Consumes-trans a.remaining b.remaining c.remaining s.came n.came s.consumed n.received.consumed;
    led = s.led;
    asked = s.asked;
    taken = s.taken;
    last = n.received;
    ended = (n.so.0, (n.so.1.0, inl (subst (λ (k : ℕ). IsOther n.so.0 k) s.counted n.so.1.1)));
    written = s.written;
    fit = s.fit;
  }
  ends_reading Write s n = absurd n.so
  ends_reading {a = a} {b = b} {c = c} {phase = phase} Failed s n = record {
    exchanges = s.exchanges;
    phase = phase;
    middle = b;
    came = s.came;
    rest = n.came;
    consumed = Consumes-trans a.remaining b.remaining c.remaining s.came n.came s.consumed n.received.consumed;
    led = s.led;
    asked = s.asked;
    taken = s.taken;
    last = n.received;
    ended = tt;
    written = s.written;
    fit = s.fit;
  }

  pub ends_asked : {left : S → Outcome} {a b c : Input} {d e : Option (List ℕ)} {u v : List ℕ} {phase : Phase S} {number broken_writer : ℕ} (fails : Fails S) (q : Request) (fault : ServeFault) (next : Phase S)
      → Serves most boots answers a b d e u v phase number → Next most b (Ok (Some q)) number c → Responds boots answers fails phase q (Err fault) next → Served most boots answers left a c d e u v (Err fault) broken_writer
  ends_asked fails q Read next s n h = absurd h
  ends_asked fails q Write next s n h = absurd h
  ends_asked fails q Wire next s n h = absurd h
  ends_asked {a = a} {b = b} {c = c} {phase = phase} fails q Order next s n h = record {
    exchanges = s.exchanges;
    phase = phase;
    middle = b;
    came = s.came;
    rest = n.came;
    consumed = Consumes-trans a.remaining b.remaining c.remaining s.came n.came s.consumed n.received.consumed;
    led = s.led;
    asked = s.asked;
    taken = s.taken;
    last = n.received;
    ended = (request_frame _ q, (n.so, inr (q, (ap (λ (k : ℕ). request_frame k q) s.counted, h))));
    written = s.written;
    fit = s.fit;
  }
  ends_asked fails q Failed next s n h = ends_failed s n

  -- the one request whose reply wasn't sent
  abbrev left_unsent : {a b c : Input} {d e : Option (List ℕ)} {u v : List ℕ} {phase : Phase S} {number : ℕ} (next : Phase S) (q : Request) (r : Reply)
      → (s : Serves most boots answers a b d e u v phase number) → (n : Next most b (Ok (Some q)) number c) → Answered boots answers phase q r next → Unsent boots answers phase (length s.exchanges + 1) n.came
  left_unsent next q r s n answered = record {
    request = q;
    reply = r;
    next = next;
    asked = n.so ∙ ap (λ (k : ℕ). Going (request_frame k q ∷ []) []) s.counted;
    answered = answered;
  }

  pub ends_sending : {left : S → Outcome} {a b c : Input} {d e f : Option (List ℕ)} {u v w : List ℕ} {phase : Phase S} {number broken_writer : ℕ} (next : Phase S) (q : Request) (r : Reply) (fault : ServeFault)
      → Serves most boots answers a b d e u v phase number → Next most b (Ok (Some q)) number c → Answered boots answers phase q r next → SentAs (Err fault) number r e f v w broken_writer → Served most boots answers left a c d f u w (Err fault) broken_writer
  ends_sending next q r Read s n answered sent = absurd sent
  ends_sending next q r Order s n answered sent = absurd sent
  ends_sending {a = a} {b = b} {c = c} {d = d} {e = e} {f = f} {v = v} {w = w} {phase = phase} {number = number} next q r Write s n answered sent = record {
    exchanges = s.exchanges;
    phase = phase;
    middle = b;
    came = s.came;
    rest = n.came;
    consumed = Consumes-trans a.remaining b.remaining c.remaining s.came n.came s.consumed n.received.consumed;
    led = s.led;
    asked = s.asked;
    taken = s.taken;
    last = n.received;
    ended = sent.1;
    written = record {
      whole = e;
      sizes = v;
      written = s.written;
      unsent = left_unsent next q r s n answered;
      part = subst (λ (k : ℕ). IsSentInPart k r e f v w) s.counted sent.0;
    };
    fit = s.fit;
  }
  ends_sending {a = a} {b = b} {c = c} {d = d} {e = e} {f = f} {phase = phase} next q r Wire s n answered sent = record {
    exchanges = s.exchanges;
    phase = phase;
    middle = b;
    came = s.came;
    rest = n.came;
    consumed = Consumes-trans a.remaining b.remaining c.remaining s.came n.came s.consumed n.received.consumed;
    led = s.led;
    asked = s.asked;
    taken = s.taken;
    last = n.received;
    ended = inr (left_unsent next q r s n answered, subst (λ (k : ℕ). IsTooLong k r) s.counted sent.1.1);
    written = (subst (λ (o : Option (List ℕ)). Appends d o (replies_of s.exchanges)) (sym sent.0) s.written.0, sent.1.0 ∙ s.written.1);
    fit = s.fit;
  }
  ends_sending {a = a} {b = b} {c = c} {d = d} {e = e} {f = f} {phase = phase} next q r Failed s n answered sent = record {
    exchanges = s.exchanges;
    phase = phase;
    middle = b;
    came = s.came;
    rest = n.came;
    consumed = Consumes-trans a.remaining b.remaining c.remaining s.came n.came s.consumed n.received.consumed;
    led = s.led;
    asked = s.asked;
    taken = s.taken;
    last = n.received;
    ended = tt;
    written = (subst (λ (o : Option (List ℕ)). Appends d o (replies_of s.exchanges)) (sym sent.0) s.written.0, sent.1 ∙ s.written.1);
    fit = s.fit;
  }

  pub ends_finished : {left : S → Outcome} {a b c : Input} {d e : Option (List ℕ)} {u v : List ℕ} {phase : Phase S} {number broken_writer : ℕ} (result : Result Outcome ServeFault)
      → Serves most boots answers a b d e u v phase number → Next most b (Ok None) number c → Finishes result (outcome_at left phase) → Served most boots answers left a c d e u v result broken_writer
  ends_finished (Ok outcome) s n is = ends_well outcome s n is
  ends_finished (Err Failed) s n is = ends_failed s n
  ends_finished (Err Read) s n is = absurd is
  ends_finished (Err Write) s n is = absurd is
  ends_finished (Err Wire) s n is = absurd is
  ends_finished (Err Order) s n is = absurd is

  -- there were too many frames
  pub ends_late : {left : S → Outcome} {a b : Input} {d e : Option (List ℕ)} {u v : List ℕ} {phase : Phase S} {number broken_writer : ℕ} → number ≡ 2 ^ 40 + 1 → Serves most boots answers a b d e u v phase number → Served most boots answers left a b d e u v (Err Read) broken_writer
  ends_late {a = a} {b = b} {phase = phase} last s = record {
    exchanges = s.exchanges;
    phase = phase;
    middle = b;
    came = s.came;
    rest = [];
    consumed = subst (Consumes a.remaining b.remaining) (sym (append-nil s.came)) s.consumed;
    led = s.led;
    asked = s.asked;
    taken = s.taken;
    last = unread b;
    ended = inr (sym s.counted ∙ last, refl);
    written = s.written;
    fit = s.fit;
  }
