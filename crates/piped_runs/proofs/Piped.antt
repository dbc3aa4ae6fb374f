-- A run over a pipe has the exchanges that a link to the host itself answers.
use Rattle.std.proofs.Common.{◌≡◌, ℕ, ◌+◌, Bool, true, false, not, ◌&&◌, List, [], ◌∷◌, ◌++◌, Option, Some, None, Result, Ok, Err, refl, sym, ap, subst, ◌∙◌, append_assoc, append-nil, inl, inr}
use Rattle.std.specs.Prelude.{⊤}
use Rattle.std.specs.Io.KnownBytes.{Appends, Consumes}
use Rattle.std.proofs.KnownBytes.{Appends-trans}
use Rattle.lx_abi.specs.declared.outcome.Outcome.{Outcome}
use Rattle.lx_abi.specs.declared.boot.Boot.{Boot}
use Rattle.lx_abi.specs.declared.ptrace.Reply.{Reply}
use Rattle.lx_abi.specs.declared.ptrace.Reply.TheVariants.{Done, Refused}
use Rattle.lx_abi.specs.declared.ptrace.Request.{Request}
use Rattle.lx_abi.specs.declared.ptrace.Request.TheVariants.{Boot as Boot_with}
use Rattle.lx_abi.specs.declared.schedule.Word.{Word}
use Rattle.lx_abi.specs.Scripts.{choice_of}
use Rattle.lx_boot.specs.First.{first_shared}
use Rattle.lx_exec.specs.Programs.{booted}
use Rattle.lx_proc.specs.declared.state.Shared.{Shared}
use Rattle.lx_proc.specs.declared.state.UserState.{UserState}
use Rattle.pt_kernel.specs.Hosts.{HostState}
use Rattle.pt_model.specs.Hosting.{IsFresh}
use Rattle.pt_model.specs.HostLaws.{HostsBeginAlike}
use Rattle.host_frame.specs.declared.frame.Frame.{Frame}
use Rattle.host_frame.specs.Spelling.{spelled}
use Rattle.host_wire.specs.Ends.{AppendsPart, Input}
use Rattle.host_link.specs.PipeLinks.{Asks, RepliedTo, given_of, most_of, reader_of, waits_of, writer_of}
use Rattle.host_link.specs.Pipes.{Came, Exchanged as Exchanged_over, SentAs, bytes_of, is_wait, request_frame}
use Rattle.host_link.specs.declared.fault.LinkFault.{LinkFault}
use Rattle.host_link.specs.declared.fault.LinkFault.TheVariants as fault
use Rattle.host_link.specs.declared.local.LocalLink.{LocalLink}
use Rattle.host_link.specs.declared.pipe.PipeLink.{PipeLink}
use Rattle.host_serve.specs.Hosted.{Answers_by, Boots_by, IsFirst, left_by}
use Rattle.host_serve.specs.Serving.{Answered, AreSpelled, Exchanges, Leads as Leads_host, Served, Taken, replies_of}
use Rattle.host_serve.specs.declared.fault.ServeFault.{ServeFault}
use Rattle.host_serve.specs.declared.fault.ServeFault.TheVariants.{Read, Write, Wire, Order, Failed}
use Rattle.host_serve.specs.declared.session.Phase.{Phase}
use Rattle.host_serve.specs.declared.session.Phase.TheVariants.{Waiting, Refused as Refusing, Serving}
use Rattle.host_ends.specs.Recorded.{EndsAgree, Talked, in_turn}
use Rattle.tr_core.specs.States.{State}
use Rattle.tr_core.specs.declared.tracing.TraceFault.TheVariants.{Inadmissible, Memory}
use Rattle.trace_run.specs.BootedRuns.{LinuxRunsTell}
use Rattle.trace_run.specs.LocalRuns.{AnswersItsOwn, LocalLinksAnswerTheirOwn, IsGoing, local_answers}
use Rattle.trace_run.specs.Runs.{Ends, Last, Leads}
use Rattle.trace_run.specs.Writers.{Writer}
use Rattle.trace_run.specs.declared.running.RunFault.{RunFault}
use Rattle.trace_run.specs.declared.running.RunFault.TheVariants.{Link, Trace, Output}
use Rattle.trace_run.proofs.InProcess.{link_tells}
use Rattle.piped_runs.specs.Piped.{PipedRunsTell, piped}

-- ---- the host's end

-- what a host answered, the first first
abbrev Forth : Phase LocalLink → Exchanges → Phase LocalLink → Type 0
Forth a [] b = b ≡ a
Forth a (x ∷ xs) b = (mid : Phase LocalLink) × (Answered Boots_by Answers_by a x.0 x.1 mid × Forth mid xs b)

forth_snoc : (a mid b : Phase LocalLink) (xs : Exchanges) (x : Request × Reply) → Forth a xs mid → Answered Boots_by Answers_by mid x.0 x.1 b → Forth a (xs ++ x ∷ []) b
forth_snoc a mid b [] x f answered = (b, (subst (λ (p : Phase LocalLink). Answered Boots_by Answers_by p x.0 x.1 b) f answered, refl))
forth_snoc a mid b (y ∷ xs) x f answered = (f.0, (f.1.0, forth_snoc f.0 mid b xs x f.1.1 answered))

in_order : (xs : Exchanges) (b : Phase LocalLink) → Leads_host Boots_by Answers_by xs b → Forth Waiting (in_turn xs) b
in_order [] b led = led
in_order (x ∷ xs) b led = forth_snoc Waiting led.0 b (in_turn xs) x (in_order xs led.0 led.1.0) led.1.1

-- the boot was accepted
record IsBegun (boot : Boot) (limit : ℕ) (words : List Word) (xs : Exchanges) (b : Phase LocalLink) : Type 0 where
  host : LocalLink
  is_first : IsFirst boot limit words host
  forth : Forth (Serving host) xs b

begun_by : (boot : Boot) (limit : ℕ) (words : List Word) (xs : Exchanges) (mid b : Phase LocalLink) → Answered Boots_by Answers_by Waiting (Boot_with boot limit words) Done mid → Forth mid xs b → IsBegun boot limit words xs b
begun_by boot limit words xs Waiting b answered f = absurd answered.1.1.1.1
begun_by boot limit words xs Refusing b answered f = let same : Done ≡ Refused answered.1.1.1.1.0 = answered.1.1.1.1.1.0 in absurd cc
begun_by boot limit words xs (Serving host) b answered f =
    let request : Boot_with boot limit words ≡ Boot_with answered.0 answered.1.0 answered.1.1.0 = answered.1.1.1.0 in
    let same_boot : answered.0 ≡ boot = cc in
    let same_limit : answered.1.0 ≡ limit = cc in
    let same_words : answered.1.1.0 ≡ words = cc in
    let first : IsFirst answered.0 answered.1.0 answered.1.1.0 host = answered.1.1.1.1.1 in
    record {
      host = host;
      is_first = subst (λ (v : List Word). IsFirst boot limit v host) same_words (subst (λ (n : ℕ). IsFirst boot n answered.1.1.0 host) same_limit (subst (λ (x : Boot). IsFirst x answered.1.0 answered.1.1.0 host) same_boot first));
      forth = f;
    }

-- the host's first exchanges, as those of a link to it
record IsLed (a : LocalLink) (xs : Exchanges) : Type 0 where
  last : LocalLink
  led : Leads local_answers a xs last

serving_on : (a : LocalLink) (x : Request × Reply) (xs : Exchanges) (mid : Phase LocalLink) → Answered Boots_by Answers_by (Serving a) x.0 x.1 mid → ((t : LocalLink) → mid ≡ Serving t → IsLed t xs) → IsLed a (x ∷ xs)
serving_on a x xs Waiting answered again = absurd answered
serving_on a x xs Refusing answered again = absurd answered
serving_on a x xs (Serving t) answered again =
    let on = again t refl in
    record { last = on.last; led = (t, (record { answered = answered.1.0; counted = answered.1.1.0; faults = answered.1.1.1 }, on.led)) }

led_by : (a : LocalLink) (xs more : Exchanges) (b : Phase LocalLink) → Forth (Serving a) (xs ++ more) b → IsLed a xs
led_by a [] more b f = record { last = a; led = refl }
led_by a (x ∷ xs) more b f = serving_on a x xs f.0 f.1.0 (λ t is. led_by t xs more b (subst (λ (p : Phase LocalLink). Forth p (xs ++ more) b) is f.1.1))

-- ---- the tracer's end

-- what was known of a writer grows by these bytes
grown : (xs bs : List ℕ) (o : Option (List ℕ)) → Appends (Some xs) o bs → o ≡ Some (xs ++ bs)
grown xs bs None appends = absurd appends
grown xs bs (Some ys) appends = ap Some appends

abbrev Grows : List ℕ → Option (List ℕ) → Type 0
Grows xs new = (more : List ℕ) × (new ≡ Some (xs ++ more))

stays : (xs : List ℕ) (old new : Option (List ℕ)) → old ≡ Some xs → new ≡ old → Grows xs new
stays xs old new is same = ([], same ∙ is ∙ ap Some (sym (append-nil xs)))

sent_part : (f : LinkFault) (sent : Frame) (ahead : Bool) (xs : List ℕ) (old new : Option (List ℕ)) (puts puts' : List ℕ) (broken : ℕ) → old ≡ Some xs → SentAs (Err f) sent ahead old new puts puts' broken → Grows xs new
sent_part fault.Write sent ahead xs old new puts puts' broken is s =
    let part : AppendsPart old new (bytes_of sent ahead) = s.0 in
    (part.0, grown xs part.0 new (subst (λ (o : Option (List ℕ)). Appends o new part.0) is part.1.1.1))
sent_part fault.Malformed sent ahead xs old new puts puts' broken is s = stays xs old new is s.0
sent_part fault.Memory sent ahead xs old new puts puts' broken is s = stays xs old new is s.0
sent_part fault.Ended sent ahead xs old new puts puts' broken is s = absurd s
sent_part fault.Read sent ahead xs old new puts puts' broken is s = absurd s
sent_part fault.Sequence sent ahead xs old new puts puts' broken is s = absurd s
sent_part fault.Inadmissible sent ahead xs old new puts puts' broken is s = absurd s
sent_part fault.TooMany sent ahead xs old new puts puts' broken is s = absurd s

and_true : (b : Bool) → (b && true) ≡ b
and_true true = refl
and_true false = refl

and_false : (b : Bool) → (b && false) ≡ false
and_false true = refl
and_false false = refl

-- a call of the link that was replied to, by how it went
record Went {R W : Type 0} (input : R → Input) (contents : W → Option (List ℕ)) (puts : W → List ℕ) (broken_writer : W → ℕ) (a : PipeLink R W) (q : Request) (r : Reply) (b : PipeLink R W) : Type 0 where
  is_next : waits_of a ≡ true → is_wait q ≡ true
  same_most : most_of b ≡ most_of a
  ahead : Bool
  waits : waits_of b ≡ (ahead && not (waits_of a))
  replied : RepliedTo input contents puts broken_writer a (request_frame (given_of a + 1) q) ahead (Ok r) b

module _ {R W : Type 0} (input : R → Input) (contents : W → Option (List ℕ)) (puts : W → List ℕ) (broken_writer : W → ℕ) where
  went : (a : PipeLink R W) (q : Request) (r : Reply) (b : PipeLink R W) → Asks input contents puts broken_writer a q (Ok r) b → Went input contents puts broken_writer a q r b
  went a q r b (inl x) = absurd (cc x.1.0)
  went a q r b (inr (inl x)) = absurd (cc x.1.0)
  went a q r b (inr (inr (inl x))) = absurd (cc x.1.1.0)
  went a q r b (inr (inr (inr x))) = record { is_next = x.0; same_most = x.1.0; ahead = x.1.1.0; waits = x.1.1.1.0; replied = x.1.1.1.1 }

  sent_now : (a : PipeLink R W) (sent : Frame) (ahead : Bool) (r : Reply) (b : PipeLink R W) → waits_of a ≡ false → RepliedTo input contents puts broken_writer a sent ahead (Ok r) b
      → Exchanged_over (most_of a) sent ahead (input (reader_of a)) (input (reader_of b)) (contents (writer_of a)) (contents (writer_of b)) (puts (writer_of a)) (puts (writer_of b)) (Ok r) (broken_writer (writer_of b))
  sent_now a sent ahead r b idle (inl x) = x.1
  sent_now a sent ahead r b idle (inr x) = absurd (cc (sym idle ∙ x.0))

  sent_before : (a : PipeLink R W) (sent : Frame) (ahead : Bool) (r : Reply) (b : PipeLink R W) → waits_of a ≡ true → RepliedTo input contents puts broken_writer a sent ahead (Ok r) b
      → (writer_of b ≡ writer_of a) × Came (most_of a) (input (reader_of a)) (Ok r) sent (input (reader_of b))
  sent_before a sent ahead r b waits (inl x) = absurd (cc (sym waits ∙ x.0))
  sent_before a sent ahead r b waits (inr x) = x.1

  -- what a call that failed has sent
  failed_call : (xs : List ℕ) (a : PipeLink R W) (q : Request) (f : LinkFault) (b : PipeLink R W) → contents (writer_of a) ≡ Some xs → Asks input contents puts broken_writer a q (Err f) b → Grows xs (contents (writer_of b))
  failed_call xs a q f b is (inl x) = stays xs (contents (writer_of a)) (contents (writer_of b)) is (ap contents x.1.1.1)
  failed_call xs a q f b is (inr (inl x)) = stays xs (contents (writer_of a)) (contents (writer_of b)) is (ap contents x.1.1.1)
  failed_call xs a q f b is (inr (inr (inl x))) = stays xs (contents (writer_of a)) (contents (writer_of b)) is (ap contents x.1.1.1.1)
  failed_call xs a q f b is (inr (inr (inr (_, (_, (ahead, (_, inl (_, inl x)))))))) =
      let sent = request_frame (given_of a + 1) q in
      (bytes_of sent ahead, grown xs (bytes_of sent ahead) (contents (writer_of b)) (subst (λ (o : Option (List ℕ)). Appends o (contents (writer_of b)) (bytes_of sent ahead)) is x.0.0))
  failed_call xs a q f b is (inr (inr (inr (_, (_, (ahead, (_, inl (_, inr x)))))))) = sent_part x.0 (request_frame (given_of a + 1) q) ahead xs (contents (writer_of a)) (contents (writer_of b)) (puts (writer_of a)) (puts (writer_of b)) (broken_writer (writer_of b)) is x.1.1.0
  failed_call xs a q f b is (inr (inr (inr (_, (_, (ahead, (_, inr x))))))) = stays xs (contents (writer_of a)) (contents (writer_of b)) is (ap contents x.1.0)

module _ {L R W : Type 0} (pipe : L → PipeLink R W) (input : R → Input) (contents : W → Option (List ℕ)) (puts : W → List ℕ) (broken_writer : W → ℕ) where
  talked : (most n : ℕ) (waits : Bool) (a b : L) (xs : Exchanges) → waits_of (pipe a) ≡ waits → given_of (pipe a) + 1 ≡ n → most_of (pipe a) ≡ most → Leads (piped pipe input contents puts broken_writer) a xs b
      → Talked most n waits (input (reader_of (pipe a))) (contents (writer_of (pipe a))) xs (input (reader_of (pipe b))) (contents (writer_of (pipe b)))
  talked most n false a b [] w number is led = (ap (λ (l : L). input (reader_of (pipe l))) led, ap (λ (l : L). contents (writer_of (pipe l))) led)
  talked most n true a b [] w number is led = (ap (λ (l : L). input (reader_of (pipe l))) led, ap (λ (l : L). contents (writer_of (pipe l))) led)
  talked most n false a b (x ∷ xs) w number is led =
      let mid = led.0 in
      let x_went = went input contents puts broken_writer (pipe a) x.0 x.1 (pipe mid) led.1.0.answered in
      let e = sent_now input contents puts broken_writer (pipe a) (request_frame (given_of (pipe a) + 1) x.0) x_went.ahead x.1 (pipe mid) w x_went.replied in
      let by_number = subst (λ (k : ℕ). Exchanged_over (most_of (pipe a)) (request_frame k x.0) x_went.ahead (input (reader_of (pipe a))) (input (reader_of (pipe mid))) (contents (writer_of (pipe a))) (contents (writer_of (pipe mid))) (puts (writer_of (pipe a))) (puts (writer_of (pipe mid))) (Ok x.1) (broken_writer (writer_of (pipe mid)))) number e in
      let by_most = subst (λ (k : ℕ). Exchanged_over k (request_frame n x.0) x_went.ahead (input (reader_of (pipe a))) (input (reader_of (pipe mid))) (contents (writer_of (pipe a))) (contents (writer_of (pipe mid))) (puts (writer_of (pipe a))) (puts (writer_of (pipe mid))) (Ok x.1) (broken_writer (writer_of (pipe mid)))) is by_number in
      let counted : given_of (pipe mid) + 1 ≡ n + 1 = ap (λ (k : ℕ). k + 1) (led.1.0.counted ∙ number) in
      let next : waits_of (pipe mid) ≡ x_went.ahead = x_went.waits ∙ ap (λ (v : Bool). x_went.ahead && not v) w ∙ and_true x_went.ahead in
      (input (reader_of (pipe mid)), (contents (writer_of (pipe mid)), (puts (writer_of (pipe a)), (puts (writer_of (pipe mid)), (broken_writer (writer_of (pipe mid)), (x_went.ahead, (by_most, talked most (n + 1) x_went.ahead mid b xs next counted (x_went.same_most ∙ is) led.1.1)))))))
  talked most n true a b (x ∷ xs) w number is led =
      let mid = led.0 in
      let x_went = went input contents puts broken_writer (pipe a) x.0 x.1 (pipe mid) led.1.0.answered in
      let e = sent_before input contents puts broken_writer (pipe a) (request_frame (given_of (pipe a) + 1) x.0) x_went.ahead x.1 (pipe mid) w x_went.replied in
      let by_number = subst (λ (k : ℕ). Came (most_of (pipe a)) (input (reader_of (pipe a))) (Ok x.1) (request_frame k x.0) (input (reader_of (pipe mid)))) number e.1 in
      let by_most = subst (λ (k : ℕ). Came k (input (reader_of (pipe a))) (Ok x.1) (request_frame n x.0) (input (reader_of (pipe mid)))) is by_number in
      let counted : given_of (pipe mid) + 1 ≡ n + 1 = ap (λ (k : ℕ). k + 1) (led.1.0.counted ∙ number) in
      let next : waits_of (pipe mid) ≡ false = x_went.waits ∙ ap (λ (v : Bool). x_went.ahead && not v) w ∙ and_false x_went.ahead in
      let on = talked most (n + 1) false mid b xs next counted (x_went.same_most ∙ is) led.1.1 in
      let same = subst (λ (o : Option (List ℕ)). Talked most (n + 1) false (input (reader_of (pipe mid))) o xs (input (reader_of (pipe b))) (contents (writer_of (pipe b)))) (ap contents e.0) on in
      (input (reader_of (pipe mid)), (x_went.is_next w, (by_most, same)))

  -- what was sent after the last request that was answered
  sent_last : (xs : List ℕ) (s : State) (rs : List Reply) (old : Writer) (a : L) (result : Result ⊤ RunFault) (b : Ends L)
      → contents (writer_of (pipe a)) ≡ Some xs → Last (piped pipe input contents puts broken_writer) s rs old a result b → Grows xs (contents (writer_of (pipe b.link)))
  unfolding Last
  sent_last xs s rs old a (Ok u) b is h = stays xs (contents (writer_of (pipe a))) (contents (writer_of (pipe b.link))) is (ap (λ (l : L). contents (writer_of (pipe l))) h.4)
  sent_last xs s rs old a (Err (Link f)) b is h = failed_call input contents puts broken_writer xs (pipe a) h.2.0 f (pipe b.link) is h.2.1.1.answered
  sent_last xs s rs old a (Err (Trace Inadmissible)) b is h = stays xs (contents (writer_of (pipe a))) (contents (writer_of (pipe b.link))) is (ap (λ (l : L). contents (writer_of (pipe l))) h.2)
  sent_last xs s rs old a (Err (Trace Memory)) b is h = stays xs (contents (writer_of (pipe a))) (contents (writer_of (pipe b.link))) is (ap (λ (l : L). contents (writer_of (pipe l))) h.1)
  sent_last xs s rs old a (Err Output) b is h = stays xs (contents (writer_of (pipe a))) (contents (writer_of (pipe b.link))) is (ap (λ (l : L). contents (writer_of (pipe l))) h.3)

some_is : {X : Type 0} (x y : X) → Some x ≡ Some y → x ≡ y
some_is x y e = cc

-- known bytes stay known
one_sent : (most : ℕ) (sent : Frame) (ahead : Bool) (a b : Input) (xs : List ℕ) (old new : Option (List ℕ)) (puts puts' : List ℕ) (r : Reply) (broken : ℕ) → old ≡ Some xs → Exchanged_over most sent ahead a b old new puts puts' (Ok r) broken → new ≡ Some (xs ++ bytes_of sent ahead)
one_sent most sent ahead a b xs old new puts puts' r broken is (inl x) = grown xs (bytes_of sent ahead) new (subst (λ (o : Option (List ℕ)). Appends o new (bytes_of sent ahead)) is x.0.0)
one_sent most sent ahead a b xs old new puts puts' r broken is (inr x) = absurd (cc x.1.0)

known : (most n : ℕ) (waits : Bool) (a b : Input) (xs : List ℕ) (old new : Option (List ℕ)) (ys : Exchanges) → old ≡ Some xs → Talked most n waits a old ys b new → Grows xs new
known most n false a b xs old new [] is t = stays xs old new is t.1
known most n true a b xs old new [] is t = stays xs old new is t.1
known most n false a b xs old new (y ∷ ys) is t =
    let sent = request_frame n y.0 in
    let ahead = t.1.1.1.1.1.0 in
    let e = t.1.1.1.1.1.1 in
    let one = one_sent most sent ahead a t.0 xs old t.1.0 t.1.1.0 t.1.1.1.0 y.1 t.1.1.1.1.0 is e.0 in
    let on = known most (n + 1) ahead t.0 b (xs ++ bytes_of sent ahead) t.1.0 new ys one e.1 in
    (bytes_of sent ahead ++ on.0, on.1 ∙ ap Some (append_assoc xs (bytes_of sent ahead) on.0))
known most n true a b xs old new (y ∷ ys) is t = known most (n + 1) false t.0 b xs old new ys is t.1.1.1

-- ---- what a host answered, whatever ended it

-- Exchanges and the bytes of their requests, one by one; that of the reply that was cut short is among them.
record Host (most : ℕ) (a : Input) (old new : Option (List ℕ)) (read : List ℕ) : Type 0 where
  exchanges : Exchanges
  phase : Phase LocalLink
  led : Leads_host Boots_by Answers_by exchanges phase
  fit : AreSpelled exchanges
  middle : Input
  came : List ℕ
  taken : Taken most a exchanges middle came
  behind : List ℕ
  parts : came ++ behind ≡ read
  wrote : AppendsPart old new (replies_of exchanges)

written_whole : {most broken : ℕ} {a b : Input} {old new : Option (List ℕ)} {sizes sizes' : List ℕ} {result : Result Outcome ServeFault} (s : Served most Boots_by Answers_by left_by a b old new sizes sizes' result broken)
    → Appends old new (replies_of s.exchanges) → Host most a old new (s.came ++ s.rest)
written_whole s whole = record {
  exchanges = s.exchanges;
  phase = s.phase;
  led = s.led;
  fit = s.fit;
  middle = s.middle;
  came = s.came;
  taken = s.taken;
  behind = s.rest;
  parts = refl;
  wrote = (replies_of s.exchanges, ([], (append-nil (replies_of s.exchanges), whole)));
}

-- a first part of what comes behind known bytes
part_behind : (a b c : Option (List ℕ)) (xs ys : List ℕ) → Appends a b xs → AppendsPart b c ys → AppendsPart a c (xs ++ ys)
part_behind a b c xs ys whole part =
    (xs ++ part.0, (part.1.0, (append_assoc xs part.0 part.1.0 ∙ ap (λ (t : List ℕ). xs ++ t) part.1.1.0, Appends-trans a b c xs part.0 whole part.1.1.1)))

answered_by : {most broken : ℕ} {a b : Input} {old new : Option (List ℕ)} {sizes sizes' : List ℕ} (result : Result Outcome ServeFault) → (s : Served most Boots_by Answers_by left_by a b old new sizes sizes' result broken) → Host most a old new (s.came ++ s.rest)
answered_by (Ok outcome) s = written_whole s s.written.0
answered_by (Err Read) s = written_whole s s.written.0
answered_by (Err Wire) s = written_whole s s.written.0
answered_by (Err Order) s = written_whole s s.written.0
answered_by (Err Failed) s = written_whole s s.written.0
answered_by {b = b} {old = old} {new = new} (Err Write) s = record {
  exchanges = (s.written.unsent.request, s.written.unsent.reply) ∷ s.exchanges;
  phase = s.written.unsent.next;
  led = (s.phase, (s.led, s.written.unsent.answered));
  fit = (s.written.part.1.1, s.fit);
  middle = b;
  came = s.came ++ s.rest;
  taken = (s.middle, (s.came, (s.rest, (refl, (s.taken, (s.last, s.written.unsent.asked))))));
  behind = [];
  parts = append-nil (s.came ++ s.rest);
  wrote = part_behind old s.written.whole new (replies_of s.exchanges) _ s.written.written.0 s.written.part.0;
}

-- what was put behind nothing is known
pub put_is_known : {most broken : ℕ} {a b : Input} {new : Option (List ℕ)} {sizes sizes' : List ℕ} (result : Result Outcome ServeFault) → Served most Boots_by Answers_by left_by a b (Some []) new sizes sizes' result broken
    → (bytes : List ℕ) × (new ≡ Some bytes)
put_is_known {new = new} result s =
    let host = answered_by result s in
    (host.wrote.0, grown [] host.wrote.0 new host.wrote.1.1.1)

-- what is left of known bytes
left_of : (xs bs : List ℕ) (o : Option (List ℕ)) → Consumes (Some xs) o bs → (ys : List ℕ) × (xs ≡ bs ++ ys)
left_of xs bs None consumed = absurd consumed
left_of xs bs (Some ys) consumed = (ys, consumed)

-- ---- both

pub piped_runs_tell : {L R W : Type 0} (pipe : L → PipeLink R W) (input : R → Input) (contents : W → Option (List ℕ)) (puts : W → List ℕ) (broken_writer : W → ℕ)
    → EndsAgree → LocalLinksAnswerTheirOwn → HostsBeginAlike Shared UserState → LinuxRunsTell (piped pipe input contents puts broken_writer) → PipedRunsTell pipe input contents puts broken_writer
unfolding LocalLinksAnswerTheirOwn LinuxRunsTell
piped_runs_tell {L} {R} {W} pipe input contents puts broken_writer agree own begin tells boot limit words script o first link link' old new result w most a b unwritten written sizes sizes' served broken_host s unused asked nothing back forth =
    let ys : Exchanges = w.runs.exchanges in
    let all : Exchanges = (Boot_with boot limit words, Done) ∷ ys in
    let led : Leads (piped pipe input contents puts broken_writer) first all w.runs.link = (link, (asked, w.runs.led)) in
    let talk = talked pipe input contents puts broken_writer (most_of (pipe first)) 1 false first w.runs.link all unused.idle (ap (λ (k : ℕ). k + 1) unused.given) refl led in
    let sent = known (most_of (pipe first)) 1 false (input (reader_of (pipe first))) (input (reader_of (pipe w.runs.link))) [] (contents (writer_of (pipe first))) (contents (writer_of (pipe w.runs.link))) all unused.sent talk in
    let more = sent_last pipe input contents puts broken_writer sent.0 _ _ old w.runs.link _ _ sent.1 w.runs.last in
    let host = answered_by served s in
    let in_all : written ≡ Some host.wrote.0 = grown [] host.wrote.0 written (subst (λ (o : Option (List ℕ)). Appends o written host.wrote.0) nothing host.wrote.1.1.1) in
    let given : List ℕ = back.0 in
    let replies : given ++ (back.1.0 ++ host.wrote.1.0) ≡ replies_of host.exchanges =
    sym (append_assoc given back.1.0 host.wrote.1.0) ∙ ap (λ (t : List ℕ). t ++ host.wrote.1.0) (some_is (given ++ back.1.0) host.wrote.0 (sym back.1.1.1 ∙ in_all)) ∙ host.wrote.1.1.0 in
    let left = left_of forth.0 (s.came ++ s.rest) b.remaining (subst (λ (o : Option (List ℕ)). Consumes o b.remaining (s.came ++ s.rest)) forth.1.1.0 s.consumed) in
    let front : host.came ++ (host.behind ++ left.0) ≡ forth.0 = sym (append_assoc host.came host.behind left.0) ∙ ap (λ (t : List ℕ). t ++ left.0) host.parts ∙ sym left.1 in
    let requests : host.came ++ ((host.behind ++ left.0) ++ forth.1.0) ≡ sent.0 ++ more.0 =
    sym (append_assoc host.came (host.behind ++ left.0) forth.1.0) ∙ ap (λ (t : List ℕ). t ++ forth.1.0) front ∙ some_is (forth.0 ++ forth.1.0) (sent.0 ++ more.0) (sym forth.1.1.1 ∙ more.1) in
    let talk_known = subst (λ (x : Option (List ℕ)). Talked (most_of (pipe first)) 1 false (input (reader_of (pipe first))) x all (input (reader_of (pipe w.runs.link))) (contents (writer_of (pipe w.runs.link)))) unused.sent talk in
    let talk_sent = subst (λ (x : Option (List ℕ)). Talked (most_of (pipe first)) 1 false (input (reader_of (pipe first))) (Some []) all (input (reader_of (pipe w.runs.link))) x) sent.1 talk_known in
    let same = agree (most_of (pipe first)) most (input (reader_of (pipe first))) (input (reader_of (pipe w.runs.link))) a host.middle host.exchanges all given (back.1.0 ++ host.wrote.1.0) sent.0 host.came ((host.behind ++ left.0) ++ forth.1.0) more.0
    back.1.1.0 replies host.fit host.taken requests talk_sent in
    let led_on : Forth Waiting (all ++ same.0) host.phase = subst (λ (xs : Exchanges). Forth Waiting xs host.phase) same.1 (in_order host.exchanges host.phase host.led) in
    let h = begun_by boot limit words (ys ++ same.0) led_on.0 host.phase led_on.1.0 led_on.1.1 in
    let l = led_by h.host ys same.0 host.phase h.forth in
    let shared : Shared = first_shared boot.limits boot.files boot.input in
    let user : UserState = booted boot.argv boot.env in
    let going : IsGoing h.host = record {
      fresh = subst (λ (v : HostState). IsFresh v.hosting) (sym h.is_first.host) (begin shared user).1;
      whole = ap (λ (v : HostState). v.failed) h.is_first.host;
      idle = ap (λ (v : HostState). v.hosting.pending) h.is_first.host;
      unbroken = h.is_first.whole;
      going = h.is_first.going;
    } in
    let answered : AnswersItsOwn o (choice_of script) shared user h.host ys =
    own o (choice_of script) h.host l.last ys shared user going (ap (λ (v : HostState). v.hosting) h.is_first.host) l.led w.runs.asked in
    let told = link_tells (piped pipe input contents puts broken_writer) o (choice_of script) h.host shared user link link' old new result w answered
    (λ events is_own. tells boot script o link link' old new result w events is_own) in
    (h.host, (h.is_first, told))
