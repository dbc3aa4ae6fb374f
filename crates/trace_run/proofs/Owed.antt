-- When a run writes what it owes.
use Rattle.std.proofs.Common.{◌≡◌, ◌⊎◌, ℕ, ◌+◌, Bool, true, false, cond, List, [], ◌∷◌, ◌++◌, Option, Some, None, Result, Ok, Err, refl, sym, ap, subst, ◌∙◌, arith, inl, inr, append_assoc}
use Rattle.std.specs.Prelude.{⊤, length}
use Rattle.std.proofs.KnownBytes.{Appends-nil, Appends-trans}
use Rattle.std.proofs.lemmas.List.{map-append, append-nil}
use Rattle.std.specs.Io.KnownBytes.{Appends, append_known}
use Rattle.lx_abi.specs.declared.ptrace.Reply.{Reply}
use Rattle.lx_abi.specs.declared.ptrace.Reply.TheVariants.{Done as Agreed, Status as Status_is, Registers as Registers_are, Bytes as Bytes_are, Message as Message_is, Info as Info_is, Outcome as Outcome_is, Errno as Errno_is, OutOfTurns as Out_of_turns, Refused as Boot_refused}
use Rattle.lx_abi.specs.declared.ptrace.Request.{Request}
use Rattle.lx_abi.specs.declared.ptrace.Request.TheVariants.{To, Wait, Outcome as Ask_outcome}
use Rattle.lx_abi.specs.declared.status.Status.{Status}
use Rattle.lx_abi.specs.Status.{stop_of}
use Rattle.lx_model.specs.Kernel.{Script}
use Rattle.pt_model.specs.Parts.{Options}
use Rattle.pt_model.specs.Replies.{after as with_reply, after_all, admits, comes_to_hand, Resumes, Resumed, EachIsResumed}
use Rattle.pt_model.specs.Requests.{esrch}
use Rattle.pt_model.specs.Tracer.{Known, Awaiting, Seizing, Entry_regs, Entry_peek, Entry_set, Exit_regs, Exit_set, Exit_peek, Signal_info, Resuming, Listening, asks}
use Rattle.pt_model.specs.Tracer.{Focus, Booting, Waiting, Serving, Asking_outcome, Over, Turns_over, Faulted, Tracer, Moved, request, admits_at, faults, next, next_at, next_from, takes}
use Rattle.host_link.specs.declared.fault.LinkFault.{LinkFault}
use Rattle.tr_core.proofs.Told.{faulted-refused}
use Rattle.tr_core.specs.States.{State, heard, moved as moved_by, said, request_of, is_faulted, is_faulted_at, admitted, told, text}
use Rattle.trace_run.specs.declared.running.RunFault.{RunFault}
use Rattle.trace_run.specs.declared.running.RunFault.TheVariants.{Link, Trace, Output}
use Rattle.tr_core.specs.declared.tracing.TraceFault.TheVariants.{Inadmissible, Memory}
use Rattle.trace_run.specs.Owed.{HadWritten, AsksAfter, IsResumed, WritesBeforeItAsks, WritesBeforeTheLinkFails, StopsWithItsWriter, ResumesBeforeItWaits, WaitsOnceItResumed}
use Rattle.trace_run.specs.Runs.{Answers, Asked, Ends, FailsAtLast, Last, Runs, Writes, replies_of, resumes, resumes_by, sizes}
use Rattle.trace_run.specs.Writers.{Writer, PutsPart}

-- Lists

pub length_of : {A : Type 0} (xs ys : List A) → length (xs ++ ys) ≡ length xs + length ys
length_of [] ys = omega arith
length_of (x ∷ xs) ys = omega (arith, length_of xs ys)

abbrev pub rest_of : {A : Type 0} → List A → List A
rest_of [] = []
rest_of (x ∷ xs) = xs

not_nil : {A : Type 0} (xs : List A) (y : A) (ys : List A) → [] ≡ xs ++ y ∷ ys → ⊥
not_nil [] y ys e = cc e
not_nil (x ∷ xs) y ys e = cc e

-- all but the last of a list begin with what something comes behind
pub record Begins {A : Type 0} (xs ys : List A) : Type 0 where
  pub more : List A
  pub split : xs ≡ ys ++ more

all_but_last : {A : Type 0} (xs : List A) (x : A) (ys : List A) (y : A) (zs : List A) → xs ++ x ∷ [] ≡ ys ++ y ∷ zs → Begins xs ys
all_but_last xs x [] y zs e = record { more = xs; split = refl }
all_but_last [] x (z ∷ ys) y zs e = absurd (not_nil ys y zs (ap rest_of e))
all_but_last (w ∷ xs) x (z ∷ ys) y zs e =
    let again = all_but_last xs x ys y zs (ap rest_of e) in
    record { more = again.more; split = cc (e, again.split) }

-- Texts

told-append : (s : State) (rs qs : List Reply) → told s (rs ++ qs) ≡ told (told s rs) qs
told-append s [] qs = refl
told-append s (r ∷ rs) qs = told-append (heard s r) rs qs

text-append : (s : State) (rs qs : List Reply) → text s (rs ++ qs) ≡ text s rs ++ text (told s rs) qs
text-append s [] qs = refl
text-append s (r ∷ rs) qs = ap (λ l. said s r ++ l) (text-append (heard s r) rs qs) ∙ sym (append_assoc (said s r) (text (heard s r) rs) (text (told (heard s r) rs) qs))

sizes-append : (s : State) (rs qs : List Reply) → sizes s (rs ++ qs) ≡ sizes s rs ++ sizes (told s rs) qs
sizes-append s [] qs = refl
sizes-append s (r ∷ rs) qs = ap (λ l. length (said s r) ∷ l) (sizes-append (heard s r) rs qs)

sizes-length : (s : State) (rs : List Reply) → length (sizes s rs) ≡ length rs
sizes-length s [] = refl
sizes-length s (r ∷ rs) = omega (arith, sizes-length (heard s r) rs)

replies-length : (xs : List (Request × Reply)) → length (replies_of xs) ≡ length xs
replies-length [] = refl
replies-length (x ∷ xs) = omega (arith, replies-length xs)

-- Moments

known_grows : (a : Option (List ℕ)) (xs : List ℕ) → Appends a (append_known a xs) xs
known_grows None xs = tt
known_grows (Some ys) xs = refl

known_goes_on : (a b : Option (List ℕ)) (xs ys : List ℕ) → Appends a b (xs ++ ys) → Appends (append_known a xs) b ys
known_goes_on None b xs ys h = tt
known_goes_on (Some zs) None xs ys h = h
known_goes_on (Some zs) (Some bs) xs ys h = h ∙ sym (append_assoc zs xs ys)

-- the first of these replies
first_written : (s : State) (rs more : List Reply) (old new : Writer) → Writes s (rs ++ more) old new → HadWritten s rs old new
first_written s rs more old new w = record {
  moment = record { contents = append_known old.contents (text s rs); puts = old.puts ++ sizes s rs; broken = old.broken };
  writes = record { written = known_grows old.contents (text s rs); counted = refl; unbroken = refl };
  later = text (told s rs) more;
  behind = known_goes_on old.contents new.contents (text s rs) (text (told s rs) more) (subst (Appends old.contents new.contents) (text-append s rs more) w.written);
  puts = sizes (told s rs) more;
  counted = w.counted ∙ ap (λ l. old.puts ++ l) (sizes-append s rs more) ∙ sym (append_assoc old.puts (sizes s rs) (sizes (told s rs) more));
}

-- and what came behind
goes_on : (s : State) (rs : List Reply) (old mid new : Writer) (bytes : List ℕ) (puts : List ℕ) → HadWritten s rs old mid → Appends mid.contents new.contents bytes → new.puts ≡ mid.puts ++ puts → HadWritten s rs old new
goes_on s rs old mid new bytes puts h b p = record {
  moment = h.moment;
  writes = h.writes;
  later = h.later ++ bytes;
  behind = Appends-trans h.moment.contents mid.contents new.contents h.later bytes h.behind b;
  puts = h.puts ++ puts;
  counted = p ∙ ap (λ l. l ++ puts) h.counted ∙ append_assoc h.moment.puts h.puts puts;
}

-- where a run failed at its last reply
until : (s : State) (rs : List Reply) (old : Writer) (fails : State → Reply → Writer → Type 0) (x : FailsAtLast s rs old fails) (qs : List Reply) (q : Reply) (more : List Reply) → rs ≡ qs ++ q ∷ more → HadWritten s qs old x.writer
until s rs old fails x qs q more e =
    let begins = all_but_last x.before x.reply qs q more (sym x.split ∙ e) in
    first_written s qs begins.more old x.writer (subst (λ l. Writes s l old x.writer) begins.split x.writes)

had_written : {L : Type 0} (answers : Answers L) (s : State) (rs : List Reply) (old : Writer) (a : L) (r : Result ⊤ RunFault) (b : Ends L) (qs : List Reply) (q : Reply) (more : List Reply)
    → rs ≡ qs ++ q ∷ more → Last answers s rs old a r b → HadWritten s qs old b.writer
unfolding Last
had_written answers s rs old a (Ok u) b qs q more e h = first_written s qs (q ∷ more) old b.writer (subst (λ l. Writes s l old b.writer) e h.1)
had_written answers s rs old a (Err (Link f)) b qs q more e h = first_written s qs (q ∷ more) old b.writer (subst (λ l. Writes s l old b.writer) e h.1)
had_written answers s rs old a (Err (Trace Inadmissible)) b qs q more e h = subst (HadWritten s qs old) (sym h.1.failed.1) (until s rs old _ h.1 qs q more e)
had_written answers s rs old a (Err (Trace Memory)) b qs q more e h = subst (HadWritten s qs old) (sym h.0.failed.1) (until s rs old _ h.0 qs q more e)
had_written answers s rs old a (Err Output) b qs q more e h =
    let p : PutsPart h.1.writer b.writer (said (told s h.1.before) h.1.reply) = h.1.failed in
    goes_on s qs old h.1.writer b.writer p.written.0 (length (said (told s h.1.before) h.1.reply) ∷ []) (until s rs old _ h.1 qs q more e) p.written.1.1.1 p.counted

pub replies_split : (xs before after : List (Request × Reply)) (q : Request) (r : Reply) → xs ≡ before ++ (q, r) ∷ after → replies_of xs ≡ replies_of before ++ r ∷ replies_of after
replies_split xs before after q r e = ap replies_of e ∙ map-append (λ x. x.1) before ((q, r) ∷ after)

-- all of them
all_written : (s : State) (rs : List Reply) (old new : Writer) → Writes s rs old new → HadWritten s rs old new
all_written s rs old new w = record { moment = new; writes = w; later = []; behind = Appends-nil new.contents; puts = []; counted = sym (append-nil new.puts) }

last_link_fault : {L : Type 0} (answers : Answers L) (s : State) (rs : List Reply) (old : Writer) (a : L) (f : LinkFault) (b : Ends L) → Last answers s rs old a (Err (Link f)) b → Writes s rs old b.writer
unfolding Last
last_link_fault answers s rs old a f b h = h.1

pub writes_before_the_link_fails : {L : Type 0} (answers : Answers L) → WritesBeforeTheLinkFails answers
writes_before_the_link_fails answers a b f w = last_link_fault answers a.state (Agreed ∷ replies_of w.exchanges) a.writer w.link f b w.last

pub writes_before_it_asks : {L : Type 0} (answers : Answers L) → WritesBeforeItAsks answers
writes_before_it_asks answers a b result w before q (inl h) =
    had_written answers a.state (Agreed ∷ replies_of w.exchanges) a.writer w.link result b (Agreed ∷ replies_of before) h.0 (replies_of h.1.0)
    (ap (λ l. Agreed ∷ l) (replies_split w.exchanges before h.1.0 q h.0 h.1.1)) w.last
writes_before_it_asks answers a b result w before q (inr h) =
    let last : Writes a.state (Agreed ∷ replies_of w.exchanges) a.writer b.writer =
    last_link_fault answers a.state (Agreed ∷ replies_of w.exchanges) a.writer w.link h.0 b (subst (λ r. Last answers a.state (Agreed ∷ replies_of w.exchanges) a.writer w.link r b) h.1.0 w.last) in
    all_written a.state (Agreed ∷ replies_of before) a.writer b.writer (subst (λ xs. Writes a.state (Agreed ∷ replies_of xs) a.writer b.writer) h.1.1 last)

puts_counted : {L : Type 0} (answers : Answers L) (s : State) (rs : List Reply) (old : Writer) (a : L) (b : Ends L) → Last answers s rs old a (Err Output) b → length b.writer.puts ≡ length old.puts + length rs
unfolding Last
puts_counted answers s rs old a b h =
    let x = h.1 in
    let p : PutsPart x.writer b.writer (said (told s x.before) x.reply) = x.failed in
    let one : length b.writer.puts ≡ length x.writer.puts + 1 = ap length p.counted ∙ length_of x.writer.puts (length (said (told s x.before) x.reply) ∷ []) in
    let before : length x.writer.puts ≡ length old.puts + length (sizes s x.before) = ap length x.writes.counted ∙ length_of old.puts (sizes s x.before) in
    let all : length rs ≡ length x.before + 1 = ap length x.split ∙ length_of x.before (x.reply ∷ []) in
    omega (arith, one, before, all, sizes-length s x.before)

pub stops_with_its_writer : {L : Type 0} (answers : Answers L) → StopsWithItsWriter answers
stops_with_its_writer answers a b w =
    let counts : length b.writer.puts ≡ length a.writer.puts + length (Agreed ∷ replies_of w.exchanges) = puts_counted answers a.state (Agreed ∷ replies_of w.exchanges) a.writer w.link b w.last in
    omega (arith, counts, replies-length w.exchanges)

-- Resumption

-- what was asked at a place of the exchanges, and behind it
pub record AskedAt (s : State) (before : List (Request × Reply)) (q : Request) (r : Reply) (after : List (Request × Reply)) : Type 0 where
  pub here : request_of (told s (replies_of before)) ≡ Some q
  pub behind : Asked (heard (told s (replies_of before)) r) after

pub asked_at : (s : State) (before : List (Request × Reply)) (q : Request) (r : Reply) (after : List (Request × Reply)) → Asked s (before ++ (q, r) ∷ after) → AskedAt s before q r after
asked_at s [] q r after h = record { here = h.0; behind = h.1 }
asked_at s (x ∷ before) q r after h =
    let again = asked_at (heard s x.1) before q r after h.1 in
    record { here = again.here; behind = again.behind }

asked_first : (s : State) (xs ys : List (Request × Reply)) → Asked s (xs ++ ys) → Asked s xs
asked_first s [] ys h = tt
asked_first s (x ∷ xs) ys h = (h.0, asked_first (heard s x.1) xs ys h.1)

last_state : {L : Type 0} (answers : Answers L) (s : State) (rs : List Reply) (old : Writer) (a : L) (f : LinkFault) (b : Ends L) → Last answers s rs old a (Err (Link f)) b → b.state ≡ told s rs
unfolding Last
last_state answers s rs old a f b h = h.0

-- the exchanges before what a run asked are its first
pub asked_behind : (xs : List (Request × Reply)) (result : Result ⊤ RunFault) (end : State) (before : List (Request × Reply)) (q : Request) → AsksAfter xs result end before q → Begins xs before
asked_behind xs result end before q (inl h) = record { more = (q, h.0) ∷ h.1.0; split = h.1.1 }
asked_behind xs result end before q (inr h) = record { more = []; split = h.1.1 ∙ sym (append-nil before) }

-- they were asked one by one, and then it
pub record AsksThen (s : State) (before : List (Request × Reply)) (q : Request) : Type 0 where
  pub asked : Asked s before
  pub next : request_of (told s (replies_of before)) ≡ Some q

pub asks_then : {L : Type 0} (answers : Answers L) (a b : Ends L) (result : Result ⊤ RunFault) (w : Runs answers a result b) (before : List (Request × Reply)) (q : Request)
    → AsksAfter w.exchanges result b.state before q → AsksThen (heard a.state Agreed) before q
asks_then answers a b result w before q (inl h) =
    let all : Asked (heard a.state Agreed) (before ++ (q, h.0) ∷ h.1.0) = subst (Asked (heard a.state Agreed)) h.1.1 w.asked in
    record {
      asked = asked_first (heard a.state Agreed) before ((q, h.0) ∷ h.1.0) all;
      next = (asked_at (heard a.state Agreed) before q h.0 h.1.0 all).here;
    }
asks_then answers a b result w before q (inr h) =
    let state : b.state ≡ told a.state (Agreed ∷ replies_of w.exchanges) =
    last_state answers a.state (Agreed ∷ replies_of w.exchanges) a.writer w.link h.0 b (subst (λ r. Last answers a.state (Agreed ∷ replies_of w.exchanges) a.writer w.link r b) h.1.0 w.last) in
    record {
      asked = subst (Asked (heard a.state Agreed)) h.1.1 w.asked;
      next = ap (λ xs. request_of (told (heard a.state Agreed) (replies_of xs))) (sym h.1.1) ∙ ap request_of (sym state) ∙ h.1.2;
    }

waits_at : (o : Options) (f : Focus) → request o f ≡ Some Wait → f ≡ Waiting
waits_at o Booting e = absurd (cc e)
waits_at o Waiting e = refl
waits_at o (Serving p place) e = absurd (cc e)
waits_at o Asking_outcome e = absurd (cc e)
waits_at o (Over x) e = absurd (cc e)
waits_at o Turns_over e = absurd (cc e)
waits_at o Faulted e = absurd (cc e)

pub waits_in : (s : State) → request_of s ≡ Some Wait → s.tracer.focus ≡ Waiting
unfolding request_of
waits_in s e = waits_at s.options s.tracer.focus e

asks_none : (o : Options) (f : Focus) → is_faulted_at f ≡ true → request o f ≡ None
asks_none o Booting e = absurd (cc e)
asks_none o Waiting e = absurd (cc e)
asks_none o (Serving p place) e = absurd (cc e)
asks_none o Asking_outcome e = absurd (cc e)
asks_none o (Over x) e = absurd (cc e)
asks_none o Turns_over e = absurd (cc e)
asks_none o Faulted e = refl

-- a reply behind which something is asked was admitted
was_admitted : (s : State) (r : Reply) (q : Request) → request_of (heard s r) ≡ Some q → (b : Bool) → admitted s r ≡ b → admits s.options s.tracer r ≡ true
unfolding request_of is_faulted admitted
was_admitted s r q e true a = a
was_admitted s r q e false a = absurd (cc (sym e ∙ asks_none (heard s r).options (heard s r).tracer.focus (faulted-refused s r a)))

same_tracer : (s : State) (x : Moved) (rs : List Reply) → x.tracer ≡ s.tracer → (after_all s.options s.script x rs).tracer ≡ (told s rs).tracer
unfolding heard moved_by
same_tracer s x [] e = e
same_tracer s x (r ∷ rs) e = same_tracer (heard s r) (with_reply s.options s.script x r) rs (ap (λ (t : Tracer). (next s.options s.script t r).tracer) e)

-- the place of a reply
record Placed (xs : List (Request × Reply)) (front : List Reply) (r : Reply) : Type 0 where
  pub before : List (Request × Reply)
  pub asked : Request
  pub after : List (Request × Reply)
  pub split : xs ≡ before ++ (asked, r) ∷ after
  pub replies : replies_of before ≡ front

abbrev head_of : Reply → List Reply → Reply
head_of r [] = r
head_of r (q ∷ qs) = q

placed : (xs : List (Request × Reply)) (front : List Reply) (r : Reply) (more : List Reply) → replies_of xs ≡ front ++ r ∷ more → Placed xs front r
placed [] front r more e = absurd (not_nil front r more e)
placed (x ∷ xs) [] r more e = record { before = []; asked = x.0; after = xs; split = ap (λ z. (x.0, z) ∷ xs) (ap (head_of r) e); replies = refl }
placed (x ∷ xs) (q ∷ front) r more e =
    let again = placed xs front r more (ap rest_of e) in
    record {
      before = x ∷ again.before;
      asked = again.asked;
      after = again.after;
      split = ap (λ l. x ∷ l) again.split;
      replies = cc (e, again.replies);
    }

-- what a tracee in hand is asked
asks_hand : (s : State) (q : Request) (p : ℕ) (place : Awaiting) → request_of s ≡ Some q → s.tracer.focus ≡ Serving p place → q ≡ To p (asks s.options place)
unfolding request_of
asks_hand s q p place e f = cc (sym e ∙ ap (request s.options) f)

it_resumes : (o : Options) (place : Awaiting) → Resumes place → resumes_by (asks o place) ≡ true
it_resumes o place (inl h) = ap (λ (x : Awaiting). resumes_by (asks o x)) h.1
it_resumes o place (inr e) = ap (λ (x : Awaiting). resumes_by (asks o x)) e

how_resumed : (o : Options) (place : Awaiting) (reply : Reply) → (Resumes place × (reply ≡ Agreed)) ⊎ (reply ≡ esrch) → ((resumes_by (asks o place) ≡ true) × (reply ≡ Agreed)) ⊎ (reply ≡ esrch)
how_resumed o place reply (inl h) = inl (it_resumes o place h.0, h.1)
how_resumed o place reply (inr h) = inr h

-- something is asked before what is asked later
record AsksHere (s : State) : Type 0 where
  pub first : Request
  pub asked : request_of s ≡ Some first

asks_here : (s : State) (xs : List (Request × Reply)) (q : Request) → Asked s xs → request_of (told s (replies_of xs)) ≡ Some q → AsksHere s
asks_here s [] q h e = record { first = q; asked = e }
asks_here s (x ∷ xs) q h e = record { first = x.0; asked = h.0 }

-- the exchanges between a status and the next Wait
between_waits : EachIsResumed → (s : State) (p : ℕ) (status : Status) (between : List (Request × Reply)) → request_of s ≡ Some Wait
    → Asked (heard s (Status_is p status)) between → request_of (told (heard s (Status_is p status)) (replies_of between)) ≡ Some Wait → comes_to_hand p (stop_of status.word) ≡ Some p → IsResumed p between
unfolding heard moved_by
between_waits each s p status between waits asked waits_again hand =
    let t : State = heard s (Status_is p status) in
    let x : Moved = record { tracer = s.tracer; printed = [] } in
    let rs : List Reply = replies_of between in
    let first : AsksHere t = asks_here t between Wait asked waits_again in
    let taken : admits s.options s.tracer (Status_is p status) ≡ true = was_admitted s (Status_is p status) first.first first.asked (admitted s (Status_is p status)) refl in
    let again : (after_all s.options s.script x (Status_is p status ∷ rs)).tracer.focus ≡ Waiting =
    ap (λ (y : Tracer). y.focus) (same_tracer s x (Status_is p status ∷ rs) refl) ∙ waits_in (told t rs) waits_again in
    let k : Resumed s.options s.script (with_reply s.options s.script x (Status_is p status)) p rs = each s.options s.script x p status rs (waits_in s waits) taken hand again in
    let place : Placed between k.before k.reply = placed between k.before k.reply k.more k.split in
    let here : AskedAt t place.before place.asked k.reply place.after = asked_at t place.before place.asked k.reply place.after (subst (Asked t) place.split asked) in
    let serving : (told t (replies_of place.before)).tracer.focus ≡ Serving p k.place =
    ap (λ l. (told t l).tracer.focus) place.replies ∙ ap (λ (y : Tracer). y.focus) (sym (same_tracer t (with_reply s.options s.script x (Status_is p status)) k.before refl)) ∙ k.asked in
    let o : Options = (told t (replies_of place.before)).options in
    let asked_is : place.asked ≡ To p (asks o k.place) = asks_hand (told t (replies_of place.before)) place.asked p k.place here.here serving in
    record {
      before = place.before;
      ask = asks o k.place;
      reply = k.reply;
      after = place.after;
      split = place.split ∙ ap (λ q. place.before ++ (q, k.reply) ∷ place.after) asked_is;
      how = how_resumed o k.place k.reply k.how;
    }

pub resumes_before_it_waits : {L : Type 0} (answers : Answers L) → EachIsResumed → ResumesBeforeItWaits answers
resumes_before_it_waits answers each a b result w before between p status h hand =
    let start : State = heard a.state Agreed in
    let wait : AsksThen start (before ++ (Wait, Status_is p status) ∷ between) Wait = asks_then answers a b result w (before ++ (Wait, Status_is p status) ∷ between) Wait h in
    let here : AskedAt start before Wait (Status_is p status) between = asked_at start before Wait (Status_is p status) between wait.asked in
    let same : told start (replies_of (before ++ (Wait, Status_is p status) ∷ between)) ≡ told (heard (told start (replies_of before)) (Status_is p status)) (replies_of between) =
    ap (told start) (map-append (λ x. x.1) before ((Wait, Status_is p status) ∷ between)) ∙ told-append start (replies_of before) (Status_is p status ∷ replies_of between) in
    between_waits each (told start (replies_of before)) p status between here.here here.behind (ap request_of (sym same) ∙ wait.next) hand

-- Behind a resumption

-- what is asked after the reply to it, where that is admitted
follows : (o : Options) (script : Script) (known : ℕ → Known) (p : ℕ) (place : Awaiting) (r : Reply) → resumes_by (asks o place) ≡ true
    → (request o (next_at o script known (Serving p place) r).focus ≡ Some Wait) ⊎ (request o (next_at o script known (Serving p place) r).focus ≡ None)
follows o script known p Seizing r e = absurd (cc e)
follows o script known p Entry_regs r e = absurd (cc e)
follows o script known p (Entry_peek regs got w) r e = absurd (cc e)
follows o script known p (Entry_set regs n) r e = absurd (cc e)
follows o script known p Exit_regs r e = absurd (cc e)
follows o script known p (Exit_set regs x) r e = absurd (cc e)
follows o script known p (Exit_peek x replaced got w) r e = absurd (cc e)
follows o script known p (Signal_info n) r e = absurd (cc e)
follows o script known p (Resuming n) Agreed e = inl refl
follows o script known p (Resuming n) (Status_is v z) e = inl refl
follows o script known p (Resuming n) (Registers_are v) e = inl refl
follows o script known p (Resuming n) (Bytes_are v) e = inl refl
follows o script known p (Resuming n) (Message_is v) e = inl refl
follows o script known p (Resuming n) (Info_is v) e = inl refl
follows o script known p (Resuming n) (Outcome_is v) e = inl refl
follows o script known p (Resuming n) (Errno_is v) e = inl refl
follows o script known p (Resuming n) Out_of_turns e = inr refl
follows o script known p (Resuming n) (Boot_refused v) e = inl refl
follows o script known p Listening Agreed e = inl refl
follows o script known p Listening (Status_is v z) e = inl refl
follows o script known p Listening (Registers_are v) e = inl refl
follows o script known p Listening (Bytes_are v) e = inl refl
follows o script known p Listening (Message_is v) e = inl refl
follows o script known p Listening (Info_is v) e = inl refl
follows o script known p Listening (Outcome_is v) e = inl refl
follows o script known p Listening (Errno_is v) e = inl refl
follows o script known p Listening Out_of_turns e = inr refl
follows o script known p Listening (Boot_refused v) e = inl refl

wait_is : (asked : Option Request) (q : Request) → (asked ≡ Some Wait) ⊎ (asked ≡ None) → asked ≡ Some q → q ≡ Wait
wait_is asked q (inl e) h = cc (e, h)
wait_is asked q (inr e) h = absurd (cc (sym e ∙ h))

wait_follows : (o : Options) (script : Script) (t : Tracer) (p : ℕ) (place : Awaiting) (r : Reply) (q : Request) (is_admitted : Bool) → resumes_by (asks o place) ≡ true
    → request o (cond is_admitted (takes t (Serving p place) r (next_at o script t.known (Serving p place) r)) (faults t)).tracer.focus ≡ Some q → q ≡ Wait
wait_follows o script t p place r q true e h = wait_is (request o (next_at o script t.known (Serving p place) r).focus) q (follows o script t.known p place r e) h
wait_follows o script t p place r q false e h = absurd (cc h)

some_is : (x y : Request) → Some x ≡ Some y → x ≡ y
some_is x y e = cc e

waits_not : (q : Request) → Wait ≡ q → resumes q ≡ true → ⊥
waits_not q e is = cc (ap resumes e ∙ is)

outcome_not : (q : Request) → Ask_outcome ≡ q → resumes q ≡ true → ⊥
outcome_not q e is = cc (ap resumes e ∙ is)

-- what a tracer asks that asks to resume
resumes_at : (o : Options) (script : Script) (t : Tracer) (f : Focus) (r : Reply) (q behind : Request) → request o f ≡ Some q → resumes q ≡ true
    → request o (next_from o script t f r).tracer.focus ≡ Some behind → behind ≡ Wait
resumes_at o script t Booting r q behind e is h = absurd (cc e)
resumes_at o script t Waiting r q behind e is h = absurd (waits_not q (some_is Wait q e) is)
resumes_at o script t (Serving p place) r q behind e is h = wait_follows o script t p place r behind (admits_at o t.known t.tracees (Serving p place) r) (ap resumes (some_is (To p (asks o place)) q e) ∙ is) h
resumes_at o script t Asking_outcome r q behind e is h = absurd (outcome_not q (some_is Ask_outcome q e) is)
resumes_at o script t (Over x) r q behind e is h = absurd (cc e)
resumes_at o script t Turns_over r q behind e is h = absurd (cc e)
resumes_at o script t Faulted r q behind e is h = absurd (cc e)

resumes_in : (s : State) (r : Reply) (q behind : Request) → request_of s ≡ Some q → resumes q ≡ true → request_of (heard s r) ≡ Some behind → behind ≡ Wait
unfolding request_of heard moved_by
resumes_in s r q behind e is h = resumes_at s.options s.script s.tracer s.tracer.focus r q behind e is h

pub waits_once_it_resumed : {L : Type 0} (answers : Answers L) → WaitsOnceItResumed answers
waits_once_it_resumed answers a b result w before q r behind is h =
    let start : State = heard a.state Agreed in
    let then : AsksThen start (before ++ (q, r) ∷ []) behind = asks_then answers a b result w (before ++ (q, r) ∷ []) behind h in
    let here : AskedAt start before q r [] = asked_at start before q r [] then.asked in
    let same : told start (replies_of (before ++ (q, r) ∷ [])) ≡ heard (told start (replies_of before)) r =
    ap (told start) (map-append (λ x. x.1) before ((q, r) ∷ [])) ∙ told-append start (replies_of before) (r ∷ []) in
    resumes_in (told start (replies_of before)) r q behind here.here is (ap request_of (sym same) ∙ then.next)
