-- What is said of a process's stop stays where others change its entry.
use Rattle.std.proofs.Common.{◌≡◌, ℕ, Bool, true, false, cond, List, [], ◌∷◌, Option, Some, None, refl, sym, subst, ◌∙◌, arith}
use Rattle.std.specs.Prelude.{◌==◌, is_some, fold, filter, nat_lt, set}
use Rattle.std.proofs.lemmas.Bool.Decides.{nat_tests}
use Rattle.std.specs.Cmp.{nat_cmp_total}
use Rattle.std.specs.Ordering.{nat_cmp, eq_by_cmp}
use Rattle.std.specs.FinMap as maps
use Rattle.lx_abi.specs.Signals.{is_stop}
use Rattle.lx_abi.specs.declared.log.Cause.{Cause}
use Rattle.lx_abi.specs.declared.signal.Signal.{Signal}
use Rattle.lx_sig.specs.declared.state.Job.{Job}
use Rattle.lx_sig.specs.declared.state.Job.TheVariants.{Free, AtStop}
use Rattle.lx_sig.specs.declared.state.Signals.{Signals}
use Rattle.lx_sig.specs.Pending.{added, cause_of, continued, dropped, sent, settled, with_job, without_opposites, without_stops}
use Rattle.lx_proc.specs.declared.state.Entry.{Entry}
use Rattle.lx_proc.specs.declared.state.Shared.{Shared}
use Rattle.lx_proc.specs.State.{Entries, changed, changed_entry, with_news, with_signals}
use Rattle.lx_proc.specs.declared.state.News.TheVariants as news
use Rattle.lx_proc.specs.Families.{is_zombie}
use Rattle.lx_proc.specs.Sending.{receives}
use Rattle.lx_proc.specs.declared.state.Life.TheVariants.{Dying, Zombie}
use Rattle.lx_pcalls.specs.Ends.{cause_of_end, dies, orphan, orphaned, released, released_entry, sigchld, told, told_of, wants_no_news, retired_by, buried, buried_entry, with_life}
use Rattle.lx_pcalls.specs.Stops.{heard, heard_by, settled_at, stop_entry, stopped, wake_entry, woken}
use Rattle.lx_pcalls.specs.Wait4.{told_child, told_entry}
use Rattle.lx_kernel.proofs.Blocked.{entry_other}
use Rattle.lx_sound.proofs.Maps.{inserted_other, there_now}

equals : (n k : ℕ) → (n == k) ≡ true → n ≡ k
equals n k h = grind (arith, nat_tests)

-- free stays free, and a stop stays one, with the SIGCONT that came
abbrev pub KeepsJob : Job → Job → Type 0
KeepsJob Free j = j ≡ Free
KeepsJob (AtStop c) Free = ⊥
KeepsJob (AtStop c) (AtStop d) = c ≡ true → d ≡ true

-- an entry leaves, or its job is kept
abbrev pub SameJob : Option Entry → Option Entry → Type 0
SameJob o None = Unit {0}
SameJob None (Some e) = ⊥
SameJob (Some e) (Some e') = KeepsJob e.signals.job e'.signals.job

abbrev pub SameJobs : Entries → Entries → Type 0
SameJobs m m' = (q : ℕ) → SameJob (maps.get m q) (maps.get m' q)

pub job_stays : (j : Job) → KeepsJob j j
job_stays Free = refl
job_stays (AtStop c) = λ h. h

job_then : (i j k : Job) → KeepsJob i j → KeepsJob j k → KeepsJob i k
job_then Free j k h g = subst (λ x. KeepsJob x k) h g
job_then (AtStop c) Free k h g = absurd h
job_then (AtStop c) (AtStop d) Free h g = absurd g
job_then (AtStop c) (AtStop d) (AtStop e) h g = λ x. g (h x)

pub same_job : (o : Option Entry) → SameJob o o
same_job None = tt
same_job (Some e) = job_stays e.signals.job

pub then_job : (a b c : Option Entry) → SameJob a b → SameJob b c → SameJob a c
then_job a b None h g = tt
then_job a None (Some z) h g = absurd g
then_job None (Some y) (Some z) h g = absurd h
then_job (Some x) (Some y) (Some z) h g = job_then x.signals.job y.signals.job z.signals.job h g

pub jobs_stay : (m : Entries) → SameJobs m m
jobs_stay m q = same_job (maps.get m q)

pub jobs_then : (a b c : Entries) → SameJobs a b → SameJobs b c → SameJobs a c
jobs_then a b c h g q = then_job (maps.get a q) (maps.get b q) (maps.get c q) (h q) (g q)

-- The table with one entry put in, or taken out.

put_job : (m : Entries) (k : ℕ) (e e' : Entry) → maps.get m k ≡ Some e → KeepsJob e.signals.job e'.signals.job → SameJobs m (maps.insert m k e')
put_job m k e e' there keeps q = go (q == k) refl
  where
    go : (b : Bool) → (q == k) ≡ b → SameJob (maps.get m q) (maps.get (maps.insert m k e') q)
    go false other = subst (SameJob (maps.get m q)) (sym (inserted_other m k e' q other)) (same_job (maps.get m q))
    go true is =
        subst (λ (n : ℕ). SameJob (maps.get m n) (maps.get (maps.insert m k e') n)) (sym (equals q k is))
        (subst (λ o. SameJob o (maps.get (maps.insert m k e') k)) (sym there) (subst (SameJob (Some e)) (sym (there_now nat_cmp_total m k e')) keeps))

taken_job : (m : Entries) (k : ℕ) → SameJobs m (maps.remove m k)
taken_job m k q = subst (SameJob (maps.get m q)) (sym (maps.get-remove nat_cmp_total m k q)) (go (eq_by_cmp nat_cmp q k))
  where
    go : (b : Bool) → SameJob (maps.get m q) (cond b None (maps.get m q))
    go true = tt
    go false = same_job (maps.get m q)

pub changed_job : (m : Entries) (k : ℕ) (f : Entry → Entry) → ((e : Entry) → KeepsJob e.signals.job (f e).signals.job) → SameJobs m (changed m k f)
changed_job m k f keeps = go (maps.get m k) refl
  where
    go : (o : Option Entry) → maps.get m k ≡ o → SameJobs m (changed_entry m k f o)
    go None there = jobs_stay m
    go (Some e) there = put_job m k e (f e) there (keeps e)

-- A signal is sent.

continued_job : (j : Job) → KeepsJob j (continued j)
continued_job Free = refl
continued_job (AtStop c) = λ h. refl

noticed_job : (g : Signals) (is : Bool) → KeepsJob g.job (cond is (with_job g (continued g.job)) g).job
noticed_job g true = continued_job g.job
noticed_job g false = job_stays g.job

pub added_job : (g : Signals) (n : ℕ) (cause : Cause) → (added g n cause).job ≡ g.job
added_job g n cause = go (is_some (cause_of g n))
  where
    go : (b : Bool) → (cond b g (record g { pending = set g.pending n (Some cause) })).job ≡ g.job
    go true = refl
    go false = refl

pub opposites_job : (g : Signals) (n : ℕ) → (without_opposites g n).job ≡ g.job
opposites_job g n = go (is_stop n) (n == 18)
  where
    go : (b c : Bool) → (cond b (dropped g 18) (cond c (without_stops g) g)).job ≡ g.job
    go true c = refl
    go false true = refl
    go false false = refl

pub sent_job : (g : Signals) (n : ℕ) (cause : Cause) → KeepsJob g.job (sent g n cause).job
unfolding sent
sent_job g n cause =
    subst (λ j. KeepsJob j (sent g n cause).job) (added_job (without_opposites g n) n cause ∙ opposites_job g n)
    (noticed_job (added (without_opposites g n) n cause) (n == 18))

pub received_job : (e : Entry) (signal : Signal) (cause : Cause) → KeepsJob e.signals.job (receives e signal cause).signals.job
received_job e signal cause = sent_job e.signals signal.number cause

-- Of a stop and a waking a parent hears.

heard_job : (m : Entries) (parent : ℕ) (c : Cause) → SameJobs m (heard m parent c)
heard_job m parent c = go (maps.get m parent)
  where
    either : (b : Bool) → SameJobs m (cond b m (changed m parent (λ e. told_of e c)))
    either true = jobs_stay m
    either false = changed_job m parent (λ e. told_of e c) (λ e. received_job e sigchld c)

    go : (o : Option Entry) → SameJobs m (heard_by m parent c o)
    go None = jobs_stay m
    go (Some e) = either (wants_no_news e)

pub stopped_job : (s : Shared) (p : ℕ) (signal : Signal) → SameJobs s.entries (stopped s p signal).entries
unfolding stopped
stopped_job s p signal = go (maps.get s.entries p)
  where
    go : (o : Option Entry) → SameJobs s.entries (stop_entry s.entries p signal o)
    go None = jobs_stay s.entries
    go (Some e) =
        let m = changed s.entries p (λ e. with_news e (Some (news.Stopped signal))) in
        jobs_then s.entries m (heard m e.parent _) (changed_job s.entries p _ (λ e. job_stays e.signals.job)) (heard_job m e.parent _)

-- A process ends.

orphan_job : (m : Entries) (c : ℕ) (e : Entry) → maps.get m c ≡ Some e → (zombie : Bool) → SameJobs m (orphan m c e zombie)
orphan_job m c e there true = taken_job m c
orphan_job m c e there false = put_job m c e (record e { parent = 0 }) there (job_stays e.signals.job)

released_job : (p : ℕ) (m : Entries) (c : ℕ) → SameJobs m (released p m c)
unfolding released
released_job p m c = go (maps.get m c) refl
  where
    either : (e : Entry) → maps.get m c ≡ Some e → (b : Bool) → SameJobs m (cond b (orphan m c e (is_zombie e.life)) m)
    either e there true = orphan_job m c e there (is_zombie e.life)
    either e there false = jobs_stay m

    go : (o : Option Entry) → maps.get m c ≡ o → SameJobs m (released_entry m p c o)
    go None there = jobs_stay m
    go (Some e) there = either e there (e.parent == p)

each_job : (p : ℕ) (m : Entries) (cs : List ℕ) → SameJobs m (fold (released p) m cs)
each_job p m [] = jobs_stay m
each_job p m (c ∷ cs) = jobs_then m (released p m c) (fold (released p) (released p m c) cs) (released_job p m c) (each_job p (released p m c) cs)

orphaned_job : (m : Entries) (p : ℕ) → SameJobs m (orphaned m p)
unfolding orphaned
orphaned_job m p = each_job p m (filter (nat_lt 0) (maps.keys m))

retired_job : (m : Entries) (p w parent : ℕ) (o : Option Entry) → SameJobs m (retired_by m p w parent o)
retired_job m p w parent None = taken_job m p
retired_job m p w parent (Some e) = go (wants_no_news e)
  where
    go : (b : Bool) → SameJobs m (cond b (maps.remove m p) (changed (changed m parent (λ e. told e p w)) p (λ e. with_life e (Zombie w))))
    go true = taken_job m p
    go false =
        let n = changed m parent (λ e. told e p w) in
        jobs_then m n (changed n p (λ e. with_life e (Zombie w))) (changed_job m parent (λ e. told e p w) (λ e. received_job e sigchld (cause_of_end p w)))
        (changed_job n p (λ e. with_life e (Zombie w)) (λ e. job_stays e.signals.job))

pub buried_job : (s : Shared) (p w : ℕ) → SameJobs s.entries (buried s p w).entries
unfolding buried
buried_job s p w = go (maps.get s.entries p)
  where
    go : (o : Option Entry) → SameJobs s.entries (buried_entry s.entries p w o)
    go None = jobs_stay s.entries
    go (Some e) =
        let m = orphaned s.entries p in
        jobs_then s.entries m (retired_by m p w e.parent (maps.get m e.parent)) (orphaned_job s.entries p) (retired_job m p w e.parent (maps.get m e.parent))

pub dies_job : (s : Shared) (p w : ℕ) → SameJobs s.entries (dies s p w).entries
dies_job s p w =
    let m = changed s.entries p (λ e. with_news e None) in
    jobs_then s.entries m (changed m p (λ e. with_life e (Dying w))) (changed_job s.entries p _ (λ e. job_stays e.signals.job)) (changed_job m p _ (λ e. job_stays e.signals.job))

-- A child is told of.

pub told_job : (s : Shared) (n : ℕ) → SameJobs s.entries (told_child s n).entries
told_job s n = go (maps.get s.entries n)
  where
    either : (b : Bool) → SameJobs s.entries (cond b (maps.remove s.entries n) (changed s.entries n (λ e. with_news e None)))
    either true = taken_job s.entries n
    either false = changed_job s.entries n _ (λ e. job_stays e.signals.job)

    go : (o : Option Entry) → SameJobs s.entries (told_entry s.entries n o)
    go None = jobs_stay s.entries
    go (Some e) = either (is_zombie e.life)

-- The others' alone, where a process changes its own.

abbrev pub OthersJobs : ℕ → Entries → Entries → Type 0
OthersJobs p m m' = (q : ℕ) → (q ≡ p → ⊥) → SameJob (maps.get m q) (maps.get m' q)

pub own_job : (m : Entries) (p : ℕ) (f : Entry → Entry) → OthersJobs p m (changed m p f)
own_job m p f q ne = subst (SameJob (maps.get m q)) (sym (entry_other m p q f (maps.get m p) ne)) (same_job (maps.get m q))

pub woken_job : (s : Shared) (p : ℕ) → OthersJobs p s.entries (woken s p).entries
unfolding woken
woken_job s p = go (maps.get s.entries p)
  where
    go : (o : Option Entry) → OthersJobs p s.entries (wake_entry s.entries p o)
    go None q ne = same_job (maps.get s.entries q)
    go (Some e) q ne =
        let one = settled_at s.entries p in
        let two = changed one p (λ e. with_news e (Some news.Continued)) in
        then_job (maps.get s.entries q) (maps.get one q) (maps.get (heard two e.parent _) q) (own_job s.entries p (λ e. with_signals e (settled e.signals)) q ne)
        (then_job (maps.get one q) (maps.get two q) (maps.get (heard two e.parent _) q) (own_job one p _ q ne) (heard_job two e.parent _ q))

-- the process whose entry is changed has one that was there
pub changed_at : (m : Entries) (k : ℕ) (f : Entry → Entry) (e : Entry) → maps.get m k ≡ Some e → KeepsJob e.signals.job (f e).signals.job → SameJobs m (changed m k f)
changed_at m k f e there keeps = subst (λ o. SameJobs m (changed_entry m k f o)) (sym there) (put_job m k e (f e) there keeps)

-- who is woken is at no stop
abbrev pub IsFree : Option Entry → Type 0
IsFree None = Unit {0}
IsFree (Some e) = e.signals.job ≡ Free

free_on : (o o' : Option Entry) → SameJob o o' → IsFree o → IsFree o'
free_on o None same free = tt
free_on None (Some e') same free = absurd same
free_on (Some e) (Some e') same free = subst (λ j. KeepsJob j e'.signals.job) free same

pub woken_own : (s : Shared) (p : ℕ) → IsFree (maps.get (woken s p).entries p)
unfolding woken
woken_own s p = go (maps.get s.entries p) refl
  where
    settled_own : (e : Entry) (o : Option Entry) → maps.get s.entries p ≡ o → o ≡ Some e → IsFree (maps.get (changed_entry s.entries p (λ e. with_signals e (settled e.signals)) o) p)
    settled_own e None there is = absurd (cc is)
    settled_own e (Some x) there is = subst IsFree (sym (there_now nat_cmp_total s.entries p (with_signals x (settled x.signals)))) refl

    go : (o : Option Entry) → maps.get s.entries p ≡ o → IsFree (maps.get (wake_entry s.entries p o) p)
    go None there = subst IsFree (sym there) tt
    go (Some e) there =
        let one = settled_at s.entries p in
        let two = changed one p (λ e. with_news e (Some news.Continued)) in
        free_on (maps.get one p) (maps.get (heard two e.parent _) p)
        (then_job (maps.get one p) (maps.get two p) (maps.get (heard two e.parent _) p) (changed_job one p _ (λ e. job_stays e.signals.job) p) (heard_job two e.parent _ p))
        (settled_own e (maps.get s.entries p) refl there)
