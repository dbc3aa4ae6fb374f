-- A turn keeps a state sound, and a boot begins in one.
use Rattle.std.proofs.Common.{◌≡◌, ℕ, zero, suc, ◌+◌, ◌<◌, ◌≤◌, ⊎_elim, Bool, true, false, cond, map, List, [], ◌∷◌, length, Option, Some, None, is_some, refl, ap, sym, subst, ◌∙◌, arith}
use Rattle.std.proofs.lemmas.Bool.Decides.{nat_tests}
use Rattle.std.proofs.lemmas.List.Elements.{All-nil, All-cons}
use Rattle.std.proofs.Math.Nat.{le-max_left}
use Rattle.std.specs.Prelude.{max, ◌==◌, fold, take}
use Rattle.std.specs.Option.{unwrap_or}
use Rattle.std.specs.Ordering.{nat_cmp, eq_by_cmp}
use Rattle.std.specs.Cmp.{nat_cmp_total}
use Rattle.std.specs.FinMap as maps
use Rattle.rv_hart.specs.declared.outcome.Step.{Step}
use Rattle.rv_hart.specs.declared.outcome.Step.TheVariants as step
use Rattle.rv_hart.specs.Steps.{Outcome, stepped as instruction}
use Rattle.elf_image.specs.Images.{extent_of, IsInRange, IsLaidOut}
use Rattle.elf_image.specs.Layout.{page_count as extents_count}
use Rattle.lx_abi.specs.Errnos.{enosys}
use Rattle.lx_abi.specs.Log.{entries, items_of}
use Rattle.lx_abi.specs.declared.boot.Boot.{Boot}
use Rattle.lx_abi.specs.declared.boot.GuestFile.{GuestFile}
use Rattle.lx_abi.specs.declared.log.Call.{Call}
use Rattle.lx_abi.specs.declared.log.Cause.{Cause}
use Rattle.lx_abi.specs.declared.log.Cause.TheVariants.{Kernel as By_kernel}
use Rattle.lx_abi.specs.Limits.{most_fds}
use Rattle.lx_abi.specs.declared.outcome.Node.TheVariants.{File, Directory}
use Rattle.lx_abi.specs.declared.script.Choice.{Choice}
use Rattle.lx_abi.specs.declared.signal.Signal.{Signal}
use Rattle.lx_files.specs.Boots.{rooted, ends_directory, is_there, with_directory_at, with_directories, with_file, tree_of}
use Rattle.lx_files.specs.Trees.{created}
use Rattle.lx_files.specs.declared.tree.Tree.{Tree}
use Rattle.containers.specs.Vacant.{vacant}
use Rattle.lx_open.specs.Opens.{pair, no_fds, IsFree, opened}
use Rattle.lx_open.specs.declared.description.Description.{Description}
use Rattle.lx_open.specs.declared.fd_table.FdTable.{FdTable}
use Rattle.lx_open.specs.declared.description.Slot.{Slot}
use Rattle.lx_open.specs.declared.description.Object.TheVariants.{Input, Console}
use Rattle.lx_model.specs.Machine.{with_result, Refused, Returns, Jumps, Execs, Bears, Blocks, Ends, Took, Passes, Stops, Kills}
use Rattle.lx_model.specs.Turn.{Out, gives, turn, killed_or, lives, joins, stepped, answered, halts, took, wakes}
use Rattle.lx_model.specs.Kernel.{Script, Kernel, traces, choice_at, put, after_turn, with_child, first_kernel, kernel_turn, kernel_run, born}
use Rattle.lx_model.specs.Finite.{Is, Running, at}
use Rattle.lx_model.specs.declared.stage.Stage.{Stage}
use Rattle.lx_model.specs.declared.stage.Stage.TheVariants.{Born, Run, Faulting, Entered, Doing, Replaced, Acted, Finished, Taken, Dropped, Stopped, Released, Woken}
use Rattle.lx_model.specs.declared.stage.Task.{Task}
use Rattle.lx_model.specs.declared.stage.Task.TheVariants as task
use Rattle.lx_sig.specs.Frames.{frame_fault, blocking}
use Rattle.lx_sig.specs.Pending.{without_pending}
use Rattle.lx_sig.specs.Reactions.{reaction as reaction_to}
use Rattle.lx_sig.specs.declared.reactions.Reaction.{Reaction}
use Rattle.lx_sig.specs.declared.reactions.Reaction.TheVariants as reaction
use Rattle.lx_sig.specs.declared.state.Interrupted.{Interrupted}
use Rattle.lx_proc.specs.declared.state.Entry.{Entry}
use Rattle.lx_proc.specs.declared.state.Shared.{Shared}
use Rattle.lx_proc.specs.declared.state.UserState.{UserState}
use Rattle.lx_proc.specs.State.{with_signals}
use Rattle.lx_proc.specs.Answers.{Answers}
use Rattle.lx_boot.specs.Boots.{fault_of}
use Rattle.lx_boot.specs.First.{first_entry, first_fds, first_shared, reads, writes}
use Rattle.lx_exec.specs.Programs.{stub_image, booted}
use Rattle.lx_fcalls.specs.Calls.{file_call}
use Rattle.lx_fcalls.proofs.FileAnswers.{files_hold}
use Rattle.lx_pcalls.specs.Interruption.{is_interrupted, interruptible, blocks_or_returns}
use Rattle.lx_pcalls.specs.Stops.{is_continued_at, settles, stopped, woken}
use Rattle.lx_pcalls.specs.Taking.{takes, takes_at, reacts}
use Rattle.lx_turn.specs.Calls.{does, called}
use Rattle.lx_turn.specs.Linux.{linux}
use Rattle.lx_turn.specs.Reactions.{next_of, runs, resumed, ran_by, is_killed}
use Rattle.lx_sound.specs.Together.{HoldTogether}
use Rattle.lx_sound.specs.Masks.{AreSignals}
use Rattle.lx_sound.specs.Pages.{HasFewPages, IsSmall}
use Rattle.lx_sound.specs.Parts.{is_alive, lives as is_living, PartsSound}
use Rattle.lx_sound.specs.Sound.{Agree, HasWord, Sound, IsSound, TurnsStaySound, KernelsAreSound}
use Rattle.lx_sound.proofs.Maps.{there_now, inserted, inserted_other}
use Rattle.lx_sound.proofs.Together.{created_together}
use Rattle.lx_sound.proofs.Entries.{put_sound, signals_sound, received_sound}
use Rattle.lx_sound.proofs.Changes.{Change, Opens, done, parts_done}
use Rattle.lx_sound.proofs.Masks.{taken_signals, blocked_signals, first_signals}
use Rattle.lx_sound.proofs.Pages.{written_few, stepped_few, program_few}
use Rattle.lx_sound.proofs.Bodies.{LeavesFew, files_few}
use Rattle.lx_pcalls.proofs.ProcessAnswers.{processes_hold}
use Rattle.lx_sound.proofs.ProcessBodies.{processes_few}
use Rattle.lx_sound.proofs.Booted.{IsWithin, boots_within}
use Rattle.lx_sound.proofs.Keeping.{Keeps, keeps_all, keeps_then, changed_keeps, kept_sound, DoesKeep, KeptIf}
use Rattle.lx_sound.proofs.Files.{files_kept}
use Rattle.lx_sound.proofs.Processes.{processes_kept}
use Rattle.lx_sound.proofs.Ends.{stands, stays_gone, dies_sound, buried_sound, bears_sound, stopped_keeps, settles_keep, woken_keeps}

-- Calls and signals.

interrupted_kept : (child : ℕ) (s : Shared) (p : ℕ) (b : UserState) (t : Bool) → DoesKeep child s p (blocks_or_returns s b t)
interrupted_kept child s p b true = keeps_all s
interrupted_kept child s p b false = tt

interruptible_kept : (child : ℕ) (s : Shared) (p : ℕ) (b : UserState) (a : Answers) → DoesKeep child s p a → DoesKeep child s p (interruptible s p b a)
interruptible_kept child s p b (Refused e) h = h
interruptible_kept child s p b (Returns t c x) h = h
interruptible_kept child s p b (Jumps t c) h = h
interruptible_kept child s p b (Execs t c) h = h
interruptible_kept child s p b (Bears t c newborn) h = h
interruptible_kept child s p b Blocks h = interrupted_kept child s p b (is_interrupted (maps.get s.entries p))
interruptible_kept child s p b (Ends w) h = h

file_kept : (child : ℕ) (s : Shared) (p : ℕ) (o : Option Answers) (other : Answers) → KeptIf child s p o → DoesKeep child s p other → DoesKeep child s p (unwrap_or o other)
file_kept child s p None other h g = g
file_kept child s p (Some a) other h g = h

pub does_kept : (child : ℕ) (s : Shared) (p : ℕ) (call : Call) (b : UserState) → PartsSound s → is_living (maps.get s.entries p) ≡ true → DoesKeep child s p (does s child p call b)
unfolding does
does_kept child s p call b h alive =
    interruptible_kept child s p b (called s child p call b)
    (file_kept child s p (file_call s p call b) _ (files_kept child s p call b h alive)
    (processes_hold s child p call b (DoesKeep child s p) (processes_kept child s p call b h alive) (Refused enosys) tt))

-- and of the caller's memory

interrupted_few : (s : Shared) (b : UserState) (t : Bool) → HasFewPages b.memory → LeavesFew (blocks_or_returns s b t)
interrupted_few s b true few = few
interrupted_few s b false few = tt

interruptible_few : (s : Shared) (p : ℕ) (b : UserState) (a : Answers) → HasFewPages b.memory → LeavesFew a → LeavesFew (interruptible s p b a)
interruptible_few s p b (Refused e) few h = h
interruptible_few s p b (Returns t c x) few h = h
interruptible_few s p b (Jumps t c) few h = h
interruptible_few s p b (Execs t c) few h = h
interruptible_few s p b (Bears t c newborn) few h = h
interruptible_few s p b Blocks few h = interrupted_few s b (is_interrupted (maps.get s.entries p)) few
interruptible_few s p b (Ends w) few h = h

does_few : (child : ℕ) (s : Shared) (p : ℕ) (call : Call) (b : UserState) → HasFewPages b.memory → LeavesFew (does s child p call b)
unfolding does
does_few child s p call b few =
    interruptible_few s p b (called s child p call b) few
    (files_hold s p call b LeavesFew (files_few s p call b few) _ (processes_hold s child p call b LeavesFew (processes_few s child p call b few) (Refused enosys) tt))

abbrev TookFew : Took Shared UserState → Type 0
TookFew (Passes t c) = HasFewPages c.memory
TookFew Stops = Unit {0}
TookFew (Kills w) = Unit {0}

either_took_few : (t : Bool) (x y : Took Shared UserState) → TookFew x → TookFew y → TookFew (cond t x y)
either_took_few true x y h g = h
either_took_few false x y h g = g

reacts_few : (s : Shared) (p : ℕ) (e : Entry) (b : UserState) (signal : Signal) (r : Reaction) → HasFewPages b.memory → TookFew (reacts s p e b signal r)
reacts_few s p e b signal reaction.Passes few = few
reacts_few s p e b signal reaction.Stops few = tt
reacts_few s p e b signal reaction.Ends few = tt
reacts_few s p e b signal (reaction.Handles a) few = either_took_few (is_some (frame_fault b.memory b.hart)) _ _ tt (written_few b.memory _ _ few)

takes_at_few : (s : Shared) (p : ℕ) (b : UserState) (signal : Signal) (cause : Cause) (o : Option Entry) → HasFewPages b.memory → TookFew (takes_at o s p b signal cause)
takes_at_few s p b signal cause None few = few
takes_at_few s p b signal cause (Some e) few = reacts_few s p e b signal (reaction_to e.signals signal cause) few

takes_few : (s : Shared) (p : ℕ) (b : UserState) (signal : Signal) (cause : Cause) → HasFewPages b.memory → TookFew (takes s p b signal cause)
unfolding takes
takes_few s p b signal cause few = takes_at_few s p b signal cause (maps.get s.entries p) few

abbrev pub TookKeeps : Shared → Took Shared UserState → Type 0
TookKeeps s (Passes t c) = Keeps s t
TookKeeps s Stops = Unit {0}
TookKeeps s (Kills w) = Unit {0}

took_either : (s : Shared) (t : Bool) (x y : Took Shared UserState) → TookKeeps s x → TookKeeps s y → TookKeeps s (cond t x y)
took_either s true x y h g = h
took_either s false x y h g = g

reacts_kept : (s : Shared) (p : ℕ) (e : Entry) (b : UserState) (signal : Signal) (cause : Cause) → AreSignals e.signals → (r : Reaction) → reaction_to e.signals signal cause ≡ r → TookKeeps s (reacts s p e b signal r)
reacts_kept s p e b signal cause within reaction.Passes is = keeps_all s
reacts_kept s p e b signal cause within reaction.Stops is = tt
reacts_kept s p e b signal cause within reaction.Ends is = tt
reacts_kept s p e b signal cause within (reaction.Handles a) is =
    took_either s (is_some (frame_fault b.memory b.hart)) _ _ tt
    (changed_keeps s p _ (λ x. refl) (λ x h. signals_sound s.tree x (blocking e.signals signal a) (blocked_signals e.signals within signal cause a is) h))

takes_at_kept : (s : Shared) (p : ℕ) (b : UserState) (signal : Signal) (cause : Cause) (o : Option Entry) → PartsSound s → maps.get s.entries p ≡ o → TookKeeps s (takes_at o s p b signal cause)
takes_at_kept s p b signal cause None h is = keeps_all s
takes_at_kept s p b signal cause (Some e) h is = reacts_kept s p e b signal cause (h.entries p e is).signals (reaction_to e.signals signal cause) refl

pub takes_kept : (s : Shared) (p : ℕ) (b : UserState) (signal : Signal) (cause : Cause) → PartsSound s → TookKeeps s (takes s p b signal cause)
unfolding takes
takes_kept s p b signal cause h = takes_at_kept s p b signal cause (maps.get s.entries p) h refl

join_kept : (s : Shared) (p : ℕ) (x : Option Signal) → Keeps s (joins linux s p x)
join_kept s p None = keeps_all s
join_kept s p (Some signal) = changed_keeps s p _ (λ e. refl) (λ e h. received_sound s.tree e signal By_kernel h)

pub joins_kept : (s : Shared) (p : ℕ) (x y : Option Signal) → Keeps s (joins linux (joins linux s p x) p y)
joins_kept s p x y = keeps_then s (joins linux s p x) (joins linux (joins linux s p x) p y) (join_kept s p x) (join_kept (joins linux s p x) p y)

-- A turn.

pub alive_is : (o : Option Entry) (b : UserState) (stage : Stage) → Agree o (task.Alive b stage) → is_living o ≡ true
alive_is None b stage agrees = absurd agrees
alive_is (Some e) b stage agrees = ap is_alive agrees

abbrev pub next : Kernel Shared UserState → ℕ → Out Shared UserState → Kernel Shared UserState
next k p o = with_child (after_turn k p o) o.event

module _ (k : Kernel Shared UserState) (p : ℕ) (b : UserState) (stage : Stage) (is : k.tasks p ≡ task.Alive b stage) (h : IsSound k) where
  abbrev Goes : Out Shared UserState → Type 0
  Goes o = IsSound (next k p o)

  -- it lives on, and what is shared is kept
  on : (t : Shared) (c : UserState) (to : Stage) → HasFewPages c.memory → Keeps k.shared t → Sound t (put k.tasks p (task.Alive c to)) k.child
  on t c to small keeps = stands t k.tasks k.child p b c stage to is small (kept_sound k.shared t k.tasks k.child keeps h)

  here : (c : UserState) (to : Stage) → HasFewPages c.memory → Sound k.shared (put k.tasks p (task.Alive c to)) k.child
  here c to small = on k.shared c to small (keeps_all k.shared)

  own : HasFewPages b.memory
  own = subst IsSmall is (h.pages p)

  ran_sound : (o : Outcome) (st : Step) → HasFewPages o.memory → Goes (stepped linux k.shared p b (ran_by b o st))
  ran_sound o step.Ran small = here _ Run small
  ran_sound o step.Call small = here b (Entered None) own
  ran_sound o (step.Fault kind address) small = here b _ own

  resumed_sound : (x : Option Interrupted) → Goes (stepped linux k.shared p b (resumed b x))
  resumed_sound (Some x) = here _ Run own
  resumed_sound None = ran_sound (instruction b.hart b.memory) (instruction b.hart b.memory).step (stepped_few b.hart b.memory own)

  runs_sound : (signal : Option Signal) → Goes (stepped linux k.shared p b (runs k.shared p b signal))
  runs_sound (Some signal) =
      on _ b _ own (changed_keeps k.shared p (λ e. with_signals e (without_pending e.signals signal)) (λ e. refl) (λ e x. signals_sound k.shared.tree e (without_pending e.signals signal) (taken_signals e.signals x.signals signal) x))
  runs_sound None = resumed_sound b.interrupted

  lives_now : is_living (maps.get k.shared.entries p) ≡ true
  lives_now = alive_is (maps.get k.shared.entries p) b stage (subst (Agree (maps.get k.shared.entries p)) is (h.agree p))

  ends : (w : ℕ) → Sound (linux.die k.shared p w) (put k.tasks p (task.Dying w)) k.child
  ends w = dies_sound k.shared k.tasks k.child p w b stage is h

  answered_sound : (call : Call) (a : Answers) → DoesKeep k.child k.shared p a → LeavesFew a → Goes (answered linux k.shared k.child p b call a)
  answered_sound call (Refused e) g few = here _ _ own
  answered_sound call (Returns t c x) g few = on t _ _ few g
  answered_sound call (Jumps t c) g few = on t c _ few g
  answered_sound call (Execs t c) g few = on t c _ few g
  answered_sound call (Bears t c newborn) g few =
      let to : Stage = Acted call k.child false in
      let parent : UserState = with_result linux c k.child in
      subst (λ (u : Shared). Sound u (put (put k.tasks p (task.Alive parent to)) k.child (task.Alive newborn Born)) (suc k.child)) (sym g.3)
      (bears_sound k.shared (put k.tasks p (task.Alive parent to)) k.child p g.0 newborn g.1 few.1 g.2 (here parent to few.0))
  answered_sound call Blocks g few = here b (Doing call) own
  answered_sound call (Ends w) g few = ends w

  -- it leaves the signal that it took, or its group stop
  settles_sound : Goes (gives (settles k.shared p) (task.Alive b Run))
  settles_sound = on (settles k.shared p) b Run own (settles_keep k.shared p)

  halts_sound : (signal : Signal) (continued : Bool) → Goes (halts continued linux k.shared p b signal)
  halts_sound signal true = settles_sound
  halts_sound signal false = on (stopped k.shared p signal) b (Stopped signal) own (stopped_keeps k.shared p signal)

  wakes_sound : (signal : Signal) (continued : Bool) → Goes (wakes continued linux k.shared p b signal)
  wakes_sound signal true = on (woken k.shared p) b Woken own (woken_keeps k.shared p)
  wakes_sound signal false = here b (Stopped signal) own

  took_sound : (signal : Signal) (cause : Cause) (t : Took Shared UserState) → TookKeeps k.shared t → TookFew t → Goes (took linux k.shared p b signal cause t)
  took_sound signal cause (Passes t c) g few = on (settles t p) c Run few (keeps_then k.shared t (settles t p) g (settles_keep t p))
  took_sound signal cause Stops g few = halts_sound signal (is_continued_at (maps.get k.shared.entries p))
  took_sound signal cause (Kills w) g few = ends w

lives_sound : (c : Choice) (k : Kernel Shared UserState) (p : ℕ) (b : UserState) (stage : Stage) → k.tasks p ≡ task.Alive b stage → IsSound k → IsSound (next k p (lives linux c k.shared k.child p b stage))
lives_sound c k p b Born is h = here k p b Born is h b Run (own k p b Born is h)
lives_sound c k p b Run is h = runs_sound k p b Run is h (next_of (maps.get k.shared.entries p))
lives_sound c k p b (Faulting signal cause) is h = here k p b (Faulting signal cause) is h b _ (own k p b (Faulting signal cause) is h)
lives_sound c k p b (Entered x) is h = on k p b (Entered x) is h _ b _ (own k p b (Entered x) is h) (joins_kept k.shared p x c.signal)
lives_sound c k p b (Doing call) is h =
    answered_sound k p b (Doing call) is h call (does k.shared k.child p call b) (does_kept k.child k.shared p call b h.parts (lives_now k p b (Doing call) is h)) (does_few k.child k.shared p call b (own k p b (Doing call) is h))
lives_sound c k p b (Replaced call x) is h = here k p b (Replaced call x) is h _ _ (own k p b (Replaced call x) is h)
lives_sound c k p b (Acted call x replaced) is h = here k p b (Acted call x replaced) is h b Finished (own k p b (Acted call x replaced) is h)
lives_sound c k p b Finished is h = here k p b Finished is h b Run (own k p b Finished is h)
lives_sound c k p b (Taken signal cause) is h =
    took_sound k p b (Taken signal cause) is h signal cause (takes k.shared p b signal cause) (takes_kept k.shared p b signal cause h.parts) (takes_few k.shared p b signal cause (own k p b (Taken signal cause) is h))
lives_sound c k p b Dropped is h = settles_sound k p b Dropped is h
lives_sound c k p b (Stopped signal) is h = wakes_sound k p b (Stopped signal) is h signal (is_continued_at (maps.get k.shared.entries p))
lives_sound c k p b Released is h = settles_sound k p b Released is h
lives_sound c k p b Woken is h = here k p b Woken is h b Run (own k p b Woken is h)

killed_sound : (killed : Bool) (c : Choice) (k : Kernel Shared UserState) (p : ℕ) (b : UserState) (stage : Stage) → k.tasks p ≡ task.Alive b stage → IsSound k → IsSound (next k p (killed_or killed linux c k.shared k.child p b stage))
killed_sound true c k p b stage is h = ends k p b stage is h 9
killed_sound false c k p b stage is h = lives_sound c k p b stage is h

pub turn_sound : (c : Choice) (k : Kernel Shared UserState) (p : ℕ) (x : Task UserState) → k.tasks p ≡ x → IsSound k → IsSound (next k p (turn linux c k.shared k.child p x))
turn_sound c k p (task.Alive b stage) is h = killed_sound (is_killed (maps.get k.shared.entries p)) c k p b stage is h
turn_sound c k p (task.Dying w) is h = buried_sound k.shared k.tasks k.child p w is h
turn_sound c k p task.Gone is h = stays_gone k.shared k.tasks k.child p is h

pub turns_stay_sound : TurnsStaySound
turns_stay_sound script follow k p h = turn_sound (choice_at linux script (traces follow p) (λ n. entries p n (items_of k.log)) (k.tasks p)) k p (k.tasks p) refl h

-- A boot.

none_there : {X : Type 0} (q : ℕ) (x : X) → maps.get (maps.empty {X = X} {R = nat_cmp}) q ≡ Some x → ⊥
none_there q x e = cc (sym (maps.get-empty nat_cmp q) ∙ e)

bare : HoldTogether (record { names = maps.empty; nodes = maps.empty }) no_fds
bare = record {
  slots = λ key named e. absurd (none_there key named e);
  objects = λ n d e. absurd (none_there n d e);
  pipes = λ n bytes e. absurd (none_there n bytes e);
  names = λ path n e. absurd (cc (sym (maps.get-empty _ path) ∙ e));
}

either_directory : (tree : Tree) (path : List ℕ) (t : Bool) → HoldTogether tree no_fds → HoldTogether (cond t tree (created tree path Directory)) no_fds
either_directory tree path true h = h
either_directory tree path false h = created_together tree no_fds h path Directory

directory_at : (tree : Tree) (path : List ℕ) (i : ℕ) (t : Bool) → HoldTogether tree no_fds → HoldTogether (with_directory_at tree path i) no_fds
directory_at tree path i t h = go (ends_directory path i)
  where
    go : (c : Bool) → HoldTogether (cond c (cond (is_there tree (take i path)) tree (created tree (take i path) Directory)) tree) no_fds
    go true = either_directory tree (take i path) (is_there tree (take i path)) h
    go false = h

directories : (tree : Tree) (path : List ℕ) (n : ℕ) → HoldTogether tree no_fds → HoldTogether (with_directories tree path n) no_fds
unfolding with_directories
directories tree path zero h = h
directories tree path (suc n) h = directory_at (with_directories tree path n) path n true (directories tree path n h)

planted : (tree : Tree) (gs : List GuestFile) → HoldTogether tree no_fds → HoldTogether (fold with_file tree gs) no_fds
planted tree [] h = h
planted tree (f ∷ gs) h = planted (with_file tree f) gs (created_together (with_directories tree f.path (length f.path)) no_fds (directories tree f.path (length f.path) h) f.path (File f.content))

-- before a descriptor is open
bare_shared : Boot → Shared
bare_shared boot = record (first_shared boot.limits boot.files boot.input) { fds = no_fds }

bare_parts : (boot : Boot) → fault_of boot ≡ None → PartsSound (bare_shared boot)
unfolding bare_shared
bare_parts boot none =
    let within : IsWithin boot.files = boots_within boot none in record {
      files = planted rooted boot.files (created_together (record { names = maps.empty; nodes = maps.empty }) no_fds bare [] Directory);
      reached = within.reached;
      rooted = within.rooted;
      entries = put_sound (tree_of boot.files) maps.empty 1 first_entry (record { directory = within.rooted.root; signals = first_signals }) (λ p e is. absurd (none_there p e is));
      owned = λ p fd below there. absurd (let no : is_some (maps.get (maps.empty {X = Slot} {R = nat_cmp}) (pair p fd)) ≡ false = ap is_some (maps.get-empty nat_cmp (pair p fd)) in cc (no, there));
      within = record {
        nodes = within.nodes;
        files = within.small;
        contents = let le = within.contents in omega (arith, le);
        offsets = λ n d is. absurd (none_there n d is);
      };
    }

still_free : (fds : FdTable) (fd later : ℕ) (d : Description) → (pair 1 later == pair 1 fd) ≡ false → IsFree fds 1 later → IsFree (opened fds 1 fd d false) 1 later
still_free fds fd later d other none = inserted_other fds.slots (pair 1 fd) (record { description = vacant fds.descriptions; closes_on_exec = false }) (pair 1 later) other ∙ none

-- with the three that process 1 begins with
first_parts : (boot : Boot) → fault_of boot ≡ None → PartsSound (first_shared boot.limits boot.files boot.input)
unfolding bare_shared first_fds
first_parts boot none =
    let input : Change = Opens 0 (reads Input) false in
    let output : Change = Opens 1 (writes Console) false in
    let errors : Change = Opens 2 (writes Console) false in
    let s : Shared = bare_shared boot in
    let one : Shared = done s 1 input in
    let two : Shared = done one 1 output in
    let alive : is_living (maps.get s.entries 1) ≡ true = ap is_living (there_now nat_cmp_total maps.empty 1 first_entry) in
    let free_1 = still_free no_fds 0 1 (reads Input) refl (maps.get-empty nat_cmp (pair 1 1)) in
    let free_2 = still_free one.fds 1 2 (writes Console) refl (still_free no_fds 0 2 (reads Input) refl (maps.get-empty nat_cmp (pair 1 2))) in
    let below_0 : 0 < most_fds = omega arith in
    let below_1 : 1 < most_fds = omega arith in
    let below_2 : 2 < most_fds = omega arith in
    parts_done two 1 (parts_done one 1 (parts_done s 1 (bare_parts boot none) alive input (below_0, refl, refl, maps.get-empty nat_cmp (pair 1 0))) alive output (below_1, refl, refl, free_1)) alive errors (below_2, refl, refl, free_2)

one_lives : (n : ℕ) → maps.len (maps.insert (maps.empty {X = Entry} {R = nat_cmp}) 1 first_entry) ≤ max 1 n
one_lives n =
    let first = maps.len-insert nat_cmp_total (maps.empty {X = Entry} {R = nat_cmp}) 1 first_entry in
    let none = maps.len-empty nat_cmp Entry in
    let most = le-max_left 1 n in
    subst (λ k. k ≤ max 1 n) (sym first) (go (maps.contains_key (maps.empty {X = Entry} {R = nat_cmp}) 1) none most)
  where
    go : (b : Bool) → maps.len (maps.empty {X = Entry} {R = nat_cmp}) ≡ 0 → 1 ≤ max 1 n → cond b (maps.len (maps.empty {X = Entry} {R = nat_cmp})) (maps.len (maps.empty {X = Entry} {R = nat_cmp}) + 1) ≤ max 1 n
    go true none le = omega (arith, none, le)
    go false none le = omega (arith, none, le)

two_next : (n : ℕ) → 2 ≤ suc (max 1 n)
two_next n = let most = le-max_left 1 n in omega (arith, most)

stub_laid_out : IsLaidOut stub_image
stub_laid_out = record {
  some = omega arith;
  few = omega arith;
  in_range = All-cons IsInRange _ [] (record { some = omega arith; start = omega arith; end = omega arith; content = omega arith }) (All-nil IsInRange);
  apart = refl;
  pages = let one : extents_count (map extent_of stub_image.segments) ≡ 1 = refl in omega (arith, one);
}

born_small : (t : Bool) (b : UserState) → HasFewPages b.memory → IsSmall (born t b)
born_small true b few = few
born_small false b few = tt

pub first_sound : (boot : Boot) → fault_of boot ≡ None → IsSound (first_kernel (first_shared boot.limits boot.files boot.input) (booted boot.argv boot.env))
first_sound boot none =
    let b : UserState = booted boot.argv boot.env in record {
      parts = first_parts boot none;
      agree = λ p. subst (λ o. Agree o (born (p == 1) b)) (sym (looked p)) (alone b (p == 1));
      words = λ p e is. ⊎_elim (λ same. subst (λ (y : Entry). HasWord maps.empty p y.life) same tt) (λ old. absurd (none_there p e old)) (inserted nat_cmp_total maps.empty 1 first_entry p e is);
      pids = λ p le. inserted_other maps.empty 1 first_entry p (let above = le in grind (arith, nat_tests, above)) ∙ maps.get-empty nat_cmp p;
      live = one_lives boot.limits.live;
      last = two_next boot.limits.last_pid;
      pages = λ p. born_small (p == 1) b (program_few stub_image boot.argv boot.env stub_laid_out);
    }
  where
    same : (p : ℕ) → eq_by_cmp nat_cmp p 1 ≡ (p == 1)
    same p = grind (arith, nat_tests)

    looked : (p : ℕ) → maps.get (maps.insert (maps.empty {X = Entry} {R = nat_cmp}) 1 first_entry) p ≡ cond (p == 1) (Some first_entry) None
    looked p = maps.get-insert nat_cmp_total maps.empty 1 first_entry p ∙ ap (λ t. cond t (Some first_entry) (maps.get (maps.empty {X = Entry} {R = nat_cmp}) p)) (same p) ∙ ap (cond (p == 1) (Some first_entry)) (maps.get-empty nat_cmp p)

    alone : (b : UserState) (t : Bool) → Agree (cond t (Some first_entry) None) (born t b)
    alone b true = refl
    alone b false = tt

runs_sound_from : (script : Script) (follow : Bool) (k : Kernel Shared UserState) (pids : List ℕ) → IsSound k → IsSound (kernel_run linux script follow k pids)
runs_sound_from script follow k [] h = h
runs_sound_from script follow k (p ∷ pids) h = runs_sound_from script follow (kernel_turn linux script follow k p) pids (turns_stay_sound script follow k p h)

pub kernels_are_sound : KernelsAreSound
kernels_are_sound script follow boot pids none = runs_sound_from script follow (first_kernel (first_shared boot.limits boot.files boot.input) (booted boot.argv boot.env)) pids (first_sound boot none)

pub as_code_has_it : (v : Running Shared UserState) (k : Kernel Shared UserState) → Is v k → IsSound k → Sound v.shared (at task.Gone v.tasks) v.child
as_code_has_it v k is h = rw (is.shared, is.tasks, is.child) h
