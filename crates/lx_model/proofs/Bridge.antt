-- The values run as the definitions do.
use Rattle.std.proofs.Common.{◌≡◌, ℕ, suc, Bool, true, false, cond, List, [], ◌∷◌, ◌++◌, Option, Some, None, refl, sym, ap, ap₂, ◌∙◌, arith, unwrap_or}
use Rattle.std.specs.Prelude.{◌==◌}
use Rattle.std.specs.Option.{option_map, option_to_list}
use Rattle.std.proofs.lemmas.List.{map-append}
use Rattle.std.proofs.lemmas.Bool.Decides.{nat_tests}
use Rattle.std.specs.Ordering.{nat_cmp, eq_by_cmp}
use Rattle.std.proofs.lemmas.Cmp.{nat_cmp_total}
use Rattle.std.specs.FinMap as maps
use mathlib.Core.Path.{fun_ext}
use Rattle.lx_abi.specs.Log.{Noted, items_of}
use Rattle.lx_model.specs.Machine.{Machine}
use Rattle.lx_model.specs.Turn.{Task, Alive, Dying, Born, Gone, PtraceEvent, Plain, Execed, Forked, Out}
use Rattle.lx_model.specs.Kernel.{Script, put, born, Kernel, after_turn, with_child, turn_of, kernel_turn, kernel_run}
use Rattle.lx_model.specs.Finite.{at, item_of, placed, Running, ran, bore, turn_out, running_turn, running, Is}
use Rattle.lx_model.specs.Laws.{KernelsBeginAlike}

pub same_key : (q p : ℕ) → eq_by_cmp nat_cmp q p ≡ (p == q)
same_key q p = grind (arith, nat_tests)

-- a table after an insertion is the function after a put
pub at-insert : {X : Type 0} (d : X) (table : maps.FinMap nat_cmp X) (p : ℕ) (x : X) → at d (maps.insert table p x) ≡ put (at d table) p x
at-insert {X} d table p x = fun_ext (λ q. rw (maps.get-insert nat_cmp_total table p x q, same_key q p) (go q (p == q)))
  where
    go : (q : ℕ) (b : Bool) → unwrap_or (cond b (Some x) (maps.get table q)) d ≡ cond b x (unwrap_or (maps.get table q) d)
    go q true = refl
    go q false = refl

pub at-remove : {X : Type 0} (d : X) (table : maps.FinMap nat_cmp X) (p : ℕ) → at d (maps.remove table p) ≡ put (at d table) p d
at-remove {X} d table p = fun_ext (λ q. rw (maps.get-remove nat_cmp_total table p q, same_key q p) (go q (p == q)))
  where
    go : (q : ℕ) (b : Bool) → unwrap_or (cond b None (maps.get table q)) d ≡ cond b d (unwrap_or (maps.get table q) d)
    go q true = refl
    go q false = refl

pub at-placed : {B : Type 0} (tasks : maps.FinMap nat_cmp (Task B)) (p : ℕ) (task : Task B) → at Gone (placed tasks p task) ≡ put (at Gone tasks) p task
at-placed tasks p (Alive b stage) = at-insert Gone tasks p (Alive b stage)
at-placed tasks p (Dying w) = at-insert Gone tasks p (Dying w)
at-placed tasks p Gone = at-remove Gone tasks p

one_item : (o : Option Noted) → option_to_list (option_map (λ (n : Noted). n.item) o) ≡ items_of (option_to_list o)
one_item None = refl
one_item (Some n) = refl

module _ {S B : Type 0} (m : Machine S B) (script : Script) (follow : Bool) where
  same_out : (v : Running S B) (k : Kernel S B) → Is v k → (p : ℕ) → turn_out m script follow v p ≡ turn_of m script follow k p
  same_out v k e p =
      let task : at Gone v.tasks p ≡ k.tasks p = ap (λ (f : ℕ → Task B). f p) e.tasks in
      rw (e.log, e.shared, task, e.child) refl

  ran_is : (v : Running S B) (k : Kernel S B) → Is v k → (p : ℕ) (x : Out S B) → Is (ran v p x) (after_turn k p x)
  ran_is v k e p x = record {
    shared = refl;
    tasks = at-placed v.tasks p x.task ∙ ap (λ f. put f p x.task) e.tasks;
    child = e.child;
    log = ap (λ l. l ++ option_to_list (item_of x)) e.log ∙ ap (λ l. items_of k.log ++ l) (one_item x.item) ∙ sym (map-append (λ (n : Noted). n.item) k.log (option_to_list x.item));
  }

  bore_is : (v : Running S B) (k : Kernel S B) → Is v k → (x : PtraceEvent B) → Is (bore v x) (with_child k x)
  bore_is v k e Plain = e
  bore_is v k e Execed = e
  bore_is v k e (Forked b) = record {
    shared = e.shared;
    tasks = at-insert Gone v.tasks v.child (Alive b Born) ∙ ap₂ (λ f c. put f c (Alive b Born)) e.tasks e.child;
    child = ap suc e.child;
    log = e.log;
  }

  pub turn_is : (v : Running S B) (k : Kernel S B) → Is v k → (p : ℕ) → Is (running_turn m script follow v p) (kernel_turn m script follow k p)
  turn_is v k e p = rw (same_out v k e p) (bore_is (ran v p (turn_of m script follow k p)) (after_turn k p (turn_of m script follow k p)) (ran_is v k e p (turn_of m script follow k p)) (turn_of m script follow k p).event)

  pub run_is : (v : Running S B) (k : Kernel S B) → Is v k → (ps : List ℕ) → Is (running m script follow v ps) (kernel_run m script follow k ps)
  run_is v k e [] = e
  run_is v k e (p ∷ ps) = run_is (running_turn m script follow v p) (kernel_turn m script follow k p) (turn_is v k e p) ps

-- The beginning

pub one_first : (q : ℕ) → (1 == q) ≡ (q == 1)
one_first q = grind (arith, nat_tests)

pub tasks_first : {B : Type 0} (b : B) → at Gone (maps.insert maps.empty 1 (Alive b Born)) ≡ (λ q. born (q == 1) b)
tasks_first b = at-insert Gone maps.empty 1 (Alive b Born) ∙ fun_ext (λ q. rw (one_first q, maps.get-empty nat_cmp q) (go (q == 1)))
  where
    go : (c : Bool) → cond c (Alive b Born) Gone ≡ born c b
    go true = refl
    go false = refl

pub kernels_begin_alike : {S B : Type 0} → KernelsBeginAlike S B
kernels_begin_alike s b = record { shared = refl; tasks = tasks_first b; child = refl; log = refl }
