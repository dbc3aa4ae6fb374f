-- What a host keeps from event to event.
use Rattle.std.proofs.Common.{◌≡◌, ℕ, Bool, true, false, cond, List, [], ◌∷◌, Option, Some, None, sym, subst, ◌∙◌}
use Rattle.std.specs.Ordering.{nat_cmp, eq_by_cmp}
use Rattle.std.proofs.lemmas.Cmp.{nat_cmp_total}
use Rattle.std.specs.FinMap as maps
use Rattle.lx_abi.specs.declared.outcome.Outcome.{Outcome}
use Rattle.lx_abi.specs.declared.ptrace.Ask.{Ask}
use Rattle.lx_abi.specs.declared.ptrace.Request.{Request}
use Rattle.lx_abi.specs.declared.ptrace.Request.TheVariants.{Boot as Boot_with, Wait, To, Outcome as Ask_outcome}
use Rattle.lx_abi.specs.declared.schedule.Event.{Event}
use Rattle.lx_abi.specs.declared.schedule.Event.TheVariants.{Turn, Serve}
use Rattle.lx_abi.specs.declared.status.Stop.{Stop}
use Rattle.lx_abi.specs.declared.status.Stop.TheVariants.{Syscall as Syscall_stop, Signal as Signal_stop, Group as Group_stop, Event as Event_stop, Ended}
use Rattle.lx_model.specs.declared.stage.Task.{Task}
use Rattle.lx_model.specs.declared.stage.Task.TheVariants.{Alive, Dying, Gone}
use Rattle.lx_model.specs.declared.stage.Stage.TheVariants.{Born}
use Rattle.lx_model.specs.declared.event.PtraceEvent.{PtraceEvent}
use Rattle.lx_model.specs.declared.event.PtraceEvent.TheVariants.{Plain, Execed, Forked}
use Rattle.lx_model.specs.Finite.{at, placed, Running, ran, bore, turn_out, running_turn, first_running}
use Rattle.lx_proc.specs.declared.state.Shared.{Shared}
use Rattle.lx_proc.specs.declared.state.UserState.{UserState}
use Rattle.lx_turn.specs.Linux.{linux}
use Rattle.pt_model.specs.declared.ptrace.Report.{Report}
use Rattle.lx_abi.specs.declared.ptrace.TraceOptions.{TraceOptions}
use Rattle.pt_model.specs.Ptrace.{Proc, is_effective}
use Rattle.pt_model.specs.Requests.{stopped, unseized}
use Rattle.pt_model.specs.Hosting.{proc_in, traced_at, no_script, hosting_to, took_report, hosting_wait, hosting_serve, hosting_pending, hosting_event}
use Rattle.pt_model.proofs.Hosts.{hosts_run_the_kernel}
use Rattle.pt_kernel.specs.Hosts.{Linux_host, IsSwept}

abbrev Tasks : Type 0
Tasks = maps.FinMap nat_cmp (Task UserState)

abbrev Swept : Tasks → Type 0
Swept tasks = (p : ℕ) → maps.get tasks p ≡ Some Gone → ⊥

inserted : (tasks : Tasks) (p q : ℕ) (task : Task UserState) → (Some task ≡ Some Gone → ⊥) → Swept tasks → maps.get (maps.insert tasks p task) q ≡ Some Gone → ⊥
inserted tasks p q task there h e = go (eq_by_cmp nat_cmp q p) (sym (maps.get-insert nat_cmp_total tasks p task q) ∙ e)
  where
    go : (b : Bool) → cond b (Some task) (maps.get tasks q) ≡ Some Gone → ⊥
    go true = there
    go false = h q

removed : (tasks : Tasks) (p q : ℕ) → Swept tasks → maps.get (maps.remove tasks p) q ≡ Some Gone → ⊥
removed tasks p q h e = go (eq_by_cmp nat_cmp q p) (sym (maps.get-remove nat_cmp_total tasks p q) ∙ e)
  where
    go : (b : Bool) → cond b None (maps.get tasks q) ≡ Some Gone → ⊥
    go true = λ f. cc f
    go false = h q

swept_placed : (tasks : Tasks) (p : ℕ) (task : Task UserState) → Swept tasks → Swept (placed tasks p task)
swept_placed tasks p (Alive b stage) h q e = inserted tasks p q (Alive b stage) (λ f. cc f) h e
swept_placed tasks p (Dying w) h q e = inserted tasks p q (Dying w) (λ f. cc f) h e
swept_placed tasks p Gone h q e = removed tasks p q h e

swept_bore : (r : Running Shared UserState) (e : PtraceEvent UserState) → IsSwept r → IsSwept (bore r e)
swept_bore r Plain h = h
swept_bore r Execed h = h
swept_bore r (Forked b) h = λ q e. inserted r.tasks r.child q (Alive b Born) (λ f. cc f) h e

swept_turn : (follow : Bool) (r : Running Shared UserState) (p : ℕ) → IsSwept r → IsSwept (running_turn linux no_script follow r p)
swept_turn follow r p h = swept_bore (ran r p (turn_out linux no_script follow r p)) (turn_out linux no_script follow r p).event (swept_placed r.tasks p (turn_out linux no_script follow r p).task h)

swept_either : (b : Bool) (r s : Running Shared UserState) → IsSwept r → IsSwept s → IsSwept (cond b r s)
swept_either true r s h g = h
swept_either false r s h g = g

swept_to : (v : Linux_host) (p message : ℕ) (t : Proc UserState) (held : Bool) (w : Option TraceOptions) (task : Task UserState) (q : Ask) → IsSwept v.running → IsSwept (hosting_to linux v p message t held w task q).hosting.running
swept_to v p message t true (Some w) (Alive b stage) q h = swept_placed v.running.tasks p (stopped linux t b stage message q).proc.task h
swept_to v p message t true (Some w) (Dying word) q h = h
swept_to v p message t true (Some w) Gone q h = h
swept_to v p message t true None task q h = swept_placed v.running.tasks p (unseized t q).proc.task h
swept_to v p message t false w task q h = h

swept_took : (v : Linux_host) (rest : List Report) (p : ℕ) (s : Stop) → IsSwept v.running → IsSwept (took_report v rest p s).running
swept_took v rest p (Syscall_stop good) h = h
swept_took v rest p (Signal_stop signal) h = h
swept_took v rest p (Group_stop signal) h = h
swept_took v rest p (Event_stop event) h = h
swept_took v rest p (Ended word) h = h

swept_wait : (v : Linux_host) (queue : List Report) (pids : List ℕ) → IsSwept v.running → IsSwept (hosting_wait v queue pids).hosting.running
swept_wait v [] [] h = h
swept_wait v [] (q ∷ qs) h = h
swept_wait v (r ∷ rest) qs h = swept_took v rest r.pid r.stop h

swept_serve : (outcome : Shared → Outcome) (v : Linux_host) (q : Request) → IsSwept v.running → IsSwept (hosting_serve linux outcome v q).hosting.running
swept_serve outcome v (Boot_with boot limit words) h = h
swept_serve outcome v Wait h = swept_wait v v.queue v.tracees h
swept_serve outcome v (To p q) h = swept_to v p (traced_at v p).message (proc_in v p) (traced_at v p).held (traced_at v p).options (at Gone v.running.tasks p) q h
swept_serve outcome v Ask_outcome h = h

swept_pending : (outcome : Shared → Outcome) (v : Linux_host) (x : Option Request) → IsSwept v.running → IsSwept (hosting_pending linux outcome v x).hosting.running
swept_pending outcome v None h = h
swept_pending outcome v (Some q) h = swept_serve outcome v q h

pub swept_event : (outcome : Shared → Outcome) (follow : Bool) (v : Linux_host) (e : Event) → IsSwept v.running → IsSwept (hosting_event linux outcome follow v e).hosting.running
swept_event outcome follow v (Turn p) h = subst IsSwept (sym (hosts_run_the_kernel linux follow v p)) (swept_either (is_effective linux v.running.shared p (proc_in v p)) (running_turn linux no_script follow v.running p) v.running (swept_turn follow v.running p h) h)
swept_event outcome follow v Serve h = swept_pending outcome v v.pending h

pub swept_first : (s : Shared) (b : UserState) → IsSwept (first_running s b)
swept_first s b q e = inserted maps.empty 1 q (Alive b Born) (λ f. cc f) (λ p f. cc (sym (maps.get-empty nat_cmp p) ∙ f)) e
