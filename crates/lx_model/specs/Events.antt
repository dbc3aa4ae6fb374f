-- What a call did beside its result, by who was born.
use Rattle.std.specs.Prelude.{ℕ}
use Rattle.lx_model.specs.declared.event.PtraceEvent.{PtraceEvent}
use Rattle.lx_model.specs.declared.event.PtraceEvent.TheVariants.{Plain, Execed, Forked}

abbrev pub event_map : {A B : Type 0} → (A → B) → PtraceEvent A → PtraceEvent B
event_map f Plain = Plain
event_map f Execed = Execed
event_map f (Forked newborn) = Forked (f newborn)

-- as a tracer is told of it
abbrev pub by_pid : {B : Type 0} → ℕ → PtraceEvent B → PtraceEvent ℕ
by_pid child e = event_map (λ b. child) e
