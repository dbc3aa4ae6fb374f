-- What a tracer is to its callers, and what each reply makes of it. Its meaning is pt_model's tracer.
use Rattle.std.specs.Prelude.{◌≡◌, ℕ, Bool, true, false, List, [], ◌∷◌, ◌++◌, Option, Some, None, Result, Ok, Err}
use Rattle.lx_abi.specs.Calls.{has_effects}
use Rattle.lx_abi.specs.Effects.{waits}
use Rattle.lx_abi.specs.declared.ptrace.Reply.{Reply}
use Rattle.lx_abi.specs.declared.ptrace.Request.{Request}
use Rattle.lx_model.specs.Kernel.{Script}
use Rattle.pt_model.specs.Parts.{Options}
use Rattle.pt_model.specs.Tracer.{Focus, Booting, Waiting, Serving, Asking_outcome, Over, Turns_over, Faulted}
use Rattle.pt_model.specs.Tracer.{Tracer, Moved, request, next, new_tracer}
use Rattle.pt_model.specs.Replies.{admits}
use Rattle.tr_line.specs.Printing.{open_call}
use Rattle.tr_core.specs.Pens.{Pen, wrote, pen_after}
use Rattle.tr_core.specs.declared.tracing.Act.{Act}
use Rattle.tr_core.specs.declared.tracing.Act.TheVariants.{Ask, Finished}
use Rattle.tr_core.specs.declared.tracing.TraceFault.{TraceFault}
use Rattle.tr_core.specs.declared.tracing.TraceFault.TheVariants.{Inadmissible, Memory}

pub record State : Type 0 where
  pub options : Options
  pub script : Script
  pub tracer : Tracer
  pub pen : Pen
  -- met want of memory
  pub failed : Bool

abbrev pub new_state : Options → Script → Pen → State
new_state o script pen = record { options = o; script = script; tracer = new_tracer; pen = pen; failed = false }

unfoldable pub moved : State → Reply → Moved
moved s r = next s.options s.script s.tracer r

-- the bytes that a reply brings to the trace
unfoldable pub said : State → Reply → List ℕ
said s r = wrote s.pen (moved s r).printed

-- the state after a reply
unfoldable pub heard : State → Reply → State
heard s r =
    record {
      options = s.options;
      script = s.script;
      tracer = (moved s r).tracer;
      pen = pen_after s.pen (moved s r).printed;
      failed = s.failed;
    }

-- what is asked next
unfoldable pub request_of : State → Option Request
request_of s = request s.options s.tracer.focus

abbrev pub is_faulted_at : Focus → Bool
is_faulted_at Booting = false
is_faulted_at Waiting = false
is_faulted_at (Serving p place) = false
is_faulted_at Asking_outcome = false
is_faulted_at (Over x) = false
is_faulted_at Turns_over = false
is_faulted_at Faulted = true

-- a reply wasn't admitted
unfoldable pub is_faulted : State → Bool
is_faulted s = is_faulted_at s.tracer.focus

-- how many replies it took
unfoldable pub taken_of : State → ℕ
taken_of s = s.tracer.taken

-- The trace may rest: no line is open, or that of a call that may wait. Else more of the line comes at once.
abbrev pub rests_at : Option ℕ → Bool
rests_at None = true
rests_at (Some number) = has_effects number waits

unfoldable pub may_rest : State → Bool
may_rest s = rests_at (open_call s.pen)

abbrev pub act_of : Option Request → Bool → List ℕ → Act
act_of (Some q) rests text = Ask text q rests
act_of None rests text = Finished text

-- the reply is one that a host may give
unfoldable pub admitted : State → Reply → Bool
admitted s r = admits s.options s.tracer r

-- what a call of next answers and leaves
unfoldable pub Hears : State → Reply → Result Act TraceFault → State → Type 0
Hears s r (Ok act) t = (s.failed ≡ false) × (t ≡ heard s r) × (admitted s r ≡ true) × (is_faulted t ≡ false)
    × (act ≡ act_of (request_of t) (may_rest t) (said s r))
Hears s r (Err Inadmissible) t = (s.failed ≡ false) × (t ≡ heard s r) × (admitted s r ≡ false)
Hears s r (Err Memory) t = (s.failed ≡ false → admitted s r ≡ true) × (taken_of t ≡ taken_of s) × (t.failed ≡ true)

-- many replies in a row

abbrev pub told : State → List Reply → State
told s [] = s
told s (r ∷ rs) = told (heard s r) rs

abbrev pub text : State → List Reply → List ℕ
text s [] = []
text s (r ∷ rs) = said s r ++ text (heard s r) rs
