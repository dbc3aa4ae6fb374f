-- Facts of a tracer's states.
use Rattle.std.proofs.Common.{◌≡◌, suc, ◌≤◌, Bool, true, false, cond, List, [], ◌∷◌, ◌++◌, refl, sym, ap, ◌∙◌, arith, append_assoc}
use Rattle.std.proofs.lemmas.List.{append-nil}
use Rattle.lx_abi.specs.declared.ptrace.Reply.{Reply}
use Rattle.lx_model.specs.Kernel.{Script}
use Rattle.pt_model.specs.Parts.{Options}
use Rattle.pt_model.specs.Tracer.{Tracer, Moved, next, next_at, takes, faults}
use Rattle.pt_model.specs.Replies.{admits}
use Rattle.tr_core.specs.Pens.{wrote}
use Rattle.tr_core.specs.States.{State, moved, said, heard, is_faulted, is_faulted_at, admitted, taken_of, told, text}

-- a reply that isn't admitted is a fault, and brings nothing to the trace
record Refuses (m : Moved) : Type 0 where
  pub printed : m.printed ≡ []
  pub faulted : is_faulted_at m.tracer.focus ≡ true

refuses : (o : Options) (script : Script) (t : Tracer) (r : Reply) → admits o t r ≡ false → Refuses (next o script t r)
refuses o script t r e = go (admits o t r) e
  where
    go : (b : Bool) → b ≡ false → Refuses (cond b (takes t t.focus r (next_at o script t.known t.focus r)) (faults t))
    go true k = absurd (cc k)
    go false k = record { printed = refl; faulted = refl }

pub said-refused : (s : State) (r : Reply) → admitted s r ≡ false → said s r ≡ []
unfolding said moved admitted wrote
said-refused s r e = ap (λ ps. wrote s.pen ps) (refuses s.options s.script s.tracer r e).printed

pub faulted-refused : (s : State) (r : Reply) → admitted s r ≡ false → is_faulted (heard s r) ≡ true
unfolding heard moved admitted is_faulted
faulted-refused s r e = (refuses s.options s.script s.tracer r e).faulted

-- at most one more reply is counted
one_more : (o : Options) (script : Script) (t : Tracer) (r : Reply) → (next o script t r).tracer.taken ≤ suc t.taken
one_more o script t r = go (admits o t r)
  where
    go : (b : Bool) → (cond b (takes t t.focus r (next_at o script t.known t.focus r)) (faults t)).tracer.taken ≤ suc t.taken
    go true = omega arith
    go false = omega arith

pub taken-heard : (s : State) (r : Reply) → taken_of (heard s r) ≤ suc (taken_of s)
unfolding heard moved taken_of
taken-heard s r = one_more s.options s.script s.tracer r

-- one more reply

pub told-snoc : (s : State) (rs : List Reply) (r : Reply) → told s (rs ++ r ∷ []) ≡ heard (told s rs) r
told-snoc s [] r = refl
told-snoc s (q ∷ rs) r = told-snoc (heard s q) rs r

pub text-snoc : (s : State) (rs : List Reply) (r : Reply) → text s (rs ++ r ∷ []) ≡ text s rs ++ said (told s rs) r
text-snoc s [] r = append-nil (said s r)
text-snoc s (q ∷ rs) r = ap (λ t. said s q ++ t) (text-snoc (heard s q) rs r) ∙ sym (append_assoc (said s q) (text (heard s q) rs) (said (told (heard s q) rs) r))
