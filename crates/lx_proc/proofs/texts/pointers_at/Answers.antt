use Rattle.std.proofs.Common.{◌≡◌, ◌+◌, ◌-◌, ◌++◌, ◌∷◌, [], List, ℕ, is_some, ap, sym, subst, ◌∙◌, arith}
use Rattle.lx_proc.specs.Texts.{next_address, pointer_at, texts_at}
use Rattle.lx_proc.proofs.Pointers.{so_far, unreadable_pointer, null_pointer, one_more_pointer, too_many_pointers}
use Rattle.lx_proc.proofs.texts.pointers_at.Goals as goal

pub returns-in_default-clause-none : goal.returns-in_default-clause-none
returns-in_default-clause-none c =
    unreadable_pointer c.args.memory.now c.args.limit c.loop.counter c.loop.at c.loop.pointers.items _ c.in_default.field-0 (omega arith) (rw c.loop.invariant.kept at c.in_default.ensures.fault) c.loop.invariant.so_far

pub returns-then-pointer-eq0-clause-some : goal.returns-then-pointer-eq0-clause-some
returns-then-pointer-eq0-clause-some c =
    null_pointer c.args.memory.now c.args.limit c.loop.counter c.loop.at c.loop.pointers.items _ (omega arith) (rw c.loop.invariant.kept at c.in-Ok.ensures.ok)
    (rw (c.from_le_bytes-pointer.ensures, c.in-Ok.ensures.value, c.loop.invariant.kept) at c.if-pointer-eq0.true) c.loop.invariant.so_far

pub loop-preserved : goal.loop-preserved
loop-preserved c =
    let m = c.args.memory.now in
    let at_pointer : c.from_le_bytes-pointer.result ≡ pointer_at m c.loop.at = rw (c.from_le_bytes-pointer.ensures, c.in-Ok.ensures.value, c.loop.invariant.kept) in
    let more = one_more_pointer m c.args.limit c.loop.counter c.loop.at c.loop.pointers.items _ (omega arith) (rw c.loop.invariant.kept at c.in-Ok.ensures.ok)
    (rw at_pointer at c.if-pointer-eq0.false) c.loop.invariant.so_far in
    record {
      kept = c.in-Ok.ensures.unchanged ∙ c.loop.invariant.kept;
      so_far = subst (λ (ps : List ℕ). so_far m ps (c.args.limit - (c.loop.counter + 1)) (next_address c.loop.at 8) ≡ is_some (texts_at m c.args.limit c.args.address))
          (sym (c.in_ok-push.ensures.items ∙ ap (λ (p : ℕ). c.loop.pointers.items ++ p ∷ []) at_pointer)) more;
    }

pub returns-clause-none : goal.returns-clause-none
returns-clause-none c = too_many_pointers c.args.memory.now c.args.limit c.loop.counter c.loop.at c.loop.pointers.items _ (omega arith) c.loop.invariant.so_far
