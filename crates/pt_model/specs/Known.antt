-- What a tracer knows of one tracee (ptrace(2), strace(1)).
use Rattle.std.specs.Prelude.{ℕ, ◌+◌, Bool, false, cond, not, [], ◌∷◌, Option, None}
use Rattle.lx_abi.specs.declared.log.Call.{Call}
use Rattle.lx_model.specs.Machine.{Regs, call_of, a7_of, no_call}
use Rattle.lx_model.specs.Kernel.{put}
use Rattle.pt_model.specs.Admissible.{Standing, Unmet, Between, Unread, Read}

pub record Known : Type 0 where
  -- between an entry stop and its exit stop
  pub inside : Bool
  -- the last call that was entered, and the result that is to replace its own
  pub called : Call
  pub saved : Option ℕ
  -- how often it entered each call, by number
  pub counts : ℕ → ℕ
  -- what it may be told of next
  pub standing : Standing

-- a call is counted, and becomes the open one
abbrev pub opened : Known → Regs → Option ℕ → Known
opened k r saved = record {
  inside = k.inside;
  called = call_of r;
  saved = saved;
  counts = put k.counts (a7_of r) (k.counts (a7_of r) + 1);
  standing = Read;
}

-- the call has returned
abbrev pub closed : Known → Known
closed k = record { inside = k.inside; called = k.called; saved = None; counts = k.counts; standing = k.standing }

abbrev pub stands_at : Known → Standing → Known
stands_at k standing = record {
  inside = k.inside;
  called = k.called;
  saved = k.saved;
  counts = k.counts;
  standing = standing;
}

-- at a syscall stop a call begins, or ends
abbrev pub turned_over : Known → Known
turned_over k = record {
  inside = not k.inside;
  called = k.called;
  saved = k.saved;
  counts = k.counts;
  standing = cond k.inside Between Unread;
}

abbrev pub new_known : Known
new_known = record {
  inside = false;
  called = record { number = no_call; arguments = 0 ∷ 0 ∷ 0 ∷ 0 ∷ 0 ∷ 0 ∷ [] };
  saved = None;
  counts = λ n. 0;
  standing = Unmet;
}
