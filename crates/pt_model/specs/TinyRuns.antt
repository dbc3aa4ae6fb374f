-- Traced runs of the small machine, worked by hand.
use Rattle.std.specs.Prelude.{◌≡◌, ℕ, zero, suc, ◌==◌, ◌&&◌, Bool, true, false, cond, not, List, [], ◌∷◌, ◌++◌, Option, Some, None, map, pos}
use Rattle.lx_abi.specs.declared.schedule.Event.{Event}
use Rattle.lx_abi.specs.declared.schedule.Event.TheVariants.{Turn, Serve}
use Rattle.lx_abi.specs.Scripts.{no_choice}
use Rattle.lx_abi.specs.Sys.{sys_getpid, sys_write}
use Rattle.lx_model.specs.Kernel.{Script}
use Rattle.pt_model.specs.Parts.{Half, Options, Part, Part_enter, Part_done, Part_signal, Part_stopped, Part_exit}
use Rattle.pt_model.specs.World.{World, End, Whole, Events_used_up, end_of}
use Rattle.lx_model.specs.Machine.{IsMachine}
use Rattle.pt_model.specs.Headline.{IsTold, IsTexts, traced_run, plain_run}
use Rattle.pt_model.specs.Tiny.{Shares, UserState, tiny, tiny_outcome, user, nothing_yet, usr1}

-- a text reads one byte string, and is it
abbrev pub reads_once : Half → List (List ℕ) → Option (ℕ × ℕ)
reads_once half [] = Some (3, 1)
reads_once half (x ∷ xs) = None

abbrev pub first_read : Half → List (List ℕ) → List ℕ
first_read half [] = []
first_read half (x ∷ xs) = x

-- all calls but getpid are shown
abbrev pub options : Bool → Options
options follow = record {
  follow = follow;
  shows = λ n. not (n == sys_getpid);
  texts = record { wants = reads_once; text = first_read };
}

-- the second write fails with 5, and a getpid is replaced by 9 and joined by SIGUSR1
abbrev pub script : Script
script call n =
    cond ((call == sys_write) && (n == 2)) (record { result = Some (pos 5); signal = None })
    (cond (call == sys_getpid) (record { result = Some (pos 9); signal = Some usr1 }) no_choice)

-- what is asked of machines and texts can be met
pub record PremisesOfTiny : Type 0 where
  pub machine : IsMachine tiny
  pub told : IsTold tiny
  pub texts : (follow : Bool) → IsTexts (options follow).texts

abbrev pub times : ℕ → List Event → List Event
times zero es = []
times (suc n) es = es ++ times n es

abbrev pub rounds : ℕ → List Event
rounds n = times n (Serve ∷ Turn 1 ∷ Serve ∷ Serve ∷ Turn 2 ∷ Serve ∷ [])

abbrev pub traced : Bool → List ℕ → ℕ → World Shares UserState
traced follow program n = traced_run tiny tiny_outcome (options follow) script nothing_yet (user program) (rounds n)

abbrev pub to_number : Bool → ℕ
to_number true = 1
to_number false = 0

-- its kind and pid; a call's number, a result, a signal or a word; whether a call was replaced, or a fault's address
abbrev pub brief : Part → ℕ × ℕ × ℕ × ℕ
brief (Part_enter p c text) = (0, p, c.number, 0)
brief (Part_done p c x replaced text) = (1, p, x, to_number replaced)
brief (Part_signal p i) = (2, p, i.signal, i.address)
brief (Part_exit p w) = (3, p, w, 0)
brief (Part_stopped p s) = (4, p, s.number, 0)

abbrev pub told : World Shares UserState → List (ℕ × ℕ × ℕ × ℕ)
told w = map brief w.printed

abbrev pub ends : World Shares UserState → End
ends w = end_of w.tracer.focus

-- writes of 7 and of 8, and an exit with 3
abbrev pub writes : List ℕ
writes = 64 ∷ 7 ∷ 64 ∷ 8 ∷ 94 ∷ 3 ∷ []

abbrev pub clones : List ℕ
clones = 220 ∷ 17 ∷ 94 ∷ 3 ∷ []

abbrev pub kills_child : List ℕ
kills_child = 220 ∷ 17 ∷ 129 ∷ 209 ∷ 94 ∷ 3 ∷ []

pub record RunsOfTiny : Type 0 where
  -- the second write is replaced, and not done
  pub replaced_write : told (traced false writes 40)
      ≡ (0, 1, 64, 0) ∷ (1, 1, 1, 0) ∷ (0, 1, 64, 0) ∷ (1, 1, 5, 1) ∷ (0, 1, 94, 0) ∷ (3, 1, 768, 0) ∷ []
  pub replaced_outcome : ends (traced false writes 40)
      ≡ Whole (record { console = 7 ∷ []; files = []; ended = record { pid = 1; word = 768 } ∷ [] })
  pub plain_outcome :
      tiny_outcome (plain_run tiny tiny_outcome (options false) script nothing_yet (user writes) (rounds 40)).shared
      ≡ record { console = 7 ∷ []; files = []; ended = record { pid = 1; word = 768 } ∷ [] }
  -- the events are used up before the end
  pub used_up : ends (traced false writes 7) ≡ Events_used_up
  -- a call that is not shown is replaced too, and its joined signal ends the process
  pub joined_signal : told (traced false (172 ∷ 0 ∷ 94 ∷ 3 ∷ []) 40) ≡ (2, 1, 10, 0) ∷ (3, 1, 10, 0) ∷ []
  pub fault : told (traced false (64 ∷ 7 ∷ 999 ∷ 16 ∷ []) 40)
      ≡ (0, 1, 64, 0) ∷ (1, 1, 1, 0) ∷ (2, 1, 11, 16) ∷ (3, 1, 11, 0) ∷ []
  -- an ignored signal, sent to itself
  pub ignored : told (traced false (129 ∷ 117 ∷ 94 ∷ 3 ∷ []) 40)
      ≡ (0, 1, 129, 0) ∷ (1, 1, 0, 0) ∷ (2, 1, 17, 0) ∷ (0, 1, 94, 0) ∷ (3, 1, 768, 0) ∷ []
  pub new_program : told (traced false (221 ∷ 0 ∷ 94 ∷ 3 ∷ []) 40)
      ≡ (0, 1, 221, 0) ∷ (1, 1, 0, 0) ∷ (0, 1, 94, 0) ∷ (3, 1, 768, 0) ∷ []
  -- without follow the child writes unseen, and may live on
  pub unseen_child : told (traced false clones 40) ≡ (0, 1, 220, 0) ∷ (1, 1, 2, 0) ∷ (0, 1, 94, 0) ∷ (3, 1, 768, 0) ∷ []
  pub unseen_write : ends (traced false clones 40)
      ≡ Whole (record { console = 5 ∷ []; files = []; ended = record { pid = 1; word = 768 } ∷ [] })
  -- with follow it is seen
  pub seen_child : told (traced true clones 60)
      ≡ (0, 1, 220, 0) ∷ (1, 1, 2, 0) ∷ (0, 2, 64, 0) ∷ (0, 1, 94, 0) ∷ (1, 2, 1, 0)
      ∷ (3, 1, 768, 0) ∷ (0, 2, 94, 0) ∷ (3, 2, 0, 0) ∷ []
  pub seen_outcome : ends (traced true clones 60)
      ≡ Whole (record {
        console = 5 ∷ [];
        files = [];
        ended = record { pid = 1; word = 768 } ∷ record { pid = 2; word = 0 } ∷ [];
      })
  pub killed_child : told (traced true kills_child 60)
      ≡ (0, 1, 220, 0) ∷ (1, 1, 2, 0) ∷ (0, 2, 64, 0) ∷ (0, 1, 129, 0) ∷ (1, 2, 1, 0)
      ∷ (3, 2, 9, 0) ∷ (1, 1, 0, 0) ∷ (2, 1, 17, 0) ∷ (0, 1, 94, 0) ∷ (3, 1, 768, 0) ∷ []
