-- A crossing, by what its text wants.
use Rattle.std.proofs.Common.{◌≡◌, ℕ, true, false, List, [], ◌∷◌, ◌++◌, Some, None, refl, ap}
use Rattle.lx_model.specs.Kernel.{Script}
use Rattle.pt_model.specs.Parts.{Options}
use Rattle.pt_model.specs.Tracer.{Known, look_entry, look_exit, moves, nothing}
use Rattle.tr_core.specs.Crossings.{half_at, peek_at, peeked_at, reads_at, told_at}
use Rattle.tr_core.specs.declared.crossing.Crossing.{Crossing}
use Rattle.tr_core.specs.declared.crossing.Crossing.TheVariants.{Entering, Exiting}

pub nothing_wanted : (o : Options) (script : Script) (p : ℕ) (c : Crossing) (got : List (List ℕ)) (k : Known)
    → o.texts.wants (half_at k.called c) got ≡ None → reads_at o script p c got k true ≡ told_at o script p c got k
nothing_wanted o script p (Entering r) got k e = ap (look_entry o script p r got k) e
nothing_wanted o script p (Exiting x replaced) got k e = ap (look_exit o p x replaced got k) e

pub more_wanted : (o : Options) (script : Script) (p : ℕ) (c : Crossing) (got : List (List ℕ)) (k : Known) (w : ℕ × ℕ)
    → o.texts.wants (half_at k.called c) got ≡ Some w → reads_at o script p c got k true ≡ moves k (peek_at c got w)
more_wanted o script p (Entering r) got k w e = ap (look_entry o script p r got k) e
more_wanted o script p (Exiting x replaced) got k w e = ap (look_exit o p x replaced got k) e

pub not_shown : (o : Options) (script : Script) (p : ℕ) (c : Crossing) (k : Known) → reads_at o script p c [] k false ≡ told_at o script p c [] k
not_shown o script p (Entering r) k = refl
not_shown o script p (Exiting x replaced) k = refl

pub bytes_came : (o : Options) (script : Script) (p : ℕ) (c : Crossing) (got : List (List ℕ)) (k : Known) (bytes : List ℕ)
    → peeked_at o script p c got k (Some bytes) ≡ reads_at o script p c (got ++ bytes ∷ []) k true
bytes_came o script p (Entering r) got k bytes = refl
bytes_came o script p (Exiting x replaced) got k bytes = refl

pub none_came : (o : Options) (script : Script) (p : ℕ) (c : Crossing) (got : List (List ℕ)) (k : Known)
    → peeked_at o script p c got k None ≡ nothing k
none_came o script p (Entering r) got k = refl
none_came o script p (Exiting x replaced) got k = refl
