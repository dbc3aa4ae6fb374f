-- What is noted of a journal with one more entry.
use Rattle.std.proofs.Common.{◌≡◌, Bool, true, false, List, [], ◌∷◌, ◌++◌, Option, Some, None, refl, sym, ap, ◌∙◌}
use Rattle.std.specs.Prelude.{cond}
use Rattle.lx_abi.specs.declared.ptrace.Reply.{Reply}
use Rattle.lx_abi.specs.declared.ptrace.Request.{Request}
use Rattle.lx_abi.specs.declared.schedule.Event.{Event}
use Rattle.pt_kernel.specs.Noted.{noting}
use Rattle.pt_journal.specs.Journals.{events_of}
use Rattle.pt_journal.specs.declared.entry.Entry.{Entry}
use Rattle.pt_journal.specs.declared.entry.Entry.TheVariants.{Ask, Did}
use Rattle.host_shared.specs.Noting.{noted_of}

events_same : (xs : List Entry) (q : Request) → events_of (xs ++ Ask q ∷ []) ≡ events_of xs
events_same [] q = refl
events_same (Ask p ∷ xs) q = events_same xs q
events_same (Did f s ∷ xs) q = ap (λ es. f ∷ es) (events_same xs q)

events_and : (xs : List Entry) (e : Event) (r : Option Reply) → events_of (xs ++ Did e r ∷ []) ≡ events_of xs ++ e ∷ []
events_and [] e r = refl
events_and (Ask q ∷ xs) e r = events_and xs e r
events_and (Did f s ∷ xs) e r = ap (λ es. f ∷ es) (events_and xs e r)

pub noted_asked : (notes : Bool) (xs ys : List Entry) (q : Request) (events : Option (List Event))
    → events ≡ noted_of notes xs → ys ≡ xs ++ Ask q ∷ [] → events ≡ noted_of notes ys
noted_asked notes xs ys q events are is =
    are ∙ sym (ap (λ zs. noted_of notes zs) is ∙ ap (λ es. cond notes (Some es) None) (events_same xs q))

noted_and : (notes : Bool) (xs : List Entry) (e : Event) (r : Option Reply)
    → noting (noted_of notes xs) (e ∷ []) ≡ noted_of notes (xs ++ Did e r ∷ [])
noted_and true xs e r = ap (λ es. Some es) (sym (events_and xs e r))
noted_and false xs e r = refl

pub noted_more : (notes : Bool) (xs ys : List Entry) (e : Event) (r : Option Reply)
    (events events' : Option (List Event)) → events ≡ noted_of notes xs → events' ≡ noting events (e ∷ [])
    → ys ≡ xs ++ Did e r ∷ [] → events' ≡ noted_of notes ys
noted_more notes xs ys e r events events' are more is =
    more ∙ ap (λ es. noting es (e ∷ [])) are ∙ noted_and notes xs e r ∙ sym (ap (λ zs. noted_of notes zs) is)
