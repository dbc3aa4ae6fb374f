-- What a run that isn't made lacks.
use Rattle.std.proofs.Common.{◌≡◌, ℕ, List, Option, Some, None, IsSome, inl, inr, refl, subst}
use Rattle.lx_abi.specs.declared.boot.Boot.{Boot}
use Rattle.lx_abi.specs.declared.schedule.Word.{Word}
use Rattle.front_end.specs.declared.fault.Fault.{Fault}
use Rattle.trace_command.specs.Tracing.{IsOnThreads, Lacks, LacksAt, Takes}
use Rattle.trace_command.specs.declared.kernel.Kernel.{Kernel}
use Rattle.trace_command.specs.declared.kernel.Kernel.TheVariants.{Here, OnThreads, There}
use Rattle.trace_words.specs.declared.asked.Workers.{Workers}

pub lacks_more : (host : Option (List ℕ)) (workers : Option Workers) (files files' : Type 0) → (files → files')
    → (fault : Fault) → Lacks host workers files fault → Lacks host workers files' fault
lacks_more host workers files files' g fault (inl h) = inl h
lacks_more host workers files files' g fault (inr (inl w)) = inr (inl w)
lacks_more host workers files files' g fault (inr (inr f)) = inr (inr (g f.0, f.1))

-- a kernel is on threads where they are asked for
asked_for : {P I O E : Type 0} (remaining : O → Option (List ℕ)) (contents : I → Option (List ℕ))
    (host : Option (List ℕ)) (workers : Option Workers) (boot : Boot) (limit : ℕ) (words : List Word)
    (kernel : Kernel P I O E) → Takes remaining contents host workers boot limit words kernel → IsOnThreads kernel
    → IsSome workers
asked_for remaining contents host workers boot limit words (Here b schedule) h t = absurd t
asked_for remaining contents host workers boot limit words (There link) h t = absurd t
asked_for remaining contents None None boot limit words (OnThreads b w) h t = absurd h
asked_for remaining contents (Some path) None boot limit words (OnThreads b w) h t = absurd h
asked_for remaining contents host (Some workers) boot limit words (OnThreads b w) h t = refl

pub lacks_at : {P I O E : Type 0} (remaining : O → Option (List ℕ)) (contents : I → Option (List ℕ))
    (host : Option (List ℕ)) (workers : Option Workers) (boot : Boot) (limit : ℕ) (words : List Word)
    (kernel : Kernel P I O E) (files : Type 0) → Takes remaining contents host workers boot limit words kernel
    → (fault : Fault) → LacksAt kernel files fault → Lacks host workers files fault
lacks_at remaining contents host workers boot limit words kernel files h fault (inl (t, u)) =
    inr (inl (asked_for remaining contents host workers boot limit words kernel h t, u))
lacks_at remaining contents host workers boot limit words kernel files h fault (inr f) = inr (inr f)

pub over_both : {A B : Type 0} (P : A → B → Type 0) {a a' : A} {b b' : B} → a ≡ a' → b ≡ b' → P a b → P a' b'
over_both P {a} {a'} {b} {b'} e f h = subst (λ z. P z b') e (subst (λ z. P a z) f h)
