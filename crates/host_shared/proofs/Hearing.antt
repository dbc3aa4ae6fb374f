-- What was said, as exchanges and as the journal tells it.
use Rattle.std.proofs.Common.{◌≡◌, ℕ, ◌+◌, Bool, true, false, List, [], ◌∷◌, ◌++◌, length, Option, Some, None, refl, sym, ap, subst, ◌∙◌, inl, inr, append_assoc, append-nil, length-append, arith}
use Rattle.lx_abi.specs.declared.ptrace.Reply.{Reply}
use Rattle.lx_abi.specs.declared.ptrace.Reply.TheVariants.{OutOfTurns as Out_of_turns}
use Rattle.lx_abi.specs.declared.ptrace.Request.{Request}
use Rattle.lx_abi.specs.declared.schedule.Event.TheVariants.{Turn, Serve}
use Rattle.pt_journal.specs.Told.{Told}
use Rattle.pt_journal.specs.declared.entry.Entry.{Entry}
use Rattle.pt_journal.specs.declared.entry.Entry.TheVariants.{Ask, Did}
use Rattle.transcript.specs.declared.said.Said.{Said}
use Rattle.transcript.specs.declared.said.Said.TheVariants.{Asked, Answered}
use Rattle.host_shared.specs.Hearing.{spoken, pairs, asked_of, Leads, IsHeard}

abbrev pub Given : Type 0
Given = List (Request × Reply)

pub pairs_spoken : (g : Given) → pairs (spoken g) ≡ g
pairs_spoken [] = refl
pairs_spoken (x ∷ xs) = ap (λ l. x ∷ l) (pairs_spoken xs)

pairs_asked : (g : Given) (q : Request) → pairs (spoken g ++ Asked q ∷ []) ≡ g
pairs_asked [] q = refl
pairs_asked (x ∷ xs) q = ap (λ l. x ∷ l) (pairs_asked xs q)

spoken_more : (g : Given) (q : Request) (r : Reply) → spoken (g ++ (q, r) ∷ []) ≡ spoken g ++ Asked q ∷ Answered r ∷ []
spoken_more [] q r = refl
spoken_more (x ∷ xs) q r = ap (λ l. Asked x.0 ∷ Answered x.1 ∷ l) (spoken_more xs q r)

-- one exchange more
pub pairs_more : (g : Given) (q : Request) (r : Reply) → pairs (spoken g ++ Asked q ∷ Answered r ∷ []) ≡ g ++ (q, r) ∷ []
pairs_more g q r = ap pairs (sym (spoken_more g q r)) ∙ pairs_spoken (g ++ (q, r) ∷ [])

pub pairs_added : (g : Given) (said : List Said) (q : Request) (r : Reply) → said ≡ spoken g ++ Asked q ∷ Answered r ∷ [] → pairs said ≡ g ++ (q, r) ∷ []
pairs_added g said q r e = ap pairs e ∙ pairs_more g q r

pub added : (g : Given) (said : List Said) (n : ℕ) → n ≡ length g → (q : Request) × (r : Reply) × (said ≡ spoken g ++ Asked q ∷ Answered r ∷ [])
    → (said ≡ spoken (pairs said)) × (n + 1 ≡ length (pairs said))
added g said n e m =
    let is : pairs said ≡ g ++ (m.0, m.1) ∷ [] = pairs_added g said m.0 m.1 m.2 in
    let long = ap length is in
    let more = length-append g ((m.0, m.1) ∷ []) in (
      m.2 ∙ sym (spoken_more g m.0 m.1) ∙ ap spoken (sym is),
      omega (arith, e, long, more),
    )

-- in the beginning nothing was said
pub heard_first : (said : List Said) → said ≡ [] → IsHeard false [] said None
heard_first said e = subst (λ (s : List Said). IsHeard false [] s None) (sym e) (refl, λ more x rest of told. told)

module _ (journal : List Entry) (said : List Said) where
  -- a request is said and put
  pub heard_asked : (q : Request) → IsHeard false journal said None → IsHeard false (journal ++ Ask q ∷ []) (said ++ Asked q ∷ []) (Some q)
  heard_asked q h =
      let whole : said ≡ spoken (pairs said) = h.0 ∙ append-nil (spoken (pairs said)) in
      let same : pairs (said ++ Asked q ∷ []) ≡ pairs said = ap (λ (s : List Said). pairs (s ++ Asked q ∷ [])) whole ∙ pairs_asked (pairs said) q in (
        ap (λ s. s ++ Asked q ∷ []) whole ∙ ap (λ (g : Given). spoken g ++ Asked q ∷ []) (sym same),
        subst (λ (g : Given). Leads (journal ++ Ask q ∷ []) g (Some q)) (sym same)
            (λ more x rest of told.
            subst (λ (j : List Entry). Told j (pairs said ++ x ∷ rest)) (sym (append_assoc journal (Ask q ∷ []) more))
            (h.1 (Ask q ∷ more) x rest tt (of, told))),
      )

  -- a process has a turn
  pub heard_turned : (p : ℕ) (pending : Option Request) → IsHeard false journal said pending → IsHeard false (journal ++ Did (Turn p) None ∷ []) said pending
  heard_turned p pending h = (
    h.0,
    λ more x rest of told.
        subst (λ (j : List Entry). Told j (pairs said ++ x ∷ rest)) (sym (append_assoc journal (Did (Turn p) None ∷ []) more))
        (h.1 (Did (Turn p) None ∷ more) x rest of told),
  )

  module _ (q : Request) (r : Reply) (h : IsHeard false journal said (Some q)) where
    parts : said ++ Answered r ∷ [] ≡ spoken (pairs said) ++ Asked q ∷ Answered r ∷ []
    parts = ap (λ s. s ++ Answered r ∷ []) h.0 ∙ append_assoc (spoken (pairs said)) (Asked q ∷ []) (Answered r ∷ [])

    more_pairs : pairs (said ++ Answered r ∷ []) ≡ pairs said ++ (q, r) ∷ []
    more_pairs = pairs_added (pairs said) (said ++ Answered r ∷ []) q r parts

    whole_now : said ++ Answered r ∷ [] ≡ spoken (pairs (said ++ Answered r ∷ []))
    whole_now = parts ∙ sym (spoken_more (pairs said) q r) ∙ ap spoken (sym more_pairs)

    -- the reply to it is said and given
    pub heard_served : IsHeard false (journal ++ Did Serve (Some r) ∷ []) (said ++ Answered r ∷ []) None
    heard_served = (
      whole_now ∙ sym (append-nil (spoken (pairs (said ++ Answered r ∷ [])))),
      subst (λ (g : Given). Leads (journal ++ Did Serve (Some r) ∷ []) g None) (sym more_pairs)
          (λ more x rest of told.
          subst (λ (g : Given). Told ((journal ++ Did Serve (Some r) ∷ []) ++ more) g) (sym (append_assoc (pairs said) ((q, r) ∷ []) (x ∷ rest)))
          (subst (λ (j : List Entry). Told j (pairs said ++ (q, r) ∷ x ∷ rest)) (sym (append_assoc journal (Did Serve (Some r) ∷ []) more))
          (h.1 (Did Serve (Some r) ∷ more) (q, r) (x ∷ rest) refl (refl, told)))),
    )

    -- it is the last
    pub heard_last : IsHeard true (journal ++ Did Serve (Some r) ∷ []) (said ++ Answered r ∷ []) None
    heard_last = (
      whole_now,
      subst (λ (g : Given). Told (journal ++ Did Serve (Some r) ∷ []) g) (sym more_pairs)
          (h.1 (Did Serve (Some r) ∷ []) (q, r) [] refl (refl, inl refl)),
    )

    pub heard_over : (over : Bool) → IsHeard over (journal ++ Did Serve (Some r) ∷ []) (said ++ Answered r ∷ []) None
    heard_over true = heard_last
    heard_over false = heard_served

  -- out of turns
  pub heard_end : (q : Request) → IsHeard false journal said (Some q) → (pending : Option Request) → IsHeard true journal (said ++ Answered Out_of_turns ∷ []) pending
  heard_end q h pending = (
    whole_now q Out_of_turns h,
    subst (λ (g : Given). Told journal g) (sym (more_pairs q Out_of_turns h))
        (subst (λ (j : List Entry). Told j (pairs said ++ (q, Out_of_turns) ∷ [])) (append-nil journal)
        (h.1 [] (q, Out_of_turns) [] refl (inr (q, refl)))),
  )

  pub heard_refused : (q : Request) → IsHeard false journal said None → (pending : Option Request) → IsHeard true journal (said ++ Asked q ∷ Answered Out_of_turns ∷ []) pending
  heard_refused q h pending =
      let whole : said ≡ spoken (pairs said) = h.0 ∙ append-nil (spoken (pairs said)) in
      let parts' : said ++ Asked q ∷ Answered Out_of_turns ∷ [] ≡ spoken (pairs said) ++ Asked q ∷ Answered Out_of_turns ∷ [] = ap (λ s. s ++ Asked q ∷ Answered Out_of_turns ∷ []) whole in
      let is : pairs (said ++ Asked q ∷ Answered Out_of_turns ∷ []) ≡ pairs said ++ (q, Out_of_turns) ∷ [] = pairs_added (pairs said) (said ++ Asked q ∷ Answered Out_of_turns ∷ []) q Out_of_turns parts' in (
        parts' ∙ sym (spoken_more (pairs said) q Out_of_turns) ∙ ap spoken (sym is),
        subst (λ (g : Given). Told journal g) (sym is)
            (subst (λ (j : List Entry). Told j (pairs said ++ (q, Out_of_turns) ∷ [])) (append-nil journal)
            (h.1 [] (q, Out_of_turns) [] tt (inr (q, refl)))),
      )
