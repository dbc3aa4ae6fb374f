-- Who is known to have the next turn after whom.
use Rattle.std.proofs.Common.{◌≡◌, ◌⊎◌, ℕ, zero, suc, ◌%◌, List, [], ◌∷◌, Option, Some, None, set, get_or, replicate, refl, sym, ap, ap₂, subst, ◌∙◌, inl, inr}
use Rattle.lx_abi.specs.declared.schedule.Event.TheVariants.{Turn}
use Rattle.pt_schedule.specs.Cycle.{next_able}
use Rattle.pt_kernel.specs.Hosts.{HostState, readiness_of}
use Rattle.pt_kernel.specs.AfterEvents.{after, AreAlike, RunsOn, RunsLeaveAlike}
use Rattle.host_shared.specs.declared.followers.Follower.{Follower}
use Rattle.host_shared.specs.Following.{Follows, Tells, Knows}

abbrev Rows : Type 0
Rows = List (Option Follower)

abbrev no_row : Option Follower
no_row = None

nothing : (n i : ℕ) → get_or (replicate n no_row) i no_row ≡ no_row
nothing zero i = refl
nothing (suc n) zero = refl
nothing (suc n) (suc i) = nothing n i

pub knows_none : (h : HostState) (rows : Rows) → rows ≡ replicate 32 None → Knows h rows
knows_none h rows none p q e = absurd (cc (sym (nothing 32 (p % 32)) ∙ ap (λ (r : Rows). get_or r (p % 32) None) (sym none) ∙ e))

-- one row is new, where there is one
learnt : (rows : Rows) (i j : ℕ) (x : Option Follower) → (get_or (set rows i x) j None ≡ get_or rows j None) ⊎ (get_or (set rows i x) j None ≡ x)
learnt [] i j x = inl refl
learnt (y ∷ rows) zero zero x = inr refl
learnt (y ∷ rows) zero (suc j) x = inl refl
learnt (y ∷ rows) (suc i) zero x = inl refl
learnt (y ∷ rows) (suc i) (suc j) x = learnt rows i j x

abbrev pid_in : Option Follower → ℕ
pid_in None = 0
pid_in (Some f) = f.pid

abbrev next_in : Option Follower → ℕ
next_in None = 0
next_in (Some f) = f.next

abbrev row : ℕ → ℕ → Option Follower
row p q = Some (record { pid = p; next = q })

abbrev follower : HostState → ℕ → Option ℕ
follower h p = next_able (readiness_of h).able (readiness_of h).last_pid p

knows_more : (h : HostState) (rows : Rows) (p q : ℕ) → Knows h rows → Follows h p q → Knows h (set rows (p % 32) (row p q))
knows_more h rows p q knows next a b e = go (learnt rows (p % 32) (a % 32) (row p q))
  where
    go : (get_or (set rows (p % 32) (row p q)) (a % 32) None ≡ get_or rows (a % 32) None) ⊎ (get_or (set rows (p % 32) (row p q)) (a % 32) None ≡ row p q) → follower h a ≡ Some b
    go (inl same) = knows a b (sym same ∙ e)
    go (inr new) =
        let it : row p q ≡ row a b = sym new ∙ e in
        let same_pid : p ≡ a = ap pid_in it in
        let same_next : q ≡ b = ap next_in it in
        ap (follower h) (sym same_pid) ∙ next ∙ ap (λ n. Some n) same_next

-- after a turn that ran an instruction as much is known, and who followed
pub learns : RunsLeaveAlike → (h h' : HostState) (rows rows' : Rows) (p q : ℕ) → h' ≡ after h (Turn q) → RunsOn h q → Follows h p q → rows' ≡ set rows (p % 32) (row p q) → Knows h rows → Knows h' rows'
learns alike h h' rows rows' p q turned on next new knows =
    let same : AreAlike h h' = subst (λ (x : HostState). AreAlike h x) (sym turned) (alike h q on) in
    subst (λ (r : Rows). Knows h' r) (sym new)
    (λ a b e. ap₂ (λ able last_pid. next_able able last_pid a) same.0 same.1 ∙ knows_more h rows p q knows next a b e)
