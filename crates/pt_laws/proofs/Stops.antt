-- What is listed, reported and told, from the first on.
use Rattle.std.proofs.Common.{◌≡◌, ℕ, ◌≤◌, Bool, true, false, List, [], ◌∷◌, None, refl, ap, arith}
use Rattle.std.specs.Prelude.{◌==◌}
use Rattle.std.proofs.lemmas.Bool.Decides.{nat_tests}
use Rattle.lx_abi.specs.declared.outcome.Outcome.{Outcome}
use Rattle.lx_model.specs.Machine.{Machine}
use Rattle.lx_model.specs.Kernel.{born}
use Rattle.pt_model.specs.World.{first_world}
use Rattle.pt_laws.specs.Stops.{Fits, Watched, AreStops, Deed, Turns, Asks, done, all_done, StopsAreKept}
pub use Rattle.pt_laws.proofs.Turning.{turns_keep_stops}
pub use Rattle.pt_laws.proofs.Asking.{requests_keep_stops}

-- process 1 is held, and nobody else is there
first_fits : {B : Type 0} (p : ℕ) (b : B) (one : Bool) → (one ≡ true → p ≡ 1) → Fits p (record { task = born one b; held = one; options = None }) [] [] false
first_fits p b true is = record { once = refl; reported = λ h. refl; newest = λ h. tt; ends = tt; heard = λ h none. absurd (cc none); held = λ h none. (is refl, refl, (b, refl)) }
first_fits p b false is = record { once = refl; reported = λ h. refl; newest = λ h. absurd (cc h); ends = refl; heard = λ h. absurd (cc h); held = λ h. absurd (cc h) }

is_one : (p : ℕ) → (p == 1) ≡ true → p ≡ 1
is_one p h = grind (arith, nat_tests)

later : (p : ℕ) → 2 ≤ p → (p == 1) ≡ false
later p le = grind (arith, nat_tests, le)

pub first_stops : {S B : Type 0} (s : S) (b : B) → AreStops (record { host = (first_world s b).host; told = λ p. false })
first_stops s b = record {
  each = λ p. first_fits p b (p == 1) (is_one p);
  fresh = λ p le. ap (λ one. born one b) (later p le);
}

pub done_keeps : {S B : Type 0} (m : Machine S B) (outcome : S → Outcome) (w : Watched S B) (d : Deed) → AreStops w → AreStops (done m outcome w d)
done_keeps m outcome w (Turns p) all = turns_keep_stops m w p all
done_keeps m outcome w (Asks q) all = requests_keep_stops m outcome w q all

deeds_keep : {S B : Type 0} (m : Machine S B) (outcome : S → Outcome) (w : Watched S B) (ds : List Deed) → AreStops w → AreStops (all_done m outcome w ds)
deeds_keep m outcome w [] all = all
deeds_keep m outcome w (d ∷ ds) all = deeds_keep m outcome (done m outcome w d) ds (done_keeps m outcome w d all)

pub stops_are_kept : {S B : Type 0} → StopsAreKept S B
stops_are_kept m outcome s b deeds = deeds_keep m outcome (record { host = (first_world s b).host; told = λ p. false }) deeds (first_stops s b)
