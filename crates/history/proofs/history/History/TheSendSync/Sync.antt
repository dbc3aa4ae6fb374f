-- A history owns nothing, so threads may share it.
use denote.RattleType.{RattleType}
use denote.Param.Send.{IsSync, sendable, owning_send, whole-keyless}
use Rattle.history.specs.contracts.history.History.{the_row, the_type}

pub sync : (T : RattleType) → IsSync T → IsSync (the_row T)
sync T t = record {
  shared = λ a b o κ q. whole-keyless _ _
      (λ x vs. (owning_send (the_type T) (search sendable, tt) (λ d. tt) (λ k y w. tt)).owned x vs) q a b o;
}
