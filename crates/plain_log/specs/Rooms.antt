-- A text that grows at its front, in a room of a fixed size.
use Rattle.std.specs.Prelude.{ℕ, List}

-- the text, and how many bytes there is still room for before it
pub record Placed : Type 0 where
  pub text : List ℕ
  pub room : ℕ
