-- What a call that writes to the front of a lent buffer returns and leaves there. Definitions only.
use Rattle.std.specs.Prelude.{ℕ, ◌≡◌, List, length}
use Rattle.algebra.specs.Buffer.{over}

-- new was written to the front of old: the call returned how much that is, and left after
pub record Put (new old : List ℕ) (r : ℕ) (after : List ℕ) : Type 0 where
  pub count : r ≡ length new
  pub left : after ≡ over new old
