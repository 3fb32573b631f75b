-- Requests of a fixed length. Definitions only.
use Rattle.std.specs.Prelude.{ℕ, ◌*◌, Bool, cond, ◌&&◌, List, [], eqb, length}

-- the answer to a request of so many words whose kinds, flags and states are known; to another, none
unfoldable pub well_formed : ℕ → Bool → List ℕ → List ℕ → List ℕ
well_formed words known request answer = cond (eqb (length request) (4 * words) && known) answer []
