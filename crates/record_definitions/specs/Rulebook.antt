-- Document 02, request 02, in the referee's words: "a touch begins when a pair that had no point gets one", and "a
-- robot that rolls from one corner to the next adds a point and begins no new touch". Definitions only.
use Rattle.std.specs.Prelude.{ℕ, ◌<◌, ◌≡◌}
use Rattle.record_definitions.specs.World.{one_more}

-- a test finds `now` points where the pair's last test found `before`, 0 where there was none, and takes the pair's
-- count from `touches` to `counted`. No point state is asked
pub record Rulebook (before now touches counted : ℕ) : Type 0 where
  -- a pair that had no point gets one: one touch more, up to the largest count
  pub begins : before ≡ 0 → 0 < now → counted ≡ one_more touches
  -- a pair that had points begins none, whatever points it has now
  pub goes_on : 0 < before → counted ≡ touches
  -- nor does a test that finds none
  pub apart : now ≡ 0 → counted ≡ touches
  -- so the count rises nowhere else
  pub only_there : touches < counted → (before ≡ 0) × (0 < now)
