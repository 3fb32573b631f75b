-- The three loops of the outline builder, over any kind of point: drop what is near an earlier kept point, keep the
-- candidate that no later one replaces, and walk from corner to corner until the start is met. The tests are arguments,
-- so that the builder over floats, over places of an array, and over whole numbers are one text. Definitions only.
use Rattle.std.specs.Prelude.{List, [], ◌∷◌, ◌++◌, Bool, true, false, cond, ◌||◌, ℕ, zero, suc}
use Rattle.std.proofs.Math.Option.{Option, none, some, map}

-- the places i, i + 1, .. of an array: n of them
abbrev pub places : ℕ → ℕ → List ℕ
places i zero = []
places i (suc n) = i ∷ places (suc i) n

module _ {A : Type 0} where
  -- ---- welding
  abbrev pub near_any : (A → A → Bool) → A → List A → Bool
  near_any near a [] = false
  near_any near a (k ∷ kept) = near a k || near_any near a kept

  abbrev pub keep_unless : Bool → List A → A → List A
  keep_unless true kept a = kept
  keep_unless false kept a = kept ++ (a ∷ [])

  -- the points kept so far, and those to come
  abbrev pub weld : (A → A → Bool) → List A → List A → List A
  weld near kept [] = kept
  weld near kept (a ∷ l) = weld near (keep_unless (near_any near a kept) kept a) l

  -- ---- a scan through all places: the candidate is replaced by a later one where the test says so
  abbrev pub scan : (A → A → Bool) → A → List A → A
  scan replaces candidate [] = candidate
  scan replaces candidate (j ∷ js) = scan replaces (cond (replaces candidate j) j candidate) js

  -- ---- the walk: at most `fuel` corners, and nothing where it is not back by then
  abbrev pub stop_or : Bool → A → Option (List A) → Option (List A)
  stop_or true p rest = some (p ∷ [])
  stop_or false p rest = map (◌∷◌ p) rest

  abbrev pub walk : (A → A → Bool) → (A → A) → A → ℕ → A → Option (List A)
  walk same next start zero p = none
  walk same next start (suc fuel) p = let rest = walk same next start fuel (next p) in
      stop_or (same (next p) start) p rest
