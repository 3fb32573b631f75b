-- The loops of specs/Loops, a step at a time, for code that runs them over the places of an array. Assumes nothing.
use mathlib.Core.Path.{◌≡◌, refl, sym, ◌∙◌, ap}
use mathlib.Core.List.{List, [], ◌∷◌, ◌++◌, append_assoc}
use mathlib.Core.Bool.{Bool, true, false, cond, ◌||◌}
use Prim.Native.Nat.{ℕ, suc, ◌+◌, ◌-◌, ◌<◌, ◌≤◌}
use native.Mathlib.Numerals.{add-one}
use native.Mathlib.Omega.{arith}
use lib.ListN.{length, get_or, take, drop, set}
use lib.Seq.{drop-cons, drop-length, take-suc-set}
use mathlib.Core.Option.{Option, none, some, map}
use Rattle.algebra.specs.Loops.{places, near_any, keep_unless, weld, scan, stop_or, walk}

module _ {A : Type 0} where
  -- ---- near-any, from place j on: a is the element there
  module _ (near : A → A → Bool) (v : A) (l : List A) (j : ℕ) (a d : A) (within : j < length l) (a_is : a ≡ get_or l j d)
      (so_far : near_any near v (drop j l) ≡ near_any near v l) where
    here : near_any near v (drop j l) ≡ near v a || near_any near v (drop (j + 1) l)
    here = rw (add-one, drop-cons l j d, a_is)

    pub near_found : near v a ≡ true → true ≡ near_any near v l
    near_found found = sym (sym so_far ∙ here ∙ ap (λ (t : Bool). t || near_any near v (drop (j + 1) l)) found)

    pub near_next : near v a ≡ false → near_any near v (drop (j + 1) l) ≡ near_any near v l
    near_next not_found = sym (sym so_far ∙ here ∙ ap (λ (t : Bool). t || near_any near v (drop (j + 1) l)) not_found)

  pub near_none : (near : A → A → Bool) (v : A) (l : List A) (j : ℕ) → j ≡ length l
      → near_any near v (drop j l) ≡ near_any near v l
      → false ≡ near_any near v l
  near_none near v l j end so_far =
      ap (near_any near v) (sym (drop-length l) ∙ ap (λ (k : ℕ). drop k l) (sym end)) ∙ so_far

  -- ---- welding: the kept points stand in the first n places of an array
  module _ (near : A → A → Bool) (kept l whole : List A) (n i : ℕ) (a d : A) (within : i < length l)
      (a_is : a ≡ get_or l i d)
      (so_far : weld near (take n kept) (drop i l) ≡ whole) where
    weld_here : weld near (keep_unless (near_any near a (take n kept)) (take n kept) a) (drop (i + 1) l) ≡ whole
    weld_here = rw (add-one, a_is) (rw (drop-cons l i d) at so_far)

    -- the point is dropped
    pub weld_dropped : near_any near a (take n kept) ≡ true → weld near (take n kept) (drop (i + 1) l) ≡ whole
    weld_dropped found =
        ap (λ (t : Bool). weld near (keep_unless t (take n kept) a) (drop (i + 1) l)) (sym found) ∙ weld_here

    -- it is kept
    pub weld_kept : n < length kept → near_any near a (take n kept) ≡ false
        → weld near (take (n + 1) (set kept n a)) (drop (i + 1) l) ≡ whole
    weld_kept room not_found =
        ap (λ (k : List A). weld near k (drop (i + 1) l)) (ap (λ (k : ℕ). take k (set kept n a)) (add-one n)
        ∙ take-suc-set kept n a room)
        ∙ ap (λ (t : Bool). weld near (keep_unless t (take n kept) a) (drop (i + 1) l)) (sym not_found) ∙ weld_here

  pub weld_ended : (near : A → A → Bool) (kept l whole : List A) (i : ℕ) → i ≡ length l
      → weld near kept (drop i l) ≡ whole → kept ≡ whole
  weld_ended near kept l whole i end so_far =
      ap (weld near kept) (sym (drop-length l) ∙ ap (λ (k : ℕ). drop k l) (sym end)) ∙ so_far

  -- ---- the walk: the corners done, and those to come from p on
  pub walk_starts : (o : Option (List A)) → map (◌++◌ []) o ≡ o
  walk_starts none = refl
  walk_starts (some l) = refl

  pub map_one_more : (done : List A) (p : A) (o : Option (List A))
      → map (◌++◌ (done ++ (p ∷ []))) o ≡ map (◌++◌ done) (map (◌∷◌ p) o)
  map_one_more done p none = refl
  map_one_more done p (some l) = ap some (append_assoc done (p ∷ []) l)

  module _ (same : A → A → Bool) (next : A → A) (start p : A) (fuel : ℕ) (done : List A) (whole : Option (List A))
      (so_far : map (◌++◌ done) (walk same next start (suc fuel) p) ≡ whole) where
    pub walk_back : same (next p) start ≡ true → some (done ++ (p ∷ [])) ≡ whole
    walk_back back =
        ap (λ (t : Bool). map (◌++◌ done) (stop_or t p (walk same next start fuel (next p)))) (sym back) ∙ so_far

    pub walk_next : same (next p) start ≡ false
        → map (◌++◌ (done ++ (p ∷ []))) (walk same next start fuel (next p)) ≡ whole
    walk_next not_back =
        map_one_more done p (walk same next start fuel (next p))
        ∙ ap (λ (t : Bool). map (◌++◌ done) (stop_or t p (walk same next start fuel (next p)))) (sym not_back)
        ∙ so_far

-- ---- a scan over the places from j on, n - j of them
module _ (test : ℕ → ℕ → Bool) (candidate j n answer : ℕ) (within : j < n)
    (so_far : scan test candidate (places j (n - j)) ≡ answer) where
  one_place : places j (n - j) ≡ j ∷ places (j + 1) (n - (j + 1))
  one_place = ap (places j) count ∙ ap (λ (k : ℕ). j ∷ places k (n - (j + 1))) (sym (add-one j))
    where
      count : n - j ≡ suc (n - (j + 1))
      count = omega arith

  -- the candidate after place j
  pub scan_next : scan test (cond (test candidate j) j candidate) (places (j + 1) (n - (j + 1))) ≡ answer
  scan_next = ap (scan test candidate) (sym one_place) ∙ so_far

pub scan_ended : (test : ℕ → ℕ → Bool) (candidate j n answer : ℕ) → n ≤ j
    → scan test candidate (places j (n - j)) ≡ answer → candidate ≡ answer
scan_ended test candidate j n answer past so_far =
    ap (λ (k : ℕ). scan test candidate (places j k)) (sym none_left) ∙ so_far
  where
    none_left : n - j ≡ 0
    none_left = omega arith
