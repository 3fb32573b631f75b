-- The search for the face that a circle's centre is farthest out of, a face at a time: what is known after the places
-- below i, and how it begins, goes on and ends. Assumes nothing.
use mathlib.Core.Path.{◌≡◌, refl, sym, ◌∙◌, ap}
use mathlib.Core.Bool.{Bool, true, false, cond}
use mathlib.Core.List.{List, map}
use Rattle.std.specs.declared.option.Option.TheVariants.{None, Some}
use Prim.Native.Nat.{ℕ, ◌+◌, ◌-◌, ◌≤◌, ◌<◌}
use native.Mathlib.Nat.{sub-zero}
use native.Mathlib.Omega.{arith}
use lib.ListN.{length, get_or}
use lib.Ieee.{Float, neg, lt}
use Rattle.algebra.specs.Loops.{places, scan}
use Rattle.floats.specs.declared.b2_math.B2vec2.{B2vec2}
use Rattle.floats.specs.B2Common.{b2_max_float}
use Rattle.shape_definitions.specs.Outline.{point_at, place_after}
use Rattle.algebra.proofs.Lists.{getD_within}
use Rattle.contact_definitions.specs.declared.axis.Best.{Best}
use Rattle.contact_definitions.specs.Searches.{some_below, valued, is_greater, first_greatest}
use Rattle.contact_definitions.proofs.Searches.{scanned, scanned_all, some_here, none_next}
use Rattle.circle_contacts.specs.Meetings.{out_of_face, SideOf}

abbrev best_at : ℕ → Float → Best
best_at index separation = record { place = index; value = separation }

module _ (vs ns : List B2vec2) (count : ℕ) (c : B2vec2) (radius : Float) where
  -- the best face of the places below i is `index`, and c is out of none of them by more than the radius
  pub record SoFar (index : ℕ) (separation : Float) (i : ℕ) : Type 0 where
    pub vs_eight : length vs ≡ 8
    pub ns_eight : length ns ≡ 8
    pub few : count ≤ 8
    pub done : i ≤ count
    pub in_count : index < count
    pub none_out : some_below (λ k. lt radius (out_of_face vs ns c k)) i ≡ false
    pub best_is : scan is_greater (best_at index separation) (map (valued (out_of_face vs ns c)) (places i (count - i)))
        ≡ first_greatest (out_of_face vs ns c) count

  pub sides_begin : length vs ≡ 8 → length ns ≡ 8 → 0 < count → count ≤ 8 → SoFar 0 (neg b2_max_float) 0
  unfolding some_below first_greatest
  sides_begin vs_eight ns_eight some few = record {
    vs_eight = vs_eight;
    ns_eight = ns_eight;
    few = few;
    done = omega arith;
    in_count = some;
    none_out = refl;
    best_is = ap (λ (k : ℕ). scan is_greater (best_at 0 (neg b2_max_float))
        (map (valued (out_of_face vs ns c)) (places 0 k)))
        (sub-zero count);
  }

  -- c is out of face i by more than the radius
  pub outside_at : (i : ℕ) (s : Float) → i < count → s ≡ out_of_face vs ns c i → lt radius s ≡ true
      → SideOf vs ns count c radius None
  outside_at i s within s_here far =
      some_here (λ k. lt radius (out_of_face vs ns c k)) i count within (ap (lt radius) (sym s_here) ∙ far)

  -- s is how far c is out of face i, by no more than the radius
  module _ (index : ℕ) (separation : Float) (i : ℕ) (so_far : SoFar index separation i) (within : i < count)
      (s : Float) (s_here : s ≡ out_of_face vs ns c i) (near : lt radius s ≡ false) where
    none : some_below (λ k. lt radius (out_of_face vs ns c k)) (i + 1) ≡ false
    none = none_next (λ k. lt radius (out_of_face vs ns c k)) i so_far.none_out (ap (lt radius) (sym s_here)
        ∙ near)

    stepped : scan is_greater (cond (lt separation (out_of_face vs ns c i)) (valued (out_of_face vs ns c) i)
        (best_at index separation))
        (map (valued (out_of_face vs ns c)) (places (i + 1) (count - (i + 1))))
        ≡ first_greatest (out_of_face vs ns c) count
    stepped =
        scanned is_greater (valued (out_of_face vs ns c)) (best_at index separation)
        (first_greatest (out_of_face vs ns c) count) i count
        so_far.best_is _ within refl

    pub side_taken : lt separation s ≡ true → SoFar i s (i + 1)
    side_taken more = record {
      vs_eight = so_far.vs_eight;
      ns_eight = so_far.ns_eight;
      few = so_far.few;
      done = omega arith;
      in_count = within;
      none_out = none;
      best_is = ap (λ (x : Float). scan is_greater (best_at i x)
          (map (valued (out_of_face vs ns c)) (places (i + 1) (count - (i + 1)))))
          s_here
          ∙ ap (λ (t : Bool). scan is_greater (cond t (valued (out_of_face vs ns c) i) (best_at index separation))
          (map (valued (out_of_face vs ns c)) (places (i + 1) (count - (i + 1)))))
          (sym (ap (lt separation) (sym s_here) ∙ more))
          ∙ stepped;
    }

    pub side_left : lt separation s ≡ false → SoFar index separation (i + 1)
    side_left less = record {
      vs_eight = so_far.vs_eight;
      ns_eight = so_far.ns_eight;
      few = so_far.few;
      done = omega arith;
      in_count = so_far.in_count;
      none_out = none;
      best_is = ap (λ (t : Bool). scan is_greater (cond t (valued (out_of_face vs ns c) i) (best_at index separation))
          (map (valued (out_of_face vs ns c)) (places (i + 1) (count - (i + 1)))))
          (sym (ap (lt separation) (sym s_here) ∙ less))
          ∙ stepped;
    }

  -- all places are done: the best face's first corner and normal are read, and the corner after
  pub side_found : (index : ℕ) (separation : Float) (i next : ℕ) (v1 v2 normal d : B2vec2)
      → SoFar index separation i → count ≤ i → next < count → next ≡ place_after count index
      → v1 ≡ get_or vs index d → v2 ≡ get_or vs next d → normal ≡ get_or ns index d
      → SideOf vs ns count c radius (Some (record {
        separation = separation;
        v1 = v1;
        v2 = v2;
        normal = normal;
      }))
  side_found index separation i next v1 v2 normal d so_far past next_in next_is v1_is v2_is normal_is =
      let eight = so_far.vs_eight in
      let eight_normals = so_far.ns_eight in
      let few = so_far.few in
      let done = so_far.done in
      let in_count = so_far.in_count in
      let all : i ≡ count = omega arith in
      let best = scanned_all is_greater (valued (out_of_face vs ns c)) (best_at index separation)
      (first_greatest (out_of_face vs ns c) count) i count so_far.best_is past in (
        ap (some_below (λ k. lt radius (out_of_face vs ns c k))) (sym all) ∙ so_far.none_out,
        record {
          separation_is = ap (λ (b : Best). b.value) best;
          v1_is = v1_is ∙ getD_within vs index d _ (omega arith) ∙ ap (λ (b : Best). point_at vs b.place) best;
          v2_is = v2_is ∙ getD_within vs next d _ (omega arith) ∙ ap (point_at vs) next_is
              ∙ ap (λ (b : Best). point_at vs (place_after count b.place)) best;
          normal_is = normal_is ∙ getD_within ns index d _ (omega arith)
              ∙ ap (λ (b : Best). point_at ns b.place) best;
        },
      )
