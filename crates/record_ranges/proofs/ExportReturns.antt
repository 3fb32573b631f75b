-- What the export returns (`export_returns`): 13, 37 or 53, or 256 and one of 1 to 6; 256 and 9 just where the output is
-- too short, 256 and 10 just where it is not and the input is not in order; and the touches and ages that it writes.
-- Assumes nothing.
use Prim.Native.Nat.{ℕ, zero, suc, ◌+◌, ◌≤◌, ◌<◌}
use mathlib.Core.Path.{◌≡◌, refl, sym, ◌∙◌, ap}
use mathlib.Core.Bool.{Bool, true, false, cond, not, ◌&&◌, ◌||◌, false≢true}
use mathlib.Core.List.{List, [], ◌∷◌, ◌++◌, Memᴰ}
use mathlib.Core.Logic.{◌⊎◌, inl, inr}
use native.Mathlib.Omega.{arith}
use lib.Dec.{eqb, ltb}
use lib.ListN.{length, get_or, take, drop}
use Rattle.lines.specs.Fields.{byte_at, number_bytes}
use Rattle.algebra.proofs.Booleans.{less_or_not}
use Rattle.floats.specs.Ranges.{transform_in_range, radius_in_range}
use Rattle.shape_definitions.specs.Validate.{polygon_in_range}
use Rattle.shape_definitions.specs.Refusal.{accepted, shape_out_of_range, placement_out_of_range, count_out_of_range}
use Rattle.shape_definitions.specs.Refusal.{contact_out_of_range}
use Rattle.contact_definitions.specs.declared.b2_collision.B2manifold.{B2manifold}
use Rattle.contact_definitions.specs.Answers.{ManifoldAnswer}
use Rattle.contact_definitions.specs.Answers.{WorldAnswer}
use Rattle.contact_definitions.specs.Manifold.{miscounted}
use Rattle.contact_definitions.specs.B2CollidePolygon.{b2_collide_polygons}
use Rattle.contact_definitions.specs.WorldManifold.{b2_world_manifold_initialize, manifold_in_range}
use Rattle.contact_definitions.proofs.Counts.{either}
use Rattle.record_definitions.specs.declared.world.Body.{Body}
use Rattle.record_definitions.specs.declared.world.Kept.{Kept as KeptTest}
use Rattle.record_definitions.specs.declared.world.World.{World}
use Rattle.record_definitions.specs.declared.touch.Touch.{Touch}
use Rattle.record_definitions.specs.declared.frame.Answer.{Answer}
use Rattle.record_definitions.specs.declared.frame.Said.{Said}
use Rattle.record_definitions.specs.declared.frame.Answer.TheVariants.{Tested}
use Rattle.record_definitions.specs.World.{outline_kind, kept_of, body_at, pair_at}
use Rattle.record_definitions.specs.Touch.{meet_outline, meet, skin, world_points, tested_as, tested}
use Rattle.record_definitions.specs.Frame.{listed}
use Rattle.record_definitions.specs.Answer.{touch_bytes, answer_bytes, longest_answer, said_alone}
use Rattle.record_definitions.specs.Export.{test_frame, in_order, refusal_base, left_in, export_number, export_output}
use Rattle.record_definitions.specs.ExportLaws.{test_size, export_numbers, Written, ExportReturns}
use Rattle.record_definitions.proofs.AnswerLengths.{points_byte, touches_bytes, first_age_bytes, second_age_bytes}
use Rattle.record_definitions.proofs.Exported.{too_short, out_of_order, was_refused}
use Rattle.record_definitions.proofs.SoundTests.{NotOfHost, test_fine}
use Rattle.record_definitions.proofs.Theorem.{result_bytes}
use Rattle.record_definitions.proofs.AnswerLengths.{said_within}
use Rattle.record_definitions.proofs.HeatTests.{Remembers}
use Rattle.record_definitions.proofs.HeatLaw.{fresh_remembered}
use Rattle.record_definitions.proofs.FirstTests.{accepted_keeps_fresh, FirstResult, first_test}
use Rattle.record_definitions.proofs.ExportRuns.{answered, turned_down}
use Rattle.record_definitions.proofs.ExportOutcome.{export_outcome}
use Rattle.record_definitions.proofs.ExportTheorem.{said_last, Ends, returned_tested, returned_refused}
use Rattle.record_definitions.proofs.ExportTheorem.{number_is, output_is}
use Rattle.record_ranges.proofs.Kept.{CappedWorld, fresh_capped, frame_keeps_capped}
use Rattle.record_ranges.proofs.Contacts.{test_not_nine}

-- ---- a test of two outlines, if refused, is refused with 2
TestNumber : ℕ → Type 0
TestNumber n =
    (n ≡ accepted) ⊎ ((n ≡ shape_out_of_range) ⊎ ((n ≡ placement_out_of_range)
    ⊎ ((n ≡ count_out_of_range) ⊎ (n ≡ contact_out_of_range))))

module _ (a b : Body) (a_is : a.kind ≡ outline_kind) (b_is : b.kind ≡ outline_kind) where
  of_contact : TestNumber (meet a b).refusal
  unfolding meet meet_outline b2_collide_polygons TestNumber
  of_contact =
      rw (a_is, b_is)
      (either Good (miscounted a.outline.m_count || miscounted b.outline.m_count) _ _
      (inr (inr (inr (inl refl))))
      (either Good (not (polygon_in_range a.outline && polygon_in_range b.outline)) _ _ (inr (inl refl))
      (either Good (not (transform_in_range a.xf && transform_in_range b.xf)) _ _ (inr (inr (inl refl)))
      (inl refl))))
    where
      Good : ManifoldAnswer → Type 0
      Good answer = TestNumber answer.refusal

  of_world_points : (m : B2manifold) → TestNumber (world_points a b m).refusal
  unfolding world_points b2_world_manifold_initialize TestNumber
  of_world_points m =
      either Good (ltb 2 m.point_count) _ _ (inr (inr (inr (inl refl))))
      (either Good (eqb m.point_count 0) _ _ (inl refl)
      (either Good (not (manifold_in_range m && radius_in_range (skin a) && radius_in_range (skin b))) _ _
      (inr (inr (inr (inr refl))))
      (either Good (not (transform_in_range a.xf && transform_in_range b.xf)) _ _ (inr (inr (inl refl)))
      (inl refl))))
    where
      Good : WorldAnswer → Type 0
      Good answer = TestNumber answer.refusal

  of_test : (kept : KeptTest) → TestNumber (tested 0 1 a b kept).refusal
  unfolding tested tested_as
  of_test kept =
      either TestNumber (eqb (meet a b).refusal accepted) _ _ (of_world_points (meet a b).manifold) of_contact

  both_listed : listed a.kind b.kind ≡ true
  unfolding listed
  both_listed = rw (a_is, b_is) refl

-- ---- so the frames of the export are refused with 1 to 6
OneToSix : ℕ → Type 0
OneToSix n = (1 ≤ n) × (n ≤ 6)

-- no test of 0 against 1 so far
Kept : World → Type 0
Kept w = Remembers 0 1 0 w [] × CappedWorld w

two_left : (n : ℕ) → (n ≡ 0 → ⊥) → NotOfHost n → (n ≡ contact_out_of_range → ⊥) → TestNumber n → OneToSix n
unfolding TestNumber OneToSix
two_left n nonzero host nine (inl is) = absurd (nonzero is)
two_left n nonzero host nine (inr (inl is)) = omega arith
two_left n nonzero host nine (inr (inr (inl is))) = absurd (host.0 is)
two_left n nonzero host nine (inr (inr (inr (inl is)))) = absurd (host.1 is)
two_left n nonzero host nine (inr (inr (inr (inr is)))) = absurd (nine is)

test_refused : (w : World) → Kept w → (body_at w 0).kind ≡ outline_kind → (body_at w 1).kind ≡ outline_kind
    → ((tested 0 1 (body_at w 0) (body_at w 1) (kept_of (pair_at w 0 1) 0)).refusal ≡ 0 → ⊥)
    → OneToSix (tested 0 1 (body_at w 0) (body_at w 1) (kept_of (pair_at w 0 1) 0)).refusal
unfolding Kept
test_refused w kept a_is b_is nonzero =
    let a = body_at w 0 in
    let b = body_at w 1 in
    let none = kept_of (pair_at w 0 1) 0 in
    two_left (tested 0 1 a b none).refusal nonzero
    (test_fine a b (kept.0.sound.each 0) (kept.0.sound.each 1) 0 1 none (both_listed a b a_is b_is))
    (test_not_nine a b (kept.1.each 0) (kept.1.each 1) 0 1 none) (of_test a b a_is b_is none)

-- and the test is the first of its pair
outcome : (input : List ℕ) → in_order input ≡ true → Ends FirstResult OneToSix input
unfolding OneToSix Kept
outcome input ordered =
    export_outcome FirstResult OneToSix Kept (λ w kept. kept.0.sound)
    (λ w frame taken kept. (
      accepted_keeps_fresh 0 1 0 (omega arith) (omega arith) w kept.0 frame taken,
      frame_keeps_capped w frame kept.1,
    ))
    (fresh_remembered 0 1 0 (omega arith) (omega arith), fresh_capped)
    (λ w kept t is. first_test w test_frame t is kept.0) (λ n nonzero few. (omega arith, omega arith))
    (omega arith, omega arith) test_refused input ordered

-- ---- the list of numbers
abbrev Listed : ℕ → Type 0
Listed n = Memᴰ n export_numbers

at_place : (l : List ℕ) (i : ℕ) → i < length l → Memᴰ (get_or l i 0) l
at_place [] i below = absurd (omega arith)
at_place (x ∷ l) zero below = Memᴰ.head refl
at_place (x ∷ l) (suc i) below = Memᴰ.tail (at_place l i (omega arith))

refusal_listed : (n : ℕ) → 1 ≤ n → n ≤ 6 → Listed (refusal_base + n)
refusal_listed zero least most = absurd (omega arith)
refusal_listed (suc zero) least most = at_place export_numbers 3 (omega arith)
refusal_listed (suc (suc zero)) least most = at_place export_numbers 4 (omega arith)
refusal_listed (suc (suc (suc zero))) least most = at_place export_numbers 5 (omega arith)
refusal_listed (suc (suc (suc (suc zero)))) least most = at_place export_numbers 6 (omega arith)
refusal_listed (suc (suc (suc (suc (suc zero))))) least most = at_place export_numbers 7 (omega arith)
refusal_listed (suc (suc (suc (suc (suc (suc zero)))))) least most = at_place export_numbers 8 (omega arith)
refusal_listed (suc (suc (suc (suc (suc (suc (suc n))))))) least most = absurd (omega arith)

test_listed : (t : Touch) → Listed (length (touch_bytes t))
test_listed t =
    rw (result_bytes t)
    (either Listed (eqb t.count 0) 13 _ (at_place export_numbers 0 (omega arith))
    (either Listed (eqb t.count 1) 37 53 (at_place export_numbers 1 (omega arith))
    (at_place export_numbers 2 (omega arith))))

-- ---- what is returned where the output has room and the input is in order: neither 9 nor 10
record Ran (n : ℕ) (output : List ℕ) : Type 0 where
  is_listed : Listed n
  is_written : n < refusal_base → Written n output
  below : n ≤ refusal_base + 6

left_by_test : (said : Said) (out : List ℕ) (t : Touch) → said.answer ≡ Tested t
    → left_in said out ≡ touch_bytes t ++ drop (length (touch_bytes t)) out
left_by_test said out t is = rw is refl

ran : (input out : List ℕ) → longest_answer ≤ length out → in_order input ≡ true
    → Ran (export_number input out) (export_output input out)
unfolding OneToSix
ran input out room ordered = by_outcome (outcome input ordered)
  where
    by_outcome : Ends FirstResult OneToSix input → Ran (export_number input out) (export_output input out)
    by_outcome (answered t is first printed) =
        let said = said_last input in
        let number : export_number input out ≡ length (touch_bytes t) =
        number_is input out room ordered ∙ returned_tested said t is
        ∙ ap (λ (answer : Answer). length (answer_bytes answer)) is in
        let few : length (touch_bytes t) ≤ longest_answer =
        said_within (said_alone (Tested t)) in
        let rest = drop (length (touch_bytes t)) out in
        let left : export_output input out ≡ touch_bytes t ++ rest =
        output_is input out room ordered ∙ left_by_test said out t is in
        let points : byte_at (export_output input out) 3 ≡ t.count =
        ap (λ (l : List ℕ). byte_at l 3) left ∙ points_byte t rest in
        record {
          is_listed = rw number (test_listed t);
          is_written = λ no_refusal. record {
            sized = number ∙ result_bytes t ∙ ap test_size (sym points);
            counted = ap (λ (l : List ℕ). take 4 (drop 9 l)) left ∙ touches_bytes t rest
                ∙ ap number_bytes (first.counted ∙ ap (λ (n : ℕ). cond (eqb n 0) 0 1) (sym points));
            first_age = λ some. ap (λ (l : List ℕ). take 4 (drop 33 l)) left
                ∙ first_age_bytes t rest (λ none. omega (arith, points)) ∙ ap number_bytes first.first_age;
            second_age = λ more. ap (λ (l : List ℕ). take 4 (drop 49 l)) left
                ∙ second_age_bytes t rest (λ none. omega (arith, points)) (λ one. omega (arith, points))
                ∙ ap number_bytes first.second_age;
          };
          below = omega (arith, number, few);
        }
    by_outcome (turned_down n is nonzero good first) =
        let number : export_number input out ≡ refusal_base + n =
        number_is input out room ordered ∙ returned_refused (said_last input) n is nonzero in
        record {
          is_listed = rw number (refusal_listed n good.0 good.1);
          is_written = λ no_refusal. absurd (omega (arith, number));
          below = omega (arith, number, good.1);
        }

pub export_returns : (input out : List ℕ) → ExportReturns input out
export_returns input out = by_room (less_or_not (length out) longest_answer) (in_order input) refl
  where
    by_room : (length out < longest_answer) ⊎ (longest_answer ≤ length out) → (t : Bool) → in_order input ≡ t
        → ExportReturns input out
    by_room (inl short) t is =
        let number : refusal_base + 9 ≡ export_number input out = (too_short input out short).0 in
        record {
          listed = rw (← number) (at_place export_numbers 9 (omega arith));
          written = λ no_refusal. absurd (omega (arith, number));
          nine = (λ same. short, λ less. sym number);
          ten = (λ same. absurd (omega arith), λ both. absurd (omega (arith, both.0)));
        }
    by_room (inr room) false is =
        let number : refusal_base + 10 ≡ export_number input out =
        (was_refused input out room _ (out_of_order input is) 10 refl (λ e. absurd (omega arith))).0 in
        record {
          listed = rw (← number) (at_place export_numbers 10 (omega arith));
          written = λ no_refusal. absurd (omega (arith, number));
          nine = (λ same. absurd (omega arith), λ less. absurd (omega arith));
          ten = (λ same. (room, is), λ both. sym number);
        }
    by_room (inr room) true is =
        let done = ran input out room is in
        record {
          listed = done.is_listed;
          written = done.is_written;
          nine = (λ same. absurd (omega (arith, done.below)), λ less. absurd (omega arith));
          ten = (λ same. absurd (omega (arith, done.below)), λ both. absurd (false≢true (sym both.1 ∙ is)));
        }
