-- What the laws of counts and kinds are made of: what is said of a manifold (`Few`, `OnFace`), that each choice and
-- each refusal keeps it, and that a manifold made of clipped ends has it. Assumes nothing.
use mathlib.Core.Path.{◌≡◌, refl, ap}
use mathlib.Core.Bool.{Bool, true, false, not, cond, ◌&&◌}
use mathlib.Core.List.{List, [], ◌∷◌}
use mathlib.Core.Logic.{◌⊎◌}
use Prim.Native.Nat.{ℕ, suc, ◌≤◌, ◌<◌}
use native.Mathlib.Omega.{arith}
use lib.ListN.{length}
use Rattle.floats.specs.declared.b2_math.B2vec2.{B2vec2}
use Rattle.floats.specs.declared.b2_math.B2Transform.{B2Transform}
use Rattle.floats.specs.Ranges.{transform_in_range}
use Rattle.shape_definitions.specs.Refusal.{accepted}
use Rattle.contact_definitions.specs.declared.b2_collision.B2contactId.{B2contactId}
use Rattle.contact_definitions.specs.declared.b2_collision.B2manifoldPoint.{B2manifoldPoint}
use Rattle.contact_definitions.specs.declared.b2_collision.B2manifoldType.{B2manifoldType}
use Rattle.contact_definitions.specs.declared.b2_collision.B2manifoldType.TheVariants.{EFaceA, EFaceB}
use Rattle.contact_definitions.specs.declared.b2_collision.B2manifold.{B2manifold}
use Rattle.contact_definitions.specs.declared.b2_collision.B2clipVertex.{B2clipVertex}
use Rattle.contact_definitions.specs.Answers.{ManifoldAnswer}
use Rattle.contact_definitions.specs.declared.b2_collide_edge.B2referenceFace.{B2referenceFace}
use Rattle.contact_definitions.specs.Manifold.{with_count, with_kind, with_one_point, manifold_refused}
use Rattle.contact_definitions.specs.Manifold.{unless_miscounted, where_in_range}
use Rattle.contact_definitions.specs.Clip.{clipped}
use Rattle.contact_definitions.specs.ReferenceFace.{clipped_to_sides, only, points_from, with_points}
use Rattle.contact_definitions.specs.ReferenceFace.{manifold_of_ends}
use Rattle.contact_definitions.proofs.Clipping.{never_three}

-- ---- what is said of a manifold
abbrev pub FaceKind : B2manifoldType → Type 0
FaceKind kind = (kind ≡ EFaceA) ⊎ (kind ≡ EFaceB)

pub record Few (m : B2manifold) : Type 0 where
  pub at_most_two : m.point_count ≤ 2

pub record OnFace (m : B2manifold) : Type 0 where
  pub at_most_two : m.point_count ≤ 2
  pub is_face : 0 < m.point_count → FaceKind m.manifold_type

-- a property of the manifold that an accepted call answers
abbrev pub Accepted : (B2manifold → Type 0) → ManifoldAnswer → Type 0
Accepted P answer = answer.refusal ≡ accepted → P answer.manifold

-- ---- choices and refusals
pub either : {A : Type 0} (P : A → Type 0) (test : Bool) (x y : A) → P x → P y → P (cond test x y)
either P true x y h k = h
either P false x y h k = k

pub refused : (P : B2manifold → Type 0) (n : ℕ) (m : B2manifold) → Accepted P (manifold_refused (suc n) m)
refused P n m h = let never : suc n ≡ 0 = h in absurd (omega arith)

pub counted : (P : B2manifold → Type 0) (wrong : Bool) (old : B2manifold) (answer : ManifoldAnswer) → Accepted P answer
    → Accepted P (unless_miscounted wrong old answer)
counted P wrong old answer h = either (Accepted P) wrong (manifold_refused 7 old) answer (refused P 6 old) h

pub in_range : (P : B2manifold → Type 0) (shapes : Bool) (xfA xfB : B2Transform) (old : B2manifold)
    (answer : ManifoldAnswer) → Accepted P answer → Accepted P (where_in_range shapes xfA xfB old answer)
in_range P shapes xfA xfB old answer h =
    let placed = cond (not (transform_in_range xfA && transform_in_range xfB)) (manifold_refused 6 old) answer in
    either (Accepted P) (not shapes) (manifold_refused 2 old) placed (refused P 1 old)
    (either (Accepted P) (not (transform_in_range xfA && transform_in_range xfB)) (manifold_refused 6 old) answer
    (refused P 5 old) h)

-- ---- manifolds as the calls make them
pub none_on_face : (old : B2manifold) → OnFace (with_count old 0)
unfolding with_count
none_on_face old = record { at_most_two = omega arith; is_face = λ h. absurd (omega arith) }

pub none_few : (old : B2manifold) → Few (with_count old 0)
unfolding with_count
none_few old = record { at_most_two = omega arith }

pub one_few : (m : B2manifold) (kind : B2manifoldType) (normal point centre : B2vec2) (id : B2contactId)
    → Few (with_one_point m kind normal point centre id)
unfolding with_one_point
one_few m kind normal point centre id = record { at_most_two = omega arith }

pub kind_on_face : (m : B2manifold) (kind : B2manifoldType) → OnFace m → FaceKind kind → OnFace (with_kind m kind)
unfolding with_kind
kind_on_face m kind h is_face = record { at_most_two = h.at_most_two; is_face = λ some. is_face }

-- ---- a reference face
pub only_fewer : (test : B2clipVertex → Bool) (ends : List B2clipVertex) → length (only test ends) ≤ length ends
unfolding only
only_fewer test [] = omega arith
only_fewer test (end ∷ ends) = by_test (test end) (only_fewer test ends)
  where
    by_test : (t : Bool) → length (only test ends) ≤ length ends
        → length (cond t (end ∷ only test ends) (only test ends)) ≤ suc (length ends)
    by_test true h = omega arith
    by_test false h = omega arith

pub as_many : (made : B2manifoldPoint → B2clipVertex → B2manifoldPoint) (m : B2manifold) (i : ℕ)
    (ends : List B2clipVertex)
    → length (points_from made m i ends) ≡ length ends
unfolding points_from
as_many made m i [] = refl
as_many made m i (end ∷ ends) = ap suc (as_many made m (suc i) ends)

pub ends_on_face : (m : B2manifold) (normal point : B2vec2) (near : B2clipVertex → Bool)
    (made : B2manifoldPoint → B2clipVertex → B2manifoldPoint) (ends : List B2clipVertex)
    → OnFace m → FaceKind m.manifold_type → length ends ≤ 2
    → OnFace (manifold_of_ends m normal point near made ends)
unfolding manifold_of_ends with_points
ends_on_face m normal point near made [] h kind few = h
ends_on_face m normal point near made (end ∷ []) h kind few = h
ends_on_face m normal point near made (end0 ∷ end1 ∷ ends) h kind few =
    let kept = only near (end0 ∷ end1 ∷ ends) in
    let same : length (points_from made m 0 kept) ≡ length kept = as_many made m 0 kept in
    let fewer : length kept ≤ length (end0 ∷ end1 ∷ ends) = only_fewer near (end0 ∷ end1 ∷ ends) in
    record { at_most_two = omega arith; is_face = λ some. kind }

-- one point is written over the count, whatever it was
pub one_point_anew : (m : B2manifold) (kind : B2manifoldType) (normal point centre : B2vec2) (id : B2contactId)
    → with_one_point m kind normal point centre id ≡ with_one_point (with_count m 0) kind normal point centre id
unfolding with_one_point with_count
one_point_anew m kind normal point centre id = refl

pub sides_few : (face : B2referenceFace) (edge : List B2clipVertex) → length (clipped_to_sides face edge) ≤ 2
unfolding clipped_to_sides
sides_few face edge =
    never_three (clipped edge face.side_normal1 face.side_offset1 face.i1) face.side_normal2
    face.side_offset2 face.i2
