-- A manifold with one point over its first place. Assumes nothing.
use mathlib.Core.Path.{◌≡◌, ap, ◌∙◌}
use mathlib.Core.List.{List, [], ◌∷◌}
use lib.ListN.{length, get_or}
use Rattle.floats.specs.declared.b2_math.B2vec2.{B2vec2}
use Rattle.contact_definitions.specs.declared.b2_collision.B2contactId.{B2contactId}
use Rattle.contact_definitions.specs.declared.b2_collision.B2manifoldPoint.{B2manifoldPoint}
use Rattle.contact_definitions.specs.declared.b2_collision.B2manifoldType.{B2manifoldType}
use Rattle.contact_definitions.specs.declared.b2_collision.B2manifold.{B2manifold}
use Rattle.contact_definitions.specs.Manifold.{default_point, with_local_point, with_one_point}
use Rattle.algebra.proofs.Two.{first_place, one_over}

pub with_first : (m : B2manifold) (d : B2manifoldPoint) (kind : B2manifoldType) (normal point centre : B2vec2)
    (id made : B2contactId) → id ≡ made → length m.points ≡ 2
    → ◌≡◌ {A = B2manifold} (record {
      points = with_local_point (get_or m.points 0 d) centre id ∷ get_or m.points 1 d ∷ [];
      local_normal = normal;
      local_point = point;
      manifold_type = kind;
      point_count = 1;
    }) (with_one_point m kind normal point centre made)
unfolding with_one_point
with_first m d kind normal point centre id made id_is m_two =
    ap (λ (l : List B2manifoldPoint). record {
      points = l;
      local_normal = normal;
      local_point = point;
      manifold_type = kind;
      point_count = 1;
    })
    (ap (λ (p : B2manifoldPoint). with_local_point p centre id ∷ get_or m.points 1 d ∷ [])
    (first_place m.points d default_point m_two)
    ∙ one_over m.points (with_local_point (get_or m.points 0 default_point) centre id) d m_two)
    ∙ ap (λ (i : B2contactId). with_one_point m kind normal point centre i) id_is
