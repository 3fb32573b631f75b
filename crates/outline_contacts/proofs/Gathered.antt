-- The reference face and the incident edge, from what the code reads. Assumes nothing.
use mathlib.Core.Path.{◌≡◌, refl, ap, ◌∙◌}
use mathlib.Core.Bool.{Bool}
use mathlib.Core.List.{List}
use Prim.Native.Nat.{ℕ, ◌<◌}
use lib.ListN.{length, get_or}
use lib.Ieee.{Float, binary32, add, mul}
use Rattle.floats.specs.declared.b2_math.B2vec2.{B2vec2}
use Rattle.floats.specs.declared.b2_math.B2Transform.{B2Transform}
use Rattle.floats.specs.B2Math.{b2_dot, b2_mul_rot_by_vec2, b2_mul_t_rot_by_vec2}
use Rattle.shape_definitions.specs.Outline.{origin, point_at, place_after}
use Rattle.contact_definitions.specs.declared.axis.Best.{Best}
use Rattle.contact_definitions.specs.Searches.{first_least}
use Rattle.algebra.proofs.Lists.{getD_within}
use Rattle.contact_definitions.specs.declared.axis.Corner.{Corner}
use Rattle.outline_contacts.specs.declared.faces.Face.{Face}
use Rattle.outline_contacts.specs.Faces.{corner_of, face_of}

-- ---- the search for the incident edge
pub dot_is : (n : B2vec2) (ns : List B2vec2) (i : ℕ) (d : B2vec2) → i < length ns
    → add binary32 (mul binary32 n.x (get_or ns i d).x) (mul binary32 n.y (get_or ns i d).y)
    ≡ b2_dot n (point_at ns i)
unfolding b2_dot
dot_is n ns i d within =
    ap (λ (v : B2vec2). add binary32 (mul binary32 n.x v.x) (mul binary32 n.y v.y))
    (getD_within ns i d origin within)

pub corner_is : (vs : List B2vec2) (index : ℕ) (value : Float) (d : B2vec2) (best : Best) → index < length vs
    → record { place = index; value = value } ≡ best
    → ◌≡◌ {A = Corner} (record { index = index; v = get_or vs index d }) (corner_of vs best.place)
corner_is vs index value d best within best_is =
    ap (λ (v : B2vec2). record { index = index; v = v }) (getD_within vs index d origin within)
    ∙ ap (λ (b : Best). corner_of vs b.place) best_is

-- ---- the data of a face
module _ (v1s : List B2vec2) (edge : ℕ) (normal : B2vec2) (count1 : ℕ) (xf1 : B2Transform) (v2s n2s : List B2vec2)
    (count2 : ℕ) (xf2 : B2Transform) (flip : Bool) where
  pub face_is : (d : B2vec2) (turned n : B2vec2) (c : Corner) (i2 iv2 : ℕ)
      → turned ≡ b2_mul_rot_by_vec2 xf1.q normal → n ≡ b2_mul_t_rot_by_vec2 xf2.q turned
      → c ≡ corner_of v2s (first_least (λ i. b2_dot n (point_at n2s i)) count2).place
      → i2 ≡ place_after count2 c.index → iv2 ≡ place_after count1 edge
      → edge < length v1s → iv2 < length v1s → i2 < length v2s
      → ◌≡◌ {A = Face} (record {
        v11 = get_or v1s edge d;
        v12 = get_or v1s iv2 d;
        edge = edge;
        iv2 = iv2;
        i1 = c.index;
        i2 = i2;
        w1 = c.v;
        w2 = get_or v2s i2 d;
        xf1 = xf1;
        xf2 = xf2;
        flip = flip;
      }) (face_of v1s edge normal count1 xf1 v2s n2s count2 xf2 flip)
  unfolding face_of
  face_is d turned n c i2 iv2 turned_is n_is c_is i2_is iv2_is edge_in iv2_in i2_in =
      rw (
        getD_within v1s edge d origin edge_in,
        getD_within v1s iv2 d origin iv2_in,
        getD_within v2s i2 d origin i2_in,
        i2_is,
        iv2_is,
        c_is,
        n_is,
        turned_is,
      ) refl
