-- Ids of contact points: the test of all four numbers holds of an id and itself, and of no two others. Assumes nothing.
use mathlib.Core.Path.{◌≡◌, refl}
use mathlib.Core.Bool.{true, ◌&&◌}
use lib.Dec.{eqb}
use borrow.Author.Tests.{eq-eqb, eqb-true}
use Rattle.algebra.proofs.Booleans.{both}
use Rattle.contact_definitions.specs.declared.b2_collision.B2contactId.{B2contactId}
use Rattle.contact_definitions.specs.Manifold.{contact_id}
use Rattle.contact_definitions.specs.PointStates.{same_id}

pub same_ids_are_one : (a b : B2contactId) → same_id a b ≡ true → a ≡ b
unfolding same_id
same_ids_are_one a b same =
    let f = a.cf in
    let g = b.cf in
    let index_a = eqb f.index_a g.index_a in
    let index_b = eqb f.index_b g.index_b in
    let type_a = eqb f.type_a g.type_a in
    let four = both (index_a && index_b && type_a) (eqb f.type_b g.type_b) same in
    let three = both (index_a && index_b) type_a four.0 in
    let two = both index_a index_b three.0 in
    let made : contact_id f.index_a f.index_b f.type_a f.type_b ≡ b =
    rw (
      eqb-true f.index_a g.index_a two.0,
      eqb-true f.index_b g.index_b two.1,
      eqb-true f.type_a g.type_a three.1,
      eqb-true f.type_b g.type_b four.1,
    ) refl in
    made

pub id_is_itself : (id : B2contactId) → same_id id id ≡ true
unfolding same_id
id_is_itself id =
    simp (
      eq-eqb id.cf.index_a id.cf.index_a refl,
      eq-eqb id.cf.index_b id.cf.index_b refl,
      eq-eqb id.cf.type_a id.cf.type_a refl,
      eq-eqb id.cf.type_b id.cf.type_b refl,
    )
