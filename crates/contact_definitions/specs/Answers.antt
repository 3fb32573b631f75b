-- What a contact call answers: 0 and what it made, or the number of the refusal and what it was given. The code has a
-- Result; each of the last four definitions says what that means. Definitions only.
use Rattle.std.specs.Prelude.{ℕ, List, Result}
use Rattle.shape_definitions.specs.declared.refusal.Refusal.{Refusal}
use Rattle.shape_definitions.specs.Refusal.{refusal_number, made_or}
use Rattle.contact_definitions.specs.declared.b2_collision.B2clipVertex.{B2clipVertex}
use Rattle.contact_definitions.specs.declared.b2_collision.B2manifold.{B2manifold}
use Rattle.contact_definitions.specs.declared.b2_collision.B2worldManifold.{B2worldManifold}
use Rattle.contact_definitions.specs.declared.b2_collision.Clip.{Clip}
use Rattle.contact_definitions.specs.declared.b2_collision.PointStates.{PointStates}

pub record ManifoldAnswer : Type 0 where
  pub manifold : B2manifold
  pub refusal : ℕ

-- of a clip: the output places, and the number of points there, 0 where it is refused
pub record ClipAnswer : Type 0 where
  pub points : List B2clipVertex
  pub count : ℕ
  pub refusal : ℕ

pub record WorldAnswer : Type 0 where
  pub world : B2worldManifold
  pub refusal : ℕ

pub record PointStatesAnswer : Type 0 where
  pub states : PointStates
  pub refusal : ℕ

abbrev pub manifold_answered : B2manifold → Result B2manifold Refusal → ManifoldAnswer
manifold_answered old result = record { manifold = made_or old result; refusal = refusal_number result }

abbrev pub clip_answered : List B2clipVertex → Result Clip Refusal → ClipAnswer
clip_answered old result =
    let left = made_or (record { out = old; count = 0 }) result in
    record { points = left.out; count = left.count; refusal = refusal_number result }

abbrev pub world_answered : B2worldManifold → Result B2worldManifold Refusal → WorldAnswer
world_answered old result = record { world = made_or old result; refusal = refusal_number result }

abbrev pub states_answered : PointStates → Result PointStates Refusal → PointStatesAnswer
states_answered given result = record { states = made_or given result; refusal = refusal_number result }
