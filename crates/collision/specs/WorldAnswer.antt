-- What a call that changes the world manifold of its caller answers: 0, or the number of the refusal, beside the record
-- that the caller has then. Definitions only.
use Rattle.std.specs.Prelude.{Result, Ok, Err}
use Rattle.shape_definitions.specs.declared.refusal.Refusal.{Refusal}
use Rattle.shape_definitions.specs.Refusal.{accepted, number_of}
use Rattle.contact_definitions.specs.declared.b2_collision.B2worldManifold.{B2worldManifold}
use Rattle.contact_definitions.specs.Answers.{WorldAnswer}

abbrev pub world_written : B2worldManifold → Result Unit Refusal → WorldAnswer
world_written world (Ok _) = record { world = world; refusal = accepted }
world_written world (Err why) = record { world = world; refusal = number_of why }
