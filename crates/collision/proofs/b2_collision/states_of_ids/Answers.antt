-- The four states. Assumes nothing.
use Rattle.contact_definitions.specs.PointStates.{ids_in, states_of_ids}
use Rattle.contact_definitions.specs.declared.b2_collision.B2pointState.TheVariants.{B2AddState, B2RemoveState}
use Rattle.collision.proofs.States.{first_state, second_state}
use Rattle.collision.proofs.b2_collision.states_of_ids.Goals as goal

pub returns : goal.returns
unfolding states_of_ids
returns c =
    let old = c.args.old in
    let new = c.args.new in
    simp (
      c.state_of-new1.ensures,
      c.state_of-new0.ensures,
      c.state_of-old1.ensures,
      c.state_of-old0.ensures,
      first_state B2RemoveState (ids_in new) old,
      second_state B2RemoveState (ids_in new) old,
      first_state B2AddState (ids_in old) new,
      second_state B2AddState (ids_in old) new,
    )
