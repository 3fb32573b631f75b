-- The first four faces side by side (proofs/FirstFour), then a face at a time (proofs/FarthestSide). Assumes nothing.
use mathlib.Core.Path.{refl, sym, subst}
use Prim.Native.Nat.{◌+◌}
use Rattle.contact_definitions.specs.declared.axis.Best.{Best}
use Rattle.circle_contacts.proofs.FarthestSide.{SoFar, outside_at, side_taken, side_left, side_found}
use Rattle.circle_contacts.proofs.FirstFour.{one_outside, four_known}
use Rattle.circle_contacts.proofs.outline_meeting.circle_side.Goals as goal
use Rattle.circle_contacts.proofs.outline_meeting.circle_side.Goals.{then-s-separation, else-s-separation}

pub returns-then-some_above : goal.returns-then-some_above
returns-then-some_above c =
    one_outside _ _ _ _ _ (record {
      some = c.requires.0;
      few = c.requires.1;
      last_is = c.last_of_four-last.ensures;
      s0_is = c.out_of_face-s0.ensures;
      s1_is = c.out_of_face-s1.ensures;
      s2_is = c.out_of_face-s2.ensures;
      s3_is = c.out_of_face-s3.ensures;
    }) _ c.some_above.ensures c.if-some_above.true

pub loop-i-init : goal.loop-i-init
loop-i-init c =
    subst (λ (b : Best). SoFar c.args.vs c.args.ns c.args.count c.args.c c.args.radius b.place b.value
    (c.last_of_four-last.result + 1))
    (sym c.best_of_four-best.ensures)
    (four_known _ _ _ _ _ (record {
      some = c.requires.0;
      few = c.requires.1;
      last_is = c.last_of_four-last.ensures;
      s0_is = c.out_of_face-s0.ensures;
      s1_is = c.out_of_face-s1.ensures;
      s2_is = c.out_of_face-s2.ensures;
      s3_is = c.out_of_face-s3.ensures;
    }) c.well_formed.0.1.0.1 c.well_formed.1.0.1.0.1 _
    c.some_above.ensures c.if-some_above.false)

pub returns-then-s-radius : goal.returns-then-s-radius
returns-then-s-radius c =
    outside_at _ _ _ _ _ _ _ c.loop-i-test.true c.out_of_face-s.ensures c.if-s-radius.true

pub loop-i-preserved : goal.loop-i-preserved
loop-i-preserved c =
    elim c.if-s-separation.branch [
      | then-s-separation w ↦ rw (w.separation-is, w.index-is) (side_taken _ _ _ _ _ _ _ _ c.loop-i.invariant
          c.loop-i-test.true _ c.out_of_face-s.ensures c.if-s-radius.false w.if-s-separation.true)
      | else-s-separation w ↦ rw (w.separation-is, w.index-is) (side_left _ _ _ _ _ _ _ _ c.loop-i.invariant
          c.loop-i-test.true _ c.out_of_face-s.ensures c.if-s-radius.false w.if-s-separation.false)
    ]

pub returns : goal.returns
returns c =
    side_found _ _ _ _ _ _ _ _ _ _ _ _ _ c.loop-i.invariant c.loop-i-test.false c.after-next.ensures.0
    c.after-next.ensures.1 refl refl refl
