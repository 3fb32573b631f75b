-- What the scan keeps from here is what it keeps of all places; best is the value of the one kept. Assumes nothing.
use mathlib.Core.Path.{◌∙◌, ap}
use native.Mathlib.Omega.{arith}
use Rattle.floats.specs.B2Math.{b2_dot}
use Rattle.wall_contacts.proofs.Against.{against_begun, against_taken}
use Rattle.wall_contacts.proofs.Against.{against_left}
use Rattle.wall_contacts.proofs.edge_reference.most_against.Goals as goal
use Rattle.wall_contacts.proofs.edge_reference.most_against.Goals.{then-value-best, else-value-best}

pub loop-i-init : goal.loop-i-init
loop-i-init c =
    let n = c.args.n in (
      omega arith,
      λ corner rows. c.row_point-v.ensures corner _ (omega arith) rows,
      λ xf poly count_is normals. (
        c.b2_dot-best.ensures ∙ ap (b2_dot n) (c.row_point.ensures _ _ (omega arith) normals),
        against_begun xf poly n _ count_is,
      ),
    )

pub loop-i-preserved : goal.loop-i-preserved
loop-i-preserved c =
    let n = c.args.n in
    let i = c.loop-i.i in
    let inv = c.loop-i.invariant in
    elim c.if-value-best.branch [
      | then-value-best w ↦ rw (w.index-is, w.best-is, w.v-is) (
        omega arith,
        λ corner rows. w.row_point-v-then-value-best.ensures corner _ (omega arith) rows,
        λ xf poly count_is normals.
            let value_is = c.b2_dot-value.ensures
            ∙ ap (b2_dot n) (c.row_point-in-loop-i.ensures _ _ (omega arith) normals) in
            let kept = inv.2 xf poly count_is normals in
            (value_is, against_taken xf poly n _ i _ _ _ _ (omega arith) value_is kept.0 kept.1 w.if-value-best.true),
      )
      | else-value-best w ↦ rw (w.index-is, w.best-is, w.v-is) (
        inv.0,
        inv.1,
        λ xf poly count_is normals.
            let value_is = c.b2_dot-value.ensures
            ∙ ap (b2_dot n) (c.row_point-in-loop-i.ensures _ _ (omega arith) normals) in
            let kept = inv.2 xf poly count_is normals in
            (kept.0, against_left xf poly n _ i _ _ _ _ (omega arith) value_is kept.0 kept.1 w.if-value-best.false),
      )
    ]
