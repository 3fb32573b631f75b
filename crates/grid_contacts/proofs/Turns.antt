-- Quarter turns of whole points: a turn keeps equality by value, sizes, multiples and dot products; the reversed turn
-- undoes it; a turn after another is a quarter turn again. Assumes nothing.
use Prim.Native.Nat.{ℕ}
use native.Mathlib.Omega.{arith}
use Rattle.algebra.specs.Integer.{whole, ◌⊛◌, ◌≐◌}
use Rattle.algebra.specs.Plane.{Point, SameVector, PointAbs, sum_of, from_to, dot}
use Rattle.algebra.proofs.Plane.{vector_trans}
use Rattle.grid_contacts.specs.Placement.{QuarterTurn, unturned, to_left, about, to_right, sine, cosine, turned}

-- ---- one turn
pub turned_same : (turn : QuarterTurn) (p q : Point) → SameVector p q → SameVector (turned turn p) (turned turn q)
turned_same unturned p q h = (omega arith, omega arith)
turned_same to_left p q h = (omega arith, omega arith)
turned_same about p q h = (omega arith, omega arith)
turned_same to_right p q h = (omega arith, omega arith)

pub turned_abs : (turn : QuarterTurn) (p : Point) (n : ℕ) → PointAbs p n → PointAbs (turned turn p) n
turned_abs unturned p n h = (omega arith, omega arith)
turned_abs to_left p n h = (omega arith, omega arith)
turned_abs about p n h = (omega arith, omega arith)
turned_abs to_right p n h = (omega arith, omega arith)

pub turned_dot : (turn : QuarterTurn) (p q : Point) → dot p q ≐ dot (turned turn p) (turned turn q)
turned_dot unturned p q = omega arith
turned_dot to_left p q = omega arith
turned_dot about p q = omega arith
turned_dot to_right p q = omega arith

-- p is m / n of k
abbrev pub Multiple : ℕ → ℕ → Point → Point → Type 0
Multiple n m p k = (n ⊛ p.x ≐ m ⊛ k.x) × (n ⊛ p.y ≐ m ⊛ k.y)

pub turned_multiple : (turn : QuarterTurn) (n m : ℕ) (p k : Point) → Multiple n m p k
    → Multiple n m (turned turn p) (turned turn k)
turned_multiple unturned n m p k h = (omega arith, omega arith)
turned_multiple to_left n m p k h = (omega arith, omega arith)
turned_multiple about n m p k h = (omega arith, omega arith)
turned_multiple to_right n m p k h = (omega arith, omega arith)

pub turned_sum : (turn : QuarterTurn) (p q : Point)
    → SameVector (turned turn (sum_of p q)) (sum_of (turned turn p) (turned turn q))
turned_sum turn p q = (omega arith, omega arith)

pub turned_from_to : (turn : QuarterTurn) (p q : Point)
    → SameVector (turned turn (from_to p q)) (from_to (turned turn p) (turned turn q))
turned_from_to turn p q = (omega arith, omega arith)

-- ---- the turn back
abbrev pub reversed : QuarterTurn → QuarterTurn
reversed unturned = unturned
reversed to_left = to_right
reversed about = about
reversed to_right = to_left

pub turn_undone : (turn : QuarterTurn) (p : Point) → SameVector (turned turn (turned (reversed turn) p)) p
turn_undone unturned p = (omega arith, omega arith)
turn_undone to_left p = (omega arith, omega arith)
turn_undone about p = (omega arith, omega arith)
turn_undone to_right p = (omega arith, omega arith)

-- ---- a turn and one more to the left; a turn after another
abbrev left_of : QuarterTurn → QuarterTurn
left_of unturned = to_left
left_of to_left = about
left_of about = to_right
left_of to_right = unturned

abbrev pub after : QuarterTurn → QuarterTurn → QuarterTurn
after unturned turn = turn
after to_left turn = left_of turn
after about turn = left_of (left_of turn)
after to_right turn = left_of (left_of (left_of turn))

turned_left : (turn : QuarterTurn) (p : Point) → SameVector (turned (left_of turn) p) (turned to_left (turned turn p))
turned_left unturned p = (omega arith, omega arith)
turned_left to_left p = (omega arith, omega arith)
turned_left about p = (omega arith, omega arith)
turned_left to_right p = (omega arith, omega arith)

pub turned_after : (later turn : QuarterTurn) (p : Point)
    → SameVector (turned (after later turn) p) (turned later (turned turn p))
turned_after unturned turn p = (omega arith, omega arith)
turned_after to_left turn p = turned_left turn p
turned_after about unturned p = (omega arith, omega arith)
turned_after about to_left p = (omega arith, omega arith)
turned_after about about p = (omega arith, omega arith)
turned_after about to_right p = (omega arith, omega arith)
turned_after to_right unturned p = (omega arith, omega arith)
turned_after to_right to_left p = (omega arith, omega arith)
turned_after to_right about p = (omega arith, omega arith)
turned_after to_right to_right p = (omega arith, omega arith)

-- a turn as the direction that (1, 0) gets
abbrev pub direction : QuarterTurn → Point
direction turn = record { x = cosine turn; y = sine turn }

pub direction_after : (later turn : QuarterTurn)
    → SameVector (direction (after later turn)) (turned later (direction turn))
direction_after later turn =
    let one : Point = record { x = whole 1; y = whole 0 } in
    vector_trans (direction (after later turn)) (turned (after later turn) one) (turned later (direction turn))
    (of_one (after later turn))
    (vector_trans (turned (after later turn) one) (turned later (turned turn one)) (turned later (direction turn))
    (turned_after later turn one) (turned_same later (turned turn one) (direction turn) (to_direction turn)))
  where
    of_one : (turn : QuarterTurn) → SameVector (direction turn) (turned turn (record { x = whole 1; y = whole 0 }))
    of_one turn = (omega arith, omega arith)

    to_direction : (turn : QuarterTurn)
        → SameVector (turned turn (record { x = whole 1; y = whole 0 })) (direction turn)
    to_direction turn = (omega arith, omega arith)
