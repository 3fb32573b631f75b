-- Polynomial expressions over signed whole numbers, their value in an environment, and a normal form: a sum of terms,
-- each a coefficient and a sorted list of variables. `SamePolynomial x y` is the computed test that the normal form of
-- x - y has only zero coefficients; proofs/Ring shows that x and y then have the same value in every environment.
-- Definitions only.
use Rattle.std.specs.Prelude.{List, [], ◌∷◌, Bool, true, ◌&&◌, T, eqb, get_or}
use Prim.Native.Nat.{ℕ, compare, Ordering}
use native.Mathlib.Omega.{join}
use Rattle.algebra.specs.Integer.{Z, whole, ◌⊞◌, ◌⊟◌, ◌⊠◌, opp}

infixl 65 ◌:+◌ ◌:-◌
infixl 70 ◌:*◌
-- var i is the environment's number at place i, and 0 past its end
pub data Expr : Type 0 where
  var : ℕ → Expr
  num : ℕ → Expr
  neg : Expr → Expr
  ◌:+◌ : Expr → Expr → Expr
  ◌:-◌ : Expr → Expr → Expr
  ◌:*◌ : Expr → Expr → Expr

abbrev pub value : Expr → List Z → Z
value (var i) env = get_or env i (whole 0)
value (num n) env = whole n
value (neg x) env = opp (value x env)
value (x :+ y) env = value x env ⊞ value y env
value (x :- y) env = value x env ⊟ value y env
value (x :* y) env = value x env ⊠ value y env

-- ---- the normal form
abbrev pub Monomial : Type 0
Monomial = List ℕ

pub data Polynomial : Type 0 where
  none : Polynomial
  term : Z → Monomial → Polynomial → Polynomial

-- monomials in the order of their variables
abbrev pub first_unless_equal : Ordering → Ordering → Ordering
first_unless_equal Ordering.lt o = Ordering.lt
first_unless_equal Ordering.eq o = o
first_unless_equal Ordering.gt o = Ordering.gt

abbrev pub order : Monomial → Monomial → Ordering
order [] [] = Ordering.eq
order [] (j ∷ n) = Ordering.lt
order (i ∷ m) [] = Ordering.gt
order (i ∷ m) (j ∷ n) = first_unless_equal (compare i j) (order m n)

-- the term c m put before the term d n and the rest p, joined with it, or after it: q is p with c m put in
abbrev pub place : Ordering → Z → Monomial → Z → Monomial → Polynomial → Polynomial → Polynomial
place Ordering.lt c m d n p q = term c m (term d n p)
place Ordering.eq c m d n p q = term (c ⊞ d) n p
place Ordering.gt c m d n p q = term d n q

abbrev pub put : Z → Monomial → Polynomial → Polynomial
put c m none = term c m none
put c m (term d n p) = let q = put c m p in place (order m n) c m d n p q

abbrev pub plus : Polynomial → Polynomial → Polynomial
plus none q = q
plus (term c m p) q = put c m (plus p q)

abbrev pub minus : Polynomial → Polynomial → Polynomial
minus p none = p
minus p (term c m q) = put (opp c) m (minus p q)

-- c m p + q
abbrev pub scaled_plus : Z → Monomial → Polynomial → Polynomial → Polynomial
scaled_plus c m none q = q
scaled_plus c m (term d n p) q = put (c ⊠ d) (join m n) (scaled_plus c m p q)

abbrev pub times : Polynomial → Polynomial → Polynomial
times none q = none
times (term c m p) q = scaled_plus c m q (times p q)

abbrev pub normal_form : Expr → Polynomial
normal_form (var i) = term (whole 1) (i ∷ []) none
normal_form (num n) = term (whole n) [] none
normal_form (neg x) = minus none (normal_form x)
normal_form (x :+ y) = plus (normal_form x) (normal_form y)
normal_form (x :- y) = minus (normal_form x) (normal_form y)
normal_form (x :* y) = times (normal_form x) (normal_form y)

abbrev pub all_zero : Polynomial → Bool
all_zero none = true
all_zero (term c m p) = eqb c.0 c.1 && all_zero p

abbrev pub SamePolynomial : Expr → Expr → Type 0
SamePolynomial x y = T (all_zero (normal_form (x :- y)))
