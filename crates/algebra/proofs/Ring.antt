-- The normal form of a polynomial expression has the expression's value, so two expressions whose difference has only
-- zero coefficients are the same number in every environment: `ring x y env tt`. Assumes nothing.
use mathlib.Core.Path.{◌≡◌, refl, sym, ap₂, subst}
use mathlib.Core.List.{List, [], ◌∷◌}
use Prim.Native.Nat.{ℕ, compare, Ordering}
use native.Mathlib.Omega.{arith, pick, ins, join}
use lib.Dec.{T, compare_is_eq, eqb, eqb→eq}
use lib.Ieee.Fits.{and_l, and_r}
use Rattle.algebra.specs.Integer.{Z, whole, ◌⊞◌, ◌⊟◌, ◌⊠◌, opp, ◌≐◌}
use Rattle.algebra.specs.Polynomial.{
  Expr,
  var,
  num,
  neg,
  ◌:+◌,
  ◌:-◌,
  ◌:*◌,
  value,
  Monomial,
  Polynomial,
  none,
  term,
  first_unless_equal,
  order,
  place,
  put,
  plus,
  minus,
  scaled_plus,
  times,
  normal_form,
  all_zero,
  SamePolynomial,
}
use Rattle.algebra.proofs.Integer.{same_refl, same_trans, sum_same, difference_same}
use Rattle.algebra.proofs.Signs.{same_of_difference}
use Rattle.algebra.proofs.Products.{product_same, product_zero}

-- ---- laws of the ring, over numbers that stay shut
product_swap_in : (a b m m' : Z) → m' ≐ b ⊠ m → a ⊠ m' ≐ b ⊠ (a ⊠ m)
product_swap_in a b m m' e =
    same_trans (a ⊠ m') (a ⊠ (b ⊠ m)) (b ⊠ (a ⊠ m)) (product_same a a m' (b ⊠ m) (same_refl a) e) (omega arith)

product_assoc_in : (a b c l l' : Z) → l ≐ a ⊠ l' → l' ≐ b ⊠ c → l ≐ a ⊠ b ⊠ c
product_assoc_in a b c l l' e f =
    same_trans l (a ⊠ l') (a ⊠ b ⊠ c) e
    (same_trans (a ⊠ l') (a ⊠ (b ⊠ c)) (a ⊠ b ⊠ c) (product_same a a l' (b ⊠ c) (same_refl a) f) (omega arith))

product_assoc : (a b c : Z) → a ⊠ b ⊠ c ≐ a ⊠ (b ⊠ c)
product_assoc a b c = omega arith

product_assoc_back : (a b c : Z) → a ⊠ (b ⊠ c) ≐ a ⊠ b ⊠ c
product_assoc_back a b c = omega arith

product_left_comm : (a b c : Z) → a ⊠ (b ⊠ c) ≐ b ⊠ (a ⊠ c)
product_left_comm a b c = omega arith

product_regroup : (a b m n : Z) → a ⊠ b ⊠ (m ⊠ n) ≐ a ⊠ m ⊠ (b ⊠ n)
product_regroup a b m n =
    same_trans (a ⊠ b ⊠ (m ⊠ n)) (a ⊠ (b ⊠ (m ⊠ n))) (a ⊠ m ⊠ (b ⊠ n)) (product_assoc a b (m ⊠ n))
    (same_trans (a ⊠ (b ⊠ (m ⊠ n))) (a ⊠ (m ⊠ (b ⊠ n))) (a ⊠ m ⊠ (b ⊠ n))
    (product_same a a (b ⊠ (m ⊠ n)) (m ⊠ (b ⊠ n)) (same_refl a) (product_left_comm b m n))
    (product_assoc_back a m (b ⊠ n)))

one_product : (a : Z) → a ≐ whole 1 ⊠ a
one_product a = omega arith

one_term : (a : Z) → whole 1 ⊠ (a ⊠ whole 1) ⊞ whole 0 ≐ a
one_term a = omega arith

one_constant : (a : Z) → a ⊠ whole 1 ⊞ whole 0 ≐ a
one_constant a = omega arith

terms_joined : (c d m p : Z) → (c ⊞ d) ⊠ m ⊞ p ≐ c ⊠ m ⊞ (d ⊠ m ⊞ p)
terms_joined c d m p = omega arith

term_later : (q d c p : Z) → q ≐ c ⊞ p → d ⊞ q ≐ c ⊞ (d ⊞ p)
term_later q d c p e = omega arith

zero_sum : (a : Z) → a ≐ whole 0 ⊞ a
zero_sum a = omega arith

zero_difference : (a : Z) → a ≐ a ⊟ whole 0
zero_difference a = omega arith

zero_minus : (x p a : Z) → x ≐ whole 0 ⊟ p → p ≐ a → x ≐ opp a
zero_minus x p a e f = omega arith

sum_step : (x r c p q : Z) → x ≐ c ⊞ r → r ≐ p ⊞ q → x ≐ c ⊞ p ⊞ q
sum_step x r c p q e f = omega arith

difference_step : (x r c m p q : Z) → x ≐ opp c ⊠ m ⊞ r → r ≐ p ⊟ q → x ≐ p ⊟ (c ⊠ m ⊞ q)
difference_step x r c m p q e f = omega arith

product_zero_sum : (a q : Z) → q ≐ a ⊠ whole 0 ⊞ q
product_zero_sum a q = omega arith

product_spread : (x r a b p q : Z) → x ≐ a ⊠ b ⊞ r → r ≐ a ⊠ p ⊞ q → x ≐ a ⊠ (b ⊞ p) ⊞ q
product_spread x r a b p q e f = omega arith

zero_product : (q : Z) → whole 0 ≐ whole 0 ⊠ q
zero_product q = omega arith

product_step : (x r a p q : Z) → x ≐ a ⊠ q ⊞ r → r ≐ p ⊠ q → x ≐ (a ⊞ p) ⊠ q
product_step x r a p q e f = omega arith

zero_term : (c m p : Z) → c ≐ whole 0 → p ≐ whole 0 → c ⊠ m ⊞ p ≐ whole 0
zero_term c m p h k = omega (arith, product_zero c m h)

same_of_parts : (a : Z) → a.0 ≡ a.1 → a ≐ whole 0
same_of_parts a e = omega arith

-- ---- monomials that compare equal are equal
both_equal : (o o' : Ordering) → T (compare_is_eq (first_unless_equal o o')) → T (compare_is_eq o) × T (compare_is_eq o')
both_equal Ordering.lt o' h = absurd h
both_equal Ordering.eq o' h = (tt, h)
both_equal Ordering.gt o' h = absurd h

order_equal : (m n : Monomial) → T (compare_is_eq (order m n)) → m ≡ n
order_equal [] [] h = refl
order_equal [] (j ∷ n) h = absurd h
order_equal (i ∷ m) [] h = absurd h
order_equal (i ∷ m) (j ∷ n) h =
    let parts = both_equal (compare i j) (order m n) h in
    ap₂ ◌∷◌ (eqb→eq i j parts.0) (order_equal m n parts.1)

module _ (env : List Z) where
  -- ---- the value of a monomial and of a sum of terms
  abbrev product : Monomial → Z
  product [] = whole 1
  product (i ∷ m) = value (var i) env ⊠ product m

  abbrev total : Polynomial → Z
  total none = whole 0
  total (term c m p) = c ⊠ product m ⊞ total p

  product_pick : (o : Ordering) (m n : Monomial) (a : Z) → product m ≐ a → product n ≐ a → product (pick o m n) ≐ a
  product_pick Ordering.lt m n a h k = h
  product_pick Ordering.eq m n a h k = h
  product_pick Ordering.gt m n a h k = k

  product_ins : (i : ℕ) (m : Monomial) → product (ins i m) ≐ value (var i) env ⊠ product m
  product_ins i [] = same_refl (value (var i) env ⊠ whole 1)
  product_ins i (j ∷ m) =
      let a = value (var i) env in
      let b = value (var j) env in
      product_pick (compare i j) (i ∷ j ∷ m) (j ∷ ins i m) (a ⊠ (b ⊠ product m))
      (same_refl (a ⊠ (b ⊠ product m))) (product_swap_in b a (product m) (product (ins i m)) (product_ins i m))

  product_join : (m n : Monomial) → product (join m n) ≐ product m ⊠ product n
  product_join [] n = one_product (product n)
  product_join (i ∷ m) n =
      product_assoc_in (value (var i) env) (product m) (product n) (product (ins i (join m n))) (product (join m n))
      (product_ins i (join m n)) (product_join m n)

  -- ---- the operations on sums of terms
  total_place : (o : Ordering) (c : Z) (m : Monomial) (d : Z) (n : Monomial) (p q : Polynomial) → (T (compare_is_eq o) → m ≡ n)
      → total q ≐ c ⊠ product m ⊞ total p → total (place o c m d n p q) ≐ c ⊠ product m ⊞ (d ⊠ product n ⊞ total p)
  total_place Ordering.lt c m d n p q equal h = same_refl (c ⊠ product m ⊞ (d ⊠ product n ⊞ total p))
  total_place Ordering.eq c m d n p q equal h =
      subst (λ (l : Monomial). (c ⊞ d) ⊠ product n ⊞ total p ≐ c ⊠ product l ⊞ (d ⊠ product n ⊞ total p))
      (sym (equal tt))
      (terms_joined c d (product n) (total p))
  total_place Ordering.gt c m d n p q equal h = term_later (total q) (d ⊠ product n) (c ⊠ product m) (total p) h

  total_put : (c : Z) (m : Monomial) (p : Polynomial) → total (put c m p) ≐ c ⊠ product m ⊞ total p
  total_put c m none = same_refl (c ⊠ product m ⊞ whole 0)
  total_put c m (term d n p) = total_place (order m n) c m d n p (put c m p) (order_equal m n) (total_put c m p)

  total_plus : (p q : Polynomial) → total (plus p q) ≐ total p ⊞ total q
  total_plus none q = zero_sum (total q)
  total_plus (term c m p) q =
      sum_step (total (put c m (plus p q))) (total (plus p q)) (c ⊠ product m) (total p) (total q)
      (total_put c m (plus p q)) (total_plus p q)

  total_minus : (p q : Polynomial) → total (minus p q) ≐ total p ⊟ total q
  total_minus p none = zero_difference (total p)
  total_minus p (term c m q) =
      difference_step (total (put (opp c) m (minus p q))) (total (minus p q)) c (product m) (total p) (total q)
      (total_put (opp c) m (minus p q)) (total_minus p q)

  total_scaled_plus : (c : Z) (m : Monomial) (p q : Polynomial)
      → total (scaled_plus c m p q) ≐ c ⊠ product m ⊠ total p ⊞ total q
  total_scaled_plus c m none q = product_zero_sum (c ⊠ product m) (total q)
  total_scaled_plus c m (term d n p) q =
      let rest = scaled_plus c m p q in
      let whole_term = total (put (c ⊠ d) (join m n) rest) in
      let joined = product (join m n) in
      product_spread whole_term (total rest) (c ⊠ product m) (d ⊠ product n) (total p) (total q)
      (same_trans whole_term (c ⊠ d ⊠ joined ⊞ total rest) (c ⊠ product m ⊠ (d ⊠ product n) ⊞ total rest)
      (total_put (c ⊠ d) (join m n) rest)
      (sum_same (c ⊠ d ⊠ joined) (c ⊠ product m ⊠ (d ⊠ product n)) (total rest) (total rest)
      (same_trans (c ⊠ d ⊠ joined) (c ⊠ d ⊠ (product m ⊠ product n)) (c ⊠ product m ⊠ (d ⊠ product n))
      (product_same (c ⊠ d) (c ⊠ d) joined (product m ⊠ product n) (same_refl (c ⊠ d)) (product_join m n))
      (product_regroup c d (product m) (product n)))
      (same_refl (total rest))))
      (total_scaled_plus c m p q)

  total_times : (p q : Polynomial) → total (times p q) ≐ total p ⊠ total q
  total_times none q = zero_product (total q)
  total_times (term c m p) q =
      product_step (total (scaled_plus c m q (times p q))) (total (times p q)) (c ⊠ product m) (total p) (total q)
      (total_scaled_plus c m q (times p q)) (total_times p q)

  -- ---- the normal form keeps the value
  normal_form_value : (x : Expr) → total (normal_form x) ≐ value x env
  normal_form_value (var i) = one_term (value (var i) env)
  normal_form_value (num n) = one_constant (whole n)
  normal_form_value (neg x) =
      zero_minus (total (minus none (normal_form x))) (total (normal_form x)) (value x env)
      (total_minus none (normal_form x)) (normal_form_value x)
  normal_form_value (x :+ y) =
      same_trans (total (plus (normal_form x) (normal_form y))) (total (normal_form x) ⊞ total (normal_form y))
      (value x env ⊞ value y env)
      (total_plus (normal_form x) (normal_form y))
      (sum_same (total (normal_form x)) (value x env) (total (normal_form y)) (value y env) (normal_form_value x)
      (normal_form_value y))
  normal_form_value (x :- y) =
      same_trans (total (minus (normal_form x) (normal_form y))) (total (normal_form x) ⊟ total (normal_form y))
      (value x env ⊟ value y env)
      (total_minus (normal_form x) (normal_form y))
      (difference_same (total (normal_form x)) (value x env) (total (normal_form y)) (value y env)
      (normal_form_value x) (normal_form_value y))
  normal_form_value (x :* y) =
      same_trans (total (times (normal_form x) (normal_form y))) (total (normal_form x) ⊠ total (normal_form y))
      (value x env ⊠ value y env)
      (total_times (normal_form x) (normal_form y))
      (product_same (total (normal_form x)) (value x env) (total (normal_form y)) (value y env) (normal_form_value x)
      (normal_form_value y))

  all_zero_total : (p : Polynomial) → T (all_zero p) → total p ≐ whole 0
  all_zero_total none t = refl
  all_zero_total (term c m p) t =
      zero_term c (product m) (total p)
      (same_of_parts c (eqb→eq c.0 c.1 (and_l (eqb c.0 c.1) (all_zero p) t)))
      (all_zero_total p (and_r (eqb c.0 c.1) (all_zero p) t))

-- an identity of polynomials, by computation
pub ring : (x y : Expr) (env : List Z) → SamePolynomial x y → value x env ≐ value y env
ring x y env t =
    let difference = normal_form (x :- y) in
    same_of_difference (total env difference) (value x env) (value y env) (normal_form_value env (x :- y))
    (all_zero_total env difference t)
