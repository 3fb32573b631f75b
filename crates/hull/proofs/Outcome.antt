-- From the welded points back to the list: they are the same points, so the walk's outcome is the list's; a list
-- without three different points lies on one line. The number of corners allowed is a variable here, at least the
-- list's length. Assumes nothing.
use mathlib.Core.Path.{◌≡◌, refl, sym, ap, ◌∙◌, subst}
use mathlib.Core.List.Memᴰ
use mathlib.Core.List.{List, [], ◌∷◌, Memᴰ}
use mathlib.Core.Logic.{◌⊎◌, inl, inr}
use mathlib.Core.Option.{some}
use Prim.Native.Nat.{ℕ, ◌≤◌, ◌<◌}
use native.Mathlib.Omega.{arith}
use lib.ListN.{length}
use Rattle.algebra.specs.Integer.{whole, ◌≐◌}
use Rattle.algebra.specs.Plane.{Point, orient}
use Rattle.algebra.specs.Lists.{Once}
use Rattle.algebra.proofs.Plane.{orient_first_twice, orient_begin, orient_end}
use Rattle.algebra.proofs.Lists.{pigeonhole}
use Rattle.hull.specs.Hull.{ReducedPoint, AllReduced, Edge, Linked, IsHull, OnLine, ThreeDifferent}
use Rattle.algebra.specs.Loops.{weld}
use Rattle.hull.specs.Outline.{same_point, Reason, too_few, not_closed, corners, refusal, closed, wrapped}
use Rattle.hull.specs.Outline.{outline_within, AcceptedWithin}
use Rattle.hull.specs.Outline.{TurnedDownWithin}
use Rattle.hull.proofs.Points.{same_point_eq, same_point_own, point_discrete}
use Rattle.algebra.proofs.Weld.{weld_length, weld_within, weld_once, weld_all}
use Rattle.hull.proofs.Wrap.{Wrapped, Folded, wrap_outcome}

-- ---- the same points, the same facts
module _ (s t : List Point) (to : (r : Point) → Memᴰ r s → Memᴰ r t) where
  line_of_more : OnLine t → OnLine s
  line_of_more line a b c a_in b_in c_in = line a b c (to a a_in) (to b b_in) (to c c_in)

  three_of_fewer : ThreeDifferent s → ThreeDifferent t
  three_of_fewer h = record {
    a = h.a;
    b = h.b;
    c = h.c;
    a_in = to h.a h.a_in;
    b_in = to h.b h.b_in;
    c_in = to h.c h.c_in;
    a_not_b = h.a_not_b;
    a_not_c = h.a_not_c;
    b_not_c = h.b_not_c;
  }

  linked_of_more : (end : Point) (row : List Point) (p : Point) → Linked (Edge t) end p row → Linked (Edge s) end p row
  linked_of_more end [] p edge = λ r m. edge r (to r m)
  linked_of_more end (q ∷ row) p edges = (λ r m. edges.0 r (to r m), linked_of_more end row q edges.1)

  hull_of_same : ((r : Point) → Memᴰ r t → Memᴰ r s) → (p : Point) (rest : List Point) → IsHull t p rest
      → IsHull s p rest
  hull_of_same from p rest hull = record {
    within = λ q m. from q (hull.within q m);
    once = hull.once;
    three = hull.three;
    first = λ r m. hull.first r (to r m);
    edges = linked_of_more p rest p hull.edges;
  }

-- ---- three different points are three places
members : (s : List Point) (a b c : Point) → Memᴰ a s → Memᴰ b s → Memᴰ c s → (r : Point)
    → Memᴰ r (a ∷ b ∷ c ∷ []) → Memᴰ r s
members s a b c a_in b_in c_in r m = is_a (Memᴰ.cases_cons m)
  where
    is_c : (r ≡ c) ⊎ Memᴰ r [] → Memᴰ r s
    is_c (inl e) = Memᴰ.cast e c_in
    is_c (inr k) = absurd (Memᴰ.not-nil k)

    is_b : (r ≡ b) ⊎ Memᴰ r (c ∷ []) → Memᴰ r s
    is_b (inl e) = Memᴰ.cast e b_in
    is_b (inr k) = is_c (Memᴰ.cases_cons k)

    is_a : (r ≡ a) ⊎ Memᴰ r (b ∷ c ∷ []) → Memᴰ r s
    is_a (inl e) = Memᴰ.cast e a_in
    is_a (inr k) = is_b (Memᴰ.cases_cons k)

three_once : (a b c : Point) → ¬ (a ≡ b) → ¬ (a ≡ c) → ¬ (b ≡ c) → Once (a ∷ b ∷ c ∷ [])
three_once a b c ab ac bc =
    (λ m. a_new (Memᴰ.cases_cons m), (λ m. b_new (Memᴰ.cases_cons m), (Memᴰ.not-nil, tt)))
  where
    only : {r : Point} → ¬ (r ≡ c) → (r ≡ c) ⊎ Memᴰ r [] → ⊥
    only n (inl e) = n e
    only n (inr k) = Memᴰ.not-nil k

    a_new : (a ≡ b) ⊎ Memᴰ a (c ∷ []) → ⊥
    a_new (inl e) = ab e
    a_new (inr k) = only ac (Memᴰ.cases_cons k)

    b_new : (b ≡ c) ⊎ Memᴰ b [] → ⊥
    b_new k = only bc k

not_three : (s : List Point) → length s < 3 → ¬ ThreeDifferent s
not_three s short h = omega (
  arith,
  pigeonhole (h.a ∷ h.b ∷ h.c ∷ []) s
      (three_once h.a h.b h.c h.a_not_b h.a_not_c h.b_not_c)
      (members s h.a h.b h.c h.a_in h.b_in h.c_in),
)

-- ---- without three different points: on one line
pub line_of_not_three : (s : List Point) → ¬ ThreeDifferent s → OnLine s
line_of_not_three s none a b c a_in b_in c_in = go (point_discrete b a) (point_discrete c a) (point_discrete c b)
  where
    go : Dec (b ≡ a) → Dec (c ≡ a) → Dec (c ≡ b) → orient a b c ≐ whole 0
    go (yes e) k l = rw e (orient_first_twice a c)
    go (no n) (yes e) l = rw e (orient_begin a b)
    go (no n) (no k) (yes e) = rw e (orient_end a b)
    go (no n) (no k) (no l) = absurd (none (record {
      a = a;
      b = b;
      c = c;
      a_in = a_in;
      b_in = b_in;
      c_in = c_in;
      a_not_b = λ e. n (sym e);
      a_not_c = λ e. k (sym e);
      b_not_c = λ e. l (sym e);
    }))

-- ---- the two outcomes
closed_long : (p : Point) (rest : List Point) → 3 ≤ length (p ∷ rest) → closed (some (p ∷ rest)) ≡ corners (p ∷ rest)
closed_long p [] three = absurd (omega arith)
closed_long p (q ∷ []) three = absurd (omega arith)
closed_long p (q ∷ r ∷ rest) three = refl

module _ (fuel : ℕ) (l : List Point) (reduced : AllReduced l) (enough : length l ≤ fuel) where
  abbrev Outcome : List Point → Type 0
  Outcome kept =
      (OnLine l × (((¬ ThreeDifferent l) × (wrapped fuel kept ≡ refusal too_few)) ⊎
      (ThreeDifferent l × (wrapped fuel kept ≡ refusal not_closed))))
      ⊎ ((¬ OnLine l) × ((p : Point) × (rest : List Point) ×
      (wrapped fuel kept ≡ corners (p ∷ rest)) × IsHull l p rest))

  few : (kept : List Point) → ((r : Point) → Memᴰ r l → Memᴰ r kept) → length kept < 3
      → wrapped fuel kept ≡ refusal too_few → Outcome kept
  few kept to short is =
      let none : ¬ ThreeDifferent l = λ h. not_three kept short (three_of_fewer l kept to h) in
      inl (line_of_not_three l none, inl (none, is))

  of_kept : (kept : List Point) → ((r : Point) → Memᴰ r l → Memᴰ r kept)
      → ((r : Point) → Memᴰ r kept → Memᴰ r l) → Once kept
      → length kept ≤ fuel → Outcome kept
  of_kept [] to from once fits = few [] to (omega arith) refl
  of_kept (a ∷ []) to from once fits = few (a ∷ []) to (omega arith) refl
  of_kept (a ∷ b ∷ []) to from once fits = few (a ∷ b ∷ []) to (omega arith) refl
  of_kept (a ∷ b ∷ c ∷ kept) to from once fits =
      go (wrap_outcome a b (c ∷ kept) (λ r m. reduced r (from r m)) once fuel fits)
    where
      three : ThreeDifferent l
      three = record {
        a = a;
        b = b;
        c = c;
        a_in = from a (Memᴰ.head refl);
        b_in = from b (Memᴰ.tail (Memᴰ.head refl));
        c_in = from c (Memᴰ.tail (Memᴰ.tail (Memᴰ.head refl)));
        a_not_b = λ e. once.0 (Memᴰ.head e);
        a_not_c = λ e. once.0 (Memᴰ.tail (Memᴰ.head e));
        b_not_c = λ e. once.1.0 (Memᴰ.head e);
      }

      go : (OnLine (a ∷ b ∷ c ∷ kept) × Folded fuel a (b ∷ c ∷ kept)) ⊎
          ((¬ OnLine (a ∷ b ∷ c ∷ kept)) × Wrapped fuel a (b ∷ c ∷ kept))
          → Outcome (a ∷ b ∷ c ∷ kept)
      go (inl h) = inl (line_of_more l (a ∷ b ∷ c ∷ kept) to h.0, inr (three, ap closed h.1.is))
      go (inr h) = inr (
        (λ line. h.0 (line_of_more (a ∷ b ∷ c ∷ kept) l from line)),
        (
          h.1.first,
          h.1.rest,
          ap closed h.1.is ∙ closed_long h.1.first h.1.rest h.1.hull.three,
          hull_of_same l (a ∷ b ∷ c ∷ kept) to from h.1.first h.1.rest h.1.hull,
        ),
      )

  pub outcome_within : (OnLine l × TurnedDownWithin fuel l) ⊎ ((¬ OnLine l) × AcceptedWithin fuel l)
  outcome_within = go (of_kept kept to from once fits)
    where
      kept : List Point
      kept = weld same_point [] l

      to : (r : Point) → Memᴰ r l → Memᴰ r (weld same_point [] l)
      to r m =
          weld_all same_point ReducedPoint same_point_eq l [] r (λ k n. absurd (Memᴰ.not-nil n)) reduced (inr m)

      from : (r : Point) → Memᴰ r (weld same_point [] l) → Memᴰ r l
      from r m = of (weld_within same_point l [] r m)
        where
          of : Memᴰ r [] ⊎ Memᴰ r l → Memᴰ r l
          of (inl k) = absurd (Memᴰ.not-nil k)
          of (inr k) = k

      once : Once (weld same_point [] l)
      once = weld_once same_point same_point_own l [] tt

      fits : length (weld same_point [] l) ≤ fuel
      fits = omega (arith, weld_length same_point l [])

      go : Outcome (weld same_point [] l)
          → (OnLine l × TurnedDownWithin fuel l) ⊎ ((¬ OnLine l) × AcceptedWithin fuel l)
      go (inl h) = inl h
      go (inr h) = inr (h.0, record { first = h.1.0; rest = h.1.1; is = h.1.2; hull = h.1.3 })

-- ---- the answer alone tells
pub no_row_turned_down : (fuel : ℕ) (l row : List Point) → TurnedDownWithin fuel l
    → outline_within fuel l ≡ corners row → ⊥
no_row_turned_down fuel l row (inl h) is = clash too_few h.1
  where
    clash : (n : Reason) → outline_within fuel l ≡ refusal n → ⊥
    clash n refused = let z : ◌≡◌ {A = ℕ} 0 1 = cc in omega arith
no_row_turned_down fuel l row (inr h) is = clash not_closed h.1
  where
    clash : (n : Reason) → outline_within fuel l ≡ refusal n → ⊥
    clash n refused = let z : ◌≡◌ {A = ℕ} 0 1 = cc in omega arith

pub row_is_hull : (fuel : ℕ) (l : List Point) (p : Point) (rest : List Point) → AcceptedWithin fuel l
    → outline_within fuel l ≡ corners (p ∷ rest)
    → IsHull l p rest
row_is_hull fuel l p rest a is =
    let first_same : a.first ≡ p = cc in
    let rest_same : a.rest ≡ rest = cc in
    subst (λ (q : Point). IsHull l q rest) first_same (subst (λ (row : List Point). IsHull l a.first row) rest_same
    a.hull)
