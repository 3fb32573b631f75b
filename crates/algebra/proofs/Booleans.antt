-- Booleans as tests: two tests that hold of the same are one, a conjunction, a disjunction, the two ways of `cond`, the
-- two cases of a Boolean, and what a test decides; and of two naturals the one is below the other or is not. Assumes
-- nothing.
use mathlib.Core.Path.{◌≡◌, refl, sym, ap, subst, ◌∙◌}
use mathlib.Core.Bool.{Bool, true, false, cond, ◌&&◌, ◌||◌, false≢true}
use mathlib.Core.Logic.{◌⊎◌, inl, inr}
use Prim.Native.Nat.{ℕ, ◌≤◌, ◌<◌}
use native.Mathlib.Decide.{dec_lt}
use native.Mathlib.Omega.{arith}
use lib.Dec.{T}

-- tests that hold of the same
pub bool_iff : (a b : Bool) → (T a → T b) → (T b → T a) → a ≡ b
bool_iff true true f g = refl
bool_iff false false f g = refl
bool_iff true false f g = absurd (f tt)
bool_iff false true f g = absurd (g tt)

pub both : (s t : Bool) → s && t ≡ true → (s ≡ true) × (t ≡ true)
both true true e = (refl, refl)
both true false e = absurd (false≢true e)
both false t e = absurd (false≢true e)

pub or_left : (a b : Bool) → T a → T (a || b)
or_left true b h = tt
or_left false b h = absurd h

pub or_right : (a b : Bool) → T b → T (a || b)
or_right true b h = tt
or_right false b h = h

pub or_fails : (a b : Bool) → (a || b) ≡ false → (a ≡ false) × (b ≡ false)
or_fails false b h = (refl, h)
or_fails true b h = absurd (subst T h tt)

pub or_holds : (a b : Bool) → (a || b) ≡ true → (a ≡ true) ⊎ (b ≡ true)
or_holds true b h = inl refl
or_holds false b h = inr h

-- ---- choices
pub by_test : {P : Type 0} (test : Bool) → (test ≡ true → P) → (test ≡ false → P) → P
by_test true holds fails = holds refl
by_test false holds fails = fails refl

pub cond_yes : {A : Type 0} (t : Bool) (a b : A) → T t → cond t a b ≡ a
cond_yes true a b h = refl
cond_yes false a b h = absurd h

pub cond_no : {A : Type 0} (t : Bool) (a b : A) → (T t → ⊥) → cond t a b ≡ b
cond_no true a b h = absurd (h tt)
cond_no false a b h = refl

-- from a Boolean r that is the test t
module _ {A : Type 0} (t r : Bool) (a b : A) where
  pub chosen : r ≡ true → r ≡ t → a ≡ cond t a b
  chosen holds r_is = ap (λ (u : Bool). cond u a b) (sym holds ∙ r_is)

  pub unchosen : r ≡ false → r ≡ t → b ≡ cond t a b
  unchosen fails r_is = ap (λ (u : Bool). cond u a b) (sym fails ∙ r_is)

-- ---- a test that holds exactly where P does
pub record Decides (test : Bool) (P : Type 0) : Type 0 where
  pub holds : test ≡ true → P
  pub fails : test ≡ false → ¬ P

pub decides_same : {t : Bool} {P Q : Type 0} → (P → Q) → (Q → P) → Decides t P → Decides t Q
decides_same f g d = record { holds = λ e. f (d.holds e); fails = λ e q. d.fails e (g q) }

pub decides_as : {s t : Bool} {P : Type 0} → s ≡ t → Decides t P → Decides s P
decides_as e d = record { holds = λ h. d.holds (sym e ∙ h); fails = λ h. d.fails (sym e ∙ h) }

pub decides_both : {P Q : Type 0} (s t : Bool) → Decides s P → Decides t Q → Decides (s && t) (P × Q)
decides_both true t p q = record { holds = λ e. (p.holds refl, q.holds e); fails = λ e h. q.fails e h.1 }
decides_both false t p q = record { holds = λ e. absurd (false≢true e); fails = λ e h. p.fails refl h.0 }

-- ---- naturals
pub less_or_not : (m n : ℕ) → (m < n) ⊎ (n ≤ m)
less_or_not m n = elim (dec_lt m n) [ yes below ↦ inl below | no not_below ↦ inr (omega arith) ]

pub not_lt : (m n : ℕ) → (m < n → ⊥) → n ≤ m
not_lt m n h = elim (dec_lt m n) [ yes below ↦ absurd (h below) | no not_below ↦ omega arith ]

pub not_le : (m n : ℕ) → (m ≤ n → ⊥) → n < m
not_le m n h = elim (dec_lt n m) [ yes below ↦ below | no not_below ↦ absurd (h (omega arith)) ]
