-- The one type of signed whole numbers of this project: `Z`, a pair of naturals that stands for its difference, z.0 -
-- z.1. Every operation and relation is an abbreviation, so that `omega arith` sees linear arithmetic over the
-- naturals. One number has many pairs: `≐` says that two pairs stand for the same number. Definitions only.
use Rattle.std.specs.Prelude.{◌≡◌, ◌⊎◌, Bool, true, false, ℕ, ◌+◌, ◌*◌, ◌≤◌, ◌<◌, ltb, eqb}

abbrev pub Z : Type 0
Z = ℕ × ℕ

infixl 65 ◌⊞◌ ◌⊟◌
infixl 70 ◌⊠◌
infixl 72 ◌⊛◌
infix 50 ◌≐◌ ◌≼◌ ◌≺◌ ◌≐?◌ ◌≺?◌
-- a natural number, as it is
abbrev pub whole : ℕ → Z
whole n = (n, 0)

-- n, negative where s is true
abbrev pub signed : Bool → ℕ → Z
signed true n = (0, n)
signed false n = (n, 0)

-- sum, difference, product, opposite
abbrev pub ◌⊞◌ : Z → Z → Z
a ⊞ b = (a.0 + b.0, a.1 + b.1)

abbrev pub ◌⊟◌ : Z → Z → Z
a ⊟ b = (a.0 + b.1, a.1 + b.0)

abbrev pub ◌⊠◌ : Z → Z → Z
a ⊠ b = (a.0 * b.0 + a.1 * b.1, a.0 * b.1 + a.1 * b.0)

abbrev pub opp : Z → Z
opp a = (a.1, a.0)

-- a natural multiple
abbrev pub ◌⊛◌ : ℕ → Z → Z
k ⊛ a = (k * a.0, k * a.1)

-- equal, at most, below
abbrev pub ◌≐◌ : Z → Z → Type 0
a ≐ b = a.0 + b.1 ≡ b.0 + a.1

abbrev pub ◌≼◌ : Z → Z → Type 0
a ≼ b = a.0 + b.1 ≤ b.0 + a.1

abbrev pub ◌≺◌ : Z → Z → Type 0
a ≺ b = a.0 + b.1 < b.0 + a.1

-- the same as tests
abbrev pub ◌≐?◌ : Z → Z → Bool
a ≐? b = eqb (a.0 + b.1) (b.0 + a.1)

abbrev pub ◌≺?◌ : Z → Z → Bool
a ≺? b = ltb (a.0 + b.1) (b.0 + a.1)

-- one part is 0: reduced pairs are equal where their numbers are
abbrev pub Reduced : Z → Type 0
Reduced a = (a.0 ≡ 0) ⊎ (a.1 ≡ 0)

-- |a| ≤ n
abbrev pub Abs : Z → ℕ → Type 0
Abs a n = (a.0 ≤ a.1 + n) × (a.1 ≤ a.0 + n)
