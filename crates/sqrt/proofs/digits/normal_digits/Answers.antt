-- `normal_digits` meets its contract: what the code takes the root of, and the exponent of its result, are those of
-- f * 2^(g - 277), f being the significand and g the exponent and 127. Assumes nothing.
use Rattle.std.proofs.Common.{◌≡◌, ℕ, ◌+◌, ◌-◌, ◌*◌, ◌/◌, ◌%◌, ◌^◌, ◌<◌, ◌≤◌, sym, ap, ◌∙◌, subst, arith}
use Rattle.sqrt.specs.Root.{NearestRoot, DigitsOf}
use Rattle.sqrt.proofs.RootPattern.{widened}
use Rattle.sqrt.proofs.RootDigits.{significand, scale, normal_digits_of}
use Rattle.sqrt.proofs.digits.normal_digits.Goals as goal

-- the last 24 digits of the pattern above which the code has g - 2
abbrev last_digits : ℕ → ℕ
last_digits b = (b + 125 * 2 ^ 23) % 2 ^ 24

-- the code's n
abbrev number : ℕ → ℕ
number u = (u % 2 ^ 23 + 2 ^ 23) * 2 ^ 23 * (u / 2 ^ 23 + 1)

first_digit : (s : ℕ) → s % 2 ^ 24 / 2 ^ 23 ≡ s / 2 ^ 23 % 2
first_digit s = omega arith

same_parity : (e : ℕ) → (e + 125) % 2 ≡ (e + 127) % 2
same_parity e = omega arith

number_widened : (b : ℕ) → number (last_digits b) ≡ widened (significand b) (scale b)
number_widened b =
    let digits : last_digits b % 2 ^ 23 ≡ b % 2 ^ 23 = omega arith in
    let moved : (b + 125 * 2 ^ 23) / 2 ^ 23 ≡ b / 2 ^ 23 + 125 = omega arith in
    let parity : last_digits b / 2 ^ 23 ≡ scale b % 2 =
    first_digit (b + 125 * 2 ^ 23) ∙ ap (λ (x : ℕ). x % 2) moved ∙ same_parity (b / 2 ^ 23) in
    ap (λ (x : ℕ). (x + 2 ^ 23) * 2 ^ 23 * (last_digits b / 2 ^ 23 + 1)) digits
    ∙ ap (λ (x : ℕ). significand b * 2 ^ 23 * (x + 1)) parity

-- k is the exponent that the code gives its result
found : (b n k r : ℕ) → 2 ^ 23 ≤ b → b < 255 * 2 ^ 23 → n ≡ number (last_digits b) → k ≡ scale b / 2 - 1
    → NearestRoot n r → DigitsOf b n r k
found b n k r b_low b_high n_is k_is r_nearest =
    let same : widened (significand b) (scale b) ≡ n = sym (n_is ∙ number_widened b) in
    let nearest : NearestRoot (widened (significand b) (scale b)) r =
    subst (λ (m : ℕ). NearestRoot m r) (sym same) r_nearest in
    subst (λ (e : ℕ). DigitsOf b n r e) (sym k_is)
    (subst (λ (m : ℕ). DigitsOf b m r (scale b / 2 - 1)) same (normal_digits_of b r b_low b_high nearest))

pub returns : goal.returns
returns c =
    found c.args.b c.of-radicand.result.n _ c.nearest_root.result (omega arith)
    (omega arith)
    c.of-radicand.ensures
    (omega arith)
    c.nearest_root.ensures
