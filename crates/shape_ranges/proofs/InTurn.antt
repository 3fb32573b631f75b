-- Tests that are made one after the other answer as all of them joined. Assumes nothing.
use mathlib.Core.Path.{◌≡◌, sym, ◌∙◌, ap}
use mathlib.Core.Bool.{Bool, true, false, ◌&&◌}

-- t is the answer of the test that is to be t'
module _ (t t' rest : Bool) (same : t ≡ t') where
  pub first_fails : t ≡ false → false ≡ t' && rest
  first_fails fails = sym (ap (λ (b : Bool). b && rest) (sym same ∙ fails))

  pub first_holds : t ≡ true → rest ≡ t' && rest
  first_holds holds = sym (ap (λ (b : Bool). b && rest) (sym same ∙ holds))

pub fails_before : (t rest : Bool) → false ≡ t → false ≡ t && rest
fails_before t rest fails = ap (λ (b : Bool). b && rest) fails
