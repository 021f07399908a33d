-- A range and what a capability allows, test by test, from the numbers that were read of it.
use mathlib.Core.Path.{◌≡◌, refl, ap, ◌∙◌}
use mathlib.Core.Bool.{Bool}
use Rattle.rules.specs.declared.Range.{Range}
use Rattle.rules.specs.Bytes.{Bytes}
use Rattle.rules.specs.Capability.{bound, inside}
use Rattle.capability.specs.Allowance.{allowance, inside_of}

module _ (k : Bytes) where
  -- inside a capability is inside what it allows
  pub inside_is : (g : Range) → inside_of g (allowance k) ≡ inside g k
  unfolding inside inside_of bound allowance
  inside_is g = refl

  pub inside_told : (g w : Range) → w ≡ allowance k → (t : Bool) → t ≡ inside_of g w → t ≡ inside g k
  inside_told g w e t q = q ∙ ap (λ (x : Range). inside_of g x) e ∙ inside_is g
