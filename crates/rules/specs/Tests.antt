-- A table of tests in the order tested: what it gives is what the first test that holds gives.
use Rattle.std.specs.Prelude.{Option, None, Some, Bool, cond, List, [], ◌∷◌}

pub record Test (X : Type 0) : Type 0 where
  pub holds : Bool
  pub gives : X

abbrev pub test : {X : Type 0} → X → Bool → Test X
test x b = record { holds = b; gives = x }

unfoldable pub first_of : {X : Type 0} → List (Test X) → Option X
first_of [] = None
first_of (t ∷ ts) = cond t.holds (Some t.gives) (first_of ts)
