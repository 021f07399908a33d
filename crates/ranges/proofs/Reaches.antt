-- How far ranges reach: of a list, from what its first range makes of it; and what an answer against a limit says.
use Prim.Native.Nat.{ℕ}
use mathlib.Core.Path.{◌≡◌, refl}
use mathlib.Core.List.{List, [], ◌∷◌}
use Rattle.rules.specs.declared.Range.{Range}
use Rattle.rules.specs.Ranges.{reach}
use Rattle.rules.proofs.Positions.{reach_old}
use Rattle.ranges.specs.Reached.{lifted}

pub reach_next : (n : ℕ) (g : Range) (gs : List Range) → reach n (g ∷ gs) ≡ reach (lifted n g) gs
unfolding reach lifted
reach_next n g gs = refl

pub reach_none : (n : ℕ) → reach n [] ≡ n
unfolding reach
reach_none n = refl

-- what `ranges::reach_in` meets its contract by
pub ruleset reaching = (reach_next, reach_none, reach_old)
