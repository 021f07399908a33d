-- A list's ranges filled one after another.
use Prim.Native.Nat.{ℕ, ◌≤◌, ◌<◌, max}
use mathlib.Core.Logic.{⊎_elim}
use mathlib.Core.List.{List, ◌∷◌}
use native.Mathlib.Omega.{arith}
use lib.ListN.{length, take, drop, length-drop}
use Rattle.std.proofs.lemmas.List.{take_rest}
use borrow.Author.Tests.{ne_eqb}
use Rattle.rules.specs.declared.Range.{Range}
use Rattle.rules.specs.Ranges.{end, reach}
use Rattle.rules.proofs.Positions.{reach_old, reach_above, reach_least}

-- ranges reach no less far where something was there before
pub reach_from : (n : ℕ) (gs : List Range) → reach 0 gs ≤ reach n gs
reach_from n gs = ⊎_elim (λ none. omega arith) (λ top. omega (arith, reach_above n gs top.0 top.1, top.2)) (reach_least 0 gs)

module _ (g : Range) (gs : List Range) where
  pub reach_later : reach 0 gs ≤ reach 0 (g ∷ gs)
  unfolding reach
  reach_later = reach_from _ gs

  -- an empty range may start anywhere
  pub reach_here : 0 < g.size → end g ≤ reach 0 (g ∷ gs)
  unfolding reach
  reach_here full = rw (ne_eqb g.size 0 (omega arith)) (omega (arith, reach_old (max 0 (end g)) gs))

-- what `object::scatter_list` meets its contract by
pub ruleset scattering = (reach_later, reach_here, take_rest, length-drop)
