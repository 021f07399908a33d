-- A command with a list, and one without: what its ranges are.
use Rattle.std.specs.Prelude.{Option, None, Some}
use Prim.Native.Nat.{◌/◌}
use mathlib.Core.Path.{◌≡◌, ap}
use mathlib.Core.List.{[], ◌∷◌}
use Rattle.rules.specs.declared.Part.{Part}
use Rattle.rules.specs.Bytes.{Bytes}
use Rattle.rules.specs.Segment.{entries_from}
use Rattle.header.specs.declared.Parsed.{Parsed}
use Rattle.header.specs.Ranges.{ranges_at, ranges_in}

pub sole_range_lem : (s : Bytes) (p : Parsed) → p.found.list ≡ None → ranges_in s p ≡ record { start = p.start; size = p.size } ∷ []
unfolding ranges_in
sole_range_lem s p e = ap (λ (x : Option Part). ranges_at x s p) e

pub entry_ranges : (s : Bytes) (p : Parsed) (d : Part) → p.found.list ≡ Some d → ranges_in s p ≡ entries_from (d.size / 16) s d.at
unfolding ranges_in
entry_ranges s p d e = ap (λ (x : Option Part). ranges_at x s p) e
