-- What is asked of a list's entries.
use Rattle.std.specs.Prelude.{ℕ, Bool, ◌&&◌, ◌||◌, not, List, eqb, ltb}
use Rattle.rules.specs.declared.Range.{Range}
use Rattle.rules.specs.Bytes.{any}
use Rattle.rules.specs.Ranges.{total, overlapping}

-- row 10 of a list: `apart` says that no two entries may share a position
unfoldable pub fault_in : List Range → (size : ℕ) → (apart : Bool) → Bool
fault_in gs size apart = not (eqb (total gs) size) || apart && overlapping gs

-- row 12: a range starts above the logical length
unfoldable pub beyond_in : List Range → (logical : ℕ) → Bool
beyond_in gs n = any (λ (g : Range). ltb n g.start) gs
