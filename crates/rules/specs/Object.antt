-- What each command does to the object and to Data-In (document 01, "What each command does").
use Rattle.std.specs.Prelude.{ℕ, ◌-◌, cond, List, [], ◌∷◌, ◌++◌, length, take, drop, leb}
use Rattle.rules.specs.declared.Range.{Range}
use Rattle.rules.specs.Bytes.{Bytes, part, zeros, laid}
use Rattle.rules.specs.Ranges.{end}

-- READ: the ranges' bytes in list order, up to the first position at or above the object's length; later entries aren't tried
unfoldable pub gathered : (object : Bytes) → List Range → Bytes
gathered o [] = []
gathered o (g ∷ gs) = part g.start g.size o ++ cond (leb (end g) (length o)) (gathered o gs) []

-- WRITE and CLEAR: the ranges filled from d, in list order
unfoldable pub scattered : (slice : Bytes) → List Range → (d : Bytes) → Bytes
scattered s [] d = s
scattered s (g ∷ gs) d = scattered (laid g.start (take g.size d) s) gs (drop g.size d)

-- the positions from the old length to the new one become zero before they are written
unfoldable pub grown : (old new : ℕ) → (slice : Bytes) → Bytes
grown old new s = laid old (zeros (new - old)) s

-- PUNCH: the range is removed and what follows moves down; past the end, it truncates at the start
unfoldable pub punched : Range → (object : Bytes) → Bytes
punched g o = take g.start o ++ drop (end g) o
