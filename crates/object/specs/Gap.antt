-- The gap in front of one range.
use Rattle.std.specs.Prelude.{ℕ, max, cond, eqb}
use Rattle.rules.specs.declared.Range.{Range}
use Rattle.rules.specs.Bytes.{Bytes}
use Rattle.rules.specs.Object.{grown}

-- the positions from the old length up to the range's start become zero; an empty range has no gap
unfoldable pub grown_up_to : (old : ℕ) → Range → (slice : Bytes) → Bytes
grown_up_to old g s = cond (eqb g.size 0) s (grown old (max old g.start) s)
