-- A length that is reached, with one range more, and against a limit.
use Rattle.std.specs.Prelude.{ℕ, max, cond, eqb, ltb, Option, Some, None}
use Rattle.rules.specs.declared.Range.{Range}
use Rattle.rules.specs.Ranges.{end}

-- what one range makes of a length that was reached
unfoldable pub lifted : (reached : ℕ) → Range → ℕ
lifted n g = cond (eqb g.size 0) n (max n (end g))

-- a length that is at or below a limit
unfoldable pub within : (limit raised : ℕ) → Option ℕ
within limit n = cond (ltb limit n) None (Some n)
