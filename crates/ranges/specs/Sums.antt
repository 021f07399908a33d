-- A whole-number sum as the answer that 64 bits allow.
use Rattle.std.specs.Prelude.{ℕ, ◌^◌, cond, ltb, Option, Some, None}

unfoldable pub summed : (total : ℕ) → Option ℕ
summed t = cond (ltb t (2 ^ 64)) (Some t) None
