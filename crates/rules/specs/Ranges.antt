-- Ranges of positions, one or a list of them: their sum, whether two share a position, and how far they reach.
-- Sums are whole numbers: 64 entries can pass 2^64.
use Rattle.std.specs.Prelude.{ℕ, zero, suc, ◌+◌, max, Bool, false, cond, ◌&&◌, ◌||◌, not, List, [], ◌∷◌, ◌++◌, eqb, leb, ltb}
use Rattle.rules.specs.declared.Range.{Range}
use Rattle.rules.specs.Bytes.{any}

abbrev pub end : Range → ℕ
end g = g.start + g.size

unfoldable pub total : List Range → ℕ
total [] = 0
total (g ∷ gs) = g.size + total gs

-- two nonempty ranges share a position
unfoldable pub meet : Range → Range → Bool
meet g h = not (eqb g.size 0) && not (eqb h.size 0) && ltb g.start (end h) && ltb h.start (end g)

-- some two ranges of a list do
unfoldable pub overlapping : List Range → Bool
overlapping [] = false
overlapping (g ∷ gs) = any (meet g) gs || overlapping gs

-- the larger of n and the highest position plus one; an empty range raises nothing
unfoldable pub reach : (n : ℕ) → List Range → ℕ
reach n [] = n
reach n (g ∷ gs) = reach (cond (eqb g.size 0) n (max n (end g))) gs

-- the positions of a range, and of ranges in list order; the laws speak of them
unfoldable pub span : (start size : ℕ) → List ℕ
span at zero = []
span at (suc n) = at ∷ span (suc at) n

unfoldable pub positions : List Range → List ℕ
positions [] = []
positions (g ∷ gs) = span g.start g.size ++ positions gs

-- some range has the position
unfoldable pub covered : List Range → (position : ℕ) → Bool
covered gs p = any (λ (g : Range). leb g.start p && ltb p (end g)) gs
