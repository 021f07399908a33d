-- What gathering and filling a command's ranges count on, once the decision is taken.
use Rattle.std.specs.Prelude.{ℕ, ◌+◌, ◌≤◌, ◌≡◌, false, ltb}
use Rattle.rules.specs.declared.Range.{Range}
use Rattle.rules.specs.Bytes.{Bytes, any}
use Rattle.rules.specs.Ranges.{total, reach}
use Rattle.header.specs.declared.Parsed.{Parsed}
use Rattle.segment.specs.Lying.{ListAt}
use Rattle.header.specs.Ranges.{ranges_in}

-- the one range of a command without a list, as it was read
abbrev pub sole : Parsed → Range
sole p = record { start = p.start; size = p.size }

-- rows 1, 7, 10, 12 and 13 don't refuse a READ: s is its segment, `slice` and `input` are how many bytes are lent
pub record ForRead (s : Bytes) (p : Parsed) (logical slice input : ℕ) : Type 0 where
  pub held : logical ≤ slice
  pub lists : ListAt s p.found.list
  pub begins : any (λ (g : Range). ltb logical g.start) (ranges_in s p) ≡ false
  pub room : total (ranges_in s p) ≤ input

-- rows 7, 10, 13 and 14 don't refuse a WRITE that leaves the logical length `raised`
pub record ForWrite (s : Bytes) (p : Parsed) (logical raised out slice : ℕ) : Type 0 where
  pub lists : ListAt s p.found.list
  pub reaches : raised ≡ reach logical (ranges_in s p)
  pub fits : raised ≤ slice
  pub supplied : p.segment + total (ranges_in s p) ≤ out
