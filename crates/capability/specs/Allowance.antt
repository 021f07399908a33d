-- What a capability allows, as the functions have it.
use Rattle.std.specs.Prelude.{◌+◌, ◌^◌, Bool, cond, ◌&&◌, eqb, leb}
use Rattle.rules.specs.declared.Range.{Range}
use Rattle.rules.specs.Bytes.{Bytes}
use Rattle.rules.specs.Capability.{allowed_start, allowed_length}

-- what a capability allows: its start and its length
unfoldable pub allowance : (capability : Bytes) → Range
allowance k = record { start = allowed_start k; size = allowed_length k }

-- a range lies inside it; a length of all ones is every byte from the start on
unfoldable pub inside_of : Range → (allowance : Range) → Bool
inside_of g w = leb w.start g.start && leb (g.start + g.size) (cond (eqb w.size 0xFFFF_FFFF_FFFF_FFFF) (2 ^ 64) (w.start + w.size))
