-- What stands at a position, case by case.
use Rattle.std.specs.Prelude.{Result, Ok, Err}
use Rattle.rules.specs.declared.Cause.{Cause}
use Prim.Native.Nat.{ℕ, ◌-◌, ◌≤◌, ◌<◌}
use mathlib.Core.Path.{◌≡◌}
use mathlib.Core.Bool.{true, false}
use lib.ListN.{length, drop}
use borrow.Author.Tests.{lt-ltb, le-ltb, ne_eqb}
use Rattle.rules.specs.declared.Here.{Here}
use Rattle.rules.specs.declared.Here.TheVariants.{End}
use Rattle.rules.specs.declared.Cause.TheVariants.{Unknown, Remainder}
use Rattle.rules.specs.Bytes.{Bytes, field, blank}
use Rattle.rules.specs.Segment.{kind_at, entries_here, extensions_here, here}

module _ (s : Bytes) (at : ℕ) where
  module _ (short : length s - at < 8) where
    pub blank_end : true ≡ blank (drop at s) → Ok End ≡ here s at
    unfolding here
    blank_end b = rw (lt-ltb _ _ short, ← b)

    pub remainder : false ≡ blank (drop at s) → Err Remainder ≡ here s at
    unfolding here
    remainder b = rw (lt-ltb _ _ short, ← b)

  -- a header stands here, and its type is k
  module _ (long : 8 ≤ length s - at) (k : ℕ) (e : k ≡ field at 2 s) where
    pub no_more : k ≡ 0x0000 → Ok End ≡ here s at
    unfolding here kind_at
    no_more z = rw (le-ltb _ _ long, ← e, z)

    pub a_list : (h : Result Here Cause) → k ≡ 0x0001 → h ≡ entries_here s at → h ≡ here s at
    unfolding here kind_at
    a_list h z q = rw (le-ltb _ _ long, ← e, z) q

    pub an_extension : (h : Result Here Cause) → k ≡ 0xFFEE → h ≡ extensions_here s at → h ≡ here s at
    unfolding here kind_at
    an_extension h z q = rw (le-ltb _ _ long, ← e, z) q

    pub unknown : (k ≡ 0x0000 → ⊥) → (k ≡ 0x0001 → ⊥) → (k ≡ 0xFFEE → ⊥) → Err Unknown ≡ here s at
    unfolding here kind_at
    unknown x y z = rw (le-ltb _ _ long, ← e, ne_eqb _ _ x, ne_eqb _ _ y, ne_eqb _ _ z)

-- what `segment::standing_at` meets its contract by
pub ruleset standings = (blank_end, remainder, no_more, a_list, an_extension, unknown)
