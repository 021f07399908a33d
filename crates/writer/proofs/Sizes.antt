-- How long the segment is, in numbers: m is what the capabilities have past the first.
use Prim.Native.Nat.{ℕ, ◌+◌, ◌*◌, ◌-◌}
use mathlib.Core.Path.{◌≡◌}
use native.Mathlib.Omega.{arith}
use borrow.Author.Tests.{lt-ltb, le-ltb}
use lib.ListN.{length}
use Rattle.std.specs.Prelude.{Some, None}
use Rattle.writer.specs.declared.List.{List as Listing}
use Rattle.writer.specs.declared.Request.{Request as Asked}
use Rattle.writer.specs.Asked.{request_of}
use Rattle.writer.specs.SegmentParts.{size_for}

module _ (r : Asked) (m : ℕ) (more : m ≡ length r.capabilities.now - 104) where
  pub no_segment : r.list ≡ None → m ≡ 0 → 0 ≡ size_for (request_of r)
  unfolding size_for
  no_segment e z = rw (e, le-ltb 104 (length r.capabilities.now) (omega arith))

  pub extended_alone : r.list ≡ None → (m ≡ 0 → ⊥) → 48 + m ≡ size_for (request_of r)
  unfolding size_for
  extended_alone e z = rw (e, lt-ltb 104 (length r.capabilities.now) (omega arith)) (omega arith)

  module _ (l : Listing) where
    pub list_alone : r.list ≡ Some l → m ≡ 0 → 48 + 16 * length l.offsets.now ≡ size_for (request_of r)
    unfolding size_for
    list_alone e z = rw (e, le-ltb 104 (length r.capabilities.now) (omega arith)) (omega arith)

    pub list_extended : r.list ≡ Some l → (m ≡ 0 → ⊥) → 48 + 16 * length l.offsets.now + 8 + m ≡ size_for (request_of r)
    unfolding size_for
    list_extended e z = rw (e, lt-ltb 104 (length r.capabilities.now) (omega arith)) (omega arith)

-- what `writer::segment_size` meets its contract by
pub ruleset sizes = (no_segment, extended_alone, list_alone, list_extended)
