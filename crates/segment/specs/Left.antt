-- What an iterator over a list's entries has left, and where its bytes stand.
use Rattle.std.specs.Prelude.{ℕ, ◌+◌, ◌/◌, ◌≡◌, List, length}
use Rattle.std.specs.Borrow.{Bor}
use Rattle.rules.specs.declared.Part.{Part}
use Rattle.rules.specs.declared.Range.{Range}
use Rattle.rules.specs.Bytes.{part}
use Rattle.rules.specs.Segment.{entries_from}
use Rattle.segment.specs.declared.ListEntries.{ListEntries}

-- its bytes: those of the entries that it has not given yet, and whatever stands behind them
abbrev pub bytes_left : ListEntries → Bor (List ℕ)
bytes_left e = e.rest

-- the entries that they hold, from the first on
unfoldable pub entries_left : ListEntries → List Range
entries_left e = entries_from (length e.rest.now / 16) e.rest.now 0

-- a slice r is a part of the slice s: its bytes, and the place where they stand
pub record IsPart (d : Part) (s r : Bor (List ℕ)) : Type 0 where
  pub bytes : r.now ≡ part d.at d.size s.now
  pub place : r.ref_ptr ≡ (s.ref_ptr.0, d.at + s.ref_ptr.1)
