-- The ranges of a command that was read, from its list in the segment or without one.
use Rattle.std.specs.Prelude.{Option, None, Some, ◌/◌, List, [], ◌∷◌}
use Rattle.rules.specs.declared.Part.{Part}
use Rattle.rules.specs.declared.Range.{Range}
use Rattle.rules.specs.Bytes.{Bytes}
use Rattle.rules.specs.Segment.{entries_from}
use Rattle.header.specs.declared.Parsed.{Parsed}

abbrev pub ranges_at : Option Part → Bytes → Parsed → List Range
ranges_at None s p = record { start = p.start; size = p.size } ∷ []
ranges_at (Some d) s p = entries_from (d.size / 16) s d.at

unfoldable pub ranges_in : Bytes → Parsed → List Range
ranges_in s p = ranges_at p.found.list s p
