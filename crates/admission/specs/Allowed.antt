-- What the admission functions answer, over a command that was read: what those of its capabilities allow that match.
use Rattle.std.specs.Prelude.{Option, None, Some, ◌/◌, Bool, true, false, cond, ◌&&◌, List, [], ◌∷◌}
use Rattle.rules.specs.declared.Part.{Part}
use Rattle.rules.specs.declared.Record.{Record}
use Rattle.rules.specs.declared.Range.{Range}
use Rattle.rules.specs.Bytes.{Bytes, part, any, all}
use Rattle.rules.specs.Segment.{entries_from}
use Rattle.capability.specs.declared.Sought.{Sought}
use Rattle.capability.specs.Terms.{meets}
use Rattle.capability.specs.Allowance.{allowance, inside_of}
use Rattle.header.specs.declared.Parsed.{Parsed}
use Rattle.capability.specs.Sought.{sought_by}
use Rattle.capability.specs.Pieces.{pieces_from}

-- the capabilities, the CDB's first
abbrev pub pieces_at : Bytes → Option Part → List Bytes
pieces_at s None = []
pieces_at s (Some d) = pieces_from s (d.size / 104) d.at

abbrev pub pieces_in : (cdb s : Bytes) → Parsed → List Bytes
pieces_in cdb s p = part 80 104 cdb ∷ pieces_at s p.found.extension

-- what those that match allow, in their order
unfoldable pub noted : Sought → List Bytes → List Range
noted w [] = []
noted w (k ∷ ks) = cond (meets w k) (allowance k ∷ noted w ks) (noted w ks)

-- a range lies inside one of the allowances
abbrev pub inside_one : List Range → Range → Bool
inside_one ws g = any (inside_of g) ws

-- each range of the command does
abbrev pub each_inside : List Range → Bytes → Parsed → Option Part → Bool
each_inside ws s p None = inside_one ws (record { start = p.start; size = p.size })
each_inside ws s p (Some d) = all (inside_one ws) (entries_from (d.size / 16) s d.at)

abbrev pub some_of : List Range → Bool
some_of [] = false
some_of (w ∷ ws) = true

-- the command as a whole is admitted: some capability matches, and each range lies inside one that does
unfoldable pub admitted_in : (cdb s : Bytes) → Parsed → Record → Bool
admitted_in cdb s p on = (let ws = noted (sought_by p on) (pieces_in cdb s p) in some_of ws && each_inside ws s p p.found.list)
