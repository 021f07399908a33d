-- What a command's CDB and segment come to: its list or none, its ranges and its capabilities.
use Rattle.std.specs.Prelude.{is_err, is_some, Ok, Err, Option, None, Some, ℕ, ◌/◌, Bool, true, false, cond, List, [], ◌∷◌, map, eqb}
use Rattle.rules.specs.Segment.{fault, Walk, walk, nothing, entries_from, places_from}
use Rattle.rules.specs.declared.Part.{Part}
use Rattle.rules.specs.declared.Range.{Range}
use Rattle.rules.specs.declared.Found.{Found}
use Rattle.rules.specs.Bytes.{Bytes, part}
use Rattle.rules.specs.Command.{Command, continuation, segment, sole_range}

-- with a continuation length of zero there is no segment, and nothing is found
unfoldable pub walked : Command → Walk
walked c = cond (eqb (continuation c.cdb) 0) (Ok nothing) (walk (segment c))

abbrev pub found_in : Walk → Found
found_in (Ok f) = f
found_in (Err e) = nothing

unfoldable pub found : Command → Found
found c = found_in (walked c)

-- the command has a list
unfoldable pub listed : Command → Bool
listed c = is_some (found c).list

-- The ranges of a command are its list entries, or without a list the one range of LENGTH and STARTING BYTE ADDRESS.
abbrev pub ranges_of : Option Part → Command → List Range
ranges_of None c = sole_range c.cdb ∷ []
ranges_of (Some d) c = entries_from (d.size / 16) (segment c) d.at

unfoldable pub ranges : Command → List Range
ranges c = ranges_of (found c).list c

-- a capability's 104 bytes, with the place where they stand: in the CDB, or in the segment and so in Data-Out
pub data Lent : Type 0 where
  in_cdb in_out : Lent

pub record Held : Type 0 where
  pub lent : Lent
  pub at : ℕ
  pub bytes : Bytes

unfoldable pub solo : Command → Held
solo c = record { lent = in_cdb; at = 80; bytes = part 80 104 c.cdb }

unfoldable pub extension : Command → (at : ℕ) → Held
extension c at = record { lent = in_out; at = at; bytes = part at 104 (segment c) }

abbrev pub extensions_of : Option Part → Command → List Held
extensions_of None c = []
extensions_of (Some d) c = map (extension c) (places_from (d.size / 104) d.at)

-- the CDB's comes first
unfoldable pub capabilities : Command → List Held
capabilities c = solo c ∷ extensions_of (found c).extension c
