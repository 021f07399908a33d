-- What the capabilities of a command that was read are held against, and what CDB and segment have to be for them to stand there.
use Rattle.std.specs.Prelude.{◌≡◌, Bool, ◌&&◌, length}
use Rattle.rules.specs.declared.Record.{Record}
use Rattle.rules.specs.declared.Range.{Range}
use Rattle.rules.specs.Bytes.{Bytes}
use Rattle.rules.specs.Capability.{inside}
use Rattle.capability.specs.declared.Sought.{Sought}
use Rattle.capability.specs.Terms.{meets}
use Rattle.segment.specs.Lying.{ListAt, ExtensionAt}
use Rattle.header.specs.declared.Parsed.{Parsed}

-- what a capability is held against: what the command says, and the record
abbrev pub sought_by : Parsed → Record → Sought
sought_by p on = record { verb = p.verb; partition = p.partition; object = p.object; tag = on.tag; epoch = on.epoch }

-- a capability admits a range: it matches, and the range lies inside
unfoldable pub admits_in : Sought → Range → (capability : Bytes) → Bool
admits_in w g k = meets w k && inside g k

-- the CDB and the segment are those of a command that says p
pub record Reads (cdb s : Bytes) (p : Parsed) : Type 0 where
  pub sized : length cdb ≡ 236
  pub list : ListAt s p.found.list
  pub extension : ExtensionAt s p.found.extension
