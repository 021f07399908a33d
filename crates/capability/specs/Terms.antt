-- What a capability is held against, as the functions have it.
use Rattle.std.specs.Prelude.{Bool}
use Rattle.rules.specs.declared.Record.{Record}
use Rattle.rules.specs.Bytes.{Bytes}
use Rattle.rules.specs.Capability.{matches}
use Rattle.capability.specs.declared.Sought.{Sought}

-- a record with that tag and epoch: a match asks nothing else of it
abbrev pub holder : Sought → Record
holder w = record { partition = w.partition; object = w.object; length = 0; maximum = 0; tag = w.tag; epoch = w.epoch }

-- a capability matches
unfoldable pub meets : Sought → (capability : Bytes) → Bool
meets w k = matches w.verb w.partition w.object (holder w) k
