-- What is said of a descriptor of a known type, by its first fault.
use Rattle.std.specs.Prelude.{Option, None, Some, Result, Ok, Err}
use Rattle.rules.specs.declared.Part.{Part}
use Rattle.rules.specs.declared.Cause.{Cause}

-- the first fault, or else where its data stands
abbrev pub judged : Option Cause → Part → Result Part Cause
judged None d = Ok d
judged (Some c) d = Err c
