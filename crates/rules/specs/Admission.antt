-- Admission (document 01, "Who is let in"): at least one capability matches, even with an empty list, and each range lies inside
-- one matching capability. Different ranges may use different ones. Empty ranges count too.
use Rattle.std.specs.Prelude.{Option, None, Some, Bool, cond, ◌&&◌, map, is_some}
use Rattle.rules.specs.declared.Range.{Range}
use Rattle.rules.specs.declared.Verb.{Verb}
use Rattle.rules.specs.Bytes.{any, all}
use Rattle.rules.specs.Tests.{test, first_of}
use Rattle.rules.specs.Command.{Command, partition_of, object_of, verb}
use Rattle.rules.specs.Capability.{matches, inside}
use Rattle.rules.specs.Reading.{Held, ranges, capabilities}
use Rattle.rules.specs.Header.{readable}

-- a capability of a command matches
unfoldable pub fits : Verb → Command → Held → Bool
fits v c k = matches v (partition_of c.cdb) (object_of c.cdb) c.on k.bytes

-- it admits a range: it matches, and the range lies inside
unfoldable pub admits : Verb → Command → Range → Held → Bool
admits v c g k = fits v c k && inside g k.bytes

-- the first capability that admits a range, the CDB's before the segment's
unfoldable pub admitting : Verb → Command → Range → Option Held
admitting v c g = first_of (map (λ (k : Held). test k (admits v c g k)) (capabilities c))

unfoldable pub admitted : Verb → Command → Bool
admitted v c = any (fits v c) (capabilities c) && all (λ (g : Range). is_some (admitting v c g)) (ranges c)

unfoldable pub admitting_for : Option Verb → Command → Range → Option Held
admitting_for None c g = None
admitting_for (Some v) c g = admitting v c g

-- The admission question: for any range, the first capability that admits it, as its 104 bytes where they stand.
-- Nothing is handed back where none admits it, or where one of rows 2 to 8 refuses the command.
unfoldable pub question : Command → Range → Option Held
question c g = cond (readable c) (admitting_for (verb c) c g) None
