-- The whole answer to a call: how it ended, the count and the next record, and what the slice and Data-In hold afterwards.
use Rattle.std.specs.Prelude.{Option, None, Some, ℕ, ◌-◌, cond, ◌++◌, length, take, drop, ltb}
use Rattle.rules.specs.declared.Record.{Record}
use Rattle.rules.specs.declared.Verb.{Verb}
use Rattle.rules.specs.declared.Verb.TheVariants.{Read, Write, Clear, Punch}
use Rattle.rules.specs.declared.Refusal.{Refusal}
use Rattle.rules.specs.declared.Refusal.TheVariants.{ActionUnknown}
use Rattle.rules.specs.declared.Outcome.{Outcome}
use Rattle.rules.specs.declared.Outcome.TheVariants.{Done, Ended, Refused}
use Rattle.rules.specs.declared.Answer.{Answer}
use Rattle.rules.specs.Bytes.{Bytes, zeros}
use Rattle.rules.specs.Command.{Command, length_of, verb, payload, sole_range}
use Rattle.rules.specs.Reading.{ranges}
use Rattle.rules.specs.Rows.{raised, refusal}
use Rattle.rules.specs.Object.{gathered, scattered, grown, punched}

pub record Answered : Type 0 where
  pub answer : Answer
  pub slice : Bytes
  pub input : Bytes

-- of the record only logical length ever changes
abbrev pub lengthened : Record → ℕ → Record
lengthened r n = record { partition = r.partition; object = r.object; length = n; maximum = r.maximum; tag = r.tag; epoch = r.epoch }

abbrev pub answer : Outcome → (count : ℕ) → Record → Answer
answer o n r = record { outcome = o; count = n; next = r }

-- the object is the first "logical length" bytes of the slice
abbrev pub object : Command → (slice : Bytes) → Bytes
object c s = take c.on.length s

-- a refusal: count 0, the record given, nothing lent altered
unfoldable pub refused : Refusal → Command → (slice input : Bytes) → Answered
refused w c s i = record { answer = answer (Refused w) 0 c.on; slice = s; input = i }

-- READ of the bytes d: they stand at Data-In's start, and 15 says that they are fewer than LENGTH
unfoldable pub read : (d : Bytes) → Command → (slice input : Bytes) → Answered
read d c s i =
    record {
      answer = answer (cond (ltb (length d) (length_of c.cdb)) Ended Done) (length d) c.on;
      slice = s;
      input = d ++ drop (length d) i;
    }

-- WRITE of the command data d, or CLEAR with zeros for it
unfoldable pub wrote : (d : Bytes) → Command → (slice input : Bytes) → Answered
wrote d c s i =
    record {
      answer = answer Done (length_of c.cdb) (lengthened c.on (raised c));
      slice = scattered (grown c.on.length (raised c) s) (ranges c) d;
      input = i;
    }

-- PUNCH that leaves the object o: the slice's freed tail becomes zero
unfoldable pub cut : (o : Bytes) → Command → (slice input : Bytes) → Answered
cut o c s i =
    record {
      answer = answer Done (c.on.length - length o) (lengthened c.on (length o));
      slice = o ++ zeros (c.on.length - length o) ++ drop c.on.length s;
      input = i;
    }

unfoldable pub carried : Verb → Command → (slice input : Bytes) → Answered
carried Read c s i = read (gathered (object c s) (ranges c)) c s i
carried Write c s i = wrote (payload c) c s i
carried Clear c s i = wrote (zeros (length_of c.cdb)) c s i
carried Punch c s i = cut (punched (sole_range c.cdb) (object c s)) c s i

-- Row 3 refuses a command without a verb, so the second line is never reached.
unfoldable pub settled : Option Refusal → Option Verb → Command → (slice input : Bytes) → Answered
settled (Some w) v c s i = refused w c s i
settled None None c s i = refused ActionUnknown c s i
settled None (Some v) c s i = carried v c s i

unfoldable pub answered : Command → (slice input : Bytes) → Answered
answered c s i = settled (refusal c (record { slice = length s; input = length i })) (verb c) c s i
