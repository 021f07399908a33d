-- What the reading of a command answers, by the book's rows 2 to 8: as three questions, and as one.
use Rattle.std.specs.Prelude.{Result, Ok, Err, Option, None, Some, ◌≤◌, ◌≡◌, Bool, ◌||◌, not, eqb, length}
use Rattle.rules.specs.declared.Record.{Record}
use Rattle.rules.specs.declared.Refusal.{Refusal}
use Rattle.rules.specs.declared.Refusal.TheVariants.{ActionUnknown}
use Rattle.rules.specs.declared.Verb.{Verb}
use Rattle.rules.specs.declared.Found.{Found}
use Rattle.rules.specs.Bytes.{Bytes}
use Rattle.rules.specs.Tests.{first_of}
use Rattle.rules.specs.Command.{Command, action, partition_of, object_of, start_of, length_of, continuation, verb_of, verb}
use Rattle.rules.specs.Reading.{found}
use Rattle.rules.specs.Header.{front_rows, segment_rows, header}
use Rattle.rules.specs.Segment.{nothing}
use Rattle.header.specs.declared.Parsed.{Parsed}

-- the first row that refuses a command, of those that were asked, or what the command says
abbrev pub Reading : Type 0
Reading = Result Parsed Refusal

abbrev pub command : (cdb out : Bytes) → Record → Command
command cdb out r = record { cdb = cdb; out = out; on = r }

-- what a command of a verb says, with what its walk has found
unfoldable pub said_by : Verb → (cdb : Bytes) → Found → Parsed
said_by v cdb f =
    record {
      verb = v;
      partition = partition_of cdb;
      object = object_of cdb;
      start = start_of cdb;
      size = length_of cdb;
      segment = continuation cdb;
      found = f;
    }

-- Row 3 refuses a command without a verb, so the second line is never reached.
abbrev pub settled : Option Refusal → Option Verb → (cdb : Bytes) → Found → Reading
settled (Some w) v cdb f = Err w
settled None None cdb f = Err ActionUnknown
settled None (Some v) cdb f = Ok (said_by v cdb f)

-- rows 2 and 3, of the CDB alone, with nothing found yet
unfoldable pub front_of : (cdb : Bytes) → Reading
front_of cdb = settled (first_of (front_rows cdb)) (verb_of (action cdb)) cdb nothing

-- row 4: either ID differs from the record's
unfoldable pub other_than : Parsed → Record → Bool
other_than p on = not (eqb p.partition on.partition) || not (eqb p.object on.object)

-- rows 5 to 8, with what the walk over the segment has found
unfoldable pub segment_of : Command → Reading
segment_of c = settled (first_of (segment_rows c)) (verb c) c.cdb (found c)

-- rows 2 to 8
unfoldable pub reading_of : Command → Reading
reading_of c = settled (first_of (header c)) (verb c) c.cdb (found c)

-- a command with a segment that row 5 lets through, and what its CDB says
pub record Opened (cdb out : Bytes) (p : Parsed) : Type 0 where
  pub front : front_of cdb ≡ Ok p
  pub begins : 40 ≤ p.segment
  pub few : p.segment ≤ 2048
  pub lent : p.segment ≤ length out
