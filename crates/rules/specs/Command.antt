-- The CDB's fields and its verb (document 01, "CDB, 236 bytes"), and a command with all that it is read beside.
use Rattle.std.specs.Prelude.{ℕ, ◌≡◌, Bool, true, false, [], ◌∷◌, take, drop, eqb, Option, None, Some, Result}
use Rattle.std.specs.Option.{ok_or}
use Rattle.rules.specs.declared.Record.{Record}
use Rattle.rules.specs.declared.Range.{Range}
use Rattle.rules.specs.declared.Refusal.{Refusal}
use Rattle.rules.specs.declared.Refusal.TheVariants.{ActionUnknown}
use Rattle.rules.specs.declared.Verb.{Verb}
use Rattle.rules.specs.declared.Verb.TheVariants.{Read, Write, Clear, Punch}
use Rattle.rules.specs.Bytes.{Bytes, field}
use Rattle.rules.specs.Tests.{test, first_of}

-- a CDB and Data-Out, with the record of the object that they meet
pub record Command : Type 0 where
  pub cdb : Bytes
  pub out : Bytes
  pub on : Record

unfoldable pub action : Bytes → ℕ
action cdb = field 8 2 cdb

unfoldable pub partition_of : Bytes → ℕ
partition_of cdb = field 16 8 cdb

unfoldable pub object_of : Bytes → ℕ
object_of cdb = field 24 8 cdb

-- LENGTH
unfoldable pub length_of : Bytes → ℕ
length_of cdb = field 32 8 cdb

-- STARTING BYTE ADDRESS
unfoldable pub start_of : Bytes → ℕ
start_of cdb = field 40 8 cdb

-- CDB CONTINUATION LENGTH
unfoldable pub continuation : Bytes → ℕ
continuation cdb = field 48 4 cdb

-- the service actions (document 004, annex table)
abbrev pub READ : ℕ
READ = 0x8885

abbrev pub WRITE : ℕ
WRITE = 0x8886

abbrev pub CLEAR : ℕ
CLEAR = 0x8889

abbrev pub PUNCH : ℕ
PUNCH = 0x8884

-- a service action's verb, where it has one
unfoldable pub verb_of : ℕ → Option Verb
verb_of a =
    first_of
    (test Read (eqb a READ)
    ∷ test Write (eqb a WRITE)
    ∷ test Clear (eqb a CLEAR)
    ∷ test Punch (eqb a PUNCH)
    ∷ [])

-- a service action, read as a verb: row 3 refuses one that has none
unfoldable pub read_verb : ℕ → Result Verb Refusal
read_verb a = ok_or (verb_of a) ActionUnknown

abbrev pub IsReadVerb : ℕ → Result Verb Refusal → Type 0
IsReadVerb a r = r ≡ read_verb a

unfoldable pub verb : Command → Option Verb
verb c = verb_of (action c.cdb)

abbrev pub is_read : Verb → Bool
is_read Read = true
is_read Write = false
is_read Clear = false
is_read Punch = false

abbrev pub is_write : Verb → Bool
is_write Read = false
is_write Write = true
is_write Clear = false
is_write Punch = false

abbrev pub is_clear : Verb → Bool
is_clear Read = false
is_clear Write = false
is_clear Clear = true
is_clear Punch = false

abbrev pub is_punch : Verb → Bool
is_punch Read = false
is_punch Write = false
is_punch Clear = false
is_punch Punch = true

-- a test of the verb; an action without a verb passes none
abbrev pub asks : Option Verb → (Verb → Bool) → Bool
asks None f = false
asks (Some v) f = f v

-- the segment is Data-Out's first bytes, as many as the continuation length says; command data follows it
unfoldable pub segment : Command → Bytes
segment c = take (continuation c.cdb) c.out

unfoldable pub payload : Command → Bytes
payload c = drop (continuation c.cdb) c.out

-- the one range of a command without a list
unfoldable pub sole_range : Bytes → Range
sole_range cdb = record { start = start_of cdb; size = length_of cdb }
