-- Rows 2 to 8 of document 01's table of numbers: whether a command can be read, of CDB, Data-Out and record alone.
-- The engine, the admission question and demand 3 share them. They are three questions: of the CDB alone (2 and 3),
-- whose object it names (4), and of its segment (5 to 8).
use Rattle.std.specs.Prelude.{◌≡◌, is_err, is_some, Bool, ◌&&◌, ◌||◌, not, List, [], ◌∷◌, ◌++◌, length, eqb, ltb}
use Rattle.rules.specs.declared.Fault.{Fault}
use Rattle.rules.specs.declared.Verb.{Verb}
use Rattle.rules.specs.declared.Refusal.{Refusal}
use Rattle.rules.specs.declared.Refusal.TheVariants.{CdbMalformed, ActionUnknown, OtherObject, ContinuationLength, SegmentHeader, Descriptor, ListForbidden}
use Rattle.rules.specs.Bytes.{Bytes, byte, field}
use Rattle.rules.specs.Tests.{Test, test, first_of}
use Rattle.rules.specs.Command.{Command, action, partition_of, object_of, continuation, verb_of, verb, asks, is_clear, is_punch, segment}
use Rattle.rules.specs.Reading.{walked, listed}

-- 2: CDB not 236 bytes, byte 0 or byte 7 wrong
unfoldable pub cdb_malformed : (cdb : Bytes) → Bool
cdb_malformed cdb = not (eqb (length cdb) 236) || not (eqb (byte 0 cdb) 0x7F) || not (eqb (byte 7 cdb) 228)

-- 3: service action not one of the four
unfoldable pub action_unknown : (cdb : Bytes) → Bool
action_unknown cdb = not (is_some (verb_of (action cdb)))

-- rows 2 and 3: of the CDB alone
unfoldable pub front_rows : (cdb : Bytes) → List (Test Refusal)
front_rows cdb = test CdbMalformed (cdb_malformed cdb) ∷ test ActionUnknown (action_unknown cdb) ∷ []

-- 4: either ID differs from the record's
unfoldable pub other_object : Command → Bool
other_object c = not (eqb (partition_of c.cdb) c.on.partition) || not (eqb (object_of c.cdb) c.on.object)

-- the command has a segment
unfoldable pub continued : Command → Bool
continued c = not (eqb (continuation c.cdb) 0)

-- 5: continuation length not 0 and below 40, above 2,048 or above Data-Out's length
unfoldable pub continuation_wrong : Command → Bool
continuation_wrong c =
    continued c && (ltb (continuation c.cdb) 40 || ltb 2048 (continuation c.cdb) || ltb (length c.out) (continuation c.cdb))

-- 6: format not 01h, or continued service action differs
unfoldable pub segment_header_wrong : Command → Bool
segment_header_wrong c = continued c && (not (eqb (byte 0 (segment c)) 0x01) || not (eqb (field 2 2 (segment c)) (action c.cdb)))

-- 7: the walk over the descriptors is broken off
unfoldable pub descriptor_faulty : Command → Bool
descriptor_faulty c = is_err (walked c)

-- whatever its fault is
abbrev pub IsRefused : Fault → Refusal → Type 0
IsRefused f w = w ≡ Descriptor

-- 8: a list on CLEAR or PUNCH
unfoldable pub list_forbidden : Command → Bool
list_forbidden c = listed c && asks (verb c) (λ (v : Verb). is_clear v || is_punch v)

-- rows 5 to 8: of CDB and Data-Out
unfoldable pub segment_rows : Command → List (Test Refusal)
segment_rows c =
    test ContinuationLength (continuation_wrong c)
    ∷ test SegmentHeader (segment_header_wrong c)
    ∷ test Descriptor (descriptor_faulty c)
    ∷ test ListForbidden (list_forbidden c)
    ∷ []

-- rows 2 to 8
unfoldable pub header : Command → List (Test Refusal)
header c = front_rows c.cdb ++ (test OtherObject (other_object c) ∷ segment_rows c)

-- rows 2 to 8 don't refuse the command
unfoldable pub readable : Command → Bool
readable c = not (is_some (first_of (header c)))
