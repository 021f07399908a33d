-- The record, slice, capability and commands that the examples share (document 01, "Marked examples"). The commands are written by the host's writer.
use Rattle.std.specs.Prelude.{ℕ, Bool, true, false, List, [], ◌∷◌, ◌++◌, replicate}
use Prim.Native.Char.{code}
use Prim.Native.String.{String}
use Rattle.rules.specs.declared.Record.{Record}
use Rattle.rules.specs.Bytes
use Rattle.rules.specs.Bytes.{Bytes, zeros, to_be}
use Rattle.rules.specs.Tests
use Rattle.rules.specs.Command
use Rattle.rules.specs.Segment
use Rattle.rules.specs.Ranges
use Rattle.rules.specs.Reading
use Rattle.rules.specs.Capability
use Rattle.rules.specs.Header
use Rattle.rules.specs.Admission
use Rattle.rules.specs.Rows
use Rattle.rules.specs.Numbers
use Rattle.rules.specs.Numbers.{number, Sense, sense}
use Rattle.rules.specs.Object
use Rattle.rules.specs.Answer
use Rattle.rules.specs.Answer.{Answered, answered}
use Rattle.rules.specs.Writer
use Rattle.rules.specs.Writer.{Request, cdb_for, segment_for, length_for}

-- a text's bytes
unfoldable pub text : String → Bytes
text String.[] = []
text (String.◌∷◌ c s) = code c ∷ text s

-- the slice of 16: the object's bytes, then zeros
unfoldable pub slice : String → (tail : ℕ) → Bytes
slice t n = text t ++ zeros n

-- the record: both IDs 10000h, maximum 16, tag and epoch 0; the length is 8 at first
abbrev pub rota : (logical : ℕ) → Record
rota n = record { partition = 0x10000; object = 0x10000; length = n; maximum = 16; tag = 0; epoch = 0 }

-- a capability, READ and WRITE, for the object
unfoldable pub capability : (start size : ℕ) → Bytes
capability start size =
    zeros 48
    ++ (0x80 ∷ 0xC0 ∷ [])
    ++ zeros 5
    ++ (0x10 ∷ [])
    ++ zeros 16
    ++ to_be 8 0x10000
    ++ to_be 8 0x10000
    ++ to_be 8 size
    ++ to_be 8 start

unfoldable pub request : (capability : Bytes) → (action start size : ℕ) → (listed : Bool) → (offsets lengths : List ℕ) → Request
request k action start size listed offsets lengths =
    record {
      action = action;
      partition = 0x10000;
      object = 0x10000;
      start = start;
      size = size;
      listed = listed;
      offsets = offsets;
      lengths = lengths;
      capabilities = k;
    }

-- a command with a start and a LENGTH, and one with a list of two entries
abbrev pub plain : (capability : Bytes) → (action start size : ℕ) → Request
plain k action start size = request k action start size false [] []

abbrev pub two : (capability : Bytes) → (action start size start' size' : ℕ) → Request
two k action o n o' n' = request k action 0 0 true (o ∷ o' ∷ []) (n ∷ n' ∷ [])

-- the answer to a call; Data-In has `room` bytes, dots at first
unfoldable pub called : (cdb out : Bytes) → Record → (slice : Bytes) → (room : ℕ) → Answered
unfolding text Bytes.be Bytes.field Bytes.to_be Bytes.blank Bytes.laid Bytes.any Bytes.all Tests.first_of Command.action Command.partition_of
    Command.object_of Command.length_of Command.start_of Command.continuation Command.verb_of Command.verb Command.segment Command.payload
    Command.sole_range Segment.kind_at Segment.pad_at Segment.size_at Segment.data_at Segment.next Segment.faults Segment.unless Segment.entries_here
    Segment.extensions_here Segment.here Segment.once Segment.follow Segment.walk_from Segment.walk Segment.entry_at Segment.entries_from
    Segment.places_from Ranges.total Ranges.meet Ranges.overlapping Ranges.reach Reading.walked Reading.found Reading.listed Reading.ranges
    Reading.solo Reading.extension Reading.capabilities Capability.permits Capability.for_user_object Capability.names Capability.tagged
    Capability.current Capability.matches Capability.bound Capability.inside Capability.has
    Header.cdb_malformed Header.action_unknown Header.other_object Header.continued Header.continuation_wrong Header.segment_header_wrong
    Header.descriptor_faulty Header.list_forbidden Header.front_rows Header.segment_rows Header.header Header.readable Admission.fits
    Admission.admits Admission.admitting Admission.admitted
    Admission.admitting_for Admission.question Rows.object_unfit Rows.list_with_start Rows.list_fault Rows.not_admitted Rows.starts_beyond Rows.buffer_short
    Rows.raised Rows.no_room Rows.rows Rows.refusal Numbers.sense Numbers.status Object.gathered Object.scattered Object.grown Object.punched
    Answer.refused Answer.read Answer.wrote Answer.cut Answer.carried Answer.settled Answer.answered Writer.paired Writer.entries Writer.length_for
    Writer.spelled Writer.descriptor Writer.extended Writer.segment_for Writer.cdb_for Writer.refusals Writer.writes Writer.written
called cdb out r s room = answered (record { cdb = cdb; out = out; on = r }) s (replicate room (code "."))

-- the answer to a written command with its command data; Data-In has LENGTH bytes
unfoldable pub sent : Request → (d : String) → Record → (slice : Bytes) → Answered
unfolding called
sent q d r s = called (cdb_for q) (segment_for q ++ text d) r s (length_for q)

-- what is seen of an answer
pub record Seen : Type 0 where
  pub number : ℕ
  pub sense : Sense
  pub count : ℕ
  pub next : Record
  pub slice : Bytes
  pub input : Bytes

unfoldable pub seen : Answered → Seen
seen a =
    record {
      number = number a.answer.outcome;
      sense = sense (number a.answer.outcome);
      count = a.answer.count;
      next = a.answer.next;
      slice = a.slice;
      input = a.input;
    }

-- what document 01 says: number, key and code, count, logical length, object and rest of the slice, Data-In
unfoldable pub says : (number key code count size : ℕ) → (object : String) → (tail : ℕ) → (input : String) → Seen
says nr key asc count size o tail i =
    record { number = nr; sense = record { key = key; code = asc }; count = count; next = rota size; slice = slice o tail; input = text i }

pub record Example : Type 0 where
  pub got : Seen
  pub due : Seen

abbrev pub example : Request → (d : String) → Seen → Example
example q d s = record { got = seen (sent q d (rota 8) (slice "ABCDEFGH" 8)); due = s }

-- a command whose bytes are given
abbrev pub raw : (cdb out : Bytes) → Seen → Example
raw cdb out s = record { got = seen (called cdb out (rota 8) (slice "ABCDEFGH" 8) 0); due = s }

-- a second command, on what a first one left
abbrev pub after : Answered → Request → (d : String) → Seen → Example
after a q d s = record { got = seen (sent q d a.answer.next a.slice); due = s }
