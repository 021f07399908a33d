-- A written command read back (document 01, "The host's writer": "Read back, every field, capability and list entry that an accepted command
-- used is as given"), and the tie between the halves: what the engine answers to it is the answer to the request itself.
use Rattle.std.specs.Prelude.{Option, None, Some, Ok}
use Rattle.std.specs.Prelude.{ℕ, zero, suc, ◌+◌, ◌*◌, ◌-◌, ◌/◌, ◌^◌, ◌<◌, ◌≡◌, Bool, false, cond, ◌&&◌, ◌||◌, not, eqb, ltb, List, [], ◌∷◌}
use Rattle.std.specs.Prelude.{◌++◌, map, length, take, drop, get_or}
use Rattle.rules.specs.declared.Record.{Record}
use Rattle.rules.specs.declared.Range.{Range}
use Rattle.rules.specs.declared.Verb.{Verb}
use Rattle.rules.specs.declared.Verb.TheVariants.{Read, Write, Clear, Punch}
use Rattle.rules.specs.declared.Refusal.{Refusal}
use Rattle.rules.specs.declared.Refusal.TheVariants.{ObjectUnfit, OtherObject, NotAdmitted, StartsBeyond, BufferShort, NoRoom}
use Rattle.rules.specs.declared.Outcome.TheVariants.{Done, Ended, Refused}
use Rattle.rules.specs.declared.Found.{Found}
use Rattle.rules.specs.Bytes.{Bytes, zeros, any, all}
use Rattle.rules.specs.Tests.{Test, test, first_of}
use Rattle.rules.specs.Command.{Command, partition_of, object_of, length_of, start_of, continuation, segment, payload}
use Rattle.rules.specs.Command.{verb_of, verb, is_read, is_write, is_clear, is_punch}
use Rattle.rules.specs.Ranges.{reach}
use Rattle.rules.specs.Reading.{walked, ranges, Held, capabilities}
use Rattle.rules.specs.Capability.{matches, inside}
use Rattle.rules.specs.Header.{cdb_malformed, action_unknown, other_object, continuation_wrong, segment_header_wrong, descriptor_faulty, list_forbidden}
use Rattle.rules.specs.Rows.{Room, list_with_start, list_fault}
use Rattle.rules.specs.Object.{gathered, scattered, grown, punched}
use Rattle.rules.specs.Answer.{Answered, answered, answer, lengthened}
use Rattle.rules.specs.Writer.{Request, entries, length_for, extended, segment_for, Written, written}

-- ---- what was asked for

-- numbers of 64 bits, as the writer is given them
pub record Bounded (q : Request) : Type 0 where
  pub partition : q.partition < 2 ^ 64
  pub object : q.object < 2 ^ 64
  pub start : q.start < 2 ^ 64
  pub size : q.size < 2 ^ 64
  pub offsets : (i : ℕ) → get_or q.offsets i 0 < 2 ^ 64
  pub lengths : (i : ℕ) → get_or q.lengths i 0 < 2 ^ 64

-- the list's entries, or the one range
unfoldable pub ranges_for : Request → List Range
ranges_for q = cond q.listed (entries q) (record { start = q.start; size = q.size } ∷ [])

-- n capabilities, one behind the other
unfoldable pub pieces : (n : ℕ) → Bytes → List Bytes
pieces zero k = []
pieces (suc n) k = take 104 k ∷ pieces n (drop 104 k)

unfoldable pub capabilities_for : Request → List Bytes
capabilities_for q = pieces (length q.capabilities / 104) q.capabilities

-- where the data of list and extension stand in the segment: the list's from byte 48 on, the extension's behind it or there
unfoldable pub found_for : Request → Found
found_for q =
    record {
      list = cond q.listed (Some (record { at = 48; size = 16 * length (entries q) })) None;
      extension =
          cond (extended q)
          (Some (record { at = 48 + cond q.listed (8 + 16 * length (entries q)) 0; size = length q.capabilities - 104 }))
          None;
    }

-- ---- what is sent and read back

-- the first 236 bytes of the one buffer, and the segment's of the other with command data behind it
unfoldable pub sent : Written → (d : Bytes) → Record → Command
sent w d r = record { cdb = take 236 w.cdb; out = take w.size w.segment ++ d; on = r }

pub record Same (q : Request) (d : Bytes) (c : Command) : Type 0 where
  -- every field of the CDB
  pub action_is : verb c ≡ verb_of q.action
  pub partition_is : partition_of c.cdb ≡ q.partition
  pub object_is : object_of c.cdb ≡ q.object
  pub start_is : start_of c.cdb ≡ q.start
  pub length_is : length_of c.cdb ≡ length_for q
  pub continuation_is : continuation c.cdb ≡ length (segment_for q)
  -- Data-Out splits where it was joined
  pub segment_is : segment c ≡ segment_for q
  pub payload_is : payload c ≡ d
  -- the walk meets just the list and the extension that were given
  pub walk_is : walked c ≡ Ok (found_for q)
  -- every entry, and every capability in its order
  pub ranges_are : ranges c ≡ ranges_for q
  pub capabilities_are : map (λ (k : Held). k.bytes) (capabilities c) ≡ capabilities_for q
  -- of the rows on form only row 4 can hold, and only for another object's record
  pub row2 : cdb_malformed c.cdb ≡ false
  pub row3 : action_unknown c.cdb ≡ false
  pub row4 : other_object c ≡ not (eqb q.partition c.on.partition) || not (eqb q.object c.on.object)
  pub row5 : continuation_wrong c ≡ false
  pub row6 : segment_header_wrong c ≡ false
  pub row7 : descriptor_faulty c ≡ false
  pub row8 : list_forbidden c ≡ false
  pub row9 : list_with_start c ≡ false
  pub row10 : list_fault c ≡ false

-- 0 is what the writer answers to a request that it accepts
unfoldable pub ReadsBack : Type 0
ReadsBack =
    (q : Request) (cdb segment d : Bytes) (r : Record)
    → Bounded q
    → (written q cdb segment).number ≡ 0
    → Same q d (sent (written q cdb segment) d r)

-- ---- the answer to a request itself, of its ranges, its capabilities and its data alone

unfoldable pub matches_for : Verb → Request → Record → (capability : Bytes) → Bool
matches_for v q r k = matches v q.partition q.object r k

unfoldable pub admitted_for : Verb → Request → Record → Bool
admitted_for v q r =
    any (matches_for v q r) (capabilities_for q)
    && all (λ (g : Range). any (λ (k : Bytes). matches_for v q r k && inside g k) (capabilities_for q)) (ranges_for q)

unfoldable pub raised_for : Request → Record → ℕ
raised_for q r = reach r.length (ranges_for q)

-- rows 1, 4, 11, 12, 13 and 14
unfoldable pub rows_for : Verb → Request → (d : Bytes) → Record → Room → List (Test Refusal)
rows_for v q d r m =
    test ObjectUnfit (ltb 16777216 m.slice || ltb m.slice r.length)
    ∷ test OtherObject (not (eqb q.partition r.partition) || not (eqb q.object r.object))
    ∷ test NotAdmitted (not (admitted_for v q r))
    ∷ test StartsBeyond ((is_read v || is_punch v) && any (λ (g : Range). ltb r.length g.start) (ranges_for q))
    ∷ test BufferShort (is_read v && ltb m.input (length_for q) || is_write v && ltb (length d) (length_for q))
    ∷ test NoRoom
    ((is_write v || is_clear v)
    && ltb r.length (raised_for q r)
    && (ltb r.maximum (raised_for q r) || ltb m.slice (raised_for q r)))
    ∷ []

abbrev wrote_for : (d : Bytes) → Request → Record → (slice input : Bytes) → Answered
wrote_for d q r s i =
    record {
      answer = answer Done (length_for q) (lengthened r (raised_for q r));
      slice = scattered (grown r.length (raised_for q r) s) (ranges_for q) d;
      input = i;
    }

abbrev read_for : (got : Bytes) → Request → Record → (slice input : Bytes) → Answered
read_for g q r s i =
    record {
      answer = answer (cond (ltb (length g) (length_for q)) Ended Done) (length g) r;
      slice = s;
      input = g ++ drop (length g) i;
    }

abbrev cut_for : (left : Bytes) → Record → (slice input : Bytes) → Answered
cut_for o r s i =
    record {
      answer = answer Done (r.length - length o) (lengthened r (length o));
      slice = o ++ zeros (r.length - length o) ++ drop r.length s;
      input = i;
    }

unfoldable pub carried_for : Verb → Request → (d : Bytes) → Record → (slice input : Bytes) → Answered
carried_for Read q d r s i = read_for (gathered (take r.length s) (ranges_for q)) q r s i
carried_for Write q d r s i = wrote_for d q r s i
carried_for Clear q d r s i = wrote_for (zeros (length_for q)) q r s i
carried_for Punch q d r s i = cut_for (punched (record { start = q.start; size = q.size }) (take r.length s)) r s i

unfoldable pub settled_for : Option Refusal → Verb → Request → (d : Bytes) → Record → (slice input : Bytes) → Answered
settled_for (Some w) v q d r s i = record { answer = answer (Refused w) 0 r; slice = s; input = i }
settled_for None v q d r s i = carried_for v q d r s i

unfoldable pub answered_for : Verb → Request → (d : Bytes) → Record → (slice input : Bytes) → Answered
answered_for v q d r s i = settled_for (first_of (rows_for v q d r (record { slice = length s; input = length i }))) v q d r s i

-- the tie
unfoldable pub Answers : Type 0
Answers =
    (q : Request) (cdb segment d : Bytes) (r : Record) (v : Verb) (s i : Bytes)
    → Bounded q
    → (written q cdb segment).number ≡ 0
    → verb_of q.action ≡ Some v
    → answered (sent (written q cdb segment) d r) s i ≡ answered_for v q d r s i
