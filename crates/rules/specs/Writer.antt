-- The host's command writer (document 01, "The host's writer"): what it writes, and what it refuses.
use Rattle.std.specs.Prelude.{is_some, Option, None, Some, ℕ, ◌%◌, ◌^◌, Bool, cond, ◌&&◌, ◌||◌, not, List, [], ◌∷◌, ◌++◌, length, take, drop, eqb, leb, ltb}
use Rattle.rules.specs.declared.Range.{Range}
use Rattle.rules.specs.declared.Verb.{Verb}
use Rattle.rules.specs.Bytes.{Bytes, zeros, to_be}
use Rattle.rules.specs.Tests.{Test, test, first_of}
use Rattle.rules.specs.Command.{verb_of, asks, is_write, is_clear, is_punch}
use Rattle.rules.specs.Ranges.{total, overlapping}

-- The list is two slices of numbers, used only under the flag `listed`; `size` is LENGTH, used only without it.
-- Capabilities are bytes, the first 104 for the CDB.
pub record Request : Type 0 where
  pub action : ℕ
  pub partition : ℕ
  pub object : ℕ
  pub start : ℕ
  pub size : ℕ
  pub listed : Bool
  pub offsets : List ℕ
  pub lengths : List ℕ
  pub capabilities : Bytes

-- the two slices as ranges, one beside the other
unfoldable pub paired : (offsets lengths : List ℕ) → List Range
paired [] ns = []
paired (o ∷ os) [] = []
paired (o ∷ os) (n ∷ ns) = record { start = o; size = n } ∷ paired os ns

unfoldable pub entries : Request → List Range
entries q = paired q.offsets q.lengths

-- with a list, LENGTH is its sum
unfoldable pub length_for : Request → ℕ
length_for q = cond q.listed (total (entries q)) q.size

unfoldable pub spelled : List Range → Bytes
spelled [] = []
spelled (g ∷ gs) = to_be 8 g.start ++ to_be 8 g.size ++ spelled gs

-- a descriptor without pad
unfoldable pub descriptor : (kind : ℕ) → (d : Bytes) → Bytes
descriptor kind d = to_be 2 kind ++ zeros 2 ++ to_be 4 (length d) ++ d

-- there are capabilities past the CDB's
unfoldable pub extended : Request → Bool
extended q = ltb 104 (length q.capabilities)

-- list first, then extension; with neither there is no segment
unfoldable pub segment_for : Request → Bytes
segment_for q =
    cond (q.listed || extended q)
    ((0x01 ∷ 0 ∷ [])
    ++ to_be 2 q.action
    ++ zeros 36
    ++ cond q.listed (descriptor 0x0001 (spelled (entries q))) []
    ++ cond (extended q) (descriptor 0xFFEE (drop 104 q.capabilities)) [])
    []

unfoldable pub cdb_for : Request → Bytes
cdb_for q =
    (0x7F ∷ [])
    ++ zeros 6
    ++ (228 ∷ [])
    ++ to_be 2 q.action
    ++ zeros 6
    ++ to_be 8 q.partition
    ++ to_be 8 q.object
    ++ to_be 8 (length_for q)
    ++ to_be 8 q.start
    ++ to_be 4 (length (segment_for q))
    ++ zeros 28
    ++ take 104 q.capabilities
    ++ zeros 52

-- what is refused, in order
unfoldable pub refusals : Request → (cdb_room segment_room : ℕ) → List (Test ℕ)
refusals q cdb_room segment_room =
    -- unknown action
    test 16 (not (is_some (verb_of q.action)))
    -- capability bytes empty, over 936 or no multiple of 104
    ∷ test 16 (eqb (length q.capabilities) 0 || ltb 936 (length q.capabilities) || not (eqb (length q.capabilities % 104) 0))
    -- list slices unequal or over 64
    ∷ test 16 (q.listed && (not (eqb (length q.offsets) (length q.lengths)) || ltb 64 (length q.offsets)))
    -- list on CLEAR or PUNCH
    ∷ test 16 (q.listed && asks (verb_of q.action) (λ (v : Verb). is_clear v || is_punch v))
    -- list with nonzero start
    ∷ test 16 (q.listed && not (eqb q.start 0))
    -- list sum above 64 bits
    ∷ test 16 (q.listed && leb (2 ^ 64) (total (entries q)))
    -- overlap on WRITE
    ∷ test 16 (q.listed && asks (verb_of q.action) is_write && overlapping (entries q))
    -- either buffer too short
    ∷ test 17 (ltb cdb_room 236 || ltb segment_room (length (segment_for q)))
    ∷ []

-- the number, the segment's length, and what both buffers hold afterwards
pub record Written : Type 0 where
  pub number : ℕ
  pub size : ℕ
  pub cdb : Bytes
  pub segment : Bytes

-- a refusal leaves both buffers as they were; else the bytes past those written stay
unfoldable pub writes : Option ℕ → Request → (cdb segment : Bytes) → Written
writes (Some n) q cdb segment = record { number = n; size = 0; cdb = cdb; segment = segment }
writes None q cdb segment =
    record {
      number = 0;
      size = length (segment_for q);
      cdb = cdb_for q ++ drop (length (cdb_for q)) cdb;
      segment = segment_for q ++ drop (length (segment_for q)) segment;
    }

unfoldable pub written : Request → (cdb segment : Bytes) → Written
written q cdb segment = writes (first_of (refusals q (length cdb) (length segment))) q cdb segment
