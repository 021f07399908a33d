-- Document 01's table of numbers: rows 1 to 14 in the order tested, each a test of the whole call that stands by itself.
use Rattle.std.specs.Prelude.{Option, ℕ, Bool, ◌&&◌, ◌||◌, not, List, [], ◌∷◌, ◌++◌, length, eqb, ltb}
use Rattle.rules.specs.declared.Range.{Range}
use Rattle.rules.specs.declared.Verb.{Verb}
use Rattle.rules.specs.declared.Refusal.{Refusal}
use Rattle.rules.specs.declared.Refusal.TheVariants.{ObjectUnfit, ListWithStart, ListFault, NotAdmitted, StartsBeyond, BufferShort, NoRoom}
use Rattle.rules.specs.Bytes.{any}
use Rattle.rules.specs.Tests.{Test, test, first_of}
use Rattle.rules.specs.Command.{Command, length_of, start_of, verb, asks, is_read, is_write, is_clear, is_punch, payload}
use Rattle.rules.specs.Ranges.{total, overlapping, reach}
use Rattle.rules.specs.Reading.{listed, ranges}
use Rattle.rules.specs.Header.{header}
use Rattle.rules.specs.Admission.{admitted}

-- how many bytes the caller lends: the object's slice, and Data-In
pub record Room : Type 0 where
  pub slice : ℕ
  pub input : ℕ

-- 1: slice over 16,777,216 bytes, or logical length above slice length
unfoldable pub object_unfit : Command → Room → Bool
object_unfit c m = ltb 16777216 m.slice || ltb m.slice c.on.length

-- 9: a list, and a starting address not zero
unfoldable pub list_with_start : Command → Bool
list_with_start c = listed c && not (eqb (start_of c.cdb) 0)

-- 10: list lengths don't sum to LENGTH; or, on WRITE, two nonempty entries share a position
unfoldable pub list_fault : Command → Bool
list_fault c = listed c && (not (eqb (total (ranges c)) (length_of c.cdb)) || asks (verb c) is_write && overlapping (ranges c))

-- 11: not admitted
unfoldable pub not_admitted : Command → Bool
not_admitted c = not (asks (verb c) (λ (v : Verb). admitted v c))

-- 12: READ or PUNCH: a range starts above logical length
unfoldable pub starts_beyond : Command → Bool
starts_beyond c = asks (verb c) (λ (v : Verb). is_read v || is_punch v) && any (λ (g : Range). ltb c.on.length g.start) (ranges c)

-- 13: READ: Data-In shorter than LENGTH; WRITE: fewer than LENGTH command data bytes
unfoldable pub buffer_short : Command → Room → Bool
buffer_short c m =
    asks (verb c) is_read && ltb m.input (length_of c.cdb) || asks (verb c) is_write && ltb (length (payload c)) (length_of c.cdb)

-- the logical length that WRITE or CLEAR would leave
unfoldable pub raised : Command → ℕ
raised c = reach c.on.length (ranges c)

-- 14: WRITE or CLEAR would raise logical length above maximum length or slice length
unfoldable pub no_room : Command → Room → Bool
no_room c m =
    asks (verb c) (λ (v : Verb). is_write v || is_clear v)
    && ltb c.on.length (raised c)
    && (ltb c.on.maximum (raised c) || ltb m.slice (raised c))

unfoldable pub rows : Command → Room → List (Test Refusal)
rows c m =
    test ObjectUnfit (object_unfit c m)
    ∷ header c
    ++ (test ListWithStart (list_with_start c)
    ∷ test ListFault (list_fault c)
    ∷ test NotAdmitted (not_admitted c)
    ∷ test StartsBeyond (starts_beyond c)
    ∷ test BufferShort (buffer_short c m)
    ∷ test NoRoom (no_room c m)
    ∷ [])

-- the first row that holds
unfoldable pub refusal : Command → Room → Option Refusal
refusal c m = first_of (rows c m)
