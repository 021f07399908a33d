-- The walk over a segment's descriptors (document 01, "Segment"; document 002, 5.x and 5.y), and the entries and capabilities where they stand.
use Rattle.std.specs.Prelude.{Result, Ok, Err, Option, None, Some, ℕ, zero, suc, ◌+◌, ◌-◌, ◌%◌, Bool, cond, ◌&&◌, not, List, [], ◌∷◌, length, drop, eqb, ltb}
use Rattle.rules.specs.declared.Range.{Range}
use Rattle.rules.specs.declared.Part.{Part}
use Rattle.rules.specs.declared.Cause.{Cause}
use Rattle.rules.specs.declared.Cause.TheVariants.{Unknown, Over, Padding, Misfit, Past, Repeated, Remainder}
use Rattle.rules.specs.declared.Here.{Here}
use Rattle.rules.specs.declared.Here.TheVariants.{End, Entries, Extensions}
use Rattle.rules.specs.declared.Found.{Found}
use Rattle.rules.specs.declared.Fault.{Fault}
use Rattle.rules.specs.Bytes.{Bytes, byte, field, blank}
use Rattle.rules.specs.Tests.{Test, test, first_of}

-- A descriptor whose header stands at `at` has its type in bytes 0-1, its pad length in the low three bits of byte 3,
-- its data length in 4-7 and its data from 8 on; then comes the pad.
unfoldable pub kind_at : Bytes → (at : ℕ) → ℕ
kind_at s at = field at 2 s

unfoldable pub pad_at : Bytes → (at : ℕ) → ℕ
pad_at s at = byte (at + 3) s % 8

unfoldable pub size_at : Bytes → (at : ℕ) → ℕ
size_at s at = field (at + 4) 4 s

unfoldable pub data_at : Bytes → (at : ℕ) → Part
data_at s at = record { at = at + 8; size = size_at s at }

unfoldable pub next : Bytes → (at : ℕ) → ℕ
next s at = at + 8 + size_at s at + pad_at s at

-- what a descriptor of a known type is refused for, in the order tested: data over the supported length,
-- data plus pad no multiple of 8, data that doesn't fit its type, a descriptor that runs past the segment
unfoldable pub faults : (supported : ℕ) → (fits : Bool) → Bytes → (at : ℕ) → List (Test Cause)
faults supported fits s at =
    test Over (ltb supported (size_at s at))
    ∷ test Padding (not (eqb ((size_at s at + pad_at s at) % 8) 0))
    ∷ test Misfit (not fits)
    ∷ test Past (ltb (length s) (next s at))
    ∷ []

unfoldable pub unless : Option Cause → Result Here Cause → Result Here Cause
unless None h = h
unless (Some c) h = Err c

-- the list: 16-byte entries, at most 64, perhaps none
unfoldable pub entries_here : Bytes → (at : ℕ) → Result Here Cause
entries_here s at = unless (first_of (faults 1024 (eqb (size_at s at % 16) 0) s at)) (Ok (Entries (data_at s at)))

-- the extension: capabilities of 104 bytes, one to eight
unfoldable pub extensions_here : Bytes → (at : ℕ) → Result Here Cause
extensions_here s at = unless (first_of (faults 832 (eqb (size_at s at % 104) 0 && not (eqb (size_at s at) 0)) s at)) (Ok (Extensions (data_at s at)))

-- What stands at `at`. Fewer than eight bytes hold no header and must be zero (house rule); type 0000h ends the walk as the segment's end does.
unfoldable pub here : Bytes → (at : ℕ) → Result Here Cause
here s at =
    cond (ltb (length s - at) 8) (cond (blank (drop at s)) (Ok End) (Err Remainder))
    (cond (eqb (kind_at s at) 0x0000) (Ok End)
    (cond (eqb (kind_at s at) 0x0001) (entries_here s at) (cond (eqb (kind_at s at) 0xFFEE) (extensions_here s at) (Err Unknown))))

-- what a walk comes to: all that the segment has, or the first fault and where its header stands
abbrev pub Walk : Type 0
Walk = Result Found Fault

abbrev pub fault : Cause → (at : ℕ) → Fault
fault c at = record { cause = c; at = at }

-- a type that the walk has met before is refused
unfoldable pub once : Option Part → (at : ℕ) → Walk → Walk
once None at w = w
once (Some d) at w = Err (fault Repeated at)

-- the walk goes on behind a descriptor, with its data among what is found
unfoldable pub follow : Result Here Cause → Bytes → (at : ℕ) → Found → (ℕ → Found → Walk) → Walk
follow (Ok End) s at f go = Ok f
follow (Err c) s at f go = Err (fault c at)
follow (Ok (Entries d)) s at f go = once f.list at (go (next s at) (record { list = Some d; extension = f.extension }))
follow (Ok (Extensions d)) s at f go = once f.extension at (go (next s at) (record { list = f.list; extension = Some d }))

-- the walk from `at` on, with what was found before it, over at most `most` descriptors
unfoldable pub walk_from : (most : ℕ) → Bytes → (at : ℕ) → Found → Walk
walk_from zero s at f = Ok f
walk_from (suc most) s at f = follow (here s at) s at f (walk_from most s)

abbrev pub nothing : Found
nothing = record { list = None; extension = None }

-- descriptors stand from byte 40 on; each has eight bytes or more, so no segment has more of them than bytes
unfoldable pub walk : Bytes → Walk
walk s = walk_from (length s) s 40 nothing

-- a list entry: offset, then length
unfoldable pub entry_at : Bytes → (at : ℕ) → Range
entry_at s at = record { start = field at 8 s; size = field (at + 8) 8 s }

unfoldable pub entries_from : (n : ℕ) → Bytes → (at : ℕ) → List Range
entries_from zero s at = []
entries_from (suc n) s at = entry_at s at ∷ entries_from n s (at + 16)

-- the n places of capabilities that stand one after another
unfoldable pub places_from : (n at : ℕ) → List ℕ
places_from zero at = []
places_from (suc n) at = at ∷ places_from n (at + 104)
