-- Who is let in (document 01, "Who is let in"; the layout is document 002's tables 12 and 19).
use Rattle.std.specs.Prelude.{ℕ, ◌+◌, ◌/◌, ◌%◌, ◌^◌, Bool, cond, ◌&&◌, ◌||◌, not, eqb, leb, ltb}
use Rattle.rules.specs.declared.Record.{Record}
use Rattle.rules.specs.declared.Range.{Range}
use Rattle.rules.specs.declared.Verb.{Verb}
use Rattle.rules.specs.declared.Verb.TheVariants.{Read, Write, Clear, Punch}
use Rattle.rules.specs.Bytes.{Bytes, byte, field}

-- permissions, byte 49: 80h READ for READ, 40h WRITE for the other three
unfoldable pub permits : Verb → Bytes → Bool
permits Read k = eqb (byte 49 k / 0x80 % 2) 1
permits Write k = eqb (byte 49 k / 0x40 % 2) 1
permits Clear k = eqb (byte 49 k / 0x40 % 2) 1
permits Punch k = eqb (byte 49 k / 0x40 % 2) 1

abbrev pub allowed_tag : Bytes → ℕ
allowed_tag k = field 60 4 k

abbrev pub allowed_epoch : Bytes → ℕ
allowed_epoch k = field 64 2 k

abbrev pub allowed_partition : Bytes → ℕ
allowed_partition k = field 72 8 k

abbrev pub allowed_object : Bytes → ℕ
allowed_object k = field 80 8 k

abbrev pub allowed_length : Bytes → ℕ
allowed_length k = field 88 8 k

abbrev pub allowed_start : Bytes → ℕ
allowed_start k = field 96 8 k

-- object type is 80h; descriptor type, the high four bits of byte 55, is 1
unfoldable pub for_user_object : (capability : Bytes) → Bool
for_user_object k = eqb (byte 48 k) 0x80 && eqb (byte 55 k / 16) 1

-- allowed partition and object are not zero and equal the CDB's
unfoldable pub names : (partition object : ℕ) → (capability : Bytes) → Bool
names p o k = not (eqb (allowed_partition k) 0) && not (eqb (allowed_object k) 0) && eqb (allowed_partition k) p && eqb (allowed_object k) o

-- its tag is zero or equals the record's
unfoldable pub tagged : Record → (capability : Bytes) → Bool
tagged r k = eqb (allowed_tag k) 0 || eqb (allowed_tag k) r.tag

-- its epoch or the record's is zero, or the two are equal
unfoldable pub current : Record → (capability : Bytes) → Bool
current r k = eqb (allowed_epoch k) 0 || eqb r.epoch 0 || eqb (allowed_epoch k) r.epoch

-- a capability matches a verb and the CDB's IDs under a record
unfoldable pub matches : Verb → (partition object : ℕ) → Record → (capability : Bytes) → Bool
matches v p o r k = for_user_object k && permits v k && names p o k && tagged r k && current r k

-- one past the last position that a capability allows, a whole number without wrap; all ones is every byte up to FFFF FFFF FFFF FFFFh
unfoldable pub bound : Bytes → ℕ
bound k = cond (eqb (allowed_length k) (0xFFFF_FFFF_FFFF_FFFF)) (2 ^ 64) (allowed_start k + allowed_length k)

-- a range lies inside a capability
unfoldable pub inside : Range → (capability : Bytes) → Bool
inside g k = leb (allowed_start k) g.start && leb (g.start + g.size) (bound k)

-- a capability has a position in its range
unfoldable pub has : (capability : Bytes) → (position : ℕ) → Bool
has k p = leb (allowed_start k) p && ltb p (bound k)
