-- The file that the program `bench` reads (document 01): CDB, Data-Out, record and object slice, each after its four-byte count.
use Rattle.std.specs.Prelude.{ℕ, ◌+◌, ◌≤◌, ◌≡◌, ◌&&◌, length, eqb, leb, Option, Some, None}
use Rattle.std.specs.Bool.{then_some}
use Rattle.rules.specs.declared.Part.{Part}
use Rattle.rules.specs.declared.Record.{Record}
use Rattle.rules.specs.Bytes.{Bytes, part, field}
use Rattle.callfile.specs.declared.Sections.{Sections}

-- The section whose count stands at `at`: all four bytes of it are there, it is at most `most`, and so many bytes follow it.
unfoldable pub section_at : (file : Bytes) → (at most : ℕ) → Option Part
section_at f at most =
    then_some (leb (at + 4) (length f) && leb (field at 4 f) most && leb (at + 4 + field at 4 f) (length f))
    (record { at = at + 4; size = field at 4 f })

-- where a section ends, and the next one's count stands
abbrev pub end : Part → ℕ
end p = p.at + p.size

-- a bad section makes a bad file; behind a good one the file is read on
abbrev pub followed : Option Part → (Part → Option Sections) → Option Sections
followed None next = None
followed (Some p) next = next p

-- The record has 38 bytes, no more and no fewer, and the file ends with the slice.
unfoldable pub layout_of : (file : Bytes) → Option Sections
layout_of f =
    followed (section_at f 0 1024) (λ (cdb : Part).
    followed (section_at f (end cdb) 8192) (λ (out : Part).
    followed (section_at f (end out) 38) (λ (on : Part).
    followed (section_at f (end on) 16384) (λ (slice : Part).
    then_some (eqb on.size 38 && eqb (end slice) (length f)) (record { cdb = cdb; out = out; on = on; slice = slice })))))

-- a section's bytes
abbrev pub bytes_of : (file : Bytes) → Part → Bytes
bytes_of f p = part p.at p.size f

-- the record from its 38 bytes
unfoldable pub record_of : Bytes → Record
record_of s =
    record {
      partition = field 0 8 s;
      object = field 8 8 s;
      length = field 16 8 s;
      maximum = field 24 8 s;
      tag = field 32 4 s;
      epoch = field 36 2 s;
    }

-- what holds of a sound layout, and is counted on where its sections are read
pub record Inside (f : Bytes) (s : Sections) : Type 0 where
  pub cdb : end s.cdb ≤ length f
  pub out : end s.out ≤ length f
  pub on : end s.on ≤ length f
  pub record_size : s.on.size ≡ 38
  pub slice : end s.slice ≤ length f
  pub slice_size : s.slice.size ≤ 16384
