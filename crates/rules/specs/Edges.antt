-- Examples at the edges: points that the documents leave open or where they differ (docs/DECISIONS.md), and what is easy to get wrong.
use Rattle.std.specs.Prelude.{Option, None, Some, ℕ, ◌+◌, ◌≡◌, refl, true, List, [], ◌∷◌, ◌++◌, map, length}
use Prim.Native.String.{String}
use Rattle.rules.specs.Bytes.{Bytes, zeros, to_be, laid}
use Rattle.rules.specs.Reading.{Lent, in_cdb, in_out, Held}
use Rattle.rules.specs.Admission.{question}
use Rattle.rules.specs.Writer.{Request, cdb_for, segment_for}
use Rattle.rules.specs.Command.{READ, WRITE, CLEAR, PUNCH}
use Rattle.rules.specs.Samples.{text, slice, capability, request, sent, seen, says, called, plain, two, rota, Seen, Example, example, raw}

abbrev k : Bytes
k = capability 0 16

-- WRITE of one byte at 0, with a segment that ends in the bytes e and no descriptor of the writer's
abbrev ending : (e : Bytes) → Seen → Example
ending e s =
    raw (laid 48 (to_be 4 (40 + length e)) (cdb_for (plain k WRITE 0 1))) ((0x01 ∷ 0 ∷ []) ++ to_be 2 WRITE ++ zeros 36 ++ e ++ text "z") s

-- a command on a slice that holds old bytes above the logical length
abbrev over : Request → (d : String) → Seen → Example
over q d s = record { got = seen (sent q d (rota 8) (slice "ABCDEFGHXXXXXXXX" 0)); due = s }

abbrev unchanged : (number key code : ℕ) → Seen
unchanged n key code = says n key code 0 8 "ABCDEFGH" 8 ""

pub examples : List Example
examples =
    -- the descriptor type stands in the capability's byte 55; in byte 54 it isn't looked for
    example (plain (laid 54 (0x10 ∷ 0x00 ∷ []) k) READ 2 3) "" (says 11 5 0x2400 0 8 "ABCDEFGH" 8 "...")
    -- a continuation length of 40 to 47 bytes is taken, also an odd one
    ∷ ending [] (says 0 0 0x0000 1 8 "zBCDEFGH" 8 "")
    ∷ ending (0 ∷ []) (says 0 0 0x0000 1 8 "zBCDEFGH" 8 "")
    -- where fewer than eight bytes remain they must be zero, also behind two that are
    ∷ ending (1 ∷ []) (unchanged 7 5 0x2600)
    ∷ ending (0 ∷ 0 ∷ 0 ∷ 0 ∷ 0 ∷ 0 ∷ 1 ∷ []) (unchanged 7 5 0x2600)
    -- type 0000h ends the walk, and what follows it isn't examined
    ∷ ending (0 ∷ 0 ∷ 9 ∷ 9 ∷ 9 ∷ 9 ∷ 9 ∷ 9 ∷ 9 ∷ []) (says 0 0 0x0000 1 8 "zBCDEFGH" 8 "")
    -- a descriptor that ends one byte past the segment
    ∷ ending (0xFF ∷ 0xEE ∷ 0 ∷ 0 ∷ 0 ∷ 0 ∷ 0 ∷ 104 ∷ zeros 103) (unchanged 7 5 0x2600)
    -- the segment's capability admits what the CDB's doesn't, and different ranges may use different ones
    ∷ example (plain (capability 0 1 ++ capability 2 3) READ 2 3) "" (says 0 0 0x0000 3 8 "ABCDEFGH" 8 "CDE")
    ∷ example (two (capability 0 4 ++ capability 4 4) READ 1 2 5 2) "" (says 0 0 0x0000 4 8 "ABCDEFGH" 8 "BCFG")
    -- one that crosses from one into the next lies inside neither
    ∷ example (plain (capability 0 4 ++ capability 4 4) READ 3 2) "" (says 11 5 0x2400 0 8 "ABCDEFGH" 8 "..")
    -- READ keeps entries that overlap
    ∷ example (two k READ 1 2 2 2) "" (says 0 0 0x0000 4 8 "ABCDEFGH" 8 "BCCD")
    -- lengths that sum to 2^64 + 1 are not LENGTH 1
    ∷ raw (cdb_for (two k READ 0 0xFFFF_FFFF_FFFF_FFFF 0 2)) (segment_for (two k READ 0 0xFFFF_FFFF_FFFF_FFFF 0 2)) (unchanged 10 5 0x2600)
    -- allowed start plus allowed length passes 2^64, and a range up there lies inside: the object has no room for it
    ∷ example (plain (capability 0xFFFF_FFFF_FFFF_FFFC 8) WRITE 0xFFFF_FFFF_FFFF_FFFE 1) "z" (says 14 7 0x5507 0 8 "ABCDEFGH" 8 ".")
    -- old bytes of the slice above the length don't show: the gap becomes zero, and what lies above the new length stays
    ∷ over (plain k WRITE 10 2) "mn" (says 0 0 0x0000 2 12 "ABCDEFGH\0\0mnXXXX" 0 "..")
    ∷ over (plain k PUNCH 5 2) "" (says 0 0 0x0000 2 6 "ABCDEH\0\0XXXXXXXX" 0 "..")
    -- a range that ends at 2^64 lies inside an all-ones capability; one that passes it doesn't
    ∷ example (plain (capability 0 0xFFFF_FFFF_FFFF_FFFF) CLEAR 0xFFFF_FFFF_FFFF_FFFE 2) "" (says 14 7 0x5507 0 8 "ABCDEFGH" 8 "..")
    ∷ example (plain (capability 0 0xFFFF_FFFF_FFFF_FFFF) CLEAR 0xFFFF_FFFF_FFFF_FFFE 3) "" (says 11 5 0x2400 0 8 "ABCDEFGH" 8 "...")
    -- row 12 asks every range, an empty one and a later one too
    ∷ example (two k READ 0 2 9 0) "" (says 12 5 0x2400 0 8 "ABCDEFGH" 8 "..")
    -- an empty range at logical length is no fault, and READ goes on behind it
    ∷ example (two k READ 8 0 0 2) "" (says 0 0 0x0000 2 8 "ABCDEFGH" 8 "AB")
    -- an empty list wants a capability that matches
    ∷ example (request k READ 0 0 true [] []) "" (unchanged 0 0 0x0000)
    ∷ example (request (zeros 104) READ 0 0 true [] []) "" (unchanged 11 5 0x2400)
    ∷ []

pub held : map (λ (e : Example). e.got) examples ≡ map (λ (e : Example). e.due) examples
unfolding examples text slice capability request called sent seen says
held = refl

-- The admission question: which capability admits a range of a written command, by the place where it stands.
abbrev standing : Option Held → Option (Lent × ℕ)
standing None = None
standing (Some h) = Some (h.lent, h.at)

abbrev ask : Request → (start size : ℕ) → Option (Lent × ℕ)
ask q start size =
    standing (question (record { cdb = cdb_for q; out = segment_for q; on = rota 8 }) (record { start = start; size = size }))

abbrev asked : List (Option (Lent × ℕ))
asked =
    -- the CDB's comes first, then the segment's in their order
    ask (plain (k ++ k) READ 0 1) 3 4
    ∷ ask (plain (capability 0 1 ++ capability 2 3 ++ capability 2 8) READ 0 1) 2 3
    ∷ ask (plain (capability 0 1 ++ capability 2 3 ++ capability 2 8) READ 0 1) 2 4
    -- none admits it
    ∷ ask (plain k READ 0 1) 15 2
    -- row 9 isn't looked at: a list, and a starting address that is not zero
    ∷ ask (request k READ 5 0 true (0 ∷ []) (1 ∷ [])) 3 4
    -- nor is row 10: on WRITE, two entries that share a position
    ∷ ask (two k WRITE 0 2 1 2) 3 4
    -- row 8 is: a list on CLEAR
    ∷ ask (request k CLEAR 0 0 true (0 ∷ []) (1 ∷ [])) 3 4
    ∷ []

pub answers : asked ≡ Some (in_cdb, 80) ∷ Some (in_out, 48) ∷ Some (in_out, 152) ∷ None ∷ Some (in_cdb, 80) ∷ Some (in_cdb, 80) ∷ None ∷ []
unfolding text slice capability request called
answers = refl
