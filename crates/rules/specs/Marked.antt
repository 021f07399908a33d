-- Document 01's marked examples, W1 to W14, as one table.
use Rattle.std.specs.Prelude.{◌≡◌, refl, List, [], ◌∷◌, map}
use Rattle.rules.specs.Bytes.{Bytes}
use Rattle.rules.specs.Writer.{Request}
use Rattle.rules.specs.Command.{READ, WRITE, CLEAR, PUNCH}
use Rattle.rules.specs.Samples.{text, slice, capability, request, sent, seen, says, plain, two, rota, Example, example, after}

-- one capability, range 0 to 16; an all-ones one from 0; one of 4 to 8
abbrev k : Bytes
k = capability 0 16

abbrev everything : Bytes
everything = capability 0 0xFFFF_FFFF_FFFF_FFFF

abbrev k48 : Bytes
k48 = capability 4 4

abbrev W5 : Request
W5 = two k WRITE 1 2 5 2

pub examples : List Example
examples =
    -- W1 READ 2, length 3
    example (plain k READ 2 3) "" (says 0 0 0x0000 3 8 "ABCDEFGH" 8 "CDE")
    -- W2 READ 6, 4
    ∷ example (plain k READ 6 4) "" (says 15 1 0x3B17 2 8 "ABCDEFGH" 8 "GH..")
    -- W3 READ 8, 1
    ∷ example (plain k READ 8 1) "" (says 15 1 0x3B17 0 8 "ABCDEFGH" 8 ".")
    -- W4 READ 9, 0
    ∷ example (plain k READ 9 0) "" (says 12 5 0x2400 0 8 "ABCDEFGH" 8 "")
    -- W5 WRITE list (1,2)(5,2), "wxyz"
    ∷ example W5 "wxyz" (says 0 0 0x0000 4 8 "AwxDEyzH" 8 "....")
    -- W6 W5, then READ list (5,2)(1,2)
    ∷ after (sent W5 "wxyz" (rota 8) (slice "ABCDEFGH" 8)) (two k READ 5 2 1 2) "" (says 0 0 0x0000 4 8 "AwxDEyzH" 8 "yzwx")
    -- W7 WRITE list (1,2)(2,2), LENGTH 4
    ∷ example (two k WRITE 1 2 2 2) "wxyz" (says 10 5 0x2600 0 8 "ABCDEFGH" 8 "....")
    -- W8 WRITE list (1,2)(15,2), "wxyz"; with an all-ones capability from 0
    ∷ example (two k WRITE 1 2 15 2) "wxyz" (says 11 5 0x2400 0 8 "ABCDEFGH" 8 "....")
    ∷ example (two everything WRITE 1 2 15 2) "wxyz" (says 14 7 0x5507 0 8 "ABCDEFGH" 8 "....")
    -- W9 WRITE 10, "mn"
    ∷ example (plain k WRITE 10 2) "mn" (says 0 0 0x0000 2 12 "ABCDEFGH\0\0mn" 4 "..")
    -- W10 PUNCH 5, 2
    ∷ example (plain k PUNCH 5 2) "" (says 0 0 0x0000 2 6 "ABCDEH" 10 "..")
    -- W11 PUNCH 5, 9
    ∷ example (plain k PUNCH 5 9) "" (says 0 0 0x0000 3 5 "ABCDE" 11 ".........")
    -- W12 CLEAR 7, 3
    ∷ example (plain k CLEAR 7 3) "" (says 0 0 0x0000 3 10 "ABCDEFG\0\0\0" 6 "...")
    -- W13 WRITE 12, 0
    ∷ example (plain k WRITE 12 0) "" (says 0 0 0x0000 0 8 "ABCDEFGH" 8 "")
    -- W14 capability 4 to 8: READ 4,4 / 3,2 / 4,5
    ∷ example (plain k48 READ 4 4) "" (says 0 0 0x0000 4 8 "ABCDEFGH" 8 "EFGH")
    ∷ example (plain k48 READ 3 2) "" (says 11 5 0x2400 0 8 "ABCDEFGH" 8 "..")
    ∷ example (plain k48 READ 4 5) "" (says 11 5 0x2400 0 8 "ABCDEFGH" 8 ".....")
    ∷ []

pub marked : map (λ (e : Example). e.got) examples ≡ map (λ (e : Example). e.due) examples
unfolding examples text slice capability request sent seen says
marked = refl
