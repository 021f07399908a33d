-- Demand 3's premises are needed: for each, two sessions that meet all the others and in which the first caller is answered differently.
use Rattle.std.specs.Prelude.{ℕ, ◌≡◌, List, [], ◌∷◌, ◌++◌, replicate}
use Prim.Native.Char.{code}
use Prim.Native.String.{String}
use Rattle.rules.specs.Bytes.{Bytes}
use Rattle.rules.specs.Session
use Rattle.rules.specs.Session.{Caller, first, second, Sent, Premise, same_commands, no_punch, apart, same_size, same_bytes, same_lengths}
use Rattle.rules.specs.Session.{Holds, SameReplies}
use Rattle.rules.specs.Writer.{Request, cdb_for, segment_for, length_for}
use Rattle.rules.specs.Command.{READ, WRITE, PUNCH}
use Rattle.rules.specs.Samples.{text, slice, capability, request, plain, called, rota}

-- Both start with the record `rota 8`: the logical length is 8.
pub record Sessions : Type 0 where
  pub a : Bytes
  pub b : Bytes
  pub xs : List Sent
  pub ys : List Sent

-- a command of the host's writer with its command data; Data-In has LENGTH bytes, dots
abbrev written : Caller → Request → (d : String) → Sent
written who q d = record { by = who; cdb = cdb_for q; out = segment_for q ++ text d; input = replicate (length_for q) (code ".") }

-- a command on `size` positions from `start` on, with a capability for just these, READ and WRITE
unfoldable from : Caller → (action start size : ℕ) → (d : String) → Sent
from who action start size d = written who (plain (capability start size) action start size) d

abbrev reads : (start size : ℕ) → Sent
reads start size = from first READ start size ""

-- sessions on slices that hold the same
abbrev on : (xs ys : List Sent) → Sessions
on xs ys = record { a = slice "ABCDEFGH" 8; b = slice "ABCDEFGH" 8; xs = xs; ys = ys }

unfoldable pub sessions : Premise → Sessions
unfolding text slice capability request called from Session.meets Session.told Session.after Session.reply Session.firsts Session.sends
    Session.replies Session.lengths Session.lets Session.may Session.punches
-- the first asks for C, and for D
sessions same_commands = on (reads 2 1 ∷ []) (reads 3 1 ∷ [])
-- the first reads G and H, which the second's PUNCH has moved down; in the other session E and F
sessions no_punch = on (from second PUNCH 0 2 "" ∷ reads 4 2 ∷ []) (from second PUNCH 6 2 "" ∷ reads 4 2 ∷ [])
-- the first reads z, which the second has written, and C
sessions apart = on (from second WRITE 2 1 "z" ∷ reads 2 1 ∷ []) (reads 2 1 ∷ [])
-- only one slice has room for what the first writes
sessions same_size =
    record { a = slice "ABCDEFGH" 1; b = slice "ABCDEFGH" 0; xs = from first WRITE 8 1 "z" ∷ []; ys = from first WRITE 8 1 "z" ∷ [] }
-- the first reads C, and X
sessions same_bytes = record { a = slice "ABCDEFGH" 8; b = slice "ABXDEFGH" 8; xs = reads 2 1 ∷ []; ys = reads 2 1 ∷ [] }
-- the first reads a zero, for the second has raised the length; in the other session the range starts above it
sessions same_lengths = on (from second WRITE 10 1 "z" ∷ reads 9 1 ∷ []) (reads 9 1 ∷ [])

-- every premise but m holds of m's sessions, and the first is answered differently
pub record Needed (m : Premise) : Type 0 where
  pub others : (n : Premise) → (n ≡ m → ⊥) → Holds n (rota 8) (sessions m).a (sessions m).b (sessions m).xs (sessions m).ys
  pub differs : SameReplies (rota 8) (sessions m).a (sessions m).b (sessions m).xs (sessions m).ys → ⊥
