-- What the question's functions answer, over a command that was read: the place of a capability in CDB or segment.
use Rattle.std.specs.Prelude.{Option, None, Some, ℕ, ◌+◌, ◌/◌, ◌≡◌, Bool, cond, List, [], ◌∷◌}
use Rattle.std.specs.Borrow.{Bor}
use Rattle.rules.specs.declared.Record.{Record}
use Rattle.rules.specs.declared.Range.{Range}
use Rattle.rules.specs.declared.Part.{Part}
use Rattle.rules.specs.Bytes.{Bytes, part}
use Rattle.rules.specs.Segment.{places_from}
use Rattle.rules.specs.Reading.{Lent, in_cdb, in_out, Held}
use Rattle.header.specs.declared.Parsed.{Parsed}
use Rattle.capability.specs.Sought.{sought_by, admits_in}
use Rattle.question.specs.declared.Place.{Place}
use Rattle.question.specs.declared.Place.TheVariants.{InCdb, InOut}

abbrev pub place_in : Lent → ℕ → Place
place_in in_cdb at = InCdb
place_in in_out at = InOut at

-- where the capability stands that the book hands back
abbrev pub place_of : Option Held → Option Place
place_of None = None
place_of (Some h) = Some (place_in h.lent h.at)

-- the first capability of the extension that passes a test
unfoldable pub first_at : (Bytes → Bool) → Bytes → List ℕ → Option Place
first_at t s [] = None
first_at t s (a ∷ ps) = cond (t (part a 104 s)) (Some (InOut a)) (first_at t s ps)

unfoldable pub first_from : (Bytes → Bool) → Bytes → Part → Option Place
first_from t s d = first_at t s (places_from (d.size / 104) d.at)

abbrev pub first_spot : (Bytes → Bool) → Bytes → Option Part → Option Place
first_spot t s None = None
first_spot t s (Some d) = first_from t s d

-- the first capability of the command that admits a range
unfoldable pub first_in : (cdb s : Bytes) → Parsed → Record → Range → Option Place
first_in cdb s p on g =
    cond (admits_in (sought_by p on) g (part 80 104 cdb)) (Some InCdb) (first_spot (admits_in (sought_by p on) g) s p.found.extension)

-- the part that is handed back: its bytes, and the place where they stand; an empty part of the CDB where there is none
abbrev pub bytes_at : Option Place → (cdb out : Bytes) → Bytes
bytes_at None cdb out = []
bytes_at (Some InCdb) cdb out = part 80 104 cdb
bytes_at (Some (InOut at)) cdb out = part at 104 out

abbrev pub point_at : Option Place → (cdb out : ℕ × ℕ) → ℕ × ℕ
point_at None cdb out = (cdb.0, 0 + cdb.1)
point_at (Some InCdb) cdb out = (cdb.0, 80 + cdb.1)
point_at (Some (InOut at)) cdb out = (out.0, at + out.1)

pub record Handed (p : Option Place) (cdb out r : Bor (List ℕ)) : Type 0 where
  pub bytes : r.now ≡ bytes_at p cdb.now out.now
  pub place : r.ref_ptr ≡ point_at p cdb.ref_ptr out.ref_ptr
