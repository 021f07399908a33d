-- Entries and capabilities that stand in a segment, read one after another.
use Prim.Native.Nat.{ℕ, zero, suc, ◌+◌, ◌*◌, ◌^◌, ◌<◌}
use mathlib.Core.Path.{◌≡◌, refl, ap, ap₂, sym, subst, ◌∙◌}
use mathlib.Core.List.{List, [], ◌∷◌, ◌++◌, map, append_assoc}
use native.Mathlib.Omega.{arith}
use lib.ListN.{length, take, drop, get_or, take-append-drop, length-drop}
use lib.Seq.{length-take-le}
use Rattle.rules.specs.declared.Range.{Range}
use Rattle.rules.specs.Bytes.{Bytes, part, to_be}
use Rattle.rules.specs.Command.{Command, segment}
use Rattle.rules.specs.Segment.{entry_at, entries_from, places_from}
use Rattle.rules.specs.Reading.{Held, extension}
use Rattle.rules.specs.Writer.{paired, spelled}
use Rattle.rules.specs.ReadBack.{pieces}
use Rattle.rules.proofs.BigEndian.{length_to_be}
use Rattle.rules.proofs.Standing.{Stands, at_front, all_of_it, behind, within, elsewhere, part_there, field_there}

-- every number of the ranges fits 64 bits
abbrev pub Small : List Range → Type 0
Small [] = Unit {0}
Small (g ∷ gs) = (g.start < 2 ^ 64) × (g.size < 2 ^ 64) × Small gs

pub small_paired : (os ns : List ℕ) → ((i : ℕ) → get_or os i 0 < 2 ^ 64) → ((i : ℕ) → get_or ns i 0 < 2 ^ 64) → Small (paired os ns)
unfolding paired
small_paired [] ns h k = tt
small_paired (o ∷ os) [] h k = tt
small_paired (o ∷ os) (n ∷ ns) h k = (h 0, k 0, small_paired os ns (λ i. h (suc i)) (λ i. k (suc i)))

pub entries_there : (gs : List Range) (s : Bytes) (at : ℕ) → Stands at (spelled gs) s → Small gs → entries_from (length gs) s at ≡ gs
unfolding entries_from entry_at spelled
entries_there [] s at k h = refl
entries_there (g ∷ gs) s at k h =
    let whole : Stands at (to_be 8 g.start ++ (to_be 8 g.size ++ spelled gs)) s =
    subst (λ (x : Bytes). Stands at x s) (append_assoc (to_be 8 g.start) (to_be 8 g.size) (spelled gs)) k in
    let first : Stands at (to_be 8 g.start) s =
    elsewhere (omega arith) (within (at_front (to_be 8 g.start) (to_be 8 g.size ++ spelled gs)) whole) in
    let second : Stands (at + 8) (to_be 8 g.size) s =
    within (behind 8 (to_be 8 g.start) (length_to_be 8 g.start) (at_front (to_be 8 g.size) (spelled gs))) whole in
    let later : Stands (at + 16) (spelled gs) s =
    within (behind 8 (to_be 8 g.start) (length_to_be 8 g.start) (behind 8 (to_be 8 g.size) (length_to_be 8 g.size) (all_of_it (spelled gs)))) whole in
    rw (field_there 8 first h.0, field_there 8 second h.1, entries_there gs s (at + 16) later h.2)

-- n capabilities
pub pieces_there : (n : ℕ) (k s : Bytes) (at : ℕ) → Stands at k s → length k ≡ 104 * n → map (λ (a : ℕ). part a 104 s) (places_from n at) ≡ pieces n k
unfolding places_from pieces
pieces_there zero k s at st e = refl
pieces_there (suc n) k s at st e =
    let front : length (take 104 k) ≡ 104 = length-take-le 104 k (omega arith) in
    let split : Stands at (take 104 k ++ drop 104 k) s = subst (λ (x : Bytes). Stands at x s) (sym (take-append-drop 104 k)) st in
    let first : Stands at (take 104 k) s = elsewhere (omega arith) (within (at_front (take 104 k) (drop 104 k)) split) in
    let later : Stands (at + 104) (drop 104 k) s = within (behind 104 (take 104 k) front (all_of_it (drop 104 k))) split in
    ap₂ (λ (x : Bytes) (xs : List Bytes). x ∷ xs) (part_there first front)
    (pieces_there n (drop 104 k) s (at + 104) later (length-drop 104 k ∙ omega arith))

-- the bytes of the segment's capabilities
pub held_bytes : (c : Command) (xs : List ℕ)
    → map (λ (k : Held). k.bytes) (map (extension c) xs) ≡ map (λ (a : ℕ). part a 104 (segment c)) xs
unfolding extension
held_bytes c [] = refl
held_bytes c (x ∷ xs) = ap (λ (ys : List Bytes). part x 104 (segment c) ∷ ys) (held_bytes c xs)
