-- The capabilities of an extension: one after the other, each 104 bytes of the segment.
use Rattle.std.specs.Prelude.{ℕ, zero, suc, ◌+◌, ◌-◌, ◌*◌, ◌≤◌, ◌≡◌, take, drop}
use mathlib.Core.Path.{refl, ap, ◌∙◌}
use native.Mathlib.Omega.{arith}
use lib.Seq.{drop-drop}
use Rattle.std.specs.Simd.{first_chunks}
use Rattle.std.proofs.lemmas.List.{drop-take, take-take}
use Rattle.rules.specs.Bytes.{Bytes, part}
use Rattle.rules.specs.Segment.{places_from}
use Rattle.capability.specs.Pieces.{pieces_from}

-- the chunks of a part of the segment
pub chunks_are : (n m at : ℕ) (s : Bytes) → 104 * n ≤ m → first_chunks 104 n (take m (drop at s)) ≡ pieces_from s n at
unfolding places_from
chunks_are zero m at s h = refl
chunks_are (suc n) m at s h =
    let one : take 104 (take m (drop at s)) ≡ part at 104 s = take-take 104 m (drop at s) (omega arith) in
    let e : m ≡ 104 + (m - 104) = omega arith in
    let rest : drop 104 (take m (drop at s)) ≡ take (m - 104) (drop (at + 104) s) =
    ap (λ (k : ℕ). drop 104 (take k (drop at s))) e ∙ drop-take 104 (m - 104) (drop at s) ∙ ap (take (m - 104)) (drop-drop 104 at s) in
    rw (one, rest, chunks_are n (m - 104) (at + 104) s (omega arith))
