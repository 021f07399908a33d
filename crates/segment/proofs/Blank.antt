-- Whether bytes are blank, asked of each of them.
use Rattle.std.proofs.Common.{◌≡◌, refl, ap, ◌∙◌, ℕ, ◌-◌, ◌≤◌, ◌&&◌, eqb, length, take, drop, [], ◌∷◌}
use native.Mathlib.Omega.{arith}
use lib.ListN.{length-drop}
use lib.Seq.{take_all}
use Rattle.std.specs.List.{list_all}
use Rattle.rules.specs.Bytes.{Bytes, blank}

all_blank : (s : Bytes) → list_all (λ (b : ℕ). eqb b 0) s ≡ blank s
unfolding blank
all_blank [] = refl
all_blank (b ∷ s) = ap (λ r. eqb b 0 && r) (all_blank s)

-- the bytes from a position on, as many as there are or more
pub left_blank : (s : Bytes) (at k : ℕ) → length s - at ≤ k → list_all (λ (b : ℕ). eqb b 0) (take k (drop at s)) ≡ blank (drop at s)
left_blank s at k h =
    ap (list_all (λ (b : ℕ). eqb b 0)) (take_all k (drop at s) (omega (arith, h, length-drop at s))) ∙ all_blank (drop at s)
