-- Two slices as ranges: one range held against those of two slices, and each held against those behind it.
use Prim.Native.Nat.{ℕ, zero, suc, ◌+◌, ◌-◌, ◌≤◌, ◌<◌}
use mathlib.Core.Path.{◌≡◌, refl, ap, ◌∙◌}
use mathlib.Core.Bool.{Bool, false, ◌||◌}
use mathlib.Core.List.{List, [], ◌∷◌}
use native.Mathlib.Omega.{arith}
use native.Mathlib.Numerals.{add-one}
use lib.ListN.{length, take, drop}
use Rattle.std.specs.List.{list_any, zip, slice_range}
use Rattle.std.proofs.lemmas.List.{drop-take}
use Rattle.rules.specs.declared.Range.{Range}
use Rattle.rules.specs.Bytes.{any}
use Rattle.rules.specs.Ranges.{meet, overlapping}
use Rattle.rules.specs.Writer.{paired}
use Rattle.rules.proofs.Paired.{pair_at, pairs, next_pair, no_pair}

-- two slices side by side
pub met_pairs : (test : Range → Bool) (os ns : List ℕ)
    → list_any (λ (p : ℕ × ℕ). test (record { start = p.0; size = p.1 })) (zip os ns) ≡ any test (paired os ns)
unfolding any paired
met_pairs test [] ns = refl
met_pairs test (o ∷ os) [] = refl
met_pairs test (o ∷ os) (n ∷ ns) = ap (λ (b : Bool). test (record { start = o; size = n }) || b) (met_pairs test os ns)

paired_drop : (i : ℕ) (os ns : List ℕ) → drop i (paired os ns) ≡ paired (drop i os) (drop i ns)
unfolding paired
paired_drop zero os ns = refl
paired_drop (suc i) [] ns = refl
paired_drop (suc i) (o ∷ os) [] = no_sizes (drop i os)
  where
    no_sizes : (xs : List ℕ) → [] ≡ paired xs []
    no_sizes [] = refl
    no_sizes (x ∷ xs) = refl
paired_drop (suc i) (o ∷ os) (n ∷ ns) = paired_drop i os ns

drop_of_first : (i n : ℕ) (xs : List ℕ) → i ≤ n → drop i (take n xs) ≡ slice_range xs i n
drop_of_first i n xs l = let e : n ≡ i + (n - i) = omega arith in ap (λ (m : ℕ). drop i (take m xs)) e ∙ drop-take i (n - i) xs

-- the ranges from i on: the one at i, held against those behind it
module _ (os ns : List ℕ) (n i : ℕ) where
  pub overlap_next : i < n → n ≤ length os → n ≤ length ns
      → overlapping (drop i (pairs os ns n))
      ≡ (any (meet (pair_at os ns i)) (paired (slice_range os (i + 1) n) (slice_range ns (i + 1) n)) || overlapping (drop (i + 1) (pairs os ns n)))
  unfolding overlapping
  overlap_next l h k =
      let later : drop (i + 1) (pairs os ns n) ≡ paired (slice_range os (i + 1) n) (slice_range ns (i + 1) n) =
      paired_drop (i + 1) (take n os) (take n ns)
      ∙ rw (drop_of_first (i + 1) n os (omega arith), drop_of_first (i + 1) n ns (omega arith)) in
      rw (next_pair n i os ns l h k, add-one i)
      (ap (λ (gs : List Range). any (meet (pair_at os ns i)) gs || overlapping (drop (suc i) (pairs os ns n))) (rw add-one at later))

  pub overlap_end : n ≤ i → i ≤ n → overlapping (drop i (pairs os ns n)) ≡ false
  unfolding overlapping
  overlap_end l m = let e : i ≡ n = omega arith in rw (e, no_pair n os ns)

-- what `ranges::overlap` meets its contract by
pub ruleset overlaps = (overlap_next, overlap_end)
