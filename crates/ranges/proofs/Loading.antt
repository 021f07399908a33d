-- A list's entries taken apart into two slices, one more at a time: those taken and those left are all of them.
use Prim.Native.Nat.{ℕ, zero, suc, ◌+◌, ◌≤◌, ◌<◌}
use mathlib.Core.Path.{◌≡◌, refl, ap, sym, ◌∙◌}
use mathlib.Core.Bool.{false}
use mathlib.Core.List.{List, [], ◌∷◌, ◌++◌, append_assoc, append-nil}
use native.Mathlib.Omega.{arith}
use lib.ListN.{length, set, length-set}
use Rattle.rules.specs.declared.Range.{Range}
use Rattle.rules.specs.Bytes.{Bytes, any}
use Rattle.rules.specs.Ranges.{overlapping}
use Rattle.rules.specs.Segment.{entries_from}
use Rattle.rules.specs.Writer.{paired}
use Rattle.rules.proofs.Entries.{entries_count}
use Rattle.rules.proofs.Paired.{pairs, paired_more}

pub record Loaded (all : List Range) (os ns : List ℕ) (k : ℕ) (left : List Range) : Type 0 where
  pub so_far : pairs os ns k ++ left ≡ all
  pub count : k + length left ≡ length all
  pub offsets : length os ≡ 64
  pub lengths : length ns ≡ 64

pub loaded_none : (all : List Range) (os ns : List ℕ) (k : ℕ) (left : List Range) → k ≡ 0 → left ≡ all → length os ≡ 64 → length ns ≡ 64
    → Loaded all os ns k left
unfolding paired
loaded_none all os ns k left z e h l = rw (z, e) (record { so_far = refl; count = omega arith; offsets = h; lengths = l })

module _ (all : List Range) (os ns : List ℕ) (k : ℕ) where
  pub loaded_more : (i j : ℕ) (g : Range) (gs left : List Range)
      → Loaded all os ns k left → left ≡ g ∷ gs → length all ≤ 64 → i ≡ k → j ≡ k + 1
      → Loaded all (set os i g.start) (set ns i g.size) j gs
  loaded_more i j g gs left l e f z w =
      let c : k + length (g ∷ gs) ≡ length all = ap (λ (hs : List Range). k + length hs) (sym e) ∙ l.count in
      rw (z, w)
      (record {
        so_far =
            ap (λ (hs : List Range). hs ++ gs) (paired_more os ns k g.start g.size (omega (arith, l.offsets, c)) (omega (arith, l.lengths, c)))
            ∙ append_assoc (pairs os ns k) (g ∷ []) gs
            ∙ ap (λ (hs : List Range). pairs os ns k ++ hs) (sym e)
            ∙ l.so_far;
        count = omega (arith, c);
        offsets = length-set os k g.start ∙ l.offsets;
        lengths = length-set ns k g.size ∙ l.lengths;
      })

  pub loaded_all : (n : ℕ) → Loaded all os ns k [] → length all ≡ n → pairs os ns n ≡ all
  loaded_all n l e =
      let z : k ≡ n = omega (arith, l.count) in
      ap (pairs os ns) (sym z) ∙ sym (append-nil (pairs os ns k)) ∙ l.so_far

-- fewer than two entries have no two that share a position
pub few_apart : (s : Bytes) (n start : ℕ) → n < 2 → false ≡ overlapping (entries_from n s start)
unfolding overlapping any entries_from
few_apart s zero start h = refl
few_apart s (suc zero) start h = refl
few_apart s (suc (suc n)) start h = absurd (omega arith)

-- what `ranges::overlap_in` meets its contract by
pub ruleset loading = (loaded_none, loaded_all, few_apart, entries_count)
