-- Two slices of numbers as ranges: what stands at a position, and what the sizes come to.
use Prim.Native.Nat.{ℕ, zero, suc, ◌+◌, ◌≤◌, ◌<◌}
use mathlib.Core.Path.{◌≡◌, refl, ap, sym, ◌∙◌}
use mathlib.Core.Bool.{Bool, true, false, ◌||◌}
use mathlib.Core.List.{List, [], ◌∷◌, ◌++◌}
use native.Mathlib.Numerals.{add-one}
use native.Mathlib.Omega.{arith}
use lib.ListN.{length, take, drop, get_or, set}
use lib.Seq.{take-suc-set, length-take-le}
use Rattle.rules.specs.declared.Range.{Range}
use Rattle.rules.specs.Bytes.{any}
use Rattle.rules.specs.Ranges.{total}
use Rattle.rules.specs.Writer.{paired}

-- the range that stands at i
abbrev pub pair_at : (offsets lengths : List ℕ) → (i : ℕ) → Range
pair_at os ns i = record { start = get_or os i 0; size = get_or ns i 0 }

-- of the first n ranges, those from i on begin with the one at i
pub next_pair : (n i : ℕ) (os ns : List ℕ) → i < n → n ≤ length os → n ≤ length ns
    → drop i (paired (take n os) (take n ns)) ≡ pair_at os ns i ∷ drop (suc i) (paired (take n os) (take n ns))
unfolding paired
next_pair zero i os ns l h k = absurd (omega arith)
next_pair (suc n) i [] ns l h k = absurd (omega arith)
next_pair (suc n) i (o ∷ os) [] l h k = absurd (omega arith)
next_pair (suc n) zero (o ∷ os) (m ∷ ns) l h k = refl
next_pair (suc n) (suc i) (o ∷ os) (m ∷ ns) l h k = next_pair n i os ns (omega arith) (omega arith) (omega arith)

-- and from n on there are none
pub no_pair : (n : ℕ) (os ns : List ℕ) → drop n (paired (take n os) (take n ns)) ≡ []
unfolding paired
no_pair zero os ns = refl
no_pair (suc n) [] ns = refl
no_pair (suc n) (o ∷ os) [] = refl
no_pair (suc n) (o ∷ os) (m ∷ ns) = no_pair n os ns

-- the first n ranges of two lists
abbrev pub pairs : (os ns : List ℕ) (n : ℕ) → List Range
pairs os ns n = paired (take n os) (take n ns)

-- one range more, behind the others
paired_snoc : (os ns : List ℕ) (o n : ℕ) → length os ≡ length ns
    → paired (os ++ (o ∷ [])) (ns ++ (n ∷ [])) ≡ paired os ns ++ (record { start = o; size = n } ∷ [])
unfolding paired
paired_snoc [] [] o n e = refl
paired_snoc [] (b ∷ ns) o n e = absurd (omega arith)
paired_snoc (a ∷ os) [] o n e = absurd (omega arith)
paired_snoc (a ∷ os) (b ∷ ns) o n e = ap (λ (gs : List Range). record { start = a; size = b } ∷ gs) (paired_snoc os ns o n (omega arith))

pub paired_more : (os ns : List ℕ) (i o n : ℕ) → i < length os → i < length ns
    → paired (take (i + 1) (set os i o)) (take (i + 1) (set ns i n)) ≡ paired (take i os) (take i ns) ++ (record { start = o; size = n } ∷ [])
paired_more os ns i o n h k =
    let same : length (take i os) ≡ length (take i ns) = length-take-le i os (omega arith) ∙ sym (length-take-le i ns (omega arith)) in
    rw (add-one i, take-suc-set os i o h, take-suc-set ns i n k) (paired_snoc (take i os) (take i ns) o n same)

-- the sum of the sizes alone
unfoldable pub sum : List ℕ → ℕ
sum [] = 0
sum (n ∷ ns) = n + sum ns

pub total_sum : (os ns : List ℕ) → length os ≡ length ns → total (paired os ns) ≡ sum ns
unfolding paired total sum
total_sum [] [] e = refl
total_sum [] (n ∷ ns) e = absurd (omega arith)
total_sum (o ∷ os) [] e = absurd (omega arith)
total_sum (o ∷ os) (n ∷ ns) e = ap (λ (m : ℕ). n + m) (total_sum os ns (omega arith))
