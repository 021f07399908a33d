-- A range is cut out of the object, which is the first n bytes of the slice.
use Prim.Native.Nat.{ℕ, ◌+◌, ◌-◌, ◌≤◌, ◌<◌, min}
use mathlib.Core.Path.{◌≡◌, ap, ◌∙◌}
use mathlib.Core.Logic.{⊎_elim}
use mathlib.Core.List.{◌++◌, append-nil}
use native.Mathlib.Omega.{arith}
use lib.ListN.{length, take, drop, length-append, length-take, length-drop, length-replicate, take-append-drop, drop_of_length-le}
use Rattle.std.proofs.lemmas.List.{drop-take}
use lib.Seq.{take-take, take_at, take-add, drop_at, drop-drop}
use Rattle.rules.specs.declared.Range.{Range}
use Rattle.rules.specs.Bytes.{Bytes, part, zeros, laid}
use Rattle.rules.specs.Ranges.{end}
use Rattle.rules.specs.Object.{punched}
use Rattle.rules.proofs.Booleans.{lt_or_le}
use Rattle.rules.proofs.Laying.{length_part}

further : (from more to : ℕ) (s t : Bytes) → from + more ≡ to → drop from s ≡ drop from t → drop to s ≡ drop to t
further from more to s t e same = rw (← e, ← drop-drop more from s, same) (drop-drop more from t)

-- what is left of the object's n bytes
abbrev left : Range → (n : ℕ) → Bytes → Bytes
left g n s = punched g (take n s)

-- and the whole slice: the freed bytes are zero
abbrev cut : Range → (n : ℕ) → Bytes → Bytes
cut g n s = left g n s ++ zeros (n - length (left g n s)) ++ drop n s

module _ (g : Range) (n : ℕ) (s : Bytes) (begins : g.start ≤ n) (fits : n ≤ length s) where
  -- how many of its bytes the object has
  abbrev count : ℕ
  count = length (part g.start g.size (take n s))

  counted : count ≡ min g.size (n - g.start)
  counted = simp (length-take, length-drop) (omega arith)

  back : drop (end g) (take n s) ≡ part (g.start + count) (n - g.start - count) s
  back = ⊎_elim past inside (lt_or_le (n - g.start) g.size)
    where
      past : n - g.start < g.size → drop (end g) (take n s) ≡ part (g.start + count) (n - g.start - count) s
      past h =
          let z : n - g.start - count ≡ 0 = omega (arith, counted) in
          rw z (drop_of_length-le (take n s) (omega (arith, length-take n s)))

      inside : g.size ≤ n - g.start → drop (end g) (take n s) ≡ part (g.start + count) (n - g.start - count) s
      inside h =
          let y : n ≡ end g + (n - end g) = omega arith in
          let z : n - g.start - count ≡ n - end g = omega (arith, counted) in
          let k : g.start + count ≡ end g = omega (arith, counted) in
          rw (z, k) (ap (λ (m : ℕ). drop (end g) (take m s)) y ∙ drop-take (end g) (n - end g) s)

  left_is : left g n s ≡ take g.start s ++ part (g.start + count) (n - g.start - count) s
  unfolding punched
  left_is = rw (take-take g.start n s begins, back)

  left_length : length (left g n s) ≡ g.start + (n - g.start - count)
  left_length = rw left_is (simp (length-append, length-take, length-drop) (omega (arith, counted)))

  -- so many bytes are freed
  pub freed : n - length (left g n s) ≡ count
  freed = omega (arith, left_length, counted)

  -- nothing of the range lies in the object
  pub cut_nothing : count ≡ 0 → cut g n s ≡ s
  cut_nothing z =
      let b : n - g.start - count ≡ n - g.start = omega (arith, z) in
      let k : g.start + count ≡ g.start = omega (arith, z) in
      let w : g.start + (n - g.start) ≡ n = omega arith in
      let whole : left g n s ≡ take n s = left_is ∙ rw (b, k, ← take-add, w) in
      rw (freed, z, whole, append-nil) (take-append-drop n s)

  -- what follows the range moves down, and then zeros are laid behind it
  pub cut_done : laid (g.start + (n - g.start - count)) (zeros count) (laid g.start (part (g.start + count) (n - g.start - count) s) s) ≡ cut g n s
  unfolding laid
  cut_done =
      let m : ℕ = n - g.start - count in
      let moved : Bytes = laid g.start (part (g.start + count) m s) s in
      let p : length (part (g.start + count) m s) ≡ m = length_part (g.start + count) m s (omega (arith, counted)) in
      let w : g.start + m + count ≡ n = omega (arith, counted) in
      let front : moved ≡ left g n s ++ drop (g.start + m) s = rw (p, ← left_is) in
      let low : take (g.start + m) moved ≡ left g n s = rw front (take_at (left g n s) _ (g.start + m) left_length) in
      let high : drop (g.start + m) moved ≡ drop (g.start + m) s = rw front (drop_at (left g n s) _ (g.start + m) left_length) in
      let rest : drop n moved ≡ drop n s = further (g.start + m) count n moved s w high in
      rw (length-replicate, w, low, rest, freed)

-- what `object::punch` meets its contract by
pub ruleset cutting = (freed, cut_nothing, cut_done)
