-- What an iterator over a list's entries has left: the first entry of its bytes and those behind it, or none.
use Prim.Native.Nat.{ℕ, zero, suc, ◌+◌, ◌-◌, ◌*◌, ◌/◌, ◌≤◌, ◌<◌}
use mathlib.Core.Path.{◌≡◌, refl, ap, ◌∙◌}
use mathlib.Core.List.{[], ◌∷◌}
use native.Mathlib.Omega.{arith}
use lib.ListN.{length, take, drop, length-drop}
use lib.Seq.{drop-drop, length-take-le}
use Rattle.std.proofs.lemmas.List.{drop-take, take-take}
use Rattle.rules.specs.declared.Range.{Range}
use Rattle.rules.specs.Bytes.{Bytes, part, field}
use Rattle.rules.specs.Segment.{entry_at, entries_from}
use Rattle.rules.proofs.Entries.{first_entry, no_entry}
use Rattle.segment.specs.declared.ListEntries.{ListEntries}
use Rattle.segment.specs.Left.{entries_left}

-- among the bytes from k on, and among the first m
part_behind : (k at n : ℕ) (s : Bytes) → part at n (drop k s) ≡ part (k + at) n s
part_behind k at n s = ap (take n) (drop-drop at k s)

part_ahead : (m at n : ℕ) (s : Bytes) → at + n ≤ m → part at n (take m s) ≡ part at n s
part_ahead m at n s h =
    let e : m ≡ at + (m - at) = omega arith in
    ap (λ (k : ℕ). take n (drop at (take k s))) e
    ∙ ap (take n) (drop-take at (m - at) s)
    ∙ take-take n (m - at) (drop at s) (omega arith)

entry_behind : (k at : ℕ) (s : Bytes) → entry_at (drop k s) at ≡ entry_at s (k + at)
unfolding entry_at field
entry_behind k at s =
    let e : k + (at + 8) ≡ k + at + 8 = omega arith in
    rw (part_behind k at 8 s, part_behind k (at + 8) 8 s, e)

entry_ahead : (m at : ℕ) (s : Bytes) → at + 16 ≤ m → entry_at (take m s) at ≡ entry_at s at
unfolding entry_at field
entry_ahead m at s h = rw (part_ahead m at 8 s (omega arith), part_ahead m (at + 8) 8 s (omega arith))

entries_behind : (n k at : ℕ) (s : Bytes) → entries_from n (drop k s) at ≡ entries_from n s (k + at)
unfolding entries_from
entries_behind zero k at s = refl
entries_behind (suc n) k at s =
    let e : k + (at + 16) ≡ k + at + 16 = omega arith in
    rw (entry_behind k at s, entries_behind n k (at + 16) s, e)

entries_ahead : (n m at : ℕ) (s : Bytes) → at + 16 * n ≤ m → entries_from n (take m s) at ≡ entries_from n s at
unfolding entries_from
entries_ahead zero m at s h = refl
entries_ahead (suc n) m at s h = rw (entry_ahead m at s (omega arith), entries_ahead n m (at + 16) s (omega arith))

module _ (e : ListEntries) where
  pub first_left : (later : ListEntries) → 16 ≤ length e.rest.now → later.rest.now ≡ drop 16 e.rest.now
      → (g : Range) → g ≡ entry_at (take 16 e.rest.now) 0 → entries_left e ≡ g ∷ entries_left later
  unfolding entries_left
  first_left later h l g k =
      let s = e.rest.now in
      let n : length (drop 16 s) / 16 ≡ length s / 16 - 1 = omega (arith, length-drop 16 s) in
      first_entry s (length s / 16) 0 (omega arith)
      ∙ rw (l, k, n, entry_ahead 16 0 s (omega arith), entries_behind (length s / 16 - 1) 16 0 s)

  pub none_left : length e.rest.now < 16 → entries_left e ≡ []
  unfolding entries_left
  none_left h = no_entry e.rest.now (length e.rest.now / 16) 0 (omega arith)

  -- the entries of a part are those of its bytes
  pub left_in : (s : Bytes) (at size : ℕ) → at + size ≤ length s → e.rest.now ≡ take size (drop at s)
      → entries_left e ≡ entries_from (size / 16) s at
  unfolding entries_left
  left_in s at size h l =
      let n : length (take size (drop at s)) ≡ size = length-take-le size (drop at s) (omega (arith, length-drop at s)) in
      let z : at + 0 ≡ at = omega arith in
      rw (l, n, entries_ahead (size / 16) size 0 (drop at s) (omega arith), entries_behind (size / 16) at 0 s, z)

pub ruleset leaving = (first_left, none_left)
