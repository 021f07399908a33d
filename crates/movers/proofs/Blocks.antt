-- Blocks of a part laid one behind the other, below where they stood.
use Prim.Native.Nat.{ℕ, ◌+◌, ◌-◌, ◌≤◌}
use mathlib.Core.Path.{◌≡◌, ap, sym, ◌∙◌}
use mathlib.Core.List.{◌++◌}
use native.Mathlib.Nat.{add-sub_of_le}
use native.Mathlib.Omega.{arith}
use lib.ListN.{length, take, drop}
use lib.Seq.{take-add, drop-drop, drop-paste, take-length}
use Rattle.rules.specs.Bytes.{Bytes, part, laid}
use Rattle.rules.proofs.Laying.{laid_next, length_part}
use Rattle.rules.proofs.Lists.{laid_length, laid_nothing}

-- two parts of which the second follows the first
part_more : (at i k : ℕ) (x : Bytes) → part at i x ++ part (at + i) k x ≡ part at (i + k) x
part_more at i k x = sym (take-add i k (drop at x) ∙ ap (λ (l : Bytes). take i (drop at x) ++ take k l) (drop-drop i at x))

-- what stands behind the bytes laid is as it was
drop_above : (at p : ℕ) (d s : Bytes) → at ≤ length s → at + length d ≤ p → drop p (laid at d s) ≡ drop p s
unfolding laid
drop_above at p d s room above =
    let n : ℕ = at + length d in
    let e : n + (p - n) ≡ p = add-sub_of_le above in
    let behind : drop n (take at s ++ d ++ drop n s) ≡ drop n s = rw (take-length) at (drop-paste s at d (length d) room (omega arith)) in
    rw (← e) (sym (drop-drop (p - n) n (take at s ++ d ++ drop n s)) ∙ ap (drop (p - n)) behind ∙ drop-drop (p - n) n s)

module _ (from to : ℕ) (s : Bytes) where
  -- after `done` bytes
  abbrev moved : ℕ → Bytes
  moved done = laid to (part from done s) s

  pub moved_long : (done : ℕ) → to ≤ from → from + done ≤ length s → length (moved done) ≡ length s
  moved_long done down have = laid_length to (part from done s) s (rw (length_part from done s have) (omega arith))

  -- `size` bytes more
  pub moved_more : (done size : ℕ) → to ≤ from → from + done + size ≤ length s
      → laid (to + done) (part (from + done) size (moved done)) (moved done) ≡ moved (done + size)
  moved_more done size down have =
      let first : length (part from done s) ≡ done = length_part from done s (omega arith) in
      let ahead : drop (from + done) (moved done) ≡ drop (from + done) s =
      drop_above to (from + done) (part from done s) s (omega arith) (rw first (omega arith)) in
      ap (λ (l : Bytes). laid (to + done) (take size l) (moved done)) ahead
      ∙ ap (λ (j : ℕ). laid (to + j) (part (from + done) size s) (moved done)) (sym first)
      ∙ laid_next to (part from done s) (part (from + done) size s) s (omega arith)
      ∙ ap (λ (b : Bytes). laid to b s) (part_more from done size s)

pub ruleset moving = (moved_long, moved_more, laid_nothing)
