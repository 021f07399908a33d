-- Bytes laid over bytes: which byte stands where afterwards, and that the length stays.
use Prim.Native.Nat.{ℕ, ◌+◌, ◌-◌, ◌≤◌, ◌<◌}
use mathlib.Core.Path.{◌≡◌, ap, ◌∙◌}
use mathlib.Core.List.{[], ◌++◌, append-nil}
use native.Mathlib.Nat.{add-zero, add-sub_of_le}
use native.Mathlib.Omega.{arith}
use lib.ListN.{length, take, drop, length-append, length-take, length-drop, take-append-drop, get_or-append, get_or-replicate}
use lib.Seq.{length-take-le, get_or-append-add, get_or-take, get_or-drop}
use Rattle.rules.specs.Bytes.{Bytes, byte, zeros, laid}

-- a byte of the second of two lists, where the first one's length is known by an equation
pub byte_after : (front back : Bytes) (n k : ℕ) → length front ≡ n → byte (n + k) (front ++ back) ≡ byte k back
byte_after front back n k e = rw (← e) (get_or-append-add front back k 0)

-- behind x, the bytes are those of what follows it
pub byte_behind : (p : ℕ) (x y : Bytes) → length x ≤ p → byte p (x ++ y) ≡ byte (p - length x) y
byte_behind p x y h =
    let k : p ≡ length x + (p - length x) = omega arith in
    ap (λ (q : ℕ). byte q (x ++ y)) k ∙ get_or-append-add x y (p - length x) 0

pub byte_before : (front back : Bytes) (p : ℕ) → p < length front → byte p (front ++ back) ≡ byte p front
byte_before front back p h = get_or-append front back 0 p h

pub byte_zeros : (n k : ℕ) → k < n → byte k (zeros n) ≡ 0
byte_zeros n k h = get_or-replicate n k 0 0 h

-- what is laid, with what stands in front of it, ends where the rest goes on
laid_front : (at : ℕ) (d s : Bytes) → at ≤ length s → length (take at s ++ d) ≡ at + length d
laid_front at d s h = simp (length-append, length-take-le)

pub laid_nothing : (at : ℕ) (s : Bytes) → laid at [] s ≡ s
unfolding laid
laid_nothing at s = simp (add-zero, append-nil, take-append-drop)

pub laid_length : (at : ℕ) (d s : Bytes) → at + length d ≤ length s → length (laid at d s) ≡ length s
unfolding laid
laid_length at d s h = simp (length-append, length-take, length-drop) (omega arith)

-- a byte below, within and above the bytes laid
pub laid_below : (at : ℕ) (d s : Bytes) (p : ℕ) → at ≤ length s → p < at → byte p (laid at d s) ≡ byte p s
unfolding laid
laid_below at d s p h b =
    byte_before (take at s ++ d) (drop (at + length d) s) p (rw (laid_front at d s h) (omega arith))
    ∙ byte_before (take at s) d p (rw (length-take-le at s h) b)
    ∙ get_or-take at s p 0 b

pub laid_within : (at : ℕ) (d s : Bytes) (k : ℕ) → at ≤ length s → k < length d → byte (at + k) (laid at d s) ≡ byte k d
unfolding laid
laid_within at d s k h b =
    byte_before (take at s ++ d) (drop (at + length d) s) (at + k) (rw (laid_front at d s h) (omega arith))
    ∙ byte_after (take at s) d at k (length-take-le at s h)

pub laid_above : (at : ℕ) (d s : Bytes) (p : ℕ) → at ≤ length s → at + length d ≤ p → byte p (laid at d s) ≡ byte p s
unfolding laid
laid_above at d s p h b =
    let n = at + length d in
    let back : n + (p - n) ≡ p = add-sub_of_le b in
    rw (← back) (byte_after (take at s ++ d) (drop n s) n (p - n) (laid_front at d s h) ∙ get_or-drop n s (p - n) 0)
