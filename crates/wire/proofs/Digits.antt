-- std's big-endian bytes are those of the definitions: one proof over the width for each way.
use Prim.Native.Nat.{ℕ, zero, suc, ◌+◌, ◌-◌, ◌*◌, ◌/◌, ◌%◌, ◌^◌, ◌<◌, ◌≤◌}
use mathlib.Core.Path.{◌≡◌, refl, ap, sym, ◌∙◌}
use mathlib.Core.List.{[], ◌∷◌, ◌++◌}
use native.Mathlib.Nat.{pow-suc, div-div-eq-div-mul, pow-succ', mul_assoc}
use native.Mathlib.Omega.{arith}
use lib.Seq.{take-length}
use lib.ListN.{length, take, get_or}
use Rattle.std.specs.Int.{byte_at, byte_worth, bytes_high_first, sum_through}
use Rattle.rules.specs.Bytes.{Bytes, part, be, field, to_be}
use Rattle.rules.proofs.BigEndian.{field_none, field_more}
use Rattle.rules.proofs.Laying.{length_part}

worth : (j b : ℕ) → byte_worth j b ≡ b * 256 ^ j
worth zero b = omega arith
worth (suc j) b = refl

-- the first k + 1 of n bytes, each at its weight
front : (n k : ℕ) (s : Bytes) → k < n → n ≤ length s
    → sum_through (λ i. byte_worth (n - 1 - i) (get_or s i 0)) k ≡ field 0 (k + 1) s * 256 ^ (n - 1 - k)
front n zero s h l =
    let first : 0 * 256 + get_or s 0 0 ≡ field 0 1 s = field_more 0 0 s 0 (get_or s 0 0) (omega arith) (sym (field_none 0 s)) refl in
    let same : get_or s 0 0 ≡ field 0 1 s = omega (arith, first) in
    worth (n - 1 - 0) (get_or s 0 0) ∙ ap (λ (x : ℕ). x * 256 ^ (n - 1 - 0)) same
front n (suc k) s h l =
    let m : ℕ = n - 1 - suc k in
    let up : n - 1 - k ≡ suc m = omega arith in
    let next : field 0 (k + 1) s * 256 + get_or s (suc k) 0 ≡ field 0 (suc k + 1) s =
    field_more 0 (suc k) s _ _ (omega arith) (ap (λ (i : ℕ). field 0 i s) (omega arith)) (ap (λ (i : ℕ). get_or s i 0) (omega arith)) in
    rw (front n k s (omega arith) l, worth m (get_or s (suc k) 0), up, pow-suc, ← next, ← mul_assoc) (omega arith)

-- the byte that is read first is the highest
high_first : (k x : ℕ) → byte_at k x ∷ to_be k x ≡ to_be (suc k) x
unfolding to_be
high_first zero x = refl
high_first (suc k) x = ap (λ (b : ℕ). b ∷ to_be (suc k) x) (down k) ∙ ap (λ (l : Bytes). l ++ (x % 256 ∷ [])) (high_first k (x / 256))
  where
    down : (j : ℕ) → byte_at (suc j) x ≡ byte_at j (x / 256)
    down zero = refl
    down (suc j) = ap (λ (y : ℕ). y % 256) (ap (λ (p : ℕ). x / p) (pow-succ' 256 (suc j)) ∙ sym (div-div-eq-div-mul x 256 (256 ^ suc j)))

pub high_bytes : (k x : ℕ) → to_be k x ≡ bytes_high_first k x
unfolding to_be
high_bytes zero x = refl
high_bytes (suc k) x = sym (high_first k x) ∙ ap (λ (l : Bytes). byte_at k x ∷ l) (high_bytes k x)

-- the number in the n bytes that stand at `at`
pub number_at : (at n : ℕ) (s : Bytes) → 0 < n → at + n ≤ length s
    → field at n s ≡ sum_through (λ i. byte_worth (n - 1 - i) (get_or (part at n s) i 0)) (n - 1)
unfolding field
number_at at n s some h =
    let b : Bytes = part at n s in
    let long : length b ≡ n = length_part at n s h in
    let all : n - 1 + 1 ≡ length b = omega arith in
    let last : n - 1 - (n - 1) ≡ 0 = omega arith in
    let whole : be (take (length b) b) * 256 ^ 0 ≡ be b = rw (take-length b) (omega arith) in
    sym (front n (n - 1) b (omega arith) (omega (arith, long)) ∙ rw (all, last) whole)
