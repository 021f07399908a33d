-- Numbers that stand side by side: written as one, and two written one behind the other.
use Prim.Native.Nat.{ℕ, zero, suc, ◌+◌, ◌*◌, ◌/◌, ◌%◌, ◌^◌, ◌≤◌, ◌<◌}
use mathlib.Core.Path.{◌≡◌, refl}
use mathlib.Core.List.{[], ◌∷◌, ◌++◌, append_assoc, append-nil}
use native.Mathlib.Nat.{add-zero, add-suc, mul_assoc, pow-suc, mul-add-div_right, mul-add-mod_self_right, div-lt_iff_lt-mul}
use native.Mathlib.Omega.{arith}
use lib.Dec.{lit<}
use lib.ListN.{length, length-append}
use Rattle.rules.specs.Bytes.{Bytes, to_be, laid}
use Rattle.rules.proofs.BigEndian.{length_to_be}
use Rattle.rules.proofs.Laying.{first_piece, next_piece}

pub beside : (n m x y : ℕ) → y < 256 ^ m → to_be (n + m) (x * 256 ^ m + y) ≡ to_be n x ++ to_be m y
unfolding to_be
beside n zero x y h =
    let alone : x * 256 ^ 0 + y ≡ x = omega arith in
    rw (add-zero n, alone, append-nil (to_be n x))
beside n (suc m) x y h =
    let rest : y / 256 < 256 ^ m = (div-lt_iff_lt-mul (lit< tt)).1 (rw pow-suc at h) in
    rw (
      add-suc n m,
      pow-suc 256 m,
      ← mul_assoc x (256 ^ m) 256,
      mul-add-div_right (lit< tt) (x * 256 ^ m) y,
      mul-add-mod_self_right (x * 256 ^ m) 256 y,
      beside n m x (y / 256) rest,
    )
    (append_assoc (to_be n x) (to_be m (y / 256)) (y % 256 ∷ []))

pub length_pair : (x y : ℕ) → length (to_be 8 x ++ to_be 8 y) ≡ 16
length_pair x y = simp (length-append, length_to_be)

pub pair_laid : (at x y : ℕ) (s : Bytes) {t u : Bytes} → at ≤ length s → t ≡ laid at (to_be 8 x) s → u ≡ laid (at + 8) (to_be 8 y) t
    → u ≡ laid at (to_be 8 x ++ to_be 8 y) s
pair_laid at x y s room first second =
    (next_piece (to_be 8 y) (first_piece s (to_be 8 x) (length_to_be 8 x) first room) refl (length_to_be 8 y) second).is
