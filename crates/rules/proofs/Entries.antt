-- A list's entries where they stand: the first of them, the last of them, and how many there are.
use Prim.Native.Nat.{ℕ, zero, suc, ◌+◌, ◌-◌, ◌*◌, ◌≤◌, ◌<◌}
use mathlib.Core.Path.{◌≡◌, refl, ap, ◌∙◌}
use mathlib.Core.List.{List, [], ◌∷◌, ◌++◌}
use native.Mathlib.Nat.{not-suc-le-zero}
use native.Mathlib.Omega.{arith}
use lib.ListN.{length}
use Rattle.rules.specs.declared.Range.{Range}
use Rattle.rules.specs.Bytes.{Bytes}
use Rattle.rules.specs.Segment.{entry_at, entries_from}

pub first_entry : (s : Bytes) (left from : ℕ) → 0 < left → entries_from left s from ≡ entry_at s from ∷ entries_from (left - 1) s (from + 16)
unfolding entries_from
first_entry s zero from h = absurd (not-suc-le-zero h)
first_entry s (suc n) from h = let e : suc n - 1 ≡ n = omega arith in rw e

pub no_entry : (s : Bytes) (left from : ℕ) → left ≤ 0 → entries_from left s from ≡ []
unfolding entries_from
no_entry s zero from h = refl
no_entry s (suc n) from h = absurd (not-suc-le-zero h)

pub last_entry : (s : Bytes) (n at : ℕ) → entries_from (suc n) s at ≡ entries_from n s at ++ (entry_at s (at + 16 * n) ∷ [])
unfolding entries_from
last_entry s zero at = let e : at + 16 * 0 ≡ at = omega arith in rw e
last_entry s (suc n) at =
    let e : at + 16 + 16 * n ≡ at + 16 * suc n = omega arith in
    ap (λ (gs : List Range). entry_at s at ∷ gs) (last_entry s n (at + 16)) ∙ rw e

pub entries_count : (s : Bytes) (n at : ℕ) → length (entries_from n s at) ≡ n
unfolding entries_from
entries_count s zero at = refl
entries_count s (suc n) at = ap suc (entries_count s n (at + 16))
