-- Numbers of a segment that stand side by side, written as one.
use Prim.Native.Nat.{ℕ, ◌+◌, ◌*◌, ◌<◌}
use mathlib.Core.Path.{◌≡◌, refl, ap, sym, ◌∙◌}
use mathlib.Core.List.{[], ◌∷◌, ◌++◌, append_assoc}
use native.Mathlib.Nat.{zero-add}
use native.Mathlib.Omega.{arith}
use Rattle.rules.specs.Bytes.{zeros, to_be}
use Rattle.writer.proofs.Beside.{beside}

-- bytes 0 to 3 of a segment
pub format_number : (a : ℕ) → a < 65536 → to_be 4 (0x01000000 + a) ≡ (0x01 ∷ 0 ∷ []) ++ to_be 2 a
format_number a h = beside 2 2 0x0100 a h ∙ unfold to_be in refl

-- a descriptor's own eight bytes
pub own_number : (kind n : ℕ) → n < 4294967296 → to_be 8 (kind * 0x1000000000000 + n) ≡ to_be 2 kind ++ zeros 2 ++ to_be 4 n
own_number kind n h =
    let low : to_be 6 n ≡ zeros 2 ++ to_be 4 n = ap (to_be 6) (sym (zero-add n)) ∙ beside 2 4 0 n h ∙ unfold to_be in refl in
    beside 2 6 kind n (omega arith) ∙ rw low (sym (append_assoc (to_be 2 kind) (zeros 2) (to_be 4 n)))
