-- A number read as two halves of one width.
use Prim.Native.Nat.{ℕ, ◌+◌, ◌*◌, ◌^◌, ◌≤◌}
use mathlib.Core.Path.{◌≡◌, sym}
use lib.ListN.{length}
use Rattle.rules.specs.Bytes.{Bytes, field}
use Rattle.rules.proofs.BigEndian.{field_split}

pub halves : (n at : ℕ) (s : Bytes) (high low : ℕ) → at + (n + n) ≤ length s → high ≡ field at n s → low ≡ field (at + n) n s
    → high * 256 ^ n + low ≡ field at (n + n) s
halves n at s high low h e f = rw (e, f) (sym (field_split at n n s h))
