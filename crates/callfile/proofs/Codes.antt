-- A sense code has two bytes.
use Rattle.std.specs.Prelude.{Option, Some}
use Prim.Native.Nat.{ℕ, ◌<◌}
use mathlib.Core.Path.{◌≡◌, refl}
use mathlib.Core.Bool.{Bool, true, false, cond}
use mathlib.Core.List.{List, [], ◌∷◌, map}
use native.Mathlib.Omega.{arith}
use lib.Dec.{eqb, ltb}
use borrow.Author.Tests.{ltb-true}
use Rattle.std.specs.Option.{unwrap_or}
use Rattle.rules.specs.Bytes.{all}
use Rattle.rules.specs.Tests.{test, first_of}
use Rattle.rules.specs.Numbers.{Line, Sense, table, sense}
use Rattle.rules.proofs.Booleans.{and_true_parts}

-- each line of the table has a code of two bytes, and so has every number
chosen : (b : Bool) (s t : Sense) (o : Option Sense) → s.code < 65536 → (unwrap_or o t).code < 65536 → (unwrap_or (cond b (Some s) o) t).code < 65536
chosen true s t o h g = h
chosen false s t o h g = g

within : (n : ℕ) (ls : List Line) → all (λ (l : Line). ltb l.sense.code 65536) ls ≡ true
    → (unwrap_or (first_of (map (λ (l : Line). test l.sense (eqb n l.of)) ls)) (record { key = 0; code = 0 })).code < 65536
unfolding all first_of
within n [] t = omega arith
within n (l ∷ ls) t =
    let parts = and_true_parts (ltb l.sense.code 65536) _ t in
    chosen (eqb n l.of) _ _ _ (ltb-true _ _ parts.0) (within n ls parts.1)

pub two_bytes : (n : ℕ) → (sense n).code < 65536
unfolding sense all
two_bytes n = within n table refl
