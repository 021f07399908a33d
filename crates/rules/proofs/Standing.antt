-- Bytes that stand somewhere in others: what is read there.
use Prim.Native.Nat.{ℕ, ◌+◌, ◌^◌, ◌≤◌, ◌<◌}
use mathlib.Core.Path.{◌≡◌, refl, ap, sym, ◌∙◌}
use mathlib.Core.List.{[], ◌∷◌, ◌++◌, append_assoc, append-nil}
use native.Mathlib.Omega.{arith}
use lib.ListN.{length, length-append}
use lib.Seq.{take_at, drop_at, get_or-append-add}
use Rattle.rules.specs.Bytes.{Bytes, byte, part, be, field, to_be}
use Rattle.rules.proofs.BigEndian.{length_to_be, be_to_be}

-- x stands in s at `at`
pub record Stands (at : ℕ) (x s : Bytes) : Type 0 where
  pub front : Bytes
  pub back : Bytes
  pub placed : length front ≡ at
  pub is : s ≡ front ++ (x ++ back)

pub at_front : (x b : Bytes) → Stands 0 x (x ++ b)
at_front x b = record { front = []; back = b; placed = refl; is = refl }

pub all_of_it : (x : Bytes) → Stands 0 x x
all_of_it x = record { front = []; back = []; placed = refl; is = sym (append-nil x) }

-- behind n bytes
pub behind : {m : ℕ} {x b : Bytes} (n : ℕ) (a : Bytes) → length a ≡ n → Stands m x b → Stands (n + m) x (a ++ b)
behind {m} {x} {b} n a l k =
    record {
      front = a ++ k.front;
      back = k.back;
      placed = length-append a k.front ∙ omega (arith, l, k.placed);
      is = ap (λ (y : Bytes). a ++ y) k.is ∙ sym (append_assoc a k.front (x ++ k.back));
    }

-- within what itself stands somewhere
pub within : {at m : ℕ} {x y s : Bytes} → Stands m x y → Stands at y s → Stands (at + m) x s
within {at} {m} {x} {y} {s} k l =
    record {
      front = l.front ++ k.front;
      back = k.back ++ l.back;
      placed = length-append l.front k.front ∙ omega (arith, l.placed, k.placed);
      is =
          l.is
          ∙ ap (λ (z : Bytes). l.front ++ (z ++ l.back)) k.is
          ∙ simp append_assoc;
    }

pub elsewhere : {at n : ℕ} {x s : Bytes} → at ≡ n → Stands at x s → Stands n x s
elsewhere e k = record { front = k.front; back = k.back; placed = k.placed ∙ e; is = k.is }

pub part_there : {at n : ℕ} {x s : Bytes} → Stands at x s → length x ≡ n → part at n s ≡ x
part_there {at} {n} {x} {s} k l = rw (k.is, drop_at k.front (x ++ k.back) at k.placed) (take_at x k.back n l)

pub byte_there : {at b : ℕ} {x s : Bytes} → Stands at (b ∷ x) s → byte at s ≡ b
byte_there {at} {b} {x} {s} k =
    let e : at ≡ length k.front + 0 = omega (arith, k.placed) in
    rw (k.is, e) (get_or-append-add k.front (b ∷ (x ++ k.back)) 0 0)

pub field_there : {at v : ℕ} {s : Bytes} (n : ℕ) → Stands at (to_be n v) s → v < 256 ^ n → field at n s ≡ v
unfolding field
field_there {at} {v} {s} n k h = ap be (part_there k (length_to_be n v)) ∙ be_to_be n v h

pub ends_inside : {at : ℕ} {x s : Bytes} → Stands at x s → at + length x ≤ length s
ends_inside {at} {x} {s} k =
    omega (arith, ap length k.is, length-append k.front (x ++ k.back), length-append x k.back, k.placed)
