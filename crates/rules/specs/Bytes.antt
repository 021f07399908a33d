-- Bytes, and the big-endian numbers among them (document 01: "All numbers on the wire are big-endian").
-- A list reads as nothing past its end: a field that is cut off has the bytes that are there, and a byte that isn't there is 0.
use Rattle.std.specs.Prelude.{ℕ, zero, suc, ◌+◌, ◌*◌, ◌/◌, ◌%◌, Bool, true, false, ◌&&◌, ◌||◌, length, take, drop, get_or, replicate, eqb}
use mathlib.Core.List.{List, [], ◌∷◌, ◌++◌, foldl}

abbrev pub Bytes : Type 0
Bytes = List ℕ

-- the byte at `at`
abbrev pub byte : (at : ℕ) → Bytes → ℕ
byte at s = get_or s at 0

-- the n bytes from `at` on
abbrev pub part : (at n : ℕ) → Bytes → Bytes
part at n s = take n (drop at s)

abbrev pub zeros : ℕ → Bytes
zeros n = replicate n 0

-- bytes as one big-endian number
unfoldable pub be : Bytes → ℕ
be s = foldl (λ (a b : ℕ). a * 256 + b) 0 s

-- the big-endian number in the n bytes from `at` on
unfoldable pub field : (at n : ℕ) → Bytes → ℕ
field at n s = be (part at n s)

-- a number as n big-endian bytes
unfoldable pub to_be : (n x : ℕ) → Bytes
to_be zero x = []
to_be (suc n) x = to_be n (x / 256) ++ (x % 256 ∷ [])

-- every byte is zero
unfoldable pub blank : Bytes → Bool
blank [] = true
blank (b ∷ s) = eqb b 0 && blank s

-- d laid over s from `at` on
unfoldable pub laid : (at : ℕ) → (d s : Bytes) → Bytes
laid at d s = take at s ++ d ++ drop (at + length d) s

-- some element passes the test; every one does
unfoldable pub any {ℓ} : {X : Type ℓ} → (X → Bool) → List X → Bool
any p [] = false
any p (x ∷ xs) = p x || any p xs

unfoldable pub all {ℓ} : {X : Type ℓ} → (X → Bool) → List X → Bool
all p [] = true
all p (x ∷ xs) = p x && all p xs
