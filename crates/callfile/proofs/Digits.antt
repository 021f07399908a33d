-- What `{:04X}` writes of a number of two bytes: the four digits of its code.
use Prim.Native.Nat.{ℕ, ◌-◌, ◌/◌, ◌%◌, ◌^◌, ◌≤◌, ◌<◌}
use mathlib.Core.Path.{◌≡◌}
use mathlib.Core.Bool.{true, false}
use mathlib.Core.List.{List, [], ◌∷◌, append_assoc}
use mathlib.Core.Logic.{⊎_elim}
use native.Mathlib.Omega.{arith}
use Rattle.rules.proofs.Booleans.{lt_or_le}
use borrow.Author.Tests.{eq-eqb, ne_eqb}
use Rattle.std.specs.Fmt.{digits, digit_glyph, char_count, padded_integral, format_spec}
use Rattle.callfile.specs.Told.{code_text}

abbrev glyph : ℕ → ℕ
glyph d = digit_glyph true (d % 16)

one : (n : ℕ) → n < 16 → digits 16 true n ≡ glyph n ∷ []
unfolding digits
one n h =
    let first : n / 16 ≡ 0 = omega arith in
    rw (eq-eqb (n / 16) 0 first)

two : (n : ℕ) → 16 ≤ n → n < 256 → digits 16 true n ≡ glyph (n / 16) ∷ glyph n ∷ []
unfolding digits
two n g h =
    let more : n / 16 ≡ 0 → ⊥ = λ e. omega arith in
    let first : n / 16 / 16 ≡ 0 = omega arith in
    rw (ne_eqb (n / 16) 0 more, eq-eqb (n / 16 / 16) 0 first)

three : (n : ℕ) → 256 ≤ n → n < 4096 → digits 16 true n ≡ glyph (n / 16 / 16) ∷ glyph (n / 16) ∷ glyph n ∷ []
unfolding digits
three n g h =
    let more : n / 16 ≡ 0 → ⊥ = λ e. omega arith in
    let most : n / 16 / 16 ≡ 0 → ⊥ = λ e. omega arith in
    let first : n / 16 / 16 / 16 ≡ 0 = omega arith in
    rw (ne_eqb (n / 16) 0 more, ne_eqb (n / 16 / 16) 0 most, eq-eqb (n / 16 / 16 / 16) 0 first)

four : (n : ℕ) → 4096 ≤ n → n < 65536 → digits 16 true n ≡ glyph (n / 16 / 16 / 16) ∷ glyph (n / 16 / 16) ∷ glyph (n / 16) ∷ glyph n ∷ []
unfolding digits
four n g h =
    let more : n / 16 ≡ 0 → ⊥ = λ e. omega arith in
    let most : n / 16 / 16 ≡ 0 → ⊥ = λ e. omega arith in
    let all : n / 16 / 16 / 16 ≡ 0 → ⊥ = λ e. omega arith in
    let first : n / 16 / 16 / 16 / 16 ≡ 0 = omega arith in
    rw (ne_eqb (n / 16) 0 more, ne_eqb (n / 16 / 16) 0 most, ne_eqb (n / 16 / 16 / 16) 0 all, eq-eqb (n / 16 / 16 / 16 / 16) 0 first)

pub four_digits : (n : ℕ) → n < 65536
    → padded_integral (format_spec 32 0 4 4 (2 ^ 64 - 1)) false [] (digits 16 true n) ≡ code_text n
unfolding padded_integral char_count
four_digits n h =
    let third : n / 16 / 16 ≡ n / 256 = omega arith in
    let fourth : n / 16 / 16 / 16 ≡ n / 4096 = omega arith in
    ⊎_elim
    (λ (s : n < 16).
    let a : n / 4096 % 16 ≡ 0 = omega arith in
    let b : n / 256 % 16 ≡ 0 = omega arith in
    let c : n / 16 % 16 ≡ 0 = omega arith in
    rw (one n s, a, b, c))
    (λ (g : 16 ≤ n). ⊎_elim
    (λ (s : n < 256).
    let a : n / 4096 % 16 ≡ 0 = omega arith in
    let b : n / 256 % 16 ≡ 0 = omega arith in
    rw (two n g s, a, b))
    (λ (k : 256 ≤ n). ⊎_elim
    (λ (s : n < 4096). let a : n / 4096 % 16 ≡ 0 = omega arith in rw (three n k s, a, third))
    (λ (m : 4096 ≤ n). rw (four n m h, fourth, third))
    (lt_or_le n 4096))
    (lt_or_le n 256))
    (lt_or_le n 16)

-- what the line's `fmt` meets its contract by
pub ruleset printed = (four_digits, append_assoc)
