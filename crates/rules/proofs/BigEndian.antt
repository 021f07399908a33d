-- Big-endian numbers: one proof over the width for each fact.
use Prim.Native.Nat.{ℕ, zero, suc, ◌+◌, ◌*◌, ◌/◌, ◌%◌, ◌^◌, ◌<◌, ◌≤◌}
use mathlib.Core.Path.{◌≡◌, refl, ap, sym, ◌∙◌}
use mathlib.Core.List.{[], ◌∷◌, ◌++◌, foldl, append_assoc}
use lib.ListN.{length, take, drop, get_or, length-append, length-drop}
use lib.Seq.{take-suc, get_or-drop, take_at, drop_at, length-take-le}
use lib.Dec.{lit<}
use native.Mathlib.Nat.{add-zero, div-add-mod', div-lt_iff_lt-mul, mul_assoc, pow-suc}
use native.Mathlib.Numerals.{add-one}
use native.Mathlib.Omega.{arith}
use Rattle.rules.specs.Bytes.{Bytes, part, be, field, to_be, laid}

digits : (l m : Bytes) (a : ℕ) → foldl (λ (x b : ℕ). x * 256 + b) a (l ++ m) ≡ foldl (λ (x b : ℕ). x * 256 + b) (foldl (λ (x b : ℕ). x * 256 + b) a l) m
digits [] m a = refl
digits (b ∷ l) m a = digits l m (a * 256 + b)

-- one byte more
pub be_snoc : (l : Bytes) (b : ℕ) → be (l ++ (b ∷ [])) ≡ be l * 256 + b
unfolding be
be_snoc l b = digits l (b ∷ []) 0

pub field_none : (at : ℕ) (s : Bytes) → field at 0 s ≡ 0
unfolding field be
field_none at s = refl

pub field_more : (at i : ℕ) (s : Bytes) (x b : ℕ) → at + i < length s → x ≡ field at i s → b ≡ get_or s (at + i) 0 → x * 256 + b ≡ field at (i + 1) s
unfolding field
field_more at i s x b h ex eb =
    let k : i < length (drop at s) = rw length-drop (omega arith) in
    rw (ex, eb, add-one, take-suc (drop at s) i 0 k, be_snoc, get_or-drop)

-- a field is its front, moved up by the width of its back, and its back
pub field_split : (at m n : ℕ) (s : Bytes) → at + (m + n) ≤ length s → field at (m + n) s ≡ field at m s * 256 ^ n + field (at + m) n s
field_split at m zero s h = rw (add-zero, field_none) (omega arith)
field_split at m (suc n) s h =
    let front : at + (m + n) < length s = omega arith in
    let back : at + m + n < length s = omega arith in
    let same : at + (m + n) ≡ at + m + n = omega arith in
    let whole : field at (m + n) s * 256 + get_or s (at + (m + n)) 0 ≡ field at (m + suc n) s =
    field_more at (m + n) s _ _ front refl refl ∙ ap (λ (k : ℕ). field at k s) (omega arith) in
    let half : field (at + m) n s * 256 + get_or s (at + m + n) 0 ≡ field (at + m) (suc n) s =
    field_more (at + m) n s _ _ back refl refl ∙ ap (λ (k : ℕ). field (at + m) k s) (omega arith) in
    rw (← whole, ← half, pow-suc, field_split at m n s (omega arith), same, ← mul_assoc) (omega arith)

pub length_to_be : (n x : ℕ) → length (to_be n x) ≡ n
unfolding to_be
length_to_be zero x = refl
length_to_be (suc n) x = length-append (to_be n (x / 256)) (x % 256 ∷ []) ∙ let h = length_to_be n (x / 256) in omega arith

-- what is written, read back, is the number
pub be_to_be : (n x : ℕ) → x < 256 ^ n → be (to_be n x) ≡ x
unfolding to_be
be_to_be zero x h = unfold be in omega arith
be_to_be (suc n) x h =
    let q : x / 256 < 256 ^ n = (div-lt_iff_lt-mul (lit< tt)).1 (rw pow-suc at h) in
    be_snoc (to_be n (x / 256)) (x % 256) ∙ ap (λ (k : ℕ). k * 256 + x % 256) (be_to_be n (x / 256) q) ∙ div-add-mod' x 256

-- the bytes that were laid stand where they were laid
pub part_laid : (d s : Bytes) (at : ℕ) → at ≤ length s → part at (length d) (laid at d s) ≡ d
unfolding laid
part_laid d s at h =
    rw (append_assoc (take at s) d (drop (at + length d) s), drop_at (take at s) (d ++ drop (at + length d) s) at (length-take-le at s h))
    (take_at d _ (length d) refl)

pub read_back : (n x at : ℕ) (s : Bytes) → x < 256 ^ n → at ≤ length s → field at n (laid at (to_be n x) s) ≡ x
unfolding field
read_back n x at s h k =
    ap (λ (m : ℕ). be (part at m (laid at (to_be n x) s))) (sym (length_to_be n x)) ∙ ap be (part_laid (to_be n x) s at k) ∙ be_to_be n x h
