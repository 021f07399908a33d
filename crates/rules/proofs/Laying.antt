-- Bytes laid one behind the other come to all of them laid at once.
use Prim.Native.Nat.{ℕ, suc, ◌+◌, ◌≤◌, ◌<◌}
use mathlib.Core.Path.{◌≡◌, ap, sym, ◌∙◌}
use mathlib.Core.List.{[], ◌∷◌, ◌++◌, append_assoc}
use native.Mathlib.Nat.{zero-add, add_assoc}
use native.Mathlib.Numerals.{add-one}
use native.Mathlib.Omega.{arith}
use lib.ListN.{length, take, drop, set, length-append, length-drop, length-replicate, replicate-append-replicate}
use lib.Seq.{length-take-le, take_at, drop_at, drop-drop, take-suc, get_or-drop, set_split, append_snoc}
use Rattle.rules.specs.Bytes.{Bytes, byte, part, zeros, laid}
use Rattle.rules.proofs.Lists.{laid_length}

-- the front of a list, with what is laid behind it
laid_head : (at : ℕ) (d s : Bytes) → at ≤ length s → length (take at s ++ d) ≡ at + length d
laid_head at d s h = rw (length-append, length-take-le at s h)

pub laid_next : (at : ℕ) (a b s : Bytes) → at ≤ length s → laid (at + length a) b (laid at a s) ≡ laid at (a ++ b) s
unfolding laid
laid_next at a b s h =
    let n : ℕ = at + length a in
    let front : take (at + length a) (take at s ++ a ++ drop n s) ≡ take at s ++ a = take_at (take at s ++ a) (drop n s) n (laid_head at a s h) in
    let back : drop (at + length a + length b) (take at s ++ a ++ drop n s) ≡ drop (at + length a + length b) s =
    sym (drop-drop (length b) n (take at s ++ a ++ drop n s))
    ∙ ap (drop (length b)) (drop_at (take at s ++ a) (drop n s) n (laid_head at a s h))
    ∙ drop-drop (length b) n s in
    rw (front, back, length-append a b, append_assoc (take at s) a b, add_assoc at (length a) (length b))

-- at the front there is nothing to keep before what is laid
pub laid_first : (d s : Bytes) → laid 0 d s ≡ d ++ drop (length d) s
unfolding laid
laid_first d s = rw (zero-add (length d))

-- ---- a run of pieces: d was laid over s at `at`, n bytes, and came to t

pub record Run (at : ℕ) (s d : Bytes) (n : ℕ) (t : Bytes) : Type 0 where
  pub room : at ≤ length s
  pub long : length d ≡ n
  pub is : t ≡ laid at d s

pub first_piece : {at n : ℕ} {t : Bytes} (s d : Bytes) → length d ≡ n → t ≡ laid at d s → at ≤ length s → Run at s d n t
first_piece s d l e h = record { room = h; long = l; is = e }

-- the next piece stands right behind the others, at p
pub next_piece : {at : ℕ} {s a : Bytes} {n m p : ℕ} {t u : Bytes} (b : Bytes)
    → Run at s a n t → p ≡ at + n → length b ≡ m → u ≡ laid p b t → Run at s (a ++ b) (n + m) u
next_piece {at} {s} {a} {n} {m} {p} {t} {u} b r e l f =
    record {
      room = r.room;
      long = length-append a b ∙ omega (arith, r.long, l);
      is = f ∙ rw (e, ← r.long, r.is) (laid_next at a b s r.room);
    }

-- ---- how long what is laid is

pub length_zeros : (i : ℕ) → length (zeros i) ≡ i
length_zeros i = length-replicate i 0

pub length_part : (from n : ℕ) (s : Bytes) → from + n ≤ length s → length (part from n s) ≡ n
length_part from n s h = length-take-le n (drop from s) (rw length-drop (omega arith))
