-- The segment of an accepted request: whether there is one, what it is put together from, and how long it is.
use Prim.Native.Nat.{ℕ, ◌+◌, ◌*◌, ◌-◌, ◌≤◌, ◌<◌}
use mathlib.Core.Path.{◌≡◌, refl, ap, sym, subst}
use mathlib.Core.Bool.{Bool, true, false, cond, ◌||◌}
use mathlib.Core.List.{[], ◌∷◌, ◌++◌, append_assoc}
use native.Mathlib.Omega.{arith}
use lib.ListN.{length, drop, length-append, length-drop}
use borrow.Author.Tests.{ltb-true, ltb-false}
use Rattle.rules.specs.Bytes.{Bytes, byte, zeros, to_be}
use Rattle.rules.specs.Writer.{Request, entries, spelled, extended, segment_for}
use Rattle.rules.proofs.Accepted.{Accepted}
use Rattle.rules.proofs.BigEndian.{length_to_be}
use Rattle.rules.proofs.Spelled.{length_spelled, length_paired}
use Rattle.rules.proofs.Standing.{Stands, at_front, behind}
use Rattle.rules.proofs.ReadBackWalk.{optional, ListData, ExtensionData, whole_length}

-- the data of the list, and of the extension
abbrev pub list_bytes : Request → Bytes
list_bytes q = spelled (entries q)

abbrev pub rest_bytes : Request → Bytes
rest_bytes q = drop 104 q.capabilities

unfoldable pub head : Request → Bytes
head q = (0x01 ∷ 0 ∷ []) ++ to_be 2 q.action ++ zeros 36

unfoldable pub whole : Request → Bytes
whole q = head q ++ optional q.listed 0x0001 (list_bytes q) ++ optional (extended q) 0xFFEE (rest_bytes q)

pub data Shape (q : Request) : Type 0 where
  there : segment_for q ≡ whole q → Shape q
  nowhere : q.listed ≡ false → extended q ≡ false → segment_for q ≡ [] → Shape q

pub shape : (q : Request) → Shape q
unfolding segment_for whole head
shape q = go q.listed (extended q) refl refl refl
  where
    go : (l x : Bool) → q.listed ≡ l → extended q ≡ x → segment_for q ≡ cond (l || x) (whole q) [] → Shape q
    go true x e f k = there k
    go false true e f k = there k
    go false false e f k = nowhere e f k

pub head_length : (q : Request) → length (head q) ≡ 40
unfolding head
head_length q = simp (length-append, length_to_be)

-- what the head says
pub first_of_head : (q : Request) → byte 0 (whole q) ≡ 0x01
unfolding whole head
first_of_head q = refl

nested : (a b c d e : Bytes) → a ++ b ++ c ++ d ++ e ≡ a ++ (b ++ (c ++ (d ++ e)))
nested a b c d e = simp append_assoc

pub action_there : (q : Request) → Stands 2 (to_be 2 q.action) (whole q)
unfolding whole head
action_there q =
    let l : Bytes = optional q.listed 0x0001 (list_bytes q) in
    let x : Bytes = optional (extended q) 0xFFEE (rest_bytes q) in
    subst (λ (s : Bytes). Stands 2 (to_be 2 q.action) s) (sym (nested (0x01 ∷ 0 ∷ []) (to_be 2 q.action) (zeros 36) l x))
    (behind 2 (0x01 ∷ 0 ∷ []) refl (at_front (to_be 2 q.action) (zeros 36 ++ (l ++ x))))

at_most : (b : Bool) (n m : ℕ) → (b ≡ true → n ≤ m) → cond b n 0 ≤ m
at_most true n m h = h refl
at_most false n m h = omega arith

module _ (q : Request) (a : Accepted q) where
  entries_length : q.listed ≡ true → length (entries q) ≡ length q.offsets
  unfolding entries
  entries_length l = length_paired q.offsets q.lengths (a.equal l)

  pub list_ok : q.listed ≡ true → ListData (list_bytes q)
  list_ok l =
      let n : length (list_bytes q) ≡ 16 * length (entries q) = length_spelled (entries q) in
      let m : length (entries q) ≤ 64 = omega (arith, entries_length l, a.few l) in
      record { small = omega arith; whole = omega arith }

  more : extended q ≡ true → 104 < length q.capabilities
  unfolding extended
  more x = ltb-true 104 (length q.capabilities) x

  pub no_more : extended q ≡ false → length q.capabilities ≤ 104
  unfolding extended
  no_more x = ltb-false 104 (length q.capabilities) x

  pub extension_ok : extended q ≡ true → ExtensionData (rest_bytes q)
  extension_ok x =
      let n : length (rest_bytes q) ≡ length q.capabilities - 104 = length-drop 104 q.capabilities in
      record {
        small = omega (arith, a.limited);
        whole = omega (arith, a.whole, more x);
        some_data = λ z. omega (arith, more x);
      }

  pub whole_bounds : (40 ≤ length (whole q)) × (length (whole q) ≤ 1912)
  unfolding whole
  whole_bounds =
      let n = whole_length (head q) (list_bytes q) (rest_bytes q) q.listed (extended q) (head_length q) in
      let list = at_most q.listed (8 + length (list_bytes q)) 1032 (λ l. omega (arith, (list_ok l).small)) in
      let extension = at_most (extended q) (8 + length (rest_bytes q)) 840 (λ x. omega (arith, (extension_ok x).small)) in
      (omega arith, omega arith)

  pub segment_small : length (segment_for q) ≤ 1912
  segment_small = go (shape q)
    where
      go : Shape q → length (segment_for q) ≤ 1912
      go (there k) = omega (arith, ap length k, whole_bounds)
      go (nowhere l x k) = omega (arith, ap length k)
