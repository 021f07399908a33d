-- The fields of a written CDB, read where they stand.
use Prim.Native.Nat.{ℕ, ◌+◌, ◌^◌, ◌≤◌, ◌<◌}
use mathlib.Core.Path.{◌≡◌, refl, ap, sym, subst, ◌∙◌}
use mathlib.Core.List.{[], ◌∷◌, ◌++◌, append_assoc}
use native.Mathlib.Omega.{arith}
use lib.ListN.{length, take, length-append}
use lib.Seq.{length-take-le}
use Rattle.rules.specs.Bytes.{Bytes, byte, part, zeros, to_be}
use Rattle.rules.specs.Command.{action, partition_of, object_of, length_of, start_of, continuation}
use Rattle.rules.specs.Writer.{Request, length_for, segment_for, cdb_for}
use Rattle.rules.proofs.BigEndian.{length_to_be}
use Rattle.rules.proofs.Standing.{Stands, at_front, behind, elsewhere, part_there, field_there}

-- thirteen pieces, each in front of all that follow
nested : (a b c d e f g h i j k l m : Bytes)
    → a ++ b ++ c ++ d ++ e ++ f ++ g ++ h ++ i ++ j ++ k ++ l ++ m
    ≡ a ++ (b ++ (c ++ (d ++ (e ++ (f ++ (g ++ (h ++ (i ++ (j ++ (k ++ (l ++ m)))))))))))
nested a b c d e f g h i j k l m = simp append_assoc

module _ (q : Request) where
  -- from the capability on, and from each field on
  tail80 : Bytes
  tail80 = take 104 q.capabilities ++ zeros 52

  tail48 : Bytes
  tail48 = to_be 4 (length (segment_for q)) ++ (zeros 28 ++ tail80)

  tail40 : Bytes
  tail40 = to_be 8 q.start ++ tail48

  tail32 : Bytes
  tail32 = to_be 8 (length_for q) ++ tail40

  tail24 : Bytes
  tail24 = to_be 8 q.object ++ tail32

  tail16 : Bytes
  tail16 = to_be 8 q.partition ++ tail24

  tail8 : Bytes
  tail8 = to_be 2 q.action ++ (zeros 6 ++ tail16)

  spread : cdb_for q ≡ (0x7F ∷ []) ++ (zeros 6 ++ ((228 ∷ []) ++ tail8))
  unfolding cdb_for tail80 tail48 tail40 tail32 tail24 tail16 tail8
  spread =
      nested (0x7F ∷ []) (zeros 6) (228 ∷ []) (to_be 2 q.action) (zeros 6) (to_be 8 q.partition) (to_be 8 q.object) (to_be 8 (length_for q))
      (to_be 8 q.start) (to_be 4 (length (segment_for q))) (zeros 28) (take 104 q.capabilities) (zeros 52)

  -- what stands in the last part stands in the CDB
  from8 : {m : ℕ} {x : Bytes} → Stands m x tail8 → Stands (8 + m) x (cdb_for q)
  from8 {m} {x} k =
      subst (λ (s : Bytes). Stands (8 + m) x s) (sym spread)
      (elsewhere (omega arith) (behind 1 (0x7F ∷ []) refl (behind 6 (zeros 6) refl (behind 1 (228 ∷ []) refl k))))

  from16 : {m : ℕ} {x : Bytes} → Stands m x tail16 → Stands (16 + m) x (cdb_for q)
  unfolding tail8
  from16 k = elsewhere (omega arith) (from8 (behind 2 (to_be 2 q.action) (length_to_be 2 q.action) (behind 6 (zeros 6) refl k)))

  from24 : {m : ℕ} {x : Bytes} → Stands m x tail24 → Stands (24 + m) x (cdb_for q)
  unfolding tail16
  from24 k = elsewhere (omega arith) (from16 (behind 8 (to_be 8 q.partition) (length_to_be 8 q.partition) k))

  from32 : {m : ℕ} {x : Bytes} → Stands m x tail32 → Stands (32 + m) x (cdb_for q)
  unfolding tail24
  from32 k = elsewhere (omega arith) (from24 (behind 8 (to_be 8 q.object) (length_to_be 8 q.object) k))

  from40 : {m : ℕ} {x : Bytes} → Stands m x tail40 → Stands (40 + m) x (cdb_for q)
  unfolding tail32
  from40 k = elsewhere (omega arith) (from32 (behind 8 (to_be 8 (length_for q)) (length_to_be 8 (length_for q)) k))

  from48 : {m : ℕ} {x : Bytes} → Stands m x tail48 → Stands (48 + m) x (cdb_for q)
  unfolding tail40
  from48 k = elsewhere (omega arith) (from40 (behind 8 (to_be 8 q.start) (length_to_be 8 q.start) k))

  from80 : {m : ℕ} {x : Bytes} → Stands m x tail80 → Stands (80 + m) x (cdb_for q)
  unfolding tail48
  from80 k =
      elsewhere (omega arith)
      (from48 (behind 4 (to_be 4 (length (segment_for q))) (length_to_be 4 (length (segment_for q))) (behind 28 (zeros 28) refl k)))

  -- every field
  pub action_read : q.action < 65536 → action (cdb_for q) ≡ q.action
  unfolding action tail8
  action_read h = field_there 2 (from8 (at_front (to_be 2 q.action) (zeros 6 ++ tail16))) h

  pub partition_read : q.partition < 2 ^ 64 → partition_of (cdb_for q) ≡ q.partition
  unfolding partition_of tail16
  partition_read h = field_there 8 (from16 (at_front (to_be 8 q.partition) tail24)) h

  pub object_read : q.object < 2 ^ 64 → object_of (cdb_for q) ≡ q.object
  unfolding object_of tail24
  object_read h = field_there 8 (from24 (at_front (to_be 8 q.object) tail32)) h

  pub length_read : length_for q < 2 ^ 64 → length_of (cdb_for q) ≡ length_for q
  unfolding length_of tail32
  length_read h = field_there 8 (from32 (at_front (to_be 8 (length_for q)) tail40)) h

  pub start_read : q.start < 2 ^ 64 → start_of (cdb_for q) ≡ q.start
  unfolding start_of tail40
  start_read h = field_there 8 (from40 (at_front (to_be 8 q.start) tail48)) h

  pub continuation_read : length (segment_for q) < 2 ^ 32 → continuation (cdb_for q) ≡ length (segment_for q)
  unfolding continuation tail48
  continuation_read h = field_there 4 (from48 (at_front (to_be 4 (length (segment_for q))) (zeros 28 ++ tail80))) h

  pub capability_read : 104 ≤ length q.capabilities → part 80 104 (cdb_for q) ≡ take 104 q.capabilities
  unfolding tail80
  capability_read h = part_there (from80 (at_front (take 104 q.capabilities) (zeros 52))) (length-take-le 104 q.capabilities h)

  -- the bytes that never change
  pub first_byte : byte 0 (cdb_for q) ≡ 0x7F
  unfolding cdb_for
  first_byte = refl

  pub eighth_byte : byte 7 (cdb_for q) ≡ 228
  unfolding cdb_for
  eighth_byte = refl

  pub cdb_length : 104 ≤ length q.capabilities → length (cdb_for q) ≡ 236
  unfolding tail80 tail48 tail40 tail32 tail24 tail16 tail8
  cdb_length h = ap length spread ∙ simp (length-append, length_to_be, length-take-le 104 q.capabilities h)
