-- What the CDB's pieces come to that are written one behind the other.
use Prim.Native.Nat.{ℕ, zero-le, ◌+◌, ◌*◌, ◌^◌}
use mathlib.Core.Path.{◌≡◌, refl, ap, ◌∙◌}
use mathlib.Core.List.{[], ◌∷◌, ◌++◌, append_assoc}
use native.Mathlib.Omega.{arith}
use lib.Dec.{lit<}
use lib.ListN.{take}
use Rattle.rules.specs.Bytes.{Bytes, part, zeros, to_be, laid}
use Rattle.rules.proofs.BigEndian.{length_to_be}
use Rattle.rules.proofs.Laying.{first_piece, next_piece, length_part}
use Rattle.rules.specs.Writer.{Request}
use Rattle.writer.specs.SegmentParts.{IsFit}
use Rattle.writer.specs.CdbParts.{cdb_parts}
use Rattle.writer.proofs.Beside.{beside, length_pair}

-- bytes 0 to 15 of a CDB
head_numbers : (a : ℕ)
    → to_be 8 0x7F000000000000E4 ++ to_be 8 (0x1000000000000 * a) ≡ (0x7F ∷ []) ++ zeros 6 ++ (228 ∷ []) ++ to_be 2 a ++ zeros 6
head_numbers a =
    let up : 0x1000000000000 * a ≡ a * 256 ^ 6 + 0 = omega arith in
    rw (up, beside 2 6 a 0 (lit< tt)) (unfold to_be in refl)

paired_up : (h p o n z k f c e : Bytes) → h ++ (p ++ o) ++ (n ++ z) ++ k ++ f ++ c ++ e ≡ h ++ p ++ o ++ n ++ z ++ k ++ f ++ c ++ e
paired_up h p o n z k f c e = simp append_assoc

module _ (q : Request) (n k : ℕ) where
  cdb_bytes : (to_be 8 0x7F000000000000E4 ++ to_be 8 (0x1000000000000 * q.action))
      ++ (to_be 8 q.partition ++ to_be 8 q.object)
      ++ (to_be 8 n ++ to_be 8 q.start)
      ++ to_be 4 k
      ++ zeros 28
      ++ take 104 q.capabilities
      ++ zeros 52
      ≡ cdb_parts q n k
  unfolding cdb_parts
  cdb_bytes =
      rw (head_numbers q.action)
      (paired_up ((0x7F ∷ []) ++ zeros 6 ++ (228 ∷ []) ++ to_be 2 q.action ++ zeros 6) (to_be 8 q.partition) (to_be 8 q.object) (to_be 8 n)
      (to_be 8 q.start) (to_be 4 k) (zeros 28) (take 104 q.capabilities) (zeros 52))

  pub cdb_laid : (s : Bytes) {s₁ s₂ s₃ s₄ s₅ s₆ s₇ : Bytes} → IsFit q
      → s₁ ≡ laid 0 (to_be 8 0x7F000000000000E4 ++ to_be 8 (0x1000000000000 * q.action)) s
      → s₂ ≡ laid 16 (to_be 8 q.partition ++ to_be 8 q.object) s₁
      → s₃ ≡ laid 32 (to_be 8 n ++ to_be 8 q.start) s₂
      → s₄ ≡ laid 48 (to_be 4 k) s₃
      → s₅ ≡ laid 52 (zeros 28) s₄
      → s₆ ≡ laid 80 (part 0 104 q.capabilities) s₅
      → s₇ ≡ laid 184 (zeros 52) s₆
      → s₇ ≡ laid 0 (cdb_parts q n k) s
  cdb_laid s fit e₁ e₂ e₃ e₄ e₅ e₆ e₇ =
      let p₁ = first_piece s (to_be 8 0x7F000000000000E4 ++ to_be 8 (0x1000000000000 * q.action)) (length_pair _ _) e₁ zero-le in
      let p₂ = next_piece (to_be 8 q.partition ++ to_be 8 q.object) p₁ refl (length_pair q.partition q.object) e₂ in
      let p₃ = next_piece (to_be 8 n ++ to_be 8 q.start) p₂ refl (length_pair n q.start) e₃ in
      let p₄ = next_piece (to_be 4 k) p₃ refl (length_to_be 4 k) e₄ in
      let p₅ = next_piece (zeros 28) p₄ refl refl e₅ in
      let p₆ = next_piece (part 0 104 q.capabilities) p₅ refl (length_part 0 104 q.capabilities fit.given) e₆ in
      (next_piece (zeros 52) p₆ refl refl e₇).is ∙ ap (λ (d : Bytes). laid 0 d s) cdb_bytes
