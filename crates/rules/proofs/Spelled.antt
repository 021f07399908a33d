-- Entries and descriptors as the writer spells them: how long they are, and one entry more.
use Prim.Native.Nat.{ℕ, zero, suc, ◌+◌, ◌*◌, ◌<◌}
use mathlib.Core.Path.{◌≡◌, refl, ap, sym, ◌∙◌}
use mathlib.Core.List.{List, [], ◌∷◌, ◌++◌, append_assoc, append-nil}
use native.Mathlib.Omega.{arith}
use lib.ListN.{length, take, get_or, length-append}
use Rattle.rules.specs.declared.Range.{Range}
use Rattle.rules.specs.Bytes.{Bytes, to_be}
use Rattle.rules.specs.Writer.{paired, spelled, descriptor}
use Rattle.rules.proofs.BigEndian.{length_to_be}

pub length_spelled : (gs : List Range) → length (spelled gs) ≡ 16 * length gs
unfolding spelled
length_spelled [] = refl
length_spelled (g ∷ gs) = simp (length-append, length_to_be, length_spelled gs) (omega arith)

pub length_paired : (os ns : List ℕ) → length os ≡ length ns → length (paired os ns) ≡ length os
unfolding paired
length_paired [] ns e = refl
length_paired (o ∷ os) [] e = absurd (omega arith)
length_paired (o ∷ os) (n ∷ ns) e = ap suc (length_paired os ns (omega arith))

pub length_descriptor : (kind : ℕ) (d : Bytes) → length (descriptor kind d) ≡ 8 + length d
unfolding descriptor
length_descriptor kind d = simp (length-append, length_to_be) (omega arith)

-- one entry more
pub spelled_more : (i : ℕ) (os ns : List ℕ) → i < length os → i < length ns
    → spelled (paired (take (suc i) os) (take (suc i) ns)) ≡ spelled (paired (take i os) (take i ns)) ++ (to_be 8 (get_or os i 0) ++ to_be 8 (get_or ns i 0))
unfolding paired spelled
spelled_more i [] ns h k = absurd (omega arith)
spelled_more i (o ∷ os) [] h k = absurd (omega arith)
spelled_more zero (o ∷ os) (n ∷ ns) h k = append-nil (to_be 8 o ++ to_be 8 n)
spelled_more (suc i) (o ∷ os) (n ∷ ns) h k =
    ap (λ (s : Bytes). to_be 8 o ++ to_be 8 n ++ s) (spelled_more i os ns (omega arith) (omega arith))
    ∙ sym (append_assoc (to_be 8 o ++ to_be 8 n) (spelled (paired (take i os) (take i ns))) (to_be 8 (get_or os i 0) ++ to_be 8 (get_or ns i 0)))
