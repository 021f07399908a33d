-- The pieces that a segment is written in, one behind the other.
use Rattle.std.specs.Prelude.{ℕ, ◌+◌, ◌*◌, ◌-◌, ◌≤◌, ◌<◌, ◌≡◌, true, cond, ◌||◌, [], ◌∷◌, ◌++◌, length, drop, ltb}
use Rattle.rules.specs.Bytes.{Bytes, zeros, to_be}
use Rattle.rules.specs.Writer.{Request, paired, spelled, descriptor}

-- what holds of a request when CDB and segment are written
pub record IsFit (q : Request) : Type 0 where
  pub action : q.action < 65536
  pub given : 104 ≤ length q.capabilities
  pub limited : length q.capabilities ≤ 936
  pub equal : q.listed ≡ true → length q.offsets ≡ length q.lengths
  pub few : q.listed ≡ true → length q.offsets ≤ 64

-- bytes 0 to 39 of a segment
unfoldable pub segment_head : (action : ℕ) → Bytes
segment_head a = (0x01 ∷ 0 ∷ []) ++ to_be 2 a ++ zeros 36

unfoldable pub list_part : Request → Bytes
list_part q = cond q.listed (descriptor 0x0001 (spelled (paired q.offsets q.lengths))) []

unfoldable pub extension_part : (capabilities : Bytes) → Bytes
extension_part k = cond (ltb 104 (length k)) (descriptor 0xFFEE (drop 104 k)) []

-- with neither list nor extension there is no segment
unfoldable pub segment_parts : Request → Bytes
segment_parts q =
    cond (q.listed || ltb 104 (length q.capabilities)) (segment_head q.action ++ list_part q ++ extension_part q.capabilities) []

-- how long the segment is
unfoldable pub size_for : Request → ℕ
size_for q =
    cond (q.listed || ltb 104 (length q.capabilities))
    (40 + cond q.listed (8 + 16 * length q.offsets) 0 + cond (ltb 104 (length q.capabilities)) (8 + (length q.capabilities - 104)) 0)
    0
