-- The bytes of a CDB, one behind the other.
use Rattle.std.specs.Prelude.{ℕ, [], ◌∷◌, ◌++◌, take}
use Rattle.rules.specs.Bytes.{Bytes, zeros, to_be}
use Rattle.rules.specs.Writer.{Request}

unfoldable pub cdb_parts : Request → (size continuation : ℕ) → Bytes
cdb_parts q size continuation =
    (0x7F ∷ [])
    ++ zeros 6
    ++ (228 ∷ [])
    ++ to_be 2 q.action
    ++ zeros 6
    ++ to_be 8 q.partition
    ++ to_be 8 q.object
    ++ to_be 8 size
    ++ to_be 8 q.start
    ++ to_be 4 continuation
    ++ zeros 28
    ++ take 104 q.capabilities
    ++ zeros 52
