-- Where the data of a list or of an extension lies in a segment.
use Rattle.std.specs.Prelude.{Option, None, Some, ℕ, ◌+◌, ◌≤◌, length}
use Rattle.rules.specs.declared.Part.{Part}
use Rattle.rules.specs.Bytes.{Bytes}

-- the data is inside, and has `most` bytes at most
pub record Lying (most : ℕ) (s : Bytes) (d : Part) : Type 0 where
  pub inside : d.at + d.size ≤ length s
  pub few : d.size ≤ most

abbrev pub LyingAt : (most : ℕ) → Bytes → Option Part → Type 0
LyingAt most s None = Unit {0}
LyingAt most s (Some d) = Lying most s d

-- a list: 64 entries of 16 bytes at most
abbrev pub ListIn : Bytes → Part → Type 0
ListIn s d = Lying 1024 s d

abbrev pub ListAt : Bytes → Option Part → Type 0
ListAt s x = LyingAt 1024 s x

-- an extension: eight capabilities of 104 bytes at most
abbrev pub ExtensionIn : Bytes → Part → Type 0
ExtensionIn s d = Lying 832 s d

abbrev pub ExtensionAt : Bytes → Option Part → Type 0
ExtensionAt s x = LyingAt 832 s x
