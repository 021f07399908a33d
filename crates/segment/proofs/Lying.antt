-- The data of a list and of an extension that a walk has found lie inside the segment.
use Rattle.std.specs.Prelude.{Option, None, Some}
use Prim.Native.Nat.{ℕ}
use mathlib.Core.Path.{◌≡◌, refl, subst}
use Rattle.rules.specs.declared.Part.{Part}
use Rattle.rules.specs.Bytes.{Bytes}
use Rattle.rules.specs.Command.{Command, segment}
use Rattle.rules.specs.Reading.{found}
use Rattle.rules.proofs.Segment.{Lies, sound_found}
use Rattle.segment.specs.Lying.{Lying, LyingAt, ListAt, ExtensionAt}

-- where there is such data, it does
pub lies : {most : ℕ} (s : Bytes) (x : Option Part) (d : Part) → LyingAt most s x → x ≡ Some d → Lying most s d
lies {most} s x d l e = subst (λ (y : Option Part). LyingAt most s y) e l

-- what a command's walk has found
spot_lies : {width most : ℕ} (s : Bytes) (x : Option Part) → ((d : Part) → x ≡ Some d → Lies width most s d) → LyingAt most s x
spot_lies s None through = tt
spot_lies s (Some d) through =
    let l = (through d refl).through in
    record { inside = l.inside; few = l.small }

pub list_found : (c : Command) → ListAt (segment c) (found c).list
list_found c = spot_lies (segment c) (found c).list (sound_found c).list

pub extension_found : (c : Command) → ExtensionAt (segment c) (found c).extension
extension_found c = spot_lies (segment c) (found c).extension (λ d e. ((sound_found c).extension d e).0)
