-- The answer to a sound file.
use mathlib.Core.Path.{◌≡◌, ap, sym}
use Rattle.std.specs.Prelude.{Some}
use Rattle.rules.specs.declared.Answer.{Answer}
use Rattle.rules.specs.Bytes.{Bytes}
use Rattle.rules.specs.Command.{Command}
use Rattle.rules.specs.Answer.{answered, Answered}
use Rattle.engine.specs.Promise.{whole}
use Rattle.callfile.specs.declared.Sections.{Sections}
use Rattle.callfile.specs.File.{layout_of, Inside}
use Rattle.callfile.proofs.Layouts.{sound_inside}

-- the answer alone, on a slice that is a copy of the one given
pub answered_whole : (c : Command) (s t i s' i' : Bytes) (a : Answer) → whole a s' i' ≡ answered c t i → t ≡ s → a ≡ (answered c s i).answer
answered_whole c s t i s' i' a e g = ap (λ (w : Answered). w.answer) (rw g at e)

pub sections_inside : (f : Bytes) (s : Sections) → Some s ≡ layout_of f → Inside f s
sections_inside f s e = sound_inside f s (sym e)
