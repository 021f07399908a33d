-- What the program `bench` prints for a file (document 01): number, key, code, count and logical length afterwards, or `bad file`.
use Rattle.std.specs.Prelude.{Option, option_map}
use Rattle.rules.specs.declared.Answer.{Answer}
use Rattle.rules.specs.Bytes.{Bytes, zeros}
use Rattle.rules.specs.Answer.{answered}
use Rattle.header.specs.Reading.{command}
use Rattle.callfile.specs.declared.Sections.{Sections}
use Rattle.callfile.specs.declared.Line.{Line}
use Rattle.callfile.specs.File.{bytes_of, record_of, layout_of}
use Rattle.callfile.specs.Told.{line_of}

-- the book's answer to the call, with a Data-In of 4,096 zeros
unfoldable pub answer_to : (file : Bytes) → Sections → Answer
answer_to f s =
    (answered (command (bytes_of f s.cdb) (bytes_of f s.out) (record_of (bytes_of f s.on))) (bytes_of f s.slice) (zeros 4096)
    ).answer

-- none for a bad file
unfoldable pub reply_to : (file : Bytes) → Option Line
reply_to f = option_map (λ (s : Sections). line_of (answer_to f s)) (layout_of f)
