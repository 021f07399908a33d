-- An answer as a line tells it (document 01): number, key, code, count and logical length afterwards.
use Rattle.std.specs.Prelude.{ℕ, ◌+◌, ◌/◌, ◌%◌, cond, [], ◌∷◌, ◌++◌, ltb}
use Rattle.std.specs.Fmt.{decimal}
use Rattle.rules.specs.declared.Answer.{Answer}
use Rattle.rules.specs.Bytes.{Bytes}
use Rattle.rules.specs.Numbers.{number, sense}
use Rattle.callfile.specs.declared.Line.{Line}

unfoldable pub line_of : Answer → Line
line_of a =
    record {
      number = number a.outcome;
      key = (sense (number a.outcome)).key;
      code = (sense (number a.outcome)).code;
      count = a.count;
      length = a.next.length;
    }

-- a digit below 16 in ASCII: `0` to `9`, then `A` to `F`
abbrev pub hex_digit : ℕ → ℕ
hex_digit d = cond (ltb d 10) (48 + d) (55 + d)

-- the code as four hexadecimal digits
abbrev pub code_text : ℕ → Bytes
code_text n = hex_digit (n / 4096 % 16) ∷ hex_digit (n / 256 % 16) ∷ hex_digit (n / 16 % 16) ∷ hex_digit (n % 16) ∷ []

-- the line as it is printed, a space (32) before each but the first
abbrev pub line_text : Line → Bytes
line_text l = decimal l.number ++ (32 ∷ decimal l.key) ++ (32 ∷ code_text l.code) ++ (32 ∷ decimal l.count) ++ (32 ∷ decimal l.length)
