-- What the writer knows of a request before it looks at the buffers.
use Rattle.std.specs.Prelude.{is_some, ℕ, Bool, cond, List, take, drop, Option, None, Some}
use Rattle.rules.specs.Bytes.{Bytes}
use Rattle.rules.specs.Tests.{Test, first_of}
use Rattle.rules.specs.Writer.{Request, length_for, refusals}

abbrev pub request : (action partition object start size : ℕ) → (listed : Bool) → (offsets lengths : List ℕ) → (capabilities : Bytes) → Request
request action partition object start size listed offsets lengths capabilities =
    record {
      action = action;
      partition = partition;
      object = object;
      start = start;
      size = size;
      listed = listed;
      offsets = offsets;
      lengths = lengths;
      capabilities = capabilities;
    }

-- of the book's tests, the five of the list, which stand behind those of action and capabilities; none of them looks at the buffers
unfoldable pub list_tests : Request → List (Test ℕ)
list_tests q = take 5 (drop 2 (refusals q 0 0))

-- what LENGTH is, unless the list is refused
unfoldable pub planned : Request → Option ℕ
planned q = cond (is_some (first_of (list_tests q))) None (Some (length_for q))
