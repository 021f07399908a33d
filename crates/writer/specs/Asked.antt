-- What a host asks for, as the book's request.
use Rattle.std.specs.Prelude.{ℕ, List, [], Option, None, Some, is_some}
use Rattle.rules.specs.Writer.{Request}
use Rattle.writer.specs.declared.List.{List as Listing}
use Rattle.writer.specs.declared.Request.{Request as Asked}
use Rattle.writer.specs.Planning.{request}

abbrev pub offsets_of : Option Listing → List ℕ
offsets_of None = []
offsets_of (Some l) = l.offsets.now

abbrev pub lengths_of : Option Listing → List ℕ
lengths_of None = []
lengths_of (Some l) = l.lengths.now

-- without a list, none of the book's answers looks at the two slices of numbers
abbrev pub request_of : Asked → Request
request_of r = request r.action r.partition r.object r.start r.size (is_some r.list) (offsets_of r.list) (lengths_of r.list) r.capabilities.now
