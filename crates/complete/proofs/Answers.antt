-- Contracts are complete: any two answers that one allows are equal, and so is what they leave in each slice and number that was lent
-- to be written. `F.Post` is what the function F ensures, as the toolchain makes it of the source: a are its arguments, r and r'
-- two answers, s and s' its parameters at the return, in their order (the third is `s.1.1.0`). What is lent by `&` can't change.
use mathlib.Core.Path.{◌≡◌, refl, ap, sym, ◌∙◌}
use native.Mathlib.Omega.{arith}
use lib.ListN.{length-replicate}
use Rattle.rules.specs.declared.Range.{Range}
use Rattle.rules.specs.declared.Record.{Record}
use Rattle.rules.specs.Bytes.{Bytes, zeros}
use Rattle.rules.specs.Answer.{Answered}
use Rattle.rules.specs.Writer.{Written}
use Rattle.std.specs.Prelude.{ℕ, List, [], ◌∷◌, Option, None, Some, Result, Ok, Err}
use Rattle.std.specs.Option.{MatchOption}
use Rattle.std.specs.Result.{IsOk}
use Rattle.std.specs.Fmt.{IsPlainFormatter, HasWritten}
use Rattle.writer.specs.declared.Unwritten.{Unwritten}
use Rattle.writer.specs.declared.Unwritten.TheVariants.{NotACommand, BuffersShort}
use Rattle.segment.specs.Left.{bytes_left, entries_left}
use Rattle.writer.specs.Post.{number_of, size_of}
use Rattle.holmweder.specs.Face.{Seen}
use Rattle.callfile.specs.Told.{line_text}
use Rattle.rules.proofs.Record.with_length.Reads as with_length
use Rattle.rules.proofs.Record.shortened.Reads as shortened
use Rattle.rules.proofs.VerbTryFromU64.try_from.Reads as try_from
use Rattle.rules.proofs.RefusalFromFault.from.Reads as refusal_from
use Rattle.wire.proofs.get16.Reads as get16
use Rattle.wire.proofs.get32.Reads as get32
use Rattle.wire.proofs.get64.Reads as get64
use Rattle.wire.proofs.put32.Reads as put32
use Rattle.wire.proofs.put64.Reads as put64
use Rattle.movers.proofs.copy.Reads as copy
use Rattle.movers.proofs.wipe.Reads as wipe
use Rattle.movers.proofs.move_down.Reads as move_down
use Rattle.numbers.proofs.number_of.Reads as number_of
use Rattle.numbers.proofs.sense_key.Reads as sense_key
use Rattle.numbers.proofs.sense_code.Reads as sense_code
use Rattle.numbers.proofs.status_of.Reads as status_of
use Rattle.segment.proofs.standing_at.Reads as standing_at
use Rattle.segment.proofs.entry_at.Reads as entry_at
use Rattle.segment.proofs.step_from.Reads as step_from
use Rattle.segment.proofs.first_position.Reads as first_position
use Rattle.segment.proofs.walk_over.Reads as walk_over
use Rattle.segment.proofs.entries_in.Reads as entries_in
use Rattle.segment.proofs.ListEntriesIterator.next.Reads as next
use Rattle.reader.proofs.Reader.first_of.Reads as first_of
use Rattle.reader.proofs.Reader.step.Reads as step
use Rattle.reader.proofs.Reader.moved.Reads as moved
use Rattle.reader.proofs.Reader.left.Reads as left
use Rattle.reader.proofs.nth_of.Reads as nth_of
use Rattle.header.proofs.read_front.Reads as read_front
use Rattle.header.proofs.is_other.Reads as is_other
use Rattle.header.proofs.read_segment.Reads as read_segment
use Rattle.header.proofs.read_command.Reads as read_command
use Rattle.ranges.proofs.sum_of.Reads as sum_of
use Rattle.ranges.proofs.overlap.Reads as overlap
use Rattle.ranges.proofs.is_list_fault.Reads as is_list_fault
use Rattle.ranges.proofs.starts_beyond_in.Reads as starts_beyond_in
use Rattle.ranges.proofs.reach_more.Reads as reach_more
use Rattle.ranges.proofs.reach_in.Reads as reach_in
use Rattle.capability.proofs.is_match.Reads as is_match
use Rattle.capability.proofs.allowance_of.Reads as allowance_of
use Rattle.capability.proofs.is_allowed.Reads as is_allowed
use Rattle.capability.proofs.is_inside.Reads as is_inside
use Rattle.capability.proofs.sought_by.Reads as sought_by
use Rattle.admission.proofs.is_admitted.Reads as is_admitted
use Rattle.question.proofs.place_that_admits.Reads as place_that_admits
use Rattle.question.proofs.capability_that_admits.Reads as capability_that_admits
use Rattle.decision.proofs.decide.Reads as decide
use Rattle.object.proofs.clear_range.Reads as clear_range
use Rattle.object.proofs.punch.Reads as punch
use Rattle.object.proofs.sole_range.Reads as sole_range
use Rattle.object.proofs.gather_ranges.Reads as gather_ranges
use Rattle.object.proofs.scatter_ranges.Reads as scatter_ranges
use Rattle.actions.proofs.read.Reads as read
use Rattle.actions.proofs.write.Reads as write
use Rattle.actions.proofs.clear.Reads as clear
use Rattle.actions.proofs.punch.Reads as punch_action
use Rattle.engine.proofs.execute.Reads as execute
use Rattle.writer.proofs.write_command.Reads as write_command
use Rattle.holmweder.proofs.holmweder_execute.Reads as holmweder_execute
use Rattle.holmweder.proofs.holmweder_admission.Reads as holmweder_admission
use Rattle.holmweder.proofs.holmweder_sense_key.Reads as holmweder_sense_key
use Rattle.holmweder.proofs.holmweder_sense_code.Reads as holmweder_sense_code
use Rattle.holmweder.proofs.holmweder_status.Reads as holmweder_status
use Rattle.holmweder.proofs.holmweder_write.Reads as holmweder_write
use Rattle.callfile.proofs.layout_of.Reads as layout_of
use Rattle.callfile.proofs.record_of.Reads as record_of
use Rattle.callfile.proofs.line_of.Reads as line_of
use Rattle.callfile.proofs.code_text.Reads as code_text
use Rattle.callfile.proofs.LineDisplay.fmt.Reads as fmt

-- two answers that a promise P allows
abbrev One : {K : Type 0} {A R S : K → Type 0} → ((κs : K) → A κs → R κs → S κs → Type 0) → Type 0
One {K} {A} {R} {S} P = (κs : K) (a : A κs) (r r' : R κs) (s s' : S κs) → P κs a r s → P κs a r' s' → r ≡ r'

-- what it lets two calls leave in a parameter, which v finds among them
abbrev Left : {K : Type 0} {A R S : K → Type 0} → ((κs : K) → A κs → R κs → S κs → Type 0) → ((κs : K) → S κs → Bytes) → Type 0
Left {K} {A} {R} {S} P v = (κs : K) (a : A κs) (r r' : R κs) (s s' : S κs) → P κs a r s → P κs a r' s' → v κs s ≡ v κs s'

-- both
abbrev Both : {K : Type 0} {A R S : K → Type 0} → ((κs : K) → A κs → R κs → S κs → Type 0) → ((κs : K) → S κs → Bytes) → Type 0
Both {K} {A} {R} {S} P v = (κs : K) (a : A κs) (r r' : R κs) (s s' : S κs) → P κs a r s → P κs a r' s' → (r ≡ r') × (v κs s ≡ v κs s')

-- ---- `rules`: the record's methods, a verb by its number, a fault's refusal
one_with_length : One with_length.Post
one_with_length κs a r r' s s' e f = e ∙ sym f

one_shortened : One shortened.Post
one_shortened κs a r r' s s' e f = e ∙ sym f

one_try_from : One try_from.Post
one_try_from κs a r r' s s' e f = e ∙ sym f

one_refusal_from : One refusal_from.Post
one_refusal_from κs a r r' s s' e f = e ∙ sym f

-- ---- `wire`: numbers in byte slices
one_get16 : One get16.Post
one_get16 κs a r r' s s' e f = e ∙ sym f

one_get32 : One get32.Post
one_get32 κs a r r' s s' e f = e ∙ sym f

one_get64 : One get64.Post
one_get64 κs a r r' s s' e f = e ∙ sym f

one_put32 : Left put32.Post (λ κs s. s.0.now)
one_put32 κs a r r' s s' e f = e ∙ sym f

one_put64 : Left put64.Post (λ κs s. s.0.now)
one_put64 κs a r r' s s' e f = e ∙ sym f

-- ---- `movers`: bytes within slices
one_copy : Left copy.Post (λ κs s. s.1.1.1.0.now)
one_copy κs a r r' s s' e f = e ∙ sym f

one_wipe : Left wipe.Post (λ κs s. s.0.now)
one_wipe κs a r r' s s' e f = e ∙ sym f

one_move_down : Left move_down.Post (λ κs s. s.0.now)
one_move_down κs a r r' s s' e f = e ∙ sym f

-- ---- `numbers`: numbers, sense and status
one_number_of : One number_of.Post
one_number_of κs a r r' s s' e f = e ∙ sym f

one_sense_key : One sense_key.Post
one_sense_key κs a r r' s s' e f = e ∙ sym f

one_sense_code : One sense_code.Post
one_sense_code κs a r r' s s' e f = e ∙ sym f

one_status_of : One status_of.Post
one_status_of κs a r r' s s' e f = e ∙ sym f

-- ---- `segment`: what stands at a position, and the walk
one_standing_at : One standing_at.Post
one_standing_at κs a r r' s s' e f = e ∙ sym f

one_entry_at : One entry_at.Post
one_entry_at κs a r r' s s' e f = e ∙ sym f

one_step_from : One step_from.Post
one_step_from κs a r r' s s' e f = e ∙ sym f

one_first_position : One first_position.Post
one_first_position κs a r r' s s' e f = e ∙ sym f

one_walk_over : One walk_over.Post
one_walk_over κs a r r' s s' e f = e ∙ sym f

-- its bytes, the place where they stand, and so the entries that it gives
one_entries_in : (κs : _) (a : _) (r r' : _) (s s' : _)
    → entries_in.Post κs a r s → entries_in.Post κs a r' s'
    → ((bytes_left r).now ≡ (bytes_left r').now)
    × ((bytes_left r).ref_ptr ≡ (bytes_left r').ref_ptr)
    × (entries_left r ≡ entries_left r')
one_entries_in κs a r r' s s' e f = (e.0.bytes ∙ sym f.0.bytes, e.0.place ∙ sym f.0.place, e.1 ∙ sym f.1)

-- what is given is the first of what was left, and what is left are the others; or nothing of nothing
split : List Range → Option Range × List Range
split [] = (None, [])
split (g ∷ gs) = (Some g, gs)

given : (r : Option Range) (gs more : List Range) → MatchOption r ((gs ≡ []) × (more ≡ [])) (λ g. gs ≡ g ∷ more)
    → split gs ≡ (r, more)
unfolding split
given None gs more e = rw (e.0, e.1)
given (Some g) gs more e = rw e

one_next : (κs : _) (a : _) (r r' : _) (s s' : _)
    → next.Post κs a r s → next.Post κs a r' s'
    → (r ≡ r')
    × (entries_left s.0.now ≡ entries_left s'.0.now)
one_next κs a r r' s s' e f =
    let w = sym (given r _ _ e.0) ∙ given r' _ _ f.0 in
    (ap (λ (x : Option Range × List Range). x.0) w, ap (λ (x : Option Range × List Range). x.1) w)

-- ---- `reader`: the reader
one_nth_of : One nth_of.Post
one_nth_of κs a r r' s s' e f = e ∙ sym f

one_first_of : (κs : _) (a : _) (r r' : _) (s s' : _)
    → first_of.Post κs a r s → first_of.Post κs a r' s'
    → (r.segment ≡ r'.segment)
    × (r.position ≡ r'.position)
one_first_of κs a r r' s s' e f = (e.0 ∙ sym f.0, e.1 ∙ sym f.1)

one_step : One step.Post
one_step κs a r r' s s' e f = e ∙ sym f

one_moved : (κs : _) (a : _) (r r' : _) (s s' : _)
    → moved.Post κs a r s → moved.Post κs a r' s'
    → (r.segment ≡ r'.segment)
    × (r.position ≡ r'.position)
one_moved κs a r r' s s' e f = (e.0 ∙ sym f.0, e.1 ∙ sym f.1)

one_left : One left.Post
one_left κs a r r' s s' e f = e ∙ sym f

-- ---- `header`: rows 2 to 8
one_read_front : One read_front.Post
one_read_front κs a r r' s s' e f = e ∙ sym f

one_is_other : One is_other.Post
one_is_other κs a r r' s s' e f = e ∙ sym f

-- what is promised of every record, at one of them
anybody : Record
anybody = record { partition = 0; object = 0; length = 0; maximum = 0; tag = 0; epoch = 0 }

one_read_segment : One read_segment.Post
one_read_segment κs a r r' s s' e f = e anybody ∙ sym (f anybody)

one_read_command : One read_command.Post
one_read_command κs a r r' s s' e f = e ∙ sym f

-- ---- `ranges`: two slices of numbers, and a list's entries where they stand
one_sum_of : One sum_of.Post
one_sum_of κs a r r' s s' e f = e (zeros a.1.0) (length-replicate _ 0) ∙ sym (f (zeros a.1.0) (length-replicate _ 0))

one_overlap : One overlap.Post
one_overlap κs a r r' s s' e f = e ∙ sym f

one_is_list_fault : One is_list_fault.Post
one_is_list_fault κs a r r' s s' e f = e ∙ sym f

one_starts_beyond_in : One starts_beyond_in.Post
one_starts_beyond_in κs a r r' s s' e f = e ∙ sym f

one_reach_more : One reach_more.Post
one_reach_more κs a r r' s s' e f = e ∙ sym f

one_reach_in : One reach_in.Post
one_reach_in κs a r r' s s' e f = e ∙ sym f

-- ---- `capability`: one capability
one_is_match : One is_match.Post
one_is_match κs a r r' s s' e f = e ∙ sym f

one_allowance_of : One allowance_of.Post
one_allowance_of κs a r r' s s' e f = e ∙ sym f

one_is_allowed : One is_allowed.Post
one_is_allowed κs a r r' s s' e f = e ∙ sym f

one_is_inside : One is_inside.Post
one_is_inside κs a r r' s s' e f = e ∙ sym f

one_sought_by : One sought_by.Post
one_sought_by κs a r r' s s' e f = e ∙ sym f

-- ---- `admission`: row 11
one_is_admitted : One is_admitted.Post
one_is_admitted κs a r r' s s' e f = e ∙ sym f

-- ---- `question`: the admission question
one_place_that_admits : One place_that_admits.Post
one_place_that_admits κs a r r' s s' e f = e ∙ sym f

one_capability_that_admits : (κs : _) (a : _) (r r' : _) (s s' : _)
    → capability_that_admits.Post κs a r s → capability_that_admits.Post κs a r' s'
    → (r.now ≡ r'.now)
    × (r.ref_ptr ≡ r'.ref_ptr)
one_capability_that_admits κs a r r' s s' e f = (e.bytes ∙ sym f.bytes, e.place ∙ sym f.place)

-- ---- `decision`: the decision
one_decide : One decide.Post
one_decide κs a r r' s s' e f = e ∙ sym f

-- ---- `object`: a command's ranges
one_clear_range : Left clear_range.Post (λ κs s. s.0.now)
one_clear_range κs a r r' s s' e f = e ∙ sym f

one_punch : Both punch.Post (λ κs s. s.0.now)
one_punch κs a r r' s s' e f = (e.0 ∙ sym f.0, e.1 ∙ sym f.1)

one_sole_range : One sole_range.Post
one_sole_range κs a r r' s s' e f = e ∙ sym f

one_gather_ranges : Both gather_ranges.Post (λ κs s. s.1.1.1.1.0.now)
one_gather_ranges κs a r r' s s' e f = (e.0 ∙ sym f.0, e.1 ∙ sym f.1)

one_scatter_ranges : Left scatter_ranges.Post (λ κs s. s.1.1.1.1.1.0.now)
one_scatter_ranges κs a r r' s s' e f = e ∙ sym f

-- ---- `actions`: what each verb does
one_read : Both read.Post (λ κs s. s.1.1.1.1.0.now)
one_read κs a r r' s s' e f = (e.0 ∙ sym f.0, e.1 ∙ sym f.1)

one_write : Both write.Post (λ κs s. s.1.1.1.1.1.0.now)
one_write κs a r r' s s' e f = (e.0 ∙ sym f.0, e.1 ∙ sym f.1)

one_clear : Both clear.Post (λ κs s. s.1.1.1.0.now)
one_clear κs a r r' s s' e f = (e.0 ∙ sym f.0, e.1 ∙ sym f.1)

-- `one_punch` is of the object
one_punch_action : Both punch_action.Post (λ κs s. s.1.1.0.now)
one_punch_action κs a r r' s s' e f = (e.0 ∙ sym f.0, e.1 ∙ sym f.1)

-- ---- `engine`: the engine
one_execute : (κs : _) (a : _) (r r' : _) (s s' : _)
    → execute.Post κs a r s → execute.Post κs a r' s'
    → (r ≡ r')
    × (s.1.1.1.0.now ≡ s'.1.1.1.0.now)
    × (s.1.1.1.1.0.now ≡ s'.1.1.1.1.0.now)
one_execute κs a r r' s s' e f =
    let w = e ∙ sym f in
    (ap (λ (x : Answered). x.answer) w, ap (λ (x : Answered). x.slice) w, ap (λ (x : Answered). x.input) w)

-- ---- `writer`: the host's writer
-- an answer is told by its number and its length
same_answer : (r r' : Result ℕ Unwritten) → number_of r ≡ number_of r' → size_of r ≡ size_of r' → r ≡ r'
same_answer (Ok n) (Ok n') e f = ap Ok f
same_answer (Ok n) (Err NotACommand) e f = absurd (omega arith)
same_answer (Ok n) (Err BuffersShort) e f = absurd (omega arith)
same_answer (Err NotACommand) (Ok n) e f = absurd (omega arith)
same_answer (Err BuffersShort) (Ok n) e f = absurd (omega arith)
same_answer (Err NotACommand) (Err NotACommand) e f = refl
same_answer (Err NotACommand) (Err BuffersShort) e f = absurd (omega arith)
same_answer (Err BuffersShort) (Err NotACommand) e f = absurd (omega arith)
same_answer (Err BuffersShort) (Err BuffersShort) e f = refl

one_write_command : (κs : _) (a : _) (r r' : _) (s s' : _)
    → write_command.Post κs a r s → write_command.Post κs a r' s'
    → (r ≡ r')
    × (s.1.0.now ≡ s'.1.0.now)
    × (s.1.1.0.now ≡ s'.1.1.0.now)
one_write_command κs a r r' s s' e f =
    (same_answer r r' (e.number ∙ sym f.number) (e.size ∙ sym f.size), e.cdb ∙ sym f.cdb, e.segment ∙ sym f.segment)

-- ---- `holmweder`: the C face
one_holmweder_execute : (κs : _) (a : _) (r r' : _) (s s' : _)
    → holmweder_execute.Post κs a r s → holmweder_execute.Post κs a r' s'
    → (r ≡ r')
    × (s.1.1.1.1.1.1.1.1.0.now ≡ s'.1.1.1.1.1.1.1.1.0.now)
    × (s.1.1.1.1.1.1.1.1.1.0.now ≡ s'.1.1.1.1.1.1.1.1.1.0.now)
    × (s.1.1.1.1.1.1.1.1.1.1.0.now ≡ s'.1.1.1.1.1.1.1.1.1.1.0.now)
    × (s.1.1.1.1.1.1.1.1.1.1.1.0.now ≡ s'.1.1.1.1.1.1.1.1.1.1.1.0.now)
one_holmweder_execute κs a r r' s s' e f =
    let w = e ∙ sym f in (
      ap (λ (x : Seen). x.number) w,
      ap (λ (x : Seen). x.slice) w,
      ap (λ (x : Seen). x.input) w,
      ap (λ (x : Seen). x.count) w,
      ap (λ (x : Seen). x.logical) w,
    )

one_holmweder_admission : (κs : _) (a : _) (r r' : _) (s s' : _)
    → holmweder_admission.Post κs a r s → holmweder_admission.Post κs a r' s'
    → (r ≡ r')
    × (s.1.1.1.1.1.1.1.1.1.1.0.now ≡ s'.1.1.1.1.1.1.1.1.1.1.0.now)
one_holmweder_admission κs a r r' s s' e f = (e.lent ∙ sym f.lent, e.offset ∙ sym f.offset)

one_holmweder_sense_key : One holmweder_sense_key.Post
one_holmweder_sense_key κs a r r' s s' e f = e ∙ sym f

one_holmweder_sense_code : One holmweder_sense_code.Post
one_holmweder_sense_code κs a r r' s s' e f = e ∙ sym f

one_holmweder_status : One holmweder_status.Post
one_holmweder_status κs a r r' s s' e f = e ∙ sym f

one_holmweder_write : (κs : _) (a : _) (r r' : _) (s s' : _)
    → holmweder_write.Post κs a r s → holmweder_write.Post κs a r' s'
    → (r ≡ r')
    × (s.1.1.1.1.1.1.1.1.1.0.now ≡ s'.1.1.1.1.1.1.1.1.1.0.now)
    × (s.1.1.1.1.1.1.1.1.1.1.0.now ≡ s'.1.1.1.1.1.1.1.1.1.1.0.now)
    × (s.1.1.1.1.1.1.1.1.1.1.1.0.now ≡ s'.1.1.1.1.1.1.1.1.1.1.1.0.now)
one_holmweder_write κs a r r' s s' e f =
    let w = e ∙ sym f in
    (ap (λ (x : Written). x.number) w, ap (λ (x : Written). x.cdb) w, ap (λ (x : Written). x.segment) w, ap (λ (x : Written). x.size) w)

-- ---- `callfile`: a call as a file has it, and its answer as a line
one_layout_of : One layout_of.Post
one_layout_of κs a r r' s s' e f = e ∙ sym f

one_record_of : One record_of.Post
one_record_of κs a r r' s s' e f = e ∙ sym f

one_line_of : One line_of.Post
one_line_of κs a r r' s s' e f = e ∙ sym f

one_code_text : One code_text.Post
one_code_text κs a r r' s s' e f = e ∙ sym f

-- two calls whose text the writer takes, which isn't the formatter's to say, write the same text
one_fmt : (κs : _) (t : _) (u : _) (v : _) (w : _) (a : _) (r r' : _) (s s' : _)
    → fmt.Post κs t u v w a r s → fmt.Post κs t u v w a r' s'
    → IsPlainFormatter a.1.0.now → IsOk r → IsOk r'
    → (text : Bytes) × HasWritten u.write_str_gives a.1.0.now text s.1.0.now × HasWritten u.write_str_gives a.1.0.now text s'.1.0.now
one_fmt κs t u v w a r r' s s' e f plain ok ok' = (line_text a.0.now, e.0 plain ok, f.0 plain ok')
