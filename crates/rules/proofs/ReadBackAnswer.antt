-- The tie between the halves: the engine's answer to a written command is the answer to the request itself.
use Rattle.std.specs.Prelude.{is_some, Option, None, Some}
use mathlib.Core.Path.{◌≡◌, refl, ap, sym, fun_ext, ◌∙◌}
use mathlib.Core.Bool.{Bool, true, false, cond, ◌&&◌, ◌||◌, not, true≢false}
use mathlib.Core.List.{List, [], ◌∷◌, map}
use lib.ListN.{length}
use lib.Dec.{ltb}
use Rattle.rules.specs.declared.Record.{Record}
use Rattle.rules.specs.declared.Range.{Range}
use Rattle.rules.specs.declared.Verb.{Verb}
use Rattle.rules.specs.declared.Verb.TheVariants.{Read, Write, Clear, Punch}
use Rattle.rules.specs.declared.Refusal.{Refusal}
use Rattle.rules.specs.Bytes.{Bytes, any, all}
use Rattle.rules.specs.Tests.{test, first_of}
use Rattle.rules.specs.Command.{verb_of, verb, asks, is_read, is_write, is_clear, is_punch, sole_range, partition_of, object_of}
use Rattle.rules.specs.Capability.{matches, inside}
use Rattle.rules.specs.Reading.{Held, capabilities}
use Rattle.rules.specs.Header.{front_rows, segment_rows, header}
use Rattle.rules.specs.Admission.{fits, admits, admitting, admitted}
use Rattle.rules.specs.Rows.{Room, object_unfit, not_admitted, starts_beyond, buffer_short, raised, no_room, rows, refusal}
use Rattle.rules.specs.Answer.{refused, read, wrote, cut, carried, settled, answered}
use Rattle.rules.specs.Writer.{Request, entries, length_for}
use Rattle.rules.specs.Ranges.{total}
use Rattle.rules.specs.ReadBack.{Same, ranges_for, capabilities_for, matches_for, admitted_for, raised_for, rows_for, carried_for}
use Rattle.rules.specs.ReadBack.{settled_for, answered_for, Answers}
use Rattle.rules.proofs.Accepted.{Accepted}
use Rattle.rules.proofs.ReadBackRead.{as_command}
use Rattle.rules.proofs.ReadBack.{as_written, same}

-- ---- a test over bytes that are held somewhere is one over the bytes

any_map : (p : Bytes → Bool) (ks : List Held) → any (λ (k : Held). p k.bytes) ks ≡ any p (map (λ (k : Held). k.bytes) ks)
unfolding any
any_map p [] = refl
any_map p (k ∷ ks) = ap (λ (b : Bool). p k.bytes || b) (any_map p ks)

first_any : (p : Held → Bool) (ks : List Held) → is_some (first_of (map (λ (k : Held). test k (p k)) ks)) ≡ any p ks
unfolding any first_of
first_any p [] = refl
first_any p (k ∷ ks) = go (p k) (first_any p ks)
  where
    go : (b : Bool) → is_some (first_of (map (λ (k : Held). test k (p k)) ks)) ≡ any p ks
        → is_some (cond b (Some k) (first_of (map (λ (k : Held). test k (p k)) ks))) ≡ b || any p ks
    go true e = refl
    go false e = e

module _ (q : Request) (d : Bytes) (r : Record) (v : Verb) (a : Accepted q) (k : Same q d (as_command q d r)) (is : verb_of q.action ≡ Some v) where
  named : verb (as_command q d r) ≡ Some v
  named = k.action_is ∙ is

  -- ---- row 11

  matching : (x : Bytes) → matches v (partition_of (as_command q d r).cdb) (object_of (as_command q d r).cdb) r x ≡ matches_for v q r x
  unfolding matches_for
  matching x = rw (k.partition_is, k.object_is)

  any_fits : any (fits v (as_command q d r)) (capabilities (as_command q d r)) ≡ any (matches_for v q r) (capabilities_for q)
  unfolding fits
  any_fits =
      ap (λ (p : Bytes → Bool). any (λ (x : Held). p x.bytes) (capabilities (as_command q d r))) (fun_ext matching)
      ∙ any_map (matches_for v q r) (capabilities (as_command q d r))
      ∙ ap (any (matches_for v q r)) k.capabilities_are

  admits_one : (g : Range) → is_some (admitting v (as_command q d r) g) ≡ any (λ (x : Bytes). matches_for v q r x && inside g x) (capabilities_for q)
  unfolding admitting admits fits
  admits_one g =
      first_any (admits v (as_command q d r) g) (capabilities (as_command q d r))
      ∙ ap (λ (p : Bytes → Bool). any (λ (x : Held). p x.bytes && inside g x.bytes) (capabilities (as_command q d r))) (fun_ext matching)
      ∙ any_map (λ (x : Bytes). matches_for v q r x && inside g x) (capabilities (as_command q d r))
      ∙ ap (any (λ (x : Bytes). matches_for v q r x && inside g x)) k.capabilities_are

  admission : not_admitted (as_command q d r) ≡ not (admitted_for v q r)
  unfolding not_admitted admitted admitted_for
  admission =
      rw (named, any_fits, k.ranges_are)
      (ap (λ (p : Range → Bool). not (any (matches_for v q r) (capabilities_for q) && all p (ranges_for q))) (fun_ext admits_one))

  -- ---- rows 12 to 14

  begins : starts_beyond (as_command q d r) ≡ (is_read v || is_punch v) && any (λ (g : Range). ltb r.length g.start) (ranges_for q)
  unfolding starts_beyond
  begins = rw (named, k.ranges_are)

  supplies : (m : Room)
      → buffer_short (as_command q d r) m ≡ is_read v && ltb m.input (length_for q) || is_write v && ltb (length d) (length_for q)
  unfolding buffer_short
  supplies m = rw (named, k.length_is, k.payload_is)

  raises : raised (as_command q d r) ≡ raised_for q r
  unfolding raised raised_for
  raises = rw k.ranges_are

  room : (m : Room)
      → no_room (as_command q d r) m
      ≡ (is_write v || is_clear v) && ltb r.length (raised_for q r) && (ltb r.maximum (raised_for q r) || ltb m.slice (raised_for q r))
  unfolding no_room
  room m = rw (named, raises)

  -- the first row that holds
  refuses : (m : Room) → refusal (as_command q d r) m ≡ first_of (rows_for v q d r m)
  unfolding refusal rows header front_rows segment_rows rows_for first_of object_unfit
  refuses m =
      rw (
        k.row2,
        k.row3,
        k.row4,
        k.row5,
        k.row6,
        k.row7,
        k.row8,
        k.row9,
        k.row10,
        admission,
        begins,
        supplies m,
        room m,
      )

  -- ---- the effect

  -- PUNCH has no list, so its one range is the request's
  punch_alone : v ≡ Punch → sole_range (as_command q d r).cdb ≡ record { start = q.start; size = q.size }
  unfolding sole_range length_for
  punch_alone e = rw (k.start_is, k.length_is) (go q.listed refl)
    where
      go : (l : Bool) → q.listed ≡ l
          → ◌≡◌ {A = Range} (record { start = q.start; size = cond l (total (entries q)) q.size }) (record { start = q.start; size = q.size })
      go false f = refl
      go true f = absurd (true≢false (sym (ap (λ (o : Option Verb). asks o (λ (v : Verb). is_clear v || is_punch v)) (is ∙ ap Some e)) ∙ a.may_list f))

  does : (s i : Bytes) → carried v (as_command q d r) s i ≡ carried_for v q d r s i
  does s i = go v refl
    where
      go : (w : Verb) → v ≡ w → carried w (as_command q d r) s i ≡ carried_for w q d r s i
      go Read e = unfold carried carried_for read in rw (k.ranges_are, k.length_is)
      go Write e = unfold carried carried_for wrote in rw (k.ranges_are, k.length_is, k.payload_is, raises)
      go Clear e = unfold carried carried_for wrote in rw (k.ranges_are, k.length_is, raises)
      go Punch e = unfold carried carried_for cut in rw (punch_alone e)

  answers_alike : (s i : Bytes) → answered (as_command q d r) s i ≡ answered_for v q d r s i
  unfolding answered answered_for
  answers_alike s i =
      let m : Room = record { slice = length s; input = length i } in
      rw (refuses m, named) (go (first_of (rows_for v q d r m)))
    where
      go : (o : Option Refusal) → settled o (Some v) (as_command q d r) s i ≡ settled_for o v q d r s i
      go None = unfold settled settled_for in does s i
      go (Some w) = unfold settled settled_for refused in refl

pub answers : Answers
unfolding Answers
answers q cdb segment' d r v s i b e is =
    let k = as_written q cdb segment' d r e in
    rw k.1 (answers_alike q d r v k.0 (same q k.0 d r b) is s i)
