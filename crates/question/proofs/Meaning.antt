-- What the search finds is what the book says of the command that was read.
use Rattle.std.specs.Prelude.{Result, Ok, Err, Option, None, Some}
use Rattle.std.specs.Result.{result_ok}
use Rattle.rules.specs.declared.Part.{Part}
use Prim.Native.Nat.{ℕ, zero, suc, ◌+◌, ◌*◌, ◌/◌, ◌≤◌}
use mathlib.Core.Path.{◌≡◌, refl, ap, sym, ◌∙◌}
use mathlib.Core.Bool.{Bool, true, false, cond}
use mathlib.Core.List.{List, [], ◌∷◌, map}
use native.Mathlib.Omega.{arith}
use lib.ListN.{length, take, length-take}
use Rattle.rules.specs.declared.Range.{Range}
use Rattle.rules.specs.declared.Record.{Record}
use Rattle.rules.specs.declared.Refusal.{Refusal}
use Rattle.rules.specs.declared.Verb.{Verb}
use Rattle.rules.specs.Bytes.{Bytes, part}
use Rattle.rules.specs.Tests.{first_of}
use Rattle.rules.specs.Command.{Command, segment}
use Rattle.rules.specs.Segment.{places_from}
use Rattle.rules.specs.Reading.{Held, found, solo, extension, extensions_of, capabilities}
use Rattle.rules.specs.Header.{header, readable}
use Rattle.rules.specs.Admission.{admits, admitting, admitting_for, question}
use Rattle.header.specs.declared.Parsed.{Parsed}
use Rattle.header.specs.Reading.{said_by, command, reading_of}
use Rattle.header.proofs.Rows.{Says, says, unreadable}
use Rattle.segment.specs.Lying.{ExtensionAt}
use Rattle.capability.specs.Sought.{Reads, sought_by, admits_in}
use Rattle.capability.proofs.Meaning.{said_in, sought_in, admits_is, first_by, says_reads, part_is, part_ends, part_reads}
use Rattle.question.specs.declared.Place.{Place}
use Rattle.question.specs.declared.Place.TheVariants.{InCdb, InOut}
use Rattle.question.specs.Places.{place_of, first_at, first_from, first_spot, first_in}

-- ---- the first that admits a range, of some capabilities in their order
module _ (v : Verb) (c : Command) where
  -- one more in front: k stands at w
  chosen : (g : Range) (k : Held) (ks : List Held) (w : Option Place) → place_of (Some k) ≡ w → (rest : Option Place) → place_of (first_by v c g ks) ≡ rest
      → place_of (first_by v c g (k ∷ ks)) ≡ cond (admits_in (sought_in v c) g k.bytes) w rest
  unfolding first_of
  chosen g k ks w is rest r = go (admits v c g k) (admits_is v c g k)
    where
      go : (b : Bool) → b ≡ admits_in (sought_in v c) g k.bytes
          → place_of (cond b (Some k) (first_by v c g ks)) ≡ cond (admits_in (sought_in v c) g k.bytes) w rest
      go true e = rw (← e) is
      go false e = rw (← e) r

  -- the extension's
  first_places : (g : Range) (ps : List ℕ) → place_of (first_by v c g (map (extension c) ps)) ≡ first_at (admits_in (sought_in v c) g) (segment c) ps
  unfolding first_of first_at extension
  first_places g [] = refl
  first_places g (a ∷ ps) = chosen g (extension c a) (map (extension c) ps) (Some (InOut a)) refl _ (first_places g ps)

  first_spot_lem : (g : Range) (x : Option Part) → place_of (first_by v c g (extensions_of x c)) ≡ first_spot (admits_in (sought_in v c) g) (segment c) x
  unfolding first_of first_from
  first_spot_lem g None = refl
  first_spot_lem g (Some d) = first_places g (places_from (d.size / 104) d.at)

  -- the command's
  admitting_is : (g : Range) → place_of (admitting v c g) ≡ first_in c.cdb (segment c) (said_in v c) c.on g
  unfolding admitting capabilities first_in solo said_by
  admitting_is g = chosen g (solo c) (extensions_of (found c).extension c) (Some InCdb) refl _ (first_spot_lem g (found c).extension)

-- ---- over a reading
module _ (c : Command) (p : Parsed) (s : Says c p) where
  pub says_first : (g : Range) → place_of (admitting p.verb c g) ≡ first_in c.cdb (segment c) p c.on g
  says_first g = admitting_is p.verb c g ∙ ap (λ (q : Parsed). first_in c.cdb (segment c) q c.on g) (sym s.said)

  -- the question, of a command that was read
  pub says_question : (g : Range) → place_of (question c g) ≡ first_in c.cdb (segment c) p c.on g
  unfolding question readable admitting_for
  says_question g = rw (s.passes, s.verb) (says_first g)

pub refuses_question : (c : Command) (w : Refusal) (g : Range) → first_of (header c) ≡ Some w
    → None ≡ place_of (question c g)
unfolding question readable
refuses_question c w g e = rw e

-- ---- over the answer of the reading, asked by `ok`
module _ (c : Command) (r : Result Parsed Refusal) (e : r ≡ reading_of c) where
  pub reading_said : (p : Parsed) → result_ok r ≡ Some p → reading_of c ≡ Ok p
  reading_said p = go r e
    where
      go : (x : Result Parsed Refusal) → x ≡ reading_of c → result_ok x ≡ Some p → reading_of c ≡ Ok p
      go (Ok q) h k = let z : q ≡ p = cc in sym h ∙ ap Ok z
      go (Err u) h k = let z : ◌≡◌ {A = ℕ} 0 1 = cc in absurd (omega arith)

  pub reading_refused : (g : Range) → result_ok r ≡ None → None ≡ place_of (question c g)
  reading_refused g = go r e
    where
      go : (x : Result Parsed Refusal) → x ≡ reading_of c → result_ok x ≡ None → None ≡ place_of (question c g)
      go (Ok q) h k = let z : ◌≡◌ {A = ℕ} 0 1 = cc in absurd (omega arith)
      go (Err u) h k = refuses_question c u g (unreadable c u (sym h))

-- ---- and the part of Data-Out that the code takes for the segment
module _ (c : Command) (p : Parsed) (e : reading_of c ≡ Ok p) where
  pub part_question : (g : Range) (w : Option Place) → w ≡ first_in c.cdb (take p.segment c.out) p c.on g → w ≡ place_of (question c g)
  part_question g w q = q ∙ ap (λ (s : Bytes). first_in c.cdb s p c.on g) (part_is c p e) ∙ sym (says_question c p (says c p e) g)

-- ---- both together, of what the code is handed
module _ (cdb out : Bytes) (on : Record) (r : Result Parsed Refusal) (p : Parsed)
    (e : r ≡ reading_of (command cdb out on)) (is : result_ok r ≡ Some p) where
  was : reading_of (command cdb out on) ≡ Ok p
  was = reading_said (command cdb out on) r e p is

  pub segment_fits : p.segment ≡ length (take p.segment out)
  segment_fits = let l = part_ends (command cdb out on) p was in simp length-take (omega arith)

  pub segment_reads : Reads cdb (take p.segment out) p
  segment_reads = part_reads (command cdb out on) p was

  pub place_asked : (g : Range) (w : Option Place) → w ≡ first_in cdb (take p.segment out) p on g → w ≡ place_of (question (command cdb out on) g)
  place_asked = part_question (command cdb out on) p was

-- what `question::place_that_admits` meets its contract by
pub ruleset asking = (reading_refused, segment_fits, segment_reads, place_asked)

-- ---- where a capability is handed back from, there are 104 bytes

place_inside : (t : Bytes → Bool) (s : Bytes) (n start at : ℕ) → first_at t s (places_from n start) ≡ Some (InOut at) → at + 104 ≤ start + 104 * n
unfolding places_from first_at
place_inside t s zero start at e = let z : ◌≡◌ {A = ℕ} 0 1 = cc in absurd (omega arith)
place_inside t s (suc n) start at e = go (t (part start 104 s)) e (place_inside t s n (start + 104) at)
  where
    go : (b : Bool) → cond b (Some (InOut start)) (first_at t s (places_from n (start + 104))) ≡ Some (InOut at)
        → (first_at t s (places_from n (start + 104)) ≡ Some (InOut at) → at + 104 ≤ start + 104 + 104 * n) → at + 104 ≤ start + 104 * suc n
    go true q r = let z : start ≡ at = cc in omega arith
    go false q r = let z = r q in omega arith

spot_inside : (t : Bytes → Bool) (s : Bytes) (x : Option Part) (at : ℕ) → ExtensionAt s x → first_spot t s x ≡ Some (InOut at) → at + 104 ≤ length s
unfolding first_from
spot_inside t s None at l e = let z : ◌≡◌ {A = ℕ} 0 1 = cc in absurd (omega arith)
spot_inside t s (Some d) at l e = let k = place_inside t s (d.size / 104) d.at at e in let i = l.inside in omega arith

module _ (c : Command) (g : Range) where
  -- a place is handed back of a command that was read alone
  asked_of : (w : Place) → place_of (question c g) ≡ Some w → (p : Parsed) × Says c p
  asked_of w e = go (reading_of c) refl
    where
      go : (r : Result Parsed Refusal) → reading_of c ≡ r → (p : Parsed) × Says c p
      go (Err u) h = let q : None ≡ Some w = refuses_question c u g (unreadable c u h) ∙ e in let z : ◌≡◌ {A = ℕ} 0 1 = cc in absurd (omega arith)
      go (Ok p) h = (p, says c p h)

  in_cdb_sized : place_of (question c g) ≡ Some InCdb → length c.cdb ≡ 236
  in_cdb_sized e =
      let (p, s) = asked_of InCdb e in
      (says_reads c p s).sized

  in_out_inside : (at : ℕ) → place_of (question c g) ≡ Some (InOut at) → at + 104 ≤ length c.out
  unfolding segment first_in
  in_out_inside at e =
      let (p, s) = asked_of (InOut at) e in
      let k = in_segment p s (sym (says_question c p s g) ∙ e) in
      let l : length (segment c) ≤ length c.out = ap_length in
      omega arith
    where
      ap_length : length (segment c) ≤ length c.out
      ap_length = simp length-take (omega arith)

      in_segment : (p : Parsed) → Says c p → first_in c.cdb (segment c) p c.on g ≡ Some (InOut at) → at + 104 ≤ length (segment c)
      in_segment p s q = go (admits_in (sought_by p c.on) g (part 80 104 c.cdb)) q
        where
          go : (b : Bool) → cond b (Some InCdb) (first_spot (admits_in (sought_by p c.on) g) (segment c) p.found.extension) ≡ Some (InOut at)
              → at + 104 ≤ length (segment c)
          go true r = let z : ◌≡◌ {A = ℕ} 0 1 = cc in absurd (omega arith)
          go false r = spot_inside _ (segment c) p.found.extension at (says_reads c p s).extension r

-- the same of an answer o to the question, taken apart as some w
module _ (c : Command) (g : Range) (o : Option Place) (e : o ≡ place_of (question c g)) (w : Place) (is : o ≡ Some w) where
  pub cdb_holds : w ≡ InCdb → length c.cdb ≡ 236
  cdb_holds k = in_cdb_sized c g (sym e ∙ is ∙ ap Some k)

  pub out_holds : (at : ℕ) → w ≡ InOut at → at + 104 ≤ length c.out
  out_holds at k = in_out_inside c g at (sym e ∙ is ∙ ap Some k)
