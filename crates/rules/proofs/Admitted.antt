-- Admission, position by position: a command that no row refuses touches only positions that its capabilities let it touch.
use Rattle.std.specs.Prelude.{Option, None, Some}
use Rattle.rules.specs.declared.Part.{Part}
use Prim.Native.Nat.{ℕ}
use mathlib.Core.Path.{◌≡◌, refl, ap}
use mathlib.Core.Bool.{Bool, true, ◌&&◌}
use mathlib.Core.List.{List, ◌∷◌}
use native.Mathlib.Omega.{arith}
use lib.Dec.{leb, ltb}
use borrow.Author.Tests.{leb-true, ltb-true, le-leb, lt-ltb, not-false}
use Rattle.rules.specs.declared.Record.{Record}
use Rattle.rules.specs.declared.Range.{Range}
use Rattle.rules.specs.declared.Verb.{Verb}
use Rattle.rules.specs.declared.Verb.TheVariants.{Write, Clear}
use Rattle.rules.specs.Bytes.{Bytes, any}
use Rattle.rules.specs.Tests.{first_of}
use Rattle.rules.specs.Command.{Command, verb, segment}
use Rattle.rules.specs.Ranges.{end, covered}
use Rattle.rules.specs.Capability.{permits, tagged, current, matches, allowed_start, bound, inside, has}
use Rattle.rules.specs.Reading.{Held, walked, found, listed, ranges, solo, extension, extensions_of, capabilities}
use Rattle.rules.specs.Header.{cdb_malformed, action_unknown, other_object, continued, continuation_wrong, segment_header_wrong}
use Rattle.rules.specs.Header.{descriptor_faulty, list_forbidden, front_rows, segment_rows, header, readable}
use Rattle.rules.specs.Admission.{fits, admits, admitting, admitted}
use Rattle.rules.specs.Rows.{Room, not_admitted}
use Rattle.rules.specs.Answer.{lengthened}
use Rattle.rules.specs.Session.{Sent, meets, lets}
use Rattle.rules.proofs.Booleans.{and_true_parts}
use Rattle.rules.proofs.Members.{any_of, any_found, all_of, some_passes}
use Rattle.rules.proofs.Passed.{Readable, Passed}

-- the command passes rows 2 to 8, and one of its capabilities matches and has the position
abbrev pub allows : Verb → Command → (position : ℕ) → Bool
allows v c p = readable c && any (λ (k : Held). fits v c k && has k.bytes p) (capabilities c)

passes : (c : Command) → Readable c → readable c ≡ true
unfolding readable header front_rows segment_rows first_of
passes c h = rw (h.cdb, h.action, h.ids, h.continuation, h.segment, h.walk, h.list)

-- a capability has every position of a range that lies inside it
has_all : (g : Range) (k : Bytes) (p : ℕ) → inside g k ≡ true → (leb g.start p && ltb p (end g)) ≡ true → has k p ≡ true
unfolding inside has
has_all g k p i o =
    let (low, high) = and_true_parts (leb (allowed_start k) g.start) (leb (end g) (bound k)) i in
    let (from, below) = and_true_parts (leb g.start p) (ltb p (end g)) o in
    rw (le-leb (allowed_start k) p (omega (arith, leb-true)), lt-ltb p (bound k) (omega (arith, leb-true, ltb-true)))

pub touches_allowed : (v : Verb) (c : Command) (m : Room) (p : ℕ) → Passed c m → verb c ≡ Some v → covered (ranges c) p ≡ true → allows v c p ≡ true
unfolding not_admitted admitted admitting admits covered
touches_allowed v c m p q e h =
    let a = and_true_parts (any (fits v c) (capabilities c)) _ (not-false _ (rw e at q.admitted)) in
    let (g, among, here) = any_found _ (ranges c) h in
    let s = all_of _ (ranges c) among a.1 in
    let (k, held, fit) = any_found _ (capabilities c) (rw (some_passes (admits v c g)) at s) in
    let f = and_true_parts (fits v c k) _ fit in
    rw (passes c q.header) (any_of _ (capabilities c) held (rw f.0 (has_all g k.bytes p f.1 here)))

-- CLEAR asks for the permission that WRITE asks for
pub clears_writes : (c : Command) (p : ℕ) → allows Clear c p ≡ allows Write c p
unfolding fits matches permits
clears_writes c p = refl

-- the record is nothing that a command's capabilities are read from
held_alike : (x : Sent) (r r' : Record) → capabilities (meets x r) ≡ capabilities (meets x r')
unfolding capabilities solo found walked meets segment extension
held_alike x r r' = ap (λ (ks : List Held). solo (meets x r) ∷ ks) (go (found (meets x r)).extension)
  where
    go : (e : Option Part) → extensions_of e (meets x r) ≡ extensions_of e (meets x r')
    go None = refl
    go (Some d) = refl

-- logical length is nothing that rows 2 to 8 or a capability look at
pub length_aside : (v : Verb) (r : Record) (n p : ℕ) (x : Sent) → lets v (lengthened r n) p x ≡ lets v r p x
unfolding lets meets readable header front_rows segment_rows cdb_malformed action_unknown other_object continued continuation_wrong
    segment_header_wrong descriptor_faulty
    list_forbidden verb segment walked found listed fits matches tagged current
length_aside v r n p x = rw (held_alike x (lengthened r n) r)
