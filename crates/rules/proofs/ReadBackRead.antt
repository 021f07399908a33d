-- A written command read: Data-Out splits where it was joined, and the walk, the ranges and the capabilities are what was given.
use Rattle.std.specs.Prelude.{is_some, Ok, None, Some}
use Prim.Native.Nat.{ℕ, suc, ◌+◌, ◌*◌, ◌-◌, ◌/◌, ◌^◌, ◌<◌}
use mathlib.Core.Path.{◌≡◌, refl, ap, sym, ◌∙◌}
use mathlib.Core.Bool.{Bool, true, false, cond, true≢false}
use mathlib.Core.List.{List, [], ◌∷◌, ◌++◌, map}
use native.Mathlib.Omega.{arith}
use lib.ListN.{length, take, length-drop}
use lib.Seq.{take_at, drop_at}
use borrow.Author.Tests.{eq-eqb, ne_eqb}
use Rattle.rules.specs.declared.Record.{Record}
use Rattle.rules.specs.declared.Part.{Part}
use Rattle.rules.specs.Bytes.{Bytes}
use Rattle.rules.specs.Command.{Command, length_of, continuation, segment, payload, sole_range}
use Rattle.rules.specs.Ranges.{total}
use Rattle.rules.specs.Segment.{Walk, nothing, places_from}
use Rattle.rules.specs.Reading.{walked, found, listed, ranges_of, ranges, Held, solo, extensions_of, capabilities}
use Rattle.rules.specs.Writer.{Request, entries, length_for, extended, segment_for, cdb_for}
use Rattle.rules.specs.ReadBack.{Bounded, ranges_for, pieces, capabilities_for, found_for}
use Rattle.rules.proofs.Accepted.{Accepted, one_given}
use Rattle.rules.proofs.Spelled.{length_spelled}
use Rattle.rules.proofs.Standing.{Stands}
use Rattle.rules.proofs.ReadBackWalk.{list_data, extension_data, walk_whole}
use Rattle.rules.proofs.ReadBackParts.{small_paired, entries_there, pieces_there, held_bytes}
use Rattle.rules.proofs.ReadBackFields.{length_read, start_read, continuation_read, capability_read}
use Rattle.rules.proofs.ReadBackShape.{list_bytes, rest_bytes, head, whole, Shape, there, nowhere, shape, head_length, list_ok, no_more}
use Rattle.rules.proofs.ReadBackShape.{extension_ok, whole_bounds, segment_small}

-- the command itself: CDB, and segment with command data behind it
abbrev pub as_command : Request → (d : Bytes) → Record → Command
as_command q d r = record { cdb = cdb_for q; out = segment_for q ++ d; on = r }

module _ (q : Request) (a : Accepted q) (d : Bytes) (r : Record) where
  pub continues : continuation (cdb_for q) ≡ length (segment_for q)
  continues = continuation_read q (omega (arith, segment_small q a))

  pub splits : segment (as_command q d r) ≡ segment_for q
  unfolding segment
  splits = rw continues (take_at (segment_for q) d (length (segment_for q)) refl)

  pub follows : payload (as_command q d r) ≡ d
  unfolding payload
  follows = rw continues (drop_at (segment_for q) d (length (segment_for q)) refl)

  -- ---- the walk

  absent : {l x : Bool} (p e : Part) → l ≡ false → x ≡ false
      → ◌≡◌ {A = Walk} (Ok nothing) (Ok (record { list = cond l (Some p) None; extension = cond x (Some e) None }))
  absent p e f g = rw (f, g)

  pub walks : walked (as_command q d r) ≡ Ok (found_for q)
  unfolding walked found_for whole
  walks = go (shape q)
    where
      go : Shape q → walked (as_command q d r) ≡ Ok (found_for q)
      go (there k) =
          let n : length (segment_for q) ≡ 0 → ⊥ = λ z. omega (arith, ap length k, whole_bounds q a) in
          let e = walk_whole (head q) (list_bytes q) (rest_bytes q) q.listed (extended q) (head_length q) (list_ok q a) (extension_ok q a) in
          rw (continues, ne_eqb (length (segment_for q)) 0 n, splits, k, e, length_spelled (entries q), length-drop 104 q.capabilities)
      go (nowhere l x k) = rw (continues, eq-eqb (length (segment_for q)) 0 (ap length k)) (absent _ _ l x)

  finds : found (as_command q d r) ≡ found_for q
  unfolding found
  finds = rw walks

  pub lists : listed (as_command q d r) ≡ q.listed
  unfolding listed found_for
  lists = rw finds (go q.listed)
    where
      go : (l : Bool) → is_some {T = Part} (cond l (Some (record { at = 48; size = 16 * length (entries q) })) None) ≡ l
      go true = refl
      go false = refl

  -- ---- entries

  list_there : q.listed ≡ true → Stands 48 (list_bytes q) (segment_for q)
  unfolding whole
  list_there l = go (shape q)
    where
      go : Shape q → Stands 48 (list_bytes q) (segment_for q)
      go (there k) = rw k (list_data (head q) (list_bytes q) (rest_bytes q) q.listed (extended q) (head_length q) l)
      go (nowhere n x k) = absurd (true≢false (sym l ∙ n))

  pub length_fits : Bounded q → length_for q < 2 ^ 64
  unfolding length_for
  length_fits b = go q.listed refl
    where
      go : (l : Bool) → q.listed ≡ l → cond l (total (entries q)) q.size < 2 ^ 64
      go true e = a.fits e
      go false e = b.size

  pub ranges_same : Bounded q → ranges (as_command q d r) ≡ ranges_for q
  unfolding ranges ranges_for found_for entries sole_range length_for
  ranges_same b = rw finds (go q.listed refl)
    where
      go : (l : Bool) → q.listed ≡ l
          → ranges_of (cond l (Some (record { at = 48; size = 16 * length (entries q) })) None) (as_command q d r)
          ≡ cond l (entries q) (record { start = q.start; size = q.size } ∷ [])
      go true e =
          let n : 16 * length (entries q) / 16 ≡ length (entries q) = omega arith in
          let small = small_paired q.offsets q.lengths b.offsets b.lengths in
          rw (n, splits) (entries_there (entries q) (segment_for q) 48 (list_there e) small)
      go false e =
          let size : length_of (cdb_for q) ≡ q.size = length_read q (length_fits b) ∙ rw e in
          rw (start_read q b.start, size)

  -- ---- capabilities

  -- where the extension's data stands, and how many capabilities it has
  at : ℕ
  at = 48 + cond q.listed (8 + 16 * length (entries q)) 0

  others : ℕ
  others = (length q.capabilities - 104) / 104

  extension_there : extended q ≡ true → Stands at (rest_bytes q) (segment_for q)
  unfolding whole at
  extension_there x = go (shape q)
    where
      go : Shape q → Stands at (rest_bytes q) (segment_for q)
      go (there k) =
          rw (k, ← length_spelled (entries q))
          (extension_data (head q) (list_bytes q) (rest_bytes q) q.listed (extended q) (head_length q) x)
      go (nowhere l n k) = absurd (true≢false (sym x ∙ n))

  pub capabilities_same : map (λ (k : Held). k.bytes) (capabilities (as_command q d r)) ≡ capabilities_for q
  unfolding capabilities capabilities_for found_for solo pieces at others
  capabilities_same =
      let n : length q.capabilities / 104 ≡ suc others = omega (arith, one_given a, a.whole) in
      rw (n, finds, capability_read q (one_given a)) (ap (λ (ks : List Bytes). take 104 q.capabilities ∷ ks) (go (extended q) refl))
    where
      go : (x : Bool) → extended q ≡ x
          → map (λ (k : Held). k.bytes)
          (extensions_of (cond x (Some (record { at = at; size = length q.capabilities - 104 })) None) (as_command q d r))
          ≡ pieces others (rest_bytes q)
      go true e =
          let k : length (rest_bytes q) ≡ 104 * others = length-drop 104 q.capabilities ∙ omega (arith, one_given a, a.whole) in
          held_bytes (as_command q d r) (places_from others at) ∙ rw splits (pieces_there others (rest_bytes q) (segment_for q) at (extension_there e) k)
      go false e = let z : others ≡ 0 = omega (arith, no_more q a e) in rw z
