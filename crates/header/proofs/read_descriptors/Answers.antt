use Rattle.std.proofs.Common.{rules}
use native.Mathlib.Omega.{arith}
use Rattle.header.proofs.Rows.{front_sized, wrong_head, broken, forbidden, readable}
use Rattle.header.proofs.read_descriptors.Goals as goal

pub get16-requires : goal.get16-requires
get16-requires c = let l = front_sized _ _ c.requires.front in omega (arith, l)

pub returns-then-is_wrong_head : goal.returns-then-is_wrong_head
returns-then-is_wrong_head c =
    λ on. wrong_head _ _ c.requires _ c.get16.ensures _ c.is_wrong_head.ensures c.if-is_wrong_head.true

pub returns-in_err-found : goal.returns-in_err-found
returns-in_err-found c =
    λ on. broken _ _ c.requires _ c.get16.ensures _ c.is_wrong_head.ensures c.if-is_wrong_head.false
    _ c.walk_over.ensures _ c.in_err-found.was _ (search rules)

pub returns-then-is_forbidden : goal.returns-then-is_forbidden
returns-then-is_forbidden c =
    λ on. forbidden _ _ c.requires _ c.get16.ensures _ c.is_wrong_head.ensures c.if-is_wrong_head.false
    _ c.walk_over.ensures _ c.in_ok-found.was _ c.is_forbidden.ensures c.if-is_forbidden.true

pub returns : goal.returns
returns c =
    λ on. readable _ _ c.requires _ c.get16.ensures _ c.is_wrong_head.ensures c.if-is_wrong_head.false
    _ c.walk_over.ensures _ c.in_ok-found.was _ c.is_forbidden.ensures c.if-is_forbidden.false
