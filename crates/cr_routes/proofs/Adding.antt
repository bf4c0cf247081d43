-- SPDX-License-Identifier: Apache-2.0 OR MIT
-- One more path goes into the router.
use Rattle.std.proofs.Common.{◌≡◌, ℕ, ◌+◌, ◌<◌, ◌≤◌, List, length, drop, map, get_or, Bool, true, false, ◌&&◌, is_none}
use Rattle.std.proofs.Common.{Result, Ok, Err, refl, Bor, inl, inr, IsTrue}
use Rattle.std.proofs.lemmas.List.{drop_more, drop_all}
use Rattle.matchit.specs.Route.{Scan, parse_route}
use Rattle.matchit.specs.Router.{InsertsRead, nearest, Refused}
use Rattle.matchit.specs.declared.error.InsertError.{InsertError}
use Rattle.matchit.specs.declared.error.InsertError.TheVariants.{Conflict, InvalidParam, InvalidParamSegment}
use Rattle.matchit.specs.declared.error.InsertError.TheVariants.{InvalidCatchAll, OutOfMemory}
use Rattle.cr_routes.specs.declared.resource.Resource.{Resource}
use Rattle.cr_routes.specs.Rows.{Rows, added, fits, is_free, with_path, line}

-- a path went in
pub inserted : (read : Result Scan InsertError) (resource : Resource) (old new : Rows)
    → InsertsRead read resource old new (Ok tt) → new ≡ with_path read resource old
inserted (Ok s) resource old new h = h.1
inserted (Err e) resource old new h = elim h.1 [ inl bad ↦ cc | inr bad ↦ cc ]

-- where nothing conflicts, only memory fails
refused : (p : List ℕ) (old : Rows) (e : InsertError) → IsTrue (is_none (nearest p old)) → Refused p old e
    → e ≡ OutOfMemory
refused p old (Conflict with) free h = let bad : false ≡ true = rw h.1 at free in cc
refused p old OutOfMemory free h = refl
refused p old InvalidParamSegment free h = absurd h
refused p old InvalidParam free h = absurd h
refused p old InvalidCatchAll free h = absurd h

pub only_memory : (read : Result Scan InsertError) (resource : Resource) (old new : Rows) (e : InsertError)
    → IsTrue (is_free read old) → InsertsRead read resource old new (Err e) → e ≡ OutOfMemory
only_memory (Ok s) resource old new e free h = refused s.pattern old e free h.1
only_memory (Err f) resource old new e free h = cc

-- a line of the table, where the first of the rest is due
pub more_added : (items : List (Bor (List ℕ) × Resource)) (i : ℕ) (d : Bor (List ℕ) × Resource) (old new all : Rows)
    → i < length items
    → new ≡ with_path (parse_route (get_or items i d).0.now) (get_or items i d).1 old
    → added (map line (drop i items)) old ≡ all → added (map line (drop (i + 1) items)) new ≡ all
unfolding added
more_added items i d old new all h is so_far = rw is (rw (drop_more items i d h) at so_far)

pub none_left : (items : List (Bor (List ℕ) × Resource)) (i : ℕ) (now all : Rows) → length items ≤ i
    → added (map line (drop i items)) now ≡ all → now ≡ all
unfolding added
none_left items i now all h so_far = rw (drop_all i items h) at so_far

both : (a b : Bool) → IsTrue (a && b) → IsTrue a × IsTrue b
both true b h = (refl, h)
both false b h = cc

-- the next path fits, and so do those behind it
pub fits_next : (items : List (Bor (List ℕ) × Resource)) (i : ℕ) (d : Bor (List ℕ) × Resource) (rows : Rows)
    → i < length items
    → IsTrue (fits (map line (drop i items)) rows)
    → IsTrue (is_free (parse_route (get_or items i d).0.now) rows)
    × IsTrue (fits (map line (drop (i + 1) items))
    (with_path (parse_route (get_or items i d).0.now) (get_or items i d).1 rows))
unfolding fits
fits_next items i d rows h fit = both _ _ (rw (drop_more items i d h) at fit)
