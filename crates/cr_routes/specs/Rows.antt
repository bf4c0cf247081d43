-- SPDX-License-Identifier: Apache-2.0 OR MIT
-- What the router holds, and what it finds, by matchit's own definitions.
use Rattle.std.specs.Prelude.{ℕ, List, [], ◌∷◌, Bool, true, false, ◌&&◌, is_none, map, Result, Ok, Err}
use Rattle.std.specs.Borrow.{Bor}
use Rattle.std.specs.Str.{IsUtf8}
use Rattle.matchit.specs.Params.{walk}
use Rattle.matchit.specs.Rows.{RowsOf}
use Rattle.matchit.specs.Order.{placed}
use Rattle.matchit.specs.Route.{Scan, parse_route}
use Rattle.matchit.specs.Router.{RouteOf, route_from, nearest}
use Rattle.matchit.specs.declared.error.InsertError.{InsertError}
use Rattle.cr_routes.specs.declared.resource.Resource.{Resource}
use Rattle.cr_routes.specs.Paths.{paths}

-- a line of the program's table, as a value
abbrev pub line : Bor (List ℕ) × Resource → List ℕ × Resource
line p = (p.0.now, p.1)

-- what a router holds: its routes in its own order
abbrev pub Rows : Type 0
Rows = RowsOf (RouteOf Resource)

-- the rows with one more path, as the router reads it
abbrev pub with_path : Result Scan InsertError → Resource → Rows → Rows
with_path (Ok s) resource rows = placed (s.pattern, route_from s resource) rows
with_path (Err e) resource rows = rows

-- the rows with these paths, added in order
unfoldable pub added : List (List ℕ × Resource) → Rows → Rows
added [] rows = rows
added (p ∷ ps) rows = added ps (with_path (parse_route p.0) p.1 rows)

-- a path that reads well conflicts with none of the rows
abbrev pub is_free : Result Scan InsertError → Rows → Bool
is_free (Ok s) rows = is_none (nearest s.pattern rows)
is_free (Err e) rows = false

-- each of these paths reads well, and conflicts with none of the rows and none before it
unfoldable pub fits : List (List ℕ × Resource) → Rows → Bool
fits [] rows = true
fits (p ∷ ps) rows = is_free (parse_route p.0) rows && fits ps (with_path (parse_route p.0) p.1 rows)

-- the rows of a router with all paths
unfoldable pub the_rows : Rows
the_rows = added paths []

-- what the parameters of a route took of a path, in order
abbrev pub walked : List ℕ → List ℕ → List ℕ → List (ℕ × ℕ) → List (List ℕ)
walked pattern text path names = map (λ pair. pair.1) (walk pattern text path names 0 0)

-- each of these is UTF-8
abbrev pub AreTexts : List (List ℕ) → Type 0
AreTexts [] = Unit {0}
AreTexts (part ∷ rest) = IsUtf8 part × AreTexts rest
