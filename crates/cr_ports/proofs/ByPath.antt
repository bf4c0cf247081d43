-- SPDX-License-Identifier: Apache-2.0 OR MIT
-- What a map by path has at each, after a change at one.
use Rattle.std.proofs.Common.{arith, ◌≡◌, ◌∙◌, sym, ap, refl, ℕ, List, [], Bool, true, false, cond, Option, Some, None}
use Rattle.std.proofs.Common.{is_some, IsFalse, String, Vec, Global}
use Rattle.std.proofs.lemmas.Slice.Eq.{bytes_eq-Decides}
use Rattle.std.specs.Map.{lookup}
use Rattle.std.specs.Option.{option_map_or}
use Rattle.std.specs.Str.{bytes_eq}
use Rattle.cr_ports.specs.Shelving.{is_path}

abbrev pub items_or_none : {T : Type 0} → Option (Vec T Global) → List T
items_or_none found = option_map_or (λ vec. vec.items) found []

-- these items stand at a path, and elsewhere what stood there
pub put_items : {T : Type 0} (b : Bool) (vec : Vec T Global) (old new : Option (Vec T Global))
    → new ≡ cond b (Some vec) old
    → items_or_none new ≡ cond b vec.items (items_or_none old)
put_items true vec old new is = ap items_or_none is
put_items false vec old new is = ap items_or_none is

-- where there are no items it is as if nothing were there
pub add_none : {T : Type 0} (b : Bool) (vec : Vec T Global) (old new : Option (Vec T Global))
    → new ≡ cond b (Some vec) old → (b ≡ true → old ≡ None) → vec.items ≡ []
    → items_or_none new ≡ items_or_none old
add_none true vec old new is absent none = rw (is, absent refl) none
add_none false vec old new is absent none = ap items_or_none is

-- nothing is found under an equal name
pub absent_at : {T : Type 0} (entries : List (String Global × Vec T Global)) (path name q : List ℕ)
    → IsFalse (is_some (lookup (is_path path) entries)) → name ≡ path
    → bytes_eq name q ≡ true → lookup (is_path q) entries ≡ None
absent_at {T} entries path name q absent is same =
    let equal : path ≡ q = sym is ∙ (bytes_eq-Decides name q).0 same in
    rw (← equal) (none_of (lookup (is_path path) entries) absent)
  where
    none_of : (found : Option (Vec T Global)) → is_some found ≡ false → found ≡ None
    none_of None h = refl
    none_of (Some _) h = grind arith
