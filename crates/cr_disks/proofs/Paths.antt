-- SPDX-License-Identifier: Apache-2.0 OR MIT
-- What stands at each path, once something was put at one, and whether there is room there.
use Rattle.std.proofs.Common.{◌≡◌, ◌↔◌, ◌∙◌, ◌+◌, ◌<◌, ◌^◌, length, ℕ, List, Bool, true, false, cond, Option, Some, None}
use Rattle.std.proofs.Common.{arith, ap, sym, subst, is_some, Bor, IsFalse, refl, String, Global}
use Rattle.std.proofs.lemmas.Slice.Eq.{bytes_eq-Decides}
use Rattle.std.specs.Map.{lookup}
use Rattle.std.specs.Option.{option_copied, option_map_or}
use Rattle.std.specs.Prelude.{IfSome}
use Rattle.std.specs.Str.{bytes_eq}
use Rattle.cr_ports.specs.Shelving.{is_path}
use Rattle.cr_disks.specs.Held.{DiskState, left_in}

-- there is room for a disk where the bytes are the same
pub same_room : (old new : List ℕ → List ℕ) (path : List ℕ) (r s : ℕ) → new ≡ old → s ≡ r
    → length (old path) + r < 2 ^ 62
    → length (new path) + s < 2 ^ 62
same_room old new path r s files room fits = rw (files, room) fits

-- the same state leaves the same
pub same_left : (new old : DiskState) → new ≡ old → (image : List ℕ) → left_in new image ↔ left_in old image
same_left new old same image = (
  λ left. subst (λ (s : DiskState). left_in s image) same left,
  λ left. subst (λ (s : DiskState). left_in s image) (sym same) left,
)

-- what is told of what was found is told of what stands there
pub told_at : {A B : Type 0} (told : A → B) (none : B) (found : Option (Bor A)) (there : Option A)
    → option_copied found ≡ there → IfSome found (λ one. told one.now ≡ option_map_or told there none)
told_at told none None there is = tt
told_at {A} told none (Some one) there is = ap (λ (o : Option A). option_map_or told o none) is

-- what is told of what stands at each path, once this stands at one
module _ {A B : Type 0} (told : A → B) (none : B) where
  pub put_one : (b : Bool) (one : A) (old new : Option A) → new ≡ cond b (Some one) old
      → option_map_or told new none ≡ cond b (told one) (option_map_or told old none)
  put_one true one old new is = ap (λ (o : Option A). option_map_or told o none) is
  put_one false one old new is = ap (λ (o : Option A). option_map_or told o none) is

  -- of which as much is told as of nothing, where nothing stood
  pub add_one : (b : Bool) (one : A) (old new : Option A) → new ≡ cond b (Some one) old → (b ≡ true → old ≡ None)
      → told one ≡ none
      → option_map_or told new none ≡ option_map_or told old none
  add_one true one old new is absent same = rw (is, absent refl) same
  add_one false one old new is absent same = ap (λ (o : Option A). option_map_or told o none) is

  -- once nothing stands at one
  pub take_one : (b : Bool) (old new : Option A) → new ≡ cond b None old
      → option_map_or told new none ≡ cond b none (option_map_or told old none)
  take_one true old new is = ap (λ (o : Option A). option_map_or told o none) is
  take_one false old new is = ap (λ (o : Option A). option_map_or told o none) is

-- nothing is found under an equal name
pub none_at : {A : Type 0} (entries : List (String Global × A)) (path name q : List ℕ)
    → IsFalse (is_some (lookup (is_path path) entries)) → name ≡ path
    → bytes_eq name q ≡ true → lookup (is_path q) entries ≡ None
none_at {A} entries path name q absent is same =
    let equal : path ≡ q = sym is ∙ (bytes_eq-Decides name q).0 same in
    rw (← equal) (none_of (lookup (is_path path) entries) absent)
  where
    none_of : (found : Option A) → is_some found ≡ false → found ≡ None
    none_of None h = refl
    none_of (Some _) h = grind arith
