-- SPDX-License-Identifier: Apache-2.0 OR MIT
-- An object written member by member.
use Rattle.std.proofs.Common.{◌≡◌, Bool, true, false, ◌∙◌, ℕ, List, [], ◌∷◌, ◌++◌, refl, sym, ap, append_assoc}
use Rattle.std.proofs.Common.{append-nil, codes, Result, Ok, Err}
use Rattle.std.specs.Prelude.{map}
use Rattle.cr_json.specs.Put.{Appends, Bytes}
use Rattle.cr_json.specs.Json.{Member, Added, AddsMembers, comma, separated, key_text, member_text, object_text}
use Rattle.cr_json.specs.Json.{still_first}

still_first-append : (is_first : Bool) (xs ys : List Member)
    → still_first is_first (xs ++ ys) ≡ still_first (still_first is_first xs) ys
still_first-append is_first [] ys = refl
still_first-append is_first (x ∷ xs) [] = refl
still_first-append is_first (x ∷ xs) (y ∷ ys) = refl

separated-append : (is_first : Bool) (xs ys : List Member) → separated is_first (map member_text (xs ++ ys))
    ≡ separated is_first (map member_text xs) ++ separated (still_first is_first xs) (map member_text ys)
separated-append is_first [] ys = refl
separated-append is_first (x ∷ []) ys = rw append-nil refl
separated-append is_first (x ∷ y ∷ xs) ys =
    let front = comma is_first ++ member_text x in
    ap (λ s. front ++ s) (separated-append false (y ∷ xs) ys)
    ∙ sym (append_assoc front (separated false (map member_text (y ∷ xs))) (separated false (map member_text ys)))

infixl 10 ◌then◌
pub ◌then◌ : {a b d : Bytes} {f g h : Bool} {xs ys : List Member} → Added a b f g xs → Added b d g h ys
    → Added a d f h (xs ++ ys)
◌then◌ {a} {b} {d} {f} {g} {h} {xs} {ys} p q =
    let added : d.items ≡ b.items ++ separated (still_first f xs) (map member_text ys) = rw p.first at q.text in
    let grouped =
    append_assoc a.items (separated f (map member_text xs)) (separated (still_first f xs) (map member_text ys)) in
    record {
      text = added ∙ rw (p.text, separated-append f xs ys) grouped;
      first = q.first ∙ rw (p.first, still_first-append f xs ys) refl;
    }

-- a key, and behind it its value, unless memory ran out
pub added_one : {E : Type 0} (r : Result (Unit {0}) E) (a b d : Bytes) (f g : Bool) (key value : List ℕ)
    → b.items ≡ a.items ++ (comma f ++ key_text key) → g ≡ false → Appends r b d value
    → AddsMembers r a d f g (record { key = key; value = value } ∷ [])
unfolding member_text
added_one (Ok done) a b d f g key value written behind added = record {
  text = rw (added, written) (simp (append_assoc, append-nil));
  first = behind;
}
added_one (Err error) a b d f g key value written behind added = tt

-- the whole object, unless memory ran out
pub closed : {E : Type 0} (r : Result (Unit {0}) E) (a b d e : Bytes) (f g : Bool) (members : List Member)
    → b.items ≡ a.items ++ codes "{" → f ≡ true
    → Added b d f g members → Appends r d e (codes "}") → Appends r a e (object_text members)
unfolding object_text
closed (Ok done) a b d e f g members opened first added closes =
    rw (closes, added.text, opened, first) (simp append_assoc)
closed (Err error) a b d e f g members opened first added closes = tt
