-- SPDX-License-Identifier: Apache-2.0 OR MIT
-- Numbers that are shown count what came before.
use Rattle.std.proofs.Common.{ℕ, Bool, true, false, ◌≡◌, ◌≤◌, ◌+◌, List, [], ◌∷◌, ◌++◌, length, refl, sym, ap, subst}
use Rattle.std.proofs.Common.{◌∙◌}
use Rattle.std.proofs.Common.{arith, eqb, length-append, Option, Some, None, ◌&&◌}
use Rattle.std.specs.Prelude.{IsTrue}
use Rattle.std.specs.List.{flat_map}
use Rattle.std.proofs.lemmas.Bool.{and_parts, eqb-true, eq-eqb, true≢false}
use Rattle.std.proofs.lemmas.List.Concat.{flat_map-append}
use Rattle.cr_base.specs.declared.entry.Entry.{Entry}
use Rattle.cr_base.specs.declared.entry.Entry.TheVariants as entries
use Rattle.cr_base.specs.declared.entry.EntryKind.TheVariants as kinds
use Rattle.cr_base.specs.declared.entry.Stamp.{Stamp}
use Rattle.cr_base.specs.declared.entry.Stamped.{Stamped}
use Rattle.cr_base.specs.Drawn.{stamped}
use Rattle.cr_base.specs.History.{History, upload_told, form_told, comment_told, assigned_told, ordinal_told}
use Rattle.cr_base.specs.HistoryFacts.{uploads_of, forms_of, comments_of, seats_of, ordinal_of}
use Rattle.cr_base.specs.Lists.{given, is_number, last}
use Rattle.cr_history.specs.Invariants.{IsInOrder, InTurn, HasNextNumber}
use Rattle.cr_bounds.specs.ShownTo.{where_known}
use Rattle.cr_bounds.proofs.BoundsWalk.{shown_to, placed-view}
use Rattle.cr_policy.specs.Legal.{Legal}
use Rattle.cr_policy.specs.Sighting.{Sighting}
use Rattle.cr_policy.specs.ViewFacts.{is_kind}
use Rattle.cr_policy.proofs.LegalLaws.{legal_invariants}
use Rattle.cr_undeduced.specs.Deducible.{VersionsTell, FormNumbersTell, CommentNumbersTell, LabelsTell}
use Rattle.cr_undeduced.proofs.Splits.{LastTold, last-told, in-turn, turn-before, told-else, given-some}

-- ---- counts

one-given : {A : Type 0} (b : Bool) (x : A) → b ≡ true → length (given b x) ≡ 1
one-given true x is = refl
one-given false x is = cc

-- with one that is told there is one more than before it
pub counted : {A : Type 0} (told : Stamped → List A) (H before : History) (e : Stamped) (later : History)
    → before ++ e ∷ later ≡ H → length (told e) ≡ 1
    → length (flat_map told before) + 1 ≤ length (flat_map told H)
counted told H before e later whole one =
    most (length (flat_map told before)) (length (told e)) (length (flat_map told later)) _
    (ap (λ (G : History). length (flat_map told G)) (sym whole)
    ∙ ap length (flat_map-append told before (e ∷ later))
    ∙ length-append (flat_map told before) (told e ++ flat_map told later)
    ∙ ap (λ n. length (flat_map told before) + n) (length-append (told e) (flat_map told later)))
    one
  where
    most : (a b c n : ℕ) → n ≡ a + (b + c) → b ≡ 1 → a + 1 ≤ n
    most a b c n is one = omega arith

-- and no fewer are told of a history than of what stands ahead in it
pub no-fewer : {A : Type 0} (told : Stamped → List A) (H before later : History) → before ++ later ≡ H
    → length (flat_map told before) ≤ length (flat_map told H)
no-fewer told H before later whole =
    most (length (flat_map told before)) (length (flat_map told later)) _
    (ap (λ (G : History). length (flat_map told G)) (sym whole)
    ∙ ap length (flat_map-append told before later) ∙ length-append (flat_map told before) (flat_map told later))
  where
    most : (a b n : ℕ) → n ≡ a + b → a ≤ n
    most a b n is = omega arith

-- ---- what is shown

-- a number that is shown, where it is known, is the entry's
known-number : (known : Bool) (n v : ℕ) → is_number (where_known known n) v ≡ true → n ≡ v
known-number true n v is = eqb-true n v is
known-number false n v is = absurd (true≢false (sym is))

-- so many, as its number says
as-many : (n v m : ℕ) → n ≡ v → n ≤ m → v ≤ m
as-many n v m is few = omega arith

next-many : (n k m : ℕ) → n ≡ k + 1 → k + 1 ≤ m → n ≤ m
next-many n k m is few = omega arith

module _ (u : Option ℕ) (H : History) (legal : Legal H) where
  pub order : (before : History) (e : Stamped) (later : History) → before ++ e ∷ later ≡ H → IsInOrder before e
  order before e later whole = in-turn IsInOrder H before e later (sym whole) (legal_invariants H legal).in_order

  upload-tells : (p v : ℕ) (before later : History) (stamp : Stamp) (more : Bool) (e : Entry)
      → before ++ (stamped stamp more e ∷ later) ≡ H
      → IsTrue (is_kind kinds.Uploaded (shown_to u H before later stamp e)
      && is_number (shown_to u H before later stamp e).paper p
      && is_number (shown_to u H before later stamp e).version v)
      → v ≤ length (uploads_of p H)
  upload-tells p v before later stamp more (entries.Uploaded paper version content) whole is =
      let parts = and_parts (eqb paper p) _ is in
      let same = eqb-true paper p parts.0 in
      as-many version v (length (uploads_of p H)) (known-number _ version v parts.1)
      (next-many version (length (uploads_of p before)) (length (uploads_of p H))
      (subst (λ q. version ≡ length (uploads_of q before) + 1) same
      (order before (stamped stamp more (entries.Uploaded paper version content)) later whole).number)
      (counted (λ (s : Stamped). upload_told p s.entry) H before
      (stamped stamp more (entries.Uploaded paper version content)) later whole
      (one-given (eqb paper p) _ parts.0)))
  upload-tells p v before later stamp more (entries.Registered user name digest) whole is =
      absurd (true≢false (sym is))
  upload-tells p v before later stamp more e whole is = absurd (true≢false (sym is))

pub versions_tell : VersionsTell
versions_tell u p v H legal =
    placed-view u H
    (λ (s : Sighting). IsTrue (is_kind kinds.Uploaded s && is_number s.paper p && is_number s.version v)
    → v ≤ length (uploads_of p H))
    (λ before later stamp more e whole told. upload-tells u H legal p v before later stamp more e whole)

-- ---- forms and comments

module _ (u : Option ℕ) (H : History) (legal : Legal H) where
  form-tells : (p o v : ℕ) (before later : History) (stamp : Stamp) (more : Bool) (e : Entry)
      → before ++ (stamped stamp more e ∷ later) ≡ H
      → IsTrue (is_kind kinds.Reviewed (shown_to u H before later stamp e)
      && is_number (shown_to u H before later stamp e).paper p
      && is_number (shown_to u H before later stamp e).ordinal o
      && is_number (shown_to u H before later stamp e).version v)
      → v ≤ length (forms_of p o H)
  form-tells p o v before later stamp more (entries.Reviewed paper ordinal version form) whole is =
      let s : Stamped = stamped stamp more (entries.Reviewed paper ordinal version form) in
      let parts = and_parts (eqb paper p && eqb ordinal o) _ is in
      let pair = and_parts (eqb paper p) (eqb ordinal o) parts.0 in
      as-many version v (length (forms_of p o H)) (known-number _ version v parts.1)
      (next-many version (length (forms_of p o before)) (length (forms_of p o H))
      (subst (λ l. version ≡ length (forms_of p l before) + 1) (eqb-true ordinal o pair.1)
      (subst (λ q. version ≡ length (forms_of q ordinal before) + 1) (eqb-true paper p pair.0)
      (order u H legal before s later whole).number))
      (counted (λ (s : Stamped). form_told p o s.entry) H before s later whole
      (one-given (eqb paper p && eqb ordinal o) _ parts.0)))
  form-tells p o v before later stamp more (entries.Registered user name digest) whole is =
      absurd (true≢false (sym is))
  form-tells p o v before later stamp more e whole is = absurd (true≢false (sym is))

  comment-tells : (p n : ℕ) (before later : History) (stamp : Stamp) (more : Bool) (e : Entry)
      → before ++ (stamped stamp more e ∷ later) ≡ H
      → IsTrue (is_kind kinds.Commented (shown_to u H before later stamp e)
      && is_number (shown_to u H before later stamp e).paper p
      && is_number (shown_to u H before later stamp e).n n)
      → n ≤ length (comments_of p H)
  comment-tells p n before later stamp more (entries.Commented paper own ordinal text) whole is =
      let s : Stamped = stamped stamp more (entries.Commented paper own ordinal text) in
      let parts = and_parts (eqb paper p) (eqb own n) is in
      as-many own n (length (comments_of p H)) (eqb-true own n parts.1)
      (next-many own (length (comments_of p before)) (length (comments_of p H))
      (subst (λ q. own ≡ length (comments_of q before) + 1) (eqb-true paper p parts.0)
      (order u H legal before s later whole).number)
      (counted (λ (s : Stamped). comment_told p s.stamp.maker s.entry) H before s later whole
      (one-given (eqb paper p) _ parts.0)))
  comment-tells p n before later stamp more (entries.Registered user name digest) whole is =
      absurd (true≢false (sym is))
  comment-tells p n before later stamp more e whole is = absurd (true≢false (sym is))

pub form_numbers_tell : FormNumbersTell
form_numbers_tell u p o v H legal =
    placed-view u H
    (λ (s : Sighting).
    IsTrue (is_kind kinds.Reviewed s && is_number s.paper p && is_number s.ordinal o && is_number s.version v)
    → v ≤ length (forms_of p o H))
    (λ before later stamp more e whole told. form-tells u H legal p o v before later stamp more e whole)

pub comment_numbers_tell : CommentNumbersTell
comment_numbers_tell u p n H legal =
    placed-view u H
    (λ (s : Sighting). IsTrue (is_kind kinds.Commented s && is_number s.paper p && is_number s.n n)
    → n ≤ length (comments_of p H))
    (λ before later stamp more e whole told. comment-tells u H legal p n before later stamp more e whole)

-- ---- labels

-- a label under which somebody reviews was given
module _ (v : Option ℕ) (p o : ℕ) where
  label-made : (before : History) (e : Entry) → last (ordinal_told v p e) ≡ Some (Some o) → HasNextNumber before e
      → (length (assigned_told p e) ≡ 1) × (o ≡ length (seats_of p before) + 1)
  label-made before (entries.Assigned paper user kind ordinal) tells number =
      let given = given-some (eqb paper p && is_number v user) (Some ordinal) (Some o) tells in
      let parts = and_parts (eqb paper p) (is_number v user) given.0 in
      let label : Some ordinal ≡ Some o = given.1 in
      let same : ordinal ≡ o = cc in (
        one-given (eqb paper p) _ parts.0,
        sym same ∙ subst (λ q. ordinal ≡ length (seats_of q before) + 1) (eqb-true paper p parts.0) number,
      )
  label-made before (entries.Unassigned paper user ordinal) tells number =
      let given = given-some (eqb paper p && is_number v user) None (Some o) tells in
      let none : ◌≡◌ {A = Option ℕ} None (Some o) = given.1 in cc
  label-made before (entries.Registered user name digest) tells number = cc
  label-made before e tells number = cc

  label-given : (H : History) → InTurn IsInOrder [] H → ordinal_of v p H ≡ Some o → o ≤ length (seats_of p H)
  label-given H turn reviews =
      let told = λ (s : Stamped). ordinal_told v p s.entry in
      let k : LastTold told H (Some o) = last-told told H (Some o) (told-else None (Some o) _ reviews (λ none. cc)) in
      let made = label-made k.before k.entry.entry k.tells
      (in-turn IsInOrder H k.before k.entry k.after k.there turn).number in
      next-many o (length (seats_of p k.before)) (length (seats_of p H)) made.1
      (counted (λ (s : Stamped). assigned_told p s.entry) H k.before k.entry k.after (sym k.there) made.0)

module _ (u : Option ℕ) (H : History) (legal : Legal H) where
  -- so it was behind these, and is so at the end
  label-before : (v : Option ℕ) (paper p ordinal o : ℕ) (before later : History) → before ++ later ≡ H
      → eqb paper p ≡ true → eqb ordinal o ≡ true → ordinal_of v paper before ≡ Some ordinal
      → o ≤ length (seats_of p H)
  label-before v paper p ordinal o before later whole paper_is ordinal_is reviews =
      through o (length (seats_of p before)) (length (seats_of p H))
      (label-given v p o before
      (turn-before IsInOrder [] before later
      (subst (InTurn IsInOrder []) (sym whole) (legal_invariants H legal).in_order))
      (ap (λ q. ordinal_of v q before) (sym (eqb-true paper p paper_is)) ∙ reviews
      ∙ ap (λ n. Some n) (eqb-true ordinal o ordinal_is)))
      (no-fewer (λ (s : Stamped). assigned_told p s.entry) H before later whole)
    where
      through : (a b c : ℕ) → a ≤ b → b ≤ c → a ≤ c
      through a b c ab bc = omega arith

  label-tells : (p o : ℕ) (before later : History) (stamp : Stamp) (more : Bool) (e : Entry)
      → before ++ (stamped stamp more e ∷ later) ≡ H
      → IsTrue (is_number (shown_to u H before later stamp e).paper p
      && is_number (shown_to u H before later stamp e).ordinal o)
      → o ≤ length (seats_of p H)
  label-tells p o before later stamp more (entries.Assigned paper user kind ordinal) whole is =
      let s : Stamped = stamped stamp more (entries.Assigned paper user kind ordinal) in
      let parts = and_parts (eqb paper p) (eqb ordinal o) is in
      as-many ordinal o (length (seats_of p H)) (eqb-true ordinal o parts.1)
      (next-many ordinal (length (seats_of p before)) (length (seats_of p H))
      (subst (λ q. ordinal ≡ length (seats_of q before) + 1) (eqb-true paper p parts.0)
      (order u H legal before s later whole).number)
      (counted (λ (s : Stamped). assigned_told p s.entry) H before s later whole
      (one-given (eqb paper p) _ parts.0)))
  label-tells p o before later stamp more (entries.Unassigned paper user ordinal) whole is =
      let s : Stamped = stamped stamp more (entries.Unassigned paper user ordinal) in
      let parts = and_parts (eqb paper p) (eqb ordinal o) is in
      label-before (Some user) paper p ordinal o before (s ∷ later) whole parts.0 parts.1
      (order u H legal before s later whole).seat.0
  label-tells p o before later stamp more (entries.Reviewed paper ordinal version form) whole is =
      let s : Stamped = stamped stamp more (entries.Reviewed paper ordinal version form) in
      let parts = and_parts (eqb paper p) (eqb ordinal o) is in
      label-before (Some stamp.maker) paper p ordinal o before (s ∷ later) whole parts.0 parts.1
      (order u H legal before s later whole).seat
  label-tells p o before later stamp more (entries.Commented paper n None text) whole is =
      let parts = and_parts (eqb paper p) _ is in
      let none = known-number _ 0 o parts.1 in
      least o (length (seats_of p H)) none
    where
      least : (a b : ℕ) → 0 ≡ a → a ≤ b
      least a b is = omega arith
  label-tells p o before later stamp more (entries.Commented paper n (Some ordinal) text) whole is =
      let s : Stamped = stamped stamp more (entries.Commented paper n (Some ordinal) text) in
      let parts = and_parts (eqb paper p) _ is in
      label-before (Some stamp.maker) paper p o o before (s ∷ later) whole parts.0 (eq-eqb o o refl)
      ((order u H legal before s later whole).seat ∙ ap (λ n. Some n) (known-number _ ordinal o parts.1))
  label-tells p o before later stamp more (entries.Registered user name digest) whole is =
      absurd (true≢false (sym is))
  label-tells p o before later stamp more e whole is =
      absurd (true≢false (sym (and_parts (is_number (shown_to u H before later stamp e).paper p) false is).1))

pub labels_tell : LabelsTell
labels_tell u p o H legal =
    placed-view u H
    (λ (s : Sighting). IsTrue (is_number s.paper p && is_number s.ordinal o) → o ≤ length (seats_of p H))
    (λ before later stamp more e whole told. label-tells u H legal p o before later stamp more e whole)
