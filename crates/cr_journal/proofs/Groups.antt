-- SPDX-License-Identifier: Apache-2.0 OR MIT
-- Groups and their payloads: a payload is that of one group at most.
use Rattle.std.proofs.Common.{◌≡◌, ◌≢◌, ℕ, ◌+◌, ◌<◌, List, [], ◌∷◌, ◌++◌, length, map, Option, Some, None, refl, sym}
use Rattle.std.proofs.Common.{ap, ◌∙◌, append_assoc, arith, length-append}
use Rattle.std.specs.List.{AllByRecursion, flat_map}
use Rattle.std.proofs.lemmas.List.{append-nil}
use Rattle.std.proofs.lemmas.List.Concat.{flat_map-cons}
use Rattle.cr_base.specs.declared.row.Row.{Row}
use Rattle.cr_journal.specs.Grammar.{FitGroups, FitsGroup, FitsRow, field, number, payload, row_text}
use Rattle.cr_journal.specs.Keeping.{rows_of}
use Rattle.cr_journal.specs.Reading.{number_at, numbers_at, row_at}
use Rattle.cr_journal.proofs.Numbers.{length-number, some_is}
use Rattle.cr_journal.proofs.RowLaws.{row_again}

-- ---- one more row, one more group

pub payload-cons : (r : Row) (group : List Row) (rest : List ℕ)
    → payload (r ∷ group) ++ rest ≡ row_text r ++ (payload group ++ rest)
payload-cons r group rest =
    ap (λ (l : List ℕ). l ++ rest) (flat_map-cons row_text r group) ∙ append_assoc (row_text r) (payload group) rest

pub payload-push : (group : List Row) (r : Row) → payload (group ++ r ∷ []) ≡ payload group ++ row_text r
payload-push [] r = flat_map-cons row_text r [] ∙ append-nil (row_text r)
payload-push (q ∷ group) r =
    flat_map-cons row_text q (group ++ r ∷ [])
    ∙ ap (λ (l : List ℕ). row_text q ++ l) (payload-push group r)
    ∙ sym (append_assoc (row_text q) (payload group) (row_text r))
    ∙ ap (λ (l : List ℕ). l ++ row_text r) (sym (flat_map-cons row_text q group))

pub all-push : {T : Type 0} (P : T → Type 0) (xs : List T) (x : T) → AllByRecursion P xs → P x
    → AllByRecursion P (xs ++ x ∷ [])
all-push P [] x all holds = (holds, tt)
all-push P (y ∷ xs) x all holds = (all.0, all-push P xs x all.1 holds)

pub rows-push : (groups : List (List Row)) (group : List Row) → rows_of (groups ++ group ∷ []) ≡ rows_of groups ++ group
rows-push [] group = append-nil group
rows-push (g ∷ groups) group =
    ap (λ (l : List Row). g ++ l) (rows-push groups group) ∙ sym (append_assoc g (rows_of groups) group)

-- ---- one group at most

no_row : row_at [] ≡ None
unfolding row_at numbers_at number_at
no_row = refl

none_some : {A T : Type 0} (o : Option A) (x : A) → o ≡ None → o ≡ Some x → T
none_some o x none some = absurd (cc (none, some))

-- a row's text isn't empty
pub some_text : {T : Type 0} (r : Row) (rest : List ℕ) → FitsRow r → row_text r ++ rest ≡ [] → T
some_text r rest fits e = none_some (row_at []) (r, rest) no_row (ap row_at (sym e) ∙ row_again r rest fits)

-- bytes that begin with a row are more than those behind it
pub longer : (r : Row) (rest : List ℕ) → length rest < length (row_text r ++ rest)
longer r rest =
    let others : List ℕ = r.maker ∷ r.more ∷ r.at ∷ r.num ∷ r.n1 ∷ r.n2 ∷ r.n3 ∷ r.n4 ∷ r.n5 ∷ [] in
    let texts : List ℕ = field r.mark ++ (field r.b1 ++ field r.b2) in
    let numbers : List ℕ = flat_map number (r.kind ∷ others) in
    let many : length numbers ≡ length (number r.kind) + length (flat_map number others) =
    ap length (flat_map-cons number r.kind others) ∙ length-append (number r.kind) (flat_map number others) in
    omega (arith, many, length-number r.kind, length-append (numbers ++ texts) rest, length-append numbers texts)

row_unique : (r s : Row) (x y : List ℕ) → FitsRow r → FitsRow s → row_text r ++ x ≡ row_text s ++ y → (r ≡ s) × (x ≡ y)
row_unique r s x y one other e =
    let both = some_is (r, x) (s, y) (sym (row_again r x one) ∙ ap row_at e ∙ row_again s y other) in
    (ap (λ (z : Row × List ℕ). z.0) both, ap (λ (z : Row × List ℕ). z.1) both)

-- what stands behind the rows of a group, in the payload of another
pub record Behind (got group : List Row) (rest : List ℕ) : Type 0 where
  pub others : List Row
  pub fit : FitsGroup others
  pub rest_is : rest ≡ payload others
  pub group_is : group ≡ got ++ others

pub strip : (got group : List Row) (rest : List ℕ) → FitsGroup got → FitsGroup group
    → payload got ++ rest ≡ payload group
    → Behind got group rest
strip [] group rest fit fits e = record { others = group; fit = fits; rest_is = e; group_is = refl }
strip (r ∷ got) [] rest fit fits e = some_text r (payload got ++ rest) fit.0 (sym (payload-cons r got rest) ∙ e)
strip (r ∷ got) (s ∷ group) rest fit fits e =
    let parted : row_text r ++ (payload got ++ rest) ≡ row_text s ++ payload group =
    sym (payload-cons r got rest) ∙ e ∙ flat_map-cons row_text s group in
    let one = row_unique r s (payload got ++ rest) (payload group) fit.0 fits.0 parted in
    let b = strip got group rest fit.1 fits.1 one.1 in
    record {
      others = b.others;
      fit = b.fit;
      rest_is = b.rest_is;
      group_is = (λ i. sym one.0 i ∷ b.group_is i);
    }

-- the rows that were read, behind those that were there, and what is left of the bytes
abbrev pub HasRead : List ℕ → List ℕ → List Row → List Row → Type 0
HasRead bytes rest old new =
    (group : List Row) × FitsGroup group × (bytes ≡ payload group ++ rest) × (new ≡ old ++ group)

pub row_more : (bytes rest behind : List ℕ) (old mid new : List Row) (r q : Row) → FitsRow r → q ≡ r
    → rest ≡ row_text r ++ behind
    → new ≡ mid ++ q ∷ [] → HasRead bytes rest old mid → HasRead bytes behind old new
row_more bytes rest behind old mid new r q fits same is pushed h = (
  h.0 ++ r ∷ [],
  all-push FitsRow h.0 r h.1 fits,
  h.2 ∙ ap (λ (l : List ℕ). payload h.0 ++ l) is ∙ sym (append_assoc (payload h.0) (row_text r) behind)
      ∙ ap (λ (l : List ℕ). l ++ behind) (sym (payload-push h.0 r)),
  pushed ∙ ap (λ (l : List Row). l ++ q ∷ []) h.3 ∙ append_assoc old h.0 (q ∷ [])
      ∙ ap (λ (x : Row). old ++ (h.0 ++ x ∷ [])) same,
)

-- bytes that begin with no row, behind some rows, are the end of no group's payload but where they are none
pub no_group : (got group : List Row) (bytes rest : List ℕ) → FitsGroup got → FitsGroup group
    → bytes ≡ payload got ++ rest → rest ≢ [] → ((r : Row) (l : List ℕ) → FitsRow r → rest ≡ row_text r ++ l → ⊥)
    → bytes ≡ payload group → ⊥
no_group got group bytes rest fit fits is some none e = ends b.others b.fit b.rest_is
  where
    b : Behind got group rest
    b = strip got group rest fit fits (sym is ∙ e)

    ends : (others : List Row) → FitsGroup others → rest ≡ payload others → ⊥
    ends [] o_fit rest_is = some rest_is
    ends (r ∷ others) o_fit rest_is = (none r (payload others) o_fit.0 (rest_is ∙ flat_map-cons row_text r others))

pub payload_unique : (g h : List Row) → FitsGroup g → FitsGroup h → payload g ≡ payload h → g ≡ h
payload_unique g h one other e = ends b.others b.fit b.rest_is b.group_is
  where
    b : Behind g h []
    b = strip g h [] one other (append-nil (payload g) ∙ e)

    ends : (others : List Row) → FitsGroup others → [] ≡ payload others → h ≡ g ++ others → g ≡ h
    ends [] fit rest_is is = sym (is ∙ append-nil g)
    ends (r ∷ others) fit rest_is is =
        some_text r (payload others) fit.0 (sym (flat_map-cons row_text r others) ∙ sym rest_is)

pub payloads_unique : (gs hs : List (List Row)) → FitGroups gs → FitGroups hs → map payload gs ≡ map payload hs
    → gs ≡ hs
payloads_unique [] [] one other e = refl
payloads_unique [] (h ∷ hs) one other e = absurd cc
payloads_unique (g ∷ gs) [] one other e = absurd cc
payloads_unique (g ∷ gs) (h ∷ hs) one other e =
    let heads : payload g ≡ payload h = cc e in
    let tails : map payload gs ≡ map payload hs = cc e in
    λ i. payload_unique g h one.0 other.0 heads i ∷ payloads_unique gs hs one.1 other.1 tails i
