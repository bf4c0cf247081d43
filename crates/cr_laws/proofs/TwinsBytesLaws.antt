-- SPDX-License-Identifier: Apache-2.0 OR MIT
-- Where twins change places, what the group made stays, and so do registrations.
use Rattle.std.proofs.Common.{ℕ, Bool, true, false, cond, ◌≡◌, ◌⊎◌, ◌||◌, List, [], ◌∷◌, refl, sym, ap, ◌∙◌, Option}
use Rattle.std.proofs.Common.{None, eqb, inl, inr}
use Rattle.std.specs.Prelude.{not}
use Rattle.std.specs.List.{list_any}
use Rattle.std.proofs.lemmas.Bool.{true≢false, eqb-true, eq-eqb, not-false}
use Rattle.cr_base.specs.declared.entry.Entry.{Entry}
use Rattle.cr_base.specs.declared.entry.Entry.TheVariants as entries
use Rattle.cr_base.specs.declared.entry.Stamp.{Stamp}
use Rattle.cr_base.specs.declared.entry.Stamped.{Stamped}
use Rattle.cr_base.specs.Calls.{stamp_by}
use Rattle.cr_base.specs.Drawn.{stamped}
use Rattle.cr_base.specs.History.{History}
use Rattle.cr_base.specs.Lists.{is_number}
use Rattle.cr_undeduced.specs.Makers.{stamp_of}
use Rattle.cr_undeduced.specs.Twins.{Twins, placed, twin_entry, twin_maker, twin_of, twinned, renames}
use Rattle.cr_undeduced.proofs.TwinLegal.{twins_legal}
use Rattle.cr_undeduced.proofs.TwinViews.{twins_unseen}
use Rattle.cr_laws.specs.AnotherRun.{end_of, is_made_by}
use Rattle.cr_laws.specs.RunsEndSo.{registers, is_kept, StandsFor, AllStandFor}
use Rattle.cr_laws.specs.TwinsBytes.{NameNeither, TwinsHeard}
use Rattle.cr_laws.proofs.AnyRunLaws.{runs_end_so}
use Rattle.cr_laws.proofs.OtherRuns.{ends-legal}

module _ (t : Twins) where
  -- ---- one entry

  -- it names the same, where it doesn't rename
  named-same : (paper user : ℕ) → not (eqb (placed t paper user) user) ≡ false → placed t paper user ≡ user
  named-same paper user is = eqb-true (placed t paper user) user (not-false (eqb (placed t paper user) user) is)

  entry-same : (e : Entry) → renames t e ≡ false → twin_entry t e ≡ e
  entry-same (entries.Conflict paper user on) is =
      ap (λ (v : ℕ). entries.Conflict paper v on) (named-same paper user is)
  entry-same (entries.Assigned paper user kind ordinal) is =
      ap (λ (v : ℕ). entries.Assigned paper v kind ordinal) (named-same paper user is)
  entry-same (entries.Unassigned paper user ordinal) is =
      ap (λ (v : ℕ). entries.Unassigned paper v ordinal) (named-same paper user is)
  entry-same (entries.Invited paper user) is =
      ap (λ (v : ℕ). entries.Invited paper v) (named-same paper user is)
  entry-same (entries.Uninvited paper user) is =
      ap (λ (v : ℕ). entries.Uninvited paper v) (named-same paper user is)
  entry-same e is = refl

  -- whoever registers does in both
  registers-both : (e : Entry) → registers (twin_entry t e) ≡ registers e
  registers-both (entries.Registered user name digest) = refl
  registers-both e = refl

  registered-same : (e : Entry) → registers e ≡ true → twin_entry t e ≡ e
  registered-same (entries.Registered user name digest) is = refl
  registered-same e is = absurd (true≢false (sym is))

  registered-maker : (m : ℕ) (e : Entry) → registers e ≡ true → twin_maker t m e ≡ m
  registered-maker m (entries.Registered user name digest) is = refl
  registered-maker m e is = absurd (true≢false (sym is))

  -- a place is one's own, or one of the two has it
  data Placed (m v : ℕ) : Type 0 where
    itself : v ≡ m → Placed m v
    first : m ≡ t.one → v ≡ t.other → Placed m v
    second : m ≡ t.other → v ≡ t.one → Placed m v

  placed-is : (paper m : ℕ) → Placed m (placed t paper m)
  placed-is paper m = by (eqb paper t.paper) (eqb m t.one) (eqb m t.other) refl refl
    where
      by : (p a b : Bool) → eqb m t.one ≡ a → eqb m t.other ≡ b
          → Placed m (cond p (cond a t.other (cond b t.one m)) m)
      by false a b is also = itself refl
      by true true b is also = first (eqb-true m t.one is) refl
      by true false true is also = second (eqb-true m t.other also) refl
      by true false false is also = itself refl

  maker-is : (m : ℕ) (e : Entry) → Placed m (twin_maker t m e)
  maker-is m (entries.Conflict paper user on) = placed-is paper m
  maker-is m (entries.Bid paper value) = placed-is paper m
  maker-is m (entries.Assigned paper user kind ordinal) = placed-is paper m
  maker-is m (entries.Unassigned paper user ordinal) = placed-is paper m
  maker-is m (entries.Reviewed paper ordinal version form) = placed-is paper m
  maker-is m (entries.Commented paper n ordinal text) = placed-is paper m
  maker-is m (entries.Tagged paper tag on) = placed-is paper m
  maker-is m (entries.Decided paper decision) = placed-is paper m
  maker-is m (entries.Invited paper user) = placed-is paper m
  maker-is m (entries.Uninvited paper user) = placed-is paper m
  maker-is m e = itself refl

  -- so it is the same entry, by the same maker
  stamp-same : (w : ℕ) (stamp : Stamp) → w ≡ stamp.maker → stamp_of w stamp ≡ stamp
  stamp-same w stamp is =
      ap (λ (b : Bool). cond b stamp (stamp_by w stamp.at None)) (eq-eqb w stamp.maker is)

  twin-same : (e : Stamped) → twin_maker t e.stamp.maker e.entry ≡ e.stamp.maker → twin_entry t e.entry ≡ e.entry
      → e ≡ twin_of t e
  twin-same e maker entry =
      λ i. stamped (sym (stamp-same (twin_maker t e.stamp.maker e.entry) e.stamp maker) i) e.more (sym entry i)

  module _ (group : List (Option ℕ)) (not_one : list_any (λ u. is_number u t.one) group ≡ false)
      (not_other : list_any (λ u. is_number u t.other) group ≡ false) where
    abbrev is_one_of : ℕ → Bool
    is_one_of m = list_any (λ u. is_number u m) group

    -- neither of the two is one of the group
    own-place : (m v : ℕ) → Placed m v → is_one_of m ≡ true → v ≡ m
    own-place m v (itself is) among = is
    own-place m v (first is at) among = absurd (true≢false (sym among ∙ ap is_one_of is ∙ not_one))
    own-place m v (second is at) among = absurd (true≢false (sym among ∙ ap is_one_of is ∙ not_other))

    other-place : (m v : ℕ) → Placed m v → is_one_of v ≡ true → v ≡ m
    other-place m v (itself is) among = is
    other-place m v (first is at) among = absurd (true≢false (sym among ∙ ap is_one_of at ∙ not_other))
    other-place m v (second is at) among = absurd (true≢false (sym among ∙ ap is_one_of at ∙ not_one))

    -- who makes it under that stamp
    stamp-maker : (w : ℕ) (stamp : Stamp) → (stamp_of w stamp).maker ≡ w
    stamp-maker w stamp = by (eqb w stamp.maker) refl
      where
        by : (b : Bool) → eqb w stamp.maker ≡ b → (cond b stamp (stamp_by w stamp.at None)).maker ≡ w
        by true is = sym (eqb-true w stamp.maker is)
        by false is = refl

    or-cases : (a b : Bool) → (a || b) ≡ true → (a ≡ true) ⊎ (b ≡ true)
    or-cases true b is = inl refl
    or-cases false b is = inr is

    module _ (e : Stamped) (named : is_made_by group e ≡ true → renames t e.entry ≡ false) where
      made-same : is_made_by group e ≡ true → e ≡ twin_of t e
      made-same made =
          twin-same e (own-place e.stamp.maker (twin_maker t e.stamp.maker e.entry) (maker-is e.stamp.maker e.entry) made)
          (entry-same e.entry (named made))

      new-same : registers e.entry ≡ true → e ≡ twin_of t e
      new-same new = twin-same e (registered-maker e.stamp.maker e.entry new) (registered-same e.entry new)

      back : is_made_by group (twin_of t e) ≡ true → is_made_by group e ≡ true
      back made =
          let w : ℕ = twin_maker t e.stamp.maker e.entry in
          let among : is_one_of w ≡ true = ap is_one_of (sym (stamp-maker w e.stamp)) ∙ made in
          ap is_one_of (sym (other-place e.stamp.maker w (maker-is e.stamp.maker e.entry) among)) ∙ among

      stands : StandsFor group e (twin_of t e)
      stands = record { more = refl; same = λ kept. by (or-cases (is_kept group e) (is_kept group (twin_of t e)) kept) }
        where
          one : (is_made_by group e ≡ true) ⊎ (registers e.entry ≡ true) → e ≡ twin_of t e
          one (inl made) = made-same made
          one (inr new) = new-same new

          other : (is_made_by group (twin_of t e) ≡ true) ⊎ (registers (twin_of t e).entry ≡ true) → e ≡ twin_of t e
          other (inl made) = made-same (back made)
          other (inr new) = new-same (sym (registers-both e.entry) ∙ new)

          by : (is_kept group e ≡ true) ⊎ (is_kept group (twin_of t e) ≡ true) → e ≡ twin_of t e
          by (inl kept) = one (or-cases (is_made_by group e) (registers e.entry) kept)
          by (inr kept) = other (or-cases (is_made_by group (twin_of t e)) (registers (twin_of t e).entry) kept)

    all-stand : (H : History) → NameNeither t group H → AllStandFor group H (twinned t H)
    all-stand [] names = tt
    all-stand (e ∷ H) names = (stands e names.0, all-stand H names.1)

pub twins_heard : TwinsHeard
twins_heard t group one legal bounds twins outside =
    runs_end_so group one (twinned t (end_of one)) legal bounds (record {
      legal = twins_legal t (end_of one) (ends-legal one.opening one.wishes legal bounds) twins;
      places = all-stand t group outside.not_one outside.not_other (end_of one) outside.names;
      looks = λ look is. twins_unseen t (end_of one) look (outside.looks look is);
    })
