-- SPDX-License-Identifier: Apache-2.0 OR MIT
-- Whoever is shown no names at a paper is told neither which of the twins made an entry there, nor which it names.
use Rattle.std.proofs.Common.{ℕ, Bool, true, false, cond, ◌≡◌, [], ◌∷◌, ◌++◌, eqb, refl, sym, ap, ◌∙◌, ◌||◌}
use Rattle.std.proofs.Common.{◌&&◌, Option, Some, arith}
use Rattle.std.specs.Prelude.{is_some, not, take}
use Rattle.std.proofs.lemmas.Bool.{true≢false, eqb-true, not-true}
use Rattle.std.proofs.Math.Bool.{and-false}
use Rattle.cr_base.specs.declared.entry.Entry.{Entry}
use Rattle.cr_base.specs.declared.entry.Entry.TheVariants as entries
use Rattle.cr_base.specs.declared.entry.Stamp.{Stamp}
use Rattle.cr_base.specs.declared.words.Mode.{Mode}
use Rattle.cr_base.specs.declared.words.Mode.TheVariants.{Overt, Blind, Anonymous}
use Rattle.cr_base.specs.History.{History}
use Rattle.cr_base.specs.HistoryFacts.{is_author, is_conflict_on, mode_of, role_of, phase_of}
use Rattle.cr_base.specs.Lists.{is_number}
use Rattle.cr_base.proofs.Small.{eqb-self}
use Rattle.cr_bounds.specs.ShownTo.{is_told, maker_for, user_for, where_known, oversees, administers, discusses}
use Rattle.cr_bounds.specs.ShownTo.{is_answered, is_party, knows_writers, hides_reviewers, names_reviewers}
use Rattle.cr_bounds.specs.ShownTo.{chairs_committee, serves, is_past_reviewing, is_past_discussion}
use Rattle.cr_undeduced.specs.Twins.{Twins, placed, twin_maker, renames, AreUntold, MadeNone}
use Rattle.cr_undeduced.specs.Twins.{IsShownNoNames, TwinsUnnamed}
use Rattle.cr_undeduced.proofs.TwinViews.{outside-moved, twins_unseen}

-- ---- what she isn't

overt-blind : (mode : Mode) → hides_reviewers mode ≡ true → names_reviewers mode ≡ false
overt-blind Overt is = absurd (true≢false (sym is))
overt-blind Blind is = refl
overt-blind Anonymous is = refl

-- `s` that she serves, `a` that she is an author, `c` that she is in declared conflict, `k` that she is a chair, `f` that
-- it is the discussion, `h` that the mode hides reviewers, `n` that it names them, `p` that it is the notification
module _ (s a c k f h n p : Bool) (blind : ((h && not k) || (a && not n)) ≡ true) (same : h ≡ true → n ≡ false) where
  not-overseen : ((s && not (a || c)) && k) ≡ false
  not-overseen = grind (arith, blind)

  not-administered : (k && not (a || c)) ≡ false
  not-administered = grind (arith, blind)

  not-discussed : (((s && not (a || c)) && f) && not h) ≡ false
  not-discussed = grind (arith, blind)

  not-known : (((s && not (a || c)) && f) && (k || not h)) ≡ false
  not-known = grind (arith, blind)

  not-answered : (a && n && p) ≡ false
  not-answered = by h blind same
    where
      by : (h : Bool) → ((h && not k) || (a && not n)) ≡ true → (h ≡ true → n ≡ false) → (a && n && p) ≡ false
      by true blind same = (λ i. a && same refl i && p) ∙ none a p
        where
          none : (a p : Bool) → (a && false && p) ≡ false
          none a p = grind arith
      by false blind same = grind (arith, blind)

unknown : (told known : Bool) (v : ℕ) → known ≡ false → (told && is_some (where_known known v)) ≡ false
unknown told known v none = ap (λ b. told && is_some (where_known b v)) none ∙ and-false told

untold : (told known : Bool) → told ≡ false → (told && known) ≡ false
untold told known none = ap (λ b. b && known) none

three : (a b c : Bool) → a ≡ false → b ≡ false → c ≡ false → (a || b || c) ≡ false
three a b c h k l = λ i. h i || k i || l i

four : (a b c d : Bool) → a ≡ false → b ≡ false → c ≡ false → d ≡ false → (a || b || c || d) ≡ false
four a b c d h k l m = λ i. h i || k i || l i || m i

module _ (t : Twins) (u : Option ℕ) (T : History) (shown : IsShownNoNames t u T) where
  blind-mode : hides_reviewers (mode_of T) ≡ true → names_reviewers (mode_of T) ≡ false
  blind-mode = overt-blind (mode_of T)

  no_oversight : (p : ℕ) → p ≡ t.paper → oversees u p T ≡ false
  no_oversight p at =
      ap (λ q. oversees u q T) at
      ∙ not-overseen (serves u T) (is_author u t.paper T) (is_conflict_on u t.paper T) (chairs_committee (role_of u T))
      (is_past_reviewing (phase_of T)) (hides_reviewers (mode_of T)) (names_reviewers (mode_of T))
      (is_past_discussion (phase_of T)) shown.blind blind-mode

  no_administration : (p : ℕ) → p ≡ t.paper → administers u p T ≡ false
  no_administration p at =
      ap (λ q. administers u q T) at
      ∙ not-administered (serves u T) (is_author u t.paper T) (is_conflict_on u t.paper T)
      (chairs_committee (role_of u T)) (is_past_reviewing (phase_of T)) (hides_reviewers (mode_of T))
      (names_reviewers (mode_of T)) (is_past_discussion (phase_of T)) shown.blind blind-mode

  no_reviewers : (p : ℕ) → p ≡ t.paper → (discusses u p T && not (hides_reviewers (mode_of T))) ≡ false
  no_reviewers p at =
      ap (λ q. discusses u q T && not (hides_reviewers (mode_of T))) at
      ∙ not-discussed (serves u T) (is_author u t.paper T) (is_conflict_on u t.paper T) (chairs_committee (role_of u T))
      (is_past_reviewing (phase_of T)) (hides_reviewers (mode_of T)) (names_reviewers (mode_of T))
      (is_past_discussion (phase_of T)) shown.blind blind-mode

  no_writers : (p : ℕ) → p ≡ t.paper → (discusses u p T && knows_writers u T) ≡ false
  no_writers p at =
      ap (λ q. discusses u q T && knows_writers u T) at
      ∙ not-known (serves u T) (is_author u t.paper T) (is_conflict_on u t.paper T) (chairs_committee (role_of u T))
      (is_past_reviewing (phase_of T)) (hides_reviewers (mode_of T)) (names_reviewers (mode_of T))
      (is_past_discussion (phase_of T)) shown.blind blind-mode

  no_answer : (p : ℕ) → p ≡ t.paper → is_answered u p T ≡ false
  no_answer p at =
      ap (λ q. is_answered u q T) at
      ∙ not-answered (serves u T) (is_author u t.paper T) (is_conflict_on u t.paper T) (chairs_committee (role_of u T))
      (is_past_reviewing (phase_of T)) (hides_reviewers (mode_of T)) (names_reviewers (mode_of T))
      (is_past_discussion (phase_of T)) shown.blind blind-mode

  -- ---- one entry

  -- places change at the paper alone
  at-paper : (p v : ℕ) → not (eqb (placed t p v) v) ≡ true → p ≡ t.paper
  at-paper p v moved = by (eqb p t.paper) refl moved
    where
      by : (b : Bool) → eqb p t.paper ≡ b
          → not (eqb (cond b (cond (eqb v t.one) t.other (cond (eqb v t.other) t.one v)) v) v) ≡ true → p ≡ t.paper
      by true same moved = eqb-true p t.paper same
      by false other moved = absurd (true≢false (sym moved ∙ ap not (eqb-self v)))

  not-one : (p v : ℕ) → not (eqb (placed t p v) v) ≡ true → is_number u v ≡ false
  not-one p v moved = outside-moved t u shown.one shown.other p v (not-true (eqb (placed t p v) v) moved)

  never : (v : ℕ) → not (eqb v v) ≡ true → ⊥
  never v h = true≢false (sym h ∙ ap not (eqb-self v))

  module _ (before later : History) (stamp : Stamp) where
    maker-untold : (e : Entry) → not (eqb (twin_maker t stamp.maker e) stamp.maker) ≡ true
        → (is_told u T before later stamp.maker e && is_some (maker_for u T before later stamp e)) ≡ false
    maker-untold (entries.Submitted paper title abstract) moved = absurd (never stamp.maker moved)
    maker-untold (entries.Bid paper value) moved =
        unknown (is_told u T before later stamp.maker (entries.Bid paper value)) (oversees u paper T) stamp.maker
        (no_oversight paper (at-paper paper stamp.maker moved))
    maker-untold (entries.Commented paper n ordinal text) moved =
        unknown (is_told u T before later stamp.maker (entries.Commented paper n ordinal text))
        (discusses u paper T && knows_writers u T) stamp.maker (no_writers paper (at-paper paper stamp.maker moved))
    maker-untold e moved = and-false (is_told u T before later stamp.maker e)

    party-not : (paper user : ℕ) → not (eqb (placed t paper user) user) ≡ true → is_number u stamp.maker ≡ false
        → is_party u T stamp.maker paper user ≡ false
    party-not paper user named hers =
        three (is_number u user) (is_number u stamp.maker) (administers u paper T) (not-one paper user named) hers
        (no_administration paper (at-paper paper user named))

    reviewer-untold : (told : Bool) (paper user : ℕ) → not (eqb (placed t paper user) user) ≡ true
        → is_number u stamp.maker ≡ false
        → (told && is_some (where_known (is_party u T stamp.maker paper user
        || (discusses u paper T && not (hides_reviewers (mode_of T))) || is_answered u paper T) user)) ≡ false
    reviewer-untold told paper user named hers =
        unknown told _ user (three (is_party u T stamp.maker paper user)
        (discusses u paper T && not (hides_reviewers (mode_of T))) (is_answered u paper T)
        (party-not paper user named hers) (no_reviewers paper (at-paper paper user named))
        (no_answer paper (at-paper paper user named)))

    user-untold : (e : Entry) → renames t e ≡ true → is_number u stamp.maker ≡ false
        → (is_author u t.paper T && is_author (Some stamp.maker) t.paper T) ≡ false
        → (is_told u T before later stamp.maker e && is_some (user_for u T before later stamp e)) ≡ false
    user-untold (entries.Conflict paper user on) named hers authors =
        untold (is_told u T before later stamp.maker (entries.Conflict paper user on)) true
        (four (is_number u user) (is_number u stamp.maker) (is_author u paper T && is_author (Some stamp.maker) paper T)
        (oversees u paper T) (not-one paper user named) hers
        (ap (λ q. is_author u q T && is_author (Some stamp.maker) q T) (at-paper paper user named) ∙ authors)
        (no_oversight paper (at-paper paper user named)))
    user-untold (entries.Assigned paper user kind ordinal) named hers authors =
        reviewer-untold (is_told u T before later stamp.maker (entries.Assigned paper user kind ordinal)) paper user named
        hers
    user-untold (entries.Unassigned paper user ordinal) named hers authors =
        reviewer-untold (is_told u T before later stamp.maker (entries.Unassigned paper user ordinal)) paper user named
        hers
    user-untold (entries.Invited paper user) named hers authors =
        untold (is_told u T before later stamp.maker (entries.Invited paper user)) true (party-not paper user named hers)
    user-untold (entries.Uninvited paper user) named hers authors =
        untold (is_told u T before later stamp.maker (entries.Uninvited paper user)) true
        (party-not paper user named hers)
    user-untold e named hers authors = absurd (true≢false (sym named))

  -- ---- all of them

  are-untold : (before H : History) → MadeNone t u T H → AreUntold t u T before H
  are-untold before [] none = tt
  are-untold before (e ∷ H) none = (
    maker-untold before H e.stamp e.entry,
    λ named. let hers = none.0 named in user-untold before H e.stamp e.entry named hers.0 hers.1,
    are-untold (before ++ e ∷ []) H none.1,
  )

pub twins_unnamed : TwinsUnnamed
twins_unnamed t H look shown =
    let T : History = take look.upto H in
    twins_unseen t H look (record {
      one = shown.one;
      other = shown.other;
      one_wrote = shown.one_wrote;
      other_wrote = shown.other_wrote;
      untold = are-untold t look.who T shown [] T shown.none;
    })
