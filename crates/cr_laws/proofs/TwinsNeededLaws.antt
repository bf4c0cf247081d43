-- SPDX-License-Identifier: Apache-2.0 OR MIT
-- That whoever looks is neither of the twins is needed: computed, in a small conference.
use Rattle.std.proofs.Common.{◌≡◌, ℕ, Bool, true, false, not, List, [], ◌∷◌, ◌++◌, refl, sym, subst, Option}
use Rattle.std.proofs.Common.{Some, append_assoc, append-nil, arith, ◌||◌, ◌&&◌}
use Rattle.std.specs.Prelude.{codes}
use Rattle.std.specs.List.{list_all}
use Rattle.std.proofs.lemmas.Bool.{and_parts, true≢false, or_parts}
use Rattle.cr_base.specs.declared.command.Command.TheVariants.{SetPhase, Assign, Review}
use Rattle.cr_base.specs.declared.entry.Entry.TheVariants.{PhaseSet}
use Rattle.cr_base.specs.declared.entry.Stamped.{Stamped}
use Rattle.cr_base.specs.declared.words.Kind.TheVariants.{Primary}
use Rattle.cr_base.specs.declared.words.Mode.TheVariants.{Anonymous}
use Rattle.cr_base.specs.declared.words.Phase.TheVariants.{Bidding, Reviewing, Discussion}
use Rattle.cr_base.specs.Bounds.{IsForm}
use Rattle.cr_base.specs.History.{History}
use Rattle.cr_base.specs.Lists.{is_number}
use Rattle.cr_base.specs.HistoryFacts.{is_author}
use Rattle.cr_bounds.specs.ShownTo.{maker_for, user_for}
use Rattle.cr_policy.specs.Legal.{Legal}
use Rattle.cr_conference.specs.Conference.{alice, dave, hal, Digests, AreDigests, first_form, submitted, ◌adds◌}
use Rattle.cr_conference.specs.HiddenPairs.{in_bids, reviewed_by}
use Rattle.cr_conference.proofs.ConferenceProofs.{Turn, by, goes_on, reached, registered-legal, opened-legal}
use Rattle.cr_conference.proofs.ConferenceProofs.{submitted-legal, bounded-form, ascii-review}
use Rattle.cr_conference.proofs.HiddenPairLaws.{apart}
use Rattle.cr_undeduced.specs.Twins.{Twins, moves, renames, first_moves, PeersInTurn, AreUntold, MadeNone}
use Rattle.cr_undeduced.specs.Undeducible.{was_told}
use Rattle.cr_laws.specs.TwinsNeeded.{TwinsNeeded, reviewer_and_other, talked_of, shows_seat}

-- ---- that it is so place by place, as tests

-- an entry stays as it is
abbrev stays : Twins → Stamped → Bool
stays t e = not (moves t e || renames t e.entry)

-- whatever holds of an entry that changes, where none does
stay : {A : Type 0} (b : Bool) → not b ≡ true → b ≡ true → A
stay true h is = absurd (true≢false (sym h))
stay false h is = absurd (true≢false (sym is))

implied : (b c : Bool) → (not b || not c) ≡ true → b ≡ true → c ≡ false
implied true true h is = absurd (true≢false (sym h))
implied true false h is = refl
implied false c h is = absurd (true≢false (sym is))

module _ (t : Twins) where
  -- nothing that is one of several of a command changes hands
  abbrev rows_stay : History → Bool
  rows_stay [] = true
  rows_stay (e ∷ later) = (not e.more || not (moves t e || first_moves t later)) && rows_stay later

  -- in turn, where nothing changes in front
  peers-front : (front before later : History) → list_all (stays t) front ≡ true → rows_stay (front ++ later) ≡ true
      → PeersInTurn t (before ++ front) later → PeersInTurn t before (front ++ later)
  peers-front [] before later same rows rest =
      subst (λ (b : History). PeersInTurn t b later) (append-nil before) rest
  peers-front (e ∷ front) before later same rows rest =
      let kept = and_parts (stays t e) (list_all (stays t) front) same in
      let row = and_parts (not e.more || not (moves t e || first_moves t (front ++ later))) (rows_stay (front ++ later))
      rows in (
        stay (moves t e || renames t e.entry) kept.0,
        implied e.more (moves t e || first_moves t (front ++ later)) row.0,
        peers-front front (before ++ e ∷ []) later kept.1 row.1
            (subst (λ (b : History). PeersInTurn t b later) (sym (append_assoc before (e ∷ []) front)) rest),
      )

  -- she isn't told of what changes
  module _ (u : Option ℕ) (H : History) where
    abbrev is_untold : History → History → Bool
    is_untold before [] = true
    is_untold before (e ∷ later) =
        (not (moves t e) || not (was_told maker_for before e u H (e ∷ later)))
        && (not (renames t e.entry) || not (was_told user_for before e u H (e ∷ later)))
        && is_untold (before ++ e ∷ []) later

    untold-so : (before later : History) → is_untold before later ≡ true → AreUntold t u H before later
    untold-so before [] h = tt
    untold-so before (e ∷ later) h =
        let maker : Bool = not (moves t e) || not (was_told maker_for before e u H (e ∷ later)) in
        let user : Bool = not (renames t e.entry) || not (was_told user_for before e u H (e ∷ later)) in
        let all = and_parts (maker && user) (is_untold (before ++ e ∷ []) later) h in
        let both = and_parts maker user all.0 in (
          implied (moves t e) (was_told maker_for before e u H (e ∷ later)) both.0,
          implied (renames t e.entry) (was_told user_for before e u H (e ∷ later)) both.1,
          untold-so (before ++ e ∷ []) later all.1,
        )

    -- nor did she make it
    abbrev hers : Stamped → Bool
    hers e = is_number u e.stamp.maker || (is_author u t.paper H && is_author (Some e.stamp.maker) t.paper H)

    abbrev none_of_user : History → Bool
    none_of_user [] = true
    none_of_user (e ∷ later) = (not (renames t e.entry) || not (hers e)) && none_of_user later

    none-so : (later : History) → none_of_user later ≡ true → MadeNone t u H later
    none-so [] h = tt
    none-so (e ∷ later) h =
        let both = and_parts (not (renames t e.entry) || not (hers e)) (none_of_user later) h in (
          λ named. or_parts (is_number u e.stamp.maker)
              (is_author u t.paper H && is_author (Some e.stamp.maker) t.paper H)
              (implied (renames t e.entry) (hers e) both.0 named),
          none-so later both.1,
        )

-- ---- the two histories

abbrev turns : ℕ → List ℕ → IsForm first_form → List Turn
turns member name bounded =
    by alice (SetPhase Bidding) tt
    ∷ by alice (Assign (Some 1) (Some name) Primary) tt
    ∷ by alice (SetPhase Reviewing) tt
    ∷ by member (Review (Some 1) first_form) bounded
    ∷ by alice (SetPhase Discussion) tt
    ∷ []

form-bounded : IsForm first_form
form-bounded = bounded-form first_form refl refl refl (ascii-review first_form.to_pc refl)

module _ (d : Digests) (are : AreDigests d) where
  so : (member : ℕ) (name : List ℕ)
      → reached (submitted d Anonymous) (turns member name form-bounded) ≡ Some (talked_of member d)
      → Legal (talked_of member d)
  so member name leads =
      goes_on (submitted d Anonymous) (talked_of member d) (turns member name form-bounded) leads
      (submitted-legal d Anonymous (opened-legal d Anonymous (registered-legal d are)))

  abbrev behind : History
  behind = reviewed_by dave ++ alice adds PhaseSet Discussion ∷ []

  peers : PeersInTurn reviewer_and_other [] (talked_of dave d)
  peers = peers-front reviewer_and_other (in_bids Anonymous d) [] behind refl refl (
    (λ changed. record { one = refl; other = refl; role = refl }),
    stay false refl,
    (
      stay false refl,
      stay false refl,
      (
        (λ changed. record { one = refl; other = refl; role = refl }),
        stay false refl,
        (stay false refl, stay false refl, tt),
      ),
    ),
  )

pub twins_needed : TwinsNeeded
twins_needed d are = record {
  legal = so d are dave (codes "dave") refl;
  twins = record { peers = peers d are; one = refl; other = refl; comments = λ user. omega arith };
  is = refl;
  twin_legal = so d are hal (codes "hal") refl;
  asked = record {
    one = refl;
    one_wrote = refl;
    other_wrote = refl;
    untold = untold-so reviewer_and_other (Some hal) (talked_of dave d) [] (talked_of dave d) refl;
    blind = refl;
    none = none-so reviewer_and_other (Some hal) (talked_of dave d) (talked_of dave d) refl;
  };
  told = apart (shows_seat hal) _ _ refl;
  outside = (refl, (refl, (refl, (refl, (refl, (refl, tt))))));
  others = ((refl, refl), ((refl, refl), ((refl, refl), ((refl, refl), tt))));
  twin_others = ((refl, refl), ((refl, refl), ((refl, refl), ((refl, refl), tt))));
}
