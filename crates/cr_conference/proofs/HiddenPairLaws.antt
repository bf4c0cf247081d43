-- SPDX-License-Identifier: Apache-2.0 OR MIT
-- When the conditions hold of a pair of histories that differ in some entries between others, and what makes such a
-- pair.
use Rattle.std.proofs.Common.{◌≡◌, ℕ, Bool, true, false, not, List, [], ◌∷◌, ◌++◌, refl, sym, ap, subst, ◌∙◌, Option}
use Rattle.std.proofs.Common.{Some, append_assoc, append-nil}
use Rattle.std.specs.List.{list_any}
use Rattle.std.proofs.lemmas.Bool.{true≢false}
use Rattle.cr_base.specs.declared.entry.Entry.{Entry}
use Rattle.cr_base.specs.declared.entry.Entry.TheVariants.{Conflict}
use Rattle.cr_base.specs.declared.entry.Stamped.{Stamped}
use Rattle.cr_base.specs.Lists.{is_number}
use Rattle.cr_base.specs.History.{History}
use Rattle.cr_base.specs.HistoryFacts.{authors_of, is_author, is_accepted}
use Rattle.cr_policy.specs.HiddenPayload.{all_of, Outline, outline, PlaceByPlace, shown_of, IsHiddenFrom}
use Rattle.cr_policy.specs.HiddenPayload.{IsDeclaredAlike, AcceptedAlike, DiffersHidden}
use Rattle.cr_policy.specs.Legal.{Legal}
use Rattle.cr_policy.specs.Sighting.{Sighting}
use Rattle.cr_policy.specs.Triggers.{reader, Around}
use Rattle.cr_policy.specs.View.{View, view}
use Rattle.cr_policy.specs.ViewFacts.{is_user}
use Rattle.cr_policy.proofs.HiddenLaws.{hidden_payload, places-so}
use Rattle.cr_conference.specs.HiddenPairs.{IsPair}
use Rattle.cr_conference.proofs.ConferenceProofs.{Turn, goes_on, reached}

-- ---- place by place

module _ (Holds : Around → Stamped → Stamped → Type 0) (itself : (at : Around) (e : Stamped) → Holds at e e) where
  -- entries that are the same
  pub places-same : (before H : History) → PlaceByPlace Holds before H H
  places-same before [] = tt
  places-same before (e ∷ H) = (itself (record { before = before; after = H }) e, places-same (before ++ e ∷ []) H)

  -- and others behind them
  pub places-behind : (before front rest other : History) → PlaceByPlace Holds (before ++ front) rest other
      → PlaceByPlace Holds before (front ++ rest) (front ++ other)
  places-behind before [] rest other h = subst (λ (b : History). PlaceByPlace Holds b rest other) (append-nil before) h
  places-behind before (e ∷ front) rest other h =
      let behind : PlaceByPlace Holds ((before ++ e ∷ []) ++ front) rest other =
      subst (λ (b : History). PlaceByPlace Holds b rest other) (sym (append_assoc before (e ∷ []) front)) h in (
        itself (record { before = before; after = front ++ rest }) e,
        places-behind (before ++ e ∷ []) front rest other behind,
      )

-- where the user's papers have the same authors, a conflict that the same user declares is made alike
abbrev pub AuthorsAlike : Option ℕ → History → History → Type 0
AuthorsAlike u H H' = (p : ℕ) → is_author u p H ≡ true → authors_of p H ≡ authors_of p H'

-- ---- some entries between others

-- what the conditions ask of an entry where it stands: its outline, what the reader is shown of its parts by the rows
-- for the first's, whether she made it and whether it names her, and, of a conflict, whether one of the paper's
-- authors made it
pub record Face : Type 0 where
  pub outline : Outline
  pub shown : Sighting
  pub mine : Bool
  pub named : Bool
  pub declared : Bool

abbrev by_author : Entry → ℕ → History → Bool
by_author (Conflict paper user on) maker G = is_author (Some maker) paper G
by_author _ maker G = false

module _ (u : Option ℕ) (H H' : History) where
  -- what the conditions say of one place
  record AlikeAt (at : Around) (e other : Stamped) : Type 0 where
    alike : outline e ≡ outline other
    hidden : IsHiddenFrom (reader u H) at e other
    declared : IsDeclaredAlike u H H' e.entry e.stamp.maker other.stamp.maker

  alike-itself : AuthorsAlike u H H' → (at : Around) (e : Stamped) → AlikeAt at e e
  alike-itself authors at e =
      record { alike = refl; hidden = record { parts = refl; maker = refl; user = refl }; declared = of e.entry }
    where
      of : (entry : Entry) → IsDeclaredAlike u H H' entry e.stamp.maker e.stamp.maker
      of (Conflict paper user on) = λ hers. ap (list_any (is_number (Some e.stamp.maker))) (authors paper hers)
      of entry = tt

  -- the face of an entry of the history G, in the place of `e` of the first history
  abbrev pub face : Around → Stamped → Stamped → History → Face
  face at e other G = record {
    outline = outline other;
    shown = shown_of (reader u H) at e other;
    mine = is_number u other.stamp.maker;
    named = is_user u (all_of other).user;
    declared = by_author e.entry other.stamp.maker G;
  }

  -- two entries in one place have the same face
  abbrev pub LooksAlike : Around → (e other : Stamped) → Type 0
  LooksAlike at e other = face at e e H ≡ face at e other H'

  looks-alike : (at : Around) (e other : Stamped) → LooksAlike at e other → AlikeAt at e other
  looks-alike at e other same = record {
    alike = ap (λ (f : Face). f.outline) same;
    hidden = record {
      parts = ap (λ (f : Face). f.shown) same;
      maker = ap (λ (f : Face). f.mine) same;
      user = ap (λ (f : Face). f.named) same;
    };
    declared = of e.entry (ap (λ (f : Face). f.declared) same);
  }
    where
      of : (entry : Entry) → by_author entry e.stamp.maker H ≡ by_author entry other.stamp.maker H'
          → IsDeclaredAlike u H H' entry e.stamp.maker other.stamp.maker
      of (Conflict paper user on) is = λ hers. is
      of entry is = tt

  -- and so have, place by place, these entries and those, where each stand between the others
  abbrev pub AlikeBetween : (before these those after : History) → Type 0
  AlikeBetween before [] [] after = Unit {0}
  AlikeBetween before (e ∷ these) (other ∷ those) after =
      LooksAlike (record { before = before; after = these ++ after }) e other
      × AlikeBetween (before ++ e ∷ []) these those after
  AlikeBetween before _ _ after = ⊥

  module _ (authors : AuthorsAlike u H H') where
    from-between : (before these those after : History) → AlikeBetween before these those after
        → PlaceByPlace AlikeAt before (these ++ after) (those ++ after)
    from-between before [] [] after alike = places-same AlikeAt (alike-itself authors) before after
    from-between before [] (other ∷ those) after alike = absurd alike
    from-between before (e ∷ these) [] after alike = absurd alike
    from-between before (e ∷ these) (other ∷ those) after alike = (
      looks-alike (record { before = before; after = these ++ after }) e other alike.0,
      from-between (before ++ e ∷ []) these those after alike.1,
    )

-- ---- pairs

-- what is seen of the two isn't the same, where a test tells them apart
pub apart : (test : View → Bool) (V W : View) → test V ≡ not (test W) → V ≡ W → ⊥
apart test V W told same = neither (test W) (sym (ap test same) ∙ told)
  where
    neither : (b : Bool) → b ≡ not b → ⊥
    neither true h = true≢false h
    neither false h = true≢false (sym h)

-- such histories meet the conditions
differs : (u : Option ℕ) (before these those after : History)
    → AlikeBetween u (before ++ (these ++ after)) (before ++ (those ++ after)) before these those after
    → AcceptedAlike (before ++ (these ++ after)) (before ++ (those ++ after))
    → AuthorsAlike u (before ++ (these ++ after)) (before ++ (those ++ after))
    → DiffersHidden u (before ++ (these ++ after)) (before ++ (those ++ after))
differs u before these those after alike accepted authors =
    let H : History = before ++ (these ++ after) in
    let H' : History = before ++ (those ++ after) in
    let all : PlaceByPlace (AlikeAt u H H') [] H H' =
    places-behind (AlikeAt u H H') (alike-itself u H H' authors) [] before (these ++ after) (those ++ after)
    (from-between u H H' authors before these those after alike) in
    record {
      alike = places-so (AlikeAt u H H') (λ at e other. outline e ≡ outline other) (λ at e other here. here.alike) [] H
          H' all;
      hidden = places-so (AlikeAt u H H') (IsHiddenFrom (reader u H)) (λ at e other here. here.hidden) [] H H' all;
      accepted = accepted;
      declared =
          places-so (AlikeAt u H H') (λ at e other. IsDeclaredAlike u H H' e.entry e.stamp.maker other.stamp.maker)
          (λ at e other here. here.declared) [] H H' all;
    }

-- what makes a pair: that the first user sees the same follows from the conditions
pub pair : {to from : ℕ} {before these those after : History}
    → Legal (before ++ (these ++ after))
    → Legal (before ++ (those ++ after))
    → AlikeBetween (Some to) (before ++ (these ++ after)) (before ++ (those ++ after)) before these those after
    → AcceptedAlike (before ++ (these ++ after)) (before ++ (those ++ after))
    → AuthorsAlike (Some to) (before ++ (these ++ after)) (before ++ (those ++ after))
    → (view (Some from) (before ++ (these ++ after)) ≡ view (Some from) (before ++ (those ++ after)) → ⊥)
    → IsPair to from before these those after
pair {to} {before = before} {these = these} {those = those} {after = after} legal other alike accepted authors told =
    let hidden : DiffersHidden (Some to) (before ++ (these ++ after)) (before ++ (those ++ after)) =
    differs (Some to) before these those after alike accepted authors in
    record {
      legal = legal;
      other = other;
      hidden = hidden;
      same = hidden_payload (Some to) (before ++ (these ++ after)) (before ++ (those ++ after)) hidden;
      told = told;
    }

-- which papers are accepted, and who their authors are
pub record Papers : Type 0 where
  pub accepted : ℕ → Bool
  pub authors : ℕ → List ℕ

abbrev pub papers : History → Papers
papers H = record { accepted = λ p. is_accepted p H; authors = λ p. authors_of p H }

-- where neither hangs on what differs: the turns that lead to each from a legal history, and a test that tells the
-- two views apart
pub several : {to from : ℕ} {before these those after : History}
    → Legal before → (turns turns' : List Turn) (test : View → Bool)
    → reached before turns ≡ Some (before ++ (these ++ after))
    → reached before turns' ≡ Some (before ++ (those ++ after))
    → AlikeBetween (Some to) (before ++ (these ++ after)) (before ++ (those ++ after)) before these those after
    → papers (before ++ (these ++ after)) ≡ papers (before ++ (those ++ after))
    → test (view (Some from) (before ++ (these ++ after))) ≡ not (test (view (Some from) (before ++ (those ++ after))))
    → IsPair to from before these those after
several {from = from} {before = before} {these = these} {those = those} {after = after} legal turns turns' test leads
    leads' alike same told =
    pair
    (goes_on before (before ++ (these ++ after)) turns leads legal)
    (goes_on before (before ++ (those ++ after)) turns' leads' legal)
    alike
    (λ p. ap (λ (facts : Papers). facts.accepted p) same)
    (λ p hers. ap (λ (facts : Papers). facts.authors p) same)
    (apart test (view (Some from) (before ++ (these ++ after))) (view (Some from) (before ++ (those ++ after))) told)

-- and one turn and one entry
pub once : {to from : ℕ} {before after : History} {one other : Stamped}
    → Legal before → (turn turn' : Turn) (rest : List Turn) (test : View → Bool)
    → reached before (turn ∷ rest) ≡ Some (before ++ one ∷ after)
    → reached before (turn' ∷ rest) ≡ Some (before ++ other ∷ after)
    → LooksAlike (Some to) (before ++ one ∷ after) (before ++ other ∷ after) (record { before = before; after = after })
    one other
    → papers (before ++ one ∷ after) ≡ papers (before ++ other ∷ after)
    → test (view (Some from) (before ++ one ∷ after)) ≡ not (test (view (Some from) (before ++ other ∷ after)))
    → IsPair to from before (one ∷ []) (other ∷ []) after
once legal turn turn' rest test leads leads' alike same told =
    several legal (turn ∷ rest) (turn' ∷ rest) test leads leads' (alike, tt) same told
