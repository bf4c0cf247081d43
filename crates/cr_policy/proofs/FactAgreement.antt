-- SPDX-License-Identifier: Apache-2.0 OR MIT
-- Where the tables tell what a history tells, what rules and answers read in a view is what they read in the tables.
use Rattle.std.proofs.Common.{ℕ, Bool, true, false, ◌≡◌, length, refl, sym, ap, ◌∙◌, Option, Some}
use Rattle.std.specs.Prelude.{if◌then◌else◌}
use Rattle.cr_base.specs.declared.standing.Standing.{Standing}
use Rattle.cr_base.specs.declared.words.Decision.TheVariants.{Accept}
use Rattle.cr_base.specs.Answering.{uploads_told}
use Rattle.cr_base.specs.History.{History}
use Rattle.cr_base.specs.HistoryFacts.{standing_of, is_author, uploads_of, is_accepted}
use Rattle.cr_base.specs.Decisions.{decision_in}
use Rattle.cr_base.specs.Invites.{is_invited_in}
use Rattle.cr_base.specs.Page.{gets_title, gets_abstract, shows_author, gets_conflicts, gets_versions, gets_withdrawn}
use Rattle.cr_base.specs.Page.{gets_decision}
use Rattle.cr_base.specs.Papers.{title_at, abstract_at, uploads_at, is_withdrawn_at}
use Rattle.cr_base.specs.Seats.{ordinal_in, labels_in}
use Rattle.cr_base.specs.Ties.{authors_in}
use Rattle.cr_base.specs.Tables.{tables_of}
use Rattle.cr_base.specs.Sources.{standing_at, is_accepted_in, decision_by, facts_of_tables, shown_in_tables}
use Rattle.cr_history.specs.Laws.{AreTold, AreFormsTold}
use Rattle.cr_policy.specs.View.{view}
use Rattle.cr_policy.specs.ViewFacts.{title_in_view, abstract_in_view, authors_in_view, uploads_in_view}
use Rattle.cr_policy.specs.ViewFacts.{is_withdrawn_in_view, decision_in_view, is_invited_in_view, ordinal_in_view}
use Rattle.cr_policy.specs.ViewFacts.{seats_in_view, facts_in_view, shown_in_view}
use Rattle.cr_policy.proofs.DecisionTells.{accepted-seen, decision-seen}
use Rattle.cr_policy.proofs.StandingLaws.{standing_from_view, deadline-seen, had_response-seen, accounts-seen}
use Rattle.cr_policy.proofs.StandingLaws.{papers-seen, own_papers-seen, own_bytes-seen, own_comments-seen, own_bid-seen}
use Rattle.cr_policy.proofs.StandingLaws.{seat-seen}
use Rattle.cr_policy.proofs.ReviewerTells.{invited-seen_by_chair, seat-seen_by_chair, labels-seen}
use Rattle.cr_policy.proofs.ReviewTells.{own_forms-seen}
use Rattle.cr_policy.proofs.PageTells.{title-seen, abstract-seen, authors-seen, uploads-seen_by_author, uploads-seen}
use Rattle.cr_policy.proofs.PageTells.{withdrawn-seen}

-- the facts of any user's view are those of the tables
pub facts_in_view-tables : (u : Option ℕ) (H : History) → AreTold H → AreFormsTold H
    → facts_in_view u (view u H) ≡ facts_of_tables (tables_of H) u
facts_in_view-tables u H told forms =
    let accounts = accounts-seen u H ∙ told.accounts in
    let papers = papers-seen u H ∙ told.papers in
    let own = own_papers-seen u H ∙ told.own_papers u in
    let bytes = own_bytes-seen u H ∙ told.own_bytes u in
    let comments = own_comments-seen u H ∙ told.own_comments u in
    let opened = had_response-seen u H ∙ told.had_response in
    λ i. record {
      standing = λ paper. (standing_from_view u paper H ∙ told.standing u paper) i;
      accounts = accounts i;
      papers = papers i;
      own_papers = own i;
      own_bytes = bytes i;
      own_bid = λ p. (own_bid-seen u p H ∙ told.bid u p) i;
      own_ordinal = λ p. (seat-seen u p H ∙ told.ordinal u p) i;
      own_forms = λ p. (own_forms-seen u p H ∙ forms.own u p) i;
      own_comments = comments i;
      accepted = λ p. (accepted-seen u p H ∙ told.accepted p) i;
      deadline = λ phase. (deadline-seen u phase H ∙ told.deadline phase) i;
      had_response = opened i;
    }

module _ (u : Option ℕ) (H : History) (told : AreTold H) (p : ℕ) where
  -- how she stands to the paper, by the tables
  abbrev by : Standing
  by = standing_at (tables_of H) u (Some p)

  -- whether it is accepted
  abbrev accepted : Bool
  accepted = is_accepted_in (tables_of H) p

  -- what goes by both goes by what the history tells of both
  pub by_history : (tells : Standing → Bool → Bool) → tells by accepted ≡ true
      → tells (standing_of u (Some p) H) (is_accepted p H) ≡ true
  by_history tells may =
      ap (λ (s : Standing). tells s (is_accepted p H)) (told.standing u (Some p))
      ∙ ap (λ (b : Bool). tells by b) (told.accepted p) ∙ may

  -- the paper's texts, as the view of one who is told shows them
  pub title-tables : gets_title by accepted ≡ true → title_in_view p (view u H) ≡ title_at (tables_of H).papers p
  title-tables may = title-seen u p H (by_history gets_title may) ∙ told.title p

  pub abstract-tables : gets_abstract by accepted ≡ true
      → abstract_in_view p (view u H) ≡ abstract_at (tables_of H).papers p
  abstract-tables may = abstract-seen u p H (by_history gets_abstract may) ∙ told.abstract_ p

  -- who wrote it
  pub authors-tables : shows_author by accepted ≡ true → authors_in_view p (view u H) ≡ authors_in (tables_of H).ties p
  authors-tables may = authors-seen u p H (by_history shows_author may) ∙ told.authors p

  -- what was decided of it
  pub decision-tables : gets_decision by false ≡ true
      → decision_in_view p (view u H) ≡ decision_in (tables_of H).decisions p
  decision-tables may =
      decision-seen u p H (ap (λ (s : Standing). gets_decision s false) (told.standing u (Some p)) ∙ may)
      ∙ told.decision p

  -- that it is accepted everyone is told
  pub decision_by-tables : gets_decision by accepted ≡ true
      → decision_by (facts_of_tables (tables_of H) u) (shown_in_view u (view u H)) p
      ≡ decision_by (facts_of_tables (tables_of H) u) (shown_in_tables (tables_of H)) p
  decision_by-tables may = of accepted may
    where
      of : (b : Bool) → gets_decision by b ≡ true
          → (if b then Some Accept else decision_in_view p (view u H))
          ≡ (if b then Some Accept else decision_in (tables_of H).decisions p)
      of true may = refl
      of false may = decision-tables may

  -- whether it is withdrawn
  pub withdrawn-tables : gets_withdrawn by ≡ true
      → is_withdrawn_in_view p (view u H) ≡ is_withdrawn_at (tables_of H).papers p
  withdrawn-tables may = withdrawn-seen u p H (ap gets_withdrawn (told.standing u (Some p)) ∙ may) ∙ told.withdrawn p

  -- what was uploaded to it, as the view of an author shows it
  pub own_uploads-tables : by.author ≡ true → uploads_in_view p (view u H) ≡ uploads_at (tables_of H).papers p
  own_uploads-tables author =
      uploads-seen_by_author u p H (ap (λ (s : Standing). s.author) (told.standing u (Some p)) ∙ author)
      ∙ told.uploads p

  -- and as far as any reader is told of it
  pub uploads-tables : gets_versions by accepted ≡ true → uploads_told by.author (uploads_in_view p (view u H))
      ≡ uploads_told by.author (uploads_at (tables_of H).papers p)
  uploads-tables may =
      let author : is_author u p H ≡ by.author = ap (λ (s : Standing). s.author) (told.standing u (Some p)) in
      ap (λ (b : Bool). uploads_told b (uploads_in_view p (view u H))) (sym author)
      ∙ uploads-seen u p H (by_history gets_versions may)
      ∙ ap (λ (b : Bool). uploads_told b (uploads_of p H)) author
      ∙ ap (uploads_told by.author) (told.uploads p)

  -- ---- what a clear chair is told from the bidding on

  -- the seat of any user
  pub seat-tables : gets_conflicts by ≡ true → (v : Option ℕ)
      → ordinal_in_view v p (view u H) ≡ ordinal_in (tables_of H).seats v p
  seat-tables may v = seat-seen_by_chair u v p H (ap gets_conflicts (told.standing u (Some p)) ∙ may) ∙ told.ordinal v p

  -- whether she is invited
  pub invited-tables : gets_conflicts by ≡ true → (v : Option ℕ)
      → is_invited_in_view v p (view u H) ≡ is_invited_in (tables_of H).invites v p
  invited-tables may v =
      invited-seen_by_chair u v p H (ap gets_conflicts (told.standing u (Some p)) ∙ may) ∙ told.invited v p

  -- and how many labels were given
  pub labels-tables : gets_conflicts by ≡ true → length (seats_in_view p (view u H)) ≡ labels_in (tables_of H).seats p
  labels-tables may = labels-seen u p H (ap gets_conflicts (told.standing u (Some p)) ∙ may) ∙ told.labels p
