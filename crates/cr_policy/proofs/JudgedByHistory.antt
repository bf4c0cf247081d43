-- SPDX-License-Identifier: Apache-2.0 OR MIT
-- Judgement of a legal history by the facts of the history.
use Rattle.std.proofs.Common.{ℕ, ◌≡◌, List, length, sym, ap, ◌∙◌, Option, Result}
use Rattle.cr_base.specs.declared.command.Command.{Command}
use Rattle.cr_base.specs.declared.entry.Stamp.{Stamp}
use Rattle.cr_base.specs.declared.reply.AccountLine.{AccountLine}
use Rattle.cr_base.specs.declared.reply.Rule.{Rule}
use Rattle.cr_base.specs.declared.retry.RetryKey.{RetryKey}
use Rattle.cr_base.specs.Calls.{stamp_of, call_of}
use Rattle.cr_base.specs.Drawn.{Drawn}
use Rattle.cr_base.specs.Judging.{judge_by}
use Rattle.cr_base.specs.History.{History}
use Rattle.cr_base.specs.HistoryFacts.{is_withdrawn, authors_of, uploads_of, ordinal_of, seats_of, accounts_of}
use Rattle.cr_base.specs.HistoryFacts.{number_of, is_invited, is_written, comments_of, response_of}
use Rattle.cr_base.specs.Sources.{Shown, number_in, facts_of_tables, shown_in_tables}
use Rattle.cr_base.specs.Tables.{tables_of}
use Rattle.cr_base.proofs.AccountLaws.{number_in-lines_of}
use Rattle.cr_history.specs.Laws.{AreTold, AreFormsTold}
use Rattle.cr_history.proofs.FormAgreement.{forms_tell}
use Rattle.cr_history.proofs.ReviewAgreement.{is_written-tables}
use Rattle.cr_history.proofs.RuleFacts.{facts_of}
use Rattle.cr_policy.specs.Judge.{judge}
use Rattle.cr_policy.specs.Legal.{Legal}
use Rattle.cr_policy.specs.View.{view}
use Rattle.cr_policy.proofs.LegalLaws.{Legal-judge, Legal-told, legal_invariants}

-- what the history shows of papers, where the rules of commands ask for it
abbrev pub shown_of : History → Shown
shown_of H = record (shown_in_tables (tables_of H)) {
  authors = λ p. authors_of p H;
  uploads = λ p. uploads_of p H;
  comments = λ p. comments_of p H;
  response = λ p. response_of p H;
  withdrawn = λ p. is_withdrawn p H;
  ordinal = λ v p. ordinal_of v p H;
  labels = λ p. length (seats_of p H);
  written = λ p o. is_written p o H;
  invited = λ v p. is_invited v p H;
}

module _ (u : Option ℕ) (H : History) (legal : Legal H) where
  pub told : AreTold H
  told = Legal-told H legal

  pub forms : AreFormsTold H
  forms = forms_tell H (legal_invariants H legal)

  pub facts-same : facts_of u H ≡ facts_of_tables (tables_of H) u
  facts-same = λ i. record {
    standing = λ paper. told.standing u paper i;
    accounts = told.accounts i;
    papers = told.papers i;
    own_papers = told.own_papers u i;
    own_bytes = told.own_bytes u i;
    own_bid = λ p. told.bid u p i;
    own_ordinal = λ p. told.ordinal u p i;
    own_forms = λ p. forms.own u p i;
    own_comments = told.own_comments u i;
    accepted = λ p. told.accepted p i;
    deadline = λ phase. told.deadline phase i;
    had_response = told.had_response i;
  }

  pub shown-same : shown_of H ≡ shown_in_tables (tables_of H)
  shown-same = λ i. record (shown_in_tables (tables_of H)) {
    authors = λ p. told.authors p i;
    uploads = λ p. told.uploads p i;
    comments = λ p. told.comments p i;
    response = λ p. told.response p i;
    withdrawn = λ p. told.withdrawn p i;
    ordinal = λ v p. told.ordinal v p i;
    labels = λ p. told.labels p i;
    written = λ p o. is_written-tables p o H i;
    invited = λ v p. told.invited v p i;
  }

  -- judgement by the view is that by the facts of the history, at whatever moment the command comes, and whatever its
  -- key
  module _ (m : ℕ) (key : Option RetryKey) where
    abbrev pub judged_on : Command → Result Drawn Rule
    judged_on command = judge_by (facts_of u H) (shown_of H) (stamp_of (call_of u m key command)) command

    pub judge-history : (command : Command) → judge (view u H) (call_of u m key command) ≡ judged_on command
    judge-history command =
        let stamp : Stamp = stamp_of (call_of u m key command) in
        Legal-judge H (call_of u m key command) legal ∙ sym (λ i. judge_by (facts-same i) (shown-same i) stamp command)

  -- the user of a name by the tables is that of the history
  pub number-same : (name : List ℕ) → number_in (accounts_of H) name ≡ number_of name H
  number-same name =
      ap (λ (lines : List AccountLine). number_in lines name) told.accounts
      ∙ number_in-lines_of (tables_of H).accounts name ∙ sym (told.number name)
