-- SPDX-License-Identifier: Apache-2.0 OR MIT
-- So every command is judged the same where entries that no rule reads stand besides.
use Rattle.std.proofs.Common.{ℕ, ◌≡◌, length, refl, sym, ap, ◌∙◌, Option}
use Rattle.std.proofs.Common.{None}
use Rattle.std.specs.Prelude.{not}
use Rattle.std.proofs.lemmas.List.{length-map}
use Rattle.cr_base.specs.declared.command.Call.{Call}
use Rattle.cr_base.specs.declared.command.Command.{Command}
use Rattle.cr_base.specs.declared.command.Command.TheVariants as commands
use Rattle.cr_base.specs.declared.entry.Stamp.{Stamp}
use Rattle.cr_base.specs.Calls.{stamp_of}
use Rattle.cr_base.specs.History.{History, deadline_told, paper_told, own_paper_told, assigned_told, form_told}
use Rattle.cr_base.specs.History.{own_form_told, comment_told, own_comment_told, response_told, upload_told}
use Rattle.cr_base.specs.History.{own_bytes_told}
use Rattle.cr_base.specs.Judging.{judge_by}
use Rattle.cr_base.specs.Lists.{last, last_or, total}
use Rattle.cr_base.specs.Pairs.{users_tied_to}
use Rattle.cr_base.specs.Reviews.{forms_in, written_told}
use Rattle.cr_base.specs.Sources.{Facts, Shown, facts_of_tables, shown_in_tables}
use Rattle.cr_base.specs.Tables.{Tables, tables_of}
use Rattle.cr_history.specs.Invariants.{Invariants}
use Rattle.cr_history.specs.Laws.{AreTold}
use Rattle.cr_history.proofs.FormAgreement.{forms_tell}
use Rattle.cr_policy.specs.Judge.{judge}
use Rattle.cr_policy.specs.View.{view}
use Rattle.cr_policy.proofs.AcceptedLaws.{Kept-told}
use Rattle.cr_policy.proofs.JudgeAgreement.{judge-tables}
use Rattle.cr_undeduced.proofs.BesidesFacts.{SameTold, also, authors-also, ordinal-also, invited-also, withdrawn-also}
use Rattle.cr_undeduced.proofs.BesidesFacts.{standing-also, accounts-also}
use Rattle.cr_undeduced.proofs.RefilledFacts.{nothing-many}

module _ (A B : History) (kept : Invariants A) (kept' : Invariants B) (same : SameTold A B)
    (ties : (tables_of A).ties.conflicts ≡ (tables_of B).ties.conflicts) where
  abbrev t : Tables
  t = tables_of A

  abbrev t' : Tables
  t' = tables_of B

  told : AreTold A
  told = Kept-told A kept

  told' : AreTold B
  told' = Kept-told B kept'

  module _ (u : Option ℕ) where
    abbrev facts : Facts
    facts = facts_of_tables t u

    abbrev facts' : Facts
    facts' = facts_of_tables t' u

    abbrev shown : Shown
    shown = shown_in_tables t

    abbrev shown' : Shown
    shown' = shown_in_tables t'

    abbrev like : Facts
    like = record facts' { own_bid = facts.own_bid; accepted = facts.accepted; had_response = facts.had_response }

    abbrev alike : Shown
    alike = record shown' {
      title = shown.title;
      abstract_ = shown.abstract_;
      declared = shown.declared;
      bids = shown.bids;
      reviewers = shown.reviewers;
      assigned = shown.assigned;
      last_form = shown.last_form;
      early_form = shown.early_form;
      forms_discussed = shown.forms_discussed;
      tags = shown.tags;
      decision = shown.decision;
    }

    F : facts ≡ like
    F =
        let all_lines = sym told.accounts ∙ accounts-also A B same ∙ told'.accounts in
        let papers = sym told.papers
        ∙ also A B same (λ m e. paper_told e) (λ m p v a b on d. (refl, refl, refl, refl)) ∙ told'.papers in
        let own_papers = sym (told.own_papers u)
        ∙ ap length (also A B same (own_paper_told u) (λ m p v a b on d. (refl, refl, refl, refl)))
        ∙ told'.own_papers u in
        let own_bytes = sym (told.own_bytes u)
        ∙ ap total (also A B same (own_bytes_told u) (λ m p v a b on d. (refl, refl, refl, refl)))
        ∙ told'.own_bytes u in
        let own_comments = sym (told.own_comments u)
        ∙ ap length (also A B same (own_comment_told u) (λ m p v a b on d. (refl, refl, refl, refl)))
        ∙ told'.own_comments u in
        λ i. record {
          standing = λ paper. (sym (told.standing u paper) ∙ standing-also A B same u paper ∙ told'.standing u paper) i;
          accounts = all_lines i;
          papers = papers i;
          own_papers = own_papers i;
          own_bytes = own_bytes i;
          own_bid = facts.own_bid;
          own_ordinal = λ p. (sym (told.ordinal u p)
              ∙ ordinal-also A B same u p
              ∙ told'.ordinal u p) i;
          own_forms = λ p. (sym ((forms_tell A kept).own u p)
              ∙ also A B same (own_form_told u p) (λ m p v a b on d. (refl, refl, refl, refl))
              ∙ (forms_tell B kept').own u p) i;
          own_comments = own_comments i;
          accepted = facts.accepted;
          deadline = λ phase. (sym (told.deadline phase)
              ∙ ap (last_or None)
              (also A B same (λ m e. deadline_told phase e) (λ m p v a b on d. (refl, refl, refl, refl)))
              ∙ told'.deadline phase) i;
          had_response = facts.had_response;
        }

    S : shown ≡ alike
    S = λ i. record {
      title = shown.title;
      abstract_ = shown.abstract_;
      authors = λ p. (sym (told.authors p)
          ∙ authors-also A B same p ∙ told'.authors p) i;
      conflicts = λ p. users_tied_to p (ties i);
      declared = shown.declared;
      uploads = λ p. (sym (told.uploads p)
          ∙ also A B same (λ m e. upload_told p e) (λ m p v a b on d. (refl, refl, refl, refl))
          ∙ told'.uploads p) i;
      withdrawn = λ p. (sym (told.withdrawn p)
          ∙ withdrawn-also A B same p
          ∙ told'.withdrawn p) i;
      bids = shown.bids;
      reviewers = shown.reviewers;
      ordinal = λ v p. (sym (told.ordinal v p)
          ∙ ordinal-also A B same v p
          ∙ told'.ordinal v p) i;
      labels = λ p. (sym (told.labels p)
          ∙ ap length (also A B same (λ m e. assigned_told p e) (λ m p v a b on d. (refl, refl, refl, refl)))
          ∙ told'.labels p) i;
      assigned = shown.assigned;
      invited = λ v p. (sym (told.invited v p)
          ∙ invited-also A B same v p
          ∙ told'.invited v p) i;
      last_form = shown.last_form;
      early_form = shown.early_form;
      forms_discussed = shown.forms_discussed;
      written = λ p o. not (nothing-many (forms_in t.reviews p o) (forms_in t'.reviews p o)
          (sym (length-map (forms_in t.reviews p o) written_told) ∙ sym (ap length (told.forms p o))
          ∙ ap length (also A B same (λ m e. form_told p o e) (λ m p v a b on d. (refl, refl, refl, refl)))
          ∙ ap length (told'.forms p o) ∙ length-map (forms_in t'.reviews p o) written_told) i);
      comments = λ p. (sym (told.comments p)
          ∙ also A B same (comment_told p) (λ m p v a b on d. (refl, refl, refl, refl)) ∙ told'.comments p) i;
      response = λ p. (sym (told.response p)
          ∙ ap last (also A B same (λ m e. response_told p e) (λ m p v a b on d. (refl, refl, refl, refl)))
          ∙ told'.response p) i;
      tags = shown.tags;
      decision = shown.decision;
    }

    -- every command is judged the same
    pub judged-same : (stamp : Stamp) (command : Command)
        → judge_by facts shown stamp command ≡ judge_by facts' shown' stamp command
    judged-same stamp (commands.Register name digest) = λ i. judge_by (F i) (S i) stamp (commands.Register name digest)
    judged-same stamp command = λ i. judge_by (F i) (S i) stamp command

  pub judge-same : (call : Call) → judge (view call.caller A) call ≡ judge (view call.caller B) call
  judge-same call =
      judge-tables A call kept told (forms_tell A kept) ∙ judged-same call.caller (stamp_of call) call.command
      ∙ sym (judge-tables B call kept' told' (forms_tell B kept'))
