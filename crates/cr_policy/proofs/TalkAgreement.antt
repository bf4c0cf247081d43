-- SPDX-License-Identifier: Apache-2.0 OR MIT
-- Where the tables tell what a history tells, what a reader is told of the comments on a paper, of what its authors
-- responded and of its tags is what the tables have.
use Rattle.std.proofs.Common.{ℕ, true, ◌≡◌, List, [], length, sym, ap, subst, ◌∙◌, Option, Some}
use Rattle.std.specs.Prelude.{map}
use Rattle.std.specs.List.{All}
use Rattle.std.proofs.lemmas.List.{length-map}
use Rattle.cr_base.specs.declared.reply.AccountLine.{AccountLine}
use Rattle.cr_base.specs.declared.standing.Standing.{Standing}
use Rattle.cr_base.specs.Answering.{comment_line}
use Rattle.cr_base.specs.History.{History, CommentTold}
use Rattle.cr_base.specs.HistoryFacts.{comments_of, tags_of}
use Rattle.cr_base.specs.Page.{gets_tags, is_clear_member}
use Rattle.cr_base.specs.Phases.{members_read_comments}
use Rattle.cr_base.specs.Rows.{IsBoundedEntry}
use Rattle.cr_base.specs.Sources.{standing_at}
use Rattle.cr_base.specs.Tables.{tables_of}
use Rattle.cr_base.specs.Tags.{tags_for, tags_in}
use Rattle.cr_base.specs.Talk.{comments_in, comment_as_told, response_in}
use Rattle.cr_base.specs.Words.{is_chair}
use Rattle.cr_history.specs.Laws.{AreTold}
use Rattle.cr_policy.specs.View.{view}
use Rattle.cr_policy.specs.ViewFacts.{comments_in_view, response_in_view, tags_in_view}
use Rattle.cr_policy.proofs.CommentTells.{comments-seen}
use Rattle.cr_policy.proofs.ResponseTells.{is_told_response, response-seen}
use Rattle.cr_policy.proofs.TagTells.{tags-seen}

module _ (u : Option ℕ) (H : History) (told : AreTold H) (p : ℕ) where
  -- how she stands to the paper, by the tables
  abbrev by : Standing
  by = standing_at (tables_of H) u (Some p)

  -- ---- comments

  -- as one who discusses the paper is told of them
  pub comments-tables : (accounts : List AccountLine) → All IsBoundedEntry H → is_clear_member by ≡ true
      → members_read_comments by.phase ≡ true
      → map (comment_line by accounts) (comments_in_view p (view u H))
      ≡ map (comment_line by accounts) (map comment_as_told (comments_in (tables_of H).talk p))
  comments-tables accounts bounded clear discussed =
      subst
      (λ (s : Standing). is_clear_member s ≡ true → members_read_comments s.phase ≡ true
      → map (comment_line s accounts) (comments_in_view p (view u H)) ≡ map (comment_line s accounts) (comments_of p H))
      (told.standing u (Some p)) (λ clear discussed. comments-seen u p H accounts clear discussed bounded) clear
      discussed
      ∙ ap (map (comment_line by accounts)) (told.comments p)

  -- so she sees how many there are
  pub comment_count-tables : All IsBoundedEntry H → is_clear_member by ≡ true → members_read_comments by.phase ≡ true
      → length (comments_in_view p (view u H)) ≡ length (map comment_as_told (comments_in (tables_of H).talk p))
  comment_count-tables bounded clear discussed =
      let seen : List CommentTold = comments_in_view p (view u H) in
      let kept : List CommentTold = map comment_as_told (comments_in (tables_of H).talk p) in
      sym (length-map seen (comment_line by []))
      ∙ ap length (comments-tables [] bounded clear discussed)
      ∙ length-map kept (comment_line by [])

  -- ---- responses

  -- as the paper's authors are told them, and who discusses it
  pub response-tables : is_told_response by ≡ true → response_in_view p (view u H) ≡ response_in (tables_of H).talk p
  response-tables may = response-seen u p H (ap is_told_response (told.standing u (Some p)) ∙ may) ∙ told.response p

  -- ---- tags

  -- those that are for her, where she is told of tags
  pub tags-tables : gets_tags by ≡ true → tags_in_view u (is_chair by.role) p (view u H) ≡ tags_in (tables_of H).tags u
      (is_chair by.role) p
  tags-tables may =
      subst
      (λ (s : Standing). gets_tags s ≡ true → tags_in_view u (is_chair s.role) p (view u H)
      ≡ tags_for u (is_chair s.role) (tags_of p H))
      (told.standing u (Some p)) (λ gets. tags-seen u p H gets) may
      ∙ ap (tags_for u (is_chair by.role)) (told.tags p)
