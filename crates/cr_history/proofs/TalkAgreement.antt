-- SPDX-License-Identifier: Apache-2.0 OR MIT
-- The comments and the responses that a history tells are those that the table of comments has.
use Rattle.std.proofs.Common.{ℕ, Bool, true, false, ◌≡◌, ◌+◌, List, ◌++◌, length, length-append, append_assoc}
use Rattle.std.proofs.Common.{append-nil, eqb, refl, sym, ap, ◌∙◌, arith, Option, Some, None}
use Rattle.std.specs.Prelude.{map}
use Rattle.std.proofs.lemmas.List.{map-append}
use Rattle.cr_base.specs.declared.comment.Comment.{Comment}
use Rattle.cr_base.specs.declared.entry.Entry.{Entry}
use Rattle.cr_base.specs.declared.entry.Entry.TheVariants.{Commented, Responded}
use Rattle.cr_base.specs.declared.entry.Stamped.{Stamped}
use Rattle.cr_base.specs.Filed.{filed, filed_of}
use Rattle.cr_base.specs.History.{History, CommentTold, comment_told, own_comment_told, response_told}
use Rattle.cr_base.specs.HistoryFacts.{comments_of, own_comments_of, response_of}
use Rattle.cr_base.specs.Lists.{given, last}
use Rattle.cr_base.specs.Tables.{Tables, no_tables, tables_of}
use Rattle.cr_base.specs.Talk.{TalkState, talk_after, comments_in, comment_as_told, own_comments_in, response_in}
use Rattle.cr_base.proofs.FiledLaws.{filed_of-with_filed}
use Rattle.cr_base.proofs.Small.{eqb-swap}
use Rattle.cr_history.proofs.CountAgreement.{sum_at, sum-with_one, sum-tables}
use Rattle.cr_history.proofs.Folds.{told-always}

-- ---- the comments on a paper

comments-entry : (p : ℕ) (talk : TalkState) (maker : ℕ) (e : Entry)
    → map comment_as_told (comments_in talk p) ++ comment_told p maker e
    ≡ map comment_as_told (comments_in (talk_after talk maker e) p)
comments-entry p talk maker (Commented paper n ordinal text) =
    let before : List CommentTold = map comment_as_told (comments_in talk p) in
    ap (λ b. before ++ given b (comment_as_told comment)) (eqb-swap paper p)
    ∙ ap (λ (cs : List CommentTold). before ++ cs) (by (eqb p paper))
    ∙ sym (ap (map comment_as_told) (filed_of-with_filed p (filed paper comment) talk.comments)
    ∙ map-append comment_as_told (comments_in talk p) (given (eqb p paper) comment))
  where
    comment : Comment
    comment = record { n = n; writer = maker; ordinal = ordinal; text = text }

    by : (b : Bool) → given b (comment_as_told comment) ≡ map comment_as_told (given b comment)
    by true = refl
    by false = refl
comments-entry p talk maker e = append-nil (map comment_as_told (comments_in talk p))

-- the comments on a paper are those that the table has
pub comments_of-tables : (p : ℕ) (H : History)
    → comments_of p H ≡ map comment_as_told (comments_in (tables_of H).talk p)
comments_of-tables p H =
    told-always ◌++◌ append-nil (λ (t : Tables). map comment_as_told (comments_in t.talk p))
    (λ (s : Stamped). comment_told p s.stamp.maker s.entry)
    (λ t s rest.
    sym (append_assoc (map comment_as_told (comments_in t.talk p)) (comment_told p s.stamp.maker s.entry) rest)
    ∙ ap (λ (cs : List CommentTold). cs ++ rest) (comments-entry p t.talk s.stamp.maker s.entry)) no_tables H

-- ---- what a paper's authors responded

responses-entry : (p : ℕ) (talk : TalkState) (maker : ℕ) (e : Entry)
    → filed_of p talk.responses ++ response_told p e ≡ filed_of p (talk_after talk maker e).responses
responses-entry p talk maker (Responded paper text) =
    ap (λ b. filed_of p talk.responses ++ given b text) (eqb-swap paper p)
    ∙ sym (filed_of-with_filed p (filed paper text) talk.responses)
responses-entry p talk maker e = append-nil (filed_of p talk.responses)

-- what they responded is what the table has
pub response_of-tables : (p : ℕ) (H : History) → response_of p H ≡ response_in (tables_of H).talk p
response_of-tables p H =
    ap last (told-always ◌++◌ append-nil (λ (t : Tables). filed_of p t.talk.responses)
    (λ (s : Stamped). response_told p s.entry)
    (λ t s rest.
    sym (append_assoc (filed_of p t.talk.responses) (response_told p s.entry) rest)
    ∙ ap (λ (rs : List (List ℕ)). rs ++ rest) (responses-entry p t.talk s.stamp.maker s.entry)) no_tables H)

-- ---- how many comments the user has written

own-entry : (u : Option ℕ) (talk : TalkState) (maker : ℕ) (e : Entry) (n : ℕ)
    → sum_at talk.written u + (length (own_comment_told u maker e) + n) ≡ sum_at (talk_after talk maker e).written u + n
own-entry u talk maker (Commented paper k ordinal text) n = sum-with_one u maker k n talk.written
own-entry u talk maker e n = omega arith

-- she has written as many as the table says
pub own_comments_of-tables : (u : Option ℕ) (H : History) → own_comments_of u H ≡ own_comments_in (tables_of H).talk u
own_comments_of-tables u H =
    sum-tables length refl length-append (λ (t : Tables). t.talk.written) refl u (own_comment_told u)
    (λ t s n. own-entry u t.talk s.stamp.maker s.entry n) H
    ∙ read u (tables_of H).talk
  where
    read : (u : Option ℕ) (talk : TalkState) → sum_at talk.written u ≡ own_comments_in talk u
    read None talk = refl
    read (Some v) talk = refl
