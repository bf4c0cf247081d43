-- SPDX-License-Identifier: Apache-2.0 OR MIT
-- The table of comments and of authors' responses (the HotCRP manual's): what was written on papers, and how many
-- comments each user has written.
use Rattle.std.specs.Prelude.{ℕ, ◌≡◌, ◌<◌, ◌+◌, List, [], length, slice_index, Option, Some, None}
use Rattle.cr_base.specs.declared.comment.Comment.{Comment}
use Rattle.cr_base.specs.declared.entry.Entry.{Entry}
use Rattle.cr_base.specs.declared.entry.Entry.TheVariants.{Commented, Responded}
use Rattle.cr_base.specs.declared.filed.Filed.{Filed}
use Rattle.cr_base.specs.Filed.{filed, with_filed, filed_of}
use Rattle.cr_base.specs.History.{CommentTold}
use Rattle.cr_base.specs.Lists.{last}
use Rattle.cr_base.specs.Papers.{with_more}

-- ---- the state

-- the comments, paper by paper, and those of a paper by number; how many each user has written, with the user's number
-- as index: a user past the end has written none; and what authors responded, paper by paper
pub record TalkState : Type 0 where
  pub comments : List (Filed Comment)
  pub written : List ℕ
  pub responses : List (Filed (List ℕ))

-- no comments, and no responses
abbrev pub no_talk : TalkState
no_talk = record { comments = []; written = []; responses = [] }

-- both after one more entry, by this maker
abbrev pub talk_after : TalkState → ℕ → Entry → TalkState
talk_after talk maker (Commented paper n ordinal text) = record talk {
  comments = with_filed (filed paper (record { n = n; writer = maker; ordinal = ordinal; text = text })) talk.comments;
  written = with_more maker 1 talk.written;
}
talk_after talk maker (Responded paper text) =
    record talk { responses = with_filed (filed paper text) talk.responses }
talk_after talk maker _ = talk

-- ---- what is read

-- the comments on the paper, by number
abbrev pub comments_in : TalkState → ℕ → List Comment
comments_in talk p = filed_of p talk.comments

-- a comment as it is told
abbrev pub comment_as_told : Comment → CommentTold
comment_as_told c = record { n = c.n; writer = Some c.writer; ordinal = c.ordinal; text = c.text }

-- how many the user has written
abbrev pub own_comments_in : TalkState → Option ℕ → ℕ
own_comments_in talk None = 0
own_comments_in talk (Some user) = slice_index talk.written user

-- what the paper's authors responded: one of them, once
abbrev pub response_in : TalkState → ℕ → Option (List ℕ)
response_in talk p = last (filed_of p talk.responses)

-- ---- which entry may come next

-- an entry fits: the number drawn is the paper's next one, and its maker hasn't written 1,000 comments; the paper has
-- no response yet
abbrev pub TalkFit : TalkState → ℕ → Entry → Type 0
TalkFit talk maker (Commented paper n ordinal text) =
    (n ≡ length (comments_in talk paper) + 1) × (own_comments_in talk (Some maker) < 1000)
TalkFit talk maker (Responded paper text) = response_in talk paper ≡ None
TalkFit talk maker _ = Unit {0}
