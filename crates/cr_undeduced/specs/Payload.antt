-- SPDX-License-Identifier: Apache-2.0 OR MIT
-- Payload: what an entry may tell that no rule reads, and the entry with other values of some of it.
use Rattle.std.specs.Prelude.{ℕ, Bool, ◌≡◌, ◌≤◌, ◌||◌, ◌&&◌, not, suc, List, [], ◌∷◌, length, Option, IsTrue}
use Rattle.std.specs.Prelude.{if◌then◌else◌}
use Rattle.cr_base.specs.declared.entry.Entry.{Entry}
use Rattle.cr_base.specs.declared.entry.Entry.TheVariants.{Registered, Submitted, Revised, Uploaded, Bid, Assigned}
use Rattle.cr_base.specs.declared.entry.Entry.TheVariants.{Reviewed, Commented, Tagged, Decided, Responded}
use Rattle.cr_base.specs.declared.form.Form.{Form}
use Rattle.cr_base.specs.declared.retry.RetryKey.{RetryKey}
use Rattle.cr_base.specs.declared.words.Decision.{Decision}
use Rattle.cr_base.specs.declared.words.Kind.{Kind}
use Rattle.cr_base.specs.Bounds.{IsForm}
use Rattle.cr_base.specs.History.{History}
use Rattle.cr_base.specs.Keys.{IsKeyOrNone}
use Rattle.cr_base.specs.Moments.{IsMoment}
use Rattle.cr_base.specs.TagTexts.{is_tag}
use Rattle.cr_base.specs.Texts.{IsTitle, IsAbstract, IsContent, IsCommentText}
use Rattle.cr_bounds.specs.ShownTo.{is_committees, is_chairs}

-- one value of each sort, of which an entry takes those that its kind has: the digest of a secret, a paper's texts, a
-- content, a bid, the kind of a reviewer, a form, the text of a comment or a response, a tag, whether it is on, and a
-- decision; and a timestamp, and the number and the mark of a command, or none
pub record Payload : Type 0 where
  pub digest : List ℕ
  pub title : List ℕ
  pub abstract_ : List ℕ
  pub content : List ℕ
  pub value : ℕ
  pub kind : Kind
  pub form : Form
  pub text : List ℕ
  pub tag : List ℕ
  pub on : Bool
  pub decision : Decision
  pub at : ℕ
  pub key : Option RetryKey

-- each is within the bounds of commands
pub record IsBoundedPayload (x : Payload) : Type 0 where
  pub digest : length x.digest ≡ 32
  pub title : IsTitle x.title
  pub abstract_ : IsAbstract x.abstract_
  pub content : IsContent x.content
  pub value : x.value ≤ 40
  pub form : IsForm x.form
  pub text : IsCommentText x.text
  pub tag : IsTrue (is_tag x.tag)
  pub moment : IsMoment x.at
  pub key : IsKeyOrNone x.key

-- ---- one entry

-- which of these parts of an entry are known
pub record Known : Type 0 where
  pub digest : Bool
  pub title : Bool
  pub abstract_ : Bool
  pub content : Bool
  pub value : Bool
  pub kind : Bool
  pub score : Bool
  pub confidence : Bool
  pub to_authors : Bool
  pub to_pc : Bool
  pub text : Bool
  pub tag : Bool
  pub on : Bool
  pub decision : Bool

-- the entry's own, where it is known, else the other
abbrev pub own_if : {A : Type 0} → Bool → A → A → A
own_if known own other = if known then own else other

-- both are so, or neither is
abbrev pub agree : Bool → Bool → Bool
agree a b = if a then b else not b

-- the two tags are for the same users: the committee, the chairs, or the one who sets them
abbrev pub are_for_same : List ℕ → List ℕ → Bool
are_for_same tag other = agree (is_committees tag) (is_committees other) && agree (is_chairs tag) (is_chairs other)

-- the entry with the payload's values in place of its own, except in what is known. A tag stays too, if the payload's
-- is for others. Its paper, users, labels, numbers and names are its own, and whether a conflict is on, which rules
-- read.
abbrev pub with_other : Known → Payload → Entry → Entry
with_other known x (Registered user name digest) = Registered user name (own_if known.digest digest x.digest)
with_other known x (Submitted paper title abstract) =
    Submitted paper (own_if known.title title x.title) (own_if known.abstract_ abstract x.abstract_)
with_other known x (Revised paper title abstract) =
    Revised paper (own_if known.title title x.title) (own_if known.abstract_ abstract x.abstract_)
with_other known x (Uploaded paper version content) =
    Uploaded paper version (own_if known.content content x.content)
with_other known x (Bid paper value) = Bid paper (own_if known.value value x.value)
with_other known x (Assigned paper user review_kind ordinal) =
    Assigned paper user (own_if known.kind review_kind x.kind) ordinal
with_other known x (Reviewed paper ordinal version form) = Reviewed paper ordinal version (record {
  score = own_if known.score form.score x.form.score;
  confidence = own_if known.confidence form.confidence x.form.confidence;
  to_authors = own_if known.to_authors form.to_authors x.form.to_authors;
  to_pc = own_if known.to_pc form.to_pc x.form.to_pc;
})
with_other known x (Commented paper n ordinal text) = Commented paper n ordinal (own_if known.text text x.text)
with_other known x (Tagged paper tag on) =
    Tagged paper (own_if (known.tag || not (are_for_same tag x.tag)) tag x.tag) (own_if known.on on x.on)
with_other known x (Decided paper decision) = Decided paper (own_if known.decision decision x.decision)
with_other known x (Responded paper text) = Responded paper (own_if known.text text x.text)
with_other known x e = e

-- ---- lengths of contents

-- where the entry is an upload, the other content is no longer than its own
abbrev pub IsNoLonger : Payload → Entry → Type 0
IsNoLonger x (Uploaded paper version content) = length x.content ≤ length content
IsNoLonger x e = Unit {0}

-- no content of these payloads is longer than that of the entry at its place
abbrev pub NoneLonger : (ℕ → Payload) → History → Type 0
NoneLonger xs [] = Unit {0}
NoneLonger xs (e ∷ H) = IsNoLonger (xs 0) e.entry × NoneLonger (λ n. xs (suc n)) H
