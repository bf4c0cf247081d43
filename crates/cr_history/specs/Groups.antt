-- SPDX-License-Identifier: Apache-2.0 OR MIT
-- What an accepted command may add to a history, and a row of an accepted bulk, by the rules on it.
use Rattle.std.specs.Prelude.{ℕ, true, ◌≡◌, ◌≤◌, ◌==◌, List, [], ◌∷◌, length, IsTrue, IsFalse}
use Rattle.std.specs.List.{AllByRecursion}
use Rattle.cr_base.specs.declared.entry.Entry.{Entry}
use Rattle.cr_base.specs.declared.entry.Entry.TheVariants.{Registered, Named, Submitted}
use Rattle.cr_base.specs.declared.entry.Entry.TheVariants.{Coauthor, Revised, Uploaded, Bid}
use Rattle.cr_base.specs.declared.entry.Entry.TheVariants.{Reviewed, Responded, Commented, Tagged, DeadlineSet}
use Rattle.cr_base.specs.declared.entry.Stamp.{Stamp}
use Rattle.cr_base.specs.declared.words.Role.TheVariants.{Chair}
use Rattle.cr_base.specs.History.{History}
use Rattle.cr_base.specs.Keys.{IsKeyOrNone}
use Rattle.cr_base.specs.Moments.{IsMoment}
use Rattle.cr_base.specs.Drawn.{stamped, grouped, submission}
use Rattle.cr_base.specs.Bounds.{IsForm}
use Rattle.cr_base.specs.Bulk.{IsRowEntry}
use Rattle.cr_base.specs.Deadlines.{IsDeadlineOrNone}
use Rattle.cr_base.specs.TagTexts.{is_tag}
use Rattle.cr_base.specs.Texts.{IsName, IsTitle, IsAbstract, IsContent, IsCommentText}
use Rattle.cr_history.specs.Invariants.{IsRegistered, IsMadeByUser, IsInPhase, IsByChair}
use Rattle.cr_history.specs.Invariants.{RaisesRole, IsOfMember, IsByRight, IsSeated}

-- the texts of the entry are within their bounds, and so are the grades of a form, a bid, which is kept plus 20, and a
-- deadline
abbrev pub HasTexts : Entry → Type 0
HasTexts (Registered user name digest) = IsName name × (length digest ≡ 32)
HasTexts (Submitted paper title abstract) = IsTitle title × IsAbstract abstract
HasTexts (Revised paper title abstract) = IsTitle title × IsAbstract abstract
HasTexts (Uploaded paper version content) = IsContent content
HasTexts (Bid paper value) = value ≤ 40
HasTexts (Reviewed paper ordinal version form) = IsForm form
HasTexts (Responded paper text) = IsCommentText text
HasTexts (Commented paper n ordinal text) = IsCommentText text
HasTexts (Tagged paper tag on) = IsTrue (is_tag tag)
HasTexts (DeadlineSet phase until) = IsDeadlineOrNone until
HasTexts _ = Unit {0}

-- what the rules say of an entry, on the history before it, and the bounds of its texts
pub record IsRuled (H : History) (maker : ℕ) (e : Entry) : Type 0 where
  pub phase : IsInPhase H e
  pub chair : IsByChair H maker e
  pub role : RaisesRole H e
  pub member : IsOfMember H e
  pub right : IsByRight H maker e
  pub seat : IsSeated H maker e
  pub texts : HasTexts e

-- the entry may be all that a command adds: the first user's registration isn't, and no co-author is
abbrev pub StandsAlone : Entry → Type 0
StandsAlone (Registered user name digest) = IsFalse (user == 1)
StandsAlone (Coauthor paper user) = ⊥
StandsAlone _ = Unit {0}

-- the stamp's timestamp and number are within their bounds; its maker's number is, since the maker has registered
pub record IsBoundedStamp (stamp : Stamp) : Type 0 where
  pub moment : IsMoment stamp.at
  pub key : IsKeyOrNone stamp.key

-- under such a stamp, one entry; a submission with those of these users who become co-authors; or the registration of
-- the first user and the role that comes with it
pub data Adds (H : History) : History → Type 0 where
  single : (stamp : Stamp) (e : Entry) → IsBoundedStamp stamp → IsMadeByUser H stamp.maker e → StandsAlone e
      → IsRuled H stamp.maker e → Adds H (grouped stamp (e ∷ []))
  submitted : (stamp : Stamp) (paper : ℕ) (title abstract : List ℕ) (users : List ℕ)
      → IsBoundedStamp stamp → IsMadeByUser H stamp.maker (Submitted paper title abstract)
      → IsRuled H stamp.maker (Submitted paper title abstract) → AllByRecursion (IsRegistered H) users
      → Adds H (grouped stamp (submission stamp.maker paper title abstract users))
  first_user : (stamp : Stamp) (name digest : List ℕ) → IsBoundedStamp stamp → stamp.maker ≡ 1
      → HasTexts (Registered stamp.maker name digest)
      → Adds H (grouped stamp (Registered stamp.maker name digest ∷ Named stamp.maker Chair ∷ []))

-- how a history grows: by all that a command adds, or by the entry of a bulk's row with
-- the mark that another's follows
pub data Grows (H : History) : History → Type 0 where
  adds : (g : History) → Adds H g → Grows H g
  goes_on : (stamp : Stamp) (e : Entry) → IsBoundedStamp stamp → IsMadeByUser H stamp.maker e → IsRowEntry e
      → IsRuled H stamp.maker e → Grows H (stamped stamp true e ∷ [])
