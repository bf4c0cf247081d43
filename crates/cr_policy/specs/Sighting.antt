-- SPDX-License-Identifier: Apache-2.0 OR MIT
-- What one entry shows: its kind and its paper, and of its other parts those that are shown.
use Rattle.std.specs.Prelude.{ℕ, Bool, true, false, List, Option, Some, None, unwrap_or, if◌then◌else◌}
use Rattle.cr_base.specs.declared.entry.EntryKind.{EntryKind}
use Rattle.cr_base.specs.declared.entry.EntryKind.TheVariants as kinds
use Rattle.cr_base.specs.declared.entry.Entry.{Entry}
use Rattle.cr_base.specs.declared.entry.Entry.TheVariants.{Registered, Named, PhaseSet, ModeSet, Submitted}
use Rattle.cr_base.specs.declared.entry.Entry.TheVariants.{Coauthor, Revised, Uploaded, Withdrawn, Conflict}
use Rattle.cr_base.specs.declared.entry.Entry.TheVariants.{Bid, Assigned, Unassigned, Reviewed}
use Rattle.cr_base.specs.declared.entry.Entry.TheVariants.{Commented, Tagged, Decided, DeadlineSet}
use Rattle.cr_base.specs.declared.entry.Entry.TheVariants.{Dismissed, Invited, Uninvited, Responded}
use Rattle.cr_base.specs.declared.entry.Stamp.{Stamp}
use Rattle.cr_base.specs.declared.entry.Stamped.{Stamped}
use Rattle.cr_base.specs.declared.retry.RetryKey.{RetryKey}
use Rattle.cr_base.specs.declared.words.Decision.{Decision}
use Rattle.cr_base.specs.declared.words.Kind.{Kind}
use Rattle.cr_base.specs.declared.words.Phase.{Phase}
use Rattle.cr_base.specs.declared.words.Mode.{Mode}
use Rattle.cr_base.specs.declared.words.Role.{Role}
use Rattle.cr_policy.specs.Part as part
use Rattle.cr_policy.specs.Part.{Part}

-- the kind is always there, and so is the paper of an entry that has one; `mine` marks the reader's own entry; every
-- other part may be hidden
pub record Sighting : Type 0 where
  pub kind : EntryKind
  pub mine : Bool
  pub paper : Option ℕ
  pub user : Option ℕ
  pub name : Option (List ℕ)
  pub digest : Option (List ℕ)
  pub role : Option Role
  pub phase : Option Phase
  pub mode : Option Mode
  pub by : Option ℕ
  pub title : Option (List ℕ)
  pub abstract : Option (List ℕ)
  pub version : Option ℕ
  pub content : Option (List ℕ)
  pub on : Option Bool
  pub value : Option ℕ
  pub review_kind : Option Kind
  pub ordinal : Option ℕ
  pub score : Option ℕ
  pub confidence : Option ℕ
  pub to_authors : Option (List ℕ)
  pub to_pc : Option (List ℕ)
  pub done : Option Bool
  pub n : Option ℕ
  pub text : Option (List ℕ)
  pub tag : Option (List ℕ)
  pub decision : Option Decision
  pub outcome : Option Bool
  pub accepted : Option Bool
  pub at : Option ℕ
  pub until : Option (Option ℕ)
  pub key : Option (Option RetryKey)

-- ---- an entry with all its parts

-- an entry of this kind without a part
abbrev pub blank : EntryKind → Sighting
blank kind = record {
  kind = kind;
  mine = false;
  paper = None;
  user = None;
  name = None;
  digest = None;
  role = None;
  phase = None;
  mode = None;
  by = None;
  title = None;
  abstract = None;
  version = None;
  content = None;
  on = None;
  value = None;
  review_kind = None;
  ordinal = None;
  score = None;
  confidence = None;
  to_authors = None;
  to_pc = None;
  done = None;
  n = None;
  text = None;
  tag = None;
  decision = None;
  outcome = None;
  accepted = None;
  at = None;
  until = None;
  key = None;
}

-- an entry of this kind with what every entry has: its timestamp, and its command's number or that there is none
abbrev pub under : Stamp → EntryKind → Sighting
under stamp kind = record (blank kind) { at = Some stamp.at; key = Some stamp.key }

-- The other parts that each kind of entry has; `by` is who made it, the ordinal of a comment without a label is 0, and
-- `until` is a phase's deadline, or that it has none any more.
-- Every form has its mark (`done`), and every decision both of its own (`outcome`, `accepted`), whatever it
-- decides: a mark tells by being shown, and when that is, the rows of the trigger table say. Of a decision to
-- reject, or of one that isn't the last on its paper, none of them shows `accepted`.
abbrev pub entire : Stamp → Entry → Sighting
entire stamp (Registered user name digest) =
    record (under stamp kinds.Registered) { user = Some user; name = Some name; digest = Some digest }
entire stamp (Named user role) = record (under stamp kinds.Named) { user = Some user; role = Some role }
entire stamp (PhaseSet phase) = record (under stamp kinds.PhaseSet) { phase = Some phase }
entire stamp (ModeSet mode) = record (under stamp kinds.ModeSet) { mode = Some mode }
entire stamp (Submitted paper title abstract) =
    record (under stamp kinds.Submitted) {
      paper = Some paper;
      by = Some stamp.maker;
      title = Some title;
      abstract = Some abstract;
    }
entire stamp (Coauthor paper user) = record (under stamp kinds.Coauthor) { paper = Some paper; user = Some user }
entire stamp (Revised paper title abstract) =
    record (under stamp kinds.Revised) { paper = Some paper; title = Some title; abstract = Some abstract }
entire stamp (Uploaded paper version content) =
    record (under stamp kinds.Uploaded) { paper = Some paper; version = Some version; content = Some content }
entire stamp (Withdrawn paper) = record (under stamp kinds.Withdrawn) { paper = Some paper }
entire stamp (Conflict paper user on) =
    record (under stamp kinds.Conflict) { paper = Some paper; user = Some user; on = Some on }
entire stamp (Bid paper value) =
    record (under stamp kinds.Bid) { paper = Some paper; by = Some stamp.maker; value = Some value }
entire stamp (Assigned paper user review_kind ordinal) = record (under stamp kinds.Assigned) {
  paper = Some paper;
  user = Some user;
  review_kind = Some review_kind;
  ordinal = Some ordinal;
}
entire stamp (Unassigned paper user ordinal) =
    record (under stamp kinds.Unassigned) { paper = Some paper; user = Some user; ordinal = Some ordinal }
entire stamp (Reviewed paper ordinal version form) = record (under stamp kinds.Reviewed) {
  paper = Some paper;
  version = Some version;
  ordinal = Some ordinal;
  score = Some form.score;
  confidence = Some form.confidence;
  to_authors = Some form.to_authors;
  to_pc = Some form.to_pc;
  done = Some true;
}
entire stamp (Commented paper n ordinal text) =
    record (under stamp kinds.Commented) {
      paper = Some paper;
      by = Some stamp.maker;
      n = Some n;
      ordinal = Some (unwrap_or ordinal 0);
      text = Some text;
    }
entire stamp (Tagged paper tag on) =
    record (under stamp kinds.Tagged) { paper = Some paper; tag = Some tag; on = Some on }
entire stamp (Decided paper decision) =
    record (under stamp kinds.Decided) {
      paper = Some paper;
      decision = Some decision;
      outcome = Some true;
      accepted = Some true;
    }
entire stamp (DeadlineSet phase until) =
    record (under stamp kinds.DeadlineSet) { phase = Some phase; until = Some until }
entire stamp (Dismissed user) = record (under stamp kinds.Dismissed) { user = Some user }
entire stamp (Invited paper user) = record (under stamp kinds.Invited) { paper = Some paper; user = Some user }
entire stamp (Uninvited paper user) = record (under stamp kinds.Uninvited) { paper = Some paper; user = Some user }
entire stamp (Responded paper text) = record (under stamp kinds.Responded) { paper = Some paper; text = Some text }

-- ---- the parts that are shown

-- the part if it is shown, else `None`
abbrev pub where_shown : {A : Type 0} → Bool → Option A → Option A
where_shown shown None = None
where_shown shown (Some x) = if shown then Some x else None

-- the sighting with only those parts that `shows` picks
abbrev pub masked : (Part → Bool) → Bool → Sighting → Sighting
masked shows mine s = record {
  kind = s.kind;
  mine = mine;
  paper = s.paper;
  user = where_shown (shows part.user) s.user;
  name = where_shown (shows part.name) s.name;
  digest = where_shown (shows part.digest) s.digest;
  role = where_shown (shows part.role) s.role;
  phase = where_shown (shows part.phase) s.phase;
  mode = where_shown (shows part.mode) s.mode;
  by = where_shown (shows part.by) s.by;
  title = where_shown (shows part.title) s.title;
  abstract = where_shown (shows part.abstract) s.abstract;
  version = where_shown (shows part.version) s.version;
  content = where_shown (shows part.content) s.content;
  on = where_shown (shows part.on) s.on;
  value = where_shown (shows part.value) s.value;
  review_kind = where_shown (shows part.review_kind) s.review_kind;
  ordinal = where_shown (shows part.ordinal) s.ordinal;
  score = where_shown (shows part.score) s.score;
  confidence = where_shown (shows part.confidence) s.confidence;
  to_authors = where_shown (shows part.to_authors) s.to_authors;
  to_pc = where_shown (shows part.to_pc) s.to_pc;
  done = where_shown (shows part.done) s.done;
  n = where_shown (shows part.n) s.n;
  text = where_shown (shows part.text) s.text;
  tag = where_shown (shows part.tag) s.tag;
  decision = where_shown (shows part.decision) s.decision;
  outcome = where_shown (shows part.outcome) s.outcome;
  accepted = where_shown (shows part.accepted) s.accepted;
  at = where_shown (shows part.at) s.at;
  until = where_shown (shows part.until) s.until;
  key = where_shown (shows part.key) s.key;
}

-- the entry with only those parts that `shows` picks
abbrev pub sighting : (Part → Bool) → Bool → Stamped → Sighting
sighting shows mine e = masked shows mine (entire e.stamp e.entry)
