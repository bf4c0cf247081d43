-- SPDX-License-Identifier: Apache-2.0 OR MIT
-- A second statement of what an accepted command adds to the history, and of its receipt: a line for each command, in
-- terms of the command and of the facts of the history before it.
use Rattle.std.specs.Prelude.{ℕ, Bool, true, false, not, ◌+◌, ◌==◌, ◌≡◌, List, [], ◌∷◌, length, map, filter, Option}
use Rattle.std.specs.Prelude.{Some, None, Ok}
use Rattle.std.specs.List.{AllByRecursion, flat_map}
use Rattle.std.specs.Option.{option_map}
use Rattle.cr_base.specs.declared.command.Call.{Call}
use Rattle.cr_base.specs.declared.command.Command.{Command}
use Rattle.cr_base.specs.declared.command.Command.TheVariants as commands
use Rattle.cr_base.specs.declared.entry.Entry.{Entry}
use Rattle.cr_base.specs.declared.entry.Entry.TheVariants.{Registered, Named, PhaseSet, ModeSet, Submitted}
use Rattle.cr_base.specs.declared.entry.Entry.TheVariants.{Coauthor, Revised, Uploaded, Withdrawn, Conflict}
use Rattle.cr_base.specs.declared.entry.Entry.TheVariants.{Bid, Assigned, Unassigned, Reviewed, Commented, Tagged}
use Rattle.cr_base.specs.declared.entry.Entry.TheVariants.{Decided, DeadlineSet}
use Rattle.cr_base.specs.declared.entry.Entry.TheVariants.{Dismissed, Invited, Uninvited, Responded}
use Rattle.cr_base.specs.declared.entry.Stamp.{Stamp}
use Rattle.cr_base.specs.declared.entry.Stamped.{Stamped}
use Rattle.cr_base.specs.declared.reply.Receipt.{Receipt}
use Rattle.cr_base.specs.declared.reply.Receipt.TheVariants as receipts
use Rattle.cr_base.specs.declared.words.Role.TheVariants.{Account, Chair}
use Rattle.cr_base.specs.Calls.{stamp_of}
use Rattle.cr_base.specs.Drawn.{Drawn}
use Rattle.cr_base.specs.History.{History}
use Rattle.cr_base.specs.HistoryFacts.{accounts_of, papers_of, uploads_of, ordinal_of, seats_of, forms_of, comments_of}
use Rattle.cr_base.specs.Lists.{listed, given, is_nothing}
use Rattle.cr_policy.specs.Judge.{judge}
use Rattle.cr_policy.specs.Legal.{Legal, IsCaller}
use Rattle.cr_policy.specs.Sentences.{user_named}
use Rattle.cr_policy.specs.View.{view}

-- ---- numbers that are given next

-- the number of the next user: they are numbered from 1, as they register
abbrev pub next_user : History → ℕ
next_user H = length (accounts_of H) + 1

-- the number of the next paper: they are numbered from 1, as they are submitted
abbrev pub next_paper : History → ℕ
next_paper H = length (papers_of H) + 1

-- the number of the next version of the paper's content: they are numbered from 1, as they are uploaded
abbrev pub next_version : ℕ → History → ℕ
next_version p H = length (uploads_of p H) + 1

-- the ordinal of the paper's next label: they are numbered from 1, as reviewers are assigned
abbrev pub next_label : ℕ → History → ℕ
next_label p H = length (seats_of p H) + 1

-- the number of the next form under the paper's label of this ordinal: they are numbered from 1, as they are written
abbrev pub next_form : ℕ → ℕ → History → ℕ
next_form p o H = length (forms_of p o H) + 1

-- the number of the next comment on the paper: they are numbered from 1, as they are written
abbrev pub next_comment : ℕ → History → ℕ
next_comment p H = length (comments_of p H) + 1

-- ---- co-authors

-- the users without this one
abbrev pub without : ℕ → List ℕ → List ℕ
without u users = filter (λ v. not (v == u)) users

-- each of the users once, at their first place
abbrev pub once : List ℕ → List ℕ
once [] = []
once (u ∷ users) = u ∷ without u (once users)

-- the users named, each once, in order, without the submitter `u`
abbrev pub coauthors : ℕ → List (Option (List ℕ)) → History → List ℕ
coauthors u names H = without u (once (flat_map (λ name. listed (user_named name H)) names))

-- ---- the entries

-- the entry for the user named; none if there is no such user
abbrev pub for_user : Option (List ℕ) → History → (ℕ → Entry) → List Entry
for_user name H entry = listed (option_map entry (user_named name H))

-- the entry for the ordinal under which the user reviews the paper; none if they don't
abbrev pub for_label : ℕ → ℕ → History → (ℕ → Entry) → List Entry
for_label u p H entry = listed (option_map entry (ordinal_of (Some u) p H))

-- the entry for the user named and the ordinal under which they review the paper; none if there is no such user or they
-- don't
abbrev pub for_seated : Option (List ℕ) → ℕ → History → (ℕ → ℕ → Entry) → List Entry
for_seated name p H entry = flat_map (λ v. for_label v p H (entry v)) (listed (user_named name H))

-- the entries that a command adds. A registration adds itself, and the first one that its user becomes a chair. Each
-- other command is a user's, and adds the one entry that says what it does; a submission adds one more for each
-- co-author.
abbrev pub added : Option ℕ → History → Command → List Entry
added caller H (commands.Register name digest) =
    Registered (next_user H) name digest ∷ given (is_nothing (accounts_of H)) (Named 1 Chair)
added (Some u) H (commands.Name name role) = for_user name H (λ v. Named v role)
added (Some u) H (commands.Dismiss name) = for_user name H (λ v. Dismissed v)
added (Some u) H (commands.SetMode to) = ModeSet to ∷ []
added (Some u) H (commands.SetPhase to) = PhaseSet to ∷ []
added (Some u) H (commands.SetDeadline phase until) = DeadlineSet phase until ∷ []
added (Some u) H (commands.Submit title abstract names) =
    Submitted (next_paper H) title abstract ∷ map (λ (v : ℕ). Coauthor (next_paper H) v) (coauthors u names H)
added (Some u) H (commands.Revise (Some p) title abstract) = Revised p title abstract ∷ []
added (Some u) H (commands.Upload (Some p) content) = Uploaded p (next_version p H) content ∷ []
added (Some u) H (commands.Withdraw (Some p)) = Withdrawn p ∷ []
added (Some u) H (commands.SetConflict (Some p) name on) = for_user name H (λ v. Conflict p v on)
added (Some u) H (commands.Bid (Some p) value) = Bid p value ∷ []
added (Some u) H (commands.Assign (Some p) name kind) = for_user name H (λ v. Assigned p v kind (next_label p H))
added (Some u) H (commands.Unassign (Some p) name) = for_seated name p H (λ v o. Unassigned p v o)
added (Some u) H (commands.Invite (Some p) name) = for_user name H (λ v. Invited p v)
added (Some u) H (commands.Uninvite (Some p) name) = for_user name H (λ v. Uninvited p v)
added (Some u) H (commands.Review (Some p) form) = for_label u p H (λ o. Reviewed p o (next_form p o H) form)
added (Some u) H (commands.Respond (Some p) text) = Responded p text ∷ []
added (Some u) H (commands.Comment (Some p) text) = Commented p (next_comment p H) (ordinal_of (Some u) p H) text ∷ []
added (Some u) H (commands.Tag (Some p) tag on) = Tagged p tag on ∷ []
added (Some u) H (commands.Decide (Some p) decision) = Decided p decision ∷ []
added _ H _ = []

-- the actor of the entries that a command adds: of a registration the new user, else the caller
abbrev pub made_by : Option ℕ → History → Command → ℕ
made_by caller H (commands.Register name digest) = next_user H
made_by (Some u) H _ = u
made_by None H _ = 0

-- the stamp of the entries that the call adds: its own, with the actor that `made_by` gives
abbrev pub stamp_added : History → Call → Stamp
stamp_added H call = record (stamp_of call) { maker = made_by call.caller H call.command }

-- ---- the answer

-- the receipt of a command, as a list of at most one: of what is numbered anew its number, of what is changed its
-- paper, of what is set the value
abbrev pub answered : Option ℕ → History → Command → List Receipt
answered caller H (commands.Register name digest) = receipts.User (next_user H) ∷ []
answered caller H (commands.Name (Some name) role) = receipts.Named name role ∷ []
answered caller H (commands.Dismiss (Some name)) = receipts.Named name Account ∷ []
answered caller H (commands.SetMode to) = receipts.Mode to ∷ []
answered caller H (commands.SetPhase to) = receipts.Phase to ∷ []
answered caller H (commands.SetDeadline phase until) = receipts.Deadline phase until ∷ []
answered caller H (commands.Submit title abstract names) = receipts.Paper (next_paper H) ∷ []
answered caller H (commands.Revise (Some p) title abstract) = receipts.Changed p ∷ []
answered caller H (commands.Upload (Some p) content) = receipts.Version (next_version p H) ∷ []
answered caller H (commands.Withdraw (Some p)) = receipts.Changed p ∷ []
answered caller H (commands.SetConflict (Some p) name on) = receipts.Changed p ∷ []
answered caller H (commands.Bid (Some p) value) = receipts.Bid value ∷ []
answered caller H (commands.Assign (Some p) name kind) = receipts.Label (next_label p H) ∷ []
answered caller H (commands.Unassign (Some p) name) = receipts.Changed p ∷ []
answered caller H (commands.Invite (Some p) name) = receipts.Changed p ∷ []
answered caller H (commands.Uninvite (Some p) name) = receipts.Changed p ∷ []
answered (Some u) H (commands.Review (Some p) form) =
    listed (option_map (λ o. receipts.Version (next_form p o H)) (ordinal_of (Some u) p H))
answered caller H (commands.Respond (Some p) text) = receipts.Paper p ∷ []
answered caller H (commands.Comment (Some p) text) = receipts.Comment (next_comment p H) ∷ []
answered caller H (commands.Tag (Some p) tag on) = receipts.Changed p ∷ []
answered caller H (commands.Decide (Some p) decision) = receipts.Changed p ∷ []
answered _ H _ = []

-- ---- the law

-- the marks of the entries of one command: each but the last has the mark that another follows
abbrev pub marks : List Entry → List Bool
marks [] = []
marks (e ∷ []) = false ∷ []
marks (e ∷ next ∷ es) = true ∷ marks (next ∷ es)

-- what is drawn is these entries, all under this stamp, each but the last with the mark that another follows, and this
-- receipt
pub record IsAdded (stamp : Stamp) (es : List Entry) (told : List Receipt) (drawn : Drawn) : Type 0 where
  pub entries : map (λ (e : Stamped). e.entry) drawn.group ≡ es
  pub stamps : AllByRecursion (λ (e : Stamped). e.stamp ≡ stamp) drawn.group
  pub marks : map (λ (e : Stamped). e.more) drawn.group ≡ marks es
  pub receipt : drawn.receipt ∷ [] ≡ told

-- AddsAsSaid: on a legal history an accepted command adds the entries of `added`, under the stamp of `stamp_added`, and
-- its receipt is that of `answered`
abbrev pub AddsAsSaid : Type 0
AddsAsSaid =
    (H : History) (call : Call) (drawn : Drawn) → Legal H → IsCaller H call.caller call.command
    → judge (view call.caller H) call ≡ Ok drawn
    → IsAdded (stamp_added H call) (added call.caller H call.command) (answered call.caller H call.command) drawn
