-- SPDX-License-Identifier: Apache-2.0 OR MIT
-- What an accepted command of a user's is answered is what the first entry that it adds tells, and so it stays, since
-- names stay; and a bulk is answered how many entries it adds.
use Rattle.std.proofs.Common.{ℕ, Bool, true, false, cond, ◌≡◌, ◌+◌, List, [], ◌∷◌, ◌++◌, suc, length, eqb, refl, sym}
use Rattle.std.proofs.Common.{ap, subst, ◌∙◌, Option, Some, None, Ok}
use Rattle.std.specs.Prelude.{map, unwrap_or, find}
use Rattle.std.specs.List.{flat_map}
use Rattle.std.specs.Option.{option_map, option_or}
use Rattle.std.proofs.lemmas.Grind.{flat_map-append}
use Rattle.std.proofs.lemmas.List.Folds.{find-append}
use Rattle.cr_base.specs.declared.bulk.BulkRow.{BulkRow}
use Rattle.cr_base.specs.declared.command.Command.{Command}
use Rattle.cr_base.specs.declared.command.Command.TheVariants as commands
use Rattle.cr_base.specs.declared.entry.Entry.{Entry}
use Rattle.cr_base.specs.declared.entry.Entry.TheVariants as entries
use Rattle.cr_base.specs.declared.entry.Stamp.{Stamp}
use Rattle.cr_base.specs.declared.entry.Stamped.{Stamped}
use Rattle.cr_base.specs.declared.reply.AccountLine.{AccountLine}
use Rattle.cr_base.specs.declared.reply.Receipt.{Receipt}
use Rattle.cr_base.specs.declared.reply.Receipt.TheVariants as receipts
use Rattle.cr_base.specs.declared.words.Role.{Role}
use Rattle.cr_base.specs.declared.words.Role.TheVariants.{Account}
use Rattle.cr_base.specs.Calls.{BulkCall}
use Rattle.cr_base.specs.Drawn.{Drawn, grouped, receipt_of}
use Rattle.cr_base.specs.History.{History, Registration, all_told, registration_told}
use Rattle.cr_base.specs.HistoryFacts.{role_of, accounts_of, number_of, ordinal_of}
use Rattle.cr_base.specs.Lists.{listed}
use Rattle.cr_base.specs.Sources.{name_told_by}
use Rattle.cr_base.specs.Sources.{name_in}
use Rattle.cr_base.specs.Tables.{tables_of}
use Rattle.cr_base.proofs.ListLaws.{name_in-lines_of}
use Rattle.cr_base.proofs.NameLaws.{name-found}
use Rattle.cr_policy.specs.Added.{added, answered, next_user, next_paper, next_version, next_label, next_form}
use Rattle.cr_policy.specs.Added.{next_comment}
use Rattle.cr_policy.specs.Judge.{judge_bulk}
use Rattle.cr_policy.specs.Legal.{IsBulkGiven, Legal}
use Rattle.cr_policy.specs.Sentences.{user_named}
use Rattle.cr_policy.specs.View.{view}
use Rattle.cr_policy.proofs.BulkLaws.{seen, IsReady, next, next-ready, AreAccepted, rows-accepted, no_rows, bulk-draws}
use Rattle.cr_policy.proofs.LegalLaws.{Legal-told, legal_invariants, given-bounded}

-- ---- names

-- whoever the entry gives a role, or takes it from, has this name
abbrev pub NamesAs : History → Entry → List ℕ → Type 0
NamesAs H (entries.Named user role) name = name_in (accounts_of H) user ≡ Some name
NamesAs H (entries.Dismissed user) name = name_in (accounts_of H) user ≡ Some name
NamesAs H e name = name ≡ []

pub names-told : (H : History) (e : Entry) (name : List ℕ) → NamesAs H e name → name_told_by (accounts_of H) e ≡ name
names-told H (entries.Named user role) name is = ap (λ (o : Option (List ℕ)). unwrap_or o []) is
names-told H (entries.Dismissed user) name is = ap (λ (o : Option (List ℕ)). unwrap_or o []) is
names-told H e name is = sym is

-- the name of a registration among others, whatever the roles
name-registered : (role : ℕ → Role) (rs : List Registration) (user : ℕ)
    → name_in (map (λ (r : Registration). record { user = r.user; name = r.name; role = role r.user }) rs) user
    ≡ option_map (λ (r : Registration). r.name) (find (λ (r : Registration). eqb r.user user) rs)
name-registered role [] user = refl
name-registered role (r ∷ rs) user = by (eqb r.user user) (name-registered role rs user)
  where
    lines : List AccountLine
    lines = map (λ (r : Registration). record { user = r.user; name = r.name; role = role r.user }) rs

    by : (b : Bool) → name_in lines user ≡ option_map (λ (r : Registration). r.name)
        (find (λ (r : Registration). eqb r.user user) rs)
        → option_map (λ (a : AccountLine). a.name)
        (cond b (Some (record { user = r.user; name = r.name; role = role r.user }))
        (find (λ (a : AccountLine). eqb a.user user) lines))
        ≡ option_map (λ (r : Registration). r.name) (cond b (Some r) (find (λ (r : Registration). eqb r.user user) rs))
    by true rest = refl
    by false rest = rest

-- a name that a user has stays, whatever comes behind
name-stays : (H group : History) (user : ℕ) (name : List ℕ) → name_in (accounts_of H) user ≡ Some name
    → name_in (accounts_of (H ++ group)) user ≡ Some name
name-stays H group user name is =
    name-registered (λ v. role_of (Some v) (H ++ group)) (all_told registration_told (H ++ group)) user
    ∙ ap (λ (rs : List Registration). option_map (λ (r : Registration). r.name) (find of_user rs))
    (flat_map-append (λ (e : Stamped). registration_told e.entry) H group)
    ∙ ap (option_map (λ (r : Registration). r.name))
    (find-append of_user (all_told registration_told H) (all_told registration_told group))
    ∙ by (find of_user (all_told registration_told H))
    (sym (name-registered (λ v. role_of (Some v) H) (all_told registration_told H) user) ∙ is)
  where
    of_user : Registration → Bool
    of_user r = eqb r.user user

    by : (found : Option Registration) → option_map (λ (r : Registration). r.name) found ≡ Some name
        → option_map (λ (r : Registration). r.name) (option_or found (find of_user (all_told registration_told group)))
        ≡ Some name
    by None is = absurd (cc (is))
    by (Some r) is = is

pub names-stay : (H group : History) (e : Entry) (name : List ℕ) → NamesAs H e name → NamesAs (H ++ group) e name
names-stay H group (entries.Named user role) name is = name-stays H group user name is
names-stay H group (entries.Dismissed user) name is = name-stays H group user name is
names-stay H group e name is = is

-- who is found by a name has it, on a legal history
pub found-named : (H : History) (legal : Legal H) (name : List ℕ) (user : ℕ) → number_of name H ≡ Some user
    → name_in (accounts_of H) user ≡ Some name
found-named H legal name user is =
    let told = Legal-told H legal in
    ap (λ (lines : List AccountLine). name_in lines user) told.accounts
    ∙ name_in-lines_of (tables_of H).accounts user
    ∙ name-found (tables_of H).accounts name user (sym (told.number name) ∙ is)

-- ---- receipts

-- the receipt is what the entry tells, with the name of whoever it gives a role
pub record FirstTells (H : History) (e : Entry) (receipt : Receipt) : Type 0 where
  pub name : List ℕ
  pub named : NamesAs H e name
  pub told : receipt ≡ receipt_of name e

-- so tells the first of these entries, where this is told
abbrev FirstOf : History → List Entry → List Receipt → Type 0
FirstOf H [] told = Unit {0}
FirstOf H (e ∷ es) told = (receipt : Receipt) → receipt ∷ [] ≡ told → FirstTells H e receipt

-- of one that gives nobody a role
only : (H : History) (e : Entry) → NamesAs H e [] → (receipt : Receipt) → receipt ∷ [] ≡ receipt_of [] e ∷ []
    → FirstTells H e receipt
only H e named receipt same = let is : receipt ≡ receipt_of [] e =
    cc (same) in record { name = []; named = named; told = is }

-- of one on a user who may be there
of-user : (H : History) (o : Option ℕ) (entry : ℕ → Entry) (told : Receipt) → ((user : ℕ) → NamesAs H (entry user) [])
    → ((user : ℕ) → told ≡ receipt_of [] (entry user))
    → FirstOf H (listed (option_map entry o)) (told ∷ [])
of-user H None entry told named is = tt
of-user H (Some user) entry told named is =
    λ receipt same. only H (entry user) (named user) receipt (same ∙ ap (λ (r : Receipt). r ∷ []) (is user))

module _ (u : ℕ) (H : History) (legal : Legal H) where
  named-first : (name : List ℕ) (role : Role) (o : Option ℕ) → number_of name H ≡ o
      → FirstOf H (listed (option_map (λ v. entries.Named v role) o)) (receipts.Named name role ∷ [])
  named-first name role None is = tt
  named-first name role (Some user) is = λ receipt same.
      let told : receipt ≡ receipts.Named name role = cc (same) in
      record { name = name; named = found-named H legal name user is; told = told }

  dismissed-first : (name : List ℕ) (o : Option ℕ) → number_of name H ≡ o
      → FirstOf H (listed (option_map (λ v. entries.Dismissed v) o)) (receipts.Named name Account ∷ [])
  dismissed-first name None is = tt
  dismissed-first name (Some user) is = λ receipt same.
      let told : receipt ≡ receipts.Named name Account = cc (same) in
      record { name = name; named = found-named H legal name user is; told = told }

  first-of : (command : Command) → FirstOf H (added (Some u) H command) (answered (Some u) H command)
  first-of (commands.Register name digest) = only H (entries.Registered (next_user H) name digest) refl
  first-of (commands.Name None role) = tt
  first-of (commands.Name (Some name) role) = named-first name role (number_of name H) refl
  first-of (commands.Dismiss None) = tt
  first-of (commands.Dismiss (Some name)) = dismissed-first name (number_of name H) refl
  first-of (commands.Invite (Some p) name) =
      of-user H (user_named name H) (λ v. entries.Invited p v) (receipts.Changed p) (λ v. refl) (λ v. refl)
  first-of (commands.Invite None name) = tt
  first-of (commands.Uninvite (Some p) name) =
      of-user H (user_named name H) (λ v. entries.Uninvited p v) (receipts.Changed p) (λ v. refl) (λ v. refl)
  first-of (commands.Uninvite None name) = tt
  first-of (commands.SetMode to) = only H (entries.ModeSet to) refl
  first-of (commands.SetPhase to) = only H (entries.PhaseSet to) refl
  first-of (commands.SetDeadline phase until) = only H (entries.DeadlineSet phase until) refl
  first-of (commands.Submit title abstract names) = only H (entries.Submitted (next_paper H) title abstract) refl
  first-of (commands.Revise (Some p) title abstract) = only H (entries.Revised p title abstract) refl
  first-of (commands.Revise None title abstract) = tt
  first-of (commands.Upload (Some p) content) = only H (entries.Uploaded p (next_version p H) content) refl
  first-of (commands.Upload None content) = tt
  first-of (commands.Withdraw (Some p)) = only H (entries.Withdrawn p) refl
  first-of (commands.Withdraw None) = tt
  first-of (commands.SetConflict (Some p) name on) =
      of-user H (user_named name H) (λ v. entries.Conflict p v on) (receipts.Changed p) (λ v. refl) (λ v. refl)
  first-of (commands.SetConflict None name on) = tt
  first-of (commands.Bid (Some p) value) = only H (entries.Bid p value) refl
  first-of (commands.Bid None value) = tt
  first-of (commands.Assign (Some p) name kind) =
      of-user H (user_named name H) (λ v. entries.Assigned p v kind (next_label p H)) (receipts.Label (next_label p H))
      (λ v. refl) (λ v. refl)
  first-of (commands.Assign None name kind) = tt
  first-of (commands.Unassign (Some p) name) = seated (user_named name H)
    where
      under : (v : ℕ) (o : Option ℕ) → FirstOf H (listed (option_map (λ o. entries.Unassigned p v o) o) ++ [])
          (receipts.Changed p ∷ [])
      under v None = tt
      under v (Some o) = only H (entries.Unassigned p v o) refl

      seated : (user : Option ℕ)
          → FirstOf H (flat_map (λ v. listed (option_map (λ o. entries.Unassigned p v o) (ordinal_of (Some v) p H)))
          (listed user)) (receipts.Changed p ∷ [])
      seated None = tt
      seated (Some v) = under v (ordinal_of (Some v) p H)
  first-of (commands.Unassign None name) = tt
  first-of (commands.Review (Some p) form) = by (ordinal_of (Some u) p H)
    where
      by : (o : Option ℕ) → FirstOf H (listed (option_map (λ o. entries.Reviewed p o (next_form p o H) form) o))
          (listed (option_map (λ o. receipts.Version (next_form p o H)) o))
      by None = tt
      by (Some o) = only H (entries.Reviewed p o (next_form p o H) form) refl
  first-of (commands.Review None form) = tt
  first-of (commands.Respond (Some p) text) = only H (entries.Responded p text) refl
  first-of (commands.Respond None text) = tt
  first-of (commands.Comment (Some p) text) =
      only H (entries.Commented p (next_comment p H) (ordinal_of (Some u) p H) text) refl
  first-of (commands.Comment None text) = tt
  first-of (commands.Tag (Some p) tag on) = only H (entries.Tagged p tag on) refl
  first-of (commands.Tag None tag on) = tt
  first-of (commands.Decide (Some p) decision) = only H (entries.Decided p decision) refl
  first-of (commands.Decide None decision) = tt

  -- what an accepted command is answered, the first of the entries that it adds tells
  pub first-tells : (command : Command) (e : Entry) (es : List Entry) (receipt : Receipt)
      → added (Some u) H command ≡ e ∷ es
      → receipt ∷ [] ≡ answered (Some u) H command → FirstTells H e receipt
  first-tells command e es receipt is told =
      subst (λ (xs : List Entry). FirstOf H xs (answered (Some u) H command)) is (first-of command) receipt told

-- ---- bulks

length-grouped : (stamp : Stamp) (es : List Entry) → length (grouped stamp es) ≡ length es
length-grouped stamp [] = refl
length-grouped stamp (e ∷ []) = refl
length-grouped stamp (e ∷ next ∷ es) = ap suc (length-grouped stamp (next ∷ es))

-- rows that are accepted draw an entry each
rows-counted : (stamp : Stamp) (rows : List BulkRow) (n : ℕ) (H : History) (es : List Entry) → IsReady stamp H
    → seen stamp H n rows ≡ Ok es → length es ≡ length rows
rows-counted stamp [] n H es ready accepted = ap (λ (xs : List Entry). length xs) (sym (no_rows stamp es accepted))
rows-counted stamp (row ∷ rows) n H es ready accepted =
    let all : AreAccepted stamp H n row rows es = rows-accepted stamp H n row rows es ready accepted in
    ap (λ (xs : List Entry). length xs) all.all
    ∙ ap suc
    (rows-counted stamp rows (n + 1) (next stamp H all.drawn ready all.first true) all.more
    (next-ready stamp H all.drawn ready all.first true) (all.rest true))

-- so a bulk is answered how many entries it adds
pub bulk-tells : (H : History) (bulk : BulkCall) (drawn : Drawn) → Legal H → IsBulkGiven H bulk
    → judge_bulk (view (Some bulk.stamp.maker) H) bulk ≡ Ok drawn → drawn.receipt ≡ receipts.Rows (length drawn.group)
bulk-tells H bulk drawn legal given accepted =
    let draws = bulk-draws bulk.stamp H bulk.rows drawn accepted in
    let ready : IsReady bulk.stamp H =
    record { kept = legal_invariants H legal; registered = given.caller; bounds = given-bounded H bulk given } in
    let count : length (grouped bulk.stamp draws.entries) ≡ length bulk.rows =
    length-grouped bulk.stamp draws.entries ∙ rows-counted bulk.stamp bulk.rows 1 H draws.entries ready
    draws.accepted in
    subst (λ (d : Drawn). d.receipt ≡ receipts.Rows (length d.group)) draws.drawn_is (ap receipts.Rows (sym count))
