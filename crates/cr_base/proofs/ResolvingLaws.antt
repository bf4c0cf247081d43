-- SPDX-License-Identifier: Apache-2.0 OR MIT
-- What resolves a command: who is found by a name is there, and the command that an entry tells is the one whose deed
-- begins with such an entry.
use Rattle.std.proofs.Common.{ℕ, Bool, true, false, ◌≡◌, List, [], ◌∷◌, eqb, refl, sym, ap, ◌∙◌}
use Rattle.std.proofs.Common.{subst, Option, Some, None, is_some, cond, IfSome}
use Rattle.std.specs.Prelude.{find, unwrap_or}
use Rattle.std.specs.Option.{option_map}
use Rattle.std.specs.Str.{bytes_eq}
use Rattle.std.proofs.lemmas.Bool.{true≢false, eq-eqb}
use Rattle.cr_base.specs.declared.entry.Entry.{Entry}
use Rattle.cr_base.specs.declared.entry.Entry.TheVariants as entries
use Rattle.cr_base.specs.declared.reply.AccountLine.{AccountLine}
use Rattle.cr_base.specs.declared.resolved.ResolvedCommand.{ResolvedCommand}
use Rattle.cr_base.specs.declared.resolved.ResolvedCommand.TheVariants as resolved
use Rattle.cr_base.specs.Deeds.{deed}
use Rattle.cr_base.specs.Resolving.{Numbers, command_of, drawn_numbers}
use Rattle.cr_base.specs.Sources.{Facts, Shown, number_in, is_there}
use Rattle.cr_base.proofs.CheckLaws.{NoneBroken}

-- ---- users found by their names

-- a line with a user's number is found where one of the lines has it
finds : (lines : List AccountLine) (name : List ℕ) (user : ℕ)
    → option_map (λ (a : AccountLine). a.user) (find (λ (a : AccountLine). bytes_eq a.name name) lines) ≡ Some user
    → is_some (find (λ (a : AccountLine). eqb a.user user) lines) ≡ true
finds [] name user found = cc
finds (a ∷ lines) name user found = by (bytes_eq a.name name) (eqb a.user user) refl found (finds lines name user)
  where
    by : (named numbered : Bool) → eqb a.user user ≡ numbered
        → option_map (λ (a : AccountLine). a.user)
        (cond named (Some a) (find (λ (a : AccountLine). bytes_eq a.name name) lines)) ≡ Some user
        → (option_map (λ (a : AccountLine). a.user)
        (find (λ (a : AccountLine). bytes_eq a.name name) lines) ≡ Some user
        → is_some (find (λ (a : AccountLine). eqb a.user user) lines) ≡ true)
        → is_some (cond numbered (Some a) (find (λ (a : AccountLine). eqb a.user user) lines)) ≡ true
    by named true is found rest = refl
    by false false is found rest = rest found
    by true false is found rest =
        let same : a.user ≡ user = cc in
        absurd (true≢false (sym (eq-eqb a.user user same) ∙ is))

-- who is found by a name is there
pub found-there : (lines : List AccountLine) (name : List ℕ) (user : ℕ) → number_in lines name ≡ Some user
    → is_there lines user ≡ true
found-there lines name user found = has (find (λ (a : AccountLine). eqb a.user user) lines) (finds lines name user found)
  where
    has : (line : Option AccountLine) → is_some line ≡ true
        → is_some (option_map (λ (a : AccountLine). a.role) line) ≡ true
    has None h = absurd (true≢false (sym h))
    has (Some line) h = refl

-- ---- the command of an entry

-- all commands but a registration and a submission add one entry
abbrev pub AddsOne : ResolvedCommand → Type 0
AddsOne (resolved.Register name digest) = ⊥
AddsOne (resolved.Submit title abstract authors) = ⊥
AddsOne command = Unit {0}

-- so all entries but a registration's and a submission's are all that their command adds
abbrev pub IsLone : Entry → Type 0
IsLone (entries.Registered user name digest) = ⊥
IsLone (entries.Submitted paper title abstract) = ⊥
IsLone e = Unit {0}

pub lone-told : (e : Entry) (command : ResolvedCommand) → command_of e ≡ Some command → AddsOne command → IsLone e
lone-told e command is one = by e (subst (λ (o : Option ResolvedCommand). IfSome o AddsOne) (sym is) one)
  where
    by : (e : Entry) → IfSome (command_of e) AddsOne → IsLone e
    by (entries.Registered user name digest) h = h
    by (entries.Submitted paper title abstract) h = h
    by e h = tt

pub lone-one : (e : Entry) (command : ResolvedCommand) → command_of e ≡ Some command → IsLone e → AddsOne command
lone-one e command is lone = subst (λ (o : Option ResolvedCommand). IfSome o AddsOne) is (by e lone)
  where
    by : (e : Entry) → IsLone e → IfSome (command_of e) AddsOne
    by (entries.Registered user name digest) h = h
    by (entries.Submitted paper title abstract) h = h
    by e h = tt

-- the deed of the command that an entry tells begins with an entry that tells the same command
module _ (facts : Facts) (shown : Shown) (maker : ℕ) (late : Bool) where
  abbrev Tells : ResolvedCommand → Type 0
  Tells command = command_of (deed facts shown maker late command).first ≡ Some command

  -- by the command that is told
  told : (e : Entry) → IfSome (command_of e) Tells
  told (entries.Registered user name digest) = refl
  told (entries.Named user role) = refl
  told (entries.PhaseSet phase) = refl
  told (entries.ModeSet mode) = refl
  told (entries.Submitted paper title abstract) = refl
  told (entries.Coauthor paper user) = tt
  told (entries.Revised paper title abstract) = refl
  told (entries.Uploaded paper version content) = refl
  told (entries.Withdrawn paper) = refl
  told (entries.Conflict paper user on) = refl
  told (entries.Bid paper value) = refl
  told (entries.Assigned paper user kind ordinal) = refl
  told (entries.Unassigned paper user ordinal) = refl
  told (entries.Reviewed paper ordinal version form) = refl
  told (entries.Commented paper n ordinal text) = refl
  told (entries.Tagged paper tag on) = refl
  told (entries.Decided paper decision) = refl
  told (entries.DeadlineSet phase until) = refl
  told (entries.Dismissed user) = refl
  told (entries.Invited paper user) = refl
  told (entries.Uninvited paper user) = refl
  told (entries.Responded paper text) = refl

  pub deed-tells : (e : Entry) (command : ResolvedCommand) → command_of e ≡ Some command → Tells command
  deed-tells e command is = subst (λ (o : Option ResolvedCommand). IfSome o Tells) is (told e)

  -- ---- one entry

  -- it is its maker's, and tells the command
  pub record AddsIt (command : ResolvedCommand) : Type 0 where
    pub maker_is : (deed facts shown maker late command).maker ≡ maker
    pub alone : (deed facts shown maker late command).behind ≡ []
    pub tells : Tells command

  -- where no rule is broken
  pub adds-it : (command : ResolvedCommand) → AddsOne command → NoneBroken (deed facts shown maker late command).checks
      → AddsIt command
  adds-it (resolved.Register name digest) one none = absurd one
  adds-it (resolved.Submit title abstract authors) one none = absurd one
  adds-it (resolved.Revise None title abstract) one none = absurd (true≢false none.0)
  adds-it (resolved.Upload None content) one none = absurd (true≢false none.0)
  adds-it (resolved.Withdraw None) one none = absurd (true≢false none.0)
  adds-it (resolved.Bid None value) one none = absurd (true≢false none.0)
  adds-it (resolved.Review None form) one none = absurd (true≢false none.0)
  adds-it (resolved.Respond None text) one none = absurd (true≢false none.0)
  adds-it (resolved.Comment None text) one none = absurd (true≢false none.0)
  adds-it (resolved.Tag None tag on) one none = absurd (true≢false none.0)
  adds-it (resolved.Decide None decision) one none = absurd (true≢false none.0)
  adds-it (resolved.Name None role) one none = absurd (true≢false none.0)
  adds-it (resolved.Dismiss None) one none = absurd (true≢false none.0)
  adds-it (resolved.SetConflict None user on) one none = absurd (true≢false none.0)
  adds-it (resolved.SetConflict (Some p) None on) one none = absurd (true≢false none.1.0)
  adds-it (resolved.Assign None user kind) one none = absurd (true≢false none.0)
  adds-it (resolved.Assign (Some p) None kind) one none = absurd (true≢false none.1.0)
  adds-it (resolved.Unassign None user) one none = absurd (true≢false none.0)
  adds-it (resolved.Unassign (Some p) None) one none = absurd (true≢false none.1.0)
  adds-it (resolved.Invite None user) one none = absurd (true≢false none.0)
  adds-it (resolved.Invite (Some p) None) one none = absurd (true≢false none.1.0)
  adds-it (resolved.Uninvite None user) one none = absurd (true≢false none.0)
  adds-it (resolved.Uninvite (Some p) None) one none = absurd (true≢false none.1.0)
  adds-it command one none = record { maker_is = refl; alone = refl; tells = refl }

-- ---- the numbers drawn

-- the entry of a command with these numbers
abbrev entry_with : ResolvedCommand → Numbers → Entry
entry_with (resolved.Register name digest) n = entries.Registered n.number name digest
entry_with (resolved.SetPhase phase) n = entries.PhaseSet phase
entry_with (resolved.Submit title abstract authors) n = entries.Submitted n.number title abstract
entry_with (resolved.Revise paper title abstract) n = entries.Revised (unwrap_or paper 0) title abstract
entry_with (resolved.Upload paper content) n = entries.Uploaded (unwrap_or paper 0) n.number content
entry_with (resolved.Withdraw paper) n = entries.Withdrawn (unwrap_or paper 0)
entry_with (resolved.Name user role) n = entries.Named (unwrap_or user 0) role
entry_with (resolved.SetMode mode) n = entries.ModeSet mode
entry_with (resolved.SetConflict paper user on) n = entries.Conflict (unwrap_or paper 0) (unwrap_or user 0) on
entry_with (resolved.Bid paper value) n = entries.Bid (unwrap_or paper 0) value
entry_with (resolved.Assign paper user kind) n = entries.Assigned (unwrap_or paper 0) (unwrap_or user 0) kind n.number
entry_with (resolved.Unassign paper user) n = entries.Unassigned (unwrap_or paper 0) (unwrap_or user 0) n.number
entry_with (resolved.Review paper form) n = entries.Reviewed (unwrap_or paper 0) (unwrap_or n.ordinal 0) n.number form
entry_with (resolved.Respond paper text) n = entries.Responded (unwrap_or paper 0) text
entry_with (resolved.Comment paper text) n = entries.Commented (unwrap_or paper 0) n.number n.ordinal text
entry_with (resolved.Tag paper tag on) n = entries.Tagged (unwrap_or paper 0) tag on
entry_with (resolved.Decide paper decision) n = entries.Decided (unwrap_or paper 0) decision
entry_with (resolved.SetDeadline phase until) n = entries.DeadlineSet phase until
entry_with (resolved.Dismiss user) n = entries.Dismissed (unwrap_or user 0)
entry_with (resolved.Invite paper user) n = entries.Invited (unwrap_or paper 0) (unwrap_or user 0)
entry_with (resolved.Uninvite paper user) n = entries.Uninvited (unwrap_or paper 0) (unwrap_or user 0)

-- entries of one kind that tell the same command and have the same numbers drawn are the same
pub same-by-numbers : (e e' : Entry) (command : ResolvedCommand) → command_of e ≡ Some command
    → command_of e' ≡ Some command → drawn_numbers e ≡ drawn_numbers e' → e ≡ e'
same-by-numbers e e' command is is' same =
    rebuilt e command is ∙ ap (entry_with command) same ∙ sym (rebuilt e' command is')
  where
    rebuilt : (e : Entry) (command : ResolvedCommand) → command_of e ≡ Some command
        → e ≡ entry_with command (drawn_numbers e)
    rebuilt e command is = subst (λ (o : Option ResolvedCommand). IfSome o (λ c. e ≡ entry_with c (drawn_numbers e))) is
        (each e)
      where
        each : (e : Entry) → IfSome (command_of e) (λ c. e ≡ entry_with c (drawn_numbers e))
        each (entries.Registered user name digest) = refl
        each (entries.Named user role) = refl
        each (entries.PhaseSet phase) = refl
        each (entries.ModeSet mode) = refl
        each (entries.Submitted paper title abstract) = refl
        each (entries.Coauthor paper user) = tt
        each (entries.Revised paper title abstract) = refl
        each (entries.Uploaded paper version content) = refl
        each (entries.Withdrawn paper) = refl
        each (entries.Conflict paper user on) = refl
        each (entries.Bid paper value) = refl
        each (entries.Assigned paper user kind ordinal) = refl
        each (entries.Unassigned paper user ordinal) = refl
        each (entries.Reviewed paper ordinal version form) = refl
        each (entries.Commented paper n ordinal text) = refl
        each (entries.Tagged paper tag on) = refl
        each (entries.Decided paper decision) = refl
        each (entries.DeadlineSet phase until) = refl
        each (entries.Dismissed user) = refl
        each (entries.Invited paper user) = refl
        each (entries.Uninvited paper user) = refl
        each (entries.Responded paper text) = refl
