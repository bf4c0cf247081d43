-- SPDX-License-Identifier: Apache-2.0 OR MIT
-- What a user's accepted command adds, the command of whoever has her place adds, with the two in each other's place.
use Rattle.std.proofs.Common.{ℕ, Bool, true, false, cond, ◌≡◌, ◌+◌, List, [], ◌∷◌, ◌++◌, length, refl, sym, ap}
use Rattle.std.proofs.Common.{◌∙◌, Option, Some, None, eqb, ◌||◌, ◌&&◌}
use Rattle.std.specs.Prelude.{map, not, nat_lt, is_some}
use Rattle.std.specs.List.{flat_map}
use Rattle.std.specs.Option.{option_map}
use Rattle.std.proofs.lemmas.Bool.{true≢false, eqb-true, or_left, or_right, not_from_false}
use Rattle.cr_base.specs.declared.command.Command.{Command}
use Rattle.cr_base.specs.declared.command.Command.TheVariants as commands
use Rattle.cr_base.specs.declared.entry.Entry.{Entry}
use Rattle.cr_base.specs.declared.entry.Entry.TheVariants as entries
use Rattle.cr_base.specs.declared.form.Form.{Form}
use Rattle.cr_base.specs.declared.words.Kind.{Kind}
use Rattle.cr_base.specs.declared.words.Phase.TheVariants.{Reviewing, Discussion}
use Rattle.cr_base.specs.declared.words.Role.TheVariants.{Chair}
use Rattle.cr_base.specs.Bounds.{IsBoundedCommand}
use Rattle.cr_base.specs.History.{History}
use Rattle.cr_base.specs.HistoryFacts.{role_of, is_author, ordinal_of, own_comments_of, accounts_of}
use Rattle.cr_base.specs.Lists.{given, is_nothing, listed}
use Rattle.cr_base.specs.Logins.{command_wants_login}
use Rattle.cr_base.specs.Parse.{parse_name}
use Rattle.cr_base.proofs.Small.{eqb-self, and_first, and_second}
use Rattle.cr_history.specs.Invariants.{IsRegistered}
use Rattle.cr_policy.specs.Added.{added, for_user, for_label, next_label, next_form, next_paper, coauthors}
use Rattle.cr_policy.specs.Added.{without, once}
use Rattle.cr_policy.specs.Legal.{Legal}
use Rattle.cr_policy.specs.Sentences.{of_some, user_named, now, in_time, is_live, administers, committee_at_work}
use Rattle.cr_policy.specs.Sentences.{reviews, may_have_it, is_eligible}
use Rattle.cr_permissions.specs.MayDo.{may_do, may_declare, may_take_back, may_assign, may_unassign, may_invite}
use Rattle.cr_permissions.specs.MayDo.{may_uninvite, may_review, may_comment, has_written}
use Rattle.cr_undeduced.specs.Twins.{Twins, placed, twin_entry, twin_maker, twinned, renames, ArePeers}
use Rattle.cr_undeduced.proofs.TwinFacts.{number-twin, accounts-twin, papers-twin, uploads-twin, labels-twin}
use Rattle.cr_undeduced.proofs.TwinFacts.{comments-twin, forms-twin, ordinal-twin}
use Rattle.cr_undeduced.proofs.TwinNames.{HasName, has-name}
use Rattle.cr_undeduced.proofs.TwinSaid.{IsStaying, may-stay, named-stay, OfUser, bid-twin, review-twin, comment-twin}
use Rattle.cr_undeduced.proofs.TwinSaid.{tag-twin, decide-twin, declare-twin, take_back-twin, assign-twin}
use Rattle.cr_undeduced.proofs.TwinSaid.{unassign-twin, invite-twin, uninvite-twin}

-- ---- the other command

-- with this name in place of its own, where one is given
abbrev pub renamed : Option (List ℕ) → Option (List ℕ) → Option (List ℕ)
renamed None name = name
renamed (Some text) name = Some text

abbrev pub rename : Option (List ℕ) → Command → Command
rename text (commands.SetConflict paper name on) = commands.SetConflict paper (renamed text name) on
rename text (commands.Assign paper name kind) = commands.Assign paper (renamed text name) kind
rename text (commands.Unassign paper name) = commands.Unassign paper (renamed text name)
rename text (commands.Invite paper name) = commands.Invite paper (renamed text name)
rename text (commands.Uninvite paper name) = commands.Uninvite paper (renamed text name)
rename text command = command

pub rename-none : (command : Command) → rename None command ≡ command
rename-none (commands.Register name digest) = refl
rename-none command = refl

-- a row can tell the name
abbrev pub IsTellable : Option (List ℕ) → Type 0
IsTellable None = Unit {0}
IsTellable (Some text) = parse_name text ≡ Some text

pub rename-login : (text : Option (List ℕ)) (command : Command)
    → command_wants_login (rename text command) ≡ command_wants_login command
rename-login text (commands.Register name digest) = refl
rename-login text (commands.Tag paper tag true) = refl
rename-login text (commands.Tag paper tag false) = refl
rename-login text command = refl

pub rename-bounded : (text : Option (List ℕ)) (command : Command) → IsBoundedCommand command
    → IsBoundedCommand (rename text command)
rename-bounded text (commands.Register name digest) is = is
rename-bounded text command is = is

module _ (t : Twins) where
  abbrev at_paper : Option ℕ → ℕ → ℕ
  at_paper None u = u
  at_paper (Some p) u = placed t p u

  -- who gives it in her place
  abbrev pub giver : ℕ → Command → ℕ
  giver u (commands.SetConflict paper name on) = at_paper paper u
  giver u (commands.Bid paper value) = at_paper paper u
  giver u (commands.Assign paper name kind) = at_paper paper u
  giver u (commands.Unassign paper name) = at_paper paper u
  giver u (commands.Review paper form) = at_paper paper u
  giver u (commands.Comment paper text) = at_paper paper u
  giver u (commands.Tag paper tag on) = at_paper paper u
  giver u (commands.Decide paper decision) = at_paper paper u
  giver u (commands.Invite paper name) = at_paper paper u
  giver u (commands.Uninvite paper name) = at_paper paper u
  giver u command = u

  -- who makes the first of these in the user's place, else this one
  abbrev pub lead_of : ℕ → ℕ → List Entry → ℕ
  lead_of u w [] = w
  lead_of u w (e ∷ es) = twin_maker t u e

-- where neither of the two wrote the paper, whoever has her place did where she did
pub author-placed : (t : Twins) (A : History) → is_author (Some t.one) t.paper A ≡ false
    → is_author (Some t.other) t.paper A ≡ false → (p v : ℕ)
    → is_author (Some v) p A ≡ is_author (Some (placed t p v)) p A
author-placed t A no_one no_other p v =
    author (eqb p t.paper) refl (eqb v t.one) refl (eqb v t.other) refl
  where
    author : (at : Bool) → eqb p t.paper ≡ at → (one : Bool) → eqb v t.one ≡ one → (other : Bool)
        → eqb v t.other ≡ other
        → is_author (Some v) p A ≡ is_author (Some (cond at (cond one t.other (cond other t.one v)) v)) p A
    author false same one a other b = refl
    author true same true a other b =
        (λ i. is_author (Some (eqb-true v t.one a i))
        (eqb-true p t.paper same i) A)
        ∙ no_one ∙ sym no_other
        ∙ ap (λ q. is_author (Some t.other) q A) (sym (eqb-true p t.paper same))
    author true same false a true b =
        (λ i. is_author (Some (eqb-true v t.other b i))
        (eqb-true p t.paper same i) A)
        ∙ no_other ∙ sym no_one
        ∙ ap (λ q. is_author (Some t.one) q A) (sym (eqb-true p t.paper same))
    author true same false a false b = refl

module _ (t : Twins) (A : History) (legal : Legal A) (no_one : is_author (Some t.one) t.paper A ≡ false)
    (no_other : is_author (Some t.other) t.paper A ≡ false) where
  abbrev B : History
  B = twinned t A

  -- ---- the users

  -- it is she, or they are peers
  abbrev pub Peers : ℕ → ℕ → Type 0
  Peers p v = eqb (placed t p v) v ≡ false → ArePeers t A

  pub of-user : (p v : ℕ) → Peers p v → OfUser t A p v
  of-user p v peers =
      record {
        role = role (eqb p t.paper) (eqb v t.one) refl (eqb v t.other) refl peers;
        author = author-placed t A no_one no_other p v;
      }
    where
      role : (at one : Bool) → eqb v t.one ≡ one → (other : Bool) → eqb v t.other ≡ other
          → (eqb (cond at (cond one t.other (cond other t.one v)) v) v ≡ false → ArePeers t A)
          → role_of (Some v) A ≡ role_of (Some (cond at (cond one t.other (cond other t.one v)) v)) A
      role false one a other b peers = refl
      role true true a other b peers = by (eqb t.other v) refl peers
        where
          by : (same : Bool) → eqb t.other v ≡ same → (same ≡ false → ArePeers t A)
              → role_of (Some v) A ≡ role_of (Some t.other) A
          by true same peers =
              ap (λ w. role_of (Some w) A) (sym (eqb-true t.other v same))
          by false same peers =
              ap (λ w. role_of (Some w) A) (eqb-true v t.one a) ∙ (peers refl).role
      role true false a true b peers = by (eqb t.one v) refl peers
        where
          by : (same : Bool) → eqb t.one v ≡ same → (same ≡ false → ArePeers t A)
              → role_of (Some v) A ≡ role_of (Some t.one) A
          by true same peers =
              ap (λ w. role_of (Some w) A) (sym (eqb-true t.one v same))
          by false same peers =
              ap (λ w. role_of (Some w) A) (eqb-true v t.other b)
              ∙ sym (peers refl).role
      role true false a false b peers = refl

  -- who has her place has registered
  pub placed-registered : (p v : ℕ) → Peers p v → eqb (placed t p v) v ≡ false → IsRegistered A (placed t p v)
  placed-registered p v peers other = by (eqb p t.paper) (eqb v t.one) (eqb v t.other) other
    where
      both : ArePeers t A
      both = peers other

      by : (at one two : Bool) → eqb (cond at (cond one t.other (cond two t.one v)) v) v ≡ false
          → IsRegistered A (cond at (cond one t.other (cond two t.one v)) v)
      by true true two h = both.other
      by true false true h = both.one
      by true false false h = absurd (true≢false (sym (eqb-self v) ∙ h))
      by false one two h = absurd (true≢false (sym (eqb-self v) ∙ h))

  -- a name of hers
  record OtherName (p v : ℕ) (name : Option (List ℕ)) : Type 0 where
    text : Option (List ℕ)
    tellable : IsTellable text
    found : user_named (renamed text name) B ≡ Some (placed t p v)

  other-name : (p v : ℕ) (name : Option (List ℕ)) → user_named name A ≡ Some v → Peers p v → OtherName p v name
  other-name p v name is peers = by (eqb (placed t p v) v) refl
    where
      by : (b : Bool) → eqb (placed t p v) v ≡ b → OtherName p v name
      by true same = record {
        text = None;
        tellable = tt;
        found = sym (named-stay t A name) ∙ is
            ∙ ap (λ w. Some w) (sym (eqb-true (placed t p v) v same));
      }
      by false other =
          let has : HasName A (placed t p v) = has-name A legal (placed t p v) (placed-registered p v peers other) in
          record { text = Some has.name; tellable = has.spelled; found = number-twin t A has.name ∙ has.found }

  -- ---- what is added

  module _ (u : ℕ) where
    -- of the first of these entries: who makes it, and whom it names, are so
    abbrev pub FirstPeers : List Entry → Type 0
    FirstPeers [] = Unit {0}
    FirstPeers (e ∷ es) = (not (eqb (twin_maker t u e) u) || renames t e) ≡ true → ArePeers t A

    pub record CallTwin (at : ℕ) (command : Command) : Type 0 where
      pub text : Option (List ℕ)
      pub tellable : IsTellable text
      pub may : may_do (Some (giver t u command)) at B (rename text command) ≡ true
      pub adds : added (Some (giver t u command)) B (rename text command)
          ≡ map (twin_entry t) (added (Some u) A command)

    -- of a user who is named
    record Named (name : Option (List ℕ)) (says : ℕ → Bool) (adds : Option ℕ → List Entry) (was : List Entry) : Type 0
      where
        text : Option (List ℕ)
        tellable : IsTellable text
        may : of_some (user_named (renamed text name) B) says ≡ true
        adds_it : adds (user_named (renamed text name) B) ≡ map (twin_entry t) was

    record Each (p v : ℕ) (says : ℕ → Bool) (adds : Option ℕ → List Entry) (was : List Entry) : Type 0 where
      peers : Peers p v
      may : says (placed t p v) ≡ true
      adds_it : adds (Some (placed t p v)) ≡ map (twin_entry t) was

    named : (p : ℕ) (name : Option (List ℕ)) (says says' : ℕ → Bool) (addsA addsB : Option ℕ → List Entry)
        → ((v : ℕ) → says v ≡ true → FirstPeers (addsA (Some v)) → Each p v says' addsB (addsA (Some v)))
        → of_some (user_named name A) says ≡ true → FirstPeers (addsA (user_named name A))
        → Named name says' addsB (addsA (user_named name A))
    named p name says says' addsA addsB each is first = by (user_named name A) refl is first
      where
        by : (o : Option ℕ) → user_named name A ≡ o → of_some o says ≡ true → FirstPeers (addsA o)
            → Named name says' addsB (addsA o)
        by None named_is is first = absurd (true≢false (sym is))
        by (Some v) named_is is first =
            let k : Each p v says' addsB (addsA (Some v)) = each v is first in
            let other : OtherName p v name = other-name p v name named_is k.peers in
            record {
              text = other.text;
              tellable = other.tellable;
              may = ap (λ (o : Option ℕ). of_some o says') other.found ∙ k.may;
              adds_it = ap addsB other.found ∙ k.adds_it;
            }

    module _ (at : ℕ) where
      abbrev other : ℕ → ℕ → ℕ
      other p v = placed t p v

      -- how many comments she has then written
      abbrev pub Room : Command → Type 0
      Room (commands.Comment (Some p) text) = nat_lt (own_comments_of (Some (placed t p u)) B) 1000 ≡ true
      Room command = Unit {0}

      by-maker : (p v : ℕ) → ((not (eqb (placed t p u) u) || not (eqb (placed t p v) v)) ≡ true → ArePeers t A) → Peers p u
      by-maker p v first h = first (or_left (not (eqb (placed t p u) u)) (not (eqb (placed t p v) v))
          (not_from_false (eqb (placed t p u) u) h))

      by-named : (p v : ℕ) → ((not (eqb (placed t p u) u) || not (eqb (placed t p v) v)) ≡ true → ArePeers t A) → Peers p v
      by-named p v first h = first (or_right (not (eqb (placed t p u) u)) (not (eqb (placed t p v) v))
          (not_from_false (eqb (placed t p v) v) h))

      by-maker-alone : (p : ℕ) → ((not (eqb (placed t p u) u) || false) ≡ true → ArePeers t A) → Peers p u
      by-maker-alone p first h = first (or_left (not (eqb (placed t p u) u)) false (not_from_false (eqb (placed t p u) u) h))

      -- ---- one user is named

      declared : (p : ℕ) (name : Option (List ℕ)) → of_some (user_named name A) (may_declare u at A p) ≡ true
          → FirstPeers (for_user name A (λ v. entries.Conflict p v true))
          → CallTwin at (commands.SetConflict (Some p) name true)
      declared p name is first =
          let k = named p name (may_declare u at A p) (may_declare (other p u) at B p)
          (λ o. listed (option_map (λ v. entries.Conflict p v true) o))
          (λ o. listed (option_map (λ v. entries.Conflict p v true) o))
          (λ v said first.
          let pv : Peers p v = by-named p v first in
          record {
            peers = pv;
            may = sym (declare-twin t A p u at (of-user p u (by-maker p v first)) v (of-user p v pv)) ∙ said;
            adds_it = refl;
          }) is first in
          record { text = k.text; tellable = k.tellable; may = k.may; adds = k.adds_it }

      taken_back : (p : ℕ) (name : Option (List ℕ)) → of_some (user_named name A) (may_take_back u A p) ≡ true
          → FirstPeers (for_user name A (λ v. entries.Conflict p v false))
          → CallTwin at (commands.SetConflict (Some p) name false)
      taken_back p name is first =
          let k = named p name (may_take_back u A p) (may_take_back (other p u) B p)
          (λ o. listed (option_map (λ v. entries.Conflict p v false) o))
          (λ o. listed (option_map (λ v. entries.Conflict p v false) o))
          (λ v said first.
          let pv : Peers p v = by-named p v first in
          record {
            peers = pv;
            may = sym (take_back-twin t A p u at (of-user p u (by-maker p v first)) v (of-user p v pv)) ∙ said;
            adds_it = refl;
          }) is first in
          record { text = k.text; tellable = k.tellable; may = k.may; adds = k.adds_it }

      assigned : (p : ℕ) (name : Option (List ℕ)) (kind : Kind) → of_some (user_named name A) (may_assign u A p) ≡ true
          → FirstPeers (for_user name A (λ v. entries.Assigned p v kind (next_label p A)))
          → CallTwin at (commands.Assign (Some p) name kind)
      assigned p name kind is first =
          let k = named p name (may_assign u A p) (may_assign (other p u) B p)
          (λ o. listed (option_map (λ v. entries.Assigned p v kind (next_label p A)) o))
          (λ o. listed (option_map (λ v. entries.Assigned p v kind (next_label p B)) o))
          (λ v said first.
          let pv : Peers p v = by-named p v first in
          record {
            peers = pv;
            may = sym (assign-twin t A p u at (of-user p u (by-maker p v first)) v (of-user p v pv)) ∙ said;
            adds_it = λ i. entries.Assigned p (placed t p v) kind (labels-twin t A p i + 1) ∷ [];
          }) is first in
          record { text = k.text; tellable = k.tellable; may = k.may; adds = k.adds_it }

      invited : (p : ℕ) (name : Option (List ℕ)) → of_some (user_named name A) (may_invite u A p) ≡ true
          → FirstPeers (for_user name A (λ v. entries.Invited p v)) → CallTwin at (commands.Invite (Some p) name)
      invited p name is first =
          let k = named p name (may_invite u A p) (may_invite (other p u) B p)
          (λ o. listed (option_map (λ v. entries.Invited p v) o))
          (λ o. listed (option_map (λ v. entries.Invited p v) o))
          (λ v said first.
          let pv : Peers p v = by-named p v first in
          record {
            peers = pv;
            may = sym (invite-twin t A p u at (of-user p u (by-maker p v first)) v (of-user p v pv)) ∙ said;
            adds_it = refl;
          }) is first in
          record { text = k.text; tellable = k.tellable; may = k.may; adds = k.adds_it }

      uninvited : (p : ℕ) (name : Option (List ℕ)) → of_some (user_named name A) (may_uninvite u A p) ≡ true
          → FirstPeers (for_user name A (λ v. entries.Uninvited p v)) → CallTwin at (commands.Uninvite (Some p) name)
      uninvited p name is first =
          let k = named p name (may_uninvite u A p) (may_uninvite (other p u) B p)
          (λ o. listed (option_map (λ v. entries.Uninvited p v) o))
          (λ o. listed (option_map (λ v. entries.Uninvited p v) o))
          (λ v said first.
          let pv : Peers p v = by-named p v first in
          record {
            peers = pv;
            may = sym (uninvite-twin t A p u at (of-user p u (by-maker p v first)) v (of-user p v pv)) ∙ said;
            adds_it = refl;
          }) is first in
          record { text = k.text; tellable = k.tellable; may = k.may; adds = k.adds_it }

      -- who is taken off reviews the paper
      seat-there : (p v : ℕ) → may_unassign u A p v ≡ true → is_some (ordinal_of (Some v) p A) ≡ true
      seat-there p v said =
          and_second (is_live p A && administers u p A && committee_at_work A) (reviews v p A)
          (and_first (is_live p A && administers u p A && committee_at_work A && reviews v p A) (not (has_written v p A))
          said)

      unassigned : (p : ℕ) (name : Option (List ℕ)) → of_some (user_named name A) (may_unassign u A p) ≡ true
          → FirstPeers (flat_map (λ v. for_label v p A (λ o. entries.Unassigned p v o)) (listed (user_named name A)))
          → CallTwin at (commands.Unassign (Some p) name)
      unassigned p name is first =
          let k = named p name (may_unassign u A p) (may_unassign (other p u) B p)
          (λ o. flat_map (λ v. for_label v p A (λ o. entries.Unassigned p v o)) (listed o))
          (λ o. flat_map (λ v. for_label v p B (λ o. entries.Unassigned p v o)) (listed o))
          (λ v said first. seat v said (ordinal_of (Some v) p A) refl (seat-there p v said) first) is first in
          record { text = k.text; tellable = k.tellable; may = k.may; adds = k.adds_it }
        where
          seat : (v : ℕ) → may_unassign u A p v ≡ true → (o : Option ℕ) → ordinal_of (Some v) p A ≡ o → is_some o ≡ true
              → FirstPeers (listed (option_map (λ o. entries.Unassigned p v o) o) ++ [])
              → Each p v (may_unassign (placed t p u) B p)
              (λ o. flat_map (λ v. for_label v p B (λ o. entries.Unassigned p v o)) (listed o))
              (listed (option_map (λ o. entries.Unassigned p v o) o) ++ [])
          seat v said None is there first = absurd (true≢false (sym there))
          seat v said (Some o) is there first =
              let pv : Peers p v = by-named p v first in
              record {
                peers = pv;
                may = sym (unassign-twin t A p u at (of-user p u (by-maker p v first)) v (of-user p v pv)) ∙ said;
                adds_it = ap
                    (λ (o : Option ℕ). listed (option_map (λ o. entries.Unassigned p (placed t p v) o) o) ++ [])
                    (ordinal-twin t A (Some v) p ∙ is);
              }

      -- ---- nobody is named

      reviewed : (p : ℕ) (form : Form) → may_review u at A p ≡ true
          → FirstPeers (for_label u p A (λ o. entries.Reviewed p o (next_form p o A) form))
          → CallTwin at (commands.Review (Some p) form)
      reviewed p form said first = by (ordinal_of (Some u) p A) refl there first
        where
          there : is_some (ordinal_of (Some u) p A) ≡ true
          there =
              and_second (is_live p A && may_have_it u p A) (reviews u p A)
              (and_first (is_live p A && may_have_it u p A && reviews u p A) (now Reviewing A || now Discussion A)
              (and_first (is_live p A && may_have_it u p A && reviews u p A && (now Reviewing A || now Discussion A))
              (in_time at A) said))

          by : (o : Option ℕ) → ordinal_of (Some u) p A ≡ o → is_some o ≡ true
              → FirstPeers (listed (option_map (λ o. entries.Reviewed p o (next_form p o A) form) o))
              → CallTwin at (commands.Review (Some p) form)
          by None is none first = absurd (true≢false (sym none))
          by (Some o) is some first = record {
            text = None;
            tellable = tt;
            may = sym (review-twin t A p u at (of-user p u (by-maker-alone p first))) ∙ said;
            adds = (λ i. listed (option_map (λ o. entries.Reviewed p o (length (forms-twin t A p o i) + 1) form)
                ((ordinal-twin t A (Some u) p ∙ is) i)))
                ∙ ap (λ (o : Option ℕ). map (twin_entry t)
                (listed (option_map (λ o. entries.Reviewed p o (next_form p o A) form) o))) (sym is);
          }

      commented : (p : ℕ) (text : List ℕ) → may_comment u at A p ≡ true
          → ((not (eqb (placed t p u) u) || false) ≡ true → ArePeers t A)
          → nat_lt (own_comments_of (Some (placed t p u)) B) 1000 ≡ true → CallTwin at (commands.Comment (Some p) text)
      commented p text said first room = record {
        text = None;
        tellable = tt;
        may = sym (comment-twin t A p u at (of-user p u (by-maker-alone p first))
            (and_second (is_live p A && is_eligible u p A && now Discussion A && in_time at A)
            (nat_lt (own_comments_of (Some u) A) 1000) said ∙ sym room)) ∙ said;
        adds = λ i. entries.Commented p (comments-twin t A p i + 1) (ordinal-twin t A (Some u) p i) text ∷ [];
      }

      -- ---- commands that stay

      coauthors-stay : (p : ℕ) (users : List ℕ)
          → map (twin_entry t) (map (λ (v : ℕ). entries.Coauthor p v) users) ≡ map (λ (v : ℕ). entries.Coauthor p v) users
      coauthors-stay p [] = refl
      coauthors-stay p (v ∷ users) = ap (λ (es : List Entry). entries.Coauthor p v ∷ es) (coauthors-stay p users)

      user-stays : (name : Option (List ℕ)) (entry : ℕ → Entry) → ((v : ℕ) → twin_entry t (entry v) ≡ entry v)
          → for_user name B entry ≡ map (twin_entry t) (for_user name A entry)
      user-stays name entry same =
          ap (λ (o : Option ℕ). listed (option_map entry o)) (sym (named-stay t A name)) ∙ by (user_named name A)
        where
          by : (o : Option ℕ) → listed (option_map entry o) ≡ map (twin_entry t) (listed (option_map entry o))
          by None = refl
          by (Some v) = ap (λ (e : Entry). e ∷ []) (sym (same v))

      first-chair : (b : Bool) → map (twin_entry t) (given b (entries.Named 1 Chair)) ≡ given b (entries.Named 1 Chair)
      first-chair true = refl
      first-chair false = refl

      pub registered : (name digest : List ℕ)
          → added (Some u) B (commands.Register name digest)
          ≡ map (twin_entry t) (added (Some u) A (commands.Register name digest))
      registered name digest =
          (λ i. entries.Registered (length (accounts-twin t A i) + 1) name digest
          ∷ given (is_nothing (accounts-twin t A i)) (entries.Named 1 Chair))
          ∙ ap (λ (es : List Entry). entries.Registered (length (accounts_of A) + 1) name digest ∷ es)
          (sym (first-chair (is_nothing (accounts_of A))))

      adds-stay : (command : Command) → IsStaying command
          → added (Some u) B command ≡ map (twin_entry t) (added (Some u) A command)
      adds-stay (commands.Register name digest) is = registered name digest
      adds-stay (commands.Name name role) is = user-stays name (λ v. entries.Named v role) (λ v. refl)
      adds-stay (commands.Dismiss name) is = user-stays name (λ v. entries.Dismissed v) (λ v. refl)
      adds-stay (commands.SetMode to) is = refl
      adds-stay (commands.SetPhase to) is = refl
      adds-stay (commands.SetDeadline phase until) is = refl
      adds-stay (commands.Submit title abstract names) is =
          (λ i. entries.Submitted (length (papers-twin t A i) + 1) title abstract
          ∷ map (λ (v : ℕ). entries.Coauthor (length (papers-twin t A i) + 1) v)
          (without u (once (flat_map (λ name. listed (sym (named-stay t A name) i)) names))))
          ∙ ap (λ (es : List Entry). entries.Submitted (next_paper A) title abstract ∷ es)
          (sym (coauthors-stay (next_paper A) (coauthors u names A)))
      adds-stay (commands.Revise None title abstract) is = refl
      adds-stay (commands.Revise (Some p) title abstract) is = refl
      adds-stay (commands.Upload None content) is = refl
      adds-stay (commands.Upload (Some p) content) is =
          λ i. entries.Uploaded p (length (uploads-twin t A p i) + 1) content ∷ []
      adds-stay (commands.Withdraw None) is = refl
      adds-stay (commands.Withdraw (Some p)) is = refl
      adds-stay (commands.Respond None text) is = refl
      adds-stay (commands.Respond (Some p) text) is = refl
      adds-stay command is = absurd is

      giver-stays : (command : Command) → IsStaying command → giver t u command ≡ u
      giver-stays (commands.SetConflict paper name on) is = absurd is
      giver-stays (commands.Bid paper value) is = absurd is
      giver-stays (commands.Assign paper name kind) is = absurd is
      giver-stays (commands.Unassign paper name) is = absurd is
      giver-stays (commands.Review paper form) is = absurd is
      giver-stays (commands.Comment paper text) is = absurd is
      giver-stays (commands.Tag paper tag on) is = absurd is
      giver-stays (commands.Decide paper decision) is = absurd is
      giver-stays (commands.Invite paper name) is = absurd is
      giver-stays (commands.Uninvite paper name) is = absurd is
      giver-stays command is = refl

      stays : (command : Command) → IsStaying command → may_do (Some u) at A command ≡ true → CallTwin at command
      stays command is may = record {
        text = None;
        tellable = tt;
        may = (λ i. may_do (Some (giver-stays command is i)) at B (rename-none command i))
            ∙ sym (may-stay t A u at command is) ∙ may;
        adds = (λ i. added (Some (giver-stays command is i)) B (rename-none command i)) ∙ adds-stay command is;
      }

      -- ---- all of them

      pub call-twin : (command : Command) → may_do (Some u) at A command ≡ true
          → FirstPeers (added (Some u) A command) → Room command → CallTwin at command
      call-twin (commands.SetConflict None name true) is first room = absurd (true≢false (sym is))
      call-twin (commands.SetConflict None name false) is first room = absurd (true≢false (sym is))
      call-twin (commands.SetConflict (Some p) name true) is first room = declared p name is first
      call-twin (commands.SetConflict (Some p) name false) is first room = taken_back p name is first
      call-twin (commands.Bid None value) is first room = absurd (true≢false (sym is))
      call-twin (commands.Bid (Some p) value) is first room = record {
        text = None;
        tellable = tt;
        may = sym (bid-twin t A p u at (of-user p u (by-maker-alone p first))) ∙ is;
        adds = refl;
      }
      call-twin (commands.Assign None name kind) is first room = absurd (true≢false (sym is))
      call-twin (commands.Assign (Some p) name kind) is first room = assigned p name kind is first
      call-twin (commands.Unassign None name) is first room = absurd (true≢false (sym is))
      call-twin (commands.Unassign (Some p) name) is first room = unassigned p name is first
      call-twin (commands.Review None form) is first room = absurd (true≢false (sym is))
      call-twin (commands.Review (Some p) form) is first room = reviewed p form is first
      call-twin (commands.Comment None text) is first room = absurd (true≢false (sym is))
      call-twin (commands.Comment (Some p) text) is first room = commented p text is first room
      call-twin (commands.Tag None tag on) is first room = absurd (true≢false (sym is))
      call-twin (commands.Tag (Some p) tag on) is first room = record {
        text = None;
        tellable = tt;
        may = sym (tag-twin t A p u at (of-user p u (by-maker-alone p first)) tag) ∙ is;
        adds = refl;
      }
      call-twin (commands.Decide None decision) is first room = absurd (true≢false (sym is))
      call-twin (commands.Decide (Some p) decision) is first room = record {
        text = None;
        tellable = tt;
        may = sym (decide-twin t A p u at (of-user p u (by-maker-alone p first))) ∙ is;
        adds = refl;
      }
      call-twin (commands.Invite None name) is first room = absurd (true≢false (sym is))
      call-twin (commands.Invite (Some p) name) is first room = invited p name is first
      call-twin (commands.Uninvite None name) is first room = absurd (true≢false (sym is))
      call-twin (commands.Uninvite (Some p) name) is first room = uninvited p name is first
      call-twin command is first room = stays command tt is

      -- ---- who gives it

      lead-named : (w : ℕ) (entry : ℕ → Entry) → ((v : ℕ) → twin_maker t u (entry v) ≡ w) → (o : Option ℕ)
          → lead_of t u w (listed (option_map entry o)) ≡ w
      lead-named w entry same None = refl
      lead-named w entry same (Some v) = same v

      lead-seated : (p : ℕ) (o : Option ℕ)
          → lead_of t u (placed t p u) (flat_map (λ v. for_label v p A (λ o. entries.Unassigned p v o)) (listed o))
          ≡ placed t p u
      lead-seated p None = refl
      lead-seated p (Some v) = by (ordinal_of (Some v) p A)
        where
          by : (o : Option ℕ)
              → lead_of t u (placed t p u) (listed (option_map (λ o. entries.Unassigned p v o) o) ++ []) ≡ placed t p u
          by None = refl
          by (Some o) = refl

      -- who gives the command in her place is who makes its first entry
      pub lead : (command : Command) → lead_of t u (giver t u command) (added (Some u) A command) ≡ giver t u command
      lead (commands.Name name role) = lead-named u (λ v. entries.Named v role) (λ v. refl) (user_named name A)
      lead (commands.Dismiss name) = lead-named u (λ v. entries.Dismissed v) (λ v. refl) (user_named name A)
      lead (commands.SetConflict None name on) = refl
      lead (commands.SetConflict (Some p) name on) =
          lead-named (placed t p u) (λ v. entries.Conflict p v on) (λ v. refl) (user_named name A)
      lead (commands.Assign None name kind) = refl
      lead (commands.Assign (Some p) name kind) =
          lead-named (placed t p u) (λ v. entries.Assigned p v kind (next_label p A)) (λ v. refl) (user_named name A)
      lead (commands.Unassign None name) = refl
      lead (commands.Unassign (Some p) name) = lead-seated p (user_named name A)
      lead (commands.Invite None name) = refl
      lead (commands.Invite (Some p) name) =
          lead-named (placed t p u) (λ v. entries.Invited p v) (λ v. refl) (user_named name A)
      lead (commands.Uninvite None name) = refl
      lead (commands.Uninvite (Some p) name) =
          lead-named (placed t p u) (λ v. entries.Uninvited p v) (λ v. refl) (user_named name A)
      lead (commands.Review None form) = refl
      lead (commands.Review (Some p) form) =
          lead-named (placed t p u) (λ o. entries.Reviewed p o (next_form p o A) form) (λ v. refl)
          (ordinal_of (Some u) p A)
      lead (commands.Bid None value) = refl
      lead (commands.Bid (Some p) value) = refl
      lead (commands.Comment None text) = refl
      lead (commands.Comment (Some p) text) = refl
      lead (commands.Tag None tag on) = refl
      lead (commands.Tag (Some p) tag on) = refl
      lead (commands.Decide None decision) = refl
      lead (commands.Decide (Some p) decision) = refl
      lead (commands.Revise None title abstract) = refl
      lead (commands.Revise (Some p) title abstract) = refl
      lead (commands.Upload None content) = refl
      lead (commands.Upload (Some p) content) = refl
      lead (commands.Withdraw None) = refl
      lead (commands.Withdraw (Some p)) = refl
      lead (commands.Respond None text) = refl
      lead (commands.Respond (Some p) text) = refl
      lead command = refl

      at-registered : (paper : Option ℕ) → ArePeers t A → eqb (at_paper t paper u) u ≡ false
          → IsRegistered A (at_paper t paper u)
      at-registered None peers other = absurd (true≢false (sym (eqb-self u) ∙ other))
      at-registered (Some p) peers other = placed-registered p u (λ h. peers) other

      pub giver-registered : (command : Command) → ArePeers t A → eqb (giver t u command) u ≡ false
          → IsRegistered A (giver t u command)
      giver-registered (commands.SetConflict paper name on) peers other = at-registered paper peers other
      giver-registered (commands.Bid paper value) peers other = at-registered paper peers other
      giver-registered (commands.Assign paper name kind) peers other = at-registered paper peers other
      giver-registered (commands.Unassign paper name) peers other = at-registered paper peers other
      giver-registered (commands.Review paper form) peers other = at-registered paper peers other
      giver-registered (commands.Comment paper text) peers other = at-registered paper peers other
      giver-registered (commands.Tag paper tag on) peers other = at-registered paper peers other
      giver-registered (commands.Decide paper decision) peers other = at-registered paper peers other
      giver-registered (commands.Invite paper name) peers other = at-registered paper peers other
      giver-registered (commands.Uninvite paper name) peers other = at-registered paper peers other
      giver-registered command peers other = at-registered None peers other
