-- SPDX-License-Identifier: Apache-2.0 OR MIT
-- On a history that is filled in anew, the commands and the rows that were accepted are accepted, filled in too.
use Rattle.std.proofs.Common.{ℕ, Bool, zero, true, false, cond, ◌≡◌, suc, List, [], ◌∷◌, length, refl}
use Rattle.std.proofs.Common.{sym, ap, subst, ◌∙◌, Option, Some, None, Ok}
use Rattle.std.specs.Prelude.{is_some, not, ◌==◌, ◌&&◌}
use Rattle.std.specs.List.{list_any}
use Rattle.std.proofs.lemmas.List.{length-map}
use Rattle.cr_base.specs.declared.command.Call.{Call}
use Rattle.cr_base.specs.declared.command.Command.{Command}
use Rattle.cr_base.specs.declared.command.Command.TheVariants as commands
use Rattle.cr_base.specs.declared.entry.Stamped.{Stamped}
use Rattle.cr_base.specs.declared.retry.RetryKey.{RetryKey}
use Rattle.cr_base.specs.Bounds.{IsBoundedCommand}
use Rattle.cr_base.specs.Calls.{stamp_of, call_of}
use Rattle.cr_base.specs.Drawn.{Drawn, stamped}
use Rattle.cr_base.specs.History.{History, all_told, response_told, Registration}
use Rattle.cr_base.specs.Keys.{kept_under, has_number}
use Rattle.cr_base.specs.Logins.{command_wants_login}
use Rattle.cr_base.specs.Pairs.{users_tied_to}
use Rattle.cr_base.specs.Reviews.{forms_in, written_told}
use Rattle.cr_base.specs.Sources.{facts_of_tables, shown_in_tables}
use Rattle.cr_base.specs.TagTexts.{is_tag}
use Rattle.cr_base.specs.Tables.{Tables, no_tables, tables_of}
use Rattle.cr_history.specs.Invariants.{IsRegistered, Invariants}
use Rattle.cr_history.specs.Laws.{AreTold}
use Rattle.cr_history.proofs.FormAgreement.{forms_tell}
use Rattle.cr_policy.specs.Judge.{judge}
use Rattle.cr_policy.specs.Legal.{CallsAs, IsNewKey, IsAllowed}
use Rattle.cr_undeduced.specs.Payload.{Payload, IsBoundedPayload, own_if, are_for_same}
use Rattle.cr_undeduced.proofs.Fill.{retold, fill, refilled, behind}
use Rattle.cr_policy.specs.View.{view}
use Rattle.cr_policy.proofs.AcceptedLaws.{Kept-told}
use Rattle.cr_policy.proofs.JudgeAgreement.{judge-tables}
use Rattle.cr_undeduced.proofs.RefilledFacts.{standing-refilled, accounts-refilled, papers-refilled}
use Rattle.cr_undeduced.proofs.RefilledFacts.{own_papers-refilled}
use Rattle.cr_undeduced.proofs.RefilledFacts.{ordinal-refilled, own_forms-refilled, own_comments-refilled}
use Rattle.cr_undeduced.proofs.RefilledFacts.{deadline-refilled, withdrawn-refilled, authors-refilled}
use Rattle.cr_undeduced.proofs.RefilledFacts.{conflicts-refilled}
use Rattle.cr_undeduced.proofs.RefilledFacts.{uploads-refilled, labels-refilled, invited-refilled, forms-refilled}
use Rattle.cr_undeduced.proofs.RefilledFacts.{comments-refilled, responses-refilled, registered-refilled}
use Rattle.cr_undeduced.proofs.RefilledFacts.{nothing-many, some-last}
use Rattle.cr_undeduced.proofs.RefilledJudged.{fill_command, HasRoom, SameRead, Filled, judged-filled}

-- ---- what the rules read in the tables

module _ (u : Option ℕ) (xs : ℕ → Payload) (H : History) (kept : Invariants H) (kept' : Invariants (refilled xs H))
  where
    abbrev H' : History
    H' = refilled xs H

    abbrev t : Tables
    t = tables_of H

    abbrev t' : Tables
    t' = tables_of H'

    told : AreTold H
    told = Kept-told H kept

    told' : AreTold H'
    told' = Kept-told H' kept'

    pub same_read : SameRead (facts_of_tables t u) (facts_of_tables t' u) (shown_in_tables t) (shown_in_tables t')
    same_read = record {
      standing = λ paper. sym (told.standing u paper) ∙ sym (standing-refilled xs H u paper) ∙ told'.standing u paper;
      accounts = sym told.accounts ∙ sym (accounts-refilled xs H) ∙ told'.accounts;
      papers = sym told.papers ∙ sym (papers-refilled xs H) ∙ told'.papers;
      own_papers = sym (told.own_papers u) ∙ sym (own_papers-refilled xs H u) ∙ told'.own_papers u;
      own_ordinal = λ p. sym (told.ordinal u p) ∙ sym (ordinal-refilled xs H u p) ∙ told'.ordinal u p;
      own_forms = λ p. sym (ap length ((forms_tell H kept).own u p)) ∙ sym (own_forms-refilled xs H u p)
          ∙ ap length ((forms_tell H' kept').own u p);
      own_comments = sym (told.own_comments u) ∙ sym (own_comments-refilled xs H u) ∙ told'.own_comments u;
      deadline = λ phase. sym (told.deadline phase) ∙ sym (deadline-refilled xs H phase) ∙ told'.deadline phase;
      withdrawn = λ p. sym (told.withdrawn p) ∙ sym (withdrawn-refilled xs H p) ∙ told'.withdrawn p;
      authors = λ p. sym (told.authors p) ∙ sym (authors-refilled xs H p) ∙ told'.authors p;
      conflicts = λ p. ap (users_tied_to p) (sym (conflicts-refilled xs no_tables no_tables H refl));
      uploads = λ p. sym (ap length (told.uploads p)) ∙ sym (uploads-refilled xs H p) ∙ ap length (told'.uploads p);
      ordinal = λ v p. sym (told.ordinal v p) ∙ sym (ordinal-refilled xs H v p) ∙ told'.ordinal v p;
      labels = λ p. sym (told.labels p) ∙ sym (labels-refilled xs H p) ∙ told'.labels p;
      invited = λ v p. sym (told.invited v p) ∙ sym (invited-refilled xs H v p) ∙ told'.invited v p;
      written = λ p o. ap not (nothing-many (forms_in t.reviews p o) (forms_in t'.reviews p o)
          (sym (length-map (forms_in t.reviews p o) written_told) ∙ sym (ap length (told.forms p o))
          ∙ sym (forms-refilled xs H p o) ∙ ap length (told'.forms p o)
          ∙ length-map (forms_in t'.reviews p o) written_told));
      comments = λ p. sym (ap length (told.comments p)) ∙ sym (comments-refilled xs H p) ∙ ap length (told'.comments p);
      response = λ p.
          sym (ap is_some (told.response p)) ∙ some-last (all_told (response_told p) H)
          ∙ ap not (nothing-many (all_told (response_told p) H) (all_told (response_told p) H')
          (sym (responses-refilled xs H p)))
          ∙ sym (some-last (all_told (response_told p) H')) ∙ ap is_some (told'.response p);
    }

-- ---- one command

-- it is accepted, filled in
abbrev pub call_filled : Payload → Call → Call
call_filled x call = call_of call.caller call.at call.key (fill_command x call.command)

module _ (xs : ℕ → Payload) (H : History) (kept : Invariants H) (kept' : Invariants (refilled xs H)) where
  abbrev ys : ℕ → Payload
  ys = behind (length H) xs

  pub call-roomy : (call : Call) (drawn : Drawn)
      → HasRoom (facts_of_tables (tables_of (refilled xs H)) call.caller) (ys 0) call.command
      → judge (view call.caller H) call ≡ Ok drawn
      → Filled (judge (view call.caller (refilled xs H)) (call_filled (ys 0) call)) ys drawn
  call-roomy call drawn roomy accepted =
      let tabled = judge-tables H call kept (Kept-told H kept) (forms_tell H kept) in
      let tabled' =
      judge-tables (refilled xs H) (call_filled (ys 0) call) kept' (Kept-told (refilled xs H) kept')
      (forms_tell (refilled xs H) kept') in
      let filled = judged-filled (facts_of_tables (tables_of H) call.caller)
      (facts_of_tables (tables_of (refilled xs H)) call.caller) (shown_in_tables (tables_of H))
      (shown_in_tables (tables_of (refilled xs H))) (same_read call.caller xs H kept kept') (stamp_of call) ys
      call.command drawn roomy (sym tabled ∙ accepted) in
      record { drawn = filled.drawn; is = tabled' ∙ filled.is; group = filled.group }

-- ---- it may be given

module _ (xs : ℕ → Payload) (H : History) where
  pub is_registered-refilled : (user : ℕ) → IsRegistered H user → IsRegistered (refilled xs H) user
  is_registered-refilled user is =
      ap (list_any (λ (r : Registration). r.user == user)) (registered-refilled xs H) ∙ is

  caller-refilled : (login : Bool) (caller : Option ℕ) → CallsAs H login caller → CallsAs (refilled xs H) login caller
  caller-refilled false caller is = is
  caller-refilled true None is = is
  caller-refilled true (Some user) is = is_registered-refilled user is

tags-login : (on : Bool) (paper : Option ℕ) (tag : List ℕ) → command_wants_login (commands.Tag paper tag on) ≡ true
tags-login true paper tag = refl
tags-login false paper tag = refl

pub same_login : (x : Payload) (command : Command)
    → command_wants_login (fill_command x command) ≡ command_wants_login command
same_login x (commands.Tag paper tag on) =
    tags-login x.on paper (retold tag x.tag) ∙ sym (tags-login on paper tag)
same_login x (commands.Register name digest) = refl
same_login x command = refl

-- behind so many places too
pub behind-bounded : (k : ℕ) (xs : ℕ → Payload) → ((n : ℕ) → IsBoundedPayload (xs n)) → (n : ℕ)
    → IsBoundedPayload (behind k xs n)
behind-bounded zero xs all n = all n
behind-bounded (suc k) xs all n = behind-bounded k (λ n. xs (suc n)) (λ n. all (suc n)) n

pub tag-bounded : (tag other : List ℕ) → is_tag tag ≡ true → is_tag other ≡ true → is_tag (retold tag other) ≡ true
tag-bounded tag other is is' = by (not (are_for_same tag other))
  where
    by : (b : Bool) → is_tag (own_if b tag other) ≡ true
    by true = is
    by false = is'

bounded-filled : (x : Payload) (command : Command) → IsBoundedPayload x → IsBoundedCommand command
    → IsBoundedCommand (fill_command x command)
bounded-filled x (commands.Register name digest) bounded is = (is.0, bounded.digest)
bounded-filled x (commands.Submit title abstract authors) bounded is = (bounded.title, bounded.abstract_, is.2)
bounded-filled x (commands.Revise paper title abstract) bounded is = (bounded.title, bounded.abstract_)
bounded-filled x (commands.Upload paper content) bounded is = bounded.content
bounded-filled x (commands.Bid paper value) bounded is = bounded.value
bounded-filled x (commands.Review paper form) bounded is = bounded.form
bounded-filled x (commands.Respond paper text) bounded is = bounded.text
bounded-filled x (commands.Comment paper text) bounded is = bounded.text
bounded-filled x (commands.Tag paper tag on) bounded is = tag-bounded tag x.tag is bounded.tag
bounded-filled x command bounded is = is

unused-refilled : (user number : ℕ) (xs : ℕ → Payload) (H : History) → kept_under user number H ≡ []
    → kept_under user number (refilled xs H) ≡ []
unused-refilled user number xs [] none = refl
unused-refilled user number xs (e ∷ H) none =
    by (e.stamp.maker == user && has_number number e.stamp.key) none
    (unused-refilled user number (λ n. xs (suc n)) H)
  where
    other : Stamped
    other = stamped e.stamp e.more (fill (xs 0) e.entry)

    by : (b : Bool) → cond b (e ∷ kept_under user number H) (kept_under user number H) ≡ []
        → (kept_under user number H ≡ [] → kept_under user number (refilled (λ n. xs (suc n)) H) ≡ [])
        → cond b (stamped e.stamp e.more (fill (xs 0) e.entry) ∷ kept_under user number (refilled (λ n. xs (suc n)) H))
        (kept_under user number (refilled (λ n. xs (suc n)) H)) ≡ []
    by true none rest = cc
    by false none rest = rest none

pub new_key-refilled : (xs : ℕ → Payload) (H : History) (caller : Option ℕ) (key : Option RetryKey)
    → IsNewKey H caller key → IsNewKey (refilled xs H) caller key
new_key-refilled xs H caller None is = tt
new_key-refilled xs H None (Some key) is = absurd is
new_key-refilled xs H (Some user) (Some key) is = unused-refilled user key.number xs H is

pub allowed-refilled : (xs : ℕ → Payload) (x : Payload) (H : History) (call : Call) → IsBoundedPayload x
    → IsAllowed H call → IsAllowed (refilled xs H) (call_filled x call)
allowed-refilled xs x H call bounded allowed = record {
  given = record {
    caller = subst (λ login. CallsAs (refilled xs H) login call.caller) (sym (same_login x call.command))
        (caller-refilled xs H (command_wants_login call.command) call.caller allowed.given.caller);
    bounded = bounded-filled x call.command bounded allowed.given.bounded;
    moment = allowed.given.moment;
    key = allowed.given.key;
  };
  unused = new_key-refilled xs H call.caller call.key allowed.unused;
}
