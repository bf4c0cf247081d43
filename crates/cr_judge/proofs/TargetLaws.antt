-- SPDX-License-Identifier: Apache-2.0 OR MIT
-- The users whom a command names, by reads of the tables.
use Rattle.std.proofs.Common.{ℕ, Bool, true, false, cond, ◌≡◌, ◌+◌, List, [], ◌∷◌, refl, sym, ap, ◌∙◌, Option, Some}
use Rattle.std.proofs.Common.{None, Result, Ok, Err}
use Rattle.std.specs.Prelude.{IsSome, is_some, is_none, not, unwrap_or}
use Rattle.std.specs.List.{list_all}
use Rattle.std.specs.Option.{option_map, option_and_then}
use Rattle.std.proofs.lemmas.Bool.{true≢false}
use Rattle.cr_base.specs.declared.entry.Account.{Account}
use Rattle.cr_base.specs.declared.entry.Entry.{Entry}
use Rattle.cr_base.specs.declared.entry.Entry.TheVariants.{Dismissed, Named, Submitted}
use Rattle.cr_base.specs.declared.entry.Stamp.{Stamp}
use Rattle.cr_base.specs.declared.reply.Receipt.TheVariants as receipts
use Rattle.cr_base.specs.declared.reply.Rule.{Rule}
use Rattle.cr_base.specs.declared.resolved.ResolvedCommand.TheVariants.{Dismiss, Name, Submit}
use Rattle.cr_base.specs.declared.standing.Standing.{Standing}
use Rattle.cr_base.specs.declared.words.Role.{Role}
use Rattle.cr_base.specs.Accounts.{role_at, account_at, chair_count, lines_of}
use Rattle.cr_base.specs.Calls.{resolved_by}
use Rattle.cr_base.specs.Checks.{judged, of_role, submit_checks, name_checks, dismiss_checks}
use Rattle.cr_base.specs.Deeds.{is_missing}
use Rattle.cr_base.specs.Drawn.{Drawn, besides, grouped, submission}
use Rattle.cr_base.specs.Judging.{resolved_by_role}
use Rattle.cr_base.specs.Papers.{PapersState, paper_count, own_count}
use Rattle.cr_base.specs.Sources.{is_there, name_told_by, standing_at}
use Rattle.cr_base.specs.Stage.{is_late_in}
use Rattle.cr_base.specs.Tables.{Tables}
use Rattle.cr_base.proofs.CheckLaws.{judged-Ok}
use Rattle.cr_base.proofs.ListLaws.{length-numbers_from, name_in-lines_of, role_among-lines_of}
use Rattle.cr_view.proofs.JudgeLaws.{made_of, judged-made}
use Rattle.cr_judge.specs.declared.effect.Rest.TheVariants as rests
use Rattle.cr_judge.specs.Effects.{alone, drawn_by}
use Rattle.cr_judge.specs.Targets.{coauthors_of}

-- ---- a submission

-- by the number of papers and by the users told, where all of them are there
module _ (t : Tables) (stamp : Stamp) (title abstract : List ℕ) (authors found : Option (List ℕ))
    (told : found ≡ option_and_then (coauthors_of t stamp.maker) authors) where
  abbrev missing : Bool
  missing = is_missing (lines_of t.accounts) authors

  -- what is drawn of the paper of this number
  abbrev make : ℕ → Drawn
  make paper = record {
    group = grouped stamp (submission stamp.maker paper title abstract (unwrap_or authors []));
    receipt = receipts.Paper paper;
  }

  abbrev due : Result Drawn Rule
  due = resolved_by_role t (resolved_by stamp (Submit title abstract authors))

  all-found : not (is_some found) ≡ missing
  all-found = ap (λ (o : Option (List ℕ)). not (is_some o)) told ∙ of authors
    where
      by : (us : List ℕ) (b : Bool) → not (is_some (cond b (Some (besides (stamp.maker ∷ []) us)) None)) ≡ not b
      by us true = refl
      by us false = refl

      of : (o : Option (List ℕ)) → not (is_some (option_and_then (coauthors_of t stamp.maker) o))
          ≡ is_missing (lines_of t.accounts) o
      of None = refl
      of (Some us) = by us (list_all (is_there (lines_of t.accounts)) us)

  -- where no rule is broken, all are there
  pub are-found : (by : Standing) (count own : ℕ) (late : Bool) (x given : ℕ)
      → ◌≡◌ {A = Result ℕ Rule} (Ok given) (judged (submit_checks (not (is_some found)) by count own late) x)
      → IsSome found
  are-found by count own late x given h =
      of found (judged-Ok (submit_checks (not (is_some found)) by count own late) x given (sym h)).0.0
    where
      of : (o : Option (List ℕ)) → not (is_some o) ≡ false → IsSome o
      of None none = absurd (true≢false none)
      of (Some us) none = refl

  submission-made : (by : Standing) → by ≡ standing_at t (Some stamp.maker) None → (seen : PapersState)
      → seen ≡ t.papers
      → (late : Bool) → late ≡ is_late_in t.stage stamp.at → (r : Result ℕ Rule)
      → r ≡ judged (submit_checks (not (is_some found)) by (paper_count seen) (own_count seen (Some stamp.maker)) late)
      (paper_count seen + 1)
      → made_of make r ≡ due
  submission-made by stands seen same late when r judges =
      judged-made (submit_checks (not (is_some found)) by (paper_count seen) (own_count seen (Some stamp.maker)) late)
      make (paper_count seen + 1) r judges
      ∙ ap
      (λ (x : PapersState). judged (submit_checks (not (is_some found)) by (paper_count x)
      (own_count x (Some stamp.maker)) late) (make (paper_count x + 1))) same
      ∙
      (λ i. judged (submit_checks (all-found i) (stands i) (paper_count t.papers)
      (own_count t.papers (Some stamp.maker)) (when i)) (make (paper_count t.papers + 1)))
      ∙ ap
      (λ (n : ℕ). judged (submit_checks missing (standing_at t (Some stamp.maker) None) n
      (own_count t.papers (Some stamp.maker)) (is_late_in t.stage stamp.at)) (make (n + 1)))
      (sym (length-numbers_from 1 t.papers.papers))

  pub submission-refused : (by : Standing) → by ≡ standing_at t (Some stamp.maker) None → (seen : PapersState)
      → seen ≡ t.papers
      → (late : Bool) → late ≡ is_late_in t.stage stamp.at → (rule : Rule)
      → ◌≡◌ {A = Result ℕ Rule} (Err rule)
      (judged (submit_checks (not (is_some found)) by (paper_count seen) (own_count seen (Some stamp.maker)) late)
      (paper_count seen + 1))
      → ◌≡◌ {A = Result Drawn Rule} (Err rule) due
  submission-refused by stands seen same late when rule judges =
      submission-made by stands seen same late when (Err rule) judges

  pub submission-drawn : (by : Standing) → by ≡ standing_at t (Some stamp.maker) None → (seen : PapersState)
      → seen ≡ t.papers
      → (late : Bool) → late ≡ is_late_in t.stage stamp.at → (paper : ℕ)
      → ◌≡◌ {A = Result ℕ Rule} (Ok paper)
      (judged (submit_checks (not (is_some found)) by (paper_count seen) (own_count seen (Some stamp.maker)) late)
      (paper_count seen + 1))
      → (given : List ℕ) → found ≡ Some given
      → ◌≡◌ {A = Result Drawn Rule}
      (Ok
      (drawn_by t.accounts
      (record { stamp = stamp; first = Submitted paper title abstract; rest = rests.Coauthors paper given }))) due
  submission-drawn by stands seen same late when paper judges given is =
      ap
      (λ (us : List ℕ).
      Ok
      (drawn_by t.accounts
      (record { stamp = stamp; first = Submitted paper title abstract; rest = rests.Coauthors paper us })))
      (sym (of authors (sym told ∙ is)))
      ∙ submission-made by stands seen same late when (Ok paper) judges
    where
      among : (us : List ℕ) (b : Bool) → cond b (Some (besides (stamp.maker ∷ []) us)) None ≡ Some given
          → besides (stamp.maker ∷ []) us ≡ given
      among us true e = cc (e)
      among us false e = cc

      of : (o : Option (List ℕ)) → option_and_then (coauthors_of t stamp.maker) o ≡ Some given
          → besides (stamp.maker ∷ []) (unwrap_or o []) ≡ given
      of None e = cc
      of (Some us) e = among us (list_all (is_there (lines_of t.accounts)) us) e

-- ---- a naming

-- the name of a user to whom an entry gives a role, or takes it from
pub name-for : (accounts : List Account) (user : ℕ) (told : Option (List ℕ)) (entry : Entry) (role : Role)
    → told ≡ option_map (λ (a : Account). a.name) (account_at accounts user) → entry ≡ Named user role
    → unwrap_or told [] ≡ name_told_by (lines_of accounts) entry
name-for accounts user told entry role is names =
    ap (λ (o : Option (List ℕ)). unwrap_or o []) (is ∙ sym (name_in-lines_of accounts user))
    ∙ ap (name_told_by (lines_of accounts)) (sym names)

module _ (t : Tables) (stamp : Stamp) (role : Role) (user : Option ℕ)
    (by : Standing) (stands : by ≡ standing_at t (Some stamp.maker) None) (seen : List Account)
    (same : seen ≡ t.accounts)
    (kept : Result (Unit {0}) Rule) (judges : kept
    ≡ judged (name_checks by (option_map of_role (option_and_then (role_at seen) user)) role) tt) where
  -- where no rule is broken, she is there
  pub is-named : kept ≡ Ok tt → IsSome user
  is-named is =
      of user (judged-Ok (name_checks by (option_map of_role (option_and_then (role_at seen) user)) role) tt tt
      (sym judges ∙ is)).0.0
    where
      of : (o : Option ℕ) → is_none (option_map of_role (option_and_then (role_at seen) o)) ≡ false → IsSome o
      of None none = absurd (true≢false none)
      of (Some v) none = refl

  abbrev named : Option ℕ → Drawn
  named v = drawn_by t.accounts (alone stamp (Named (unwrap_or v 0) role))

  pub naming-made : made_of (λ (done : Unit {0}). named user) kept
      ≡ resolved_by_role t (resolved_by stamp (Name user role))
  naming-made =
      judged-made (name_checks by (option_map of_role (option_and_then (role_at seen) user)) role)
      (λ (done : Unit {0}). named user) tt kept judges
      ∙ (λ i. judged (name_checks (stands i) (option_map of_role (option_and_then (role_at (same i)) user)) role)
      (named user))
      ∙ ap (λ (now : Option Role). judged (name_checks (standing_at t (Some stamp.maker) None) (option_map of_role now)
      role) (named user)) (sym (role_among-lines_of t.accounts user))

  pub naming-drawn : kept ≡ Ok tt → (v : ℕ) → user ≡ Some v
      → ◌≡◌ {A = Result Drawn Rule} (Ok (drawn_by t.accounts (alone stamp (Named v role))))
      (resolved_by_role t (resolved_by stamp (Name user role)))
  naming-drawn is v found_as =
      ap (λ (o : Option ℕ). Ok (named o)) (sym found_as)
      ∙ ap (made_of (λ (done : Unit {0}). named user)) (sym is)
      ∙ naming-made

-- ---- a dismissal

pub name-dismissed : (accounts : List Account) (user : ℕ) (told : Option (List ℕ)) (entry : Entry)
    → told ≡ option_map (λ (a : Account). a.name) (account_at accounts user) → entry ≡ Dismissed user
    → unwrap_or told [] ≡ name_told_by (lines_of accounts) entry
name-dismissed accounts user told entry is names =
    ap (λ (o : Option (List ℕ)). unwrap_or o []) (is ∙ sym (name_in-lines_of accounts user))
    ∙ ap (name_told_by (lines_of accounts)) (sym names)

module _ (t : Tables) (stamp : Stamp) (user : Option ℕ)
    (by : Standing) (stands : by ≡ standing_at t (Some stamp.maker) None) (seen : List Account)
    (same : seen ≡ t.accounts)
    (kept : Result (Unit {0}) Rule)
    (judges : kept ≡ judged (dismiss_checks by (option_map of_role (option_and_then (role_at seen) user))
    (chair_count (lines_of seen))) tt) where
  -- where no rule is broken, she is there
  pub is-dismissed : kept ≡ Ok tt → IsSome user
  is-dismissed is =
      of user
      (judged-Ok (dismiss_checks by (option_map of_role (option_and_then (role_at seen) user))
      (chair_count (lines_of seen))) tt tt (sym judges ∙ is)).0.0
    where
      of : (o : Option ℕ) → is_none (option_map of_role (option_and_then (role_at seen) o)) ≡ false → IsSome o
      of None none = absurd (true≢false none)
      of (Some v) none = refl

  abbrev dismissed : Option ℕ → Drawn
  dismissed v = drawn_by t.accounts (alone stamp (Dismissed (unwrap_or v 0)))

  pub dismissal-made : made_of (λ (done : Unit {0}). dismissed user) kept
      ≡ resolved_by_role t (resolved_by stamp (Dismiss user))
  dismissal-made =
      judged-made (dismiss_checks by (option_map of_role (option_and_then (role_at seen) user))
      (chair_count (lines_of seen))) (λ (done : Unit {0}). dismissed user) tt kept judges
      ∙ (λ i. judged (dismiss_checks (stands i) (option_map of_role (option_and_then (role_at (same i)) user))
      (chair_count (lines_of (same i)))) (dismissed user))
      ∙ ap (λ (now : Option Role). judged (dismiss_checks (standing_at t (Some stamp.maker) None)
      (option_map of_role now) (chair_count (lines_of t.accounts))) (dismissed user))
      (sym (role_among-lines_of t.accounts user))

  pub dismissal-drawn : kept ≡ Ok tt → (v : ℕ) → user ≡ Some v
      → ◌≡◌ {A = Result Drawn Rule} (Ok (drawn_by t.accounts (alone stamp (Dismissed v))))
      (resolved_by_role t (resolved_by stamp (Dismiss user)))
  dismissal-drawn is v found_as =
      ap (λ (o : Option ℕ). Ok (dismissed o)) (sym found_as)
      ∙ ap (made_of (λ (done : Unit {0}). dismissed user)) (sym is)
      ∙ dismissal-made
