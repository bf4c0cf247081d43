-- SPDX-License-Identifier: Apache-2.0 OR MIT
-- What an accepted command adds, by the rules on the history before it.
use Rattle.std.proofs.Common.{ℕ, Bool, true, false, cond, ◌≡◌, ◌<◌, ◌+◌, arith, List, [], ◌∷◌, length, eqb, refl, sym}
use Rattle.std.proofs.Common.{ap, subst, ◌∙◌, ◌||◌, ◌&&◌, Option, Some, None, Ok}
use Rattle.std.specs.Prelude.{not, nat_le, is_some, is_none, unwrap_or}
use Rattle.std.specs.List.{list_any, flat_map, AllByRecursion}
use Rattle.std.specs.Option.{option_map}
use Rattle.std.proofs.lemmas.Bool.{eqb-true, leb-false, true≢false, not-false, or_left}
use Rattle.cr_base.specs.declared.command.Command.{Command}
use Rattle.cr_base.specs.declared.command.Command.TheVariants.{Register, SetPhase, Submit, Revise, Upload, Withdraw}
use Rattle.cr_base.specs.declared.command.Command.TheVariants.{Name, SetMode, SetConflict, Bid, Assign, Unassign}
use Rattle.cr_base.specs.declared.command.Command.TheVariants.{Review, Comment, Tag, Decide, SetDeadline, Dismiss}
use Rattle.cr_base.specs.declared.command.Command.TheVariants.{Invite, Uninvite, Respond}
use Rattle.cr_base.specs.declared.entry.Entry.TheVariants as entries
use Rattle.cr_base.specs.declared.entry.Stamp.{Stamp}
use Rattle.cr_base.specs.declared.entry.Entry.TheVariants.{Registered, Named, PhaseSet, ModeSet, Revised, Uploaded}
use Rattle.cr_base.specs.declared.entry.Entry.TheVariants.{Withdrawn, Conflict, Assigned, Unassigned, Reviewed}
use Rattle.cr_base.specs.declared.entry.Entry.TheVariants.{Commented, Tagged, Decided, DeadlineSet, Dismissed}
use Rattle.cr_base.specs.declared.entry.Entry.TheVariants.{Invited, Uninvited, Responded}
use Rattle.cr_base.specs.declared.standing.Standing.{Standing}
use Rattle.cr_base.specs.declared.target.Target.{Target}
use Rattle.cr_base.specs.declared.words.Kind.{Kind}
use Rattle.cr_base.specs.declared.words.Phase.TheVariants.{Bidding, Notification}
use Rattle.cr_base.specs.declared.words.Role.{Role}
use Rattle.cr_base.specs.declared.words.Role.TheVariants.{Account, Chair}
use Rattle.cr_base.specs.Lists.{at_some, is_number, listed}
use Rattle.cr_base.specs.History.{History}
use Rattle.cr_base.specs.HistoryFacts.{phase_of, role_of, accounts_of, is_external, standing_of}
use Rattle.cr_base.specs.Accounts.{chair_count}
use Rattle.cr_base.specs.Page.{is_admitted}
use Rattle.cr_base.specs.Phases.{is_from, is_next, mode_may_be_set, authors_have_declared, conflicts_are_final}
use Rattle.cr_base.specs.Phases.{committee_works, bids_are_taken, reviews_are_written, responses_are_written}
use Rattle.cr_base.specs.Phases.{comments_are_written, decisions_are_made}
use Rattle.cr_base.specs.Words.{role_number, is_member, is_chair}
use Rattle.cr_base.specs.Bounds.{IsBoundedCommand}
use Rattle.cr_base.specs.Texts.{IsName}
use Rattle.cr_base.specs.Checks.{Check, of_role, target_role, chair_checks, conflict_checks}
use Rattle.cr_base.specs.Checks.{assign_checks, unassign_checks, invite_checks, uninvite_checks}
use Rattle.cr_base.specs.Deeds.{Deed, deed_at, drawn_by}
use Rattle.cr_base.specs.Drawn.{Drawn, grouped}
use Rattle.cr_base.specs.Judging.{judge_by}
use Rattle.cr_base.specs.Resolving.{all_found, resolve}
use Rattle.cr_base.specs.Sources.{Facts, Shown, user_among, users_among, role_among, paper_named}
use Rattle.cr_base.specs.Sources.{target_named, is_late}
use Rattle.cr_base.proofs.CheckLaws.{NoneBroken, judged-Ok, judged-none}
use Rattle.cr_base.proofs.FitLaws.{none-where, some-where}
use Rattle.cr_base.proofs.TargetLaws.{is_none-asked, target_role-of}
use Rattle.cr_base.proofs.Small.{and_not_from}
use Rattle.cr_history.specs.Invariants.{IsRegistered}
use Rattle.cr_history.specs.Groups.{IsRuled, IsBoundedStamp, Adds, single, submitted, first_user}
use Rattle.cr_history.proofs.RuleFacts.{facts_of, role-among, users-registered, author-named, submitting, begun}
use Rattle.cr_history.proofs.RuleFacts.{of-paper, named, case-ruled, is_told_all, TellsSeats}

-- ---- registrations

pub registration-adds : (H : History) (stamp : Stamp) (facts : Facts) (shown : Shown) (name digest : List ℕ)
    (drawn : Drawn)
    → IsBoundedStamp stamp → IsName name × (length digest ≡ 32)
    → judge_by facts shown stamp (Register name digest) ≡ Ok drawn → Adds H drawn.group
registration-adds H stamp facts shown name digest drawn bounds bounded accepted =
    let n : ℕ = length facts.accounts in
    let made : Deed = deed_at facts shown stamp (resolve facts.accounts (Register name digest)) in
    let k = judged-Ok made.checks (drawn_by facts.accounts stamp made) drawn accepted in
    subst (λ (d : Drawn). Adds H d.group) k.1 (by (n + 1) (eqb (n + 1) 1) refl)
  where
    by : (user : ℕ) (b : Bool) → eqb user 1 ≡ b
        → Adds H (grouped (record stamp { maker = user })
        (Registered user name digest ∷ cond b (Named user Chair ∷ []) []))
    by user true is = first_user (record stamp { maker = user }) name digest
        (record { moment = bounds.moment; key = bounds.key }) (eqb-true user 1 is) bounded
    by user false is = single (record stamp { maker = user }) (Registered user name digest)
        (record { moment = bounds.moment; key = bounds.key }) refl is
        (record { phase = tt; chair = tt; role = tt; member = tt; right = tt; seat = tt; texts = bounded })

module _ (H : History) (stamp : Stamp) (shown : Shown) (bounds : IsBoundedStamp stamp)
    (registered : IsRegistered H stamp.maker) (tells : TellsSeats H stamp.maker shown) where
  abbrev maker : ℕ
  maker = stamp.maker

  abbrev facts : Facts
  facts = facts_of (Some maker) H

  abbrev standing : Standing
  standing = standing_of (Some maker) None H

  -- it is too late for what the phase opens
  abbrev late : Bool
  late = is_late facts stamp.at

  abbrev checks : Option ℕ → Option ℕ → Bool → List Check
  checks paper target on = conflict_checks (standing_of (Some maker) paper H) (paper_named facts shown paper)
      (target_named facts shown (Some maker) paper target) on late

  -- the user named, as the rules ask of her
  abbrev asked : Option ℕ → Option ℕ → Option Target
  asked paper target = target_named facts shown (Some maker) paper target

  -- whether she is shown a form under the label of the user named
  abbrev under_label : Option ℕ → Option ℕ → Bool
  under_label paper target = at_some (shown.written (unwrap_or paper 0)) (shown.ordinal target (unwrap_or paper 0))

  abbrev wrote : ℕ → ℕ → Bool
  wrote p v = list_any (is_number (Some v)) (shown.authors p)

  abbrev declared : ℕ → ℕ → Bool
  declared p v = list_any (is_number (Some v)) (shown.conflicts p)

  -- whether she is an external of the paper, who has this role, as the maker is shown
  abbrev external_by : ℕ → ℕ → Role → Bool
  external_by p v role = not (is_member role) && shown.invited (Some v) p

  outside-told : (p v : ℕ) (role : Role) → role ≡ role_of (Some v) H → is_told_all H maker p ≡ true
      → external_by p v role ≡ is_external (Some v) p H
  outside-told p v role held all = λ i. not (is_member (held i)) && tells.invited p v all i

  abbrev asked_in : ℕ → ℕ → Role → Target
  asked_in p v role =
      named H maker p v role (eqb v maker) (wrote p v) (wrote p v || declared p v) (is_some (shown.ordinal (Some v) p))
      (external_by p v role)

  -- what holds of a user named who is there
  record HoldsOf (P : Option Target → Type 0) (p v : ℕ) : Type 0 where
    role : Role
    held : role ≡ role_of (Some v) H
    there : IsRegistered H v
    holds : P (Some (asked_in p v role))

  asked-there : (P : Option Target → Type 0) (p v : ℕ) → is_none (asked (Some p) (Some v)) ≡ false
      → P (asked (Some p) (Some v)) → HoldsOf P p v
  asked-there P p v there holds = by (role_among facts.accounts (Some v)) refl there holds
    where
      by : (role : Option Role) → role_among facts.accounts (Some v) ≡ role
          → is_none (option_map (asked_in p v) role) ≡ false
          → P (option_map (asked_in p v) role) → HoldsOf P p v
      by None is there holds = absurd (true≢false there)
      by (Some role) is there holds =
          let k = role-among H (Some v) (ap is_none is) in
          record {
            role = role;
            held = ap (λ (o : Option Role). unwrap_or o Account) (sym is) ∙ k.0;
            there = k.1;
            holds = holds;
          }

  conflict-ruled_for : (paper target : Option ℕ) (on : Bool) → NoneBroken (checks paper target on)
      → IsRuled H maker (Conflict (unwrap_or paper 0) (unwrap_or target 0) on)
  conflict-ruled_for None target on none = absurd (true≢false none.0)
  conflict-ruled_for (Some p) None on none = absurd (true≢false none.1.0)
  conflict-ruled_for (Some p) (Some v) on none =
      let by = standing_of (Some maker) (Some p) H in
      let k = asked-there (λ target. NoneBroken (conflict_checks by (paper_named facts shown (Some p)) target on late))
      p v none.1.0 none in
      case-ruled H maker p v on (authors_have_declared (phase_of H)) (conflicts_are_final (phase_of H))
      (shown.withdrawn p) late k.role
      (eqb v maker) (wrote p v) (wrote p v || declared p v) (is_some (shown.ordinal (Some v) p))
      (external_by p v k.role) refl refl k.held refl
      (outside-told p v k.role k.held) k.holds.1.1

  -- ---- assignments

  -- a chair who assigns or unassigns is told all of the paper's conflicts and reviewers
  chair-told : (p : ℕ) (withdrawn : Bool) → NoneBroken (chair_checks (standing_of (Some maker) (Some p) H) withdrawn)
      → is_told_all H maker p ≡ true
  chair-told p withdrawn none =
      let by = standing_of (Some maker) (Some p) H in
      all (is_chair by.role) by.conflicted (is_from Bidding by.phase) (is_from Notification by.phase)
      (not-false (is_chair by.role) none.0) none.1.0 (not-false (committee_works by.phase) none.1.1.0)
    where
      all : (chair conflicted begun over : Bool) → chair ≡ true → conflicted ≡ false → (begun && not over) ≡ true
          → ((chair && not conflicted) && begun) ≡ true
      all chair conflicted begun over hc hf hb = grind arith

  assigned-ruled : (paper target : Option ℕ) (kind : Kind) (ordinal : ℕ)
      → NoneBroken (assign_checks (standing_of (Some maker) paper H) (paper_named facts shown paper)
      (asked paper target) (shown.labels (unwrap_or paper 0)))
      → IsRuled H maker (Assigned (unwrap_or paper 0) (unwrap_or target 0) kind ordinal)
  assigned-ruled None target kind ordinal none = absurd (true≢false none.0)
  assigned-ruled (Some p) None kind ordinal none = absurd (true≢false none.1.0)
  assigned-ruled (Some p) (Some v) kind ordinal none =
      let by = standing_of (Some maker) (Some p) H in
      let k =
      asked-there (λ target. NoneBroken (assign_checks by (paper_named facts shown (Some p)) target (shown.labels p)))
      p v none.1.0 none in
      let of_chair = k.holds.1.1 in
      let of_target = of_chair.1.1.1.1 in
      let all =
      chair-told p (shown.withdrawn p) (of_chair.0, (of_chair.1.0, (of_chair.1.1.0, (of_chair.1.1.1.0, tt)))) in
      record {
        phase = not-false (committee_works by.phase) of_chair.1.1.0;
        chair = not-false (is_chair by.role) of_chair.0;
        role = tt;
        member = of-paper H maker p v k.role (external_by p v k.role) k.held (outside-told p v k.role k.held all)
            (not-false (is_member k.role || external_by p v k.role) of_target.0);
        right = of_chair.1.0;
        seat = (
          sym (tells.conflicted p v k.there all) ∙ of_target.1.0,
          sym (tells.ordinal p v all) ∙ none-where (shown.ordinal (Some v) p) of_target.1.1.0,
          subst (λ n. n < 26) (tells.labels p all) (leb-false 26 (shown.labels p) of_target.1.1.1.0),
        );
        texts = tt;
      }

  unassigned-ruled : (paper target : Option ℕ)
      → NoneBroken (unassign_checks (standing_of (Some maker) paper H) (paper_named facts shown paper)
      (asked paper target) (under_label paper target))
      → IsRuled H maker (Unassigned (unwrap_or paper 0) (unwrap_or target 0)
      (unwrap_or (shown.ordinal target (unwrap_or paper 0)) 0))
  unassigned-ruled None target none = absurd (true≢false none.0)
  unassigned-ruled (Some p) None none = absurd (true≢false none.1.0)
  unassigned-ruled (Some p) (Some v) none =
      let by = standing_of (Some maker) (Some p) H in
      let k =
      asked-there
      (λ target. NoneBroken (unassign_checks by (paper_named facts shown (Some p)) target
      (under_label (Some p) (Some v)))) p v none.1.0 none in
      let of_chair = k.holds.1.1 in
      let all =
      chair-told p (shown.withdrawn p) (of_chair.0, (of_chair.1.0, (of_chair.1.1.0, (of_chair.1.1.1.0, tt)))) in
      let taken =
      some-where (shown.ordinal (Some v) p) (not-false (is_some (shown.ordinal (Some v) p)) of_chair.1.1.1.1.0) in
      record {
        phase = not-false (committee_works by.phase) of_chair.1.1.0;
        chair = not-false (is_chair by.role) of_chair.0;
        role = tt;
        member = tt;
        right = of_chair.1.0;
        seat = (
          sym (tells.ordinal p v all) ∙ taken,
          sym (tells.written p (unwrap_or (shown.ordinal (Some v) p) 0) all)
              ∙ sym (ap (at_some (shown.written p)) taken) ∙ of_chair.1.1.1.1.1.0,
        );
        texts = tt;
      }

  -- ---- invitations

  invited-ruled : (paper target : Option ℕ)
      → NoneBroken (invite_checks (standing_of (Some maker) paper H) (paper_named facts shown paper)
      (asked paper target) (at_some (shown.invited target) paper))
      → IsRuled H maker (Invited (unwrap_or paper 0) (unwrap_or target 0))
  invited-ruled None target none = absurd (true≢false none.0)
  invited-ruled (Some p) None none = absurd (true≢false none.1.0)
  invited-ruled (Some p) (Some v) none =
      let by = standing_of (Some maker) (Some p) H in
      let k =
      asked-there
      (λ target. NoneBroken (invite_checks by (paper_named facts shown (Some p)) target (shown.invited (Some v) p))) p
      v none.1.0 none in
      let of_chair = k.holds.1.1 in
      let of_target = of_chair.1.1.1.1 in
      let all =
      chair-told p (shown.withdrawn p) (of_chair.0, (of_chair.1.0, (of_chair.1.1.0, (of_chair.1.1.1.0, tt)))) in
      record {
        phase = not-false (committee_works by.phase) of_chair.1.1.0;
        chair = not-false (is_chair by.role) of_chair.0;
        role = tt;
        member = sym (ap is_member k.held) ∙ of_target.0;
        right = of_chair.1.0;
        seat = (sym (tells.conflicted p v k.there all) ∙ of_target.1.0, sym (tells.invited p v all) ∙ of_target.1.1.0);
        texts = tt;
      }

  uninvited-ruled : (paper target : Option ℕ)
      → NoneBroken (uninvite_checks (standing_of (Some maker) paper H) (paper_named facts shown paper)
      (asked paper target) (at_some (shown.invited target) paper))
      → IsRuled H maker (Uninvited (unwrap_or paper 0) (unwrap_or target 0))
  uninvited-ruled None target none = absurd (true≢false none.0)
  uninvited-ruled (Some p) None none = absurd (true≢false none.1.0)
  uninvited-ruled (Some p) (Some v) none =
      let by = standing_of (Some maker) (Some p) H in
      let k =
      asked-there
      (λ target. NoneBroken (uninvite_checks by (paper_named facts shown (Some p)) target (shown.invited (Some v) p)))
      p v none.1.0 none in
      let of_chair = k.holds.1.1 in
      let of_target = of_chair.1.1.1.1 in
      let all =
      chair-told p (shown.withdrawn p) (of_chair.0, (of_chair.1.0, (of_chair.1.1.0, (of_chair.1.1.1.0, tt)))) in
      record {
        phase = not-false (committee_works by.phase) of_chair.1.1.0;
        chair = not-false (is_chair by.role) of_chair.0;
        role = tt;
        member = tt;
        right = of_chair.1.0;
        seat = (
          sym (tells.invited p v all) ∙ not-false (shown.invited (Some v) p) of_target.0,
          sym (tells.ordinal p v all) ∙ none-where (shown.ordinal (Some v) p) of_target.1.0,
        );
        texts = tt;
      }

  -- ---- all commands

  abbrev deed_of : Command → Deed
  deed_of command = deed_at facts shown stamp (resolve facts.accounts command)

  -- the users found, where all were, have registered
  found-registered : (missing : Bool) (users : List ℕ) → AllByRecursion (IsRegistered H) users
      → AllByRecursion (IsRegistered H) (unwrap_or (cond missing None (Some users)) [])
  found-registered true users all = tt
  found-registered false users all = all

  -- what a deed of which no rule is broken adds
  deed-adds : (command : Command) → IsBoundedCommand command → NoneBroken (deed_of command).checks
      → Adds H (drawn_by facts.accounts stamp (deed_of command)).group
  deed-adds (Register name digest) bounded none =
      registration-adds H stamp facts shown name digest (drawn_by facts.accounts stamp (deed_of (Register name digest))) bounds bounded
      (judged-none (deed_of (Register name digest)).checks (drawn_by facts.accounts stamp (deed_of (Register name digest))) none)
  deed-adds (SetPhase to) bounded none =
      single stamp (PhaseSet to) bounds registered tt
      (record {
        phase = not-false (is_next (phase_of H) to) none.1.0;
        chair = not-false (is_chair standing.role) none.0;
        role = tt;
        member = tt;
        right = tt;
        seat = tt;
        texts = tt;
      })
  deed-adds (Submit title abstract names) bounded none =
      let n : ℕ = length facts.papers in
      let users : List (Option ℕ) = users_among facts.accounts names in
      let others : List ℕ = unwrap_or (all_found users) [] in
      submitted stamp (n + 1) title abstract others bounds registered
      (record {
        phase = submitting H maker none.1.0;
        chair = tt;
        role = tt;
        member = tt;
        right = tt;
        seat = tt;
        texts = (bounded.0, bounded.1);
      }) (found-registered (list_any is_none users) (flat_map listed users) (users-registered H names))
  deed-adds (Revise paper title abstract) bounded none =
      single stamp (Revised (unwrap_or paper 0) title abstract) bounds registered tt
      (record {
        phase = submitting H maker none.1.1.0;
        chair = tt;
        role = tt;
        member = tt;
        right = author-named H maker paper none.1.0;
        seat = tt;
        texts = bounded;
      })
  deed-adds (Upload paper content) bounded none =
      let version : ℕ = length (shown.uploads (unwrap_or paper 0)) + 1 in
      single stamp (Uploaded (unwrap_or paper 0) version content) bounds registered tt
      (record {
        phase = submitting H maker none.1.1.0;
        chair = tt;
        role = tt;
        member = tt;
        right = author-named H maker paper none.1.0;
        seat = tt;
        texts = bounded;
      })
  deed-adds (Withdraw paper) bounded none =
      single stamp (Withdrawn (unwrap_or paper 0)) bounds registered tt
      (record {
        phase = submitting H maker none.1.1.0;
        chair = tt;
        role = tt;
        member = tt;
        right = author-named H maker paper none.1.0;
        seat = tt;
        texts = tt;
      })
  deed-adds (Name name role) bounded none =
      let target : Option ℕ = user_among facts.accounts name in
      let before : Option Role = role_among facts.accounts target in
      let asked : Option Target = option_map of_role before in
      let rises : role_number (target_role asked) < role_number role =
      leb-false (role_number role) (role_number (target_role asked)) none.1.1.1.0 in
      let there : is_none before ≡ false = sym (is_none-asked of_role before) ∙ none.0 in
      single stamp (Named (unwrap_or target 0) role) bounds registered tt (record {
        phase = none.1.1.0;
        chair = or_left (is_chair standing.role) (eqb (length H) 1) (not-false (is_chair standing.role) none.1.0);
        role = subst (λ (r : Role). role_number r < role_number role)
            (target_role-of before ∙ (role-among H target there).0) rises;
        member = tt;
        right = tt;
        seat = tt;
        texts = tt;
      })
  deed-adds (SetMode to) bounded none =
      single stamp (ModeSet to) bounds registered tt
      (record {
        phase = not-false (mode_may_be_set (phase_of H)) none.1.0;
        chair = not-false (is_chair standing.role) none.0;
        role = tt;
        member = tt;
        right = tt;
        seat = tt;
        texts = tt;
      })
  deed-adds (SetConflict paper name on) bounded none =
      let target : Option ℕ = user_among facts.accounts name in
      single stamp (Conflict (unwrap_or paper 0) (unwrap_or target 0) on) bounds registered tt
      (conflict-ruled_for paper target on none)
  deed-adds (Bid None value) bounded none = absurd (true≢false none.0)
  deed-adds (Bid (Some p) value) bounded none =
      let by = standing_of (Some maker) (Some p) H in
      single stamp (entries.Bid p value) bounds registered tt
      (record {
        phase = not-false (bids_are_taken by.phase) none.1.1.1.0;
        chair = tt;
        role = tt;
        member = tt;
        right = and_not_from (is_member by.role) by.conflicted (not-false (is_member by.role) none.1.0) none.1.1.0;
        seat = tt;
        texts = bounded;
      })
  deed-adds (Assign paper name kind) bounded none =
      let target : Option ℕ = user_among facts.accounts name in
      let labels : ℕ = shown.labels (unwrap_or paper 0) in
      single stamp (Assigned (unwrap_or paper 0) (unwrap_or target 0) kind (labels + 1)) bounds registered tt
      (assigned-ruled paper target kind (labels + 1) none)
  deed-adds (Unassign paper name) bounded none =
      let target : Option ℕ = user_among facts.accounts name in
      let p : ℕ = unwrap_or paper 0 in
      let ordinal : ℕ = unwrap_or (shown.ordinal target p) 0 in
      single stamp (Unassigned p (unwrap_or target 0) ordinal) bounds registered tt
      (unassigned-ruled paper target none)
  deed-adds (Review None form) bounded none = absurd (true≢false none.0)
  deed-adds (Review (Some p) form) bounded none =
      let by = standing_of (Some maker) (Some p) H in
      single stamp (Reviewed p (unwrap_or (facts.own_ordinal p) 0) (length (facts.own_forms p) + 1) form) bounds registered tt
      (record {
        phase = not-false (reviews_are_written by.phase) none.1.1.1.1.0;
        chair = tt;
        role = tt;
        member = tt;
        right = and_not_from (is_admitted by) by.conflicted (not-false (is_admitted by) none.1.0) none.1.1.0;
        seat = some-where (facts.own_ordinal p) (not-false (is_some (facts.own_ordinal p)) none.1.1.1.0);
        texts = bounded;
      })
  deed-adds (Comment None text) bounded none = absurd (true≢false none.0)
  deed-adds (Comment (Some p) text) bounded none =
      let by = standing_of (Some maker) (Some p) H in
      single stamp (Commented p (length (shown.comments p) + 1) (facts.own_ordinal p) text) bounds registered tt
      (record {
        phase = not-false (comments_are_written by.phase) none.1.1.1.0;
        chair = tt;
        role = tt;
        member = tt;
        right = and_not_from (is_member by.role) by.conflicted (not-false (is_member by.role) none.1.0) none.1.1.0;
        seat = refl;
        texts = bounded;
      })
  deed-adds (Tag None tag on) bounded none = absurd (true≢false none.0)
  deed-adds (Tag (Some p) tag on) bounded none =
      let by = standing_of (Some maker) (Some p) H in
      single stamp (Tagged p tag on) bounds registered tt
      (record {
        phase = not-false (committee_works by.phase) none.1.1.1.1.0;
        chair = tt;
        role = tt;
        member = tt;
        right =
            (and_not_from (is_member by.role) by.conflicted (not-false (is_member by.role) none.1.1.0) none.1.1.1.0, none.1.0);
        seat = tt;
        texts = bounded;
      })
  deed-adds (Decide None decision) bounded none = absurd (true≢false none.0)
  deed-adds (Decide (Some p) decision) bounded none =
      let by = standing_of (Some maker) (Some p) H in
      single stamp (Decided p decision) bounds registered tt
      (record {
        phase = not-false (decisions_are_made by.phase) none.1.1.1.0;
        chair = not-false (is_chair by.role) none.1.0;
        role = tt;
        member = tt;
        right = none.1.1.0;
        seat = tt;
        texts = tt;
      })
  deed-adds (SetDeadline phase until) bounded none =
      single stamp (DeadlineSet phase until) bounds registered tt
      (record {
        phase = (not-false (is_from (phase_of H) phase) none.1.0, bounded.0);
        chair = not-false (is_chair standing.role) none.0;
        role = tt;
        member = tt;
        right = tt;
        seat = tt;
        texts = bounded.1;
      })
  deed-adds (Dismiss name) bounded none =
      let target : Option ℕ = user_among facts.accounts name in
      let before : Option Role = role_among facts.accounts target in
      let asked : Option Target = option_map of_role before in
      let there : is_none before ≡ false = sym (is_none-asked of_role before) ∙ none.0 in
      single stamp (Dismissed (unwrap_or target 0)) bounds registered tt (record {
        phase = none.1.1.0;
        chair = not-false (is_chair standing.role) none.1.0;
        role =
            subst (λ (r : Role). (is_member r ≡ true)
            × ((is_chair r && nat_le (chair_count (accounts_of H)) 1) ≡ false))
            (target_role-of before ∙ (role-among H target there).0)
            (not-false (is_member (target_role asked)) none.1.1.1.0, none.1.1.1.1.0);
        member = tt;
        right = tt;
        seat = tt;
        texts = tt;
      })
  deed-adds (Invite paper name) bounded none =
      let target : Option ℕ = user_among facts.accounts name in
      single stamp (Invited (unwrap_or paper 0) (unwrap_or target 0)) bounds registered tt
      (invited-ruled paper target none)
  deed-adds (Uninvite paper name) bounded none =
      let target : Option ℕ = user_among facts.accounts name in
      single stamp (Uninvited (unwrap_or paper 0) (unwrap_or target 0)) bounds registered tt
      (uninvited-ruled paper target none)
  deed-adds (Respond paper text) bounded none =
      let p : ℕ = unwrap_or paper 0 in
      single stamp (Responded p text) bounds registered tt (record {
        phase = not-false (responses_are_written (phase_of H)) none.1.1.0;
        chair = tt;
        role = tt;
        member = tt;
        right = author-named H maker paper none.1.0;
        seat = tt;
        texts = bounded;
      })

  pub command-adds : (command : Command) (drawn : Drawn) → IsBoundedCommand command
      → judge_by facts shown stamp command ≡ Ok drawn → Adds H drawn.group
  command-adds command drawn bounded accepted =
      let k = judged-Ok (deed_of command).checks (drawn_by facts.accounts stamp (deed_of command)) drawn accepted in
      subst (λ (d : Drawn). Adds H d.group) k.1 (deed-adds command bounded k.0)
