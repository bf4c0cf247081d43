-- SPDX-License-Identifier: Apache-2.0 OR MIT
-- What a command draws that names a paper and a user, by reads of the tables.
use Rattle.std.proofs.Common.{ℕ, Bool, true, false, ◌≡◌, ◌+◌, List, ◌∷◌, refl, sym, ap, subst, ◌∙◌, ◌||◌, ◌&&◌, Option}
use Rattle.std.proofs.Common.{Some, None, Result, Ok}
use Rattle.std.specs.Prelude.{IsSome, is_some, not, unwrap_or}
use Rattle.std.specs.List.{list_any}
use Rattle.std.specs.Option.{option_map, option_map_or, option_and_then}
use Rattle.cr_base.specs.declared.entry.Entry.TheVariants as entries
use Rattle.cr_base.specs.Drawn.{alone}
use Rattle.cr_base.specs.Calls.{resolved_by}
use Rattle.cr_base.specs.Judging.{resolved_by_role}
use Rattle.cr_base.specs.declared.resolved.ResolvedCommand.TheVariants as commands
use Rattle.cr_base.specs.declared.entry.Account.{Account}
use Rattle.cr_base.specs.declared.entry.Stamp.{Stamp}
use Rattle.cr_base.specs.declared.pairs.Order.TheVariants.{ByPaper}
use Rattle.cr_base.specs.declared.reply.Rule.{Rule}
use Rattle.cr_base.specs.declared.reply.Rule.TheVariants as rules
use Rattle.cr_base.specs.declared.standing.Standing.{Standing}
use Rattle.cr_base.specs.declared.target.Target.{Target}
use Rattle.cr_base.specs.declared.words.Kind.{Kind}
use Rattle.cr_base.specs.declared.words.Role.{Role}
use Rattle.cr_base.specs.Accounts.{role_at}
use Rattle.cr_base.specs.Checks.{Check, NamedPaper, ◌breaks◌, judged, conflict_case, conflict_checks, assign_checks}
use Rattle.cr_base.specs.Checks.{unassign_checks, invite_checks, uninvite_checks}
use Rattle.cr_base.specs.Drawn.{Drawn}
use Rattle.cr_base.specs.Invites.{InvitesState, is_invited_in}
use Rattle.cr_base.specs.Lists.{at_some, is_number}
use Rattle.cr_base.specs.Pairs.{users_tied_to}
use Rattle.cr_base.specs.Papers.{is_withdrawn_at}
use Rattle.cr_base.specs.Phases.{authors_have_declared, conflicts_are_final}
use Rattle.cr_base.specs.Seats.{SeatsState, ordinal_in}
use Rattle.cr_base.specs.Sources.{standing_at}
use Rattle.cr_base.specs.Stage.{is_late_in}
use Rattle.cr_base.specs.Tables.{Tables}
use Rattle.cr_base.specs.Ties.{TiesState, is_author_in, is_conflicted_in}
use Rattle.cr_base.specs.Words.{is_member}
use Rattle.cr_base.proofs.CheckLaws.{NoneBroken, judged-Ok}
use Rattle.cr_base.proofs.ListLaws.{role_among-lines_of}
use Rattle.cr_base.proofs.PairLaws.{list_any-others_of}
use Rattle.cr_assign.specs.Targets as seats
use Rattle.cr_conflicts.specs.Targets as ties
use Rattle.cr_view.proofs.JudgeLaws.{made_of, judged-made}
use Rattle.cr_judge.specs.declared.named.Named.{Named}
use Rattle.cr_judge.specs.Named.{there_in, named_at, target_with, written_at, asked_at}
use Rattle.cr_judge.proofs.NamedLaws.{there-judged}

-- ---- the user

-- where the rule isn't broken that she isn't there, she is
pub target-there : {A : Type 0} (accounts : List Account) (user : Option ℕ) (target : Option (ℕ × Role))
    → target ≡ target_with accounts user
    → (of_target : ℕ × Role → Target) (checks : Option Target → List Check) → (NoneBroken (checks None) → ⊥)
    → (x given : A)
    → ◌≡◌ {A = Result A Rule} (Ok given) (judged (checks (option_map of_target target)) x) → IsSome user
target-there accounts user target has of_target checks refused x given h =
    by user
    (subst (λ (o : Option (ℕ × Role)). NoneBroken (checks (option_map of_target o))) has
    (judged-Ok (checks (option_map of_target target)) x given (sym h)).0)
  where
    by : (v : Option ℕ) → NoneBroken (checks (option_map of_target (target_with accounts v))) → IsSome v
    by None none = absurd (refused none)
    by (Some v) none = refl

-- the role of a user who has an account goes on with her
pub target-some : (accounts seen : List Account) → seen ≡ accounts → (user : Option ℕ) (v : ℕ) (role : Option Role)
    → user ≡ Some v
    → role ≡ role_at seen v → option_map (λ (r : Role). (v, r)) role ≡ target_with accounts user
target-some accounts seen same user v role is told =
    ap (option_map (λ (r : Role). (v, r))) (told ∙ ap (λ (x : List Account). role_at x v) same)
    ∙ sym (ap (target_with accounts) is)

-- ---- what the rules ask of her

module _ (t : Tables) (stamp : Stamp) where
  abbrev maker : ℕ
  maker = stamp.maker

  -- what the rules ask of a user of this role
  abbrev asked_for : Option ℕ → Option ℕ → Role → Target
  asked_for paper user role = record {
    role = role;
    herself = is_number user maker;
    author = at_some (is_author_in t.ties user) paper;
    conflicted = at_some (is_conflicted_in t.ties user) paper;
    reviewer = at_some (λ p. is_some (ordinal_in t.seats user p)) paper;
    external = not (is_member role) && at_some (is_invited_in t.invites user) paper;
  }

  -- the facts of the tables ask the same of her
  target-asked : (paper user : Option ℕ) → asked_at t maker paper user ≡ option_map (asked_for paper user)
      (option_and_then (role_at t.accounts) user)
  target-asked paper None = refl
  target-asked None (Some v) = ap (option_map (asked_for None (Some v))) (role_among-lines_of t.accounts (Some v))
  target-asked (Some p) (Some v) =
      let asked : Bool → Role → Target = λ declared role. record {
        role = role;
        herself = is_number (Some v) maker;
        author = is_author_in t.ties (Some v) p;
        conflicted = is_author_in t.ties (Some v) p || declared;
        reviewer = is_some (ordinal_in t.seats (Some v) p);
        external = not (is_member role) && is_invited_in t.invites (Some v) p;
      } in
      let declared : Bool = list_any (is_number (Some v)) (users_tied_to p t.ties.conflicts) in
      ap (λ (now : Option Role). option_map (asked declared) now) (role_among-lines_of t.accounts (Some v))
      ∙ ap (λ (b : Bool). option_map (asked b) (role_at t.accounts v)) (list_any-others_of ByPaper p v t.ties.conflicts)

  -- what is asked of her with her role is what the rules ask of her, if the second of them is that she isn't there
  target-judged : {A : Type 0} (at user : Option ℕ) (asked : Option (ℕ × Role) → Result A Rule)
      (due : Option Target → Result A Rule)
      → asked None ≡ due None
      → ((v : ℕ) (role : Role) → user ≡ Some v → asked (Some (v, role)) ≡ due (Some (asked_for at (Some v) role)))
      → asked (target_with t.accounts user) ≡ due (asked_at t maker at user)
  target-judged at user asked due none some = by user some ∙ sym (ap due (target-asked at user))
    where
      by : (o : Option ℕ)
          → ((v : ℕ) (role : Role) → o ≡ Some v → asked (Some (v, role)) ≡ due (Some (asked_for at (Some v) role)))
          → asked (target_with t.accounts o) ≡ due
          (option_map (asked_for at o) (option_and_then (role_at t.accounts) o))
      by None told = none
      by (Some v) told = of_role (role_at t.accounts v)
        where
          of_role : (r : Option Role) → asked (option_map (λ (role : Role). (v, role)) r)
              ≡ due (option_map (asked_for at (Some v)) r)
          of_role None = none
          of_role (Some role) = told v role refl

  -- as the rules ask of a paper that is there, and of one that may not be
  abbrev paper_told : Bool → Option ℕ → NamedPaper
  paper_told there at = record { there = there; withdrawn = at_some (is_withdrawn_at t.papers) at }

  abbrev standing_here : Option ℕ → Standing
  standing_here at = standing_at t (Some maker) at

  -- ---- what is drawn

  module _ (paper user : Option ℕ) (named : Named) (given : named ≡ named_at t maker (there_in t.papers paper))
      (target : Option (ℕ × Role)) (has : target ≡ target_with t.accounts user) where
    abbrev told : NamedPaper
    told = record { there = is_some named.paper; withdrawn = named.withdrawn }

    abbrev mine : Option (ℕ × Role)
    mine = target_with t.accounts user

    -- whether the user named is an external of the paper
    abbrev external_of : Option ℕ → Option (ℕ × Role) → Bool
    external_of at o =
        option_map_or (λ (x : ℕ × Role). at_some (λ p. not (is_member x.1) && is_invited_in t.invites (Some x.0) p) at)
        o
        false

    -- a conflict: no rule reads whether she reviews the paper
    pub conflict-drawn : (on late : Bool) → late ≡ is_late_in t.stage stamp.at → (seen : TiesState) → seen ≡ t.ties
        → (external : Bool) → external ≡ external_of named.paper target → (kept : Result (Unit {0}) Rule)
        → kept ≡ judged (conflict_checks named.by told (ties.target_of seen maker named.paper target external) on late)
        tt
        → made_of (λ (done : Unit {0}). alone stamp (entries.Conflict (unwrap_or named.paper 0) (unwrap_or user 0) on))
        kept
        ≡ resolved_by_role t (resolved_by stamp (commands.SetConflict paper user on))
    conflict-drawn on late when seen same external outside kept judges =
        judged-made (conflict_checks named.by told (ties.target_of seen maker named.paper target external) on past)
        (λ (done : Unit {0}). made named.paper) tt kept
        (judges
        ∙ ap
        (λ (b : Bool). judged (conflict_checks named.by told (ties.target_of seen maker named.paper target external)
        on b) tt) when)
        ∙ ap
        (λ (x : TiesState). judged (conflict_checks named.by told (ties.target_of x maker named.paper target external)
        on past) (made named.paper)) same
        ∙ ap
        (λ (b : Bool). judged (conflict_checks named.by told (ties.target_of t.ties maker named.paper target b) on
        past) (made named.paper)) outside
        ∙ ap
        (λ (o : Option (ℕ × Role)). judged (conflict_checks named.by told
        (ties.target_of t.ties maker named.paper o (external_of named.paper o)) on past) (made named.paper)) has
        ∙ ap (λ (n : Named). judged (conflict_checks n.by (record { there = is_some n.paper; withdrawn = n.withdrawn })
        (ties.target_of t.ties maker n.paper mine (external_of n.paper mine)) on past) (made n.paper)) given
        ∙ there-judged t.papers asked due refl (λ (at : Option ℕ). refl) some paper
      where
        past : Bool
        past = is_late_in t.stage stamp.at

        made : Option ℕ → Drawn
        made at = alone stamp (entries.Conflict (unwrap_or at 0) (unwrap_or user 0) on)

        asked : Option ℕ → Result Drawn Rule
        asked at =
            judged (conflict_checks (standing_here at) (paper_told (is_some at) at)
            (ties.target_of t.ties maker at mine (external_of at mine)) on past) (made at)

        due : Bool → Option ℕ → Result Drawn Rule
        due there at =
            judged (conflict_checks (standing_here at) (paper_told there at) (asked_at t maker at user) on past)
            (made at)

        alike : (p v : ℕ) (role : Role) (external reviews turned bidding final : Bool)
            → conflict_case turned bidding final (standing_here (Some p)) (is_withdrawn_at t.papers p)
            (ties.target_in t.ties maker (Some p) external v role) past
            ≡ conflict_case turned bidding final (standing_here (Some p)) (is_withdrawn_at t.papers p)
            (record (ties.target_in t.ties maker (Some p) external v role) { reviewer = reviews }) past
        alike p v role external reviews false bidding final = refl
        alike p v role external reviews true false final = refl
        alike p v role external reviews true true true = refl
        alike p v role external reviews true true false = refl

        some : (p : ℕ) → asked (Some p) ≡ due true (Some p)
        some p =
            target-judged (Some p) user
            (λ (o : Option (ℕ × Role)). judged (conflict_checks (standing_here (Some p)) (paper_told true (Some p))
            (ties.target_of t.ties maker (Some p) o (external_of (Some p) o)) on past) (made (Some p)))
            (λ (o : Option Target). judged (conflict_checks (standing_here (Some p)) (paper_told true (Some p)) o on
            past) (made (Some p)))
            refl
            (λ (v : ℕ) (role : Role) is.
            ap (λ (checks : List Check). judged (false breaks rules.NoPaper ∷ false breaks rules.NoUser ∷ checks)
            (made (Some p)))
            (alike p v role (not (is_member role) && is_invited_in t.invites (Some v) p)
            (is_some (ordinal_in t.seats (Some v) p)) on (authors_have_declared (standing_here (Some p)).phase)
            (conflicts_are_final (standing_here (Some p)).phase)))

    -- an assignment: no rule reads whether she is the caller, or an author
    pub assignment-drawn : (kind : Kind) (seen : SeatsState) → seen ≡ t.seats → (invites : InvitesState)
        → invites ≡ t.invites → (conflicted : Bool)
        → conflicted ≡ at_some (is_conflicted_in t.ties user) named.paper → (r : Result ℕ Rule)
        → r ≡ judged (assign_checks named.by told (seats.target_of seen invites conflicted named.paper target)
        (seats.labels_at seen named.paper)) (seats.labels_at seen named.paper + 1)
        → made_of (λ (ordinal : ℕ). alone stamp (entries.Assigned (unwrap_or named.paper 0) (unwrap_or user 0) kind
        ordinal)) r
        ≡ resolved_by_role t (resolved_by stamp (commands.Assign paper user kind))
    assignment-drawn kind seen same invites asks conflicted clear r judges =
        judged-made (assign_checks named.by told (seats.target_of seen invites conflicted named.paper target)
        (seats.labels_at seen named.paper))
        (λ (ordinal : ℕ). alone stamp (entries.Assigned (unwrap_or named.paper 0) (unwrap_or user 0) kind ordinal))
        (seats.labels_at seen named.paper + 1) r judges
        ∙ ap
        (λ (x : SeatsState).
        judged (assign_checks named.by told (seats.target_of x invites conflicted named.paper target)
        (seats.labels_at x named.paper))
        (made named.paper (seats.labels_at x named.paper + 1))) same
        ∙ ap
        (λ (x : InvitesState).
        judged (assign_checks named.by told (seats.target_of t.seats x conflicted named.paper target)
        (labels named.paper)) (made named.paper (labels named.paper + 1))) asks
        ∙ ap
        (λ (o : Option (ℕ × Role)).
        judged (assign_checks named.by told (seats.target_of t.seats t.invites conflicted named.paper o)
        (labels named.paper)) (made named.paper (labels named.paper + 1))) has
        ∙ ap
        (λ (c : Bool). judged (assign_checks named.by told (seats.target_of t.seats t.invites c named.paper mine)
        (labels named.paper)) (made named.paper (labels named.paper + 1))) clear
        ∙ ap (λ (n : Named). judged (assign_checks n.by (record { there = is_some n.paper; withdrawn = n.withdrawn })
        (seats.target_of t.seats t.invites (at_some (is_conflicted_in t.ties user) n.paper) n.paper mine)
        (labels n.paper)) (made n.paper (labels n.paper + 1))) given
        ∙ there-judged t.papers asked due refl (λ (at : Option ℕ). refl) some paper
      where
        made : Option ℕ → ℕ → Drawn
        made at = λ (ordinal : ℕ). alone stamp (entries.Assigned (unwrap_or at 0) (unwrap_or user 0) kind ordinal)

        labels : Option ℕ → ℕ
        labels at = seats.labels_at t.seats at

        asked : Option ℕ → Result Drawn Rule
        asked at =
            judged (assign_checks (standing_here at) (paper_told (is_some at) at)
            (seats.target_of t.seats t.invites (at_some (is_conflicted_in t.ties user) at) at mine) (labels at))
            (made at (labels at + 1))

        due : Bool → Option ℕ → Result Drawn Rule
        due there at =
            judged (assign_checks (standing_here at) (paper_told there at) (asked_at t maker at user) (labels at))
            (made at (labels at + 1))

        some : (p : ℕ) → asked (Some p) ≡ due true (Some p)
        some p =
            target-judged (Some p) user
            (λ (o : Option (ℕ × Role)). judged (assign_checks (standing_here (Some p)) (paper_told true (Some p))
            (seats.target_of t.seats t.invites (is_conflicted_in t.ties user p) (Some p) o) (labels (Some p)))
            (made (Some p) (labels (Some p) + 1)))
            (λ (o : Option Target). judged (assign_checks (standing_here (Some p)) (paper_told true (Some p)) o
            (labels (Some p))) (made (Some p) (labels (Some p) + 1)))
            refl
            (λ (v : ℕ) (role : Role) is.
            ap (λ (u : Option ℕ). judged (assign_checks (standing_here (Some p)) (paper_told true (Some p))
            (seats.target_of t.seats t.invites (is_conflicted_in t.ties u p) (Some p) (Some (v, role)))
            (labels (Some p))) (made (Some p) (labels (Some p) + 1))) is)

    -- and its end: nor whether she is in conflict with the paper
    pub unassignment-drawn : (seen : SeatsState) → seen ≡ t.seats → (invites : InvitesState) → invites ≡ t.invites
        → (written : Bool) → written ≡ written_at t user named.paper → (r : Result ℕ Rule)
        → r ≡ judged (unassign_checks named.by told (seats.target_of seen invites false named.paper target) written)
        (seats.held_at seen named.paper target)
        → made_of (λ (n : ℕ). alone stamp (entries.Unassigned (unwrap_or named.paper 0) (unwrap_or user 0) n)) r ≡
        resolved_by_role t (resolved_by stamp (commands.Unassign paper user))
    unassignment-drawn seen same invites asks written is r judges =
        judged-made (unassign_checks named.by told (seats.target_of seen invites false named.paper target) written)
        (λ (n : ℕ). alone stamp (entries.Unassigned (unwrap_or named.paper 0) (unwrap_or user 0) n)) (seats.held_at seen
        named.paper target)
        r judges
        ∙ ap
        (λ (x : SeatsState). judged (unassign_checks named.by told
        (seats.target_of x invites false named.paper target) written)
        (made named.paper (seats.held_at x named.paper target))) same
        ∙ ap
        (λ (x : InvitesState). judged (unassign_checks named.by told
        (seats.target_of t.seats x false named.paper target) written)
        (made named.paper (seats.held_at t.seats named.paper target))) asks
        ∙ ap
        (λ (o : Option (ℕ × Role)). judged (unassign_checks named.by told
        (seats.target_of t.seats t.invites false named.paper o) written)
        (made named.paper (seats.held_at t.seats named.paper o))) has
        ∙ ap
        (λ (w : Bool). judged (unassign_checks named.by told
        (seats.target_of t.seats t.invites false named.paper mine) w)
        (made named.paper (seats.held_at t.seats named.paper mine))) is
        ∙ ap (λ (n : Named). judged (unassign_checks n.by (record { there = is_some n.paper; withdrawn = n.withdrawn })
        (seats.target_of t.seats t.invites false n.paper mine) (written_at t user n.paper))
        (made n.paper (seats.held_at t.seats n.paper mine))) given
        ∙ there-judged t.papers asked due refl (λ (at : Option ℕ). refl) some paper
      where
        made : Option ℕ → ℕ → Drawn
        made at = λ (ordinal : ℕ). alone stamp (entries.Unassigned (unwrap_or at 0) (unwrap_or user 0) ordinal)

        seat : Option ℕ → ℕ
        seat at = unwrap_or (ordinal_in t.seats user (unwrap_or at 0)) 0

        asked : Option ℕ → Result Drawn Rule
        asked at =
            judged (unassign_checks (standing_here at) (paper_told (is_some at) at)
            (seats.target_of t.seats t.invites false at mine) (written_at t user at))
            (made at (seats.held_at t.seats at mine))

        due : Bool → Option ℕ → Result Drawn Rule
        due there at =
            judged (unassign_checks (standing_here at) (paper_told there at) (asked_at t maker at user)
            (written_at t user (Some (unwrap_or at 0)))) (made at (seat at))

        some : (p : ℕ) → asked (Some p) ≡ due true (Some p)
        some p =
            target-judged (Some p) user
            (λ (o : Option (ℕ × Role)). judged (unassign_checks (standing_here (Some p)) (paper_told true (Some p))
            (seats.target_of t.seats t.invites false (Some p) o) (written_at t user (Some p)))
            (made (Some p) (seats.held_at t.seats (Some p) o)))
            (λ (o : Option Target). judged (unassign_checks (standing_here (Some p)) (paper_told true (Some p)) o
            (written_at t user (Some p))) (made (Some p) (seat (Some p))))
            refl
            (λ (v : ℕ) (role : Role) is.
            ap
            (λ (u : Option ℕ). judged (unassign_checks (standing_here (Some p)) (paper_told true (Some p))
            (seats.target_of t.seats t.invites false (Some p) (Some (v, role)))
            (written_at t user (Some p))) (made (Some p) (unwrap_or (ordinal_in t.seats u p) 0))) (sym is))

    -- an invitation: no rule reads whether she is the caller, an author, a reviewer or an external
    pub invitation-drawn : (seen : SeatsState) (invites : InvitesState) → invites ≡ t.invites → (conflicted : Bool)
        → conflicted ≡ at_some (is_conflicted_in t.ties user) named.paper → (kept : Result (Unit {0}) Rule)
        → kept ≡ judged (invite_checks named.by told (seats.target_of seen invites conflicted named.paper target)
        (seats.invited_at invites named.paper target)) tt
        → made_of (λ (done : Unit {0}). alone stamp (entries.Invited (unwrap_or named.paper 0) (unwrap_or user 0))) kept
        ≡ resolved_by_role t (resolved_by stamp (commands.Invite paper user))
    invitation-drawn seen invites asks conflicted clear kept judges =
        judged-made (invite_checks named.by told (seats.target_of seen invites conflicted named.paper target)
        (seats.invited_at invites named.paper target))
        (λ (done : Unit {0}). made named.paper) tt kept judges
        ∙ ap
        (λ (x : InvitesState).
        judged (invite_checks named.by told (seats.target_of seen x conflicted named.paper target)
        (seats.invited_at x named.paper target)) (made named.paper)) asks
        ∙ ap
        (λ (o : Option (ℕ × Role)).
        judged (invite_checks named.by told (seats.target_of seen t.invites conflicted named.paper o)
        (seats.invited_at t.invites named.paper o)) (made named.paper)) has
        ∙ ap
        (λ (c : Bool). judged (invite_checks named.by told (seats.target_of seen t.invites c named.paper mine)
        (seats.invited_at t.invites named.paper mine)) (made named.paper)) clear
        ∙ ap (λ (n : Named). judged (invite_checks n.by (record { there = is_some n.paper; withdrawn = n.withdrawn })
        (seats.target_of seen t.invites (at_some (is_conflicted_in t.ties user) n.paper) n.paper mine)
        (seats.invited_at t.invites n.paper mine)) (made n.paper)) given
        ∙ there-judged t.papers asked due refl (λ (at : Option ℕ). refl) some paper
      where
        made : Option ℕ → Drawn
        made at = alone stamp (entries.Invited (unwrap_or at 0) (unwrap_or user 0))

        asked : Option ℕ → Result Drawn Rule
        asked at =
            judged (invite_checks (standing_here at) (paper_told (is_some at) at)
            (seats.target_of seen t.invites (at_some (is_conflicted_in t.ties user) at) at mine)
            (seats.invited_at t.invites at mine)) (made at)

        due : Bool → Option ℕ → Result Drawn Rule
        due there at =
            judged (invite_checks (standing_here at) (paper_told there at) (asked_at t maker at user)
            (at_some (is_invited_in t.invites user) at)) (made at)

        some : (p : ℕ) → asked (Some p) ≡ due true (Some p)
        some p =
            let told_of : Option Target → Bool → Result Drawn Rule = λ target invited.
            judged (invite_checks (standing_here (Some p)) (paper_told true (Some p)) target invited) (made (Some p)) in
            target-judged (Some p) user
            (λ (o : Option (ℕ × Role)). told_of (seats.target_of seen t.invites (is_conflicted_in t.ties user p)
            (Some p) o) (seats.invited_at t.invites (Some p) o))
            (λ (o : Option Target). told_of o (is_invited_in t.invites user p))
            refl
            (λ (v : ℕ) (role : Role) is.
            ap
            (λ (u : Option ℕ). told_of (seats.target_of seen t.invites (is_conflicted_in t.ties u p) (Some p)
            (Some (v, role))) (is_invited_in t.invites (Some v) p)) is
            ∙ ap (λ (u : Option ℕ). told_of (Some (asked_for (Some p) (Some v) role)) (is_invited_in t.invites u p))
            (sym is))

    -- and its end: nor whether she is in conflict with the paper, but whether she reviews it
    pub uninvitation-drawn : (seen : SeatsState) → seen ≡ t.seats → (invites : InvitesState) → invites ≡ t.invites
        → (kept : Result (Unit {0}) Rule)
        → kept ≡ judged (uninvite_checks named.by told (seats.target_of seen invites false named.paper target)
        (seats.invited_at invites named.paper target)) tt
        → made_of (λ (done : Unit {0}). alone stamp (entries.Uninvited (unwrap_or named.paper 0) (unwrap_or user 0)))
        kept
        ≡ resolved_by_role t (resolved_by stamp (commands.Uninvite paper user))
    uninvitation-drawn seen same invites asks kept judges =
        judged-made (uninvite_checks named.by told (seats.target_of seen invites false named.paper target)
        (seats.invited_at invites named.paper target))
        (λ (done : Unit {0}). made named.paper) tt kept judges
        ∙ ap
        (λ (x : SeatsState). judged (uninvite_checks named.by told
        (seats.target_of x invites false named.paper target) (seats.invited_at invites named.paper target))
        (made named.paper)) same
        ∙ ap
        (λ (x : InvitesState). judged (uninvite_checks named.by told
        (seats.target_of t.seats x false named.paper target) (seats.invited_at x named.paper target))
        (made named.paper)) asks
        ∙ ap
        (λ (o : Option (ℕ × Role)). judged (uninvite_checks named.by told
        (seats.target_of t.seats t.invites false named.paper o) (seats.invited_at t.invites named.paper o))
        (made named.paper)) has
        ∙ ap (λ (n : Named). judged (uninvite_checks n.by (record { there = is_some n.paper; withdrawn = n.withdrawn })
        (seats.target_of t.seats t.invites false n.paper mine) (seats.invited_at t.invites n.paper mine))
        (made n.paper)) given
        ∙ there-judged t.papers asked due refl (λ (at : Option ℕ). refl) some paper
      where
        made : Option ℕ → Drawn
        made at = alone stamp (entries.Uninvited (unwrap_or at 0) (unwrap_or user 0))

        asked : Option ℕ → Result Drawn Rule
        asked at =
            judged (uninvite_checks (standing_here at) (paper_told (is_some at) at)
            (seats.target_of t.seats t.invites false at mine) (seats.invited_at t.invites at mine)) (made at)

        due : Bool → Option ℕ → Result Drawn Rule
        due there at =
            judged (uninvite_checks (standing_here at) (paper_told there at) (asked_at t maker at user)
            (at_some (is_invited_in t.invites user) at)) (made at)

        some : (p : ℕ) → asked (Some p) ≡ due true (Some p)
        some p =
            let told_of : Option Target → Bool → Result Drawn Rule = λ target invited.
            judged (uninvite_checks (standing_here (Some p)) (paper_told true (Some p)) target invited)
            (made (Some p)) in
            target-judged (Some p) user
            (λ (o : Option (ℕ × Role)). told_of (seats.target_of t.seats t.invites false (Some p) o)
            (seats.invited_at t.invites (Some p) o))
            (λ (o : Option Target). told_of o (is_invited_in t.invites user p))
            refl
            (λ (v : ℕ) (role : Role) is. ap (λ (u : Option ℕ). told_of (Some (asked_for (Some p) (Some v) role))
            (is_invited_in t.invites u p)) (sym is))
