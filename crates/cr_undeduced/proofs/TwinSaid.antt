-- SPDX-License-Identifier: Apache-2.0 OR MIT
-- So what a user may do at the paper, the other may where they have each other's place; and all else may be done as
-- before.
use Rattle.std.proofs.Common.{ℕ, true, ◌≡◌, ◌+◌, List, length, refl, sym, ap, ◌∙◌}
use Rattle.std.proofs.Common.{Option, Some, None, eqb, ◌||◌, ◌&&◌}
use Rattle.std.specs.Prelude.{not, nat_lt, nat_le, is_none, is_some, count_by}
use Rattle.std.specs.List.{list_any, list_all}
use Rattle.cr_base.specs.declared.command.Command.{Command}
use Rattle.cr_base.specs.declared.command.Command.TheVariants as commands
use Rattle.cr_base.specs.declared.reply.AccountLine.{AccountLine}
use Rattle.cr_base.specs.declared.words.Phase.{Phase}
use Rattle.cr_base.specs.declared.words.Phase.TheVariants.{Setup, Submission, Bidding, Reviewing, Response}
use Rattle.cr_base.specs.declared.words.Phase.TheVariants.{Discussion, Notification, Closed}
use Rattle.cr_base.specs.History.{History}
use Rattle.cr_base.specs.HistoryFacts.{phase_of, deadline_of, role_of, is_author, own_comments_of}
use Rattle.cr_base.specs.Lists.{is_number, is_nothing}
use Rattle.cr_policy.specs.Sentences.{now, is_it, comes_behind, before_bidding, committee_at_work, is_over, in_time}
use Rattle.cr_policy.specs.Sentences.{meets, lasts_or_comes_in, is_above, is_members, is_chairs}
use Rattle.cr_policy.specs.Sentences.{on_committee, chairs, has_two_chairs, is_live, wrote, in_conflict}
use Rattle.cr_policy.specs.Sentences.{is_eligible, administers, has_part, may_have_it, reviews}
use Rattle.cr_policy.specs.Sentences.{of_some, user_named, is_for_chairs_alone}
use Rattle.cr_permissions.specs.MayDo.{may_do, may_declare, may_take_back, may_assign, may_unassign, has_written}
use Rattle.cr_permissions.specs.MayDo.{may_invite, may_uninvite, may_change, may_bid, may_review, may_tag, may_decide}
use Rattle.cr_permissions.specs.MayDo.{may_comment}
use Rattle.cr_undeduced.specs.Twins.{Twins, placed, twinned}
use Rattle.cr_undeduced.proofs.TwinFacts.{placed-eqb, phase-twin, deadline-twin, role-twin, papers-twin}
use Rattle.cr_undeduced.proofs.TwinFacts.{number-twin, accounts-twin, authors-twin, withdrawn-twin, forms-twin}
use Rattle.cr_undeduced.proofs.TwinFacts.{own_papers-twin, own_bytes-twin, response-twin, labels-twin, conflict-twin}
use Rattle.cr_undeduced.proofs.TwinFacts.{ordinal-twin, invited-twin}

-- the command stays who gives it, whatever its paper
abbrev pub IsStaying : Command → Type 0
IsStaying (commands.SetConflict paper name on) = ⊥
IsStaying (commands.Bid paper value) = ⊥
IsStaying (commands.Assign paper name kind) = ⊥
IsStaying (commands.Unassign paper name) = ⊥
IsStaying (commands.Review paper form) = ⊥
IsStaying (commands.Comment paper text) = ⊥
IsStaying (commands.Tag paper tag on) = ⊥
IsStaying (commands.Decide paper decision) = ⊥
IsStaying (commands.Invite paper name) = ⊥
IsStaying (commands.Uninvite paper name) = ⊥
IsStaying command = Unit {0}

module _ (t : Twins) (A : History) where
  abbrev B : History
  B = twinned t A

  -- ---- the conference

  now-twin : (phase : Phase) → now phase A ≡ now phase B
  now-twin phase = ap (is_it phase) (sym (phase-twin t A))

  before-twin : before_bidding A ≡ before_bidding B
  before-twin = λ i. now-twin Setup i || now-twin Submission i

  working-twin : committee_at_work A ≡ committee_at_work B
  working-twin = λ i. now-twin Bidding i || now-twin Reviewing i || now-twin Response i || now-twin Discussion i

  over-twin : is_over A ≡ is_over B
  over-twin = λ i. now-twin Notification i || now-twin Closed i

  in_time-twin : (at : ℕ) → in_time at A ≡ in_time at B
  in_time-twin at =
      ap (λ (phase : Phase). meets at (deadline_of phase A)) (sym (phase-twin t A))
      ∙ ap (meets at) (sym (deadline-twin t A (phase_of B)))

  stands-twin : (p : ℕ) → is_live p A ≡ is_live p B
  stands-twin p =
      λ i. list_any (λ q. eqb q p) (sym (papers-twin t A) i) && not (sym (withdrawn-twin t A p) i)

  members-stay : (u : ℕ) → on_committee u A ≡ on_committee u B
  members-stay u = ap is_members (sym (role-twin t A (Some u)))

  chairs-stay : (u : ℕ) → chairs u A ≡ chairs u B
  chairs-stay u = ap is_chairs (sym (role-twin t A (Some u)))

  two-stay : has_two_chairs A ≡ has_two_chairs B
  two-stay = ap (λ (lines : List AccountLine). nat_le 2 (count_by (λ (a : AccountLine). is_chairs a.role) lines))
      (sym (accounts-twin t A))

  wrote-stay : (u p : ℕ) → wrote u p A ≡ wrote u p B
  wrote-stay u p = ap (list_any (is_number (Some u))) (sym (authors-twin t A p))

  pub named-stay : (name : Option (List ℕ)) → user_named name A ≡ user_named name B
  named-stay None = refl
  named-stay (Some name) = sym (number-twin t A name)

  -- ---- commands that stay who gives them

  module _ (u at : ℕ) where
    change-stay : (p : ℕ) → may_change u at A p ≡ may_change u at B p
    change-stay p = λ i. stands-twin p i && wrote-stay u p i && now-twin Submission i && in_time-twin at i

    register-stay : (name digest : List ℕ)
        → may_do (Some u) at A (commands.Register name digest) ≡ may_do (Some u) at B (commands.Register name digest)
    register-stay name digest =
        λ i. is_none (sym (number-twin t A name) i) && nat_lt (length (sym (accounts-twin t A) i)) 9999

    submit-stay : (title abstract : List ℕ) (names : List (Option (List ℕ)))
        → may_do (Some u) at A (commands.Submit title abstract names)
        ≡ may_do (Some u) at B (commands.Submit title abstract names)
    submit-stay title abstract names =
        λ i. now-twin Submission i && in_time-twin at i
        && list_all (λ name. of_some (named-stay name i) (λ v. true)) names
        && nat_lt (length (sym (papers-twin t A) i)) 9999 && nat_lt (sym (own_papers-twin t A (Some u)) i) 20

    -- all but those at a paper that may change hands
    pub may-stay : (command : Command) → IsStaying command
        → may_do (Some u) at A command ≡ may_do (Some u) at B command
    may-stay (commands.Register name digest) is = register-stay name digest
    may-stay (commands.SetPhase to) is = λ i. chairs-stay u i && comes_behind (sym (phase-twin t A) i) to
    may-stay (commands.SetDeadline phase until) is =
        λ i. chairs-stay u i && lasts_or_comes_in phase (sym (phase-twin t A) i)
    may-stay (commands.Submit title abstract names) is = submit-stay title abstract names
    may-stay (commands.Revise paper title abstract) is = λ i. of_some paper (λ p. change-stay p i)
    may-stay (commands.Upload paper content) is =
        λ i. of_some paper
        (λ p. change-stay p i && nat_le (sym (own_bytes-twin t A (Some u)) i + length content) 67108864)
    may-stay (commands.Withdraw paper) is = λ i. of_some paper (λ p. change-stay p i)
    may-stay (commands.Name name role) is =
        λ i. of_some (named-stay name i)
        (λ v. chairs-stay u i && not (over-twin i) && is_above role (sym (role-twin t A (Some v)) i))
    may-stay (commands.SetMode to) is = λ i. chairs-stay u i && now-twin Setup i
    may-stay (commands.Dismiss name) is =
        λ i. of_some (named-stay name i)
        (λ v. chairs-stay u i && not (over-twin i) && members-stay v i && (not (chairs-stay v i) || two-stay i))
    may-stay (commands.Respond paper text) is =
        λ i. of_some paper
        (λ p. stands-twin p i && wrote-stay u p i && now-twin Response i && in_time-twin at i
        && is_none (sym (response-twin t A p) i))
    may-stay command is = absurd is

  -- ---- at a paper

  module _ (p : ℕ) where
    abbrev other : ℕ → ℕ
    other v = placed t p v

    -- the user and who has her place have the same role, and wrote the paper or didn't alike
    pub record OfUser (v : ℕ) : Type 0 where
      pub role : role_of (Some v) A ≡ role_of (Some (placed t p v)) A
      pub author : is_author (Some v) p A ≡ is_author (Some (placed t p v)) p A

    module _ (v : ℕ) (of : OfUser v) where
      members-twin : on_committee v A ≡ on_committee (other v) B
      members-twin = ap is_members of.role ∙ members-stay (other v)

      chairs-twin : chairs v A ≡ chairs (other v) B
      chairs-twin = ap is_chairs of.role ∙ chairs-stay (other v)

      wrote-twin : wrote v p A ≡ wrote (other v) p B
      wrote-twin = of.author ∙ wrote-stay (other v) p

      conflicted-twin : in_conflict v p A ≡ in_conflict (other v) p B
      conflicted-twin = λ i. wrote-twin i || sym (conflict-twin t A (Some v) p) i

      eligible-twin : is_eligible v p A ≡ is_eligible (other v) p B
      eligible-twin = λ i. members-twin i && not (conflicted-twin i)

      administers-twin : administers v p A ≡ administers (other v) p B
      administers-twin = λ i. chairs-twin i && not (conflicted-twin i)

      part-twin : has_part v p A ≡ has_part (other v) p B
      part-twin = λ i. members-twin i || (not (members-twin i) && sym (invited-twin t A (Some v) p) i)

      may_have-twin : may_have_it v p A ≡ may_have_it (other v) p B
      may_have-twin = λ i. part-twin i && not (conflicted-twin i)

      reviews-twin : reviews v p A ≡ reviews (other v) p B
      reviews-twin = ap is_some (sym (ordinal-twin t A (Some v) p))

      written-twin : has_written v p A ≡ has_written (other v) p B
      written-twin =
          λ i. of_some (sym (ordinal-twin t A (Some v) p) i) (λ o. not (is_nothing (sym (forms-twin t A p o) i)))

    module _ (u at : ℕ) (by_user : OfUser u) where
      pub bid-twin : may_bid u at A p ≡ may_bid (other u) at B p
      bid-twin = λ i. stands-twin p i && eligible-twin u by_user i && now-twin Bidding i && in_time-twin at i

      pub review-twin : may_review u at A p ≡ may_review (other u) at B p
      review-twin =
          λ i. stands-twin p i && may_have-twin u by_user i && reviews-twin u by_user i
          && (now-twin Reviewing i || now-twin Discussion i) && in_time-twin at i

      -- but for how many she has written
      pub comment-twin : (few : nat_lt (own_comments_of (Some u) A) 1000 ≡ nat_lt (own_comments_of (Some (other u)) B) 1000)
          → may_comment u at A p ≡ may_comment (other u) at B p
      comment-twin few =
          λ i. stands-twin p i && eligible-twin u by_user i && now-twin Discussion i && in_time-twin at i && few i

      pub tag-twin : (tag : List ℕ) → may_tag u A tag p ≡ may_tag (other u) B tag p
      tag-twin tag =
          λ i. stands-twin p i && eligible-twin u by_user i && working-twin i
          && (chairs-twin u by_user i || not (is_for_chairs_alone tag))

      pub decide-twin : may_decide u A p ≡ may_decide (other u) B p
      decide-twin = λ i. stands-twin p i && administers-twin u by_user i && now-twin Discussion i

      module _ (v : ℕ) (of : OfUser v) where
        pub declare-twin : may_declare u at A p v ≡ may_declare (other u) at B p (other v)
        declare-twin =
            λ i. stands-twin p i
            && ((before-twin i && in_time-twin at i && wrote-twin u by_user i && members-twin v of i)
            || (working-twin i && ((sym (placed-eqb t p v u) i && members-twin v of i)
            || (administers-twin u by_user i && part-twin v of i))))

        pub take_back-twin : may_take_back u A p v ≡ may_take_back (other u) B p (other v)
        take_back-twin =
            λ i. stands-twin p i && administers-twin u by_user i && working-twin i && part-twin v of i
            && not (wrote-twin v of i)

        pub assign-twin : may_assign u A p v ≡ may_assign (other u) B p (other v)
        assign-twin =
            λ i. stands-twin p i && administers-twin u by_user i && working-twin i && may_have-twin v of i
            && not (reviews-twin v of i) && nat_lt (sym (labels-twin t A p) i) 26

        pub unassign-twin : may_unassign u A p v ≡ may_unassign (other u) B p (other v)
        unassign-twin =
            λ i. stands-twin p i && administers-twin u by_user i && working-twin i && reviews-twin v of i
            && not (written-twin v of i)

        pub invite-twin : may_invite u A p v ≡ may_invite (other u) B p (other v)
        invite-twin =
            λ i. stands-twin p i && administers-twin u by_user i && working-twin i && not (members-twin v of i)
            && not (conflicted-twin v of i) && not (sym (invited-twin t A (Some v) p) i)

        pub uninvite-twin : may_uninvite u A p v ≡ may_uninvite (other u) B p (other v)
        uninvite-twin =
            λ i. stands-twin p i && administers-twin u by_user i && working-twin i
            && sym (invited-twin t A (Some v) p) i && not (reviews-twin v of i)
