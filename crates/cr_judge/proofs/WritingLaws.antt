-- SPDX-License-Identifier: Apache-2.0 OR MIT
-- What is written on a paper, by reads of the tables.
use Rattle.std.proofs.Common.{ℕ, Bool, true, ◌≡◌, ◌+◌, length, refl, sym, ap, ◌∙◌, Option, Some, None, Result}
use Rattle.std.proofs.Common.{Ok}
use Rattle.std.specs.Prelude.{IsSome, List, is_some, map, unwrap_or}
use Rattle.std.specs.Option.{option_and_then}
use Rattle.std.proofs.lemmas.Bool.{true≢false, not-false}
use Rattle.std.proofs.lemmas.List.{length-map}
use Rattle.cr_base.specs.declared.entry.Entry.TheVariants as entries
use Rattle.cr_base.specs.Drawn.{alone}
use Rattle.cr_base.specs.declared.resolved.ResolvedCommand.TheVariants.{Review, Respond, Comment}
use Rattle.cr_base.specs.declared.entry.Stamp.{Stamp}
use Rattle.cr_base.specs.declared.form.Form.{Form}
use Rattle.cr_base.specs.declared.reply.Rule.{Rule}
use Rattle.cr_base.specs.declared.standing.Standing.{Standing}
use Rattle.cr_base.specs.Calls.{resolved_by}
use Rattle.cr_base.specs.Checks.{NamedPaper, judged, review_checks, respond_checks, comment_checks}
use Rattle.cr_base.specs.Drawn.{Drawn}
use Rattle.cr_base.specs.Judging.{resolved_by_role}
use Rattle.cr_base.specs.Lists.{at_some}
use Rattle.cr_base.specs.Papers.{is_withdrawn_at}
use Rattle.cr_base.specs.Reviews.{ReviewsState}
use Rattle.cr_base.specs.Seats.{ordinal_in}
use Rattle.cr_base.specs.Sources.{own_forms_in, standing_at}
use Rattle.cr_base.specs.Stage.{is_late_in}
use Rattle.cr_base.specs.Tables.{Tables}
use Rattle.cr_base.specs.Talk.{TalkState, comments_in, comment_as_told, own_comments_in, response_in}
use Rattle.cr_base.proofs.CheckLaws.{judged-Ok}
use Rattle.cr_reviews.specs.Under.{forms_by}
use Rattle.cr_view.proofs.JudgeLaws.{made_of, judged-made}
use Rattle.cr_judge.specs.declared.named.Named.{Named}
use Rattle.cr_judge.specs.Named.{there_in, named_at}
use Rattle.cr_judge.proofs.NamedLaws.{numbered-drawn, there-judged}

-- a response: that one of the paper was given is asked of its number
pub response-drawn : (t : Tables) (stamp : Stamp) (paper : Option ℕ) (named : Named)
    → named ≡ named_at t stamp.maker (there_in t.papers paper)
    → (text : List ℕ) (late : Bool) → late ≡ is_late_in t.stage stamp.at → (seen : TalkState) → seen ≡ t.talk
    → (r : Result (Unit {0}) Rule)
    → r ≡ judged (respond_checks named.by (record { there = is_some named.paper; withdrawn = named.withdrawn })
    (is_some (response_in seen (unwrap_or named.paper 0))) late) tt
    → made_of (λ (done : Unit {0}). alone stamp (entries.Responded (unwrap_or named.paper 0) text)) r
    ≡ resolved_by_role t (resolved_by stamp (Respond paper text))
response-drawn t stamp paper named given text late when seen same r judges =
    judged-made (respond_checks named.by told (responded named.paper) past) (λ (done : Unit {0}). made named.paper) tt r
    (judges
    ∙ ap (λ (b : Bool). judged (respond_checks named.by told (is_some (response_in seen (unwrap_or named.paper 0))) b)
    tt) when
    ∙ ap
    (λ (x : TalkState). judged (respond_checks named.by told (is_some (response_in x (unwrap_or named.paper 0))) past)
    tt) same)
    ∙ ap
    (λ (n : Named). judged (respond_checks n.by (record { there = is_some n.paper; withdrawn = n.withdrawn })
    (responded n.paper) past) (made n.paper)) given
    ∙ there-judged t.papers asked due refl (λ (at : Option ℕ). refl) (λ (p : ℕ). refl) paper
  where
    told : NamedPaper
    told = record { there = is_some named.paper; withdrawn = named.withdrawn }

    past : Bool
    past = is_late_in t.stage stamp.at

    responded : Option ℕ → Bool
    responded at = is_some (response_in t.talk (unwrap_or at 0))

    made : Option ℕ → Drawn
    made at = alone stamp (entries.Responded (unwrap_or at 0) text)

    due : Bool → Option ℕ → Result Drawn Rule
    due there at =
        judged (respond_checks (standing_at t (Some stamp.maker) at)
        (record { there = there; withdrawn = at_some (is_withdrawn_at t.papers) at }) (responded at) past)
        (made at)

    asked : Option ℕ → Result Drawn Rule
    asked at = due (is_some at) at

module _ (t : Tables) (stamp : Stamp) (paper : Option ℕ) (named : Named)
    (given : named ≡ named_at t stamp.maker (there_in t.papers paper))
    (ordinal : Option ℕ) (held : ordinal ≡ option_and_then (ordinal_in t.seats (Some stamp.maker)) named.paper) where
  abbrev told : NamedPaper
  told = record { there = is_some named.paper; withdrawn = named.withdrawn }

  -- the label under which she reviews the paper, where it is there
  abbrev seat : Option ℕ → Option ℕ
  seat at = option_and_then (ordinal_in t.seats (Some stamp.maker)) at

  pub review-drawn : (form : Form) (late : Bool) → late ≡ is_late_in t.stage stamp.at → (seen : ReviewsState)
      → seen ≡ t.reviews → (r : Result ℕ Rule)
      → r ≡ judged (review_checks named.by told late) (length (forms_by seen (unwrap_or named.paper 0) ordinal) + 1)
      → made_of (λ (version : ℕ). alone stamp (entries.Reviewed (unwrap_or named.paper 0) (unwrap_or ordinal 0) version
      form)) r
      ≡ resolved_by_role t (resolved_by stamp (Review paper form))
  review-drawn form late when seen same r judges =
      ap
      (λ (o : Option ℕ). made_of (λ (version : ℕ). alone stamp (entries.Reviewed (unwrap_or named.paper 0) (unwrap_or o
      0) version form)) r) held
      ∙ numbered-drawn t stamp.maker paper named given
      (λ (s : Standing) (p : NamedPaper). review_checks s p (is_late_in t.stage stamp.at))
      (λ (s : Standing) (w : Bool) (x : Drawn). refl)
      (λ (at : Option ℕ) (version : ℕ). alone stamp (entries.Reviewed (unwrap_or at 0) (unwrap_or (seat at) 0) version
      form))
      (λ (at : Option ℕ). length (forms_by t.reviews (unwrap_or at 0) (seat at)) + 1)
      (λ (at : Option ℕ). let p : ℕ = unwrap_or at 0 in alone stamp (entries.Reviewed p (unwrap_or (ordinal_in t.seats
      (Some stamp.maker) p) 0) (length (own_forms_in t (Some stamp.maker) p) + 1) form))
      (λ (p : ℕ). refl) r
      (judges
      ∙ ap (λ (b : Bool). judged (review_checks named.by told b)
      (length (forms_by seen (unwrap_or named.paper 0) ordinal) + 1)) when
      ∙ ap (λ (o : Option ℕ). judged (review_checks named.by told (is_late_in t.stage stamp.at))
      (length (forms_by seen (unwrap_or named.paper 0) o) + 1)) held
      ∙ ap (λ (x : ReviewsState). judged (review_checks named.by told (is_late_in t.stage stamp.at))
      (length (forms_by x (unwrap_or named.paper 0) (seat named.paper)) + 1)) same)

  -- where no rule is broken, she reviews it
  pub is-seated : (late : Bool) (x given : ℕ)
      → ◌≡◌ {A = Result ℕ Rule} (Ok given) (judged (review_checks named.by told late) x) → IsSome ordinal
  is-seated late x given' h = by ordinal (reviews ∙ ap is_some (sym held))
    where
      seated : (at : Option ℕ) → (standing_at t (Some stamp.maker) at).reviewer ≡ is_some (seat at)
      seated None = refl
      seated (Some p) = refl

      reviews : true ≡ is_some (seat named.paper)
      reviews =
          sym (not-false named.by.reviewer (judged-Ok (review_checks named.by told late) x given' (sym h)).0.1.1.1.0)
          ∙ ap (λ (n : Named). n.by.reviewer) given
          ∙ seated (there_in t.papers paper)
          ∙ ap (λ (n : Named). is_some (seat n.paper)) (sym given)

      by : (o : Option ℕ) → true ≡ is_some o → IsSome o
      by None is = absurd (true≢false is)
      by (Some o) is = refl

  -- a comment is numbered by how many are kept
  pub comment-drawn : (text : List ℕ) (late : Bool) → late ≡ is_late_in t.stage stamp.at → (seen : TalkState)
      → seen ≡ t.talk → (r : Result ℕ Rule)
      → r ≡ judged (comment_checks named.by told (own_comments_in seen (Some stamp.maker)) late)
      (length (comments_in seen (unwrap_or named.paper 0)) + 1)
      → made_of (λ (n : ℕ). alone stamp (entries.Commented (unwrap_or named.paper 0) n ordinal text)) r
      ≡ resolved_by_role t (resolved_by stamp (Comment paper text))
  comment-drawn text late when seen same r judges =
      ap (λ (o : Option ℕ). made_of (λ (n : ℕ). alone stamp (entries.Commented (unwrap_or named.paper 0) n o text)) r)
      held
      ∙ numbered-drawn t stamp.maker paper named given
      (λ (s : Standing) (p : NamedPaper). comment_checks s p (own_comments_in t.talk (Some stamp.maker))
      (is_late_in t.stage stamp.at))
      (λ (s : Standing) (w : Bool) (x : Drawn). refl)
      (λ (at : Option ℕ) (n : ℕ). alone stamp (entries.Commented (unwrap_or at 0) n (seat at) text))
      (λ (at : Option ℕ). length (comments_in t.talk (unwrap_or at 0)) + 1)
      (λ (at : Option ℕ). let p : ℕ = unwrap_or at 0 in alone stamp (entries.Commented p (length (map comment_as_told
      (comments_in t.talk p)) + 1) (ordinal_in t.seats (Some stamp.maker) p) text))
      (λ (p : ℕ). ap (λ (n : ℕ). alone stamp (entries.Commented p (n + 1) (ordinal_in t.seats (Some stamp.maker) p)
      text))
      (sym (length-map (comments_in t.talk p) comment_as_told))) r
      (judges
      ∙ ap (λ (b : Bool). judged (comment_checks named.by told (own_comments_in seen (Some stamp.maker)) b)
      (length (comments_in seen (unwrap_or named.paper 0)) + 1)) when
      ∙ ap
      (λ (x : TalkState). judged (comment_checks named.by told (own_comments_in x (Some stamp.maker))
      (is_late_in t.stage stamp.at)) (length (comments_in x (unwrap_or named.paper 0)) + 1)) same)
