-- SPDX-License-Identifier: Apache-2.0 OR MIT
-- What a view says of comments is what the history says, where the reader's standing tells them.
use Rattle.std.proofs.Common.{◌≡◌, ℕ, Bool, true, false, cond, List, [], ◌∷◌, ◌++◌, refl, sym, ap, subst, ◌∙◌, ◌≤◌}
use Rattle.std.proofs.Common.{◌||◌, ◌&&◌, Option, Some, None, eqb, arith}
use Rattle.std.specs.Prelude.{map, not, unwrap_or}
use Rattle.std.specs.List.{All, flat_map}
use Rattle.std.specs.Option.{option_and_then}
use Rattle.std.proofs.lemmas.Bool.{eqb-true}
use Rattle.std.proofs.lemmas.List.Elements.{All-head, All-tail}
use Rattle.cr_base.specs.declared.comment.CommentLine.{CommentLine}
use Rattle.cr_base.specs.declared.entry.Entry.{Entry}
use Rattle.cr_base.specs.declared.entry.Entry.TheVariants.{Commented}
use Rattle.cr_base.specs.declared.entry.Stamp.{Stamp}
use Rattle.cr_base.specs.declared.entry.Stamped.{Stamped}
use Rattle.cr_base.specs.declared.reply.AccountLine.{AccountLine}
use Rattle.cr_base.specs.declared.standing.Standing.{Standing}
use Rattle.cr_base.specs.Answering.{comment_line}
use Rattle.cr_base.specs.Lists.{given}
use Rattle.cr_base.specs.Drawn.{stamped}
use Rattle.cr_base.specs.History.{History, CommentTold, comment_told}
use Rattle.cr_base.specs.HistoryFacts.{phase_of, standing_of, comments_of}
use Rattle.cr_base.specs.Page.{is_clear_member, shows_writer}
use Rattle.cr_base.specs.Phases.{members_read_comments}
use Rattle.cr_base.specs.Rows.{label_number, IsBoundedEntry}
use Rattle.cr_base.specs.Sources.{name_in}
use Rattle.cr_base.specs.Words.{is_anonymous, is_chair, is_member}
use Rattle.cr_policy.specs.Part as part
use Rattle.cr_policy.specs.Sighting.{Sighting, where_shown}
use Rattle.cr_policy.specs.Triggers.{Reader, reader, Around, user_named}
use Rattle.cr_policy.specs.View.{view, sight, is_seen, joined}
use Rattle.cr_policy.specs.ViewFacts.{only, label_shown, comment_shown, comment_seen, comments_in_view}
use Rattle.cr_policy.proofs.ReviewerTells.{same_key}
use Rattle.cr_policy.proofs.Tells.{passes, seen_where, silent}
use Rattle.cr_policy.proofs.Walk.{only-false, map-flat_map, flat_map-given, sights-all, TellsAll}

-- ---- all comments on a paper, as some are told them

-- a comment with its label as a sighting can tell it
abbrev label_told : Option ℕ → Option ℕ
label_told ordinal = label_shown (Some (unwrap_or ordinal 0))

abbrev comment_numbered : ℕ → ℕ → Entry → List CommentTold
comment_numbered p maker (Commented paper n ordinal text) =
    given (eqb paper p) (record { n = n; writer = Some maker; ordinal = label_told ordinal; text = text })
comment_numbered p maker e = []

comment_value : {B : Type 0} (m : CommentTold → B) (same seen shown : Bool) (n : ℕ) (writer ordinal : Option ℕ)
    (text : List ℕ) (told : CommentTold)
    → (same ≡ true → (seen ≡ true) × (shown ≡ true)
    × (m (record { n = n; writer = writer; ordinal = label_shown ordinal; text = text }) ≡ m told))
    → only seen
    (map m (only same (comment_shown (where_shown shown (Some n)) writer ordinal (where_shown shown (Some text)))))
    ≡ map m (given same told)
comment_value m true seen shown n writer ordinal text told h =
    let parts = h refl in
    ap
    (λ b.
    only b
    (map m (only true (comment_shown (where_shown shown (Some n)) writer ordinal (where_shown shown (Some text))))))
    parts.0
    ∙ ap
    (λ b.
    only true
    (map m (only true (comment_shown (where_shown b (Some n)) writer ordinal (where_shown b (Some text)))))) parts.1
    ∙ ap (λ x. x ∷ []) parts.2
comment_value m false seen shown n writer ordinal text told h =
    ap (λ xs. only seen (map m xs))
    (only-false (comment_shown (where_shown shown (Some n)) writer ordinal (where_shown shown (Some text))))

module _ {B : Type 0} (m : CommentTold → B) (r : Reader) (at : Around) where
  -- each comment on the paper is shown, and what is shown of it is as good as all of it, for one who is told it so
  abbrev ShowsComment : ℕ → Type 0
  ShowsComment p =
      (stamp : Stamp) (more : Bool) (n : ℕ) (ordinal : Option ℕ) (text : List ℕ)
      → (passes part.n r at (stamped stamp more (Commented p n ordinal text)) ≡ true)
      × (m (record {
        n = n;
        writer = where_shown (passes part.by r at (stamped stamp more (Commented p n ordinal text))) (Some stamp.maker);
        ordinal =
            label_shown (where_shown (passes part.ordinal r at (stamped stamp more (Commented p n ordinal text)))
            (Some (unwrap_or ordinal 0)));
        text = text;
      }) ≡ m (record { n = n; writer = Some stamp.maker; ordinal = label_told ordinal; text = text }))

  comment_at : (p : ℕ) → ShowsComment p → (stamp : Stamp) (more : Bool) (e : Entry)
      → flat_map (λ (s : Sighting). map m (comment_seen p s)) (sight r at (stamped stamp more e))
      ≡ map m (comment_numbered p stamp.maker e)
  comment_at p shown stamp more (Commented paper n ordinal text) =
      let e : Stamped = stamped stamp more (Commented paper n ordinal text) in
      flat_map-given (λ (s : Sighting). map m (comment_seen p s)) (is_seen r at e) (joined r at e)
      ∙ comment_value m (eqb paper p) (is_seen r at e) (passes part.n r at e) n
      (where_shown (passes part.by r at e) (Some stamp.maker))
      (where_shown (passes part.ordinal r at e) (Some (unwrap_or ordinal 0))) text
      (record { n = n; writer = Some stamp.maker; ordinal = label_told ordinal; text = text })
      (λ same.
      let hers = subst (λ (n : ℕ). ShowsComment n) (sym (eqb-true paper p same)) shown stamp more n ordinal text in
      (seen_where r at part.n e hers.0, hers.0, hers.1))
  comment_at p shown stamp more e = silent r at stamp more (λ (s : Sighting). map m (comment_seen p s)) e refl

comment_tells : {B : Type 0} (m : CommentTold → B) (r : Reader) (p : ℕ) → ((at : Around) → ShowsComment m r at p)
    → TellsAll r (λ (s : Sighting). map m (comment_seen p s))
    (λ (e : Stamped). map m (comment_numbered p e.stamp.maker e.entry))
comment_tells m r p shown at e = comment_at m r at p (shown at) e.stamp e.more e.entry

-- ---- labels within their bounds

-- an ordinal that a row has is a label's
numbered-label : (ordinal : Option ℕ) → label_number ordinal ≤ 26 → label_told ordinal ≡ ordinal
numbered-label None few = refl
numbered-label (Some o) few = by (eqb o 0) few
  where
    by : (b : Bool) → cond b 27 o ≤ 26 → cond b None (Some o) ≡ Some o
    by true few = absurd (omega (arith, few))
    by false few = refl

-- so where each entry has a row, a comment with its label as a sighting can tell it is the comment
numbered-told : (p : ℕ) (H : History) → All IsBoundedEntry H
    → flat_map (λ (e : Stamped). comment_numbered p e.stamp.maker e.entry) H ≡ comments_of p H
numbered-told p [] bounded = refl
numbered-told p (e ∷ H) bounded =
    ap (λ xs. xs ++ flat_map (λ (e : Stamped). comment_numbered p e.stamp.maker e.entry) H)
    (one e.stamp e.more e.entry (All-head IsBoundedEntry e H bounded))
    ∙ ap (λ xs. comment_told p e.stamp.maker e.entry ++ xs) (numbered-told p H (All-tail IsBoundedEntry e H bounded))
  where
    one : (stamp : Stamp) (more : Bool) (e : Entry) → IsBoundedEntry (stamped stamp more e)
        → comment_numbered p stamp.maker e ≡ comment_told p stamp.maker e
    one stamp more (Commented paper n ordinal text) fits =
        ap (λ (label : Option ℕ). given (eqb paper p)
        (record { n = n; writer = Some stamp.maker; ordinal = label; text = text }))
        (numbered-label ordinal fits.n3.1)
    one stamp more e fits = refl

-- ---- what a view says of comments

-- who discusses the paper sees each comment on it, and of its writer what the standing tells
module _ (u : Option ℕ) (p : ℕ) (H : History) (accounts : List AccountLine)
    (clear : is_clear_member (standing_of u (Some p) H) ≡ true)
    (discussed : members_read_comments (phase_of H) ≡ true) where
  abbrev by : Standing
  by = standing_of u (Some p) H

  abbrev line : CommentTold → CommentLine
  line = comment_line by accounts

  abbrev serves : Bool
  serves = is_member by.role

  abbrev chair : Bool
  chair = is_chair by.role

  abbrev anonymous : Bool
  anonymous = is_anonymous by.mode

  abbrev from_discussion : Bool
  from_discussion = members_read_comments by.phase

  comment-shown : (at : Around) → ShowsComment line (reader u H) at p
  comment-shown at stamp more n ordinal text =
      let own : Bool = user_named (reader u H) stamp.maker in
      let e : Stamped = stamped stamp more (Commented p n ordinal text) in
      let label : Bool → Option ℕ = λ b. label_shown (where_shown b (Some (unwrap_or ordinal 0))) in
      let user : Bool → Option (List ℕ) = λ b. option_and_then (name_in accounts) (where_shown b (Some stamp.maker)) in
      let labels = same_key (not (shows_writer by)) (label (passes part.ordinal (reader u H) at e)) (label true)
      (λ h. ap label (labelled serves by.conflicted from_discussion chair anonymous own clear discussed h)) in
      let users = same_key (shows_writer by) (user (passes part.by (reader u H) at e)) (user true)
      (λ h. ap user (named serves by.conflicted from_discussion chair anonymous h)) in (
        first (is_clear_member by) from_discussion _ clear discussed,
        λ i. record { label = labels i; n = n; text = text; user = users i },
      )
    where
      first : (k d rest : Bool) → k ≡ true → d ≡ true → ((k && d) || rest) ≡ true
      first k d rest hk hd = grind arith

      labelled : (k c d h a own : Bool) → (k && not c) ≡ true → d ≡ true
          → not ((k && not c) && (h || not a) && d) ≡ true
          → ((((k && not c) && d) && not ((h && not c) || not a)) || (own || false)) ≡ true
      labelled k c d h a own hk hd hn = grind arith

      named : (k c d h a : Bool) → ((k && not c) && (h || not a) && d) ≡ true
          → ((((k && not c) && d) && ((h && not c) || not a)) || false) ≡ true
      named k c d h a hw = grind arith

  pub comments-seen : All IsBoundedEntry H → map line (comments_in_view p (view u H)) ≡ map line (comments_of p H)
  comments-seen bounded =
      map-flat_map line (comment_seen p) (view u H)
      ∙ sights-all (reader u H) (λ (s : Sighting). map line (comment_seen p s))
      (λ (e : Stamped). map line (comment_numbered p e.stamp.maker e.entry))
      (comment_tells line (reader u H) p comment-shown) [] H
      ∙ sym (map-flat_map line (λ (e : Stamped). comment_numbered p e.stamp.maker e.entry) H)
      ∙ ap (map line) (numbered-told p H bounded)
