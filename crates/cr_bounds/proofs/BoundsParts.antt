-- SPDX-License-Identifier: Apache-2.0 OR MIT
-- What an entry shows, part by part, is what the bounds give: one lemma a part.
use Rattle.std.proofs.Common.{◌≡◌, ℕ, Bool, true, false, List, [], ◌∷◌, ◌++◌, refl, sym, ap, ◌∙◌, arith, ◌||◌, ◌&&◌}
use Rattle.std.proofs.Common.{Option, Some}
use Rattle.std.specs.Prelude.{not, unwrap_or}
use Rattle.std.specs.List.{list_any}
use Rattle.std.proofs.Math.Bool.{or-false}
use Rattle.cr_base.specs.declared.entry.Entry.{Entry}
use Rattle.cr_base.specs.declared.entry.Entry.TheVariants.{Registered, Withdrawn, Submitted, Coauthor, Revised}
use Rattle.cr_base.specs.declared.entry.Entry.TheVariants.{Uploaded, Conflict, Bid, Assigned, Unassigned, Invited}
use Rattle.cr_base.specs.declared.entry.Entry.TheVariants.{Uninvited, Reviewed, Commented, Tagged, Decided, Responded}
use Rattle.cr_base.specs.declared.entry.Stamp.{Stamp}
use Rattle.cr_base.specs.declared.form.Form.{Form}
use Rattle.cr_base.specs.declared.words.Phase.TheVariants.{Bidding, Response, Discussion, Notification, Closed}
use Rattle.cr_base.specs.Decisions.{is_published}
use Rattle.cr_base.specs.Lists.{is_number}
use Rattle.cr_base.specs.Drawn.{stamped}
use Rattle.cr_base.specs.History.{History, opens_response, title_told, decision_told}
use Rattle.cr_base.specs.HistoryFacts.{phase_of, mode_of, role_of, is_author, is_conflicted, is_external, is_invited}
use Rattle.cr_base.specs.HistoryFacts.{is_withdrawn, decision_of, is_accepted, had_response_of}
use Rattle.cr_base.specs.Phases.{is_from}
use Rattle.cr_base.specs.TagTexts.{is_for_all, is_for_chairs}
use Rattle.cr_base.specs.Words.{is_anonymous, is_overt, is_member, is_chair}
use Rattle.cr_policy.specs.Sighting.{Sighting, where_shown}
use Rattle.cr_policy.specs.Part as part
use Rattle.cr_policy.specs.Part.{own_parts}
use Rattle.cr_policy.specs.Triggers.{Reader, reader, Around, none_in, TriggerRow, ◌see◌, position_of, user_named}
use Rattle.cr_policy.specs.Triggers.{seat_rows, rows, applies_any, shows}
use Rattle.cr_policy.specs.View.{is_seen, joined}
use Rattle.cr_policy.proofs.RetryLaws.{key-shown}
use Rattle.cr_bounds.specs.ShownTo.{is_on_committee, is_past_submission, takes, is_in_programme, appears}
use Rattle.cr_bounds.specs.ShownTo.{is_decided_again, reads_decision, learns_outcome, is_announced, hides_reviewers}
use Rattle.cr_bounds.specs.ShownTo.{names_reviewers, serves, is_eligible, oversees, administers, discusses}
use Rattle.cr_bounds.specs.ShownTo.{is_answered}
use Rattle.cr_bounds.specs.ShownTo.{is_author_since_response, is_responded_to, is_notified, knows_writers}
use Rattle.cr_bounds.specs.ShownTo.{is_reviewed}
use Rattle.cr_bounds.specs.ShownTo.{is_discussed, reads_form, learns_form, counts_form, reads_review, is_replaced}
use Rattle.cr_bounds.specs.ShownTo.{owns}
use Rattle.cr_bounds.specs.ShownTo.{is_party, is_told, where_known, kind_for, mark_for, moment_for, key_for}
use Rattle.cr_bounds.specs.ShownTo.{paper_for}
use Rattle.cr_bounds.specs.ShownTo.{reviewer_for, user_for, name_for, digest_for, role_for, phase_for, until_for}
use Rattle.cr_bounds.specs.ShownTo.{mode_for, maker_for, title_for, abstract_for, version_for, content_for}
use Rattle.cr_bounds.specs.ShownTo.{switch_for}
use Rattle.cr_bounds.specs.ShownTo.{value_for, review_kind_for, ordinal_for, score_for, confidence_for}
use Rattle.cr_bounds.specs.ShownTo.{to_authors_for}
use Rattle.cr_bounds.specs.ShownTo.{to_pc_for, done_for, n_for, text_for, tag_for, decision_for, outcome_for}
use Rattle.cr_bounds.specs.ShownTo.{accepted_for, reads_to_judge, reads_visiting}
use Rattle.cr_bounds.proofs.BoundsWords.{member-committee, chair-leads, chair-committee, phase-words, accept-takes}
use Rattle.cr_bounds.proofs.BoundsWords.{mode-words, for-committee, for-chairs, none_in-replaced, none_in-superseded}
use Rattle.cr_bounds.proofs.BoundsWords.{none_in-reviewed, none_in-decided, discussed-same, responded-same}

-- ---- one entry

-- the table asks of a form whether the response was opened at all: it was, before it or behind it
abbrev pub IsWithin : History → Around → Entry → Type 0
IsWithin H at (Reviewed paper ordinal version form) =
    had_response_of H ≡ (list_any opens_response at.before || list_any opens_response at.after)
IsWithin H at e = Unit {0}

-- the reader is an author of the paper that she makes by this entry
abbrev pub IsWriters : Option ℕ → History → ℕ → Entry → Type 0
IsWriters u H maker (Submitted paper title abstract) = is_number u maker ≡ true → is_author u paper H ≡ true
IsWriters u H maker e = Unit {0}

known-same : {A : Type 0} (c known : Bool) (x : A) → c ≡ known → where_shown c (Some x) ≡ where_known known x
known-same c known x h = ap (λ b. where_known b x) h

-- a text is shown to the paper's authors, the last one to those who may know it and to everyone where it is public,
-- and what she made to its maker
text-known : (a n m f k own n' s p : Bool) → n ≡ n' → (m && f) ≡ s → k ≡ p
    → (a || ((n && m && f) || ((n && k) || (own || false)))) ≡ ((own || a) || (n' && (s || p)))
text-known a n m f k own n' s p hn hs hp = grind (arith, hn, hs, hp)

-- a maker who is an author of the paper is shown what an author is
own-author : (a own rest : Bool) → (own ≡ true → a ≡ true) → ((own || a) || rest) ≡ (a || rest)
own-author a true rest wrote = ap (λ b. b || rest) (sym (wrote refl))
own-author a false rest wrote = refl

-- who is told of a co-author, and who of a paper's submitter. `c` is that the reader is a chair in no conflict, `m` a
-- member in none, `h` that members who wrote are hidden, `f` that it is the bidding or later, `k` that the paper is
-- accepted
coauthor-seen : (a c m h f k own o s h' p : Bool) → (c && f) ≡ o → (m && f) ≡ s → h ≡ h' → k ≡ p
    → (a || ((c && f) || ((m && not h && f) || (k || (own || false))))) ≡ ((own || a) || o || (s && not h') || p)
coauthor-seen a c m h f k own o s h' p ho hs hh hp = grind (arith, ho, hs, hh, hp)

submitter-seen : (a c m h f k o s h' p : Bool) → (c && f) ≡ o → (m && f) ≡ s → h ≡ h' → k ≡ p
    → (a || ((c && f) || ((m && not h && f) || (k || false)))) ≡ (a || o || (s && not h') || p)
submitter-seen a c m h f k o s h' p ho hs hh hp = grind (arith, ho, hs, hh, hp)

-- who is told of a revision: its title's readers, since who may read the abstract may read the title. `k` is that the
-- paper is accepted, `z` that the conference is closed
revision-seen : (a n m f c e k z own n' s v p : Bool) → n ≡ n' → (m && f) ≡ s → (e && f) ≡ v → k ≡ p
    →
    (a
    ||
    ((n && m && f)
    || ((n && e && f) || ((n && ((m && not c) || e) && f) || ((n && k) || ((n && (k && z)) || (own || false)))))))
    ≡ ((own || a) || (n' && (s || v || p)))
revision-seen a n m f c e k z own n' s v p hn hs hv hp = grind (arith, hn, hs, hv, hp)

-- a title: members see it, and `e` that the reader is an external in no conflict
title-known : (a n m e f k own n' s v p : Bool) → n ≡ n' → (m && f) ≡ s → (e && f) ≡ v → k ≡ p
    → (a || ((n && m && f) || ((n && e && f) || ((n && k) || (own || false))))) ≡ ((own || a) || (n' && (s || v || p)))
title-known a n m e f k own n' s v p hn hs hv hp = grind (arith, hn, hs, hv, hp)

-- a withdrawal, and an invitation, of which `n` is that it names the reader, `c` that she is a chair in no conflict
withdrawal-seen : (a m e f own s v : Bool) → (m && f) ≡ s → (e && f) ≡ v
    → (a || ((m && f) || ((e && f) || (own || false)))) ≡ ((own || a) || s || v)
withdrawal-seen a m e f own s v hs hv = grind (arith, hs, hv)

invitation-seen : (n c own l : Bool) → c ≡ l → (n || (c || (own || false))) ≡ (n || own || l)
invitation-seen n c own l hc = grind (arith, hc)

-- an assignment: who is told of it, who is told the reviewer, what she is to the paper, and her label. `n` is that it
-- names the reader, `c` that she is a chair in no conflict, `m` a member in none, `f` that it is the discussion, `h`
-- that members who wrote are hidden, `a` that she is an author who is named the reviewers
seat-seen : (n c m f h a own l d r : Bool) → c ≡ l → (m && f) ≡ d → a ≡ r
    → (n || (c || ((m && f) || ((m && not h && f) || (a || (own || false)))))) ≡ ((n || own || l) || d || r)
seat-seen n c m f h a own l d r hl hd hr = grind (arith, hl, hd, hr)

seat-user : (n c m f h a own l d h' r : Bool) → c ≡ l → (m && f) ≡ d → h ≡ h' → a ≡ r
    → (n || (c || ((m && not h && f) || (a || (own || false))))) ≡ ((n || own || l) || (d && not h') || r)
seat-user n c m f h a own l d h' r hl hd hh hr = grind (arith, hl, hd, hh, hr)

seat-kind : (n c m f own l d : Bool) → c ≡ l → (m && f) ≡ d
    → (n || (c || ((m && f) || (own || false)))) ≡ ((n || own || l) || d)
seat-kind n c m f own l d hl hd = grind (arith, hl, hd)

seat-ordinal : (n c m f a own l d r : Bool) → c ≡ l → (m && f) ≡ d → a ≡ r
    → (n || (c || ((m && f) || (a || (own || false))))) ≡ ((n || own || l) || d || r)
seat-ordinal n c m f a own l d r hl hd hr = grind (arith, hl, hd, hr)

-- a form: who is told of it, who reads all of it, what is for authors, and that it is there. `c` is that it is
-- counted, `d` that it is discussed, `h` that authors respond to it, `l` that it is the last that they learn
form-seen : (c d h l own c' d' h' l' : Bool) → c ≡ c' → d ≡ d' → h ≡ h' → l ≡ l'
    → (c || (d || (h || (l || (own || false))))) ≡ ((own || d') || c' || (h' || l'))
form-seen c d h l own c' d' h' l' hc hd hh hl = grind (arith, hc, hd, hh, hl)

whole-shown : (d own d' : Bool) → d ≡ d' → (d || (own || false)) ≡ (own || d')
whole-shown d own d' hd = grind (arith, hd)

form-review : (d h l own d' h' l' : Bool) → d ≡ d' → h ≡ h' → l ≡ l'
    → (d || (h || (l || (own || false)))) ≡ ((own || d') || (h' || l'))
form-review d h l own d' h' l' hd hh hl = grind (arith, hd, hh, hl)

-- a response: who is told of it. `d` is that the reader discusses the paper
response-seen : (a d own d' : Bool) → d ≡ d' → (a || (d || (own || false))) ≡ ((own || a) || d')
response-seen a d own d' hd = grind (arith, hd)

-- a comment: who is told of it, who of its writer, and who of her label. `d` is that the reader discusses the paper,
-- `w` that she is told who comments
comment-seen : (d w own d' : Bool) → d ≡ d' → (d || ((d && w) || ((d && not w) || (own || false)))) ≡ (own || d')
comment-seen d w own d' hd = grind (arith, hd)

comment-label : (d w own d' w' : Bool) → (d && not w) ≡ (d' && not w')
    → ((d && not w) || (own || false)) ≡ (own || (d' && not w'))
comment-label d w own d' w' h = grind (arith, h)

-- a tag: who is told of it. `m` is that she is a member in no conflict, `c` a chair in none, `f` that it is the
-- bidding or later
tag-seen : (all chairs m c f own all' chairs' h o : Bool) → all ≡ all' → chairs ≡ chairs' → (m && f) ≡ h → (c && f) ≡ o
    → ((all && m && f) || ((chairs && c && f) || (own || false))) ≡ (own || ((all' && h) || (chairs' && o)))
tag-seen all chairs m c f own all' chairs' h o ha hc hh ho = grind (arith, ha, hc, hh, ho)

-- a decision: who is told of it. `d` is that the reader discusses the paper, `l` that she learns its outcome, `k`
-- that it is announced
decision-seen : (d l k own d' l' k' : Bool) → d ≡ d' → l ≡ l' → k ≡ k'
    → (d || (l || (k || (own || false)))) ≡ ((own || d') || l' || k')
decision-seen d l k own d' l' k' hd hl hk = grind (arith, hd, hl, hk)

decision-read : (d l own d' l' : Bool) → d ≡ d' → l ≡ l' → (d || (l || (own || false))) ≡ ((own || d') || l')
decision-read d l own d' l' hd hl = grind (arith, hd, hl)

module _ (u : Option ℕ) (H : History) (at : Around) (stamp : Stamp) (more : Bool) where
  abbrev r : Reader
  r = reader u H

  abbrev seen : Entry → Sighting
  seen e = joined r at (stamped stamp more e)

  serves-same : (is_member (role_of u H) && is_from Bidding (phase_of H)) ≡ serves u H
  serves-same =
      ap (λ b. b && is_from Bidding (phase_of H)) (member-committee (role_of u H))
      ∙ ap (λ b. is_on_committee (role_of u H) && b) (phase-words (phase_of H)).bidding

  is_eligible-same : (p : ℕ) → (is_member (role_of u H) && not (is_conflicted u p H) && is_from Bidding (phase_of H))
      ≡ is_eligible u p H
  is_eligible-same p =
      by (is_member (role_of u H)) (not (is_conflicted u p H)) (is_from Bidding (phase_of H)) (serves u H) serves-same
    where
      by : (m c f s : Bool) → (m && f) ≡ s → (m && c && f) ≡ (s && c)
      by m c f s h = grind (arith, h)

  -- she is an external in no conflict with the paper, and is told of it from the bidding
  abbrev outside : ℕ → Bool
  outside p = is_external u p H && not (is_conflicted u p H)

  visiting-same : (p : ℕ) → (outside p && is_from Bidding (phase_of H)) ≡ reads_visiting u p H
  visiting-same p =
      λ i. ((not (member-committee (role_of u H) i) && is_invited u p H) && not (is_conflicted u p H))
      && (phase-words (phase_of H)).bidding i

  -- or such a member: the paper is before her
  abbrev reading : ℕ → Bool
  reading p = (is_member (role_of u H) && not (is_conflicted u p H)) || outside p

  before-same : (p : ℕ) → (reading p && is_from Bidding (phase_of H)) ≡ reads_to_judge u p H
  before-same p =
      by (is_member (role_of u H) && not (is_conflicted u p H)) (outside p) (is_from Bidding (phase_of H)) _ _
      (is_eligible-same p) (visiting-same p)
    where
      by : (m e f s v : Bool) → (m && f) ≡ s → (e && f) ≡ v → ((m || e) && f) ≡ (s || v)
      by m e f s v hs hv = grind (arith, hs, hv)

  oversees-same : (p : ℕ) → ((is_chair (role_of u H) && not (is_conflicted u p H)) && is_from Bidding (phase_of H))
      ≡ oversees u p H
  oversees-same p =
      by (is_chair (role_of u H)) (is_on_committee (role_of u H)) (not (is_conflicted u p H))
      (is_from Bidding (phase_of H)) _ _
      (chair-committee (role_of u H)) (chair-leads (role_of u H)) (phase-words (phase_of H)).bidding
    where
      by : (chair m c f l s : Bool) → (m && chair) ≡ chair → chair ≡ l → f ≡ s
          → ((chair && c) && f) ≡ (((m && s) && c) && l)
      by chair m c f l s hm hl hs = grind (arith, hm, hl, hs)

  administers-same : (p : ℕ) → (is_chair (role_of u H) && not (is_conflicted u p H)) ≡ administers u p H
  administers-same p = ap (λ b. b && not (is_conflicted u p H)) (chair-leads (role_of u H))

  discusses-same : (p : ℕ) → ((is_member (role_of u H) && not (is_conflicted u p H)) && is_from Discussion (phase_of H))
      ≡ discusses u p H
  discusses-same p =
      by (is_member (role_of u H)) _ (not (is_conflicted u p H)) (is_from Discussion (phase_of H))
      (is_past_submission (phase_of H)) _
      (member-committee (role_of u H)) (phase-words (phase_of H)).discussion (phase-words (phase_of H)).discussion_later
    where
      by : (m m' c f s d : Bool) → m ≡ m' → f ≡ d → (s && d) ≡ d → ((m && c) && f) ≡ (((m' && s) && c) && d)
      by m m' c f s d hm hf hd = grind (arith, hm, hf, hd)

  answered-same : (p : ℕ) → (is_author u p H && is_overt (mode_of H) && is_from Notification (phase_of H))
      ≡ is_answered u p H
  answered-same p =
      ap (λ b. is_author u p H && b && is_from Notification (phase_of H)) (mode-words (mode_of H)).named
      ∙ ap (λ b. is_author u p H && names_reviewers (mode_of H) && b) (phase-words (phase_of H)).notification

  programme-same : (p : ℕ) → is_accepted p H ≡ is_in_programme p H
  programme-same p =
      ap (λ b. b && not (is_withdrawn p H) && is_from Notification (phase_of H)) (accept-takes (decision_of p H))
      ∙ ap (λ b. takes (decision_of p H) && not (is_withdrawn p H) && b) (phase-words (phase_of H)).notification

  appears-same : (p : ℕ) → is_published (phase_of H) (is_accepted p H) ≡ appears p H
  appears-same p =
      ap (λ b. b && is_from Closed (phase_of H)) (programme-same p)
      ∙ ap (λ b. is_in_programme p H && b) (phase-words (phase_of H)).closed

  -- ---- who is told of an assignment and of its end, and what of it

  abbrev seat_rows_to : ℕ → ℕ → List TriggerRow
  seat_rows_to paper user = seat_rows r paper user ++ user_named r stamp.maker see own_parts ∷ []

  module _ (paper user : ℕ) where
    -- the tests of the rows: the entry names her, she is a chair in no conflict, a member in none, it is the
    -- discussion, members who wrote are hidden, she is an author who is named the reviewers; and the entry is her own
    abbrev named : Bool
    named = is_number u user

    abbrev leading : Bool
    leading = is_chair (role_of u H) && not (is_conflicted u paper H)

    abbrev clear : Bool
    clear = is_member (role_of u H) && not (is_conflicted u paper H)

    abbrev discussed : Bool
    discussed = is_from Discussion (phase_of H)

    abbrev hidden : Bool
    hidden = is_anonymous (mode_of H)

    abbrev answered : Bool
    answered = is_author u paper H && is_overt (mode_of H) && is_from Notification (phase_of H)

    abbrev own : Bool
    own = is_number u stamp.maker

    assignment-seen : applies_any (seat_rows_to paper user)
        ≡ (is_party u H stamp.maker paper user || discusses u paper H || is_answered u paper H)
    assignment-seen =
        seat-seen named leading clear discussed hidden answered own (administers u paper H) (discusses u paper H)
        (is_answered u paper H)
        (administers-same paper) (discusses-same paper) (answered-same paper)

    reviewer-shown : where_shown (shows (seat_rows_to paper user) part.user) (Some user) ≡ reviewer_for u H stamp.maker
        paper user
    reviewer-shown =
        known-same _ _ user
        (seat-user named leading clear discussed hidden answered own (administers u paper H) (discusses u paper H)
        (hides_reviewers (mode_of H))
        (is_answered u paper H) (administers-same paper) (discusses-same paper) (mode-words (mode_of H)).reviewers
        (answered-same paper))

    kind-shown : shows (seat_rows_to paper user) part.review_kind
        ≡ (is_party u H stamp.maker paper user || discusses u paper H)
    kind-shown = seat-kind named leading clear discussed own (administers u paper H) (discusses u paper H)
        (administers-same paper) (discusses-same paper)

    label-shown : shows (seat_rows_to paper user) part.ordinal
        ≡ (is_party u H stamp.maker paper user || discusses u paper H || is_answered u paper H)
    label-shown =
        seat-ordinal named leading clear discussed answered own (administers u paper H) (discusses u paper H)
        (is_answered u paper H)
        (administers-same paper) (discusses-same paper) (answered-same paper)

  -- ---- who is told of a form, and what of it

  abbrev rows_to : Entry → List TriggerRow
  rows_to e = rows r (position_of at e) stamp.maker e ++ user_named r stamp.maker see own_parts ∷ []

  notified-same : (p : ℕ) → (is_author u p H && is_from Notification (phase_of H)) ≡ is_notified u p H
  notified-same p = ap (λ b. is_author u p H && b) (phase-words (phase_of H)).notification

  module _ (paper ordinal version : ℕ) (form : Form) where
    abbrev reviewed : Entry
    reviewed = Reviewed paper ordinal version form

    -- the tests of the rows: it is the first and she administers the paper; it is among those that are discussed, and
    -- she discusses the paper; it is the one to which authors respond, and she is heard; it is the last, and she is
    -- notified
    abbrev counted : Bool
    counted = (position_of at reviewed).first && (is_chair (role_of u H) && not (is_conflicted u paper H))

    abbrev is_read : Bool
    is_read =
        ((position_of at reviewed).last_before_discussion || (position_of at reviewed).from_discussion)
        && ((is_member (role_of u H) && not (is_conflicted u paper H)) && is_from Discussion (phase_of H))

    abbrev early : Bool
    early =
        (position_of at reviewed).last_before_response && had_response_of H && is_author u paper H
        && is_from Response (phase_of H)

    abbrev learnt : Bool
    learnt = (position_of at reviewed).last && is_author u paper H && is_from Notification (phase_of H)

    counted-same : counted ≡ counts_form u H at.before paper ordinal
    counted-same = by _ _ _ _ (none_in-reviewed paper ordinal at.before) (administers-same paper)
      where
        by : (n n' c c' : Bool) → n ≡ n' → c ≡ c' → (n && c) ≡ (c' && n')
        by n n' c c' hn hc = grind (arith, hn, hc)

    read-same : is_read ≡ (discusses u paper H && is_discussed paper ordinal at.before at.after)
    read-same = by _ _ _ _ (discussed-same paper ordinal at.before at.after) (discusses-same paper)
      where
        by : (k k' d d' : Bool) → k ≡ k' → d ≡ d' → (k && d) ≡ (d' && k')
        by k k' d d' hk hd = grind (arith, hk, hd)

    early-same : IsWithin H at reviewed → early
        ≡ (is_author_since_response u paper H && is_responded_to paper ordinal at.before at.after)
    early-same within =
        by _ (had_response_of H) (is_author u paper H) _ _ _
        (responded-same paper ordinal at.before at.after (had_response_of H) within)
        (phase-words (phase_of H)).response
      where
        by : (n had a f f' k : Bool) → (n && had) ≡ k → f ≡ f' → (n && had && a && f) ≡ ((a && f') && k)
        by n had a f f' k hk hf = grind (arith, hk, hf)

    learnt-same : learnt ≡ (is_notified u paper H && not (is_reviewed paper ordinal at.after))
    learnt-same = by _ _ (is_author u paper H) (is_from Notification (phase_of H)) _
        (none_in-reviewed paper ordinal at.after) (notified-same paper)
      where
        by : (n n' a f l : Bool) → n ≡ n' → (a && f) ≡ l → (n && a && f) ≡ (l && n')
        by n n' a f l hn hl = grind (arith, hn, hl)

    pub review-seen : IsWithin H at reviewed → applies_any (rows_to reviewed)
        ≡ (reads_form u H at.before at.after stamp.maker paper ordinal || counts_form u H at.before paper ordinal
        || learns_form u H at.before at.after paper ordinal)
    review-seen within = form-seen counted is_read early learnt (is_number u stamp.maker) _ _ _ _ counted-same read-same
        (early-same within) learnt-same

    pub form-read : (is_read || (is_number u stamp.maker || false)) ≡ reads_form u H at.before at.after stamp.maker
        paper ordinal
    form-read = whole-shown is_read (is_number u stamp.maker) _ read-same

    pub review-read : IsWithin H at reviewed
        → (is_read || (early || (learnt || (is_number u stamp.maker || false)))) ≡ reads_review u H at.before at.after
        stamp.maker paper ordinal
    review-read within =
        form-review is_read early learnt (is_number u stamp.maker) _ _ _ read-same (early-same within) learnt-same

  -- ---- who is told of a comment, and what of it

  module _ (paper : ℕ) where
    -- the tests of the rows: she discusses the paper, and is told who comments
    abbrev discussing : Bool
    discussing = (is_member (role_of u H) && not (is_conflicted u paper H)) && is_from Discussion (phase_of H)

    abbrev shows_names : Bool
    shows_names = (is_chair (role_of u H) && not (is_conflicted u paper H)) || not (is_anonymous (mode_of H))

    writer-same : (discussing && shows_names) ≡ (discusses u paper H && knows_writers u H)
    writer-same =
        by (is_member (role_of u H)) (not (is_conflicted u paper H)) (is_from Discussion (phase_of H)) _ _ _ _ _
        (chair-leads (role_of u H)) (mode-words (mode_of H)).reviewers (discusses-same paper)
      where
        by : (m c f chair l a h d : Bool) → chair ≡ l → a ≡ h → ((m && c) && f) ≡ d
            → (((m && c) && f) && ((chair && c) || not a)) ≡ (d && (l || not h))
        by m c f chair l a h d hc ha hd = grind (arith, hc, ha, hd)

    label-same : (discussing && not shows_names) ≡ (discusses u paper H && not (knows_writers u H))
    label-same =
        by (is_member (role_of u H)) (not (is_conflicted u paper H)) (is_from Discussion (phase_of H)) _ _ _ _ _
        (chair-leads (role_of u H)) (mode-words (mode_of H)).reviewers (discusses-same paper)
      where
        by : (m c f chair l a h d : Bool) → chair ≡ l → a ≡ h → ((m && c) && f) ≡ d
            → (((m && c) && f) && not ((chair && c) || not a)) ≡ (d && not (l || not h))
        by m c f chair l a h d hc ha hd = grind (arith, hc, ha, hd)

  -- ---- who is told of a decision, and what of it

  module _ (paper : ℕ) where
    -- the tests of the rows: it is the last, and she is notified; it is the last, and the paper is accepted
    abbrev told_outcome : Bool
    told_outcome = none_in (decision_told paper) at.after && is_author u paper H && is_from Notification (phase_of H)

    abbrev announced : Bool
    announced = none_in (decision_told paper) at.after && is_accepted paper H

    outcome-same : told_outcome ≡ learns_outcome u H at.after paper
    outcome-same = by _ _ (is_author u paper H) (is_from Notification (phase_of H)) _ (none_in-decided paper at.after)
        (notified-same paper)
      where
        by : (n n' a f l : Bool) → n ≡ n' → (a && f) ≡ l → (n && a && f) ≡ (n' && l)
        by n n' a f l hn hl = grind (arith, hn, hl)

    announced-same : announced ≡ is_announced H at.after paper
    announced-same =
        ap (λ b. b && is_accepted paper H) (none_in-decided paper at.after)
        ∙ ap (λ b. not (is_decided_again paper at.after) && b) (programme-same paper)

    verdict-seen : (discussing paper || (told_outcome || (announced || (is_number u stamp.maker || false))))
        ≡ (reads_decision u H stamp.maker paper || learns_outcome u H at.after paper || is_announced H at.after paper)
    verdict-seen =
        decision-seen (discussing paper) told_outcome announced (is_number u stamp.maker) _ _ _ (discusses-same paper)
        outcome-same announced-same

    verdict-read : (discussing paper || (told_outcome || (is_number u stamp.maker || false)))
        ≡ (reads_decision u H stamp.maker paper || learns_outcome u H at.after paper)
    verdict-read =
        decision-read (discussing paper) told_outcome (is_number u stamp.maker) _ _ (discusses-same paper) outcome-same

  -- ---- part by part

  pub seen-told : (e : Entry) → IsWithin H at e
      → is_seen r at (stamped stamp more e) ≡ is_told u H at.before at.after stamp.maker e
  seen-told (Registered user name digest) within = refl
  seen-told (Coauthor paper user) within =
      coauthor-seen (is_author u paper H) (is_chair (role_of u H) && not (is_conflicted u paper H))
      (reading paper) (is_anonymous (mode_of H)) (is_from Bidding (phase_of H)) (is_accepted paper H)
      (is_number u stamp.maker) _ _ _ _ (oversees-same paper) (before-same paper) (mode-words (mode_of H)).authors
      (programme-same paper)
  seen-told (Revised paper title abstract) within =
      revision-seen (is_author u paper H) _ (is_member (role_of u H)) (is_from Bidding (phase_of H))
      (is_conflicted u paper H) (outside paper)
      (is_accepted paper H) (is_from Closed (phase_of H)) (is_number u stamp.maker) _ _ _ _
      (none_in-replaced paper at.after) serves-same
      (visiting-same paper) (programme-same paper)
  seen-told (Uploaded paper version content) within =
      text-known (is_author u paper H) _ (reading paper) (is_from Bidding (phase_of H))
      (is_published (phase_of H) (is_accepted paper H)) (is_number u stamp.maker) _ _ _
      (none_in-superseded paper at.after) (before-same paper) (appears-same paper)
  seen-told (Withdrawn paper) within =
      withdrawal-seen (is_author u paper H) (is_member (role_of u H)) (outside paper) (is_from Bidding (phase_of H))
      (is_number u stamp.maker) _ _
      serves-same (visiting-same paper)
  seen-told (Invited paper user) within =
      invitation-seen (is_number u user) _ (is_number u stamp.maker) _ (administers-same paper)
  seen-told (Uninvited paper user) within =
      invitation-seen (is_number u user) _ (is_number u stamp.maker) _ (administers-same paper)
  seen-told (Assigned paper user review_kind ordinal) within = assignment-seen paper user
  seen-told (Unassigned paper user ordinal) within = assignment-seen paper user
  seen-told (Reviewed paper ordinal version form) within = review-seen paper ordinal version form within
  seen-told (Commented paper n ordinal text) within =
      comment-seen (discussing paper) (shows_names paper) (is_number u stamp.maker) _ (discusses-same paper)
  seen-told (Tagged paper tag on) within =
      tag-seen (is_for_all tag) (is_for_chairs tag) (is_member (role_of u H) && not (is_conflicted u paper H))
      (is_chair (role_of u H) && not (is_conflicted u paper H)) (is_from Bidding (phase_of H)) (is_number u stamp.maker)
      _ _ _ _
      (for-committee tag) (for-chairs tag) (is_eligible-same paper) (oversees-same paper)
  seen-told (Decided paper decision) within = verdict-seen paper
  seen-told (Responded paper text) within =
      response-seen (is_author u paper H) (discussing paper) (is_number u stamp.maker) _ (discusses-same paper)
  seen-told e within =
      let chair = chair-leads (role_of u H) in
      let on_it = chair-committee (role_of u H) in
      let member = member-committee (role_of u H) in
      let from = (phase-words (phase_of H)).bidding in
      let hides = (mode-words (mode_of H)).authors in
      grind (arith, chair, on_it, member, from, hides)

  -- the parts that are shown to all who are told of the entry
  pub record AreShown (e : Entry) : Type 0 where
    pub kind : (seen e).kind ≡ kind_for u H at.before at.after stamp e
    pub paper : (seen e).paper ≡ paper_for u H at.before at.after stamp e
    pub name : (seen e).name ≡ name_for u H at.before at.after stamp e
    pub role : (seen e).role ≡ role_for u H at.before at.after stamp e
    pub phase : (seen e).phase ≡ phase_for u H at.before at.after stamp e
    pub until : (seen e).until ≡ until_for u H at.before at.after stamp e
    pub mode : (seen e).mode ≡ mode_for u H at.before at.after stamp e

  pub shown-one : (e : Entry) → AreShown e
  shown-one (Registered user name digest) =
      record { kind = refl; paper = refl; name = refl; role = refl; phase = refl; until = refl; mode = refl }
  shown-one e = record { kind = refl; paper = refl; name = refl; role = refl; phase = refl; until = refl; mode = refl }

  pub mark-one : (e : Entry) → (seen e).mine ≡ mark_for u H at.before at.after stamp e
  mark-one e = refl

  -- no row of the table shows the moment
  pub moment-one : (e : Entry) → (seen e).at ≡ moment_for u H at.before at.after stamp e
  moment-one (Registered user name digest) =
      known-same _ (is_number u stamp.maker) stamp.at (or-false (is_number u stamp.maker))
  moment-one e = known-same _ (is_number u stamp.maker) stamp.at (or-false (is_number u stamp.maker))

  -- nor the key
  pub key-one : (e : Entry) → (seen e).key ≡ key_for u H at.before at.after stamp e
  key-one = key-shown u H at stamp more

  pub user-one : (e : Entry) → is_told u H at.before at.after stamp.maker e ≡ true
      → (seen e).user ≡ user_for u H at.before at.after stamp e
  user-one (Coauthor paper user) told = ap (λ b. where_known b user) (seen-told (Coauthor paper user) tt ∙ told)
  user-one (Conflict paper user on) told = ap (λ b. where_known b user) (seen-told (Conflict paper user on) tt ∙ told)
  user-one (Assigned paper user review_kind ordinal) told = reviewer-shown paper user
  user-one (Unassigned paper user ordinal) told = reviewer-shown paper user
  user-one (Invited paper user) told = ap (λ b. where_known b user) (seen-told (Invited paper user) tt ∙ told)
  user-one (Uninvited paper user) told = ap (λ b. where_known b user) (seen-told (Uninvited paper user) tt ∙ told)
  user-one e told = refl

  pub digest-one : (e : Entry) → (seen e).digest ≡ digest_for u H at.before at.after stamp e
  digest-one (Registered user name digest) =
      known-same _ (is_number u stamp.maker) digest (or-false (is_number u stamp.maker))
  digest-one e = refl

  pub switch-one : (e : Entry) → is_told u H at.before at.after stamp.maker e ≡ true
      → (seen e).on ≡ switch_for u H at.before at.after stamp e
  switch-one (Conflict paper user on) told = ap (λ b. where_known b on) (seen-told (Conflict paper user on) tt ∙ told)
  switch-one (Tagged paper tag on) told = ap (λ b. where_known b on) (seen-told (Tagged paper tag on) tt ∙ told)
  switch-one e told = refl

  pub maker-one : (e : Entry) → (seen e).by ≡ maker_for u H at.before at.after stamp e
  maker-one (Registered user name digest) = refl
  maker-one (Submitted paper title abstract) =
      known-same _ _ stamp.maker
      (submitter-seen (is_author u paper H) (is_chair (role_of u H) && not (is_conflicted u paper H))
      (reading paper) (is_anonymous (mode_of H)) (is_from Bidding (phase_of H)) (is_accepted paper H)
      _ _ _ _ (oversees-same paper) (before-same paper) (mode-words (mode_of H)).authors (programme-same paper))
  maker-one (Bid paper value) = known-same _ _ stamp.maker (or-false _ ∙ oversees-same paper)
  maker-one (Commented paper n ordinal text) = known-same _ _ stamp.maker (or-false _ ∙ writer-same paper)
  maker-one e = refl

  -- a title or an abstract is shown to those who own the entry, the last one to those who may read it from the
  -- bidding on, and to everyone where it is public; of a submission the bounds name its authors alone, since its
  -- maker is one
  abbrev IsTextShown : ℕ → Bool → Bool → Bool → List ℕ → Type 0
  IsTextShown paper m k known text =
      where_shown
      (is_author u paper H
      || ((none_in (title_told paper) at.after && m && is_from Bidding (phase_of H))
      || ((none_in (title_told paper) at.after && k) || (is_number u stamp.maker || false))))
      (Some text)
      ≡ where_known known text

  text-one : (paper : ℕ) (m s k p known : Bool) (text : List ℕ) → (m && is_from Bidding (phase_of H)) ≡ s → k ≡ p
      → (owns u H stamp.maker paper || (not (is_replaced paper at.after) && (s || p))) ≡ known
      → IsTextShown paper m k known text
  text-one paper m s k p known text may public same =
      known-same _ _ text (text-known (is_author u paper H) _ m (is_from Bidding (phase_of H)) k
      (is_number u stamp.maker) _ s p
      (none_in-replaced paper at.after) may public
      ∙ same)

  title-shown : (paper : ℕ) (title : List ℕ) (known : Bool)
      →
      (owns u H stamp.maker paper || (not (is_replaced paper at.after)
      && (serves u H || reads_visiting u paper H || is_in_programme paper H))) ≡ known
      → where_shown
      (is_author u paper H
      || ((none_in (title_told paper) at.after && is_member (role_of u H) && is_from Bidding (phase_of H))
      || ((none_in (title_told paper) at.after && outside paper && is_from Bidding (phase_of H))
      || ((none_in (title_told paper) at.after && is_accepted paper H) || (is_number u stamp.maker || false)))))
      (Some title)
      ≡ where_known known title
  title-shown paper title known same =
      known-same _ _ title
      (title-known (is_author u paper H) _ (is_member (role_of u H)) (outside paper) (is_from Bidding (phase_of H))
      (is_accepted paper H) (is_number u stamp.maker)
      _ _ _ _ (none_in-replaced paper at.after) serves-same (visiting-same paper) (programme-same paper)
      ∙ same)

  abstract-shown : (paper : ℕ) (abstract : List ℕ) (known : Bool)
      →
      (owns u H stamp.maker paper || (not (is_replaced paper at.after)
      && (reads_to_judge u paper H || appears paper H))) ≡ known
      → IsTextShown paper (reading paper) (is_published (phase_of H) (is_accepted paper H)) known abstract
  abstract-shown paper abstract known same =
      text-one paper (reading paper) (reads_to_judge u paper H)
      (is_published (phase_of H) (is_accepted paper H)) (appears paper H) known abstract
      (before-same paper) (appears-same paper) same

  pub title-one : (e : Entry) → IsWriters u H stamp.maker e → (seen e).title ≡ title_for u H at.before at.after stamp e
  title-one (Submitted paper title abstract) writes =
      title-shown paper title _ (own-author (is_author u paper H) (is_number u stamp.maker) _ writes)
  title-one (Revised paper title abstract) writes = title-shown paper title _ refl
  title-one (Registered user name digest) writes = refl
  title-one e writes = refl

  pub abstract-one : (e : Entry) → IsWriters u H stamp.maker e
      → (seen e).abstract ≡ abstract_for u H at.before at.after stamp e
  abstract-one (Submitted paper title abstract) writes =
      abstract-shown paper abstract _ (own-author (is_author u paper H) (is_number u stamp.maker) _ writes)
  abstract-one (Revised paper title abstract) writes = abstract-shown paper abstract _ refl
  abstract-one (Registered user name digest) writes = refl
  abstract-one e writes = refl

  -- the number and the content of a version are shown to all who are told of the upload
  pub version-one : (e : Entry) → (seen e).version ≡ version_for u H at.before at.after stamp e
  version-one (Uploaded paper version content) = known-same _ _ version (seen-told (Uploaded paper version content) tt)
  version-one (Reviewed paper ordinal version form) = known-same _ _ version (form-read paper ordinal version form)
  version-one e = refl

  pub content-one : (e : Entry) → (seen e).content ≡ content_for u H at.before at.after stamp e
  content-one (Uploaded paper version content) = known-same _ _ content (seen-told (Uploaded paper version content) tt)
  content-one e = refl

  -- a bid, and the ordinal of a label, are shown to all who are told of the entry; what a reviewer is to the paper to
  -- those who are told all of it, or discuss the paper
  pub value-one : (e : Entry) → is_told u H at.before at.after stamp.maker e ≡ true
      → (seen e).value ≡ value_for u H at.before at.after stamp e
  value-one (Bid paper value) told = ap (λ b. where_known b value) (seen-told (Bid paper value) tt ∙ told)
  value-one e told = refl

  pub seat-one : (e : Entry) → (seen e).review_kind ≡ review_kind_for u H at.before at.after stamp e
  seat-one (Assigned paper user review_kind ordinal) = known-same _ _ review_kind (kind-shown paper user)
  seat-one e = refl

  pub ordinal-one : (e : Entry) → IsWithin H at e → is_told u H at.before at.after stamp.maker e ≡ true
      → (seen e).ordinal ≡ ordinal_for u H at.before at.after stamp e
  ordinal-one (Assigned paper user review_kind ordinal) within told =
      ap (λ b. where_known b ordinal) (label-shown paper user ∙ told)
  ordinal-one (Unassigned paper user ordinal) within told =
      ap (λ b. where_known b ordinal) (label-shown paper user ∙ told)
  ordinal-one (Reviewed paper ordinal version form) within told =
      ap (λ b. where_known b ordinal) (review-seen paper ordinal version form within ∙ told)
  ordinal-one (Commented paper n ordinal text) within told =
      known-same _ _ (unwrap_or ordinal 0) (comment-label (discussing paper) (shows_names paper)
      (is_number u stamp.maker) _ _ (label-same paper))
  ordinal-one e within told = refl

  -- of a form its grades and the text to the authors are shown to those who read or learn it, the text to the
  -- committee to those who read it, and the mark to those who count it
  pub score-one : (e : Entry) → IsWithin H at e → (seen e).score ≡ score_for u H at.before at.after stamp e
  score-one (Reviewed paper ordinal version form) within =
      known-same _ _ form.score (review-read paper ordinal version form within)
  score-one e within = refl

  pub confidence-one : (e : Entry) → IsWithin H at e
      → (seen e).confidence ≡ confidence_for u H at.before at.after stamp e
  confidence-one (Reviewed paper ordinal version form) within =
      known-same _ _ form.confidence (review-read paper ordinal version form within)
  confidence-one e within = refl

  pub to_authors-one : (e : Entry) → IsWithin H at e
      → (seen e).to_authors ≡ to_authors_for u H at.before at.after stamp e
  to_authors-one (Reviewed paper ordinal version form) within =
      known-same _ _ form.to_authors (review-read paper ordinal version form within)
  to_authors-one e within = refl

  pub to_pc-one : (e : Entry) → (seen e).to_pc ≡ to_pc_for u H at.before at.after stamp e
  to_pc-one (Reviewed paper ordinal version form) = known-same _ _ form.to_pc (form-read paper ordinal version form)
  to_pc-one e = refl

  pub done-one : (e : Entry) → (seen e).done ≡ done_for u H at.before at.after stamp e
  done-one (Reviewed paper ordinal version form) =
      known-same _ _ true (or-false _ ∙ counted-same paper ordinal version form)
  done-one e = refl

  -- a comment's number and text, and a tag, are shown to all who are told of the entry
  pub n-one : (e : Entry) → is_told u H at.before at.after stamp.maker e ≡ true
      → (seen e).n ≡ n_for u H at.before at.after stamp e
  n-one (Commented paper n ordinal text) told =
      ap (λ b. where_known b n) (whole-shown (discussing paper) (is_number u stamp.maker) _ (discusses-same paper)
      ∙ told)
  n-one e told = refl

  pub comment-one : (e : Entry) → is_told u H at.before at.after stamp.maker e ≡ true
      → (seen e).text ≡ text_for u H at.before at.after stamp e
  comment-one (Commented paper n ordinal text) told =
      ap (λ b. where_known b text) (whole-shown (discussing paper) (is_number u stamp.maker) _ (discusses-same paper)
      ∙ told)
  comment-one (Responded paper text) told = ap (λ b. where_known b text) (seen-told (Responded paper text) tt ∙ told)
  comment-one e told = refl

  pub tag-one : (e : Entry) → is_told u H at.before at.after stamp.maker e ≡ true
      → (seen e).tag ≡ tag_for u H at.before at.after stamp e
  tag-one (Tagged paper tag on) told = ap (λ b. where_known b tag) (seen-told (Tagged paper tag on) tt ∙ told)
  tag-one e told = refl

  -- a decision is shown to those who read it or learn the outcome, and each mark to those whom it is for
  pub decision-one : (e : Entry) → (seen e).decision ≡ decision_for u H at.before at.after stamp e
  decision-one (Decided paper decision) = known-same _ _ decision (verdict-read paper)
  decision-one e = refl

  pub outcome-one : (e : Entry) → (seen e).outcome ≡ outcome_for u H at.before at.after stamp e
  outcome-one (Decided paper decision) = known-same _ _ true (or-false _ ∙ outcome-same paper)
  outcome-one e = refl

  pub accepted-one : (e : Entry) → (seen e).accepted ≡ accepted_for u H at.before at.after stamp e
  accepted-one (Decided paper decision) = known-same _ _ true (or-false _ ∙ announced-same paper)
  accepted-one e = refl
