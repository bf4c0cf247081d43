-- SPDX-License-Identifier: Apache-2.0 OR MIT
-- What answers list is what a view shows: of bids, reviewers, tags, contents, comments, accepted papers and the
-- reader herself.
use Rattle.std.proofs.Common.{◌≡◌, ℕ, Bool, true, false, List, [], ◌∷◌, ◌++◌, refl, sym, ap, ◌∙◌, ◌||◌, ◌&&◌, Option}
use Rattle.std.proofs.Common.{Some, None, eqb, arith, length}
use Rattle.std.specs.Prelude.{not, ◌==◌, map, filter, is_some, unwrap_or, find, if◌then◌else◌}
use Rattle.std.specs.Option.{option_map}
use Rattle.std.specs.List.{flat_map, list_any}
use Rattle.std.proofs.lemmas.Bool.{eqb-true, true≢false, or_parts}
use Rattle.std.proofs.lemmas.List.Concat.{flat_map-append}
use Rattle.cr_base.specs.declared.entry.Stamp.{Stamp}
use Rattle.cr_base.specs.declared.comment.CommentLine.{CommentLine}
use Rattle.cr_base.specs.declared.command.Query.TheVariants as queries
use Rattle.cr_base.specs.declared.entry.Entry.{Entry}
use Rattle.cr_base.specs.declared.entry.Entry.TheVariants.{Uploaded, Assigned, Unassigned, Reviewed, Commented}
use Rattle.cr_base.specs.declared.entry.Entry.TheVariants.{Responded}
use Rattle.cr_base.specs.declared.entry.EntryKind.TheVariants as kinds
use Rattle.cr_base.specs.declared.page.Bidder.{Bidder}
use Rattle.cr_base.specs.declared.page.Reviewer.{Reviewer}
use Rattle.cr_base.specs.declared.reply.AccountLine.{AccountLine}
use Rattle.cr_base.specs.declared.reply.Reply.TheVariants as replies
use Rattle.cr_base.specs.declared.reply.Rule.TheVariants as rules
use Rattle.cr_base.specs.declared.standing.Standing.{Standing}
use Rattle.cr_base.specs.declared.words.Kind.{Kind}
use Rattle.cr_base.specs.declared.words.Phase.TheVariants.{Bidding, Discussion}
use Rattle.cr_base.specs.declared.words.Role.{Role}
use Rattle.cr_base.specs.declared.words.Role.TheVariants.{Account, Member, Chair}
use Rattle.cr_base.specs.Answering.{bidder_told, reviewer_told, comment_line, content_asked, content_by}
use Rattle.cr_base.specs.Answering.{reply_or_rule}
use Rattle.cr_base.specs.Answering.{upload_of}
use Rattle.cr_base.specs.Checks.{judged, ◌breaks◌, reads_freely}
use Rattle.cr_base.specs.Decisions.{is_published}
use Rattle.cr_base.specs.History.{History, Upload, BidTold, SeatTold, CommentTold}
use Rattle.cr_base.specs.HistoryFacts.{standing_of, phase_of, mode_of, role_of, is_author, is_conflicted, is_external}
use Rattle.cr_base.specs.HistoryFacts.{is_accepted, response_of}
use Rattle.cr_base.specs.Lists.{listed, last, last_or, total, is_number}
use Rattle.cr_base.specs.Page.{is_admitted, where_told, is_clear_member, is_clear_chair, shows_reviewer, shows_writer}
use Rattle.cr_base.specs.Page.{gets_bids, gets_reviewers, gets_tags}
use Rattle.cr_base.specs.Phases.{is_from, members_see_papers, members_read_comments, members_read_responses}
use Rattle.cr_base.specs.Sources.{has_paper, name_in}
use Rattle.cr_base.specs.Words.{is_member, is_chair, is_anonymous}
use Rattle.cr_base.proofs.LastLaws.{last_from-map}
use Rattle.cr_history.specs.Invariants.{IsSubmitted, IsInOrder, InTurn}
use Rattle.cr_policy.specs.Judge.{answer}
use Rattle.cr_policy.specs.Legal.{Legal}
use Rattle.cr_policy.specs.Sighting.{Sighting}
use Rattle.cr_policy.specs.View.{View, view}
use Rattle.cr_policy.specs.ViewFacts.{only, is_kind, role_in_view, label_shown, upload_shown, accounts_in_view}
use Rattle.cr_policy.specs.ViewFacts.{papers_in_view, tags_in_view, standing_in_view, facts_in_view, shown_in_view}
use Rattle.cr_policy.specs.ViewFacts.{assigned_seen, unassigned_seen, done_seen, comment_seen, own_comment_seen}
use Rattle.cr_policy.specs.ViewFacts.{own_bytes_seen, upload_seen, bids_in_view, seats_in_view, bid_in_view}
use Rattle.cr_policy.specs.ViewFacts.{reviewers_in_view, is_written_in_view, comments_in_view, uploads_in_view}
use Rattle.cr_policy.specs.ViewFacts.{response_seen, response_in_view}
use Rattle.cr_policy.proofs.DecisionTells.{accepted-seen}
use Rattle.cr_policy.proofs.LegalLaws.{legal_invariants}
use Rattle.cr_policy.proofs.ResponseTells.{response-seen}
use Rattle.cr_policy.proofs.StandingLaws.{papers-seen, standing_from_view}
use Rattle.cr_policy.proofs.Walk.{only-true, only-false, map-flat_map, filter-flat_map}
use Rattle.cr_bounds.specs.ShownTo.{is_on_committee, chairs_committee, is_past_submission, is_past_reviewing}
use Rattle.cr_bounds.specs.ShownTo.{is_past_discussion, hides_reviewers, names_reviewers, knows_writers, is_eligible}
use Rattle.cr_bounds.specs.ShownTo.{reads_to_judge, oversees, administers, discusses, is_answered, appears}
use Rattle.cr_bounds.specs.ShownTo.{where_known}
use Rattle.cr_bounds.proofs.BoundsWords.{phase-words, mode-words}
use Rattle.cr_bounds.proofs.BoundsWalk.{shown_to}
use Rattle.cr_told.specs.ToldPages.{page_told, shown_by, names_shown, is_clear}
use Rattle.cr_told.specs.ToldLists.{name_shown, bids_listed, is_shown_done, knows_reviewers, reviewer_shown, is_left}
use Rattle.cr_told.specs.ToldLists.{reviewers_listed, SeatsTold, PageListsTold, content_answered, contents_of}
use Rattle.cr_told.specs.ToldLists.{first_of}
use Rattle.cr_told.specs.ToldLists.{ContentTold, ContentsTold, comments_answered, comment_shown_by, comments_listed}
use Rattle.cr_told.specs.ToldLists.{CommentsTold, response_answered, ResponsesTold, AcceptedTold, own_shown, MeTold}
use Rattle.cr_told.specs.ToldPublic.{role_shown}
use Rattle.cr_told.proofs.ToldPublic.{roles}
use Rattle.cr_told.proofs.ToldWords.{member-committee, chair-leads, visits-same}
use Rattle.cr_told.proofs.ToldPages.{told-key, overseen, handled, every-upload, public}
use Rattle.cr_told.proofs.ToldShown as reads
use Rattle.cr_told.proofs.ToldShown.{readings}
use Rattle.cr_told.proofs.ToldTexts.{uploads-none, responses-none}

-- ---- lists

flat_map-twice : {X Y Z : Type 0} (f : Y → List Z) (g : X → List Y) (xs : List X)
    → flat_map f (flat_map g xs) ≡ flat_map (λ x. flat_map f (g x)) xs
flat_map-twice f g [] = refl
flat_map-twice f g (x ∷ xs) =
    flat_map-append f (g x) (flat_map g xs) ∙ ap (λ ys. flat_map f (g x) ++ ys) (flat_map-twice f g xs)

-- what is found first is the first that passes
find-first : {X Y : Type 0} (f : X → Y) (test : X → Bool) (xs : List X)
    → option_map f (find test xs) ≡ first_of (map f (filter test xs))
find-first f test [] = refl
find-first {X} f test (x ∷ xs) = by (test x) (find-first f test xs)
  where
    by : (b : Bool) → option_map f (find test xs) ≡ first_of (map f (filter test xs))
        → option_map f (if b then Some x else find test xs)
        ≡ first_of (map f (if b then x ∷ filter test xs else filter test xs))
    by true rest = refl
    by false rest = rest

-- ---- the reader herself

module _ (v : ℕ) (H : History) where
  abbrev own : Option ℕ
  own = Some v

  own-comments : flat_map own_comment_seen (view own H) ≡ own_shown (λ (s : Sighting). s.n) (view own H)
  own-comments = readings own 0 H own_comment_seen (λ (s : Sighting). only s.mine (listed s.n)) one
    where
      one : (before later : History) (stamp : Stamp) (e : Entry)
          → own_comment_seen (shown_to own H before later stamp e)
          ≡ (let s : Sighting = shown_to own H before later stamp e in only s.mine (listed s.n))
      one before later stamp (Commented paper n ordinal text) = refl
      one before later stamp e = refl

  own-bytes : flat_map own_bytes_seen (view own H) ≡ map length (own_shown (λ (s : Sighting). s.content) (view own H))
  own-bytes =
      readings own 0 H own_bytes_seen (λ (s : Sighting). map length (only s.mine (listed s.content))) one
      ∙ sym (map-flat_map length (λ (s : Sighting). only s.mine (listed s.content)) (view own H))
    where
      into : (b : Bool) (xs : List (List ℕ)) → only b (map length xs) ≡ map length (only b xs)
      into b [] = refl
      into true (x ∷ xs) = refl
      into false (x ∷ xs) = refl

      one : (before later : History) (stamp : Stamp) (e : Entry)
          → own_bytes_seen (shown_to own H before later stamp e)
          ≡ (let s : Sighting = shown_to own H before later stamp e in map length (only s.mine (listed s.content)))
      one before later stamp (Uploaded paper version content) =
          into (eqb v stamp.maker) (listed (shown_to own H before later stamp (Uploaded paper version content)).content)
      one before later stamp e = refl

  -- whether she is on the committee, by the rules' word and by the bounds'
  own-member : is_member (role_in_view own (view own H)) ≡ is_on_committee (role_shown own (view own H))
  own-member = ap is_member (roles own H own) ∙ member-committee (role_shown own (view own H))

pub me_told : MeTold
me_told v H = λ i. Some (record {
  assigned = filter (λ (p : ℕ). is_some (reads.labels own' p H own' i)) (papers_in_view (view own' H));
  bytes = total (own-bytes v H i);
  comments = length (own-comments v H i);
  conflicts =
      filter
      (λ (p : ℕ). else-so (list_any (is_number own') (reads.writers own' p H i)) (reads.in_conflict own' p H own' i) i)
      (papers_in_view (view own' H));
  invited = filter (λ (p : ℕ). not (own-member v H i) && reads.invites own' p H own' i) (papers_in_view (view own' H));
  name = unwrap_or (name_shown own' (view own' H)) [];
  papers = filter (λ (p : ℕ). list_any (is_number own') (reads.writers own' p H i)) (papers_in_view (view own' H));
  role = roles own' H own' i;
  user = v;
})
  where
    own' : Option ℕ
    own' = Some v

    else-so : (a c : Bool) → ((a || c) && not a) ≡ (c && not a)
    else-so a c = grind arith

-- ---- accepted papers

pub accepted_told : AcceptedTold
accepted_told u H = λ i. Some
    (map (λ (p : ℕ). record {
      authors = names_shown (reads.writers u p H i) (view u H);
      paper = p;
      title = unwrap_or (last (reads.titles u p H i)) [];
    })
    (filter (λ (p : ℕ). reads.accepted u p H i) (papers_in_view (view u H))))

-- a chair is on the committee
pub leads-serves : (role : Role) → (is_on_committee role && chairs_committee role) ≡ chairs_committee role
leads-serves Account = refl
leads-serves Member = refl
leads-serves Chair = refl

module _ (u : Option ℕ) (p : ℕ) (H : History) (there : IsSubmitted H p) (order : InTurn IsInOrder [] H) where
  abbrev V : View
  V = view u H

  abbrev stands : Standing
  stands = standing_of u (Some p) H

  pub is-there : has_paper (facts_in_view u V) (Some p) ≡ true
  is-there = ap (λ (papers : List ℕ). list_any (λ q. q == p) papers) (papers-seen u H) ∙ there

  -- ---- bids

  bids-told : page_told (λ page. page.bids) u p H ≡ where_known (oversees u p H) (bids_listed p V)
  bids-told =
      told-key u p H there order (λ page. page.bids) (λ by accepted. gets_bids by) (oversees u p H)
      (Some (flat_map told (bids_in_view p V))) refl (overseen u p H there order)
      ∙ ap (where_known (oversees u p H)) same
    where
      told : BidTold → List Bidder
      told bid = listed (bidder_told (accounts_in_view V) bid)

      line : ℕ → Option ℕ → List Bidder
      line user o =
          flat_map (λ (value : ℕ). map (λ (name : List ℕ). record { bid = value; user = name })
          (names_shown (user ∷ []) V)) (listed o)

      bidder : ℕ → List ℕ → Bidder
      bidder value name = record { bid = value; user = name }

      of-name : (value : ℕ) (o : Option (List ℕ))
          → listed (option_map (bidder value) o) ++ [] ≡ map (bidder value) (listed o ++ []) ++ []
      of-name value None = refl
      of-name value (Some name) = refl

      one : (user : ℕ) (o : Option ℕ) → flat_map told
          (map (λ (value : ℕ). record { user = user; value = value }) (listed o)) ≡ line user o
      one user None = refl
      one user (Some value) = of-name value (name_in (accounts_in_view V) user)

      same : flat_map told (bids_in_view p V) ≡ bids_listed p V
      same =
          flat_map-twice told
          (λ (a : AccountLine). map (λ (value : ℕ). record { user = a.user; value = value })
          (listed (bid_in_view (Some a.user) p V)))
          (accounts_in_view V)
          ∙ (λ i. flat_map (λ (a : AccountLine). one a.user (last (reads.bids u p H a.user i)) i) (accounts_in_view V))

  -- ---- reviewers

  abbrev committee : is_member (role_of u H) ≡ is_on_committee (role_of u H)
  committee = member-committee (role_of u H)

  abbrev chairs : is_chair (role_of u H) ≡ chairs_committee (role_of u H)
  chairs = chair-leads (role_of u H)

  pub knows : shows_reviewer stands ≡ knows_reviewers u p H
  knows =
      (λ i. ((chairs i && not (is_conflicted u p H)) && (phase-words (phase_of H)).bidding i)
      || ((committee i && not (is_conflicted u p H)) && not ((mode-words (mode_of H)).reviewers i)
      && (phase-words (phase_of H)).discussion i)
      || (is_author u p H && (mode-words (mode_of H)).named i && (phase-words (phase_of H)).notification i))
      ∙ to (is_on_committee (role_of u H)) (chairs_committee (role_of u H)) (is_past_submission (phase_of H))
      (is_past_reviewing (phase_of H)) (hides_reviewers (mode_of H))
      (is_conflicted u p H) (is_answered u p H) (leads-serves (role_of u H)) (phase-words (phase_of H)).discussion_later
    where
      to : (m k b d h c a : Bool) → (m && k) ≡ k → (b && d) ≡ d
          → (((k && not c) && b) || ((m && not c) && not h && d) || a)
          ≡ ((((m && b) && not c) && k) || ((((m && b) && not c) && d) && not h) || a)
      to m k b d h c a hk hd = grind (arith, hk, hd)

  leading : is_clear_chair stands ≡ administers u p H
  leading = ap (λ b. b && not (is_conflicted u p H)) chairs

  clear : is_clear_member stands ≡ is_clear u p H
  clear = ap (λ b. b && not (is_conflicted u p H)) committee

  reviewed-to : ((is_admitted stands || is_author u p H || is_accepted p H) && gets_reviewers stands)
      ≡ (oversees u p H || discusses u p H || is_answered u p H)
  reviewed-to =
      ap (λ b. (is_admitted stands || is_author u p H || is_accepted p H)
      && (b || ((is_clear_member stands) && is_from Discussion (phase_of H)))) knows
      ∙ to (is_member (role_of u H)) _ (is_external u p H) (is_past_submission (phase_of H))
      (is_from Discussion (phase_of H)) _ (chairs_committee (role_of u H)) (hides_reviewers (mode_of H))
      (is_author u p H) (is_conflicted u p H) (is_accepted p H) (names_reviewers (mode_of H))
      (is_past_discussion (phase_of H))
      committee (phase-words (phase_of H)).discussion (phase-words (phase_of H)).discussion_later
    where
      to : (m m' e b d d' k h a c x o n : Bool) → m ≡ m' → d ≡ d' → (b && d') ≡ d'
          →
          (((m || e) || a || x)
          && (((((m' && b) && not c) && k) || ((((m' && b) && not c) && d') && not h) || (a && o && n))
          || ((m && not c) && d)))
          ≡ ((((m' && b) && not c) && k) || (((m' && b) && not c) && d') || (a && o && n))
      to m m' e b d d' k h a c x o n hm hd hbd = grind (arith, hm, hd, hbd)

  gone : flat_map (unassigned_seen p) V ≡ shown_by kinds.Unassigned p (λ (s : Sighting). s.ordinal) V
  gone = readings u p H (unassigned_seen p)
      (λ (s : Sighting). only (is_kind kinds.Unassigned s && is_number s.paper p) (listed s.ordinal)) one
    where
      one : (before later : History) (stamp : Stamp) (e : Entry)
          → unassigned_seen p (shown_to u H before later stamp e)
          ≡ (let s : Sighting = shown_to u H before later stamp e in only
          (is_kind kinds.Unassigned s && is_number s.paper p) (listed s.ordinal))
      one before later stamp (Unassigned paper user ordinal) = refl
      one before later stamp (Commented paper n ordinal text) = sym (only-false _)
      one before later stamp e = refl

  done : (o : ℕ) → is_written_in_view p o V ≡ is_shown_done p o V
  done o =
      ap (last_or false) (readings u p H (done_seen p o)
      (λ (s : Sighting). only (is_number s.paper p && is_number s.ordinal o) (listed s.done)) one)
    where
      one : (before later : History) (stamp : Stamp) (e : Entry)
          → done_seen p o (shown_to u H before later stamp e)
          ≡ (let s : Sighting = shown_to u H before later stamp e in only (is_number s.paper p && is_number s.ordinal o)
          (listed s.done))
      one before later stamp (Reviewed paper ordinal version form) = refl
      one before later stamp e = refl

  -- a reviewer as she is told, by who she is, what she is and her label
  abbrev line : Option ℕ → Option Kind → ℕ → Reviewer
  line user seat o = record {
    done = where_known (administers u p H) (is_shown_done p o V);
    kind = if is_clear u p H then seat else None;
    label = o;
    user = if knows_reviewers u p H then name_shown user V else None;
  }

  line-same : (seat : SeatTold) → reviewer_told (standing_in_view u (Some p) V) (accounts_in_view V)
      (λ o. is_written_in_view p o V) seat
      ≡ line seat.user seat.kind seat.ordinal
  line-same seat =
      ap (λ (by : Standing). reviewer_told by (accounts_in_view V) (λ o. is_written_in_view p o V) seat)
      (standing_from_view u (Some p) H)
      ∙ (λ i. record {
        done = where_known (leading i) (done seat.ordinal i);
        kind = where_told (clear i) seat.kind;
        label = seat.ordinal;
        user = where_told (knows i) (name_shown seat.user V);
      })

  reviewers-told : page_told (λ page. page.reviewers) u p H
      ≡ where_known (oversees u p H || discusses u p H || is_answered u p H) (reviewers_listed u p H)
  reviewers-told =
      told-key u p H there order (λ page. page.reviewers) (λ by accepted. gets_reviewers by)
      (oversees u p H || discusses u p H || is_answered u p H)
      (Some (map (reviewer_told (standing_in_view u (Some p) V) (accounts_in_view V) (λ o. is_written_in_view p o V))
      (reviewers_in_view p V))) refl reviewed-to
      ∙ ap (where_known (oversees u p H || discusses u p H || is_answered u p H)) same
    where
      told : SeatTold → Reviewer
      told seat = line seat.user seat.kind seat.ordinal

      left : SeatTold → Bool
      left seat = is_left p V seat.ordinal

      keep : (same left : Bool) (seat : SeatTold)
          → map told (if left then seat ∷ [] else []) ≡ map (line seat.user seat.kind)
          (if left then seat.ordinal ∷ [] else [])
      keep same true seat = refl
      keep same false seat = refl

      where-same : (same : Bool) (seat : SeatTold)
          → map told (filter left (only same (seat ∷ [])))
          ≡ only same (map (line seat.user seat.kind) (filter (is_left p V) (seat.ordinal ∷ [])))
      where-same true seat = keep true (left seat) seat ∙ sym (only-true _)
      where-same false seat = sym (only-false _)

      one : (before later : History) (stamp : Stamp) (e : Entry)
          → map told (filter left (assigned_seen p (shown_to u H before later stamp e)))
          ≡ (let s : Sighting = shown_to u H before later stamp e in
          only (is_kind kinds.Assigned s && is_number s.paper p)
          (map (reviewer_shown u p H s) (filter (is_left p V) (listed s.ordinal))))
      one before later stamp (Assigned paper user review_kind ordinal) =
          let s : Sighting = shown_to u H before later stamp (Assigned paper user review_kind ordinal) in
          where-same (eqb paper p) (record { ordinal = ordinal; kind = s.review_kind; user = s.user })
      one before later stamp (Unassigned paper user ordinal) = sym (only-false _)
      one before later stamp (Reviewed paper ordinal version form) = sym (only-false _)
      one before later stamp (Commented paper n ordinal text) = sym (only-false _)
      one before later stamp e = refl

      same : map (reviewer_told (standing_in_view u (Some p) V) (accounts_in_view V) (λ o. is_written_in_view p o V))
          (reviewers_in_view p V) ≡ reviewers_listed u p H
      same =
          (λ i. map (λ (seat : SeatTold). line-same seat i)
          (filter (λ (seat : SeatTold). not (list_any (λ o. o == seat.ordinal) (gone i))) (seats_in_view p V)))
          ∙ ap (map told) (filter-flat_map left (assigned_seen p) V)
          ∙ map-flat_map told (λ (s : Sighting). filter left (assigned_seen p s)) V
          ∙ readings u p H (λ (s : Sighting). map told (filter left (assigned_seen p s)))
          (λ (s : Sighting). only (is_kind kinds.Assigned s && is_number s.paper p)
          (map (reviewer_shown u p H s) (filter (is_left p V) (listed s.ordinal)))) one

  -- ---- tags

  tags-told : page_told (λ page. page.tags) u p H ≡ where_known (is_eligible u p H)
      (tags_in_view u (chairs_committee (role_of u H)) p V)
  tags-told =
      told-key u p H there order (λ page. page.tags) (λ by accepted. gets_tags by) (is_eligible u p H)
      (Some (tags_in_view u (is_chair (standing_in_view u (Some p) V).role) p V)) refl (handled u p H there order)
      ∙ ap (λ (by : Standing). where_known (is_eligible u p H) (tags_in_view u (is_chair by.role) p V))
      (standing_from_view u (Some p) H)
      ∙ ap (λ chair. where_known (is_eligible u p H) (tags_in_view u chair p V)) chairs

  -- ---- comments

  comments-gate : (there member conflicted begun : Bool) (lines : List CommentLine) → there ≡ true
      → comments_answered (reply_or_rule
      (judged (not there breaks rules.NoPaper ∷ not member breaks rules.NotMember ∷ conflicted breaks rules.Conflict
      ∷ not begun breaks rules.WrongPhase ∷ [])
      (replies.Comments lines)))
      ≡ where_known ((member && not conflicted) && begun) lines
  comments-gate false member conflicted begun lines h = absurd (true≢false (sym h))
  comments-gate true false conflicted begun lines h = refl
  comments-gate true true true begun lines h = refl
  comments-gate true true false false lines h = refl
  comments-gate true true false true lines h = refl

  discussed : (is_clear_member stands && is_from Discussion (phase_of H)) ≡ discusses u p H
  discussed =
      to (is_member (role_of u H)) _ (is_past_submission (phase_of H)) (is_from Discussion (phase_of H)) _
      (is_conflicted u p H)
      committee (phase-words (phase_of H)).discussion (phase-words (phase_of H)).discussion_later
    where
      to : (m m' s d d' c : Bool) → m ≡ m' → d ≡ d' → (s && d') ≡ d'
          → ((m && not c) && d) ≡ (((m' && s) && not c) && d')
      to m m' s d d' c hm hd hs = grind (arith, hm, hd, hs)

  names-writers : discusses u p H ≡ true → shows_writer stands ≡ knows_writers u H
  names-writers is =
      to (is_clear_member stands) (is_chair (role_of u H)) _ (is_anonymous (mode_of H)) _
      (is_from Discussion (phase_of H)) (discussed ∙ is) chairs (mode-words (mode_of H)).reviewers
    where
      to : (m k k' h h' d : Bool) → (m && d) ≡ true → k ≡ k' → h ≡ h' → (m && (k || not h) && d) ≡ (k' || not h')
      to m k k' h h' d hmd hk hh = grind (arith, hmd, hk, hh)

  comments-same : discusses u p H ≡ true → map (comment_line stands (accounts_in_view V)) (comments_in_view p V)
      ≡ comments_listed p V
  comments-same is =
      map-flat_map told (comment_seen p) V
      ∙ readings u p H (λ (s : Sighting). map told (comment_seen p s))
      (λ (s : Sighting). only (is_kind kinds.Commented s && is_number s.paper p) (comment_shown_by s V)) one
    where
      told : CommentTold → CommentLine
      told = comment_line stands (accounts_in_view V)

      told-as : Bool → CommentTold → CommentLine
      told-as names comment = record {
        label = where_told (not names) comment.ordinal;
        n = comment.n;
        text = comment.text;
        user = where_told names (name_shown comment.writer V);
      }

      shown-as : ℕ → List ℕ → Option ℕ → Option ℕ → CommentLine
      shown-as n text writer ordinal =
          record {
            label = if is_some writer then None else label_shown ordinal;
            n = n;
            text = text;
            user = name_shown writer V;
          }

      by-name : (knows : Bool) (n : ℕ) (text : List ℕ) (maker : ℕ) (ordinal : Option ℕ)
          → told-as knows
          (record { n = n; writer = where_known knows maker; ordinal = label_shown ordinal; text = text })
          ≡ shown-as n text (where_known knows maker) ordinal
      by-name true n text maker ordinal = refl
      by-name false n text maker ordinal = refl

      where-same : (same open_to : Bool) (n : ℕ) (text : List ℕ) (maker : ℕ) (ordinal : Option ℕ)
          → (same ≡ true → open_to ≡ true)
          → map told
          (only same
          (record {
            n = n;
            writer = where_known (open_to && knows_writers u H) maker;
            ordinal = label_shown ordinal;
            text = text;
          } ∷ []))
          ≡ only same (shown-as n text (where_known (open_to && knows_writers u H) maker) ordinal ∷ [])
      where-same false open_to n text maker ordinal h = refl
      where-same true open_to n text maker ordinal h =
          ap
          (λ b.
          told (record {
            n = n;
            writer = where_known (b && knows_writers u H) maker;
            ordinal = label_shown ordinal;
            text = text;
          }) ∷ []) (h refl)
          ∙ ap
          (λ b.
          told-as b (record {
            n = n;
            writer = where_known (knows_writers u H) maker;
            ordinal = label_shown ordinal;
            text = text;
          }) ∷ []) (names-writers is)
          ∙ ap (λ (line : CommentLine). line ∷ []) (by-name (knows_writers u H) n text maker ordinal)
          ∙ sym (ap (λ b. shown-as n text (where_known (b && knows_writers u H) maker) ordinal ∷ []) (h refl))

      one : (before later : History) (stamp : Stamp) (e : Entry)
          → map told (comment_seen p (shown_to u H before later stamp e))
          ≡ (let s : Sighting = shown_to u H before later stamp e in only
          (is_kind kinds.Commented s && is_number s.paper p) (comment_shown_by s V))
      one before later stamp (Commented paper n ordinal text) =
          where-same (eqb paper p) (discusses u paper H) n text stamp.maker
          (shown_to u H before later stamp (Commented paper n ordinal text)).ordinal
          (λ same. ap (λ n. discusses u n H) (eqb-true paper p same) ∙ is)
      one before later stamp e = refl

  comments-told : comments_answered (answer u V (queries.Comments (Some p))) ≡ where_known (discusses u p H)
      (comments_listed p V)
  comments-told =
      ap (λ (by : Standing). comments_answered (reply_or_rule
      (judged (not (has_paper (facts_in_view u V) (Some p)) breaks rules.NoPaper ∷ not (is_member by.role) breaks
      rules.NotMember ∷ by.conflicted breaks rules.Conflict
      ∷ not (members_read_comments by.phase) breaks rules.WrongPhase ∷ [])
      (replies.Comments (map (comment_line by (accounts_in_view V)) (comments_in_view p V))))))
      (standing_from_view u (Some p) H)
      ∙ comments-gate (has_paper (facts_in_view u V) (Some p)) (is_member (role_of u H)) (is_conflicted u p H)
      (is_from Discussion (phase_of H))
      (map (comment_line stands (accounts_in_view V)) (comments_in_view p V)) is-there
      ∙ ap (λ b. where_known b (map (comment_line stands (accounts_in_view V)) (comments_in_view p V))) discussed
      ∙ known-same (discusses u p H) (map (comment_line stands (accounts_in_view V)) (comments_in_view p V))
      (comments_listed p V) comments-same
    where
      known-same : {A : Type 0} (b : Bool) (x y : A) → (b ≡ true → x ≡ y) → where_known b x ≡ where_known b y
      known-same {A} true x y h = ap (λ (x : A). Some x) (h refl)
      known-same false x y h = refl

  -- ---- responses

  response-gate : (there author member conflicted begun : Bool) (response : Option (List ℕ)) → there ≡ true
      → response_answered (reply_or_rule
      (judged (not there breaks rules.NoPaper ∷ not (author || member) breaks rules.NotMember
      ∷ (not author && conflicted) breaks rules.Conflict
      ∷ not (author || begun) breaks rules.WrongPhase ∷ not (is_some response) breaks rules.NoResponse ∷ [])
      (replies.Response (unwrap_or response []))))
      ≡ (if author || ((member && not conflicted) && begun) then response else None)
  response-gate false author member conflicted begun response h = absurd (true≢false (sym h))
  response-gate true true member conflicted begun None h = refl
  response-gate true true member conflicted begun (Some text) h = refl
  response-gate true false false conflicted begun response h = refl
  response-gate true false true true begun response h = refl
  response-gate true false true false false response h = refl
  response-gate true false true false true None h = refl
  response-gate true false true false true (Some text) h = refl

  response-given : response_answered (answer u V (queries.Response (Some p)))
      ≡ (if is_author u p H || discusses u p H then response_in_view p V else None)
  response-given =
      ap (λ (by : Standing). response_answered (reply_or_rule
      (judged (not (has_paper (facts_in_view u V) (Some p)) breaks rules.NoPaper ∷ not (by.author || is_member by.role)
      breaks rules.NotMember
      ∷ (not by.author && by.conflicted) breaks rules.Conflict ∷ not (by.author || members_read_responses by.phase)
      breaks rules.WrongPhase
      ∷ not (is_some (response_in_view p V)) breaks rules.NoResponse ∷ [])
      (replies.Response (unwrap_or (response_in_view p V) [])))))
      (standing_from_view u (Some p) H)
      ∙ response-gate (has_paper (facts_in_view u V) (Some p)) (is_author u p H) (is_member (role_of u H))
      (is_conflicted u p H) (is_from Discussion (phase_of H))
      (response_in_view p V) is-there
      ∙ ap (λ b. if is_author u p H || b then response_in_view p V else None) discussed

  pub response-answered : response_answered (answer u V (queries.Response (Some p)))
      ≡ (if is_author u p H || discusses u p H then response_of p H else None)
  response-answered = response-given ∙ by (is_author u p H || discusses u p H) refl
    where
      by : (b : Bool) → (is_author u p H || discusses u p H) ≡ b
          → (if b then response_in_view p V else None) ≡ (if b then response_of p H else None)
      by true is = response-seen u p H (ap (λ b. is_author u p H || b) discussed ∙ is)
      by false is = refl

  responses-shown : flat_map (response_seen p) V ≡ shown_by kinds.Responded p (λ (s : Sighting). s.text) V
  responses-shown = readings u p H (response_seen p)
      (λ (s : Sighting). only (is_kind kinds.Responded s && is_number s.paper p) (listed s.text)) one
    where
      one : (before later : History) (stamp : Stamp) (e : Entry)
          → response_seen p (shown_to u H before later stamp e)
          ≡ (let s : Sighting = shown_to u H before later stamp e in only
          (is_kind kinds.Responded s && is_number s.paper p) (listed s.text))
      one before later stamp (Responded paper text) = refl
      one before later stamp e = refl

  pub response-told : response_answered (answer u V (queries.Response (Some p)))
      ≡ last (shown_by kinds.Responded p (λ (s : Sighting). s.text) V)
  response-told = response-given ∙ by (is_author u p H || discusses u p H) refl
    where
      by : (b : Bool) → (is_author u p H || discusses u p H) ≡ b
          → (if b then response_in_view p V else None) ≡ last (shown_by kinds.Responded p (λ (s : Sighting). s.text) V)
      by true is = ap last responses-shown
      by false is =
          let neither = or_parts (is_author u p H) (discusses u p H) is in
          ap last (sym (responses-none u p H order neither.0 neither.1) ∙ responses-shown)

  -- ---- contents

  content-gate : (there a b c : Bool) (content : Option (List ℕ)) → there ≡ true
      → content_answered (reply_or_rule
      (judged (not there breaks rules.NoPaper ∷ not a breaks rules.NotMember ∷ b breaks rules.Conflict
      ∷ not c breaks rules.WrongPhase
      ∷ not (is_some content) breaks rules.NoContent ∷ [])
      (replies.Content (unwrap_or content []))))
      ≡ where_told ((a && not b) && c) content
  content-gate false a b c content h = absurd (true≢false (sym h))
  content-gate true false b c content h = refl
  content-gate true true true c content h = refl
  content-gate true true false false content h = refl
  content-gate true true false true None h = refl
  content-gate true true false true (Some content) h = refl

  reads-it : ((((is_author u p H || is_published (phase_of H) (is_accepted p H)) || is_admitted stands)
      && not (not (is_author u p H || is_published (phase_of H) (is_accepted p H)) && is_conflicted u p H))
      && ((is_author u p H || is_published (phase_of H) (is_accepted p H)) || members_see_papers (phase_of H)))
      ≡ (is_author u p H || (reads_to_judge u p H || appears p H))
  reads-it =
      to (is_member (role_of u H)) _ (is_external u p H) _ (is_from Bidding (phase_of H)) _ (is_author u p H)
      (is_conflicted u p H) (is_published (phase_of H) (is_accepted p H)) _
      committee (visits-same u p H) (phase-words (phase_of H)).bidding (public u p H there order)
    where
      to : (m m' e e' b b' a c o o' : Bool) → m ≡ m' → e ≡ e' → b ≡ b' → o ≡ o'
          → ((((a || o) || (m || e)) && not (not (a || o) && c)) && ((a || o) || b))
          ≡ (a || ((((m' && b') && not c) || ((e' && not c) && b')) || o'))
      to m m' e e' b b' a c o o' hm he hb ho = grind (arith, hm, he, hb, ho)

  content-told : (version : Option ℕ) (shown : Option (List ℕ))
      → option_map (λ (upload : Upload). upload.content) (upload_of version (uploads_in_view p V)) ≡ shown
      → ((is_author u p H || (reads_to_judge u p H || appears p H)) ≡ false → shown ≡ None)
      → content_answered (reply_or_rule (judged (content_asked (facts_in_view u V) (shown_in_view u V) (Some p) version)
      (replies.Content (unwrap_or (content_by (facts_in_view u V) (shown_in_view u V) (Some p) version) []))))
      ≡ shown
  content-told version shown is none =
      (λ i. content_answered (reply_or_rule
      (judged (not (has_paper (facts_in_view u V) (Some p)) breaks rules.NoPaper
      ∷ not (reads_freely (standing_from_view u (Some p) H i) (accepted-seen u p H i)
      || is_admitted (standing_from_view u (Some p) H i)) breaks rules.NotMember
      ∷ (not (reads_freely (standing_from_view u (Some p) H i) (accepted-seen u p H i))
      && (standing_from_view u (Some p) H i).conflicted) breaks rules.Conflict
      ∷ not (reads_freely (standing_from_view u (Some p) H i) (accepted-seen u p H i)
      || members_see_papers (standing_from_view u (Some p) H i).phase) breaks rules.WrongPhase
      ∷ not (is_some (found i)) breaks rules.NoContent ∷ [])
      (replies.Content (unwrap_or (found i) [])))))
      ∙ content-gate (has_paper (facts_in_view u V) (Some p))
      (reads_freely stands (is_accepted p H) || is_admitted stands)
      (not (reads_freely stands (is_accepted p H)) && is_conflicted u p H)
      (reads_freely stands (is_accepted p H) || members_see_papers (phase_of H)) shown is-there
      ∙ ap (λ b. where_told b shown) reads-it
      ∙ free (is_author u p H || (reads_to_judge u p H || appears p H)) shown none
    where
      found : content_by (facts_in_view u V) (shown_in_view u V) (Some p) version ≡ shown
      found =
          ap (λ (uploads : List Upload). option_map (λ (upload : Upload). upload.content) (upload_of version uploads))
          (every-upload u p H there order) ∙ is

      free : {A : Type 0} (said : Bool) (x : Option A) → (said ≡ false → x ≡ None) → where_told said x ≡ x
      free true x none = refl
      free false x none = sym (none refl)

  contents : map (λ (upload : Upload). upload.content) (uploads_in_view p V) ≡ shown_by kinds.Uploaded p
      (λ (s : Sighting). s.content) V
  contents =
      map-flat_map (λ (upload : Upload). upload.content) (upload_seen p) V
      ∙ readings u p H (λ (s : Sighting). map (λ (upload : Upload). upload.content) (upload_seen p s))
      (λ (s : Sighting). only (is_kind kinds.Uploaded s && is_number s.paper p) (listed s.content)) one
    where
      both : (same known : Bool) (version : ℕ) (content : List ℕ)
          → map (λ (upload : Upload). upload.content)
          (only same (upload_shown (where_known known version) (where_known known content)))
          ≡ only same (listed (where_known known content))
      both true true version content = refl
      both true false version content = refl
      both false true version content = refl
      both false false version content = refl

      one : (before later : History) (stamp : Stamp) (e : Entry)
          → map (λ (upload : Upload). upload.content) (upload_seen p (shown_to u H before later stamp e))
          ≡ (let s : Sighting = shown_to u H before later stamp e in only
          (is_kind kinds.Uploaded s && is_number s.paper p) (listed s.content))
      one before later stamp (Uploaded paper version content) = both (eqb paper p) _ version content
      one before later stamp e = refl

  versions-of : (v : ℕ) → map (λ (upload : Upload). upload.content)
      (filter (λ (upload : Upload). upload.version == v) (uploads_in_view p V)) ≡ contents_of p v V
  versions-of v =
      ap (map (λ (upload : Upload). upload.content))
      (filter-flat_map (λ (upload : Upload). upload.version == v) (upload_seen p) V)
      ∙ map-flat_map (λ (upload : Upload). upload.content)
      (λ (s : Sighting). filter (λ (upload : Upload). upload.version == v) (upload_seen p s)) V
      ∙ readings u p H (λ (s : Sighting). map (λ (upload : Upload). upload.content)
      (filter (λ (upload : Upload). upload.version == v) (upload_seen p s)))
      (λ (s : Sighting). only (is_kind kinds.Uploaded s && (is_number s.paper p && is_number s.version v))
      (listed s.content)) one
    where
      keep : (b : Bool) (version : ℕ) (content : List ℕ)
          → map (λ (upload : Upload). upload.content)
          (if b then record { version = version; content = content } ∷ [] else []) ≡ only b (content ∷ [])
      keep true version content = refl
      keep false version content = refl

      both : (same known : Bool) (version : ℕ) (content : List ℕ)
          → map (λ (upload : Upload). upload.content)
          (filter (λ (upload : Upload). upload.version == v)
          (only same (upload_shown (where_known known version) (where_known known content))))
          ≡ only (same && is_number (where_known known version) v) (listed (where_known known content))
      both true true version content = keep (eqb version v) version content
      both true false version content = refl
      both false true version content = refl
      both false false version content = refl

      one : (before later : History) (stamp : Stamp) (e : Entry)
          → map (λ (upload : Upload). upload.content)
          (filter (λ (upload : Upload). upload.version == v) (upload_seen p (shown_to u H before later stamp e)))
          ≡ (let s : Sighting = shown_to u H before later stamp e in
          only (is_kind kinds.Uploaded s && (is_number s.paper p && is_number s.version v)) (listed s.content))
      one before later stamp (Uploaded paper version content) = both (eqb paper p) _ version content
      one before later stamp e = refl

  hidden-uploads : (is_author u p H || (reads_to_judge u p H || appears p H)) ≡ false → uploads_in_view p V ≡ []
  hidden-uploads h = uploads-none u p H order (or_parts (is_author u p H) (reads_to_judge u p H || appears p H) h).0
      (or_parts (is_author u p H) (reads_to_judge u p H || appears p H) h).1

  pub contents-told : ContentTold u p H
  contents-told = record {
    newest =
        content-told None (last (shown_by kinds.Uploaded p (λ (s : Sighting). s.content) V))
        (sym (last_from-map (λ (upload : Upload). upload.content) None (uploads_in_view p V)) ∙ ap last contents)
        (λ h. ap last (sym contents ∙ ap (map (λ (upload : Upload). upload.content)) (hidden-uploads h)));
    version = λ v.
        content-told (Some v) (first_of (contents_of p v V))
        (find-first (λ (upload : Upload). upload.content) (λ (upload : Upload). upload.version == v)
        (uploads_in_view p V) ∙ ap first_of (versions-of v))
        (λ h.
        ap first_of (sym (versions-of v)
        ∙ ap (λ (uploads : List Upload). map (λ (upload : Upload). upload.content)
        (filter (λ (upload : Upload). upload.version == v) uploads)) (hidden-uploads h)));
  }

  pub seats-told : SeatsTold u p H
  seats-told = record { bids = bids-told; reviewers = reviewers-told; tags = tags-told }

-- ---- the laws

pub page_lists_told : PageListsTold
page_lists_told u p H legal there = seats-told u p H there (legal_invariants H legal).in_order

pub contents_told : ContentsTold
contents_told u p H legal there = contents-told u p H there (legal_invariants H legal).in_order

pub comments_told : CommentsTold
comments_told u p H legal there = comments-told u p H there (legal_invariants H legal).in_order

-- what was responded is answered to authors, and to those who discuss the paper
pub response_answer : (u : Option ℕ) (p : ℕ) (H : History) → Legal H → IsSubmitted H p
    → response_answered (answer u (view u H) (queries.Response (Some p)))
    ≡ (if is_author u p H || discusses u p H then response_of p H else None)
response_answer u p H legal there = response-answered u p H there (legal_invariants H legal).in_order

pub responses_told : ResponsesTold
responses_told u p H legal there = response-told u p H there (legal_invariants H legal).in_order
