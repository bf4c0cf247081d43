-- SPDX-License-Identifier: Apache-2.0 OR MIT
-- What a user is told of herself, by reads of the tables.
use Rattle.std.proofs.Common.{ℕ, Bool, true, false, cond, ◌≡◌, ◌≤◌, ◌+◌, ◌<◌, List, [], ◌∷◌, ◌++◌, length}
use Rattle.std.proofs.Common.{drop, get_or, eqb, refl, sym, ap, subst, ◌∙◌, Option, Some, is_some, ◌&&◌, ◌||◌}
use Rattle.std.specs.Prelude.{map, not, filter, find, unwrap_or, nat_le}
use Rattle.std.specs.Option.{option_map}
use Rattle.std.proofs.lemmas.Bool.{and_parts, eqb-true, eq-eqb, true≢false}
use Rattle.cr_base.specs.declared.entry.Account.{Account}
use Rattle.cr_base.specs.declared.me.Me.{Me}
use Rattle.cr_base.specs.declared.seat.Seat.{Seat}
use Rattle.cr_base.specs.declared.words.Role.{Role}
use Rattle.cr_base.specs.Accounts.{account_at, role_in}
use Rattle.cr_base.specs.Answering.{me_by}
use Rattle.cr_base.specs.Sources.{facts_of_tables, is_external_in}
use Rattle.cr_base.proofs.FiledLaws.{filter-filter}
use Rattle.cr_base.proofs.ListLaws.{name_in-lines_of}
use Rattle.cr_base.specs.declared.pairs.Order.TheVariants.{ByPaper, ByUser}
use Rattle.cr_base.specs.declared.pairs.Tie.{Tie}
use Rattle.cr_base.specs.Invites.{is_invited_in}
use Rattle.cr_base.specs.Lists.{IsRising, given, is_number}
use Rattle.cr_base.specs.Pairs.{has_pair, ties_of, papers_tied_to}
use Rattle.cr_base.specs.Papers.{paper_count, paper_numbers, own_bytes}
use Rattle.cr_base.specs.Seats.{SeatsState, ordinal_in}
use Rattle.cr_base.specs.Tables.{Tables}
use Rattle.cr_base.specs.Talk.{own_comments_in}
use Rattle.cr_base.specs.Ties.{BareTies, pair_of, bare_tie, is_author_in, is_conflict_on_in, is_conflicted_in}
use Rattle.cr_base.specs.Ties.{are_within, AreWithin}
use Rattle.cr_base.specs.Words.{is_member}
use Rattle.cr_base.proofs.PairLaws.{list_any-others_of}
use Rattle.cr_base.proofs.RisingLists.{has_number, numbers-others_of}
use Rattle.cr_base.proofs.TieLaws.{within-pair}
use Rattle.cr_base.proofs.Small.{within-low, within-high}
use Rattle.cr_view.proofs.AnswerLaws.{walk-step}

-- in conflict, and no author: declared so, and no author
only_declared : (author declared : Bool) → (declared && not author) ≡ ((author || declared) && not author)
only_declared true true = refl
only_declared true false = refl
only_declared false declared = refl

-- a paper on which a user has a seat is one of those that have seats
seat-within : (n p : ℕ) (u : Option ℕ) (ts : SeatsState) → are_within n ts ≡ true → is_some (ordinal_in ts u p) ≡ true
    → (1 ≤ p) × (p ≤ n)
seat-within n p u [] all there = absurd (true≢false (sym there))
seat-within n p u (s ∷ ts) all there = by (eqb p s.pair.paper) refl there (seat-within n p u ts parts.1)
  where
    parts : ((nat_le 1 s.pair.paper && nat_le s.pair.paper n) ≡ true) × (are_within n ts ≡ true)
    parts = and_parts (nat_le 1 s.pair.paper && nat_le s.pair.paper n) (are_within n ts) all

    hers : List (Tie Seat) → Option (Tie Seat)
    hers seats = find (λ (x : Tie Seat). is_number u x.pair.user) (filter (λ (x : Tie Seat). not x.value.vacated) seats)

    by : (b : Bool) → eqb p s.pair.paper ≡ b
        → is_some (option_map (λ (x : Tie Seat). x.value.ordinal)
        (hers (cond b (s ∷ ties_of ByPaper p ts) (ties_of ByPaper p ts)))) ≡ true
        → (is_some (ordinal_in ts u p) ≡ true → (1 ≤ p) × (p ≤ n)) → (1 ≤ p) × (p ≤ n)
    by true same h rest =
        let e : s.pair.paper ≡ p = sym (eqb-true p s.pair.paper same) in
        subst (λ (m : ℕ). (1 ≤ m) × (m ≤ n)) e (within-low s.pair.paper n parts.0, within-high s.pair.paper n parts.0)
    by false other h rest = rest h

-- numbers, as ties of a user to the papers of these numbers
abbrev tied : ℕ → List ℕ → BareTies
tied user papers = map (λ (p : ℕ). bare_tie p user) papers

papers-tied : (user : ℕ) (papers : List ℕ) → papers_tied_to user (tied user papers) ≡ papers
papers-tied user [] = refl
papers-tied user (p ∷ papers) =
    let hers : BareTies = ties_of ByUser user (tied user papers) in
    ap (λ (b : Bool). map (λ (x : Tie (Unit {0})). x.pair.paper) (cond b (bare_tie p user ∷ hers) hers))
    (eq-eqb user user refl)
    ∙ ap (λ (ps : List ℕ). p ∷ ps) (papers-tied user papers)

-- the papers that she reviews
pub own-seats : (t : Tables) (user : ℕ) (papers : List ℕ) → are_within (paper_count t.papers) t.seats ≡ true
    → IsRising papers
    → ((p : ℕ) → has_number p papers ≡ is_some (ordinal_in t.seats (Some user) p))
    → papers ≡ filter (λ p. is_some (ordinal_in t.seats (Some user) p)) (paper_numbers t.papers)
own-seats t user papers within rising same =
    let ties : BareTies = tied user papers in
    let found : (p : ℕ) → is_some (ordinal_in t.seats (Some user) p) ≡ has_pair (pair_of p user) ties = λ p.
    sym (same p) ∙ ap (has_number p) (sym (papers-tied user papers)) ∙ list_any-others_of ByUser user p ties in
    sym
    (numbers-others_of (λ p. is_some (ordinal_in t.seats (Some user) p)) ByUser user t.papers.papers ties
    (subst IsRising (sym (papers-tied user papers)) rising)
    (λ p there. seat-within (paper_count t.papers) p (Some user) t.seats within (found p ∙ there)) found
    ∙ papers-tied user papers)

module _ (t : Tables) (user : ℕ) (within : AreWithin (paper_count t.papers) t.ties) where
  -- the papers whose author she is
  pub own-papers : IsRising (papers_tied_to user t.ties.authors) → papers_tied_to user t.ties.authors
      ≡ filter (λ p. is_author_in t.ties (Some user) p) (paper_numbers t.papers)
  own-papers rising =
      sym (numbers-others_of (λ p. is_author_in t.ties (Some user) p) ByUser user t.papers.papers t.ties.authors rising
      (λ p there. within-pair (paper_count t.papers) (pair_of p user) t.ties.authors within.authors there)
      (λ p. list_any-others_of ByPaper p user t.ties.authors))

  -- the papers with which she is declared in conflict, and whose author she isn't
  pub own-conflicts : IsRising (papers_tied_to user t.ties.conflicts)
      → filter (λ p. not (is_author_in t.ties (Some user) p)) (papers_tied_to user t.ties.conflicts)
      ≡ filter (λ p. is_conflicted_in t.ties (Some user) p && not (is_author_in t.ties (Some user) p))
      (paper_numbers t.papers)
  own-conflicts rising =
      ap (filter (λ p. not (is_author_in t.ties (Some user) p)))
      (sym (numbers-others_of (λ p. is_conflict_on_in t.ties (Some user) p) ByUser user t.papers.papers t.ties.conflicts
      rising
      (λ p there. within-pair (paper_count t.papers) (pair_of p user) t.ties.conflicts within.conflicts there)
      (λ p. refl)))
      ∙ sym (filter-filter (λ p. is_conflict_on_in t.ties (Some user) p) (λ p. not (is_author_in t.ties (Some user) p))
      (paper_numbers t.papers))
      ∙ ap (λ (test : ℕ → Bool). filter test (paper_numbers t.papers))
      (λ i p. only_declared (is_author_in t.ties (Some user) p) (is_conflict_on_in t.ties (Some user) p) i)

-- the papers to which she is invited
own-invites : (t : Tables) (user : ℕ) → are_within (paper_count t.papers) t.invites ≡ true
    → IsRising (papers_tied_to user t.invites)
    → papers_tied_to user t.invites ≡ filter (λ p. is_invited_in t.invites (Some user) p) (paper_numbers t.papers)
own-invites t user within rising =
    sym (numbers-others_of (λ p. is_invited_in t.invites (Some user) p) ByUser user t.papers.papers t.invites rising
    (λ p there. within-pair (paper_count t.papers) (pair_of p user) t.invites within there)
    (λ p. refl))

-- none pass a test that nothing passes
filter-none : (ns : List ℕ) → filter (λ p. false) ns ≡ []
filter-none [] = refl
filter-none (n ∷ ns) = filter-none ns

-- the papers of which she is an external: none of a member's, else those to which she is invited
pub external-none : (t : Tables) (user : ℕ) → is_member (role_in t.accounts (Some user)) ≡ true
    → [] ≡ filter (λ p. is_external_in t (Some user) p) (paper_numbers t.papers)
external-none t user is =
    sym (ap (λ (b : Bool). filter (λ p. not b && is_invited_in t.invites (Some user) p) (paper_numbers t.papers)) is
    ∙ filter-none (paper_numbers t.papers))

pub external-some : (t : Tables) (user : ℕ) → is_member (role_in t.accounts (Some user)) ≡ false
    → are_within (paper_count t.papers) t.invites ≡ true
    → IsRising (papers_tied_to user t.invites)
    → papers_tied_to user t.invites ≡ filter (λ p. is_external_in t (Some user) p) (paper_numbers t.papers)
external-some t user is within rising =
    own-invites t user within rising
    ∙ sym (ap (λ (b : Bool). filter (λ p. not b && is_invited_in t.invites (Some user) p) (paper_numbers t.papers)) is)

-- ---- the answer

-- what is read piece by piece is what she is told
pub me-told : (t : Tables) (user bytes comments : ℕ) (assigned papers conflicts invited name : List ℕ) (role : Role)
    → assigned ≡ filter (λ p. is_some (ordinal_in t.seats (Some user) p)) (paper_numbers t.papers)
    → bytes ≡ own_bytes t.papers (Some user) → comments ≡ own_comments_in t.talk (Some user)
    → papers ≡ filter (λ p. is_author_in t.ties (Some user) p) (paper_numbers t.papers)
    → conflicts ≡ filter (λ p. is_conflicted_in t.ties (Some user) p && not (is_author_in t.ties (Some user) p))
    (paper_numbers t.papers)
    → invited ≡ filter (λ p. is_external_in t (Some user) p) (paper_numbers t.papers)
    → name ≡ unwrap_or (option_map (λ (a : Account). a.name) (account_at t.accounts user)) []
    → role ≡ role_in t.accounts (Some user)
    → ◌≡◌ {A = Me} (record {
      assigned = assigned;
      bytes = bytes;
      comments = comments;
      conflicts = conflicts;
      invited = invited;
      name = name;
      papers = papers;
      role = role;
      user = user;
    })
    (me_by (facts_of_tables t (Some user)) user)
me-told t user bytes comments assigned papers conflicts invited name role reviewed uploaded wrote hers others asked
    named has =
    let wanted : Me = me_by (facts_of_tables t (Some user)) user in
    let known : name ≡ wanted.name =
    named ∙ sym (ap (λ (o : Option (List ℕ)). unwrap_or o []) (name_in-lines_of t.accounts user)) in
    let told : List ℕ → ℕ → ℕ → List ℕ → List ℕ → List ℕ → List ℕ → Role → Me =
    λ a b k c i n p r. record {
      assigned = a;
      bytes = b;
      comments = k;
      conflicts = c;
      invited = i;
      name = n;
      papers = p;
      role = r;
      user = user;
    } in
    ap (λ (a : List ℕ). told a bytes comments conflicts invited name papers role) reviewed
    ∙ ap (λ (b : ℕ). told wanted.assigned b comments conflicts invited name papers role) uploaded
    ∙ ap (λ (k : ℕ). told wanted.assigned wanted.bytes k conflicts invited name papers role) wrote
    ∙ ap (λ (c : List ℕ). told wanted.assigned wanted.bytes wanted.comments c invited name papers role) others
    ∙ ap (λ (i : List ℕ). told wanted.assigned wanted.bytes wanted.comments wanted.conflicts i name papers role) asked
    ∙ ap (λ (n : List ℕ). told wanted.assigned wanted.bytes wanted.comments wanted.conflicts wanted.invited n papers
    role) known
    ∙ ap (λ (p : List ℕ). told wanted.assigned wanted.bytes wanted.comments wanted.conflicts wanted.invited wanted.name
    p role) hers
    ∙ ap (λ (r : Role). told wanted.assigned wanted.bytes wanted.comments wanted.conflicts wanted.invited wanted.name
    wanted.papers r) has

-- ---- walks

-- one more paper of those of ties
pub papers-step : {V : Type 0} (ties : List (Tie V)) (i : ℕ) (other : Tie V) (before after wanted : List ℕ)
    → i < length ties → after ≡ before ++ (get_or ties i other).pair.paper ∷ []
    → before ++ map (λ (t : Tie V). t.pair.paper) (drop i ties) ≡ wanted
    → after ++ map (λ (t : Tie V). t.pair.paper) (drop (i + 1) ties) ≡ wanted
papers-step {V} ties i other before after wanted within pushed told =
    let first : List ℕ = (get_or ties i other).pair.paper ∷ [] in
    walk-step (λ (ts : List (Tie V)). map (λ (t : Tie V). t.pair.paper) ts) first ties i other before after wanted
    within (λ rest. refl) pushed told

-- the same of those that pass a test
pub kept-step : (test : ℕ → Bool) (ties : BareTies) (i : ℕ) (other : Tie (Unit {0})) (before after wanted : List ℕ)
    → i < length ties → after ≡ before ++ given (test (get_or ties i other).pair.paper) (get_or ties i other).pair.paper
    → before ++ filter test (map (λ (t : Tie (Unit {0})). t.pair.paper) (drop i ties)) ≡ wanted
    → after ++ filter test (map (λ (t : Tie (Unit {0})). t.pair.paper) (drop (i + 1) ties)) ≡ wanted
kept-step test ties i other before after wanted within pushed told =
    let n : ℕ = (get_or ties i other).pair.paper in
    walk-step (λ (ts : BareTies). filter test (map (λ (t : Tie (Unit {0})). t.pair.paper) ts)) (given (test n) n) ties i
    other before after wanted within
    (λ rest. by (test n) n (filter test (map (λ (t : Tie (Unit {0})). t.pair.paper) rest))) pushed told
  where
    by : (b : Bool) (n : ℕ) (rest : List ℕ) → cond b (n ∷ rest) rest ≡ given b n ++ rest
    by true n rest = refl
    by false n rest = refl
