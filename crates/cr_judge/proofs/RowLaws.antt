-- SPDX-License-Identifier: Apache-2.0 OR MIT
-- What the entries of a bulk's rows leave as it was, and what is read behind them.
use Rattle.std.proofs.Common.{ℕ, Bool, false, ◌≡◌, ◌&&◌, List, [], ◌∷◌, fold, refl, sym, ap, subst, ◌∙◌, Option}
use Rattle.std.proofs.Common.{Some, None}
use Rattle.std.specs.Prelude.{is_some, not}
use Rattle.std.specs.List.{list_any}
use Rattle.std.specs.Option.{option_and_then}
use Rattle.std.proofs.Math.Bool.{and-false}
use Rattle.cr_base.specs.declared.entry.Account.{Account}
use Rattle.cr_base.specs.declared.entry.Entry.{Entry}
use Rattle.cr_base.specs.declared.entry.Entry.TheVariants.{Conflict, Assigned, Unassigned, Tagged}
use Rattle.cr_base.specs.declared.entry.Stamp.{Stamp}
use Rattle.cr_base.specs.declared.entry.Stamped.{Stamped}
use Rattle.cr_base.specs.declared.standing.Standing.{Standing}
use Rattle.cr_base.specs.declared.words.Mode.{Mode}
use Rattle.cr_base.specs.declared.words.Phase.{Phase}
use Rattle.cr_base.specs.declared.words.Role.{Role}
use Rattle.cr_base.specs.Accounts.{role_in}
use Rattle.cr_base.specs.Bulk.{IsRowEntry}
use Rattle.cr_base.specs.History.{History}
use Rattle.cr_base.specs.Invites.{InvitesState, invites_from, is_invited_in}
use Rattle.cr_base.specs.Lists.{at_some, is_number}
use Rattle.cr_base.specs.Pairs.{users_tied_to}
use Rattle.cr_base.specs.Papers.{PapersState, paper_count, is_withdrawn_at}
use Rattle.cr_base.specs.Reviews.{ReviewsState, is_written_in}
use Rattle.cr_base.specs.Seats.{SeatsState, ordinal_in, seats_after, seats_from, SeatsFitInTurn}
use Rattle.cr_base.specs.Sources.{is_external_in, standing_at}
use Rattle.cr_base.specs.Stage.{is_late_in}
use Rattle.cr_base.specs.Tables.{Tables, tables_after, tables_from, FitInTurn}
use Rattle.cr_base.specs.Tags.{TagsState, tags_after}
use Rattle.cr_base.specs.Ties.{BareTies, TiesState, ties_after, ties_from, is_author_in, is_conflicted_in, AreWithin}
use Rattle.cr_base.specs.Words.{is_member}
use Rattle.cr_base.proofs.TieLaws.{within-after}
use Rattle.cr_view.proofs.NobodyLaws.{nobody-seat}
use Rattle.cr_judge.specs.Named.{there_in, named_at, target_with, written_at}
use Rattle.cr_judge.specs.Rows.{AreRowEntries}

-- ---- what is left

-- the tags after these entries
abbrev tags_from : TagsState → History → TagsState
tags_from tags entries = fold (λ (t : TagsState) (e : Stamped). tags_after t e.stamp.maker e.entry) tags entries

-- the tables with the ties, the seats and the tags behind these entries, and all else as it was
abbrev pub marked_by : Tables → History → Tables
marked_by t entries =
    record t { ties = ties_from t.ties entries; seats = seats_from t.seats entries; tags = tags_from t.tags entries }

-- an entry of a row changes these alone
one-marks : (t : Tables) (s : Stamped) → IsRowEntry s.entry → tables_after t s
    ≡ record t {
      ties = ties_after t.ties s.stamp.maker s.entry;
      seats = seats_after t.seats s.entry;
      tags = tags_after t.tags s.stamp.maker s.entry;
    }
one-marks t s is = by s.entry is
  where
    by : (e : Entry) → IsRowEntry e → tables_after t (record s { entry = e })
        ≡ record t {
          ties = ties_after t.ties s.stamp.maker e;
          seats = seats_after t.seats e;
          tags = tags_after t.tags s.stamp.maker e;
        }
    by (Conflict paper user on) is = refl
    by (Assigned paper user kind ordinal) is = refl
    by (Unassigned paper user ordinal) is = refl
    by (Tagged paper tag on) is = refl
    by _ is = absurd is

-- and so do several
pub rows-mark : (t : Tables) (entries : History) → AreRowEntries entries → marked_by t entries ≡ tables_from t entries
rows-mark t [] are = refl
rows-mark t (s ∷ entries) are =
    ap (λ (x : Tables). marked_by x entries) (sym (one-marks t s are.0)) ∙ rows-mark (tables_after t s) entries are.1

-- nobody becomes an author
pub rows-authors : (ties : TiesState) (entries : History) → AreRowEntries entries
    → (ties_from ties entries).authors ≡ ties.authors
rows-authors ties [] are = refl
rows-authors ties (s ∷ entries) are =
    rows-authors (ties_after ties s.stamp.maker s.entry) entries are.1 ∙ by s.entry are.0
  where
    by : (e : Entry) → IsRowEntry e → (ties_after ties s.stamp.maker e).authors ≡ ties.authors
    by (Conflict paper user on) is = refl
    by (Assigned paper user kind ordinal) is = refl
    by (Unassigned paper user ordinal) is = refl
    by (Tagged paper tag on) is = refl
    by _ is = absurd is

-- who is invited, by these entries
pub invites-behind : (t : Tables) (entries : History) → invites_from t.invites entries ≡ (tables_from t entries).invites
invites-behind t [] = refl
invites-behind t (s ∷ entries) = invites-behind (tables_after t s) entries

-- ---- what fits

-- the seats fit in their turn, where all do
pub seats-in-turn : (t : Tables) (entries : History) → FitInTurn t entries → SeatsFitInTurn t.seats entries
seats-in-turn t [] fits = tt
seats-in-turn t (s ∷ entries) fits = (fits.0.seats, seats-in-turn (tables_after t s) entries fits.1)

-- the papers that have ties are there behind them
pub within-from : (t : Tables) (entries : History) → FitInTurn t entries → AreWithin (paper_count t.papers) t.ties
    → AreWithin (paper_count (tables_from t entries).papers) (tables_from t entries).ties
within-from t [] fits within = within
within-from t (s ∷ entries) fits within =
    within-from (tables_after t s) entries fits.1
    (within-after t.papers t.ties s.stamp.maker s.entry fits.0.papers within)

-- ---- what is read behind them

-- nobody has a seat
pub nobody-ordinal : (seats : SeatsState) (user paper : Option ℕ) → user ≡ None
    → None ≡ option_and_then (ordinal_in seats user) paper
nobody-ordinal seats user None is = refl
nobody-ordinal seats user (Some p) is = nobody-seat seats user p is

-- nor is nobody invited
pub nobody-invited : (member : Bool) (invites : InvitesState) (user paper : Option ℕ) → user ≡ None
    → false ≡ at_some (λ p. not member && is_invited_in invites user p) paper
nobody-invited member invites user None is = refl
nobody-invited member invites user (Some p) is =
    sym (ap (λ (u : Option ℕ). not member && is_invited_in invites u p) is ∙ and-false (not member))

-- whether a user who is no member, or one who is, is invited to a paper behind them
pub invited-behind : (t : Tables) (earlier : History) (member : Bool) (user paper : Option ℕ) (seen : InvitesState)
    → seen ≡ t.invites
    → (u p : ℕ) (told : Bool) → user ≡ Some u → paper ≡ Some p
    → told ≡ (not member && is_invited_in (invites_from seen earlier) (Some u) p)
    → told ≡ at_some (λ q. not member && is_invited_in (tables_from t earlier).invites user q) paper
invited-behind t earlier member user paper seen same u p told user-is paper-is is =
    is
    ∙ ap (λ (x : InvitesState). not member && is_invited_in x (Some u) p)
    (ap (λ (x : InvitesState). invites_from x earlier) same ∙ invites-behind t earlier)
    ∙ sym (λ i. at_some (λ q. not member && is_invited_in (tables_from t earlier).invites (user-is i) q) (paper-is i))

module _ (t : Tables) (earlier : History) (are : AreRowEntries earlier) where
  abbrev now : Tables
  now = tables_from t earlier

  -- who has registered, which papers there are, and what is written
  pub accounts-behind : t.accounts ≡ now.accounts
  accounts-behind = ap (λ (x : Tables). x.accounts) (rows-mark t earlier are)

  papers-behind : t.papers ≡ now.papers
  papers-behind = ap (λ (x : Tables). x.papers) (rows-mark t earlier are)

  reviews-behind : t.reviews ≡ now.reviews
  reviews-behind = ap (λ (x : Tables). x.reviews) (rows-mark t earlier are)

  -- whether it is too late
  pub late-behind : (stamp : Stamp) (late : Bool) → late ≡ is_late_in t.stage stamp.at
      → late ≡ is_late_in now.stage stamp.at
  late-behind stamp late is = is ∙ ap (λ (x : Tables). is_late_in x.stage stamp.at) (rows-mark t earlier are)

  -- the ties and the seats
  ties-behind : ties_from t.ties earlier ≡ now.ties
  ties-behind = ap (λ (x : Tables). x.ties) (rows-mark t earlier are)

  seats-behind : seats_from t.seats earlier ≡ now.seats
  seats-behind = ap (λ (x : Tables). x.seats) (rows-mark t earlier are)

  -- with which role the accounts have a user
  pub target-behind : (user : Option ℕ) (target : Option (ℕ × Role)) → target ≡ target_with t.accounts user
      → target ≡ target_with now.accounts user
  target-behind user target is = is ∙ ap (λ (accounts : List Account). target_with accounts user) accounts-behind

  -- the tables of ties and of seats, where these are they
  pub ties-seen : (seen : TiesState) → seen ≡ t.ties → ties_from seen earlier ≡ now.ties
  ties-seen seen same = ap (λ (x : TiesState). ties_from x earlier) same ∙ ties-behind

  pub seats-seen : (seen : SeatsState) → seen ≡ t.seats → seats_from seen earlier ≡ now.seats
  seats-seen seen same = ap (λ (x : SeatsState). seats_from x earlier) same ∙ seats-behind

  -- who is invited, which no row changes
  pub invites-kept : (seen : InvitesState) → seen ≡ t.invites → seen ≡ now.invites
  invites-kept seen same = same ∙ ap (λ (x : Tables). x.invites) (rows-mark t earlier are)

  pub invites-seen : (seen : InvitesState) → seen ≡ t.invites → invites_from seen earlier ≡ now.invites
  invites-seen seen same = ap (λ (x : InvitesState). invites_from x earlier) same ∙ invites-behind t earlier

  -- the seats fit
  pub seats-fit : (seen : SeatsState) → seen ≡ t.seats → FitInTurn t earlier → SeatsFitInTurn seen earlier
  seats-fit seen same fits =
      subst (λ (x : SeatsState). SeatsFitInTurn x earlier) (sym same) (seats-in-turn t earlier fits)

  module _ (user paper : Option ℕ) where
    -- whether a user is in conflict with a paper
    pub conflicted-behind : (seen : TiesState) → seen ≡ t.ties → (u p : ℕ) (told : Bool) → user ≡ Some u
        → paper ≡ Some p
        → told ≡ is_conflicted_in (ties_from seen earlier) (Some u) p
        → told ≡ at_some (is_conflicted_in now.ties user) paper
    conflicted-behind seen same u p told user-is paper-is is =
        is
        ∙ ap (λ (x : TiesState). is_conflicted_in x (Some u) p) (ties-seen seen same)
        ∙ sym (λ i. at_some (is_conflicted_in now.ties (user-is i)) (paper-is i))

    -- under which label she reviews it
    pub ordinal-behind : (seen : SeatsState) → seen ≡ t.seats → (u p : ℕ) (told : Option ℕ) → user ≡ Some u
        → paper ≡ Some p
        → told ≡ ordinal_in (seats_from seen earlier) (Some u) p
        → told ≡ option_and_then (ordinal_in now.seats user) paper
    ordinal-behind seen same u p told user-is paper-is is =
        is
        ∙ ap (λ (x : SeatsState). ordinal_in x (Some u) p) (seats-seen seen same)
        ∙ sym (λ i. option_and_then (ordinal_in now.seats (user-is i)) (paper-is i))

    -- whether a form is written under it
    pub written-behind : (seen : ReviewsState) → seen ≡ t.reviews → (p : ℕ) (ordinal : Option ℕ) (told : Bool)
        → paper ≡ Some p
        → ordinal ≡ option_and_then (ordinal_in now.seats user) paper → told ≡ at_some (is_written_in seen p) ordinal
        → told ≡ written_at now user paper
    written-behind seen same p ordinal told paper-is held is =
        is
        ∙ ap (λ (x : ReviewsState). at_some (is_written_in x p) ordinal) (same ∙ reviews-behind)
        ∙ ap (at_some (is_written_in now.reviews p)) (held ∙ ap (option_and_then (ordinal_in now.seats user)) paper-is)
        ∙ sym (ap (written_at now user) paper-is)

    -- how she stands to it
    pub standing-behind : (phase : Phase) (mode : Mode) (role : Role) (author conflicted reviewer external : Bool)
        → phase ≡ t.stage.phase → mode ≡ t.stage.mode → role ≡ role_in t.accounts user
        → author ≡ at_some (is_author_in t.ties user) paper
        → conflicted ≡ at_some (is_conflicted_in now.ties user) paper
        → reviewer ≡ is_some (option_and_then (ordinal_in now.seats user) paper)
        → external ≡ at_some (λ p. not (is_member role) && is_invited_in now.invites user p) paper
        → record {
          phase = phase;
          mode = mode;
          role = role;
          author = author;
          conflicted = conflicted;
          reviewer = reviewer;
          external = external;
        }
        ≡ standing_at now user paper
    standing-behind phase mode role author conflicted reviewer external p m r a c v e =
        λ i. record {
          phase = phase_is i;
          mode = mode_is i;
          role = role_is i;
          author = author_is i;
          conflicted = c i;
          reviewer = reviewer_is i;
          external = external_is i;
        }
      where
        phase_is : phase ≡ now.stage.phase
        phase_is = p ∙ ap (λ (x : Tables). x.stage.phase) (rows-mark t earlier are)

        mode_is : mode ≡ now.stage.mode
        mode_is = m ∙ ap (λ (x : Tables). x.stage.mode) (rows-mark t earlier are)

        role_is : role ≡ role_in now.accounts user
        role_is = r ∙ ap (λ (accounts : List Account). role_in accounts user) accounts-behind

        author_is : author ≡ at_some (is_author_in now.ties user) paper
        author_is =
            a
            ∙ ap (λ (ties : BareTies). at_some (λ p. list_any (is_number user) (users_tied_to p ties)) paper)
            (sym (rows-authors t.ties earlier are) ∙ ap (λ (x : TiesState). x.authors) ties-behind)

        seated : (o : Option ℕ) → is_some (option_and_then (ordinal_in now.seats user) o)
            ≡ at_some (λ p. is_some (ordinal_in now.seats user p)) o
        seated None = refl
        seated (Some n) = refl

        reviewer_is : reviewer ≡ at_some (λ p. is_some (ordinal_in now.seats user p)) paper
        reviewer_is = v ∙ seated paper

        external_is : external ≡ at_some (is_external_in now user) paper
        external_is =
            e ∙ ap (λ (x : Role). at_some (λ p. not (is_member x) && is_invited_in now.invites user p) paper) role_is

  -- the paper named
  pub named-behind : (maker : ℕ) (paper at : Option ℕ) (by : Standing) (withdrawn : Bool) → at ≡ there_in t.papers paper
      → by ≡ standing_at now (Some maker) at → withdrawn ≡ at_some (is_withdrawn_at t.papers) at
      → record { by = by; paper = at; withdrawn = withdrawn } ≡ named_at now maker (there_in now.papers paper)
  named-behind maker paper at by withdrawn is stands gone =
      let gone_now : withdrawn ≡ at_some (is_withdrawn_at now.papers) at =
      gone ∙ ap (λ (x : PapersState). at_some (is_withdrawn_at x) at) papers-behind in
      let same : record { by = by; paper = at; withdrawn = withdrawn } ≡ named_at now maker at =
      λ i. record { by = stands i; paper = at; withdrawn = gone_now i } in
      same ∙ ap (named_at now maker) (is ∙ ap (λ (x : PapersState). there_in x paper) papers-behind)
