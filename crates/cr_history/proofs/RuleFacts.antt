-- SPDX-License-Identifier: Apache-2.0 OR MIT
-- What the rules ask of a history: the facts that they read, and whom names, papers and conflicts stand for.
use Rattle.std.proofs.Common.{ℕ, Bool, true, false, cond, ◌≡◌, List, [], ◌∷◌, length, eqb, refl}
use Rattle.std.proofs.Common.{sym, ap, ◌∙◌, ◌||◌, ◌&&◌, Option, Some, None}
use Rattle.std.specs.Prelude.{not, is_none, unwrap_or, map}
use Rattle.std.specs.List.{AllByRecursion, list_any, find, flat_map}
use Rattle.std.specs.Option.{option_map}
use Rattle.std.specs.Str.{bytes_eq}
use Rattle.std.proofs.lemmas.Bool.{eqb-true, eq-eqb, true≢false, and_parts, not-true, not-false, or_left}
use Rattle.std.proofs.lemmas.Bool.{or_right}
use Rattle.cr_base.specs.declared.entry.Entry.TheVariants.{Conflict}
use Rattle.cr_base.specs.declared.reply.AccountLine.{AccountLine}
use Rattle.cr_base.specs.declared.standing.Standing.{Standing}
use Rattle.cr_base.specs.declared.target.Target.{Target}
use Rattle.cr_base.specs.declared.words.Phase.{Phase}
use Rattle.cr_base.specs.declared.words.Phase.TheVariants.{Setup, Submission, Bidding, Reviewing, Response, Discussion}
use Rattle.cr_base.specs.declared.words.Phase.TheVariants.{Notification, Closed}
use Rattle.cr_base.specs.declared.words.Role.{Role}
use Rattle.cr_base.specs.declared.words.Role.TheVariants.{Account}
use Rattle.cr_base.specs.Lists.{at_some, is_number, listed}
use Rattle.cr_base.specs.History.{History, Registration, all_told, registration_told}
use Rattle.cr_base.specs.HistoryFacts.{phase_of, deadline_of, role_of, accounts_of, papers_of, own_papers_of}
use Rattle.cr_base.specs.HistoryFacts.{own_bytes_of, is_external, is_invited, had_response_of, is_author, is_conflicted}
use Rattle.cr_base.specs.HistoryFacts.{bid_of, ordinal_of, seats_of, is_written, own_forms_of, own_comments_of}
use Rattle.cr_base.specs.HistoryFacts.{is_accepted, standing_of}
use Rattle.cr_base.specs.Page.{gets_conflicts}
use Rattle.cr_base.specs.Phases.{accepts_submissions, authors_have_declared}
use Rattle.cr_base.specs.Phases.{conflicts_are_final}
use Rattle.cr_base.specs.Words.{is_member, is_chair}
use Rattle.cr_base.specs.Checks.{conflict_case}
use Rattle.cr_base.specs.Sources.{Facts, Shown, users_among, role_among}
use Rattle.cr_base.proofs.CheckLaws.{NoneBroken}
use Rattle.cr_base.proofs.CoauthorLaws.{users-each}
use Rattle.cr_base.proofs.Small.{and_not_and_from}
use Rattle.cr_history.specs.Invariants.{IsRegistered, IsByRight, is_of_paper}
use Rattle.cr_history.specs.Groups.{IsRuled}

-- ---- the facts of a history

abbrev pub facts_of : Option ℕ → History → Facts
facts_of u H = record {
  standing = λ paper. standing_of u paper H;
  accounts = accounts_of H;
  papers = papers_of H;
  own_papers = own_papers_of u H;
  own_bytes = own_bytes_of u H;
  own_bid = λ p. bid_of u p H;
  own_ordinal = λ p. ordinal_of u p H;
  own_forms = λ p. own_forms_of u p H;
  own_comments = own_comments_of u H;
  accepted = λ p. is_accepted p H;
  deadline = λ phase. deadline_of phase H;
  had_response = had_response_of H;
}

-- a user named, if there is one, has registered, and her role is the one that the history tells
module _ (H : History) where
  abbrev line : Registration → AccountLine
  line r = record { user = r.user; name = r.name; role = role_of (Some r.user) H }

  abbrev role_found : ℕ → List Registration → Option Role
  role_found v rs = option_map (λ (a : AccountLine). a.role) (find (λ (a : AccountLine). eqb a.user v) (map line rs))

  role-found : (v : ℕ) (rs : List Registration) → is_none (role_found v rs) ≡ false
      → (unwrap_or (role_found v rs) Account ≡ role_of (Some v) H)
      × (list_any (λ (r : Registration). eqb r.user v) rs ≡ true)
  role-found v [] h = absurd (true≢false h)
  role-found v (r ∷ rs) h = by (eqb r.user v) refl h (role-found v rs)
    where
      found : Bool → Option Role
      found b = option_map (λ (a : AccountLine). a.role)
          (cond b (Some (line r)) (find (λ (a : AccountLine). eqb a.user v) (map line rs)))

      others : Bool
      others = list_any (λ (r : Registration). eqb r.user v) rs

      by : (b : Bool) → eqb r.user v ≡ b → is_none (found b) ≡ false
          → (is_none (role_found v rs) ≡ false → (unwrap_or (role_found v rs) Account ≡ role_of (Some v) H)
          × (others ≡ true))
          → (unwrap_or (found b) Account ≡ role_of (Some v) H) × ((eqb r.user v || others) ≡ true)
      by true same h rest = (ap (λ n. role_of (Some n) H) (eqb-true r.user v same), or_left (eqb r.user v) others same)
      by false same h rest = let k = rest h in (k.0, or_right (eqb r.user v) others k.1)

  pub role-among : (target : Option ℕ) → is_none (role_among (accounts_of H) target) ≡ false
      → (unwrap_or (role_among (accounts_of H) target) Account ≡ role_of (Some (unwrap_or target 0)) H)
      × IsRegistered H (unwrap_or target 0)
  role-among None h = absurd (true≢false h)
  role-among (Some v) h = role-found v (all_told registration_told H) h

-- ---- users of names

number-found : (H : History) (name : List ℕ) (v : ℕ) (rs : List Registration)
    → option_map (λ (a : AccountLine). a.user) (find (λ (a : AccountLine). bytes_eq a.name name) (map (line H) rs))
    ≡ Some v
    → list_any (λ (r : Registration). eqb r.user v) rs ≡ true
number-found H name v [] found = cc
number-found H name v (r ∷ rs) found = by (bytes_eq r.name name) found (number-found H name v rs)
  where
    rest : Option AccountLine
    rest = find (λ (a : AccountLine). bytes_eq a.name name) (map (line H) rs)

    by : (b : Bool) → option_map (λ (a : AccountLine). a.user) (cond b (Some (line H r)) rest) ≡ Some v
        → (option_map (λ (a : AccountLine). a.user) rest ≡ Some v → list_any (λ (r : Registration). eqb r.user v) rs
        ≡ true)
        → (eqb r.user v || list_any (λ (r : Registration). eqb r.user v) rs) ≡ true
    by true is later = let e : r.user ≡ v =
        cc in or_left (eqb r.user v) (list_any (λ (r : Registration). eqb r.user v) rs) (eq-eqb r.user v e)
    by false is later = or_right (eqb r.user v) (list_any (λ (r : Registration). eqb r.user v) rs) (later is)

-- the users of names have registered, as many of them as are there
pub users-registered : (H : History) (names : List (Option (List ℕ)))
    → AllByRecursion (IsRegistered H) (flat_map listed (users_among (accounts_of H) names))
users-registered H names = users-each (IsRegistered H) (accounts_of H)
    (λ name v at. number-found H name v (all_told registration_told H) at) names

-- ---- papers of the maker

-- an entry that only an author of a paper makes, in the submission
module _ (H : History) (maker : ℕ) where
  pub author-named : (paper : Option ℕ) → not (at_some (λ p. is_author (Some maker) p H) paper) ≡ false
      → is_author (Some maker) (unwrap_or paper 0) H ≡ true
  author-named None h = absurd (true≢false h)
  author-named (Some p) h = not-false (is_author (Some maker) p H) h

  pub submitting : not (accepts_submissions (phase_of H)) ≡ false → accepts_submissions (phase_of H) ≡ true
  submitting h = not-false (accepts_submissions (phase_of H)) h

-- ---- conflicts

-- before the bidding it isn't the notification yet
not_final : (phase : Phase) → authors_have_declared phase ≡ false → conflicts_are_final phase ≡ false
not_final Setup h = refl
not_final Submission h = refl
not_final Bidding h = absurd (true≢false h)
not_final Reviewing h = absurd (true≢false h)
not_final Response h = absurd (true≢false h)
not_final Discussion h = absurd (true≢false h)
not_final Notification h = absurd (true≢false h)
not_final Closed h = absurd (true≢false h)

clear-right : (begun own on member chair conflicted author : Bool) → begun ≡ true → chair ≡ true → conflicted ≡ false
    → cond begun ((own && (on && member)) || (chair && not conflicted)) (author && on) ≡ true
clear-right true own on member true false author hb hc hf = or_right (own && (on && member)) true refl
clear-right true own on member true true author hb hc hf = absurd (true≢false hf)
clear-right true own on member false conflicted author hb hc hf = absurd (true≢false (sym hc))
clear-right false own on member chair conflicted author hb hc hf = absurd (true≢false (sym hb))

own-right : (begun own member chair conflicted author : Bool) → begun ≡ true → own ≡ true → member ≡ true
    → cond begun ((own && (true && member)) || (chair && not conflicted)) (author && true) ≡ true
own-right true true true chair conflicted author hb ho hm = refl
own-right true true false chair conflicted author hb ho hm = absurd (true≢false (sym hm))
own-right true false member chair conflicted author hb ho hm = absurd (true≢false (sym ho))
own-right false own member chair conflicted author hb ho hm = absurd (true≢false (sym hb))

author-right : (begun own member chair conflicted author : Bool) → begun ≡ false → author ≡ true
    → cond begun ((own && (true && member)) || (chair && not conflicted)) (author && true) ≡ true
author-right true own member chair conflicted author hb ha = absurd (true≢false hb)
author-right false own member chair conflicted true hb ha = refl
author-right false own member chair conflicted false hb ha = absurd (true≢false (sym ha))

-- the five lists of rules say who turns which conflict when
module _ (H : History) (maker paper user : ℕ) where
  abbrev pub begun : Bool
  begun = authors_have_declared (phase_of H)

  abbrev final : Bool
  final = conflicts_are_final (phase_of H)

  abbrev by_maker : Standing
  by_maker = standing_of (Some maker) (Some paper) H

  conflict-ruled : (on : Bool) → final ≡ false → is_of_paper H user paper ≡ true
      → IsByRight H maker (Conflict paper user on)
      → IsRuled H maker (Conflict paper user on)
  conflict-ruled on early member right =
      record { phase = early; chair = tt; role = tt; member = member; right = right; seat = tt; texts = tt }

  abbrev outside : Bool
  outside = is_external (Some user) paper H

  -- a member is of the paper, and so is an external
  member-of : (role : Role) → role ≡ role_of (Some user) H → is_member role ≡ true → is_of_paper H user paper ≡ true
  member-of role r h = or_left (is_member (role_of (Some user) H)) outside (ap is_member (sym r) ∙ h)

  pub of-paper : (role : Role) (external : Bool) → role ≡ role_of (Some user) H → external ≡ outside
      → (is_member role || external) ≡ true
      → is_of_paper H user paper ≡ true
  of-paper role external r e h = sym (λ i. is_member (r i) || e i) ∙ h

  abbrev pub named : Role → Bool → Bool → Bool → Bool → Bool → Target
  named role herself author conflicted reviewer external =
      record {
        role = role;
        herself = herself;
        author = author;
        conflicted = conflicted;
        reviewer = reviewer;
        external = external;
      }

  pub case-ruled : (on bidding after withdrawn late : Bool) (role : Role)
      (herself author conflicted reviewer external : Bool) → begun ≡ bidding → final ≡ after
      → role ≡ role_of (Some user) H → eqb user maker ≡ herself → (gets_conflicts by_maker ≡ true → external ≡ outside)
      → NoneBroken (conflict_case on bidding after by_maker withdrawn
      (named role herself author conflicted reviewer external) late)
      → IsRuled H maker (Conflict paper user on)
  case-ruled false bidding after withdrawn late role herself author conflicted reviewer external b l r h e none =
      let now = and_parts begun (not final) (not-false (begun && not final) none.1.1.0) in
      let chair = not-false (is_chair by_maker.role) none.0 in
      let told = and_not_and_from (is_chair by_maker.role) by_maker.conflicted begun chair none.1.0 now.0 in
      conflict-ruled false (not-true final now.1)
      (of-paper role external r (e told) (not-false (is_member role || external) none.1.1.1.1.0))
      (clear-right begun (eqb user maker) false (is_member by_maker.role) (is_chair by_maker.role) by_maker.conflicted
      by_maker.author now.0 chair none.1.0)
  case-ruled true false after withdrawn late role herself author conflicted reviewer external b l r h e none =
      conflict-ruled true (not_final (phase_of H) b) (member-of role r (not-false (is_member role) none.1.1.1.0))
      (author-right begun (eqb user maker) (is_member by_maker.role) (is_chair by_maker.role) by_maker.conflicted
      by_maker.author b (not-false by_maker.author none.0))
  case-ruled true true true withdrawn late role herself author conflicted reviewer external b l r h e none =
      absurd (true≢false none.0)
  case-ruled true true false withdrawn late role true author conflicted reviewer external b l r h e none =
      conflict-ruled true l
      (member-of (role_of (Some user) H) refl (ap (λ n. is_member (role_of (Some n) H)) (eqb-true user maker h)
      ∙ not-false (is_member by_maker.role) none.0))
      (own-right begun (eqb user maker) (is_member by_maker.role) (is_chair by_maker.role) by_maker.conflicted
      by_maker.author b h
      (not-false (is_member by_maker.role) none.0))
  case-ruled true true false withdrawn late role false author conflicted reviewer external b l r h e none =
      let chair = not-false (is_chair by_maker.role) none.0 in
      let told = and_not_and_from (is_chair by_maker.role) by_maker.conflicted begun chair none.1.0 b in
      conflict-ruled true l (of-paper role external r (e told) (not-false (is_member role || external) none.1.1.1.0))
      (clear-right begun (eqb user maker) true (is_member by_maker.role) (is_chair by_maker.role) by_maker.conflicted
      by_maker.author b chair none.1.0)

-- ---- seats

-- the user is a chair in no conflict with the paper, and it is the bidding or later
abbrev pub is_told_all : History → ℕ → ℕ → Bool
is_told_all H maker p = gets_conflicts (standing_of (Some maker) (Some p) H)

-- where the maker is such a chair, she is shown of a user and of a paper's labels what the history tells, under which
-- of them a form is written, and who is invited to the paper
pub record TellsSeats (H : History) (maker : ℕ) (shown : Shown) : Type 0 where
  pub conflicted : (p v : ℕ) → IsRegistered H v → is_told_all H maker p ≡ true
      → (list_any (is_number (Some v)) (shown.authors p) || list_any (is_number (Some v)) (shown.conflicts p))
      ≡ is_conflicted (Some v) p H
  pub ordinal : (p v : ℕ) → is_told_all H maker p ≡ true → shown.ordinal (Some v) p ≡ ordinal_of (Some v) p H
  pub labels : (p : ℕ) → is_told_all H maker p ≡ true → shown.labels p ≡ length (seats_of p H)
  pub written : (p o : ℕ) → is_told_all H maker p ≡ true → shown.written p o ≡ is_written p o H
  pub invited : (p v : ℕ) → is_told_all H maker p ≡ true → shown.invited (Some v) p ≡ is_invited (Some v) p H
