-- SPDX-License-Identifier: Apache-2.0 OR MIT
-- The rows that assign the pairs of a plan, one after another, by the tables: each is accepted behind those before it.
use Rattle.std.proofs.Common.{ℕ, Bool, true, false, cond, eqb, ◌≡◌, ◌≤◌, ◌+◌, ◌&&◌, ◌||◌, List, [], ◌∷◌, length, map}
use Rattle.std.proofs.Common.{count_by, refl, sym, ap, subst, ◌∙◌, arith, Option, Some, None, Result, Ok, Err}
use Rattle.std.specs.Prelude.{decimal, is_some, not, nat_le, unwrap_or, IsOk}
use Rattle.std.specs.List.{AllByRecursion, list_any}
use Rattle.std.specs.Option.{option_map}
use Rattle.std.proofs.lemmas.Bool.{eq-eqb}
use Rattle.std.proofs.lemmas.Bool.Decides.{nat_tests}
use Rattle.std.proofs.lemmas.List.Sums.{sum_by-cons}
use Rattle.cr_base.specs.declared.bulk.Broken.{Broken}
use Rattle.cr_base.specs.declared.command.Command.TheVariants.{Assign}
use Rattle.cr_base.specs.declared.entry.Entry.{Entry}
use Rattle.cr_base.specs.declared.entry.Entry.TheVariants.{Assigned}
use Rattle.cr_base.specs.declared.entry.Stamp.{Stamp}
use Rattle.cr_base.specs.declared.reply.Rule.{Rule}
use Rattle.cr_base.specs.declared.target.Target.{Target}
use Rattle.cr_base.specs.declared.words.Kind.TheVariants.{Pc}
use Rattle.cr_base.specs.declared.words.Role.{Role}
use Rattle.cr_base.specs.Accounts.{lines_of, role_in}
use Rattle.cr_base.specs.Bulk.{and_behind, and_rows, row_judged, row_told_judged, rows_judged, tables_basis}
use Rattle.cr_base.specs.declared.retry.RetryKey.{RetryKey}
use Rattle.cr_base.specs.Calls.{stamp_by}
use Rattle.cr_base.specs.Checks.{Check, assign_checks, judged}
use Rattle.cr_base.specs.Drawn.{Drawn, alone}
use Rattle.cr_base.specs.History.{History, SeatTold}
use Rattle.cr_base.specs.Judging.{judge_by}
use Rattle.cr_base.specs.Invites.{is_invited_in}
use Rattle.cr_base.specs.Lists.{given, is_number, last_or}
use Rattle.cr_base.specs.Pairs.{users_tied_to}
use Rattle.cr_base.specs.Papers.{is_withdrawn_at, paper_numbers}
use Rattle.cr_base.specs.Parse.{parse_name, parse_paper}
use Rattle.cr_base.specs.Phases.{committee_works}
use Rattle.cr_base.specs.Plans.{PlanPair, is_of_paper}
use Rattle.cr_base.specs.Seats.{SeatsFit, SeatsInOrder, SeatsState, labels_in, ordinal_in, seats_after}
use Rattle.cr_base.specs.Sources.{Facts, Shown, facts_of_tables, paper_named, role_among, shown_in_tables, target_named}
use Rattle.cr_base.specs.Sources.{user_among}
use Rattle.cr_base.specs.Tables.{Tables, tables_from}
use Rattle.cr_base.specs.Ties.{authors_in, is_conflicted_in}
use Rattle.cr_base.specs.Words.{is_chair, is_member}
use Rattle.cr_base.proofs.CheckLaws.{NoneBroken, judged-none}
use Rattle.cr_base.proofs.SeatLaws.{labels_in-after, ordinal_in-after, seats-in_order-after}
use Rattle.cr_history.proofs.ListCuts.{AllByRecursion-both, AllByRecursion-map}
use Rattle.cr_permissions.specs.PlansTaken.{row_of_pair}
use Rattle.cr_permissions.proofs.MayBulkLaws.{rows_as_said}

-- ---- lists of pairs

-- two pairs aren't the same
abbrev pub Apart : PlanPair → PlanPair → Type 0
Apart e f = (eqb e.paper f.paper && eqb f.member.user e.member.user) ≡ false

abbrev pub AreApart : List PlanPair → Type 0
AreApart [] = Unit {0}
AreApart (e ∷ es) = AllByRecursion (λ f. Apart e f) es × AreApart es

abbrev pub bit : Bool → ℕ
bit b = cond b 1 0

pub counted : (p : ℕ) (e : PlanPair) (es : List PlanPair)
    → count_by (is_of_paper p) (e ∷ es) ≡ bit (eqb e.paper p) + count_by (is_of_paper p) es
counted p e es = sum_by-cons (λ (f : PlanPair). bit (is_of_paper p f)) e es

-- ---- one row

module _ (user at : ℕ) (key : Option RetryKey) (t : Tables) where
  abbrev stamp : Stamp
  stamp = stamp_by user at key

  -- the tables with other seats, which alone an assignment changes
  abbrev pub seated : SeatsState → Tables
  seated seats = record {
    stage = t.stage;
    accounts = t.accounts;
    papers = t.papers;
    ties = t.ties;
    seats = seats;
    invites = t.invites;
    reviews = t.reviews;
    talk = t.talk;
    tags = t.tags;
    decisions = t.decisions;
  }

  abbrev facts : SeatsState → Facts
  facts seats = facts_of_tables (seated seats) (Some user)

  abbrev shown : SeatsState → Shown
  shown seats = shown_in_tables (seated seats)

  abbrev entry_of : SeatsState → PlanPair → Entry
  entry_of seats e = Assigned e.paper e.member.user Pc (labels_in seats e.paper + 1)

  -- what is asked of a pair, whoever is seated
  pub record Stays (e : PlanPair) : Type 0 where
    pub paper : parse_paper (decimal e.paper) ≡ Some e.paper
    pub name : parse_name e.member.name ≡ Some e.member.name
    pub found : user_among (lines_of t.accounts) (Some e.member.name) ≡ Some e.member.user
    pub role : role_among (lines_of t.accounts) (Some e.member.user) ≡ Some e.member.role
    pub serves : is_member e.member.role ≡ true
    pub there : list_any (λ (q : ℕ). eqb q e.paper) (paper_numbers t.papers) ≡ true
    pub clear : is_conflicted_in t.ties (Some user) e.paper ≡ false
    pub open_ : is_withdrawn_at t.papers e.paper ≡ false
    pub wrote : list_any (is_number (Some e.member.user)) (authors_in t.ties e.paper) ≡ false
    pub declared : list_any (is_number (Some e.member.user)) (users_tied_to e.paper t.ties.conflicts) ≡ false

  -- and what goes by the seats
  pub record Takes (seats : SeatsState) (e : PlanPair) : Type 0 where
    pub stays : Stays e
    pub free : ordinal_in seats (Some e.member.user) e.paper ≡ None
    pub left : nat_le 26 (labels_in seats e.paper) ≡ false

  abbrev outside : PlanPair → Role → Bool
  outside e role = not (is_member role) && is_invited_in t.invites (Some e.member.user) e.paper

  abbrev target : SeatsState → PlanPair → Role → Target
  target seats e role = record {
    role = role;
    herself = is_number (Some e.member.user) user;
    author = list_any (is_number (Some e.member.user)) (authors_in t.ties e.paper);
    conflicted = list_any (is_number (Some e.member.user)) (authors_in t.ties e.paper)
        || list_any (is_number (Some e.member.user)) (users_tied_to e.paper t.ties.conflicts);
    reviewer = is_some (ordinal_in seats (Some e.member.user) e.paper);
    external = outside e role;
  }

  module _ (chair : is_chair (role_in t.accounts (Some user)) ≡ true)
      (works : committee_works t.stage.phase ≡ true) where
    none-broken : (seats : SeatsState) (e : PlanPair) → Takes seats e
        → NoneBroken (assign_checks ((facts seats).standing (Some e.paper))
        (paper_named (facts seats) (shown seats) (Some e.paper)) (Some (target seats e e.member.role))
        (labels_in seats e.paper))
    none-broken seats e takes =
        let s = takes.stays in (
          ap not s.there,
          (
            refl,
            (
              ap not chair,
              (
                s.clear,
                (
                  ap not works,
                  (
                    s.open_,
                    (
                      (λ i. not (s.serves i || outside e e.member.role)),
                      ((λ i. s.wrote i || s.declared i), (ap is_some takes.free, (takes.left, tt))),
                    ),
                  ),
                ),
              ),
            ),
          ),
        )

    row-taken : (seats : SeatsState) (e : PlanPair) → Takes seats e
        → row_judged (facts seats) (shown seats) stamp (row_of_pair e)
        ≡ Ok (alone stamp (entry_of seats e))
    row-taken seats e takes =
        let s = takes.stays in
        ap (row_told_judged (facts seats) (shown seats) stamp)
        (rows_as_said.pcreview (decimal e.paper) e.member.name [])
        ∙ (λ i. judge_by (facts seats) (shown seats) stamp (Assign (s.paper i) (s.name i) Pc))
        ∙ ap
        (λ (v : Option ℕ). judged
        (checks (target_named (facts seats) (shown seats) (Some user) (Some e.paper) v))
        (alone stamp (Assigned e.paper (unwrap_or v 0) Pc (labels_in seats e.paper + 1)))) s.found
        ∙ ap
        (λ (role : Option Role). judged (checks (option_map (target seats e) role)) (alone stamp (entry_of seats e)))
        s.role
        ∙ judged-none (checks (Some (target seats e e.member.role))) (alone stamp (entry_of seats e))
        (none-broken seats e takes)
      where
        checks : Option Target → List Check
        checks named = assign_checks ((facts seats).standing (Some e.paper))
            (paper_named (facts seats) (shown seats) (Some e.paper)) named (labels_in seats e.paper)

    -- ---- all rows

    abbrev after : SeatsState → PlanPair → SeatsState
    after seats e = seats_after seats (entry_of seats e)

    -- each may be assigned behind those before it
    abbrev pub Ready : SeatsState → List PlanPair → Type 0
    Ready seats [] = Unit {0}
    Ready seats (e ∷ es) = Takes seats e × Ready (after seats e) es

    abbrev pub rows : SeatsState → ℕ → List PlanPair → Result (List Entry) Broken
    rows seats n es = rows_judged (tables_basis user) stamp (seated seats) n (map row_of_pair es)

    joined : (entries : List Entry) (r : Result (List Entry) Broken) → IsOk r → IsOk (and_rows entries r)
    joined entries (Ok more) h = refl
    joined entries (Err refusal) h = h

    pub rows-taken : (es : List PlanPair) (seats : SeatsState) (n : ℕ) → Ready seats es → IsOk (rows seats n es)
    rows-taken [] seats n ready = refl
    rows-taken (e ∷ es) seats n ready =
        subst (λ (r : Result Drawn Rule). IsOk (and_behind n r go)) (sym (row-taken seats e ready.0))
        (joined (entry_of seats e ∷ []) (rows (after seats e) (n + 1) es)
        (rows-taken es (after seats e) (n + 1) ready.1))
      where
        go : History → Result (List Entry) Broken
        go group = rows_judged (tables_basis user) stamp (tables_from (seated seats) group) (n + 1) (map row_of_pair es)

    -- so it is where pairs are apart, none is seated, and there are labels for all of a paper's
    abbrev pub IsFree : SeatsState → PlanPair → Type 0
    IsFree seats e = ordinal_in seats (Some e.member.user) e.paper ≡ None

    abbrev pub HasLabels : SeatsState → List PlanPair → PlanPair → Type 0
    HasLabels seats es e = labels_in seats e.paper + count_by (is_of_paper e.paper) es ≤ 26

    pub ready : (es : List PlanPair) (seats : SeatsState) → SeatsInOrder seats
        → AllByRecursion (λ (e : PlanPair). Stays e) es → AreApart es
        → AllByRecursion (λ (e : PlanPair). IsFree seats e) es
        → AllByRecursion (λ (e : PlanPair). HasLabels seats es e) es → Ready seats es
    ready [] seats order stays apart free labels = tt
    ready (e ∷ es) seats order stays apart free labels = (
      record { stays = stays.0; free = free.0; left = spent (labels_in seats e.paper) few },
      ready es (after seats e) (seats-in_order-after seats (entry_of seats e) fits order) stays.1 apart.1
          (AllByRecursion-map (λ f. Apart e f × IsFree seats f) (λ f. IsFree (after seats e) f)
          (λ f h. still_free f h.0 h.1) es
          (AllByRecursion-both (λ f. Apart e f) (λ f. IsFree seats f) es apart.0 free.1))
          (AllByRecursion-map (λ f. HasLabels seats (e ∷ es) f) (λ f. HasLabels (after seats e) es f) still_labels es
          labels.1),
    )
      where
        here : bit (eqb e.paper e.paper) ≡ 1
        here = ap bit (eq-eqb e.paper e.paper refl)

        few : labels_in seats e.paper + 1 ≤ 26
        few = let some = labels.0 in omega (arith, some, counted e.paper e es, here)

        spent : (n : ℕ) → n + 1 ≤ 26 → nat_le 26 n ≡ false
        spent n h = grind (arith, nat_tests)

        fits : SeatsFit seats (entry_of seats e)
        fits = (refl, few, free.0)

        still_free : (f : PlanPair) → Apart e f → IsFree seats f → IsFree (after seats e) f
        still_free f other none =
            ordinal_in-after seats (entry_of seats e) order fits (Some f.member.user) f.paper
            ∙ ap (λ (b : Bool). last_or (ordinal_in seats (Some f.member.user) f.paper)
            (given b (Some (labels_in seats e.paper + 1)))) other
            ∙ none

        seat : SeatTold
        seat = record { ordinal = labels_in seats e.paper + 1; kind = Some Pc; user = Some e.member.user }

        as_many : (b : Bool) → length (given b seat) ≡ bit b
        as_many true = refl
        as_many false = refl

        still_labels : (f : PlanPair) → HasLabels seats (e ∷ es) f → HasLabels (after seats e) es f
        still_labels f h =
            omega (
              arith,
              h,
              counted f.paper e es,
              labels_in-after seats (entry_of seats e) f.paper,
              as_many (eqb e.paper f.paper),
            )
