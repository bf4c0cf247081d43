-- SPDX-License-Identifier: Apache-2.0 OR MIT
-- PlansTaken: the rows of the best plan are accepted, one after another.
use Rattle.std.proofs.Common.{ℕ, Bool, true, false, cond, eqb, ◌≡◌, ◌≤◌, ◌+◌, ◌*◌, ◌&&◌, ◌||◌, suc, List, [], ◌∷◌}
use Rattle.std.proofs.Common.{◌++◌}
use Rattle.std.proofs.Common.{length, map, count_by, refl, sym, ap, subst, ◌∙◌, arith, Option, Some, None, Result, Ok}
use Rattle.std.proofs.Common.{Err}
use Rattle.std.specs.Prelude.{filter, is_some, not, nat_le, nat_lt, IsOk}
use Rattle.std.specs.List.{AllByRecursion, flat_map, list_all, list_any, slice_get}
use Rattle.std.specs.Option.{option_map}
use Rattle.std.proofs.lemmas.Bool.{and_parts, eq-eqb, eqb-true, not-false, or_right, not-true}
use Rattle.std.proofs.lemmas.Bool.Decides.{nat_tests}
use Rattle.std.proofs.Math.Bool.{and-false}
use Rattle.cr_base.specs.declared.bulk.Broken.{Broken}
use Rattle.cr_base.specs.declared.entry.Account.{Account}
use Rattle.cr_base.specs.declared.entry.Entry.{Entry}
use Rattle.cr_base.specs.declared.reply.AccountLine.{AccountLine}
use Rattle.cr_base.specs.declared.reply.Rule.{Rule}
use Rattle.cr_base.specs.declared.retry.RetryKey.{RetryKey}
use Rattle.cr_base.specs.declared.words.Phase.TheVariants.{Bidding, Notification}
use Rattle.cr_base.specs.Accounts.{account_at, lines_from, lines_of, role_at, role_in}
use Rattle.cr_base.specs.Answering.{plan_asked}
use Rattle.cr_base.specs.declared.bulk.BulkRow.{BulkRow}
use Rattle.cr_base.specs.Bulk.{bulk_behind, bulk_by_role, bulk_checks, bulk_of_rows, rows_judged, tables_basis}
use Rattle.cr_base.specs.Calls.{bulk_by, stamp_by}
use Rattle.cr_base.specs.Checks.{judged}
use Rattle.cr_base.specs.Drawn.{Drawn}
use Rattle.cr_base.specs.History.{History}
use Rattle.cr_base.specs.Lists.{IsRising, is_number, total}
use Rattle.cr_base.specs.Pairs.{users_tied_to}
use Rattle.cr_base.specs.Papers.{is_withdrawn_at, paper_numbers}
use Rattle.cr_base.specs.Phases.{committee_works, is_from}
use Rattle.cr_base.specs.Plans.{PlanPair, best_plan, bid_by, bid_sum, choices, first_greatest, has_labels_for}
use Rattle.cr_base.specs.Plans.{is_free_for, is_of_member, is_of_paper, is_plan, or_greater, pairs_of_paper}
use Rattle.cr_base.specs.Plans.{planned_members, planned_pairs, planned_papers}
use Rattle.cr_base.specs.Reports.{clear_papers, is_clear_of, open_papers}
use Rattle.cr_base.specs.Seats.{labels_in, ordinal_in}
use Rattle.cr_base.specs.Sources.{Facts, Shown, facts_of_tables, shown_in_tables}
use Rattle.cr_base.specs.Tables.{Tables, tables_of}
use Rattle.cr_base.specs.Texts.{is_name}
use Rattle.cr_base.specs.Ties.{authors_in, is_conflicted_in}
use Rattle.cr_base.specs.Words.{is_chair, is_member}
use Rattle.cr_base.proofs.AccountLaws.{number_in-lines_of}
use Rattle.cr_base.proofs.CheckLaws.{NoneBroken, judged-Ok, judged-none}
use Rattle.cr_base.proofs.ListLaws.{role_among-lines_of}
use Rattle.cr_base.proofs.PlanLaws.{papers-rise, users, users-rise}
use Rattle.cr_base.proofs.SpelledNumbers.{paper-spelt}
use Rattle.cr_base.proofs.TargetLaws.{paper_within}
use Rattle.cr_base.proofs.Small.{nat_lt-eqb, nat_lt-eqb-swap}
use Rattle.cr_history.specs.Invariants.{Invariants}
use Rattle.cr_history.specs.Laws.{AreFormsTold, AreTold}
use Rattle.cr_history.proofs.FormAgreement.{forms_tell}
use Rattle.cr_history.proofs.SeatAgreement.{in_order-tables}
use Rattle.cr_history.proofs.SizeAgreement.{sized-tables}
use Rattle.cr_history.proofs.ListCuts.{AllByRecursion-append, AllByRecursion-both, AllByRecursion-filter}
use Rattle.cr_history.proofs.ListCuts.{AllByRecursion-map}
use Rattle.cr_policy.specs.Legal.{Legal}
use Rattle.cr_policy.specs.View.{view}
use Rattle.cr_policy.specs.ViewFacts.{facts_in_view, shown_in_view}
use Rattle.cr_policy.proofs.AcceptedLaws.{Kept-told}
use Rattle.cr_policy.proofs.AccountNames.{found_by_name, name_at, row_names}
use Rattle.cr_policy.proofs.FactAgreement.{facts_in_view-tables}
use Rattle.cr_policy.proofs.LegalLaws.{Legal-fits, Legal-judge_bulk, legal_invariants}
use Rattle.cr_policy.proofs.PageAgreement.{best-tables, papers-tables}
use Rattle.cr_policy.proofs.ReportAgreement.{passed}
use Rattle.cr_permissions.specs.PlansTaken.{PlansTaken, row_of_pair}
use Rattle.cr_permissions.proofs.PlanRows.{Apart, AreApart, Stays, bit, counted, ready, rows-taken}

-- ---- what passes a test is not what doesn't

none-there : (o : Option ℕ) → is_some o ≡ false → o ≡ None
none-there None h = refl
none-there (Some n) h = absurd (cc (h))

-- ---- each of a list

-- what holds of each, holds of each of every choice
mapped : {A : Type 0} (P : List A → Type 0) (x : A) (cs : List (List A)) → AllByRecursion (λ (c : List A). P (x ∷ c)) cs
    → AllByRecursion P (map (λ (c : List A). x ∷ c) cs)
mapped P x [] h = tt
mapped P x (c ∷ cs) h = (h.0, mapped P x cs h.1)

each-chosen : {A : Type 0} (P : A → Type 0) (xs : List A) → AllByRecursion P xs
    → AllByRecursion (λ (c : List A). AllByRecursion P c) (choices xs)
each-chosen P [] h = (tt, tt)
each-chosen {A} P (x ∷ xs) h =
    let rest = each-chosen P xs h.1 in
    AllByRecursion-append (λ (c : List A). AllByRecursion P c) (map (λ (c : List A). x ∷ c) (choices xs)) (choices xs)
    (mapped (λ (c : List A). AllByRecursion P c) x (choices xs)
    (AllByRecursion-map (λ (c : List A). AllByRecursion P c) (λ (c : List A). P x × AllByRecursion P c)
    (λ c k. (h.0, k)) (choices xs) rest))
    rest

-- and pairs that are apart are so in every choice
apart-chosen : (es : List PlanPair) → AreApart es → AllByRecursion (λ (c : List PlanPair). AreApart c) (choices es)
apart-chosen [] h = (tt, tt)
apart-chosen (e ∷ es) h =
    let rest = apart-chosen es h.1 in
    let from_first = each-chosen (λ (f : PlanPair). Apart e f) es h.0 in
    AllByRecursion-append (λ (c : List PlanPair). AreApart c) (map (λ (c : List PlanPair). e ∷ c) (choices es))
    (choices es)
    (mapped (λ (c : List PlanPair). AreApart c) e (choices es)
    (AllByRecursion-both (λ (c : List PlanPair). AllByRecursion (λ (f : PlanPair). Apart e f) c)
    (λ (c : List PlanPair). AreApart c) (choices es) from_first rest))
    rest

-- the first of the greatest sum is one of them
greatest-one : (P : List PlanPair → Type 0) (ps : List (List PlanPair)) → AllByRecursion P ps → (plan : List PlanPair)
    → first_greatest ps ≡ Some plan → P plan
greatest-one P [] h plan is = absurd (cc (is))
greatest-one P (p ∷ ps) h plan is = by (first_greatest ps) refl (greatest-one P ps h.1) is
  where
    by : (o : Option (List PlanPair)) → first_greatest ps ≡ o → ((q : List PlanPair) → first_greatest ps ≡ Some q → P q)
        → Some (or_greater p o) ≡ Some plan → P plan
    by None none rest is = let same : p ≡ plan = cc (is) in subst P same h.0
    by (Some later) found rest is = pick (nat_lt (bid_sum p) (bid_sum later)) is
      where
        pick : (b : Bool) → Some (cond b later p) ≡ Some plan → P plan
        pick true is = let same : later ≡ plan = cc (is) in subst P same (rest later found)
        pick false is = let same : p ≡ plan = cc (is) in subst P same h.0

-- numbers are among themselves
among : (ps : List ℕ) → AllByRecursion (λ (p : ℕ). list_any (λ (q : ℕ). eqb q p) ps ≡ true) ps
among [] = tt
among (p ∷ ps) = (
  ap (λ (b : Bool). b || list_any (λ (q : ℕ). eqb q p) ps) (eq-eqb p p refl),
  AllByRecursion-map (λ (m : ℕ). list_any (λ (q : ℕ). eqb q m) ps ≡ true)
      (λ (m : ℕ). list_any (λ (q : ℕ). eqb q m) (p ∷ ps) ≡ true)
      (λ m h. or_right (eqb p m) (list_any (λ (q : ℕ). eqb q m) ps) h) ps (among ps),
)

-- what all pass, one that is among them passes
all-among : (test : ℕ → Bool) (ps : List ℕ) (p : ℕ) → list_all test ps ≡ true → list_any (λ (q : ℕ). eqb q p) ps ≡ true
    → test p ≡ true
all-among test [] p all one = absurd (cc (one))
all-among test (q ∷ ps) p all one =
    let parts = and_parts (test q) (list_all test ps) all in
    by (eqb q p) refl parts.0 one (all-among test ps p parts.1)
  where
    by : (b : Bool) → eqb q p ≡ b → test q ≡ true → (b || list_any (λ (m : ℕ). eqb m p) ps) ≡ true
        → (list_any (λ (m : ℕ). eqb m p) ps ≡ true → test p ≡ true) → test p ≡ true
    by true is here one rest = subst (λ (n : ℕ). test n ≡ true) (eqb-true q p is) here
    by false is here one rest = rest one

-- those behind a number that rises are other numbers
others : (p : ℕ) (ps : List ℕ) → list_all (nat_lt p) ps ≡ true → AllByRecursion (λ (q : ℕ). eqb p q ≡ false) ps
others p [] h = tt
others p (q ∷ ps) h = let parts =
    and_parts (nat_lt p q) (list_all (nat_lt p) ps) h in (nat_lt-eqb p q parts.0, others p ps parts.1)

-- ---- what is planned, by the tables of a legal history

module _ (user at : ℕ) (key : Option RetryKey) (per_paper load : ℕ) (H : History) (legal : Legal H) where
  abbrev t : Tables
  t = tables_of H

  abbrev facts : Facts
  facts = facts_of_tables t (Some user)

  abbrev shown : Shown
  shown = shown_in_tables t

  abbrev papers : List ℕ
  papers = planned_papers facts shown per_paper

  abbrev members : List AccountLine
  members = planned_members facts

  -- ---- papers

  record PaperIs (p : ℕ) : Type 0 where
    there : list_any (λ (q : ℕ). eqb q p) (paper_numbers t.papers) ≡ true
    clear : is_conflicted_in t.ties (Some user) p ≡ false
    open_ : is_withdrawn_at t.papers p ≡ false
    labels : labels_in t.seats p + per_paper ≤ 26
    planned : list_any (λ (q : ℕ). eqb q p) papers ≡ true

  papers-are : AllByRecursion (λ (p : ℕ). PaperIs p) papers
  papers-are =
      AllByRecursion-map (λ (p : ℕ). (((There p × Clear p) × Open p) × Left p) × Planned p) (λ (p : ℕ). PaperIs p)
      (λ p h. record {
        there = h.0.0.0.0;
        clear = not-true (is_conflicted_in t.ties (Some user) p) h.0.0.0.1;
        open_ = not-true (is_withdrawn_at t.papers p) h.0.0.1;
        labels = within (labels_in t.seats p + per_paper) h.0.1;
        planned = h.1;
      })
      papers (AllByRecursion-both (λ (p : ℕ). ((There p × Clear p) × Open p) × Left p) Planned papers left
      (among papers))
    where
      There : ℕ → Type 0
      There p = list_any (λ (q : ℕ). eqb q p) (paper_numbers t.papers) ≡ true

      Clear : ℕ → Type 0
      Clear p = is_clear_of facts p ≡ true

      Open : ℕ → Type 0
      Open p = not (shown.withdrawn p) ≡ true

      Left : ℕ → Type 0
      Left p = has_labels_for shown per_paper p ≡ true

      Planned : ℕ → Type 0
      Planned p = list_any (λ (q : ℕ). eqb q p) papers ≡ true

      within : (n : ℕ) → nat_le n 26 ≡ true → n ≤ 26
      within n h = grind (arith, nat_tests)

      stands : ℕ → Bool
      stands p = not (shown.withdrawn p)

      clear : AllByRecursion (λ (p : ℕ). There p × Clear p) (clear_papers facts)
      clear =
          AllByRecursion-both There Clear (clear_papers facts)
          (AllByRecursion-filter There (is_clear_of facts) (paper_numbers t.papers) (among (paper_numbers t.papers)))
          (passed (is_clear_of facts) (paper_numbers t.papers))

      open_ : AllByRecursion (λ (p : ℕ). (There p × Clear p) × Open p) (open_papers facts shown)
      open_ =
          AllByRecursion-both (λ (p : ℕ). There p × Clear p) Open (open_papers facts shown)
          (AllByRecursion-filter (λ (p : ℕ). There p × Clear p) stands (clear_papers facts) clear)
          (passed stands (clear_papers facts))

      left : AllByRecursion (λ (p : ℕ). ((There p × Clear p) × Open p) × Left p) papers
      left =
          AllByRecursion-both (λ (p : ℕ). (There p × Clear p) × Open p) Left papers
          (AllByRecursion-filter (λ (p : ℕ). (There p × Clear p) × Open p) (has_labels_for shown per_paper)
          (open_papers facts shown) open_)
          (passed (has_labels_for shown per_paper) (open_papers facts shown))

  -- ---- members

  abbrev LineIs : AccountLine → Type 0
  LineIs a = (name_at t.accounts a.user ≡ Some a.name) × (role_at t.accounts a.user ≡ Some a.role)

  lines-are : (n : ℕ) (accounts : List Account) → ((k : ℕ) → account_at t.accounts (n + k) ≡ slice_get accounts k)
      → AllByRecursion (λ (a : AccountLine). LineIs a) (lines_from n accounts)
  lines-are n [] at' = tt
  lines-are n (a ∷ accounts) at' = (
    (ap (option_map (λ (b : Account). b.name)) here, ap (option_map (λ (b : Account). b.role)) here),
    lines-are (n + 1) accounts (λ k. ap (account_at t.accounts) (behind k) ∙ at' (suc k)),
  )
    where
      none : n ≡ n + 0
      none = omega arith

      here : account_at t.accounts n ≡ Some a
      here = ap (account_at t.accounts) none ∙ at' 0

      behind : (k : ℕ) → n + 1 + k ≡ n + suc k
      behind k = omega arith

  all-lines : AllByRecursion (λ (a : AccountLine). LineIs a) (lines_of t.accounts)
  all-lines = lines-are 1 t.accounts (λ k. ap (account_at t.accounts) (next k))
    where
      next : (k : ℕ) → 1 + k ≡ suc k
      next k = omega arith

  members-are : AllByRecursion (λ (a : AccountLine). LineIs a × (is_member a.role ≡ true)) members
  members-are =
      AllByRecursion-both (λ (a : AccountLine). LineIs a) (λ (a : AccountLine). is_member a.role ≡ true) members
      (AllByRecursion-filter (λ (a : AccountLine). LineIs a) (λ (a : AccountLine). is_member a.role)
      (lines_of t.accounts) all-lines)
      (passed (λ (a : AccountLine). is_member a.role) (lines_of t.accounts))

  -- ---- pairs

  record PairIs (e : PlanPair) : Type 0 where
    low : 1 ≤ e.paper
    high : e.paper ≤ 9999
    named : is_name e.member.name ≡ true
    stays : Stays user at key t e
    free : ordinal_in t.seats (Some e.member.user) e.paper ≡ None
    labels : labels_in t.seats e.paper + per_paper ≤ 26
    planned : list_any (λ (q : ℕ). eqb q e.paper) papers ≡ true

  in-range : (p : ℕ) → list_any (λ (q : ℕ). eqb q p) (paper_numbers t.papers) ≡ true → (1 ≤ p) × (p ≤ 9999)
  in-range p there =
      let within = paper_within t.papers.papers (Some p) (ap not there) in
      let few = (sized-tables H (Legal-fits H legal)).papers in
      (within.0, omega (arith, within.1, few))

  abbrev pair : ℕ → AccountLine → PlanPair
  pair p a = record { paper = p; member = a; bid = bid_by shown p a.user }

  pair-is : (p : ℕ) → PaperIs p → (a : AccountLine) → LineIs a × (is_member a.role ≡ true)
      → is_free_for shown p a.user ≡ true → PairIs (pair p a)
  pair-is p paper a line may =
      let parts = and_parts
      (not (list_any (is_number (Some a.user)) (authors_in t.ties p))
      && not (list_any (is_number (Some a.user)) (users_tied_to p t.ties.conflicts)))
      (not (is_some (ordinal_in t.seats (Some a.user) p))) may in
      let both = and_parts (not (list_any (is_number (Some a.user)) (authors_in t.ties p)))
      (not (list_any (is_number (Some a.user)) (users_tied_to p t.ties.conflicts))) parts.0 in
      let range = in-range p paper.there in
      record {
        low = range.0;
        high = range.1;
        named = row_names H legal a.user a.name line.0.0;
        stays = record {
          paper = paper-spelt p range.0 range.1;
          name = ap (λ (b : Bool). cond b (Some a.name) None) (row_names H legal a.user a.name line.0.0);
          found = number_in-lines_of t.accounts a.name ∙ found_by_name H legal a.user a.name line.0.0;
          role = role_among-lines_of t.accounts (Some a.user) ∙ line.0.1;
          serves = line.1;
          there = paper.there;
          clear = paper.clear;
          open_ = paper.open_;
          wrote = not-true (list_any (is_number (Some a.user)) (authors_in t.ties p)) both.0;
          declared = not-true (list_any (is_number (Some a.user)) (users_tied_to p t.ties.conflicts)) both.1;
        };
        free = none-there (ordinal_in t.seats (Some a.user) p)
            (not-true (is_some (ordinal_in t.seats (Some a.user) p)) parts.1);
        labels = paper.labels;
        planned = paper.planned;
      }

  map-each : (P : PlanPair → Type 0) (f : AccountLine → PlanPair) (xs : List AccountLine)
      → AllByRecursion (λ (a : AccountLine). P (f a)) xs → AllByRecursion P (map f xs)
  map-each P f [] h = tt
  map-each P f (a ∷ xs) h = (h.0, map-each P f xs h.1)

  abbrev free_of : ℕ → List AccountLine
  free_of p = filter (λ (a : AccountLine). is_free_for shown p a.user) members

  pairs-of : (p : ℕ) → PaperIs p → AllByRecursion (λ (e : PlanPair). PairIs e) (pairs_of_paper facts shown p)
  pairs-of p paper =
      map-each (λ (e : PlanPair). PairIs e) (pair p) (free_of p)
      (AllByRecursion-map (λ (a : AccountLine). (LineIs a × (is_member a.role ≡ true))
      × (is_free_for shown p a.user ≡ true)) (λ (a : AccountLine). PairIs (pair p a))
      (λ a h. pair-is p paper a h.0 h.1) (free_of p)
      (AllByRecursion-both (λ (a : AccountLine). LineIs a × (is_member a.role ≡ true))
      (λ (a : AccountLine). is_free_for shown p a.user ≡ true) (free_of p)
      (AllByRecursion-filter (λ (a : AccountLine). LineIs a × (is_member a.role ≡ true))
      (λ (a : AccountLine). is_free_for shown p a.user) members members-are)
      (passed (λ (a : AccountLine). is_free_for shown p a.user) members)))

  all-pairs : (ps : List ℕ) → AllByRecursion (λ (p : ℕ). PaperIs p) ps
      → AllByRecursion (λ (e : PlanPair). PairIs e) (flat_map (pairs_of_paper facts shown) ps)
  all-pairs [] h = tt
  all-pairs (p ∷ ps) h =
      AllByRecursion-append (λ (e : PlanPair). PairIs e) (pairs_of_paper facts shown p)
      (flat_map (pairs_of_paper facts shown) ps) (pairs-of p h.0) (all-pairs ps h.1)

  -- ---- no two are the same

  apart-append : (xs ys : List PlanPair) → AreApart xs → AreApart ys
      → AllByRecursion (λ (e : PlanPair). AllByRecursion (λ (f : PlanPair). Apart e f) ys) xs → AreApart (xs ++ ys)
  apart-append [] ys hx hy h = hy
  apart-append (e ∷ xs) ys hx hy h =
      (AllByRecursion-append (λ (f : PlanPair). Apart e f) xs ys hx.0 h.0, apart-append xs ys hx.1 hy h.1)

  of-other_users : (p : ℕ) (a : AccountLine) (bs : List AccountLine) → list_all (nat_lt a.user) (users bs) ≡ true
      → AllByRecursion (λ (f : PlanPair). Apart (pair p a) f) (map (pair p) bs)
  of-other_users p a [] h = tt
  of-other_users p a (b ∷ bs) h =
      let parts = and_parts (nat_lt a.user b.user) (list_all (nat_lt a.user) (users bs)) h in (
        ap (λ (c : Bool). eqb p p && c) (nat_lt-eqb-swap a.user b.user parts.0)
            ∙ and-false (eqb p p),
        of-other_users p a bs parts.1,
      )

  of-one_paper : (p : ℕ) (lines : List AccountLine) → IsRising (users lines) → AreApart (map (pair p) lines)
  of-one_paper p [] h = tt
  of-one_paper p (a ∷ lines) h = (of-other_users p a lines h.0, of-one_paper p lines h.1)

  filtered-rise : (test : AccountLine → Bool) (lines : List AccountLine) → IsRising (users lines)
      → IsRising (users (filter test lines))
  filtered-rise test [] h = tt
  filtered-rise test (a ∷ lines) h = by (test a) (above lines h.0) (filtered-rise test lines h.1)
    where
      above : (bs : List AccountLine) → list_all (nat_lt a.user) (users bs) ≡ true
          → list_all (nat_lt a.user) (users (filter test bs)) ≡ true
      above [] k = refl
      above (b ∷ bs) k =
          let parts = and_parts (nat_lt a.user b.user) (list_all (nat_lt a.user) (users bs)) k in
          kept (test b) parts.0 (above bs parts.1)
        where
          kept : (c : Bool) → nat_lt a.user b.user ≡ true → list_all (nat_lt a.user) (users (filter test bs)) ≡ true
              → list_all (nat_lt a.user) (users (cond c (b ∷ filter test bs) (filter test bs))) ≡ true
          kept true here rest = ap (λ (d : Bool). d && list_all (nat_lt a.user) (users (filter test bs))) here ∙ rest
          kept false here rest = rest

      by : (c : Bool) → list_all (nat_lt a.user) (users (filter test lines)) ≡ true
          → IsRising (users (filter test lines))
          → IsRising (users (cond c (a ∷ filter test lines) (filter test lines)))
      by true first rest = (first, rest)
      by false first rest = rest

  -- the pairs of a paper and those of others
  of-other_paper : (e : PlanPair) (q : ℕ) → eqb e.paper q ≡ false → (lines : List AccountLine)
      → AllByRecursion (λ (f : PlanPair). Apart e f) (map (pair q) lines)
  of-other_paper e q other [] = tt
  of-other_paper e q other (b ∷ lines) =
      (ap (λ (c : Bool). c && eqb b.user e.member.user) other, of-other_paper e q other lines)

  of-other_papers : (e : PlanPair) (ps : List ℕ) → AllByRecursion (λ (q : ℕ). eqb e.paper q ≡ false) ps
      → AllByRecursion (λ (f : PlanPair). Apart e f) (flat_map (pairs_of_paper facts shown) ps)
  of-other_papers e [] h = tt
  of-other_papers e (q ∷ ps) h =
      AllByRecursion-append (λ (f : PlanPair). Apart e f) (pairs_of_paper facts shown q)
      (flat_map (pairs_of_paper facts shown) ps)
      (of-other_paper e q h.0 (free_of q)) (of-other_papers e ps h.1)

  each-other : (p : ℕ) (ps : List ℕ) → AllByRecursion (λ (q : ℕ). eqb p q ≡ false) ps → (lines : List AccountLine)
      → AllByRecursion (λ (e : PlanPair). AllByRecursion (λ (f : PlanPair). Apart e f)
      (flat_map (pairs_of_paper facts shown) ps)) (map (pair p) lines)
  each-other p ps h [] = tt
  each-other p ps h (a ∷ lines) = (of-other_papers (pair p a) ps h, each-other p ps h lines)

  pairs-apart : (ps : List ℕ) → IsRising ps → AreApart (flat_map (pairs_of_paper facts shown) ps)
  pairs-apart [] h = tt
  pairs-apart (p ∷ ps) h =
      apart-append (pairs_of_paper facts shown p) (flat_map (pairs_of_paper facts shown) ps)
      (of-one_paper p (free_of p)
      (filtered-rise (λ (a : AccountLine). is_free_for shown p a.user) members
      (users-rise (λ (a : AccountLine). is_member a.role) 1 t.accounts)))
      (pairs-apart ps h.1) (each-other p ps (others p ps h.0) (free_of p))

  -- ---- the best plan

  -- what is so of the best plan
  record PlanIs (plan : List PlanPair) : Type 0 where
    pairs : AllByRecursion (λ (e : PlanPair). PairIs e) plan
    apart : AreApart plan
    passes : is_plan papers members per_paper load plan ≡ true

  best-is : (plan : List PlanPair) → best_plan facts shown per_paper load ≡ Some plan → PlanIs plan
  best-is plan is =
      let all : List PlanPair = planned_pairs facts shown per_paper in
      let test : List PlanPair → Bool = is_plan papers members per_paper load in
      let each = each-chosen (λ (e : PlanPair). PairIs e) all (all-pairs papers papers-are) in
      let apart = apart-chosen all (pairs-apart papers (papers-rise t (Some user) per_paper)) in
      record {
        pairs = greatest-one (λ (c : List PlanPair). AllByRecursion (λ (e : PlanPair). PairIs e) c)
            (filter test (choices all))
            (AllByRecursion-filter (λ (c : List PlanPair). AllByRecursion (λ (e : PlanPair). PairIs e) c) test
            (choices all) each) plan is;
        apart = greatest-one (λ (c : List PlanPair). AreApart c) (filter test (choices all))
            (AllByRecursion-filter (λ (c : List PlanPair). AreApart c) test (choices all) apart) plan is;
        passes = greatest-one (λ (c : List PlanPair). test c ≡ true) (filter test (choices all))
            (passed test (choices all)) plan is;
      }

  -- each of its papers has labels for all of its pairs
  labels-left : (plan : List PlanPair) → PlanIs plan → (e : PlanPair) → PairIs e
      → labels_in t.seats e.paper + count_by (is_of_paper e.paper) plan ≤ 26
  labels-left plan of e pair_is =
      let parts = and_parts (list_all (λ (p : ℕ). eqb (count_by (is_of_paper p) plan) per_paper) papers)
      (list_all (λ (a : AccountLine). nat_le (count_by (is_of_member a.user) plan) load) members) of.passes in
      let many = eqb-true (count_by (is_of_paper e.paper) plan) per_paper
      (all-among (λ (p : ℕ). eqb (count_by (is_of_paper p) plan) per_paper) papers e.paper parts.0 pair_is.planned) in
      let few = pair_is.labels in
      omega (arith, many, few)

  -- so its rows are accepted by the tables
  rows-accepted : (chair : is_chair (role_in t.accounts (Some user)) ≡ true)
      (works : committee_works t.stage.phase ≡ true) (plan : List PlanPair)
      → best_plan facts shown per_paper load ≡ Some plan
      → IsOk (bulk_by_role t (bulk_by user at key (map row_of_pair plan)))
  rows-accepted chair works plan is =
      let of = best-is plan is in
      let taken = rows-taken user at key t chair works plan t.seats 1
      (ready user at key t chair works plan t.seats (in_order-tables H (Legal-fits H legal))
      (AllByRecursion-map (λ (e : PlanPair). PairIs e) (λ (e : PlanPair). Stays user at key t e) (λ e h. h.stays) plan
      of.pairs) of.apart
      (AllByRecursion-map (λ (e : PlanPair). PairIs e)
      (λ (e : PlanPair). ordinal_in t.seats (Some e.member.user) e.paper ≡ None) (λ e h. h.free) plan of.pairs)
      (AllByRecursion-map (λ (e : PlanPair). PairIs e)
      (λ (e : PlanPair). labels_in t.seats e.paper + count_by (is_of_paper e.paper) plan ≤ 26)
      (labels-left plan of) plan of.pairs)) in
      subst (λ (r : Result (Unit {0}) Rule). IsOk (behind r)) (sym may)
      (joined (rows_judged (tables_basis user) (stamp_by user at key) t 1 rows) taken)
    where
      rows : List BulkRow
      rows = map row_of_pair plan

      behind : Result (Unit {0}) Rule → Result Drawn Broken
      behind r = bulk_behind (tables_basis user) t (bulk_by user at key rows) r

      may : ◌≡◌ {A = Result (Unit {0}) Rule} (judged (bulk_checks (facts.standing None)) tt) (Ok tt)
      may = judged-none (bulk_checks (facts.standing None)) tt (ap not chair, (ap not works, tt))

      joined : (r : Result (List Entry) Broken) → IsOk r → IsOk (bulk_of_rows (stamp_by user at key) (length rows) r)
      joined (Ok entries) h = refl
      joined (Err refusal) h = h

-- ---- how many pairs a plan has

-- among these papers there is one that is it
some-bit : (p : ℕ) (ps : List ℕ) → list_any (λ (q : ℕ). eqb q p) ps ≡ true
    → 1 ≤ total (map (λ (q : ℕ). bit (eqb p q)) ps)
some-bit p [] one = absurd (cc (one))
some-bit p (q ∷ ps) one = by (eqb q p) refl one (some-bit p ps)
  where
    more : ℕ
    more = total (map (λ (m : ℕ). bit (eqb p m)) ps)

    by : (b : Bool) → eqb q p ≡ b → (b || list_any (λ (m : ℕ). eqb m p) ps) ≡ true
        → (list_any (λ (m : ℕ). eqb m p) ps ≡ true → 1 ≤ more) → 1 ≤ bit (eqb p q) + more
    by true is one rest = let here : bit (eqb p q) ≡ 1 =
        ap bit (eq-eqb p q (sym (eqb-true q p is))) in omega (arith, here)
    by false is one rest = let there = rest one in omega (arith, there)

total-counts : (e : PlanPair) (es : List PlanPair) (ps : List ℕ)
    → total (map (λ (q : ℕ). count_by (is_of_paper q) (e ∷ es)) ps) ≡ total (map (λ (q : ℕ). bit (eqb e.paper q)) ps)
    + total (map (λ (q : ℕ). count_by (is_of_paper q) es) ps)
total-counts e es [] = refl
total-counts e es (q ∷ ps) =
    let here = counted q e es in
    let rest = total-counts e es ps in
    omega (arith, here, rest)

-- each pair is one of the papers'
no-more : (ps : List ℕ) (plan : List PlanPair)
    → AllByRecursion (λ (e : PlanPair). list_any (λ (q : ℕ). eqb q e.paper) ps ≡ true) plan
    → length plan ≤ total (map (λ (q : ℕ). count_by (is_of_paper q) plan) ps)
no-more ps [] h = omega arith
no-more ps (e ∷ es) h =
    let here = some-bit e.paper ps h.0 in
    let rest = no-more ps es h.1 in
    let whole = total-counts e es ps in
    omega (arith, here, rest, whole)

-- where each has so many
all-alike : (f : ℕ → ℕ) (n : ℕ) (ps : List ℕ) → list_all (λ (q : ℕ). eqb (f q) n) ps ≡ true
    → total (map f ps) ≡ n * length ps
all-alike f n [] h = omega arith
all-alike f n (q ∷ ps) h =
    let parts = and_parts (eqb (f q) n) (list_all (λ (m : ℕ). eqb (f m) n) ps) h in
    let here = eqb-true (f q) n parts.0 in
    let rest = all-alike f n ps parts.1 in
    one-more n (length ps) (f q) (total (map f ps)) here rest
  where
    one-more : (n k first rest : ℕ) → first ≡ n → rest ≡ n * k → first + rest ≡ n * suc k
    one-more n k first rest here there = omega (arith, here, there)

not-larger : (x y : ℕ) → (nat_lt 512 x || nat_lt 4096 y) ≡ false → x ≤ 512
not-larger x y h = grind (arith, nat_tests)

-- ---- by the view, as it is told her

is-ok : (r : Result (Unit {0}) Rule) → IsOk r → r ≡ Ok tt
is-ok (Ok u) h = refl
is-ok (Err rule) h = absurd (cc (h))

-- what a plan spells: few rows, each of a paper's number and a name
pub record IsSpelt (plan : List PlanPair) : Type 0 where
  pub few : length plan ≤ 512
  pub pairs : AllByRecursion (λ (e : PlanPair). (1 ≤ e.paper) × (e.paper ≤ 9999) × (is_name e.member.name ≡ true)) plan

module _ (user per_paper load : ℕ) (H : History) (plan : List PlanPair) (legal : Legal H)
    (may : IsOk
    (judged (plan_asked (facts_in_view (Some user) (view (Some user) H))
    (shown_in_view (Some user) (view (Some user) H)) per_paper) (tt {0})))
    (best : best_plan (facts_in_view (Some user) (view (Some user) H)) (shown_in_view (Some user) (view (Some user) H))
    per_paper load ≡ Some plan) where
  kept : Invariants H
  kept = legal_invariants H legal

  told : AreTold H
  told = Kept-told H kept

  forms : AreFormsTold H
  forms = forms_tell H kept

  abbrev facts' : Facts
  facts' = facts_of_tables (tables_of H) (Some user)

  abbrev shown' : Shown
  shown' = shown_in_view (Some user) (view (Some user) H)

  abbrev tabled : Shown
  tabled = shown_in_tables (tables_of H)

  same : facts_in_view (Some user) (view (Some user) H) ≡ facts'
  same = facts_in_view-tables (Some user) H told forms

  allowed : IsOk (judged (plan_asked facts' shown' per_paper) (tt {0}))
  allowed = subst (λ (f : Facts). IsOk (judged (plan_asked f shown' per_paper) (tt {0}))) same may

  none : NoneBroken (plan_asked facts' shown' per_paper)
  none =
      (judged-Ok (plan_asked facts' shown' per_paper) (tt {0}) (tt {0})
      (is-ok (judged (plan_asked facts' shown' per_paper) (tt {0})) allowed)).0

  chair : is_chair (role_in (tables_of H).accounts (Some user)) ≡ true
  chair = not-false (is_chair (role_in (tables_of H).accounts (Some user))) none.0

  works : committee_works (tables_of H).stage.phase ≡ true
  works = not-false (committee_works (tables_of H).stage.phase) none.1.0

  begun : is_from Bidding (tables_of H).stage.phase ≡ true
  begun =
      (and_parts (is_from Bidding (tables_of H).stage.phase) (not (is_from Notification (tables_of H).stage.phase))
      works).0

  -- by the tables
  tabled-best : best_plan facts' tabled per_paper load ≡ Some plan
  tabled-best =
      sym (best-tables (Some user) H kept told forms per_paper load chair begun)
      ∙ ap (λ (f : Facts). best_plan f shown' per_paper load) (sym same)
      ∙ best

  pub plan-spelt : IsSpelt plan
  plan-spelt =
      let of = best-is user 0 None per_paper load H legal plan tabled-best in
      let papers : List ℕ = planned_papers facts' tabled per_paper in
      let parts = and_parts (list_all (λ (p : ℕ). eqb (count_by (is_of_paper p) plan) per_paper) papers)
      (list_all (λ (a : AccountLine). nat_le (count_by (is_of_member a.user) plan) load) (planned_members facts'))
      of.passes in
      let many = all-alike (λ (p : ℕ). count_by (is_of_paper p) plan) per_paper papers parts.0 in
      let less = no-more papers plan
      (AllByRecursion-map (λ (e : PlanPair). PairIs user 0 None per_paper load H legal e)
      (λ (e : PlanPair). list_any (λ (q : ℕ). eqb q e.paper) papers ≡ true) (λ e h. h.planned) plan of.pairs) in
      let most = subst (λ (ps : List ℕ). per_paper * length ps ≤ 512)
      (papers-tables (Some user) H kept told forms per_paper chair begun)
      (not-larger (per_paper * length (planned_papers facts' shown' per_paper))
      (length (planned_papers facts' shown' per_paper) * length (planned_members facts')) none.1.1.0) in
      record {
        few = within (length plan) (total (map (λ (p : ℕ). count_by (is_of_paper p) plan) papers))
            (per_paper * length papers) less many most;
        pairs = AllByRecursion-map (λ (e : PlanPair). PairIs user 0 None per_paper load H legal e)
            (λ (e : PlanPair). (1 ≤ e.paper) × (e.paper ≤ 9999) × (is_name e.member.name ≡ true))
            (λ e h. (h.low, h.high, h.named)) plan of.pairs;
      }
    where
      within : (n m k : ℕ) → n ≤ m → m ≡ k → k ≤ 512 → n ≤ 512
      within n m k less many most = omega (arith, less, many, most)

pub plans-taken : PlansTaken
plans-taken user at key H per_paper load plan legal registered moment key_fits may best =
    subst (λ (r : Result Drawn Broken). IsOk r)
    (sym (Legal-judge_bulk H (bulk_by user at key (map row_of_pair plan)) legal registered
    (record { moment = moment; key = key_fits })))
    (rows-accepted user at key per_paper load H legal
    (chair user per_paper load H plan legal may best) (works user per_paper load H plan legal may best) plan
    (tabled-best user per_paper load H plan legal may best))
