-- SPDX-License-Identifier: Apache-2.0 OR MIT
-- Loads counted seat by seat are the counts of the report.
use Rattle.std.proofs.Common.{ℕ, Bool, true, false, cond, eqb, ◌≡◌, ◌≤◌, ◌<◌, ◌+◌, ◌&&◌, List, [], ◌∷◌, ◌++◌, zero-add}
use Rattle.std.proofs.Common.{append_assoc, get_or, length, map, take, refl, sym, ap, ◌∙◌, arith, Some, suc}
use Rattle.std.specs.Prelude.{filter, not}
use Rattle.std.specs.List.{flat_map}
use Rattle.std.proofs.lemmas.Grind.{flat_map-append}
use Rattle.std.proofs.lemmas.List.{append-nil, take_all, take_more}
use Rattle.cr_base.specs.Accounts.{lines_of}
use Rattle.cr_base.specs.declared.pairs.Order.TheVariants.{ByPaper}
use Rattle.cr_base.specs.declared.pairs.Tie.{Tie}
use Rattle.cr_base.specs.declared.reply.AccountLine.{AccountLine}
use Rattle.cr_base.specs.declared.seat.Seat.{Seat}
use Rattle.cr_base.specs.declared.words.Kind.{Kind}
use Rattle.cr_base.specs.declared.words.Kind.TheVariants.{Primary, Secondary, Pc}
use Rattle.cr_base.specs.History.{SeatTold}
use Rattle.cr_base.specs.Lists.{is_number, total}
use Rattle.cr_base.specs.Pairs.{ties_of}
use Rattle.cr_base.specs.Papers.{paper_numbers}
use Rattle.cr_base.specs.Reports.{held, in_four, is_clear_of, is_seat_of_kind, line_end, load_line, load_told, space}
use Rattle.cr_base.specs.Reports.{to_left}
use Rattle.cr_base.specs.Reviews.{is_written_in}
use Rattle.cr_base.specs.Seats.{reviewers_in, told_seat}
use Rattle.cr_base.specs.Sources.{Facts, Shown, facts_of_tables, shown_in_tables}
use Rattle.cr_base.specs.Tables.{Tables}
use Rattle.cr_base.specs.Words.{is_member, review_kind_number}
use Rattle.cr_reports.specs.declared.counts.Load.{Load}
use Rattle.cr_reports.specs.Loads.{line_of, load_at, member_line, no_load, with_form, with_kind, with_paper}
use Rattle.cr_reports.specs.Loads.{with_papers, with_seats}
use Rattle.cr_reports.specs.ReportLines.{one}
use Rattle.cr_reports.proofs.WalkLaws.{where_so, flat_map-filter}

-- ---- one count of a load

-- a count of loads is that of the seats that pass a test, whatever kind of seat comes and whether a form is written
abbrev Counts : (Load → ℕ) → (Bool → Kind → Bool) → Type 0
Counts part test = (written : Bool) (kind : Kind) (load : Load)
    → part (with_form written (with_kind kind load)) ≡ part load + one (test written kind)

plus-none : (n : ℕ) → n ≡ n + 0
plus-none n = omega arith

-- the four of them
abbrev is_primary : Bool → Kind → Bool
is_primary written Primary = true
is_primary written Secondary = false
is_primary written Pc = false

counts-primary : Counts (λ load. load.primary) is_primary
counts-primary true Primary load = refl
counts-primary true Secondary load = plus-none load.primary
counts-primary true Pc load = plus-none load.primary
counts-primary false Primary load = refl
counts-primary false Secondary load = plus-none load.primary
counts-primary false Pc load = plus-none load.primary

abbrev is_secondary : Bool → Kind → Bool
is_secondary written Primary = false
is_secondary written Secondary = true
is_secondary written Pc = false

counts-secondary : Counts (λ load. load.secondary) is_secondary
counts-secondary true Primary load = plus-none load.secondary
counts-secondary true Secondary load = refl
counts-secondary true Pc load = plus-none load.secondary
counts-secondary false Primary load = plus-none load.secondary
counts-secondary false Secondary load = refl
counts-secondary false Pc load = plus-none load.secondary

abbrev is_pc : Bool → Kind → Bool
is_pc written Primary = false
is_pc written Secondary = false
is_pc written Pc = true

counts-pc : Counts (λ load. load.pc) is_pc
counts-pc true Primary load = plus-none load.pc
counts-pc true Secondary load = plus-none load.pc
counts-pc true Pc load = refl
counts-pc false Primary load = plus-none load.pc
counts-pc false Secondary load = plus-none load.pc
counts-pc false Pc load = refl

abbrev is_written : Bool → Kind → Bool
is_written written kind = written

counts-written : Counts (λ load. load.written) is_written
counts-written true Primary load = refl
counts-written true Secondary load = refl
counts-written true Pc load = refl
counts-written false Primary load = plus-none load.written
counts-written false Secondary load = plus-none load.written
counts-written false Pc load = plus-none load.written

-- ---- all seats

module _ (t : Tables) (caller user : ℕ) (part : Load → ℕ) (test : Bool → Kind → Bool) (counts : Counts part test) where
  -- the seat is the user's, who hasn't left it, and passes
  abbrev passes : ℕ → Tie Seat → Bool
  passes p seat = eqb seat.pair.user user && test (is_written_in t.reviews p seat.value.ordinal) seat.value.kind

  abbrev taken : List (Tie Seat) → List (Tie Seat)
  taken seats = filter (λ (seat : Tie Seat). not seat.value.vacated) seats

  sum-seats : (p : ℕ) (seats : List (Tie Seat)) (load : Load)
      → part (with_seats (is_written_in t.reviews p) user seats load) ≡ part load
      + length (filter (passes p) (taken seats))
  sum-seats p [] load = plus-none (part load)
  sum-seats p (seat ∷ seats) load = by seat.value.vacated (sum-seats p seats)
    where
      w : Bool
      w = is_written_in t.reviews p seat.value.ordinal

      kind : Kind
      kind = seat.value.kind

      rest : List (Tie Seat)
      rest = filter (passes p) (taken seats)

      with : Load → Load
      with l = with_seats (is_written_in t.reviews p) user seats l

      one-more : (b : Bool) (n : ℕ) → n + one b + length rest ≡ n + length (cond b (seat ∷ rest) rest)
      one-more true n = omega arith
      one-more false n = omega arith

      hers : (b : Bool) → ((l : Load) → part (with l) ≡ part l + length rest)
          → part (with (cond b (with_form w (with_kind kind load)) load)) ≡ part load
          + length (cond (b && test w kind) (seat ∷ rest) rest)
      hers true h = h (with_form w (with_kind kind load)) ∙ ap (λ (n : ℕ). n + length rest) (counts w kind load)
          ∙ one-more (test w kind) (part load)
      hers false h = h load

      by : (b : Bool) → ((l : Load) → part (with l) ≡ part l + length rest)
          → part (with (cond (not b && eqb seat.pair.user user) (with_form w (with_kind kind load)) load))
          ≡ part load + length (filter (passes p) (cond (not b) (seat ∷ taken seats) (taken seats)))
      by true h = h load
      by false h = hers (eqb seat.pair.user user) h

  abbrev count : ℕ → ℕ
  count p = length (filter (passes p) (taken (ties_of ByPaper p t.seats)))

  abbrev clear : ℕ → Bool
  clear p = is_clear_of (facts_of_tables t (Some caller)) p

  sum-papers : (papers : List ℕ) (load : Load)
      → part (with_papers t caller user papers load) ≡ part load + total (map count (filter clear papers))
  sum-papers [] load = plus-none (part load)
  sum-papers (p ∷ papers) load = by (clear p) (sum-papers papers)
    where
      rest : ℕ
      rest = total (map count (filter clear papers))

      by : (b : Bool) → ((l : Load) → part (with_papers t caller user papers l) ≡ part l + rest)
          → part (with_papers t caller user papers (cond b (with_paper t user p load) load))
          ≡ part load + total (map count (cond b (p ∷ filter clear papers) (filter clear papers)))
      by true h =
          h (with_paper t user p load) ∙ ap (λ (n : ℕ). n + rest) (sum-seats p (ties_of ByPaper p t.seats) load)
          ∙ regroup (part load) (count p) rest
        where
          regroup : (a b c : ℕ) → a + b + c ≡ a + (b + c)
          regroup a b c = omega arith
      by false h = h load

  module _ (told : ℕ → SeatTold → Bool)
      (same : (p : ℕ) (seat : Tie Seat) → test (is_written_in t.reviews p seat.value.ordinal) seat.value.kind
      ≡ told p (told_seat seat)) where
    lengths : (p : ℕ) (seats : List (Tie Seat))
        → length (filter (passes p) seats) ≡ length
        (filter (λ (seat : SeatTold). is_number seat.user user && told p seat) (map told_seat seats))
    lengths p [] = refl
    lengths p (seat ∷ seats) =
        ap
        (λ (b : Bool). length (cond (eqb seat.pair.user user && b) (seat ∷ filter (passes p) seats)
        (filter (passes p) seats))) (same p seat)
        ∙ by (eqb seat.pair.user user && told p (told_seat seat)) (lengths p seats)
      where
        others : List SeatTold
        others = filter (λ (s : SeatTold). is_number s.user user && told p s) (map told_seat seats)

        by : (b : Bool) → length (filter (passes p) seats) ≡ length others
            → length (cond b (seat ∷ filter (passes p) seats) (filter (passes p) seats))
            ≡ length (cond b (told_seat seat ∷ others) others)
        by true h = ap suc h
        by false h = h

    totals : (papers : List ℕ) → total (map count papers)
        ≡ total
        (map
        (λ (p : ℕ). length (filter (λ (seat : SeatTold). is_number seat.user user && told p seat)
        (reviewers_in t.seats p))) papers)
    totals [] = refl
    totals (p ∷ papers) =
        ap (λ (n : ℕ). n + total (map count papers)) (lengths p (taken (ties_of ByPaper p t.seats)))
        ∙ ap
        (λ (n : ℕ). length (filter (λ (seat : SeatTold). is_number seat.user user && told p seat)
        (reviewers_in t.seats p)) + n) (totals papers)

    -- the count of a user's load is what the report counts
    held-is : part no_load ≡ 0 → part (with_papers t caller user (paper_numbers t.papers) no_load)
        ≡ held (facts_of_tables t (Some caller)) (shown_in_tables t) user told
    held-is none =
        sum-papers (paper_numbers t.papers) no_load
        ∙ ap (λ (n : ℕ). n + total (map count (filter clear (paper_numbers t.papers)))) none
        ∙ zero-add (total (map count (filter clear (paper_numbers t.papers))))
        ∙ totals (filter clear (paper_numbers t.papers))

-- ---- a line

same-primary : (w : Bool) (kind : Kind) → is_primary w kind ≡ eqb (review_kind_number kind) (review_kind_number Primary)
same-primary w Primary = refl
same-primary w Secondary = refl
same-primary w Pc = refl

same-secondary : (w : Bool) (kind : Kind)
    → is_secondary w kind ≡ eqb (review_kind_number kind) (review_kind_number Secondary)
same-secondary w Primary = refl
same-secondary w Secondary = refl
same-secondary w Pc = refl

same-pc : (w : Bool) (kind : Kind) → is_pc w kind ≡ eqb (review_kind_number kind) (review_kind_number Pc)
same-pc w Primary = refl
same-pc w Secondary = refl
same-pc w Pc = refl

module _ (t : Tables) (caller : ℕ) (a : AccountLine) where
  abbrev load : Load
  load = with_papers t caller a.user (paper_numbers t.papers) no_load

  abbrev facts : Facts
  facts = facts_of_tables t (Some caller)

  abbrev shown : Shown
  shown = shown_in_tables t

  abbrev columns : ℕ → ℕ → ℕ → ℕ → List ℕ
  columns primary secondary pc written =
      to_left 32 a.name ++ space ++ in_four primary ++ space ++ in_four secondary ++ space ++ in_four pc ++ space
      ++ in_four written ++ line_end

  pub line-is : line_of a load ≡ load_line facts shown a
  line-is =
      ap (λ (n : ℕ). columns n load.secondary load.pc load.written)
      (held-is t caller a.user (λ l. l.primary) is_primary counts-primary (λ p seat. is_seat_of_kind Primary seat)
      (λ p seat. same-primary (is_written_in t.reviews p seat.value.ordinal) seat.value.kind) refl)
      ∙ ap (λ (n : ℕ). columns (held facts shown a.user (λ p seat. is_seat_of_kind Primary seat)) n load.pc
      load.written)
      (held-is t caller a.user (λ l. l.secondary) is_secondary counts-secondary
      (λ p seat. is_seat_of_kind Secondary seat)
      (λ p seat. same-secondary (is_written_in t.reviews p seat.value.ordinal) seat.value.kind) refl)
      ∙ ap (λ (n : ℕ). columns (held facts shown a.user (λ p seat. is_seat_of_kind Primary seat))
      (held facts shown a.user (λ p seat. is_seat_of_kind Secondary seat)) n load.written)
      (held-is t caller a.user (λ l. l.pc) is_pc counts-pc (λ p seat. is_seat_of_kind Pc seat)
      (λ p seat. same-pc (is_written_in t.reviews p seat.value.ordinal) seat.value.kind) refl)
      ∙ ap (λ (n : ℕ). columns (held facts shown a.user (λ p seat. is_seat_of_kind Primary seat))
      (held facts shown a.user (λ p seat. is_seat_of_kind Secondary seat))
      (held facts shown a.user (λ p seat. is_seat_of_kind Pc seat)) n)
      (held-is t caller a.user (λ l. l.written) is_written counts-written
      (λ p seat. is_written_in t.reviews p seat.ordinal)
      (λ p seat. refl) refl)

module _ (t : Tables) (caller : ℕ) where
  -- the line of an account that is a member's, and none of another's
  abbrev pub due_line : AccountLine → List ℕ
  due_line a =
      where_so (λ (b : AccountLine). is_member b.role) (load_line (facts_of_tables t (Some caller)) (shown_in_tables t))
      a

  -- by loads that are the users'
  pub member-line-is : (loads : List Load)
      → ((user : ℕ) → user < 10000 → load_at loads user ≡ with_papers t caller user (paper_numbers t.papers) no_load)
      → (a : AccountLine) → a.user < 10000 → member_line loads a ≡ due_line a
  member-line-is loads are a within =
      ap (λ (l : Load). cond (is_member a.role) (line_of a l) []) (are a.user within)
      ∙ ap (λ (l : List ℕ). cond (is_member a.role) l []) (line-is t caller a)

  -- one more account
  pub members-step : (start before after : List ℕ) (accounts : List AccountLine) (i : ℕ) (a other : AccountLine)
      → i < length accounts
      → a ≡ get_or accounts i other → after ≡ before ++ due_line a
      → before ≡ start ++ flat_map due_line (take i accounts)
      → after ≡ start ++ flat_map due_line (take (i + 1) accounts)
  members-step start before after accounts i a other within is pushed h =
      pushed
      ∙ ap (λ (l : List ℕ). l ++ due_line a) h
      ∙ append_assoc start (flat_map due_line (take i accounts)) (due_line a)
      ∙ ap (λ (l : List ℕ). start ++ l)
      (ap (λ (l : List ℕ). flat_map due_line (take i accounts) ++ l) (sym (append-nil (due_line a)))
      ∙ sym (flat_map-append due_line (take i accounts) (a ∷ []))
      ∙ sym
      (ap (flat_map due_line) (take_more accounts i other within ∙ ap (λ (b : AccountLine). take i accounts ++ b ∷ [])
      (sym is))))

  -- all of them
  pub members-all : (start before : List ℕ) (accounts : List AccountLine) (i : ℕ) → length accounts ≤ i
      → accounts ≡ lines_of t.accounts
      → before ≡ start ++ flat_map due_line (take i accounts)
      → before ≡ start ++ load_told (facts_of_tables t (Some caller)) (shown_in_tables t)
  members-all start before accounts i past are h =
      h
      ∙ ap (λ (lines : List AccountLine). start ++ flat_map due_line lines) (take_all i accounts past ∙ are)
      ∙ ap (λ (l : List ℕ). start ++ l)
      (flat_map-filter (λ (a : AccountLine). is_member a.role)
      (load_line (facts_of_tables t (Some caller)) (shown_in_tables t)) (lines_of t.accounts))
