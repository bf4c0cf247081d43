-- SPDX-License-Identifier: Apache-2.0 OR MIT
-- The entries that a command draws fit the tables, each in its turn.
use Rattle.std.proofs.Common.{ℕ, Bool, true, false, cond, ◌≡◌, ◌≤◌, ◌<◌, ◌+◌, ◌==◌, List, [], ◌∷◌, length}
use Rattle.std.proofs.Common.{length-append, refl, sym, ap, subst, ◌∙◌, arith, Option, Some, None, is_some, Result, Ok}
use Rattle.std.specs.Prelude.{is_none, unwrap_or, not, nat_le, ◌||◌, ◌&&◌, map}
use Rattle.std.specs.List.{flat_map, list_any, list_all, AllByRecursion}
use Rattle.std.specs.Option.{option_map}
use Rattle.std.proofs.lemmas.Bool.{and_parts, leb-false, true≢false, not-false, ltb-false}
use Rattle.std.proofs.lemmas.Bool.Decides.{nat_tests}
use Rattle.std.proofs.lemmas.List.{append-nil, length-map}
use Rattle.cr_base.specs.History.{FormTold}
use Rattle.cr_base.specs.declared.resolved.ResolvedCommand.{ResolvedCommand}
use Rattle.cr_base.specs.declared.resolved.ResolvedCommand.TheVariants.{Register, SetPhase, Submit, Revise, Upload, Withdraw}
use Rattle.cr_base.specs.declared.resolved.ResolvedCommand.TheVariants.{Name, SetMode, SetConflict, Bid, Assign, Unassign}
use Rattle.cr_base.specs.declared.resolved.ResolvedCommand.TheVariants.{Review, Comment, Tag, Decide, SetDeadline, Dismiss}
use Rattle.cr_base.specs.declared.resolved.ResolvedCommand.TheVariants.{Invite, Uninvite, Respond}
use Rattle.cr_base.specs.declared.entry.Account.{Account}
use Rattle.cr_base.specs.declared.entry.Entry.TheVariants.{Registered, Named}
use Rattle.cr_base.specs.declared.entry.Stamp.{Stamp}
use Rattle.cr_base.specs.declared.reply.AccountLine.{AccountLine}
use Rattle.cr_base.specs.declared.reply.Rule.{Rule}
use Rattle.cr_base.specs.declared.target.Target.{Target}
use Rattle.cr_base.specs.declared.words.Role.{Role}
use Rattle.cr_base.specs.declared.words.Role.TheVariants as roles
use Rattle.cr_base.specs.Accounts.{number_at, lines_of}
use Rattle.cr_base.specs.Calls.{maker_of}
use Rattle.cr_base.specs.Checks.{NamedPaper, judged, of_role, register_checks, target_is}
use Rattle.cr_base.specs.Deeds.{Deed, deed_at, drawn_by, is_missing}
use Rattle.cr_base.specs.Drawn.{Drawn, grouped, registration}
use Rattle.cr_base.specs.Invites.{is_invited_in}
use Rattle.cr_base.specs.Judging.{judge_resolved}
use Rattle.cr_base.specs.Sources.{Facts, own_forms_in, standing_at, facts_of_tables, shown_in_tables, is_there}
use Rattle.cr_base.specs.Sources.{number_in, role_among, has_paper, paper_named, target_named}
use Rattle.cr_base.specs.Papers.{paper_count, paper_numbers, own_count, own_bytes}
use Rattle.cr_base.specs.Lists.{listed, is_number}
use Rattle.cr_base.specs.Pairs.{users_tied_to}
use Rattle.cr_base.specs.Reviews.{forms_in, written_told}
use Rattle.cr_base.specs.Seats.{labels_in, ordinal_in}
use Rattle.cr_base.specs.Stage.{is_late_in}
use Rattle.cr_base.specs.Talk.{comments_in, comment_as_told, own_comments_in, response_in}
use Rattle.cr_base.specs.Tables.{Tables, FitInTurn}
use Rattle.cr_base.specs.Ties.{authors_in, AreWithin}
use Rattle.cr_base.specs.Words.{is_member}
use Rattle.cr_base.proofs.AccountLaws.{registration-fits, number_in-lines_of, length-lines_of}
use Rattle.cr_base.proofs.CheckLaws.{NoneBroken, judged-Ok, judged-none}
use Rattle.cr_base.proofs.CoauthorLaws.{HasAccount, submission-fits}
use Rattle.cr_base.proofs.ListLaws.{length-numbers_from, role_among-lines_of}
use Rattle.cr_base.proofs.TargetLaws.{is_none-asked, target_within, paper_within}
use Rattle.cr_base.proofs.TieLaws.{within-before}

-- a registration's entries, each in its turn
registration-in_turn : (t : Tables) (stamp : Stamp) (user : ℕ) (name digest : List ℕ) → (user ≡ length t.accounts + 1)
    × (user ≤ 9999) × (number_at t.accounts name ≡ None)
    → FitInTurn t (grouped (record stamp { maker = user }) (registration user name digest))
registration-in_turn t stamp user name digest fits = by (user == 1)
  where
    by : (first : Bool)
        → FitInTurn t (grouped (record stamp { maker = user })
        (Registered user name digest ∷ cond first (Named user roles.Chair ∷ []) []))
    by true =
        let added : Account = record { name = name; digest = digest; role = roles.Account } in
        let n = length-append t.accounts (added ∷ []) in (
          record { accounts = fits; papers = tt; ties = tt; seats = tt; reviews = tt; talk = tt },
          (
            record {
              accounts = (omega (arith, fits.0), omega (arith, n, fits.0));
              papers = tt;
              ties = tt;
              seats = tt;
              reviews = tt;
              talk = tt;
            },
            tt,
          ),
        )
    by false = (record { accounts = fits; papers = tt; ties = tt; seats = tt; reviews = tt; talk = tt }, tt)

-- a user named among the lines has an account
target-in : (t : Tables) (target : Option ℕ) (asked : Role → Target)
    → is_none (option_map asked (role_among (lines_of t.accounts) target)) ≡ false
    → (1 ≤ unwrap_or target 0) × (unwrap_or target 0 ≤ length t.accounts)
target-in t target asked h = target_within t.accounts target (sym (ap is_none (role_among-lines_of t.accounts target))
    ∙ sym (is_none-asked asked (role_among (lines_of t.accounts) target)) ∙ h)

-- co-authors who are there have accounts
all-within : (t : Tables) (users : List ℕ) → list_all (is_there (lines_of t.accounts)) users ≡ true
    → AllByRecursion (HasAccount t.accounts) users
all-within t [] all = tt
all-within t (u ∷ users) all =
    let both = and_parts (is_there (lines_of t.accounts) u) (list_all (is_there (lines_of t.accounts)) users) all in (
      target-in t (Some u) of_role (there-asked (role_among (lines_of t.accounts) (Some u)) both.0),
      all-within t users both.1,
    )
  where
    there-asked : (role : Option Role) → is_some role ≡ true → is_none (option_map of_role role) ≡ false
    there-asked None h = absurd (true≢false (sym h))
    there-asked (Some role) h = refl

coauthors-within : (t : Tables) (authors : Option (List ℕ)) → is_missing (lines_of t.accounts) authors ≡ false
    → AllByRecursion (HasAccount t.accounts) (unwrap_or authors [])
coauthors-within t None h = absurd (true≢false h)
coauthors-within t (Some users) h =
    all-within t users (not-false (list_all (is_there (lines_of t.accounts)) users) h)

-- ---- the seat of the user named

pub none-where : {A : Type 0} (found : Option A) → is_some found ≡ false → found ≡ None
none-where None h = refl
none-where (Some x) h = absurd (true≢false h)

pub some-where : (seat : Option ℕ) → is_some seat ≡ true → seat ≡ Some (unwrap_or seat 0)
some-where None h = absurd (true≢false (sym h))
some-where (Some ordinal) h = refl

-- whether the user named reviews the paper named, as the rules ask it, is whether she has a seat there
seat-named : (t : Tables) (caller paper target : Option ℕ) (reviews : Bool)
    → is_none (target_named (facts_of_tables t caller) (shown_in_tables t) caller paper target) ≡ false
    → not (has_paper (facts_of_tables t caller) paper) ≡ false
    → target_is (λ (user : Target). user.reviewer)
    (target_named (facts_of_tables t caller) (shown_in_tables t) caller paper target) ≡ reviews
    → is_some (ordinal_in t.seats (Some (unwrap_or target 0)) (unwrap_or paper 0)) ≡ reviews
seat-named t caller paper None reviews user there says = absurd (true≢false user)
seat-named t caller None (Some v) reviews user there says = absurd (true≢false there)
seat-named t caller (Some p) (Some v) reviews user there says = by (role_among (lines_of t.accounts) (Some v)) user says
  where
    asked : Role → Target
    asked role = record {
      role = role;
      herself = is_number (Some v) (maker_of caller);
      author = list_any (is_number (Some v)) (authors_in t.ties p);
      conflicted = list_any (is_number (Some v)) (authors_in t.ties p) || list_any (is_number (Some v))
          (users_tied_to p t.ties.conflicts);
      reviewer = is_some (ordinal_in t.seats (Some v) p);
      external = not (is_member role) && is_invited_in t.invites (Some v) p;
    }

    by : (found : Option Role) → is_none (option_map asked found) ≡ false
        → target_is (λ (user : Target). user.reviewer) (option_map asked found) ≡ reviews
        → is_some (ordinal_in t.seats (Some v) p) ≡ reviews
    by None user says = absurd (true≢false user)
    by (Some role) user says = says

-- the seat that is there, where she has one
seat-there : (t : Tables) (target : Option ℕ) (p : ℕ)
    → is_some (ordinal_in t.seats (Some (unwrap_or target 0)) p) ≡ true
    → (asked : Role → Target) → is_none (option_map asked (role_among (lines_of t.accounts) target)) ≡ false
    → ordinal_in t.seats (Some (unwrap_or target 0)) p ≡ Some (unwrap_or (ordinal_in t.seats target p) 0)
seat-there t None p h asked user = absurd (true≢false user)
seat-there t (Some v) p h asked user = some-where (ordinal_in t.seats (Some v) p) h

-- ---- the forms under the caller's own label

-- the forms that are her own are as many as those under the label that she has
own_forms-count : (t : Tables) (user : Option ℕ) (p o : ℕ) → ordinal_in t.seats user p ≡ Some o
    → length (own_forms_in t user p) ≡ length (forms_in t.reviews p o)
own_forms-count t user p o h =
    let forms : ℕ → List FormTold = λ o. map written_told (forms_in t.reviews p o) in
    ap (λ (seat : Option ℕ). length (flat_map forms (listed seat))) h
    ∙ ap length (append-nil (forms o))
    ∙ length-map (forms_in t.reviews p o) written_told

-- a reviewer of the paper that is there has a seat
own-seat : (t : Tables) (user paper : Option ℕ) → not (has_paper (facts_of_tables t user) paper) ≡ false
    → not (standing_at t user paper).reviewer ≡ false
    → ordinal_in t.seats user (unwrap_or paper 0) ≡ Some (unwrap_or (ordinal_in t.seats user (unwrap_or paper 0)) 0)
own-seat t user None there reviews = absurd (true≢false there)
own-seat t user (Some p) there reviews =
    some-where (ordinal_in t.seats user p) (not-false (is_some (ordinal_in t.seats user p)) reviews)

-- where the papers that have ties are there
module _ (t : Tables) (within : AreWithin (paper_count t.papers) t.ties) (stamp : Stamp) where
  abbrev maker : ℕ
  maker = stamp.maker

  -- the paper that is named, as the rules ask of it
  abbrev named : Option ℕ → NamedPaper
  named paper = paper_named (facts_of_tables t (Some maker)) (shown_in_tables t) paper

  -- it is too late for what the phase opens
  abbrev late : Bool
  late = is_late_in t.stage stamp.at

  abbrev deed_of : ResolvedCommand → Deed
  deed_of command = deed_at (facts_of_tables t (Some maker)) (shown_in_tables t) stamp command

  -- what a deed of which no rule is broken draws fits
  deed-fits : (command : ResolvedCommand) → NoneBroken (deed_of command).checks
      → FitInTurn t (drawn_by (lines_of t.accounts) stamp (deed_of command)).group
  deed-fits (Register name digest) none =
      let lines : List AccountLine = lines_of t.accounts in
      let checks = register_checks (is_some (number_in lines name)) (length lines) in
      registration-in_turn t stamp (length lines + 1) name digest
      (registration-fits t.accounts name digest (length lines + 1)
      (sym (judged-none checks (length lines + 1) none)
      ∙ ap (λ (found : Option ℕ). told found (length lines)) (number_in-lines_of t.accounts name)
      ∙ ap (told (number_at t.accounts name)) (length-lines_of t.accounts)))
    where
      told : Option ℕ → ℕ → Result ℕ Rule
      told found count = judged (register_checks (is_some found) count) (count + 1)
  deed-fits (SetPhase to) none =
      (record { accounts = tt; papers = tt; ties = tt; seats = tt; reviews = tt; talk = tt }, tt)
  deed-fits (Submit title abstract authors) none =
      let n : ℕ = length (paper_numbers t.papers) in
      let same : n ≡ paper_count t.papers = length-numbers_from 1 t.papers.papers in
      let few : n < 9999 = leb-false 9999 n none.1.1.1.0 in
      let own : own_count t.papers (Some maker) < 20 = leb-false 20 (own_count t.papers (Some maker)) none.1.1.1.1.0 in
      submission-fits t stamp (n + 1) title abstract (unwrap_or authors [])
      (omega (arith, same), omega (arith, few), own)
      (within-before (paper_count t.papers) (n + 1) (ap (λ m. m + 1) same) t.ties.authors within.authors)
      (coauthors-within t authors none.0)
  deed-fits (Revise paper title abstract) none = (
    record {
      accounts = tt;
      papers = paper_within t.papers.papers paper none.0;
      ties = tt;
      seats = tt;
      reviews = tt;
      talk = tt;
    },
    tt,
  )
  deed-fits (Upload paper content) none =
      let own : ℕ = own_bytes t.papers (Some maker) in
      let p : ℕ = unwrap_or paper 0 in (
        record {
          accounts = tt;
          papers = (
            paper_within t.papers.papers paper none.0,
            refl,
            ltb-false 67108864 (own + length content) none.1.1.1.1.1.0,
          );
          ties = tt;
          seats = tt;
          reviews = tt;
          talk = tt;
        },
        tt,
      )
  deed-fits (Withdraw paper) none = (
    record {
      accounts = tt;
      papers = paper_within t.papers.papers paper none.0;
      ties = tt;
      seats = tt;
      reviews = tt;
      talk = tt;
    },
    tt,
  )
  deed-fits (Name target role) none = (
    record {
      accounts = target-in t target of_role none.0;
      papers = tt;
      ties = tt;
      seats = tt;
      reviews = tt;
      talk = tt;
    },
    tt,
  )
  deed-fits (SetMode to) none =
      (record { accounts = tt; papers = tt; ties = tt; seats = tt; reviews = tt; talk = tt }, tt)
  deed-fits (SetConflict paper target on) none =
      let facts : Facts = facts_of_tables t (Some maker) in
      let there = paper_within t.papers.papers paper none.0 in (
        record {
          accounts = target-in t target _ none.1.0;
          papers = there;
          ties = tt;
          seats = tt;
          reviews = tt;
          talk = tt;
        },
        tt,
      )
  deed-fits (Bid paper value) none = (
    record {
      accounts = tt;
      papers = paper_within t.papers.papers paper none.0;
      ties = tt;
      seats = tt;
      reviews = tt;
      talk = tt;
    },
    tt,
  )
  deed-fits (Assign paper target kind) none =
      let p : ℕ = unwrap_or paper 0 in
      let labels : ℕ = labels_in t.seats p in
      let there = paper_within t.papers.papers paper none.0 in
      let user = target-in t target _ none.1.0 in
      let free = none-where (ordinal_in t.seats (Some (unwrap_or target 0)) p)
      (seat-named t (Some maker) paper target false none.1.0 none.0 none.1.1.1.1.1.1.1.1.0) in (
        record {
          accounts = user;
          papers = there;
          ties = tt;
          seats = (refl, few labels none.1.1.1.1.1.1.1.1.1.0, free);
          reviews = tt;
          talk = tt;
        },
        tt,
      )
    where
      few : (n : ℕ) → nat_le 26 n ≡ false → n + 1 ≤ 26
      few n h = grind (arith, nat_tests, h)
  deed-fits (Unassign paper target) none =
      let p : ℕ = unwrap_or paper 0 in
      let there = paper_within t.papers.papers paper none.0 in
      let user = target-in t target _ none.1.0 in
      let taken =
      seat-there t target p (seat-named t (Some maker) paper target true none.1.0 none.0
      (not-false _ none.1.1.1.1.1.1.0)) _ none.1.0 in
      (record { accounts = user; papers = there; ties = tt; seats = taken; reviews = tt; talk = tt }, tt)
  deed-fits (Review paper form) none =
      let p : ℕ = unwrap_or paper 0 in
      let ordinal : ℕ = unwrap_or (ordinal_in t.seats (Some maker) p) 0 in
      let there = paper_within t.papers.papers paper none.0 in
      let next =
      ap (λ (n : ℕ). n + 1) (own_forms-count t (Some maker) p ordinal
      (own-seat t (Some maker) paper none.0 none.1.1.1.0)) in
      (record { accounts = tt; papers = there; ties = tt; seats = tt; reviews = next; talk = tt }, tt)
  deed-fits (Comment paper text) none =
      let p : ℕ = unwrap_or paper 0 in
      let own : ℕ = own_comments_in t.talk (Some maker) in
      let there = paper_within t.papers.papers paper none.0 in
      let next = ap (λ (n : ℕ). n + 1) (length-map (comments_in t.talk p) comment_as_told) in (
        record {
          accounts = tt;
          papers = there;
          ties = tt;
          seats = tt;
          reviews = tt;
          talk = (next, leb-false 1000 own none.1.1.1.1.1.1.0);
        },
        tt,
      )
  deed-fits (Tag paper tag on) none =
      let there = paper_within t.papers.papers paper none.0 in
      (record { accounts = tt; papers = there; ties = tt; seats = tt; reviews = tt; talk = tt }, tt)
  deed-fits (Decide paper decision) none =
      let there = paper_within t.papers.papers paper none.0 in
      (record { accounts = tt; papers = there; ties = tt; seats = tt; reviews = tt; talk = tt }, tt)
  deed-fits (SetDeadline phase until) none =
      (record { accounts = tt; papers = tt; ties = tt; seats = tt; reviews = tt; talk = tt }, tt)
  deed-fits (Dismiss target) none = (
    record {
      accounts = target-in t target of_role none.0;
      papers = tt;
      ties = tt;
      seats = tt;
      reviews = tt;
      talk = tt;
    },
    tt,
  )
  deed-fits (Invite paper target) none =
      let there = paper_within t.papers.papers paper none.0 in (
        record {
          accounts = target-in t target _ none.1.0;
          papers = there;
          ties = tt;
          seats = tt;
          reviews = tt;
          talk = tt;
        },
        tt,
      )
  deed-fits (Uninvite paper target) none =
      let there = paper_within t.papers.papers paper none.0 in (
        record {
          accounts = target-in t target _ none.1.0;
          papers = there;
          ties = tt;
          seats = tt;
          reviews = tt;
          talk = tt;
        },
        tt,
      )
  deed-fits (Respond paper text) none =
      let p : ℕ = unwrap_or paper 0 in
      let there = paper_within t.papers.papers paper none.0 in (
        record {
          accounts = tt;
          papers = there;
          ties = tt;
          seats = tt;
          reviews = tt;
          talk = none-where (response_in t.talk p) none.1.1.1.1.1.0;
        },
        tt,
      )

  -- what a resolved command draws fits; a registration's is the same for all
  pub resolved-fits : (command : ResolvedCommand) (drawn : Drawn)
      → judge_resolved (facts_of_tables t (Some maker)) (shown_in_tables t) stamp command ≡ Ok drawn
      → FitInTurn t drawn.group
  resolved-fits command drawn accepted =
      let k = judged-Ok (deed_of command).checks (drawn_by (lines_of t.accounts) stamp (deed_of command)) drawn
      accepted in
      subst (λ (d : Drawn). FitInTurn t d.group) k.1 (deed-fits command k.0)
