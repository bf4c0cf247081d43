-- SPDX-License-Identifier: Apache-2.0 OR MIT
-- What a history tells of declared conflicts is what the table of ties has.
use Rattle.std.proofs.Common.{ℕ, Bool, true, false, cond, ◌≡◌, ◌≤◌, List, [], ◌∷◌, ◌++◌, eqb, refl, sym, ap, subst, ◌∙◌}
use Rattle.std.proofs.Common.{arith, ◌||◌, ◌&&◌, Option, Some, None, length-append, append-nil}
use Rattle.std.specs.Prelude.{not}
use Rattle.std.specs.List.{flat_map, list_any}
use Rattle.std.proofs.lemmas.Bool.{eqb-true, ne_eqb, false≢true}
use Rattle.std.proofs.lemmas.List.Folds.{list_any-append}
use Rattle.std.proofs.Math.Bool.{or-false}
use Rattle.cr_base.specs.declared.entry.Entry.{Entry}
use Rattle.cr_base.specs.declared.entry.Entry.TheVariants.{Submitted, Coauthor, Revised, Withdrawn, Conflict}
use Rattle.cr_base.specs.declared.entry.Stamped.{Stamped}
use Rattle.cr_base.specs.declared.pairs.Order.TheVariants.{ByPaper}
use Rattle.cr_base.specs.declared.pairs.Pair.{Pair}
use Rattle.cr_base.specs.Lists.{given, last_or, is_number}
use Rattle.cr_base.specs.History.{History, conflict_told, declared_told}
use Rattle.cr_base.specs.HistoryFacts.{is_conflict_on, is_conflicted, declared_by_authors}
use Rattle.cr_base.specs.Pairs.{same_pair, with_tie, has_pair}
use Rattle.cr_base.specs.Papers.{PapersState, new_paper, with_texts, as_withdrawn, papers_after, paper_count, PapersFit}
use Rattle.cr_base.specs.Ties.{BareTies, TiesState, pair_of, bare_tie, switched, ties_after, authors_in, is_author_in}
use Rattle.cr_base.specs.Ties.{is_conflict_on_in, is_conflicted_in}
use Rattle.cr_base.specs.Tables.{Tables, no_tables, tables_after, tables_from, tables_of, FitInTurn}
use Rattle.cr_base.proofs.PaperLaws.{length-with_paper}
use Rattle.cr_base.proofs.LastLaws.{last_or-given}
use Rattle.cr_base.proofs.PairLaws.{has_pair-with_tie}
use Rattle.cr_base.proofs.TieLaws.{has_pair-switched, users_tied_to-push}
use Rattle.cr_base.proofs.Small.{eqb-swap}
use Rattle.cr_history.specs.Invariants.{InTurn, ComesFirst, is_conflict_with}
use Rattle.cr_history.proofs.PaperAgreement.{is_author-tables}
use Rattle.cr_history.proofs.Folds.{told-always, each-silent}

-- ---- declared conflicts

-- a pair that is switched is there as it is told, and every other is as it was
switched-told : (on : Bool) (q : Pair) (paper user : ℕ) (ts : BareTies) → has_pair q (switched on paper user ts)
    ≡ cond (same_pair q (pair_of paper user)) on (has_pair q ts)
switched-told on q paper user ts =
    has_pair-switched on q paper user ts ∙ by on (same_pair q (pair_of paper user)) (has_pair q ts)
  where
    by : (on same there : Bool) → cond on (same || there) (not same && there) ≡ cond same on there
    by true true there = refl
    by true false there = refl
    by false true there = refl
    by false false there = refl

conflict-entry : (p v : ℕ) (ties : TiesState) (maker : ℕ) (e : Entry) (rest : List Bool)
    → last_or (has_pair (pair_of p v) ties.conflicts) (conflict_told (Some v) p e ++ rest)
    ≡ last_or (has_pair (pair_of p v) (ties_after ties maker e).conflicts) rest
conflict-entry p v ties maker (Conflict paper user on) rest =
    last_or-given (eqb paper p && eqb v user) (has_pair (pair_of p v) ties.conflicts) on rest
    ∙ ap (λ b. last_or (cond (b && eqb v user) on (has_pair (pair_of p v) ties.conflicts)) rest) (eqb-swap paper p)
    ∙ ap (λ b. last_or b rest) (sym (switched-told on (pair_of p v) paper user ties.conflicts))
conflict-entry p v ties maker e rest = refl

-- nothing is told of nobody
nobody-entry : (p : ℕ) (e : Entry) → conflict_told None p e ≡ []
nobody-entry p (Conflict paper user on) = by (eqb paper p)
  where
    by : (b : Bool) → given (b && false) on ≡ []
    by true = refl
    by false = refl
nobody-entry p e = refl

-- a user's declared conflicts are those of the table
pub is_conflict_on-tables : (u : Option ℕ) (p : ℕ) (H : History)
    → is_conflict_on u p H ≡ is_conflict_on_in (tables_of H).ties u p
is_conflict_on-tables None p H =
    ap (last_or false) (each-silent (λ (s : Stamped). conflict_told None p s.entry) (λ s. nobody-entry p s.entry) H)
is_conflict_on-tables (Some v) p H = told-always last_or (λ _. refl)
    (λ (t : Tables). has_pair (pair_of p v) t.ties.conflicts) (λ (s : Stamped). conflict_told (Some v) p s.entry)
    (λ t s. conflict-entry p v t.ties s.stamp.maker s.entry) no_tables H

pub is_conflicted-tables : (u : Option ℕ) (p : ℕ) (H : History)
    → is_conflicted u p H ≡ is_conflicted_in (tables_of H).ties u p
is_conflicted-tables u p H =
    ap (λ b. b || is_conflict_on u p H) (is_author-tables u p H)
    ∙ ap (λ b. is_author_in (tables_of H).ties u p || b) (is_conflict_on-tables u p H)

-- ---- authors stay

-- a paper's co-authors are told before any conflict with it
abbrev pub TellFirst : History → Stamped → Type 0
TellFirst before e = ComesFirst before e.entry

-- an entry of the history turns a conflict with the paper on or off
abbrev pub has_conflict : ℕ → History → Bool
has_conflict p H = list_any (λ (e : Stamped). is_conflict_with p e.entry) H

has_conflict-append : (p : ℕ) (before g : History) → has_conflict p before ≡ true → has_conflict p (before ++ g) ≡ true
has_conflict-append p before g there =
    list_any-append (λ (e : Stamped). is_conflict_with p e.entry) before g ∙ ap (λ b. b || has_conflict p g) there

-- the authors of a paper that is there stay the same, once there is a conflict with it
author-entry : (p : ℕ) (before : History) (state : PapersState) (ties : TiesState) (maker : ℕ) (e : Entry)
    → PapersFit state maker e → ComesFirst before e
    → has_conflict p before ≡ true → p ≤ paper_count state
    → (authors_in (ties_after ties maker e) p ≡ authors_in ties p) × (p ≤ paper_count (papers_after state maker e))
author-entry p before state ties maker (Submitted paper title abstract) fits first there h = (
  users_tied_to-push p ties.authors paper maker
      ∙ ap (λ b. authors_in ties p ++ given b maker)
      (ne_eqb p paper (let next = fits.0 in λ e. omega (arith, e, h, next))) ∙ append-nil (authors_in ties p),
  (let n = length-append state.papers (new_paper title abstract ∷ []) in omega (arith, n, h)),
)
author-entry p before state ties maker (Coauthor paper user) fits first there h = (
  users_tied_to-push p ties.authors paper user ∙ ap (λ b. authors_in ties p ++ given b user) (ne_eqb p paper other)
      ∙ append-nil (authors_in ties p),
  h,
)
  where
    other : p ≡ paper → ⊥
    other e = false≢true (sym (subst (λ (q : ℕ). has_conflict q before ≡ false) (sym e) first) ∙ there)
author-entry p before state ties maker (Revised paper title abstract) fits first there h =
    (refl, (let n = length-with_paper paper (with_texts title abstract) state.papers in omega (arith, n, h)))
author-entry p before state ties maker (Withdrawn paper) fits first there h =
    (refl, (let n = length-with_paper paper as_withdrawn state.papers in omega (arith, n, h)))
author-entry p before state ties maker e fits first there h = (refl, h)

author-from : (p : ℕ) (before : History) (t : Tables) (H : History) → FitInTurn t H → InTurn TellFirst before H
    → has_conflict p before ≡ true
    → p ≤ paper_count t.papers → authors_in (tables_from t H).ties p ≡ authors_in t.ties p
author-from p before t [] fits first there h = refl
author-from p before t (s ∷ H) fits first there h =
    let one = author-entry p before t.papers t.ties s.stamp.maker s.entry fits.0.papers first.0 there h in
    author-from p (before ++ s ∷ []) (tables_after t s) H fits.1 first.1 (has_conflict-append p before (s ∷ []) there)
    one.1 ∙ one.0

-- a conflict is with a paper that is there, and leaves its authors
conflict-keeps : (p : ℕ) (state : PapersState) (ties : TiesState) (maker : ℕ) (e : Entry) → PapersFit state maker e
    → is_conflict_with p e ≡ true
    → (authors_in (ties_after ties maker e) p ≡ authors_in ties p) × (p ≤ paper_count (papers_after state maker e))
conflict-keeps p state ties maker (Conflict paper user on) fits here =
    let e : paper ≡ p = eqb-true paper p here in
    let high = fits.1 in
    (refl, omega (arith, e, high))
conflict-keeps p state ties maker e fits here = absurd (false≢true here)

-- so they stay from the first conflict on
author-stays : (u : Option ℕ) (p : ℕ) (before : History) (t : Tables) (s : Stamped) (H : History) → FitInTurn t (s ∷ H)
    → InTurn TellFirst before (s ∷ H)
    → is_conflict_with p s.entry ≡ true
    → is_author_in (tables_from t (s ∷ H)).ties u p ≡ is_author_in t.ties u p
author-stays u p before t s H fits first here =
    let one = conflict-keeps p t.papers t.ties s.stamp.maker s.entry fits.0.papers here in
    ap (list_any (is_number u)) (author-from p (before ++ s ∷ []) (tables_after t s) H fits.1 first.1 there one.1
    ∙ one.0)
  where
    last : (b c : Bool) → c ≡ true → (b || (c || false)) ≡ true
    last true c h = refl
    last false c h = ap (λ c. c || false) h

    there : has_conflict p (before ++ s ∷ []) ≡ true
    there = list_any-append (λ (e : Stamped). is_conflict_with p e.entry) before (s ∷ [])
        ∙ last (has_conflict p before) (is_conflict_with p s.entry) here

-- ---- declared by authors

-- the user is among these
abbrev pub is_among : ℕ → List ℕ → Bool
is_among v users = list_any (λ w. eqb w v) users

-- whom the entries name in a conflict with the paper, where such makers are authors
abbrev named_by : (ℕ → Bool) → ℕ → History → List ℕ
named_by wrote p H = flat_map (λ (e : Stamped). declared_told (wrote e.stamp.maker) p e.entry) H

among-given : (b : Bool) (w v : ℕ) (rest : List ℕ)
    → is_among v (given b w ++ rest) ≡ ((b && eqb w v) || is_among v rest)
among-given true w v rest = refl
among-given false w v rest = refl

-- one entry: where it is a conflict with the paper, its maker is an author now if and only if she is one at the end
declared-entry : (p v : ℕ) (ties : TiesState) (maker : ℕ) (e : Entry) (wrote : Bool) (rest : List ℕ)
    → (is_conflict_with p e ≡ true → wrote ≡ is_author_in ties (Some maker) p)
    → (has_pair (pair_of p v) ties.declared || is_among v (declared_told wrote p e ++ rest))
    ≡ (has_pair (pair_of p v) (ties_after ties maker e).declared || is_among v rest)
declared-entry p v ties maker (Conflict paper user on) wrote rest same =
    let there : Bool = has_pair (pair_of p v) ties.declared in
    let names : Bool = eqb p paper && eqb v user in
    let writes : Bool = is_author_in ties (Some maker) paper in
    let now : has_pair (pair_of p v) (cond writes (with_tie ByPaper (bare_tie paper user) ties.declared) ties.declared)
    ≡ cond writes (names || there) there = by writes in
    ap (λ b. there || b) (among-given (eqb paper p && wrote) user v rest)
    ∙ told (eqb paper p) (eqb p paper) (eqb user v) (eqb v user) wrote writes there (is_among v rest) (eqb-swap paper p)
    (eqb-swap user v)
    (λ here. same here ∙ ap (is_author_in ties (Some maker)) (sym (eqb-true paper p here)))
    ∙ ap (λ b. b || is_among v rest) (sym now)
  where
    by : (writes : Bool) → has_pair (pair_of p v)
        (cond writes (with_tie ByPaper (bare_tie paper user) ties.declared) ties.declared)
        ≡ cond writes ((eqb p paper && eqb v user) || has_pair (pair_of p v) ties.declared)
        (has_pair (pair_of p v) ties.declared)
    by true = has_pair-with_tie ByPaper (pair_of p v) (bare_tie paper user) ties.declared
    by false = refl

    told : (a b c d wrote writes there later : Bool) → a ≡ b → c ≡ d → (a ≡ true → wrote ≡ writes)
        → (there || (((a && wrote) && c) || later))
        ≡ (cond writes ((b && d) || there) there || later)
    told true b c d wrote writes there later ab cd same =
        ap (λ x. there || (((true && x) && c) || later)) (same refl)
        ∙ both b d c writes there later (sym ab) (sym cd)
      where
        both : (b d c writes there later : Bool) → b ≡ true → d ≡ c → (there || (((true && writes) && c) || later))
            ≡ (cond writes ((b && d) || there) there || later)
        both b d c true there later hb hd = grind arith
        both b d c false there later hb hd = refl
    told false b c d wrote true there later ab cd same = neither b d there later (sym ab)
      where
        neither : (b d there later : Bool) → b ≡ false → (there || later) ≡ (((b && d) || there) || later)
        neither b d there later hb = grind arith
    told false b c d wrote false there later ab cd same = refl
declared-entry p v ties maker e wrote rest same = refl

declared-from : (p v : ℕ) (before : History) (t : Tables) (H : History) → FitInTurn t H → InTurn TellFirst before H
    → (has_pair (pair_of p v) t.ties.declared
    || is_among v (named_by (λ maker. is_author_in (tables_from t H).ties (Some maker) p) p H))
    ≡ has_pair (pair_of p v) (tables_from t H).ties.declared
declared-from p v before t [] fits first = or-false (has_pair (pair_of p v) t.ties.declared)
declared-from p v before t (s ∷ H) fits first =
    let later : List ℕ = named_by (λ maker. is_author_in (tables_from (tables_after t s) H).ties (Some maker) p) p H in
    declared-entry p v t.ties s.stamp.maker s.entry (is_author_in (tables_from t (s ∷ H)).ties (Some s.stamp.maker) p)
    later (author-stays (Some s.stamp.maker) p before t s H fits first)
    ∙ declared-from p v (before ++ s ∷ []) (tables_after t s) H fits.1 first.1

-- whom a paper's authors named in conflict with it are those whom the table has so
pub declared_by_authors-tables : (p v : ℕ) (H : History) → FitInTurn no_tables H → InTurn TellFirst [] H
    → is_among v (declared_by_authors p H)
    ≡ has_pair (pair_of p v) (tables_of H).ties.declared
declared_by_authors-tables p v H fits first =
    ap (λ (wrote : ℕ → Bool). is_among v (named_by wrote p H)) (λ i maker. is_author-tables (Some maker) p H i)
    ∙ declared-from p v [] no_tables H fits first
