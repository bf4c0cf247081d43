-- SPDX-License-Identifier: Apache-2.0 OR MIT
-- What a view says of a paper is what the history says, where the reader's standing tells them.
use Rattle.std.proofs.Common.{◌≡◌, ℕ, Bool, true, false, [], ◌∷◌, refl, sym, ap, ◌∙◌, ◌||◌, ◌&&◌, Option, Some, eqb}
use Rattle.std.proofs.Common.{arith}
use Rattle.std.specs.Prelude.{not}
use Rattle.std.specs.List.{flat_map}
use Rattle.std.proofs.lemmas.Bool.{or_left}
use Rattle.cr_base.specs.declared.entry.Entry.{Entry}
use Rattle.cr_base.specs.declared.entry.Entry.TheVariants.{Submitted, Revised}
use Rattle.cr_base.specs.declared.entry.Stamped.{Stamped}
use Rattle.cr_base.specs.declared.standing.Standing.{Standing}
use Rattle.cr_base.specs.Lists.{given, listed, last, last_or, is_nothing}
use Rattle.cr_base.specs.History.{History, author_told, title_told, abstract_told, upload_told, withdrawal_told}
use Rattle.cr_base.specs.Answering.{uploads_told}
use Rattle.cr_base.specs.HistoryFacts.{phase_of, standing_of, is_author, is_conflict_on, title_of, abstract_of}
use Rattle.cr_base.specs.HistoryFacts.{authors_of, uploads_of, is_withdrawn, is_accepted}
use Rattle.cr_base.specs.Page.{is_clear_external, is_clear_chair, reads_paper, gets_title, gets_abstract, shows_author}
use Rattle.cr_base.specs.Page.{gets_conflicts, gets_versions, gets_withdrawn}
use Rattle.cr_base.specs.Phases.{members_see_papers, committee_sees_authors, chairs_see_conflicts}
use Rattle.cr_base.specs.Words.{is_anonymous}
use Rattle.cr_policy.specs.Part as part
use Rattle.cr_policy.specs.Triggers.{reader, user_named, members, standing_to, unless_anonymous, published, none_in}
use Rattle.cr_policy.specs.View.{view, is_seen}
use Rattle.cr_policy.specs.ViewFacts.{author_seen, title_seen, abstract_seen, upload_seen, withdrawal_seen}
use Rattle.cr_policy.specs.ViewFacts.{title_in_view, abstract_in_view, authors_in_view, is_conflict_on_in_view}
use Rattle.cr_policy.specs.ViewFacts.{uploads_in_view, is_withdrawn_in_view}
use Rattle.cr_policy.proofs.StandingLaws.{declared-seen_where}
use Rattle.cr_policy.proofs.Walk.{is_nothing-append, fold_last, fold_all}
use Rattle.cr_policy.proofs.Tells.{passes, names_author, author_tells, title_tells, abstract_tells, upload_tells}
use Rattle.cr_policy.proofs.Tells.{withdrawal_tells, author_value, title_value, abstract_value, upload_value}
use Rattle.cr_policy.proofs.Tells.{withdrawal_value}

-- an author sees it, and so do others who may at the last entry that tells it, and there everyone, where the paper is
-- accepted or published (`out`); `own` is the maker's own row
text_shown : (a n m f out own : Bool) → n ≡ true → (a || (m && f) || out) ≡ true
    → (a || ((n && m && f) || ((n && out) || (own || false)))) ≡ true
text_shown a n m f out own last told = grind arith

-- ---- titles

-- members see it, and externals in no conflict with the paper
title_shown : (a n m e f out own : Bool) → n ≡ true → (a || (m && f) || (e && f) || out) ≡ true
    → (a || ((n && m && f) || ((n && e && f) || ((n && out) || (own || false))))) ≡ true
title_shown a n m e f out own last told = grind arith

pub title-seen : (u : Option ℕ) (p : ℕ) (H : History) → gets_title (standing_of u (Some p) H) (is_accepted p H) ≡ true
    → title_in_view p (view u H) ≡ title_of p H
title-seen u p H told =
    fold_last (reader u H) (title_seen p) (λ (e : Stamped). title_told p e.entry) (passes part.title (reader u H))
    (title_tells (reader u H) p)
    (λ at e last.
    let none : Bool = none_in (title_told p) at.after in
    let begun : Bool = members_see_papers (phase_of H) in
    let outside : Bool = is_clear_external (standing_to (reader u H) p) in
    let shown : (own : Bool)
    →
    (is_author u p H || ((none && members (reader u H) && begun)
    || ((none && outside && begun) || ((none && is_accepted p H) || (own || false))))) ≡ true =
    λ own. title_shown (is_author u p H) none (members (reader u H)) outside begun (is_accepted p H) own last told in
    title_value (reader u H) at p (record {
      submitted = λ stamp more title abstract. shown (user_named (reader u H) stamp.maker);
      revised = λ stamp more title abstract. shown (user_named (reader u H) stamp.maker);
    }) e) [] H

-- ---- abstracts

same_given : {A B : Type 0} (c : Bool) (x : A) (y : B) → is_nothing (given c x) ≡ is_nothing (given c y)
same_given true x y = refl
same_given false x y = refl

-- an entry tells a title exactly where it tells an abstract
same_texts : (p : ℕ) (e : Entry) → is_nothing (title_told p e) ≡ is_nothing (abstract_told p e)
same_texts p (Submitted paper title abstract) = same_given (eqb paper p) title abstract
same_texts p (Revised paper title abstract) = same_given (eqb paper p) title abstract
same_texts p e = refl

same_nothing : (p : ℕ) (H : History) → is_nothing (flat_map (λ (e : Stamped). title_told p e.entry) H)
    ≡ is_nothing (flat_map (λ (e : Stamped). abstract_told p e.entry) H)
same_nothing p [] = refl
same_nothing p (e ∷ H) =
    let titles = flat_map (λ (e : Stamped). title_told p e.entry) H in
    is_nothing-append (title_told p e.entry) titles
    ∙ ap (λ b. b && is_nothing titles) (same_texts p e.entry)
    ∙ ap (λ b. is_nothing (abstract_told p e.entry) && b) (same_nothing p H)
    ∙ sym (is_nothing-append (abstract_told p e.entry) (flat_map (λ (e : Stamped). abstract_told p e.entry) H))

pub abstract-seen : (u : Option ℕ) (p : ℕ) (H : History)
    → gets_abstract (standing_of u (Some p) H) (is_accepted p H) ≡ true
    → abstract_in_view p (view u H) ≡ abstract_of p H
abstract-seen u p H told =
    fold_last (reader u H) (abstract_seen p) (λ (e : Stamped). abstract_told p e.entry)
    (passes part.abstract (reader u H)) (abstract_tells (reader u H) p)
    (λ at e last.
    let clear : Bool = reads_paper (standing_to (reader u H) p) in
    let none : Bool = none_in (title_told p) at.after in
    let begun : Bool = members_see_papers (phase_of H) in
    let out : Bool = published (reader u H) p in
    let shown : (own : Bool) → (is_author u p H || ((none && clear && begun) || ((none && out) || (own || false))))
    ≡ true =
    λ own. text_shown (is_author u p H) none clear begun out own (same_nothing p at.after ∙ last) told in
    abstract_value (reader u H) at p (record {
      submitted = λ stamp more title abstract. shown (user_named (reader u H) stamp.maker);
      revised = λ stamp more title abstract. shown (user_named (reader u H) stamp.maker);
    }) e) [] H

-- ---- uploads

-- an author sees all that was uploaded to her paper
pub uploads-seen_by_author : (u : Option ℕ) (p : ℕ) (H : History) → is_author u p H ≡ true
    → uploads_in_view p (view u H) ≡ uploads_of p H
uploads-seen_by_author u p H h =
    fold_all (reader u H) (upload_seen p) (λ (e : Stamped). upload_told p e.entry) (passes part.content (reader u H))
    (upload_tells (reader u H) p)
    (λ at e. upload_value (reader u H) at p (λ stamp more version content. or_left (is_author u p H) _ h) e) [] H

-- of what others who are told see of it, the last is the last
last_upload-seen : (u : Option ℕ) (p : ℕ) (H : History)
    → gets_versions (standing_of u (Some p) H) (is_accepted p H) ≡ true
    → last (uploads_in_view p (view u H)) ≡ last (uploads_of p H)
last_upload-seen u p H told =
    fold_last (reader u H) (upload_seen p) (λ (e : Stamped). upload_told p e.entry) (passes part.content (reader u H))
    (upload_tells (reader u H) p)
    (λ at e last.
    let clear : Bool = reads_paper (standing_to (reader u H) p) in
    upload_value (reader u H) at p (λ stamp more version content.
    text_shown (is_author u p H) (none_in (upload_told p) at.after) clear (members_see_papers (phase_of H))
    (published (reader u H) p)
    (user_named (reader u H) stamp.maker) last told) e) [] H

-- so what she is told of it is what the history tells her
pub uploads-seen : (u : Option ℕ) (p : ℕ) (H : History)
    → gets_versions (standing_of u (Some p) H) (is_accepted p H) ≡ true
    → uploads_told (is_author u p H) (uploads_in_view p (view u H)) ≡ uploads_told (is_author u p H) (uploads_of p H)
uploads-seen u p H told = by (is_author u p H) refl
  where
    by : (b : Bool) → is_author u p H ≡ b → uploads_told b (uploads_in_view p (view u H))
        ≡ uploads_told b (uploads_of p H)
    by true h = uploads-seen_by_author u p H h
    by false h = ap listed (last_upload-seen u p H told)

-- ---- withdrawals

withdrawal_shown : (a m e f own : Bool) → (a || (m && f) || (e && f)) ≡ true
    → (a || ((m && f) || ((e && f) || (own || false)))) ≡ true
withdrawal_shown a m e f own told = grind arith

pub withdrawn-seen : (u : Option ℕ) (p : ℕ) (H : History) → gets_withdrawn (standing_of u (Some p) H) ≡ true
    → is_withdrawn_in_view p (view u H) ≡ is_withdrawn p H
withdrawn-seen u p H told =
    ap (last_or false) (fold_all (reader u H) (withdrawal_seen p) (λ (e : Stamped). withdrawal_told p e.entry)
    (is_seen (reader u H)) (withdrawal_tells (reader u H) p)
    (λ at e. withdrawal_value (reader u H) at p (λ stamp more.
    withdrawal_shown (is_author u p H) (members (reader u H)) (is_clear_external (standing_to (reader u H) p))
    (members_see_papers (phase_of H)) (user_named (reader u H) stamp.maker) told) e) [] H)

-- ---- authors

-- `rest` is the maker's own row, where it names the author
authors_shown : (a c m f n accepted rest : Bool) → (a || (c && f) || (m && n && f) || accepted) ≡ true
    → (a || ((c && f) || ((m && n && f) || (accepted || rest)))) ≡ true
authors_shown a c m f n accepted rest told = grind arith

pub authors-seen : (u : Option ℕ) (p : ℕ) (H : History)
    → shows_author (standing_of u (Some p) H) (is_accepted p H) ≡ true
    → authors_in_view p (view u H) ≡ authors_of p H
authors-seen u p H told =
    fold_all (reader u H) (author_seen p) (λ (e : Stamped). author_told p e.stamp.maker e.entry)
    (names_author (reader u H)) (author_tells (reader u H) p)
    (λ at e. author_value (reader u H) at p (record {
      submitted = λ stamp more title abstract. shown false;
      coauthor = λ stamp more user. shown (user_named (reader u H) stamp.maker || false);
    }) e) [] H
  where
    chair : Bool
    chair = is_clear_chair (standing_to (reader u H) p)

    member : Bool
    member = reads_paper (standing_to (reader u H) p)

    begun : Bool
    begun = committee_sees_authors (phase_of H)

    shown : (rest : Bool)
        →
        (is_author u p H
        || ((chair && begun) || ((member && unless_anonymous (reader u H) && begun) || (is_accepted p H || rest))))
        ≡ true
    shown rest =
        authors_shown (is_author u p H) chair member begun (unless_anonymous (reader u H)) (is_accepted p H) rest told

-- whoever is shown a paper's authors, whatever becomes of it
pub also_accepted : (by : Standing) (accepted : Bool) → shows_author by false ≡ true → shows_author by accepted ≡ true
also_accepted by accepted told =
    either by.author (is_clear_chair by && committee_sees_authors by.phase)
    (reads_paper by && not (is_anonymous by.mode) && committee_sees_authors by.phase)
    accepted told
  where
    either : (a c m accepted : Bool) → (a || c || m || false) ≡ true → (a || c || m || accepted) ≡ true
    either a c m accepted told = grind arith

-- ---- declared conflicts

third : (n w c own : Bool) → c ≡ true → (n || (w || (c || (own || false)))) ≡ true
third n w c own h = grind arith

-- a clear chair sees each entry on a conflict with the paper from the bidding on
pub conflicts-seen : (u : Option ℕ) (p : ℕ) (H : History) → gets_conflicts (standing_of u (Some p) H) ≡ true
    → (v : Option ℕ) → is_conflict_on_in_view v p (view u H) ≡ is_conflict_on v p H
conflicts-seen u p H told v =
    declared-seen_where u v p H (λ at stamp more user on _. third (user_named (reader u H) user)
    (is_author (Some stamp.maker) p H && is_author u p H)
    (is_clear_chair (standing_to (reader u H) p) && chairs_see_conflicts (phase_of H))
    (user_named (reader u H) stamp.maker) told)
