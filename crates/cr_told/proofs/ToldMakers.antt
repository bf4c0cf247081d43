-- SPDX-License-Identifier: Apache-2.0 OR MIT
-- Who made an entry, at the end of a legal history: a paper's authors alone name its co-authors, change it, withdraw
-- it and respond.
use Rattle.std.proofs.Common.{◌≡◌, ℕ, Bool, true, false, [], ◌∷◌, ◌++◌, refl, sym, ap, ◌∙◌, Option, Some, None}
use Rattle.std.proofs.Common.{append_assoc, eqb}
use Rattle.std.specs.List.{AllByRecursion, list_any}
use Rattle.std.proofs.lemmas.Bool.{or_left, eqb-true, true≢false}
use Rattle.std.proofs.lemmas.List.Concat.{flat_map-append}
use Rattle.std.proofs.lemmas.List.Folds.{list_any-append}
use Rattle.cr_base.specs.declared.entry.Entry.{Entry}
use Rattle.cr_base.specs.declared.entry.Entry.TheVariants.{Coauthor, Revised, Uploaded, Withdrawn, Responded}
use Rattle.cr_base.specs.declared.entry.Stamped.{Stamped}
use Rattle.cr_base.specs.Lists.{is_number}
use Rattle.cr_base.specs.History.{History, author_told}
use Rattle.cr_base.specs.HistoryFacts.{is_author, authors_of}
use Rattle.cr_history.specs.Invariants.{IsInOrder, InTurn, IsByRight}

-- the maker of such an entry is an author of its paper
abbrev pub IsByAuthor : History → ℕ → Entry → Type 0
IsByAuthor H maker (Coauthor paper user) = is_author (Some maker) paper H ≡ true
IsByAuthor H maker (Revised paper title abstract) = is_author (Some maker) paper H ≡ true
IsByAuthor H maker (Uploaded paper version content) = is_author (Some maker) paper H ≡ true
IsByAuthor H maker (Withdrawn paper) = is_author (Some maker) paper H ≡ true
IsByAuthor H maker (Responded paper text) = is_author (Some maker) paper H ≡ true
IsByAuthor H maker _ = Unit {0}

-- an author stays one
pub still-author : (v : Option ℕ) (p : ℕ) (before after H : History) → before ++ after ≡ H → is_author v p before ≡ true
    → is_author v p H ≡ true
still-author v p before after H whole is =
    ap (is_author v p) (sym whole)
    ∙ ap (list_any (is_number v)) (flat_map-append (λ (e : Stamped). author_told p e.stamp.maker e.entry) before after)
    ∙ list_any-append (is_number v) (authors_of p before) (authors_of p after)
    ∙ or_left (is_author v p before) (list_any (is_number v) (authors_of p after)) is

module _ (H : History) where
  abbrev pub ByAuthor : Stamped → Type 0
  ByAuthor e = IsByAuthor H e.stamp.maker e.entry

  by-one : (before : History) (maker : ℕ) (e : Entry) (after : History) → before ++ after ≡ H → IsByRight before maker e
      → IsByAuthor H maker e
  by-one before maker (Coauthor paper user) after whole right =
      still-author (Some maker) paper before after H whole right
  by-one before maker (Revised paper title abstract) after whole right =
      still-author (Some maker) paper before after H whole right
  by-one before maker (Uploaded paper version content) after whole right =
      still-author (Some maker) paper before after H whole right
  by-one before maker (Withdrawn paper) after whole right = still-author (Some maker) paper before after H whole right
  by-one before maker (Responded paper text) after whole right =
      still-author (Some maker) paper before after H whole right
  by-one before maker e after whole right = tt

  by-all : (before after : History) → before ++ after ≡ H → InTurn IsInOrder before after
      → AllByRecursion ByAuthor after
  by-all before [] whole order = tt
  by-all before (e ∷ after) whole order = (
    by-one before e.stamp.maker e.entry (e ∷ after) whole order.0.right,
    by-all (before ++ e ∷ []) after (append_assoc before (e ∷ []) after ∙ whole) order.1,
  )

  pub by-authors : InTurn IsInOrder [] H → AllByRecursion ByAuthor H
  by-authors order = by-all [] H refl order

  -- so who is no author of the paper didn't make it
  pub not-own : (u : Option ℕ) (p maker : ℕ) → is_author (Some maker) p H ≡ true → is_author u p H ≡ false
      → is_number u maker ≡ false
  not-own None p maker is not = refl
  not-own (Some v) p maker is not = by (eqb v maker) refl
    where
      by : (b : Bool) → eqb v maker ≡ b → b ≡ false
      by true same = absurd (true≢false (sym is ∙ ap (λ n. is_author (Some n) p H) (sym (eqb-true v maker same)) ∙ not))
      by false same = refl
