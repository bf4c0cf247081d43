-- SPDX-License-Identifier: Apache-2.0 OR MIT
-- What the row of a bulk draws, by the tables behind the rows before it, and that its entry may come next.
use Rattle.std.proofs.Common.{ℕ, Bool, true, false, cond, ◌≡◌, List, [], ◌∷◌, ◌++◌, refl, sym, ap, subst, ◌∙◌}
use Rattle.std.proofs.Common.{Option, Some, Result, Ok, Err, IfOk}
use Rattle.std.specs.Prelude.{map}
use Rattle.cr_base.specs.declared.entry.Account.{Account}
use Rattle.cr_base.specs.declared.entry.Entry.{Entry}
use Rattle.cr_base.specs.declared.entry.Stamp.{Stamp}
use Rattle.cr_base.specs.declared.entry.Stamped.{Stamped}
use Rattle.cr_base.specs.declared.reply.Rule.{Rule}
use Rattle.cr_base.specs.declared.reply.Rule.TheVariants as rules
use Rattle.cr_base.specs.declared.resolved.ResolvedCommand.{ResolvedCommand}
use Rattle.cr_base.specs.declared.resolved.ResolvedCommand.TheVariants as commands
use Rattle.cr_base.specs.declared.resolved.ResolvedRow.{ResolvedRow}
use Rattle.cr_base.specs.declared.resolved.ResolvedRow.TheVariants as rows
use Rattle.cr_base.specs.Accounts.{lines_of}
use Rattle.cr_base.specs.Bulk.{entries_of, resolved_of_row, turns_own_conflict, IsRowEntry}
use Rattle.cr_base.specs.Calls.{resolved_by}
use Rattle.cr_base.specs.Deeds as made
use Rattle.cr_base.specs.Deeds.{Deed, deed_at}
use Rattle.cr_base.specs.Drawn.{Drawn, stamped, grouped}
use Rattle.cr_base.specs.History.{History}
use Rattle.cr_base.specs.Judging.{resolved_by_role}
use Rattle.cr_base.specs.Lists.{is_number}
use Rattle.cr_base.specs.Papers.{paper_count}
use Rattle.cr_base.specs.Sources.{facts_of_tables, shown_in_tables}
use Rattle.cr_base.specs.Tables.{Tables, tables_after, tables_from, Fits, FitInTurn}
use Rattle.cr_base.specs.Ties.{AreWithin}
use Rattle.cr_base.proofs.CheckLaws.{judged-Ok}
use Rattle.cr_base.proofs.FitLaws.{resolved-fits}
use Rattle.cr_judge.specs.Effects.{alone, drawn_by, entry_or_rule}
use Rattle.cr_judge.specs.Rows.{AreRowEntries, AreEarlier, row_resolved_at, group_or_rule, row_group}
use Rattle.cr_judge.proofs.RowLaws.{within-from}

-- ---- an entry

-- what a row's command draws is one entry of its kinds
pub row-drawn : (t : Tables) (stamp : Stamp) (row : ResolvedRow) (drawn : Drawn) (entry : Entry)
    → resolved_by_role t (resolved_by stamp (resolved_of_row row)) ≡ Ok drawn → entries_of drawn.group ≡ entry ∷ []
    → IsRowEntry entry
row-drawn t stamp row drawn entry accepted told = by row accepted
  where
    deed_of : ResolvedCommand → Deed
    deed_of command = deed_at (facts_of_tables t (Some stamp.maker)) (shown_in_tables t) stamp command

    first_is : (x y : Entry) → x ∷ [] ≡ y ∷ [] → x ≡ y
    first_is x y e = cc (e)

    one : (command : ResolvedCommand) → IsRowEntry (deed_of command).first
        → entries_of (made.drawn_by (lines_of t.accounts) stamp (deed_of command)).group ≡ (deed_of command).first ∷ []
        → resolved_by_role t (resolved_by stamp command) ≡ Ok drawn → IsRowEntry entry
    one command is alone accepted =
        let k = judged-Ok (deed_of command).checks (made.drawn_by (lines_of t.accounts) stamp (deed_of command)) drawn
        accepted in
        subst IsRowEntry
        (first_is (deed_of command).first entry
        (sym alone ∙ ap (λ (d : Drawn). entries_of d.group) k.1 ∙ told)) is

    by : (row : ResolvedRow) → resolved_by_role t (resolved_by stamp (resolved_of_row row)) ≡ Ok drawn
        → IsRowEntry entry
    by (rows.Conflict paper user on) = one (commands.SetConflict paper user on) tt refl
    by (rows.Assign paper user kind) = one (commands.Assign paper user kind) tt refl
    by (rows.Unassign paper user) = one (commands.Unassign paper user) tt refl
    by (rows.Tag paper tag on) = one (commands.Tag paper tag on) tt refl

-- ---- one more

-- its mark is no matter
fit-marked : (t : Tables) (s : Stamped) (more : Bool) → Fits t s → Fits t (stamped s.stamp more s.entry)
fit-marked t s more fit = record {
  accounts = fit.accounts;
  papers = fit.papers;
  ties = fit.ties;
  seats = fit.seats;
  reviews = fit.reviews;
  talk = fit.talk;
}

fits-more : (t : Tables) (earlier : History) (s : Stamped) → FitInTurn t earlier → Fits (tables_from t earlier) s
    → FitInTurn t (earlier ++ s ∷ [])
fits-more t [] s fits fit = (fit, tt)
fits-more t (x ∷ earlier) s fits fit = (fits.0, fits-more (tables_after t x) earlier s fits.1 fit)

rows-more : (earlier : History) (s : Stamped) → AreRowEntries earlier → IsRowEntry s.entry
    → AreRowEntries (earlier ++ s ∷ [])
rows-more [] s are is = (is, tt)
rows-more (x ∷ earlier) s are is = (are.0, rows-more earlier s are.1 is)

-- ---- a conflict

-- whether it is of the caller's own is asked of the user named
module _ (t : Tables) (stamp : Stamp) (paper user : Option ℕ) (on own : Bool)
    (told : own ≡ is_number user stamp.maker) where
  conflict-told : (b : Bool) → own ≡ b
      → cond b (Err rules.BulkSelf) (resolved_by_role t (resolved_by stamp (commands.SetConflict paper user on)))
      ≡ row_resolved_at t stamp (commands.SetConflict paper user on)
  conflict-told b is =
      ap (λ (b : Bool). cond b (Err rules.BulkSelf)
      (resolved_by_role t (resolved_by stamp (commands.SetConflict paper user on)))) (sym is ∙ told)

  pub conflict-own : own ≡ true
      → ◌≡◌ {A = Result Drawn Rule} (Err rules.BulkSelf) (row_resolved_at t stamp (commands.SetConflict paper user on))
  conflict-own is = conflict-told true is

  pub conflict-other : own ≡ false → (r : Result Drawn Rule)
      → r ≡ resolved_by_role t (resolved_by stamp (commands.SetConflict paper user on))
      → r ≡ row_resolved_at t stamp (commands.SetConflict paper user on)
  conflict-other is r judges = judges ∙ conflict-told false is

-- ---- what a row is answered

-- what its command draws, where it is accepted
accepted-judged : (t : Tables) (stamp : Stamp) (command : ResolvedCommand) (drawn : Drawn)
    → row_resolved_at t stamp command ≡ Ok drawn → resolved_by_role t (resolved_by stamp command) ≡ Ok drawn
accepted-judged t stamp command drawn is = by (turns_own_conflict stamp.maker command) is
  where
    no : ◌≡◌ {A = Result Drawn Rule} (Err rules.BulkSelf) (Ok drawn) → ⊥
    no e = cc (e)

    by : (own : Bool) → cond own (Err rules.BulkSelf) (resolved_by_role t (resolved_by stamp command)) ≡ Ok drawn
        → resolved_by_role t (resolved_by stamp command) ≡ Ok drawn
    by true e = absurd (no e)
    by false e = e

module _ (t : Tables) (earlier : History) (before : AreEarlier t earlier) (stamp : Stamp) (row : ResolvedRow) where
  abbrev now : Tables
  now = tables_from t earlier

  abbrev command : ResolvedCommand
  command = resolved_of_row row

  -- where the entry that is told of it is its own
  module _ (accounts : List Account) (r : Result Entry Rule)
      (judges : entry_or_rule accounts stamp r ≡ row_resolved_at now stamp command) where
    pub row-judged : row_group stamp r ≡ group_or_rule (row_resolved_at now stamp command)
    row-judged = same r ∙ ap group_or_rule judges
      where
        same : (x : Result Entry Rule) → row_group stamp x ≡ group_or_rule (entry_or_rule accounts stamp x)
        same (Ok entry) = refl
        same (Err rule) = refl

    -- it is of a kind that a row adds, and may come next
    module _ (within : AreWithin (paper_count t.papers) t.ties) (entry : Entry) (is : r ≡ Ok entry) where
      abbrev drawn : Drawn
      drawn = drawn_by accounts (alone stamp entry)

      accepted : resolved_by_role now (resolved_by stamp command) ≡ Ok drawn
      accepted = accepted-judged now stamp command drawn (sym judges ∙ ap (entry_or_rule accounts stamp) is)

      row-kind : IsRowEntry entry
      row-kind = row-drawn now stamp row drawn entry accepted refl

      fits-now : FitInTurn now (grouped stamp (entry ∷ []))
      fits-now = resolved-fits now (within-from t earlier before.fits within) stamp command drawn accepted

      next-now : (more : Bool) → AreEarlier t (earlier ++ stamped stamp more entry ∷ [])
      next-now more =
          let s : Stamped = stamped stamp more entry in
          record {
            rows = rows-more earlier s before.rows row-kind;
            fits = fits-more t earlier s before.fits (fit-marked now (stamped stamp false entry) more fits-now.0);
          }

    pub row-fits : AreWithin (paper_count t.papers) t.ties
        → IfOk r (λ entry. FitInTurn now (grouped stamp (entry ∷ [])))
    row-fits within = by r refl
      where
        by : (x : Result Entry Rule) → r ≡ x → IfOk x (λ entry. FitInTurn now (grouped stamp (entry ∷ [])))
        by (Ok entry) is = fits-now within entry is
        by (Err rule) is = tt

    pub row-next : AreWithin (paper_count t.papers) t.ties
        → IfOk r (λ entry. (more : Bool) → AreEarlier t (earlier ++ stamped stamp more entry ∷ []))
    row-next within = by r refl
      where
        by : (x : Result Entry Rule) → r ≡ x → IfOk x
            (λ entry. (more : Bool) → AreEarlier t (earlier ++ stamped stamp more entry ∷ []))
        by (Ok entry) is = next-now within entry is
        by (Err rule) is = tt

-- ---- marks

-- an entry without its mark
abbrev pub unmarked : Stamped → Stamped
unmarked s = stamped s.stamp false s.entry

-- the tables behind entries don't hang on marks
tables-unmarked : (t : Tables) (H : History) → tables_from t (map unmarked H) ≡ tables_from t H
tables-unmarked t [] = refl
tables-unmarked t (s ∷ H) = tables-unmarked (tables_after t s) H

pub tables-remarked : (t : Tables) (H K : History) → map unmarked H ≡ map unmarked K → tables_from t H ≡ tables_from t K
tables-remarked t H K same = sym (tables-unmarked t H) ∙ ap (tables_from t) same ∙ tables-unmarked t K

-- and neither does whether they may be a bulk's
fits-unmarked : (t : Tables) (H : History) → FitInTurn t H → FitInTurn t (map unmarked H)
fits-unmarked t [] fits = tt
fits-unmarked t (s ∷ H) fits = (fit-marked t s false fits.0, fits-unmarked (tables_after t s) H fits.1)

fits-marked : (t : Tables) (H : History) → FitInTurn t (map unmarked H) → FitInTurn t H
fits-marked t [] fits = tt
fits-marked t (s ∷ H) fits = (fit-marked t (unmarked s) s.more fits.0, fits-marked (tables_after t s) H fits.1)

rows-unmarked : (H : History) → AreRowEntries H → AreRowEntries (map unmarked H)
rows-unmarked [] are = tt
rows-unmarked (s ∷ H) are = (are.0, rows-unmarked H are.1)

rows-marked : (H : History) → AreRowEntries (map unmarked H) → AreRowEntries H
rows-marked [] are = tt
rows-marked (s ∷ H) are = (are.0, rows-marked H are.1)

pub earlier-remarked : (t : Tables) (H K : History) → map unmarked H ≡ map unmarked K → AreEarlier t H → AreEarlier t K
earlier-remarked t H K same before = record {
  rows = rows-marked K (subst AreRowEntries same (rows-unmarked H before.rows));
  fits = fits-marked t K (subst (FitInTurn t) same (fits-unmarked t H before.fits));
}
