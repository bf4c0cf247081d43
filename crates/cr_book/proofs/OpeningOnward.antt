-- SPDX-License-Identifier: Apache-2.0 OR MIT
-- Where rows continue a legal history: what it goes on by.
use Rattle.std.proofs.Common.{◌≡◌, ◌⊎◌, inl, inr, List, [], ◌∷◌, ◌++◌, sym, ap, subst, ◌∙◌, append_assoc, append-nil}
use Rattle.std.specs.List.{AllByRecursion}
use Rattle.std.proofs.lemmas.List.{append_cancel_left}
use Rattle.cr_base.specs.declared.row.Row.{Row}
use Rattle.cr_base.specs.History.{History}
use Rattle.cr_base.specs.Rows.{rows_of, IsBoundedEntry}
use Rattle.cr_policy.specs.Legal.{Legal}
use Rattle.cr_book.specs.Opening.{Continue}
use Rattle.cr_beginnings.proofs.GroupLegal.{MayMove, Next, legal-next, next-extends}
use Rattle.cr_beginnings.proofs.GroupRows.{legal-bounded, last-bounded, rows-split}

some_rows : (pending : List Row) (row : Row) (after : List Row) → [] ≡ (pending ++ row ∷ []) ++ after → ⊥
some_rows [] row after e = cc (e)
some_rows (p ∷ ps) row after e = cc (e)

-- a move adds a group, and others entries behind it, whose rows begin with these
pub record Onward (log : History) (rows : List Row) : Type 0 where
  pub group : History
  pub move : MayMove log group
  pub further : History
  pub bounded : AllByRecursion IsBoundedEntry (group ++ further)
  pub after : List Row
  pub spelled : rows_of (group ++ further) ≡ rows ++ after

-- rows behind a legal history's that continue a legal history are such
pub onward : (log : History) (pending : List Row) (row : Row) → Legal log
    → Continue (rows_of log ++ (pending ++ row ∷ [])) → Onward log (pending ++ row ∷ [])
onward log pending row legal goes = or (legal-next log goes.history split.0 legal goes.legal split.1)
  where
    rows : List Row
    rows = pending ++ row ∷ []

    split : (tail : History) × (goes.history ≡ log ++ tail) × (rows_of tail ≡ rows ++ goes.after)
    split = rows-split log goes.history (rows ++ goes.after) (legal-bounded log legal)
        (legal-bounded goes.history goes.legal) (goes.rows_are ∙ append_assoc (rows_of log) rows goes.after)

    nothing : log ≡ goes.history → split.0 ≡ []
    nothing same = append_cancel_left log split.0 [] (sym split.1 ∙ sym same ∙ sym (append-nil log))

    or : (log ≡ goes.history) ⊎ Next log goes.history → Onward log rows
    or (inl same) = absurd (some_rows pending row goes.after (ap rows_of (sym (nothing same)) ∙ split.2))
    or (inr next) =
        let further = next-extends log goes.history next in
        let tail : split.0 ≡ next.group ++ further.0 = append_cancel_left log split.0 (next.group ++ further.0)
        (sym split.1 ∙ further.1 ∙ append_assoc log next.group further.0) in
        record {
          group = next.group;
          move = next.add;
          further = further.0;
          bounded = last-bounded log (next.group ++ further.0)
              (subst (λ (h : History). AllByRecursion IsBoundedEntry h)
              (further.1 ∙ append_assoc log next.group further.0) (legal-bounded goes.history goes.legal));
          after = goes.after;
          spelled = ap rows_of (sym tail) ∙ split.2;
        }
