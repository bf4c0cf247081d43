-- SPDX-License-Identifier: Apache-2.0 OR MIT
use Rattle.std.proofs.Common.{◌≡◌, ◌++◌, ◌∷◌, ◌∙◌, List, [], IfSome, Option, Some, ap, subst, sym}
use Rattle.std.proofs.lemmas.Result.{IfOk-weaker}
use Rattle.cr_base.specs.declared.row.Row.{Row}
use Rattle.cr_base.specs.declared.entry.Stamped.{Stamped}
use Rattle.std.specs.List.{AllByRecursion}
use Rattle.cr_base.specs.History.{History}
use Rattle.cr_base.specs.Rows.{row_of, rows_of, IsBoundedEntry}
use Rattle.cr_beginnings.specs.Beginnings.{AreDue, HasMore, InTurn}
use Rattle.cr_book.specs.Reading.{IsReading, IsRowRefused, IsWholeGroup}
use Rattle.cr_book.specs.Seen.{SeenReading}
use Rattle.cr_book.specs.declared.reading.ReadError.TheVariants as errors
use Rattle.cr_book.proofs.DueLaws.{taken-none, taken-some}
use Rattle.cr_book.proofs.OpeningLaws.{goes-on, goes-whole, memory-refused, refused-entry, refused-none}
use Rattle.cr_book.proofs.reading.Reading.read.Goals as goal

-- what was read before
before : (inside self : SeenReading) → inside ≡ self
    → rows_of inside.log ++ rows_of inside.begun ≡ rows_of self.log ++ rows_of self.begun
before inside self same = ap (λ (r : SeenReading). rows_of r.log ++ rows_of r.begun) same

pub returns-in_default-found-clause-refused : goal.returns-in_default-found-clause-refused
returns-in_default-found-clause-refused c =
    subst (λ (rows : List Row). IsRowRefused rows c.args.row (errors.Bad c.args.row))
    (before _ c.args.self c.self.view_is)
    (refused-none c.self.inside.whole.log.entries c.self.inside.whole.live.tables c.self.inside.begun.items
    c.self.inside.last c.self.invariant c.args.row
    (λ s bounded is. c.in_default-found.not-Some s (c.in-Ok.ensures.every s bounded is)))

-- the entry that the row spells
spelled : (found : Option Stamped) (next : Stamped) (row : Row) → found ≡ Some next
    → IfSome found (λ (s : Stamped). IsBoundedEntry s × (row_of s ≡ row))
    → IsBoundedEntry next × (row_of next ≡ row)
spelled found next row is all =
    subst (λ (o : Option Stamped). IfSome o (λ (s : Stamped). IsBoundedEntry s × (row_of s ≡ row))) is all

pub due-requires-clause-begun : goal.due-requires-clause-begun
due-requires-clause-begun c =
    subst (λ (b : History). AreDue c.self.inside.whole.log.entries [] b) (sym c.deref.ensures.value)
    c.self.invariant.due

pub due-requires-clause-more : goal.due-requires-clause-more
due-requires-clause-more c =
    subst (λ (b : History). AllByRecursion HasMore b) (sym c.deref.ensures.value) c.self.invariant.unfinished

pub returns-in_default-due-clause-refused : goal.returns-in_default-due-clause-refused
returns-in_default-due-clause-refused c =
    let entry = spelled _ c.in-Some.next c.args.row c.in-Some.is c.in-Ok.ensures.spells in
    subst (λ (rows : List Row). IsRowRefused rows c.args.row (errors.Bad c.args.row))
    (before _ c.args.self c.self.view_is)
    (refused-entry c.self.inside.whole.log.entries c.self.inside.whole.live.tables c.self.inside.begun.items
    c.self.inside.last c.self.invariant c.args.row c.in-Some.next entry.0 entry.1
    (λ turn. taken-none c.in-Some.next c.due.result c.due.ensures c.in_default-due.is
    (subst (λ (b : History). InTurn c.self.inside.whole.log.entries b c.in-Some.next) (sym c.deref.ensures.value)
    turn)))

pub with_next-requires-clause-row : goal.with_next-requires-clause-row
with_next-requires-clause-row c =
    let entry = spelled _ c.in-Some.next c.args.row c.in-Some.is c.in-Ok.ensures.spells in
    let t = taken-some c.in-Some.next c.in-Some-due.next c.due.result c.due.ensures c.in-Some-due.is in
    ap row_of t.0 ∙ entry.1

pub with_next-requires-clause-more : goal.with_next-requires-clause-more
with_next-requires-clause-more c = λ more.
    let entry = spelled _ c.in-Some.next c.args.row c.in-Some.is c.in-Ok.ensures.spells in
    let t = taken-some c.in-Some.next c.in-Some-due.next c.due.result c.due.ensures c.in-Some-due.is in
    let log = c.self.inside.whole.log.entries in
    let begun = c.self.inside.begun.items in
    subst (λ (s : Stamped). IsReading log c.self.inside.whole.live.tables (begun ++ s ∷ []) (Some c.args.row))
    (sym t.0)
    (goes-on log c.self.inside.whole.live.tables begun c.self.inside.last c.self.invariant c.args.row c.in-Some.next
    entry.0 entry.1 (subst (λ (b : History). InTurn log b c.in-Some.next) c.deref.ensures.value t.1)
    (sym (ap (λ (s : Stamped). s.more) t.0) ∙ more))

pub with_next-requires-clause-group : goal.with_next-requires-clause-group
with_next-requires-clause-group c = λ no_more.
    let entry = spelled _ c.in-Some.next c.args.row c.in-Some.is c.in-Ok.ensures.spells in
    let t = taken-some c.in-Some.next c.in-Some-due.next c.due.result c.due.ensures c.in-Some-due.is in
    let log = c.self.inside.whole.log.entries in
    let begun = c.self.inside.begun.items in
    subst (λ (s : Stamped). IsWholeGroup log c.self.inside.whole.live.tables (begun ++ s ∷ [])) (sym t.0)
    (goes-whole log c.self.inside.whole.live.tables begun c.self.inside.last c.self.invariant c.args.row
    c.in-Some.next entry.0 entry.1 (subst (λ (b : History). InTurn log b c.in-Some.next) c.deref.ensures.value t.1)
    (sym (ap (λ (s : Stamped). s.more) t.0) ∙ no_more))

pub returns-clause-ok : goal.returns-clause-ok
returns-clause-ok c =
    IfOk-weaker c.with_next.result _ _
    (λ after is. is ∙ ap (λ (xs : List Row). xs ++ c.args.row ∷ []) (before _ c.args.self c.self.view_is))
    c.with_next.ensures.ok

pub returns-clause-refused : goal.returns-clause-refused
returns-clause-refused c =
    memory-refused (rows_of c.args.self.log ++ rows_of c.args.self.begun) c.args.row c.with_next.result
    c.with_next.ensures.memory
