-- SPDX-License-Identifier: Apache-2.0 OR MIT
-- Each entry of a legal history is in order on the history before it, and no command's entries are cut off.
use Rattle.std.proofs.Common.{ℕ, Bool, true, false, ◌≡◌, List, [], ◌∷◌, ◌++◌, length, refl, sym, subst, ◌∙◌, arith}
use Rattle.std.proofs.Common.{append_assoc, append-nil}
use Rattle.std.proofs.lemmas.Bool.{false≢true}
use Rattle.cr_base.specs.declared.entry.Entry.{Entry}
use Rattle.cr_base.specs.declared.entry.Entry.TheVariants.{Registered, Named, Submitted, Coauthor, Conflict, Assigned}
use Rattle.cr_base.specs.declared.entry.Entry.TheVariants.{Unassigned, Tagged}
use Rattle.cr_base.specs.declared.entry.Stamp.{Stamp}
use Rattle.cr_base.specs.declared.entry.Stamped.{Stamped}
use Rattle.cr_base.specs.declared.words.Role.TheVariants.{Chair}
use Rattle.cr_base.specs.HistoryFacts.{accounts_of}
use Rattle.cr_base.specs.History.{History}
use Rattle.cr_base.specs.Drawn.{stamped, grouped, submission}
use Rattle.cr_base.specs.Tables.{no_tables, tables_of, Fits, FitInTurn}
use Rattle.cr_base.specs.Bulk.{IsRowEntry}
use Rattle.cr_history.specs.Invariants.{IsMadeByUser, IsMarked, ComesFirst, IsInOrder, InTurn, IsWhole}
use Rattle.cr_history.proofs.GroupLaws.{accounts-counted, fits-number, fits-name, fits-about}
use Rattle.cr_history.specs.Groups.{IsRuled, StandsAlone, Adds, single, submitted, first_user, Grows, adds, goes_on}
use Rattle.cr_history.proofs.ConflictAgreement.{TellFirst}
use Rattle.cr_history.proofs.Grouped.{grouped-whole}
use Rattle.cr_history.proofs.SubmissionLaws.{IsSubmitting, submission-in_turn}

-- ---- the first registration

-- every entry has a registration before it, or is one; so where there is none, there is nothing
no_entry : (e : Entry) (stamp : Stamp) (more : Bool) (after : History) → IsInOrder [] (stamped stamp more e)
    → length (accounts_of (stamped stamp more e ∷ after)) ≡ 0 → ⊥
no_entry (Registered user name digest) stamp more after h none = omega (arith, none)
no_entry e stamp more after h none = false≢true h.maker

nothing_before : (H : History) → InTurn IsInOrder [] H → length (accounts_of H) ≡ 0 → H ≡ []
nothing_before [] h none = refl
nothing_before (e ∷ after) h none = absurd (no_entry e.entry e.stamp e.more after h.0 none)

-- it stands at the beginning
abbrev first_group : Stamp → List ℕ → List ℕ → History
first_group stamp name digest = grouped stamp (Registered stamp.maker name digest ∷ Named stamp.maker Chair ∷ [])

first-in_order : (stamp : Stamp) (name digest : List ℕ)
    → InTurn IsInOrder [] (first_group (record stamp { maker = 1 }) name digest)
first-in_order stamp name digest = (
  record {
    maker = refl;
    mark = refl;
    number = refl;
    name = refl;
    about = tt;
    phase = tt;
    chair = tt;
    role = tt;
    member = tt;
    right = tt;
    seat = tt;
    first = tt;
  },
  (
    record {
      maker = refl;
      mark = refl;
      number = tt;
      name = tt;
      about = refl;
      phase = refl;
      chair = refl;
      role = omega arith;
      member = tt;
      right = tt;
      seat = tt;
      first = tt;
    },
    tt,
  ),
)

-- ---- a group

-- an entry that may be all that a command adds has no mark, and is no co-author
alone-marked : (e : Entry) → StandsAlone e → IsMarked false e
alone-marked (Registered user name digest) alone = sym alone
alone-marked (Submitted paper title abstract) alone = tt
alone-marked (Coauthor paper user) alone = tt
alone-marked (Conflict paper user on) alone = tt
alone-marked (Assigned paper user kind ordinal) alone = tt
alone-marked (Unassigned paper user ordinal) alone = tt
alone-marked (Tagged paper tag on) alone = tt
alone-marked e alone = refl

alone-first : (H : History) (e : Entry) → StandsAlone e → ComesFirst H e
alone-first H (Coauthor paper user) alone = absurd alone
alone-first H e alone = tt

-- an entry behind which another of its bulk stands is no co-author either
going-marked : (e : Entry) → IsRowEntry e → IsMarked true e
going-marked (Conflict paper user on) goes = tt
going-marked (Assigned paper user kind ordinal) goes = tt
going-marked (Unassigned paper user ordinal) goes = tt
going-marked (Tagged paper tag on) goes = tt
going-marked e goes = absurd goes

going-first : (H : History) (e : Entry) → IsRowEntry e → ComesFirst H e
going-first H (Coauthor paper user) goes = absurd goes
going-first H e goes = tt

-- a co-author behind her paper
coauthor-in_order : (stamp : Stamp) (paper : ℕ) (H : History) (more : Bool) (user : ℕ)
    → IsSubmitting stamp.maker paper H
    → Fits (tables_of H) (stamped stamp more (Coauthor paper user))
    → IsInOrder H (stamped stamp more (Coauthor paper user))
coauthor-in_order stamp paper H more user before fit = record {
  maker = before.registered;
  mark = tt;
  number = tt;
  name = tt;
  about = fits-about H before.fits stamp more (Coauthor paper user) fit;
  phase = before.phase;
  chair = tt;
  role = tt;
  member = tt;
  right = before.author;
  seat = tt;
  first = before.first;
}

-- an entry that the rules allow and that fits
ruled-in_order : (H : History) → FitInTurn no_tables H → (stamp : Stamp) (more : Bool) (e : Entry)
    → IsMadeByUser H stamp.maker e → IsRuled H stamp.maker e
    → Fits (tables_of H) (stamped stamp more e) → IsMarked more e → ComesFirst H e → IsInOrder H (stamped stamp more e)
ruled-in_order H fits stamp more e made ruled fit marked first = record {
  maker = made;
  mark = marked;
  number = fits-number H fits stamp more e fit;
  name = fits-name H fits stamp more e fit;
  about = fits-about H fits stamp more e fit;
  phase = ruled.phase;
  chair = ruled.chair;
  role = ruled.role;
  member = ruled.member;
  right = ruled.right;
  seat = ruled.seat;
  first = first;
}

-- what is added to a history in order is in order
added-in_order : (H g : History) → FitInTurn no_tables H → InTurn IsInOrder [] H → Adds H g → FitInTurn (tables_of H) g
    → InTurn IsInOrder H g
added-in_order H g fits kept (single stamp e bounds made alone ruled) fit =
    (ruled-in_order H fits stamp false e made ruled fit.0 (alone-marked e alone) (alone-first H e alone), tt)
added-in_order H g fits kept (submitted stamp paper title abstract users bounds made ruled registered) fit =
    submission-in_turn stamp paper IsInOrder (coauthor-in_order stamp paper) H title abstract users fits made
    ruled.phase
    (λ more fit. record {
      maker = made;
      mark = tt;
      number = fits-number H fits stamp more (Submitted paper title abstract) fit;
      name = tt;
      about = tt;
      phase = ruled.phase;
      chair = tt;
      role = tt;
      member = tt;
      right = tt;
      seat = tt;
      first = tt;
    }) fit
added-in_order H g fits kept (first_user stamp name digest bounds is texts) fit =
    let next = fit.0.accounts.0 in
    let count = accounts-counted H fits in
    let none : H ≡ [] = nothing_before H kept (omega (arith, next, count, is)) in
    subst (λ (G : History). InTurn IsInOrder G (first_group stamp name digest)) (sym none)
    (subst (λ (n : ℕ). InTurn IsInOrder [] (first_group (record stamp { maker = n }) name digest)) (sym is)
    (first-in_order stamp name digest))

-- and so is what it grows by
grown-in_order : (H g : History) → FitInTurn no_tables H → InTurn IsInOrder [] H → Grows H g → FitInTurn (tables_of H) g
    → InTurn IsInOrder H g
grown-in_order H g fits kept (adds same added) fit = added-in_order H g fits kept added fit
grown-in_order H g fits kept (goes_on stamp e bounds made goes ruled) fit =
    (ruled-in_order H fits stamp true e made ruled fit.0 (going-marked e goes) (going-first H e goes), tt)

added-whole : (H g : History) → Adds H g → IsWhole g
added-whole H g (single stamp e bounds made alone ruled) = refl
added-whole H g (submitted stamp paper title abstract users bounds made ruled registered) =
    grouped-whole stamp (submission stamp.maker paper title abstract users)
added-whole H g (first_user stamp name digest bounds is texts) = ((λ more. refl), refl)

-- ---- one behind another

in_turn-map : (P Q : History → Stamped → Type 0) → ((before : History) (e : Stamped) → P before e → Q before e)
    → (before H : History) → InTurn P before H
    → InTurn Q before H
in_turn-map P Q f before [] all = tt
in_turn-map P Q f before (e ∷ H) all = (f before e all.0, in_turn-map P Q f (before ++ e ∷ []) H all.1)

-- in a history in order a paper's co-authors are told before any conflict with it
pub tell_first : (before H : History) → InTurn IsInOrder before H → InTurn TellFirst before H
tell_first before H kept = in_turn-map IsInOrder TellFirst (λ before e in_order. in_order.first) before H kept

pub in_turn-append : (P : History → Stamped → Type 0) (before H g : History) → InTurn P before H
    → InTurn P (before ++ H) g → InTurn P before (H ++ g)
in_turn-append P before [] g first then = subst (λ (G : History). InTurn P G g) (append-nil before) then
in_turn-append P before (e ∷ H) g first then = (
  first.0,
  in_turn-append P (before ++ e ∷ []) H g first.1
      (subst (λ (G : History). InTurn P G g) (sym (append_assoc before (e ∷ []) H)) then),
)

pub whole-append : (H g : History) → IsWhole H → IsWhole g → IsWhole (H ++ g)
whole-append [] g h then = then
whole-append (e ∷ []) [] h then = h
whole-append (e ∷ []) (next ∷ g) h then = ((λ more. absurd (false≢true (sym h ∙ more))), then)
whole-append (e ∷ next ∷ H) g h then = (h.0, whole-append (next ∷ H) g h.1 then)

-- ---- the step

-- what is so of a history is so with a group behind it that the rules allow and that fits
pub in_order-append : (H g : History) → FitInTurn no_tables H → Grows H g → FitInTurn (tables_of H) g
    → InTurn IsInOrder [] H → InTurn IsInOrder [] (H ++ g)
in_order-append H g fits grows fit kept = in_turn-append IsInOrder [] H g kept (grown-in_order H g fits kept grows fit)

pub whole-added : (H g : History) → IsWhole H → Adds H g → IsWhole (H ++ g)
whole-added H g kept added = whole-append H g kept (added-whole H g added)
