-- SPDX-License-Identifier: Apache-2.0 OR MIT
-- What is judged of an entry that is read: it is drawn where its command is accepted and draws an entry of the same
-- maker with the same numbers, and else it isn't.
use Rattle.std.proofs.Common.{ℕ, Bool, true, false, cond, ◌≡◌, List, [], ◌∷◌, refl, sym, ap, subst, ◌∙◌, Option}
use Rattle.std.proofs.Common.{Some, None, Result, Ok, Err, IfSome, arith, drop, eqb, length, ◌+◌, ◌&&◌, ◌||◌, ◌==◌}
use Rattle.std.specs.Prelude.{slice_get, IsSome, IsTrue, ◌↔◌}
use Rattle.std.specs.List.{list_any}
use Rattle.std.proofs.lemmas.Bool.{and_parts, eqb-true, true≢false}
use Rattle.std.proofs.lemmas.List.Folds.{list_any-append}
use Rattle.std.proofs.lemmas.Option.{same_Some, none-some}
use Rattle.cr_base.specs.declared.entry.Entry.{Entry}
use Rattle.cr_base.specs.declared.entry.Entry.TheVariants as entries
use Rattle.cr_base.specs.declared.entry.Stamp.{Stamp}
use Rattle.cr_base.specs.declared.entry.Stamped.{Stamped}
use Rattle.cr_base.specs.declared.reply.Rule.{Rule}
use Rattle.cr_base.specs.declared.reply.Rule.TheVariants as rules
use Rattle.cr_base.specs.declared.resolved.ResolvedCall.{ResolvedCall}
use Rattle.cr_base.specs.declared.resolved.ResolvedCommand.{ResolvedCommand}
use Rattle.cr_base.specs.declared.resolved.ResolvedCommand.TheVariants as resolved
use Rattle.cr_base.specs.declared.resolved.ResolvedRow.{ResolvedRow}
use Rattle.cr_base.specs.declared.resolved.ResolvedRow.TheVariants as rows
use Rattle.cr_base.specs.declared.words.Role.{Role}
use Rattle.cr_base.specs.declared.words.Role.TheVariants as roles
use Rattle.cr_base.specs.declared.words.Role.TheVariants.{Chair}
use Rattle.cr_base.specs.Accounts.{lines_of}
use Rattle.cr_base.specs.Bulk.{resolved_of_row, turns_own_conflict}
use Rattle.cr_base.specs.Deeds as deeds
use Rattle.cr_base.specs.Deeds.{Deed, deed_at}
use Rattle.cr_base.specs.Drawn.{Drawn, grouped, stamped}
use Rattle.cr_base.specs.History.{History, all_told}
use Rattle.cr_base.specs.Judging.{judge_resolved, resolved_by_role}
use Rattle.cr_base.specs.Logins.{IfWanted}
use Rattle.cr_base.specs.Resolving.{command_of, drawn_numbers, resolved_wants_login}
use Rattle.cr_base.specs.Sources.{facts_of_tables, is_late, shown_in_tables}
use Rattle.cr_base.specs.Tables.{Tables, tables_from, tables_of}
use Rattle.cr_base.specs.Words.{is_chair}
use Rattle.cr_base.proofs.CheckLaws.{NoneBroken, judged-Ok, judged-none}
use Rattle.cr_base.proofs.ResolvingLaws.{AddsIt, IsLone, adds-it, deed-tells, same-by-numbers}
use Rattle.cr_base.proofs.Small.{eqb-self}
use Rattle.cr_judge.specs.declared.effect.Effect.{Effect}
use Rattle.cr_judge.specs.Effects.{behind, drawn_by, first_of, stamp_in}
use Rattle.cr_judge.specs.Rows.{group_or_rule, row_group, row_resolved_at}
use Rattle.cr_beginnings.specs.Beginnings.{coauthor_told, giver_told, is_of_row, may_count, InTurn, IsBehind, IsCoauthor, IsDrawn}
use Rattle.cr_beginnings.specs.Beginnings.{IsNext, IsRowDrawn, MayBegin}
use Rattle.cr_book.specs.Reading.{row_told, IfRows, TakenIf}
use Rattle.cr_beginnings.proofs.BeginningLaws.{drawn-unbroken}
use Rattle.cr_beginnings.proofs.BeginningRows.{IsRowResolved, row-entry, row-one, row-other}

ok_err : {A B : Type 0} (x : A) (y : B) → ◌≡◌ {A = Result A B} (Ok x) (Err y) → ⊥
ok_err x y e = cc (e)

ok_is : {A B : Type 0} (x y : A) → ◌≡◌ {A = Result A B} (Ok x) (Ok y) → x ≡ y
ok_is x y e = cc (e)

-- ---- what is taken

-- nothing was taken, or this was
pub taken-none : {A : Type 0} (s : Stamped) (r : Option Stamped) → TakenIf A s r → r ≡ None → A → ⊥
taken-none {A} s None h is = h
taken-none {A} s (Some x) h is = absurd (none-some x (sym is))

pub taken-some : {A : Type 0} (s x : Stamped) (r : Option Stamped) → TakenIf A s r → r ≡ Some x → (x ≡ s) × A
taken-some {A} s x None h is = absurd (none-some x is)
taken-some {A} s x (Some y) h is = (sym (same_Some y x is) ∙ h.0, h.1)

-- where the one is so exactly where the other is
pub taken-as : {A B : Type 0} (s : Stamped) (r : Option Stamped) → (A → B) → (B → A) → TakenIf A s r → TakenIf B s r
taken-as {A} {B} s None to from h = λ b. h (from b)
taken-as {A} {B} s (Some x) to from h = (h.0, to h.1)

pub taken-when : {A : Type 0} (b : Bool) (s : Stamped) (r : Option Stamped) → IsTrue b ↔ A
    → r ≡ cond b (Some s) None → TakenIf A s r
taken-when {A} b s r is told = subst (λ (o : Option Stamped). TakenIf A s o) (sym told) (by b is)
  where
    by : (b : Bool) → IsTrue b ↔ A → TakenIf A s (cond b (Some s) None)
    by true is = (refl, is.0 refl)
    by false is = λ a. absurd (true≢false (sym (is.1 a)))

-- the first of some
pub head-first : (xs : History) (x : Stamped) → Some x ≡ slice_get xs 0 → xs ≡ x ∷ drop 1 xs
head-first [] x is = absurd (none-some x (sym is))
head-first (y ∷ ys) x is = ap (λ (z : Stamped). z ∷ ys) (sym (same_Some x y is))

pub head-none : (xs : History) → None ≡ slice_get xs 0 → xs ≡ []
head-none [] is = refl
head-none (y ∷ ys) is = absurd (none-some y is)

-- numbers that are an entry's
pub numbers-are : (e f : Entry) (number : ℕ) (ordinal : Option ℕ) → number ≡ (drawn_numbers f).number
    → ordinal ≡ (drawn_numbers f).ordinal
    → (drawn_numbers e ≡ record { number = number; ordinal = ordinal }) ↔ (drawn_numbers e ≡ drawn_numbers f)
numbers-are e f number ordinal n o = (
  λ h. h ∙ (λ i. record { number = n i; ordinal = o i }),
  λ h. h ∙ sym (λ i. record { number = n i; ordinal = o i }),
)

-- ---- a first entry may stand

-- what must be so isn't
pub may-not : (t : Tables) (H : History) (s : Stamped) (b : Bool) → (MayBegin t H s → b ≡ true) → b ≡ false
    → IsTrue false ↔ MayBegin t H s
may-not t H s b must is = (λ h. absurd (true≢false (sym h)), λ m. absurd (true≢false (sym (must m) ∙ is)))

-- the role behind the first registration
pub chair-named : (e : Entry) (named user : ℕ) (role : Role) → e ≡ entries.Named named role
    → IsTrue (eqb named user && is_chair role) ↔ (e ≡ entries.Named user Chair)
chair-named e named user role is = (
  λ h.
      let both = and_parts (eqb named user) (is_chair role) h in
      is ∙ (λ i. entries.Named (eqb-true named user both.0 i) (chair-is role both.1 i)),
  λ same.
      let told : entries.Named named role ≡ entries.Named user Chair = sym is ∙ same in
      let who : named ≡ user = cc (told) in
      let what : role ≡ Chair = cc (told) in
      (λ i. eqb (who i) user && is_chair (what i)) ∙ ap (λ (b : Bool). b && true) (eqb-self user),
)
  where
    chair-is : (role : Role) → is_chair role ≡ true → role ≡ Chair
    chair-is roles.Account h = absurd (true≢false (sym h))
    chair-is roles.Member h = absurd (true≢false (sym h))
    chair-is Chair h = refl

pub chair-none : (e : Entry) (user : ℕ) → ((named : ℕ) (role : Role) → e ≡ entries.Named named role → ⊥)
    → IsTrue false ↔ (e ≡ entries.Named user Chair)
chair-none e user not = (λ h. absurd (true≢false (sym h)), λ is. absurd (not user Chair is))

-- ---- a co-author

pub coauthor-none : (t : Tables) (maker paper : ℕ) (before : History) (e : Entry)
    → ((of user : ℕ) → e ≡ entries.Coauthor of user → ⊥) → IsTrue false ↔ IsCoauthor t maker paper before e
coauthor-none t maker paper before e not = (λ h. absurd (true≢false (sym h)), λ c. absurd (not paper c.user c.is))

-- what is told of users, entry by entry
pub told-any : (user : ℕ) (H : History)
    → list_any (λ (s : Stamped). list_any (λ v. v == user) (coauthor_told s.entry)) H
    ≡ list_any (λ v. v == user) (all_told coauthor_told H)
told-any user [] = refl
told-any user (s ∷ H) =
    ap (λ (b : Bool). list_any (λ v. v == user) (coauthor_told s.entry) || b) (told-any user H)
    ∙ sym (list_any-append (λ v. v == user) (coauthor_told s.entry) (all_told coauthor_told H))

-- ---- behind it

pub first-may : (H : History) (t : Tables) (s : Stamped) → t ≡ tables_of H → InTurn H [] s → MayBegin t H s
first-may H t s same turn = subst (λ (x : Tables). MayBegin x H s) (sym same)
    (record { giver = turn.0.giver; key = turn.0.key; new = turn.0.new; count = turn.1 })

pub taken-first : (H : History) (t : Tables) (s : Stamped) (r : Option Stamped) → t ≡ tables_of H → MayBegin t H s
    → TakenIf (IsDrawn t s.stamp s.entry) s r → TakenIf (InTurn H [] s) s r
taken-first H t s r same may h =
    taken-as s r
    (λ drawn. (
      record {
        giver = first.giver;
        key = first.key;
        new = first.new;
        drawn = subst (λ (x : Tables). IsDrawn x s.stamp s.entry) same drawn;
      },
      first.count,
    ))
    (λ turn. subst (λ (x : Tables). IsDrawn x s.stamp s.entry) (sym same) turn.0.drawn) h
  where
    first : MayBegin (tables_of H) H s
    first = subst (λ (x : Tables). MayBegin x H s) same may

-- ---- one behind it

pub taken-behind : (H : History) (t : Tables) (begun : History) (first s : Stamped) (r : Option Stamped)
    → t ≡ tables_of H → begun ≡ first ∷ drop 1 begun → TakenIf (IsNext t first (drop 1 begun) s) s r
    → TakenIf (InTurn H begun s) s r
taken-behind H t begun first s r same is h =
    subst (λ (b : History). TakenIf (InTurn H b s) s r) (sym is)
    (subst (λ (x : Tables). TakenIf (IsNext x first (drop 1 begun) s) s r) same h)

module _ (t : Tables) (first next : Stamped) (begun : History) (is : begun ≡ first ∷ drop 1 begun) where
  abbrev rest : History
  rest = drop 1 begun

  -- as many
  place : length begun + 1 ≡ length rest + 2
  place = let n = ap length is in omega (arith, n)

  pub next-follows : IsNext t first rest next
      → (next.stamp ≡ first.stamp) × (may_count t first (length begun + 1) next.more ≡ true)
  next-follows n = (n.0, ap (λ (k : ℕ). may_count t first k next.more) place ∙ n.2)

  module _ (follows : (next.stamp ≡ first.stamp) × (may_count t first (length begun + 1) next.more ≡ true))
      (r : Option Stamped) where
    taken-next : TakenIf (IsBehind t first.stamp first.entry rest next.entry) next r
        → TakenIf (IsNext t first rest next) next r
    taken-next h =
        taken-as next r
        (λ b. (follows.0, b, ap (λ (k : ℕ). may_count t first k next.more) (sym place) ∙ follows.1)) (λ n. n.1) h

    pub taken-chair : (user : ℕ) (name digest : List ℕ) → first.entry ≡ entries.Registered user name digest
        → TakenIf (next.entry ≡ entries.Named user Chair) next r → TakenIf (IsNext t first rest next) next r
    taken-chair user name digest entry h =
        taken-next
        (subst (λ (e : Entry). TakenIf (IsBehind t first.stamp e rest next.entry) next r) (sym entry) h)

    pub taken-coauthor : (paper : ℕ) (title abstract : List ℕ) → first.entry ≡ entries.Submitted paper title abstract
        → TakenIf (IsCoauthor t first.stamp.maker paper rest next.entry) next r
        → TakenIf (IsNext t first rest next) next r
    taken-coauthor paper title abstract entry h =
        taken-next
        (subst (λ (e : Entry). TakenIf (IsBehind t first.stamp e rest next.entry) next r) (sym entry) h)

    pub taken-row : IsLone first.entry
        → TakenIf (IsRowDrawn (tables_from t begun) next.stamp next.entry) next r
        → TakenIf (IsNext t first rest next) next r
    taken-row lone h = taken-next (by first.entry lone told)
      where
        now : Tables
        now = tables_from t (stamped first.stamp true first.entry ∷ rest)

        told : TakenIf (IsRowDrawn now first.stamp next.entry) next r
        told = subst (λ (z : Stamp). TakenIf (IsRowDrawn now z next.entry) next r) follows.0
            (subst (λ (b : History). TakenIf (IsRowDrawn (tables_from t b) next.stamp next.entry) next r) is h)

        by : (e : Entry) → IsLone e
            → TakenIf (IsRowDrawn (tables_from t (stamped first.stamp true e ∷ rest)) first.stamp next.entry) next r
            → TakenIf (IsBehind t first.stamp e rest next.entry) next r
        by (entries.Registered user name digest) lone h = absurd lone
        by (entries.Submitted paper title abstract) lone h = absurd lone
        by e lone h = h

pub lone-other : (e : Entry)
    → ((user : ℕ) (name digest : List ℕ) → e ≡ entries.Registered user name digest → ⊥)
    → ((paper : ℕ) (title abstract : List ℕ) → e ≡ entries.Submitted paper title abstract → ⊥) → IsLone e
lone-other (entries.Registered user name digest) first then = first user name digest refl
lone-other (entries.Submitted paper title abstract) first then = then paper title abstract refl
lone-other e first then = tt

pub rows-other : {A : Type 0} (e : Entry) → IsLone e → IfRows e A → A
rows-other {A} (entries.Registered user name digest) lone h = absurd lone
rows-other {A} (entries.Submitted paper title abstract) lone h = absurd lone
rows-other {A} e lone h = h

-- ---- the head of a group

abbrev stamp_at : Stamp → History → Stamp
stamp_at other [] = other
stamp_at other (s ∷ group) = s.stamp

abbrev entry_at : Entry → History → Entry
entry_at other [] = other
entry_at other (s ∷ group) = s.entry

same-head : (s z : Stamp) (e f : Entry) (es fs : List Entry) → grouped s (e ∷ es) ≡ grouped z (f ∷ fs)
    → (s ≡ z) × (e ≡ f)
same-head s z e f [] [] is = (ap (stamp_at s) is, ap (entry_at e) is)
same-head s z e f [] (y ∷ fs) is = (ap (stamp_at s) is, ap (entry_at e) is)
same-head s z e f (x ∷ es) [] is = (ap (stamp_at s) is, ap (entry_at e) is)
same-head s z e f (x ∷ es) (y ∷ fs) is = (ap (stamp_at s) is, ap (entry_at e) is)

-- ---- a first entry

-- no command, so none that draws it
pub untold : (t : Tables) (next : Stamped) → command_of next.entry ≡ None → IsDrawn t next.stamp next.entry → ⊥
untold t next none d = none-some d.command (sym none ∙ d.told)

module _ (t : Tables) (next : Stamped) (command : ResolvedCommand) (told : command_of next.entry ≡ Some command) where
  abbrev call : ResolvedCall
  call = record {
    caller = giver_told next.stamp.maker next.entry;
    at = next.stamp.at;
    key = next.stamp.key;
    command = command;
  }

  -- what is judged of a caller who gave it
  pub by-giver : (caller : Option ℕ) (r : Result Drawn Rule) → caller ≡ giver_told next.stamp.maker next.entry
      → r ≡ resolved_by_role t (record call { caller = caller }) → r ≡ resolved_by_role t call
  by-giver caller r is judges = judges ∙ ap (λ (u : Option ℕ). resolved_by_role t (record call { caller = u })) is

  abbrev made : Deed
  made = deed_at (facts_of_tables t (Some next.stamp.maker)) (shown_in_tables t) next.stamp command

  abbrev drawn : Drawn
  drawn = deeds.drawn_by (lines_of t.accounts) next.stamp made

  -- whoever calls, the deed is the maker's
  called-same : resolved_by_role t call
      ≡ judge_resolved (facts_of_tables t (Some next.stamp.maker)) (shown_in_tables t) next.stamp command
  called-same = by next.entry told
    where
      by : (e : Entry) → command_of e ≡ Some command
          → resolved_by_role t (record {
            caller = giver_told next.stamp.maker e;
            at = next.stamp.at;
            key = next.stamp.key;
            command = command;
          })
          ≡ judge_resolved (facts_of_tables t (Some next.stamp.maker)) (shown_in_tables t) next.stamp command
      by (entries.Registered user name digest) is =
          subst
          (λ (c : ResolvedCommand). resolved_by_role t (record {
            caller = None;
            at = next.stamp.at;
            key = next.stamp.key;
            command = c;
          })
          ≡ judge_resolved (facts_of_tables t (Some next.stamp.maker)) (shown_in_tables t) next.stamp c)
          (same_Some (resolved.Register name digest) command is) refl
      by e is = refl

  -- what draws it is this command, of which no rule is broken
  unbroken : IsDrawn t next.stamp next.entry
      → NoneBroken made.checks × (made.maker ≡ next.stamp.maker) × (made.first ≡ next.entry)
  unbroken d =
      subst
      (λ (c : ResolvedCommand).
      NoneBroken (deed_at (facts_of_tables t (Some next.stamp.maker)) (shown_in_tables t) next.stamp c).checks
      × ((deed_at (facts_of_tables t (Some next.stamp.maker)) (shown_in_tables t) next.stamp c).maker
      ≡ next.stamp.maker)
      × ((deed_at (facts_of_tables t (Some next.stamp.maker)) (shown_in_tables t) next.stamp c).first ≡ next.entry))
      (same_Some d.command command (sym d.told ∙ told))
      (drawn-unbroken t next.stamp next.entry d, d.maker, d.first)

  -- a broken rule draws nothing
  pub ruled : (rule : Rule) → ◌≡◌ {A = Result Drawn Rule} (Err rule) (resolved_by_role t call)
      → IsDrawn t next.stamp next.entry → ⊥
  ruled rule judges d =
      ok_err drawn rule (sym (judged-none made.checks drawn (unbroken d).0) ∙ sym (judges ∙ called-same))

  module _ (effect : Effect) (judges : ◌≡◌ {A = Result Drawn Rule} (Ok (drawn_by t.accounts effect))
      (resolved_by_role t call)) where
    k : NoneBroken made.checks × (drawn ≡ drawn_by t.accounts effect)
    k = judged-Ok made.checks drawn (drawn_by t.accounts effect) (sym called-same ∙ sym judges)

    heads : (record next.stamp { maker = made.maker } ≡ stamp_in effect) × (made.first ≡ first_of effect)
    heads = same-head (record next.stamp { maker = made.maker }) (stamp_in effect) made.first (first_of effect)
        made.behind (behind effect.rest) (ap (λ (x : Drawn). x.group) k.1)

    -- an entry of the same maker and numbers is the one that was read, and drawn
    pub taken : (given : Stamp) (entry : Entry) → given ≡ stamp_in effect → entry ≡ first_of effect
        → given.maker ≡ next.stamp.maker → drawn_numbers entry ≡ drawn_numbers next.entry
        → (record next { entry = entry } ≡ next) × IsDrawn t next.stamp next.entry
    taken given entry given_is entry_is maker numbers = (
      ap (λ (e : Entry). record next { entry = e }) same,
      record {
        command = command;
        told = told;
        accepted = judged-none made.checks tt k.0;
        maker = ap (λ (s : Stamp). s.maker) (heads.0 ∙ sym given_is) ∙ maker;
        first = here ∙ same;
      },
    )
      where
        here : made.first ≡ entry
        here = heads.1 ∙ sym entry_is

        same : entry ≡ next.entry
        same = same-by-numbers entry next.entry command
            (ap command_of (sym here)
            ∙ deed-tells (facts_of_tables t (Some next.stamp.maker)) (shown_in_tables t) next.stamp.maker
            (is_late (facts_of_tables t (Some next.stamp.maker)) next.stamp.at) next.entry command told) told numbers

    -- and of an entry that is drawn both are the same
    pub alike : (given : Stamp) (entry : Entry) → given ≡ stamp_in effect → entry ≡ first_of effect
        → IsDrawn t next.stamp next.entry
        → (given.maker ≡ next.stamp.maker) × (drawn_numbers entry ≡ drawn_numbers next.entry)
    alike given entry given_is entry_is d =
        let u = unbroken d in (
          ap (λ (s : Stamp). s.maker) (given_is ∙ sym heads.0) ∙ u.1,
          ap drawn_numbers (entry_is ∙ sym heads.1 ∙ u.2),
        )

-- whoever gave it is somebody, unless it is a registration
pub has-giver : (maker : ℕ) (e : Entry) (command : ResolvedCommand) (caller : Option ℕ)
    → command_of e ≡ Some command → caller ≡ giver_told maker e
    → IfWanted (resolved_wants_login command) (IsSome caller)
has-giver maker e command caller told is =
    subst (λ (u : Option ℕ). IfWanted (resolved_wants_login command) (IsSome u)) (sym is)
    (subst (λ (o : Option ResolvedCommand). IfSome o
    (λ (c : ResolvedCommand). IfWanted (resolved_wants_login c) (IsSome (giver_told maker e)))) told (by e))
  where
    by : (e : Entry) → IfSome (command_of e)
        (λ (c : ResolvedCommand). IfWanted (resolved_wants_login c) (IsSome (giver_told maker e)))
    by (entries.Registered user name digest) = tt
    by (entries.Coauthor paper user) = tt
    by e = refl

-- ---- a row's

pub row-ordinal : (e : Entry) (command : ResolvedCommand) → row_told e ≡ Some command
    → None ≡ (drawn_numbers e).ordinal
row-ordinal (entries.Conflict paper user on) command told = refl
row-ordinal (entries.Assigned paper user kind ordinal) command told = refl
row-ordinal (entries.Unassigned paper user ordinal) command told = refl
row-ordinal (entries.Tagged paper tag on) command told = refl
row-ordinal e command told = absurd (none-some command told)

row-told : (e : Entry) (command : ResolvedCommand) → row_told e ≡ Some command → command_of e ≡ Some command
row-told (entries.Conflict paper user on) command told = told
row-told (entries.Assigned paper user kind ordinal) command told = told
row-told (entries.Unassigned paper user ordinal) command told = told
row-told (entries.Tagged paper tag on) command told = told
row-told e command told = absurd (none-some command told)

row-none : (maker : ℕ) (e : Entry) → row_told e ≡ None → is_of_row maker e ≡ false
row-none maker (entries.Conflict paper user on) none = cc (none)
row-none maker (entries.Assigned paper user kind ordinal) none = cc (none)
row-none maker (entries.Unassigned paper user ordinal) none = cc (none)
row-none maker (entries.Tagged paper tag on) none = cc (none)
row-none maker e none = refl

-- no row draws another entry
pub row-untold : (t : Tables) (next : Stamped) → row_told next.entry ≡ None → IsRowDrawn t next.stamp next.entry → ⊥
row-untold t next none d = true≢false (sym d.0 ∙ row-none next.stamp.maker next.entry none)

row-kind : (row : ResolvedRow) → IsRowResolved (resolved_of_row row)
row-kind (rows.Conflict paper user on) = tt
row-kind (rows.Assign paper user kind) = tt
row-kind (rows.Unassign paper user) = tt
row-kind (rows.Tag paper tag on) = tt

module _ (t : Tables) (next : Stamped) (row : ResolvedRow)
    (told : row_told next.entry ≡ Some (resolved_of_row row)) where
  abbrev command : ResolvedCommand
  command = resolved_of_row row

  abbrev rowed : Deed
  rowed = deed_at (facts_of_tables t (Some next.stamp.maker)) (shown_in_tables t) next.stamp command

  abbrev row_drawn : Drawn
  row_drawn = deeds.drawn_by (lines_of t.accounts) next.stamp rowed

  is_told : command_of next.entry ≡ Some command
  is_told = row-told next.entry command told

  -- what is judged where the conflict isn't the maker's own
  judged-other : turns_own_conflict next.stamp.maker command ≡ false → NoneBroken rowed.checks
      → row_resolved_at t next.stamp command ≡ Ok row_drawn
  judged-other other none =
      ap (λ (own : Bool). cond own (Err rules.BulkSelf)
      (judge_resolved (facts_of_tables t (Some next.stamp.maker)) (shown_in_tables t) next.stamp command)) other
      ∙ judged-none rowed.checks row_drawn none

  pub row-ruled : (rule : Rule)
      → row_group next.stamp (Err rule) ≡ group_or_rule (row_resolved_at t next.stamp command)
      → IsRowDrawn t next.stamp next.entry → ⊥
  row-ruled rule judges d =
      let u = unbroken t next command is_told d.1 in
      ok_err row_drawn.group rule
      (sym (ap group_or_rule (judged-other (row-other next.stamp.maker next.entry command d.0 is_told) u.0))
      ∙ sym judges)

  module _ (entry : Entry)
      (judges : row_group next.stamp (Ok entry) ≡ group_or_rule (row_resolved_at t next.stamp command)) where
    -- it isn't the maker's own, and accepted
    record Accepted : Type 0 where
      other : turns_own_conflict next.stamp.maker command ≡ false
      none : NoneBroken rowed.checks
      group : row_drawn.group ≡ grouped next.stamp (entry ∷ [])

    accepted : Accepted
    accepted = by (turns_own_conflict next.stamp.maker command) refl judges
      where
        of : (r : Result Drawn Rule)
            → judge_resolved (facts_of_tables t (Some next.stamp.maker)) (shown_in_tables t) next.stamp command ≡ r
            → ◌≡◌ {A = Result History Rule} (Ok (grouped next.stamp (entry ∷ []))) (group_or_rule r)
            → turns_own_conflict next.stamp.maker command ≡ false → Accepted
        of (Err rule) is h other = absurd (ok_err (grouped next.stamp (entry ∷ [])) rule h)
        of (Ok d) is h other =
            let k = judged-Ok rowed.checks row_drawn d is in
            record {
              other = other;
              none = k.0;
              group = ap (λ (x : Drawn). x.group) k.1 ∙ sym (ok_is (grouped next.stamp (entry ∷ [])) d.group h);
            }

        by : (own : Bool) → turns_own_conflict next.stamp.maker command ≡ own
            → ◌≡◌ {A = Result History Rule} (Ok (grouped next.stamp (entry ∷ [])))
            (group_or_rule (cond own (Err rules.BulkSelf)
            (judge_resolved (facts_of_tables t (Some next.stamp.maker)) (shown_in_tables t) next.stamp command)))
            → Accepted
        by true is h = absurd (ok_err (grouped next.stamp (entry ∷ [])) rules.BulkSelf h)
        by false is h =
            of (judge_resolved (facts_of_tables t (Some next.stamp.maker)) (shown_in_tables t) next.stamp command) refl
            h is

    here : rowed.first ≡ entry
    here = (same-head (record next.stamp { maker = rowed.maker }) next.stamp rowed.first entry rowed.behind []
        accepted.group).1

    pub row-taken : drawn_numbers entry ≡ drawn_numbers next.entry
        → (record next { entry = entry } ≡ next) × IsRowDrawn t next.stamp next.entry
    row-taken numbers = (
      ap (λ (e : Entry). record next { entry = e }) same,
      (
        row-entry next.stamp.maker next.entry command is_told (row-kind row) accepted.other,
        record {
          command = command;
          told = is_told;
          accepted = judged-none rowed.checks tt accepted.none;
          maker = adds.maker_is;
          first = here ∙ same;
        },
      ),
    )
      where
        adds : AddsIt (facts_of_tables t (Some next.stamp.maker)) (shown_in_tables t) next.stamp.maker
            (is_late (facts_of_tables t (Some next.stamp.maker)) next.stamp.at) command
        adds = adds-it (facts_of_tables t (Some next.stamp.maker)) (shown_in_tables t) next.stamp.maker
            (is_late (facts_of_tables t (Some next.stamp.maker)) next.stamp.at) command
            (row-one command (row-kind row)) accepted.none

        same : entry ≡ next.entry
        same = same-by-numbers entry next.entry command (ap command_of (sym here) ∙ adds.tells) is_told numbers

    pub row-alike : IsRowDrawn t next.stamp next.entry → drawn_numbers entry ≡ drawn_numbers next.entry
    row-alike d = ap drawn_numbers (sym here ∙ (unbroken t next command is_told d.1).2)
