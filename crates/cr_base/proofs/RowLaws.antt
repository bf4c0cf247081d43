-- SPDX-License-Identifier: Apache-2.0 OR MIT
-- Rows and entries spell each other.
use Rattle.std.proofs.Common.{ℕ, Bool, true, false, cond, ◌≡◌, ◌≤◌, ◌<◌, ◌+◌, ◌==◌, ◌-◌, List, [], ◌∷◌, ◌++◌, length}
use Rattle.std.proofs.Common.{drop, replicate, refl, sym, ap, subst, ◌∙◌, arith, Option, Some, None}
use Rattle.std.proofs.lemmas.Bool.{eqb-true}
use Rattle.std.proofs.lemmas.Bool.Decides.{nat_tests}
use Rattle.std.proofs.lemmas.List.{drop-replicate}
use Rattle.std.proofs.lemmas.Option.{none-some, same_Some}
use Rattle.std.proofs.lemmas.Slice.{drop-append-drop}
use Rattle.cr_base.specs.Words.{phase_number, phase_numbered, mode_number, mode_numbered, role_number, role_numbered}
use Rattle.cr_base.specs.Words.{review_kind_number, review_kind_numbered, decision_number, decision_numbered}
use Rattle.std.specs.Option.{option_map}
use Rattle.std.specs.Prelude.{find}
use Rattle.cr_base.specs.Words.{phases, modes, named_roles, review_kinds, decisions}
use Rattle.cr_base.specs.Keys.{IsKeyOrNone, last_command_number}
use Rattle.cr_base.specs.Shapes.{stamp_in, key_in, FitsShape, HasText, InRange, IsWithin, IsWithinBut, IsAtMost, unused}
use Rattle.cr_base.specs.Rows.{kind_number, key_number, key_mark, number_or_zero, numbered_from_one, until_number}
use Rattle.cr_base.specs.Rows.{until_numbered, shape_of, kind_of, row_of, built, restored, stamped_by, IsBoundedEntry}
use Rattle.cr_base.specs.declared.entry.EntryKind.{EntryKind}
use Rattle.cr_base.specs.declared.entry.EntryKind.TheVariants as kind
use Rattle.cr_base.specs.declared.entry.Entry.{Entry}
use Rattle.cr_base.specs.declared.entry.Entry.TheVariants.{Named, PhaseSet, ModeSet, Conflict, Assigned, Commented}
use Rattle.cr_base.specs.declared.entry.Entry.TheVariants.{Tagged, Decided, DeadlineSet}
use Rattle.cr_base.specs.declared.entry.Stamp.{Stamp}
use Rattle.cr_base.specs.declared.entry.Stamped.{Stamped}
use Rattle.cr_base.specs.declared.words.Decision.{Decision}
use Rattle.cr_base.specs.declared.words.Decision.TheVariants.{Accept, Reject}
use Rattle.cr_base.specs.declared.words.Kind.{Kind}
use Rattle.cr_base.specs.declared.words.Kind.TheVariants.{Primary, Secondary, Pc}
use Rattle.cr_base.specs.declared.words.Phase.{Phase}
use Rattle.cr_base.specs.declared.words.Phase.TheVariants.{Setup, Submission, Bidding, Reviewing, Response, Discussion}
use Rattle.cr_base.specs.declared.words.Phase.TheVariants.{Notification, Closed}
use Rattle.cr_base.specs.declared.words.Mode.{Mode}
use Rattle.cr_base.specs.declared.words.Mode.TheVariants.{Overt, Blind, Anonymous}
use Rattle.cr_base.specs.declared.words.Role.{Role}
use Rattle.cr_base.specs.declared.words.Role.TheVariants.{Account, Member, Chair}
use Rattle.cr_base.specs.declared.retry.RetryKey.{RetryKey}
use Rattle.cr_base.specs.declared.row.Row.{Row}
use Rattle.cr_base.specs.declared.shape.Gap.{Gap}
use Rattle.cr_base.specs.declared.shape.Range.{Range}
use Rattle.cr_base.specs.declared.shape.Shape.{Shape}
use Rattle.cr_base.specs.declared.shape.TextKind.{TextKind}
use Rattle.cr_base.specs.declared.shape.TextKind.TheVariants.{Nothing}

-- ---- words and their numbers

-- the word that is found by a number has it
numbered-found : {W : Type 0} (number : W → ℕ) (n : ℕ) (words : List W) (x : W)
    → find (λ (w : W). n == number w) words ≡ Some x → number x ≡ n
numbered-found number n [] x found = absurd (none-some x found)
numbered-found {W = W} number n (w ∷ words) x found = by (n == number w) refl (numbered-found number n words x) found
  where
    by : (b : Bool) → (n == number w) ≡ b → (find (λ (v : W). n == number v) words ≡ Some x → number x ≡ n)
        → cond b (Some w) (find (λ (v : W). n == number v) words) ≡ Some x → number x ≡ n
    by true same behind found = sym (eqb-true n (number w) same ∙ ap number (same_Some w x found))
    by false other behind found = behind found

role_numbered-number : (x : Role) → 1 ≤ role_number x → role_numbered (role_number x) ≡ Some x
role_numbered-number Account h = absurd (omega arith)
role_numbered-number Member h = refl
role_numbered-number Chair h = refl

phase_numbered-number : (x : Phase) → phase_numbered (phase_number x) ≡ Some x
phase_numbered-number Setup = refl
phase_numbered-number Submission = refl
phase_numbered-number Bidding = refl
phase_numbered-number Reviewing = refl
phase_numbered-number Response = refl
phase_numbered-number Discussion = refl
phase_numbered-number Notification = refl
phase_numbered-number Closed = refl

mode_numbered-number : (x : Mode) → mode_numbered (mode_number x) ≡ Some x
mode_numbered-number Overt = refl
mode_numbered-number Blind = refl
mode_numbered-number Anonymous = refl

review_kind_numbered-number : (x : Kind) → review_kind_numbered (review_kind_number x) ≡ Some x
review_kind_numbered-number Primary = refl
review_kind_numbered-number Secondary = refl
review_kind_numbered-number Pc = refl

decision_numbered-number : (x : Decision) → decision_numbered (decision_number x) ≡ Some x
decision_numbered-number Accept = refl
decision_numbered-number Reject = refl

bit : (n : ℕ) → n ≤ 1 → cond (n == 1) 1 0 ≡ n
bit n h = grind (arith, nat_tests)

bit-back : (o : Bool) → (cond o 1 0 == 1) ≡ o
bit-back true = refl
bit-back false = refl

-- a number that may be none, from its field and back: where it is there, it isn't 0
number-numbered : (past n : ℕ) → number_or_zero past (numbered_from_one n) ≡ n
number-numbered past n = by (n == 0) refl
  where
    by : (b : Bool) → (n == 0) ≡ b → number_or_zero past (cond b None (Some n)) ≡ n
    by true is = sym (eqb-true n 0 is)
    by false is = ap (λ (c : Bool). cond c past n) is

numbered-number : (past : ℕ) (x : Option ℕ) → number_or_zero past x < past
    → numbered_from_one (number_or_zero past x) ≡ x
numbered-number past None h = refl
numbered-number past (Some n) h = by (n == 0) refl h
  where
    by : (b : Bool) → (n == 0) ≡ b → cond b past n < past → numbered_from_one (cond b past n) ≡ Some n
    by true is h = absurd (omega (arith, h))
    by false is h = ap (λ (c : Bool). cond c None (Some n)) is

-- a command's key that may be none, from its fields and back: a mark stands beside a number alone
key-number : (num : ℕ) (mark : List ℕ) → key_number (key_in num mark) ≡ num
key-number num mark = by (num == 0) refl
  where
    by : (b : Bool) → (num == 0) ≡ b → key_number (cond b None (Some (record { number = num; mark = mark }))) ≡ num
    by true is = sym (eqb-true num 0 is)
    by false is = ap (λ (c : Bool). cond c (last_command_number + 1) num) is

key-mark : (num : ℕ) (mark : List ℕ) → (num ≡ 0 → mark ≡ []) → key_mark (key_in num mark) ≡ mark
key-mark num mark unmarked = by (num == 0) refl
  where
    by : (b : Bool) → (num == 0) ≡ b → key_mark (cond b None (Some (record { number = num; mark = mark }))) ≡ mark
    by true is = sym (unmarked (eqb-true num 0 is))
    by false is = refl

number-key : (key : Option RetryKey) → IsKeyOrNone (key_in (key_number key) (key_mark key))
    → key_in (key_number key) (key_mark key) ≡ key
number-key None h = refl
number-key (Some key) h = by (key.number == 0) refl h
  where
    by : (b : Bool) → (key.number == 0) ≡ b → IsKeyOrNone
        (key_in (cond b (last_command_number + 1) key.number) key.mark)
        → key_in (cond b (last_command_number + 1) key.number) key.mark ≡ Some key
    by true is h = let high = h.high in absurd (omega (arith, high))
    by false is h = ap (λ (c : Bool). cond c None (Some key)) is

-- what is at most that is less than the next
below-next : (n most : ℕ) → n ≤ most → n < most + 1
below-next n most h = omega (arith, h)

unused-zero : (n : ℕ) → InRange unused n → 0 ≡ n
unused-zero n h = omega arith

-- ---- from a row to its entry and back

-- a row is the one with its fields
same_row : (r : Row) (k : EntryKind) (a b c d f : ℕ) (x y : List ℕ) → kind_number k ≡ r.kind → FitsShape (shape_of k) r
    → d ≡ r.n4 → f ≡ r.n5 → a ≡ r.n1 → b
    ≡ r.n2 → c ≡ r.n3 → x ≡ r.b1 → y ≡ r.b2
    → record {
      kind = kind_number k;
      maker = r.maker;
      more = cond (r.more == 1) 1 0;
      at = r.at;
      num = key_number (key_in r.num r.mark);
      mark = key_mark (key_in r.num r.mark);
      n1 = a;
      n2 = b;
      n3 = c;
      n4 = d;
      n5 = f;
      b1 = x;
      b2 = y;
    } ≡ r
same_row r k a b c d f x y hk fits h4 h5 h1 h2 h3 hx hy =
    let o = bit r.more fits.more in
    let number = key-number r.num r.mark in
    let mark = key-mark r.num r.mark fits.unmarked in
    let e : record {
      kind = kind_number k;
      maker = r.maker;
      more = cond (r.more == 1) 1 0;
      at = r.at;
      num = key_number (key_in r.num r.mark);
      mark = key_mark (key_in r.num r.mark);
      n1 = a;
      n2 = b;
      n3 = c;
      n4 = d;
      n5 = f;
      b1 = x;
      b2 = y;
    }
    ≡ record {
      kind = r.kind;
      maker = r.maker;
      more = r.more;
      at = r.at;
      num = r.num;
      mark = r.mark;
      n1 = r.n1;
      n2 = r.n2;
      n3 = r.n3;
      n4 = r.n4;
      n5 = r.n5;
      b1 = r.b1;
      b2 = r.b2;
    } = cc in
    e

-- what a field spells that holds a number as it is, a mark, or nothing
abbrev plain_to : Option ℕ → ℕ → ℕ
plain_to None n = n
plain_to (Some high) n = cond (high == 0) 0 (cond (high == 1) (cond (n == 1) 1 0) n)

abbrev plain : Range → ℕ → ℕ
plain range n = plain_to range.high n

-- a number of the range is between its ends
within : (gap : Option Gap) (range : Range) (n : ℕ) → IsWithinBut gap range n → IsWithin range n
within None range n h = h
within (Some gap) range n h = h.0

plain-is : (range : Range) (n : ℕ) → InRange range n → plain range n ≡ n
plain-is range n h = let ends = within range.gap range n h in by range.high ends.1
  where
    by : (high : Option ℕ) → IsAtMost high n → plain_to high n ≡ n
    by None h = refl
    by (Some high) h = below high h
      where
        below : (high : ℕ) → n ≤ high → cond (high == 0) 0 (cond (high == 1) (cond (n == 1) 1 0) n) ≡ n
        below high h = grind (arith, nat_tests)

abbrev plain_text : TextKind → List ℕ → List ℕ
plain_text Nothing bytes = []
plain_text _ bytes = bytes

plain_text-is : (text : TextKind) (bytes : List ℕ) → HasText text bytes → plain_text text bytes ≡ bytes
plain_text-is Nothing bytes h = sym h
plain_text-is text bytes h = refl

-- what holds of the entry that is made of a word that was found
of_word : {W : Type 0} (x : Option W) (make : W → Entry) (e : Entry) (P : Entry → Type 0)
    → ((w : W) → x ≡ Some w → P (make w)) → option_map make x ≡ Some e → P e
of_word None make e P holds is = absurd (none-some e is)
of_word (Some w) make e P holds is = subst P (same_Some (make w) e is) (holds w refl)

-- the entry that a row spells has that row: a line for each kind with a word in it
row_of-built : (k : EntryKind) (r : Row) (e : Entry) → kind_number k ≡ r.kind → FitsShape (shape_of k) r
    → built k r ≡ Some e → row_of (stamped_by r e) ≡ r
row_of-built kind.Named r e hk f =
    of_word (role_numbered r.n2) _ e (λ (x : Entry). row_of (stamped_by r x) ≡ r) (λ role found.
    same_row r kind.Named _ _ _ _ _ _ _ hk f (unused-zero _ f.n4) (unused-zero _ f.n5) refl
    (numbered-found role_number r.n2 named_roles role found) (unused-zero _ f.n3) (sym f.b1) (sym f.b2))
row_of-built kind.PhaseSet r e hk f =
    of_word (phase_numbered r.n1) _ e (λ (x : Entry). row_of (stamped_by r x) ≡ r) (λ phase found.
    same_row r kind.PhaseSet _ _ _ _ _ _ _ hk f (unused-zero _ f.n4) (unused-zero _ f.n5)
    (numbered-found phase_number r.n1 phases phase found) (unused-zero _ f.n2) (unused-zero _ f.n3) (sym f.b1)
    (sym f.b2))
row_of-built kind.ModeSet r e hk f =
    of_word (mode_numbered r.n1) _ e (λ (x : Entry). row_of (stamped_by r x) ≡ r) (λ mode found.
    same_row r kind.ModeSet _ _ _ _ _ _ _ hk f (unused-zero _ f.n4) (unused-zero _ f.n5)
    (numbered-found mode_number r.n1 modes mode found) (unused-zero _ f.n2) (unused-zero _ f.n3) (sym f.b1)
    (sym f.b2))
row_of-built kind.Assigned r e hk f =
    of_word (review_kind_numbered r.n3) _ e (λ (x : Entry). row_of (stamped_by r x) ≡ r) (λ review_kind found.
    same_row r kind.Assigned _ _ _ _ _ _ _ hk f refl (unused-zero _ f.n5) refl refl
    (numbered-found review_kind_number r.n3 review_kinds review_kind found) (sym f.b1) (sym f.b2))
row_of-built kind.Decided r e hk f =
    of_word (decision_numbered r.n2) _ e (λ (x : Entry). row_of (stamped_by r x) ≡ r) (λ decision found.
    same_row r kind.Decided _ _ _ _ _ _ _ hk f (unused-zero _ f.n4) (unused-zero _ f.n5) refl
    (numbered-found decision_number r.n2 decisions decision found) (unused-zero _ f.n3) (sym f.b1) (sym f.b2))
row_of-built kind.DeadlineSet r e hk f =
    of_word (phase_numbered r.n1) _ e (λ (x : Entry). row_of (stamped_by r x) ≡ r) (λ phase found.
    same_row r kind.DeadlineSet _ _ _ _ _ _ _ hk f (unused-zero _ f.n4) (unused-zero _ f.n5)
    (numbered-found phase_number r.n1 phases phase found) (number-numbered 253402207201 r.n2) (unused-zero _ f.n3)
    (sym f.b1) (sym f.b2))
row_of-built kind.Commented r e hk f = λ is. subst (λ (x : Entry). row_of (stamped_by r x) ≡ r) (same_Some _ e is)
    (same_row r kind.Commented _ _ _ _ _ _ _ hk f (unused-zero _ f.n4) (unused-zero _ f.n5) refl refl
    (number-numbered 27 r.n3) refl (sym f.b2))
row_of-built k r e hk f = λ is.
    let s : Shape = shape_of k in
    subst (λ (x : Entry). row_of (stamped_by r x) ≡ r) (same_Some _ e is)
    (same_row r k _ _ _ _ _ _ _ hk f (plain-is s.n4 r.n4 f.n4) (plain-is s.n5 r.n5 f.n5) (plain-is s.n1 r.n1 f.n1)
    (plain-is s.n2 r.n2 f.n2) (plain-is s.n3 r.n3 f.n3) (plain_text-is s.b1 r.b1 f.b1) (plain_text-is s.b2 r.b2 f.b2))

-- the entry of a stamped one that a row spells
spelled : (k : EntryKind) (r : Row) (s : Stamped) → restored k r ≡ Some s → (e : Entry) × (built k r ≡ Some e)
    × (s ≡ stamped_by r e)
spelled k r s is = by (built k r) refl is
  where
    by : (found : Option Entry) → built k r ≡ found → option_map (stamped_by r) found ≡ Some s
        → (e : Entry) × (built k r ≡ Some e) × (s ≡ stamped_by r e)
    by None same is = absurd (none-some s is)
    by (Some e) same is = (e, same, sym (same_Some (stamped_by r e) s is))

pub row_of-restored : (k : EntryKind) (r : Row) (s : Stamped) → kind_number k ≡ r.kind → FitsShape (shape_of k) r
    → restored k r ≡ Some s → row_of s ≡ r
row_of-restored k r s hk f is = let e = spelled k r s is in ap row_of e.2 ∙ row_of-built k r e.0 hk f e.1

built-row_of : (e : Entry) (m : Stamp) (o : Bool) → IsBoundedEntry (record { stamp = m; more = o; entry = e })
    → built (kind_of e) (row_of (record { stamp = m; more = o; entry = e })) ≡ Some e
built-row_of (Named user role) m o h = ap (option_map (λ (x : Role). Named user x)) (role_numbered-number role h.n2.0)
built-row_of (PhaseSet phase) m o h = ap (option_map (λ (x : Phase). PhaseSet x)) (phase_numbered-number phase)
built-row_of (ModeSet mode) m o h = ap (option_map (λ (x : Mode). ModeSet x)) (mode_numbered-number mode)
built-row_of (Conflict paper user on) m o h = ap (λ x. Some (Conflict paper user x)) (bit-back on)
built-row_of (Assigned paper user review_kind ordinal) m o h =
    ap (option_map (λ (x : Kind). Assigned paper user x ordinal)) (review_kind_numbered-number review_kind)
built-row_of (Commented paper n ordinal text) m o h =
    ap (λ x. Some (Commented paper n x text)) (numbered-number 27 ordinal (below-next _ 26 h.n3.1))
built-row_of (Tagged paper tag on) m o h = ap (λ x. Some (Tagged paper tag x)) (bit-back on)
built-row_of (Decided paper decision) m o h =
    ap (option_map (λ (x : Decision). Decided paper x)) (decision_numbered-number decision)
built-row_of (DeadlineSet phase until) m o h =
    ap (option_map (λ (x : Phase). DeadlineSet x (until_numbered (until_number until)))) (phase_numbered-number phase)
    ∙ ap (λ x. Some (DeadlineSet phase x)) (numbered-number 253402207201 until (below-next _ 253402207200 h.n2.1))
built-row_of e m o h = refl

restamp : (s : Stamped) (p : Bool) (key : Option RetryKey) → p ≡ s.more → key ≡ s.stamp.key
    → ◌≡◌ {A = Stamped} (record {
      stamp = record { maker = s.stamp.maker; at = s.stamp.at; key = key };
      more = p;
      entry = s.entry;
    }) s
restamp s p key hp hk =
    let e : ◌≡◌ {A = Stamped} (record {
      stamp = record { maker = s.stamp.maker; at = s.stamp.at; key = key };
      more = p;
      entry = s.entry;
    })
    (record {
      stamp = record { maker = s.stamp.maker; at = s.stamp.at; key = s.stamp.key };
      more = s.more;
      entry = s.entry;
    }) = cc in
    e

-- an entry within its bounds is what its row spells
pub restored-row_of : (s : Stamped) → IsBoundedEntry s → restored (kind_of s.entry) (row_of s) ≡ Some s
restored-row_of s h = ap (option_map (stamped_by (row_of s))) (built-row_of s.entry s.stamp s.more h)
    ∙ ap Some (restamp s _ _ (bit-back s.more) (number-key s.stamp.key h.stamp.key))

-- ---- the kind of a row

-- a number tells one kind: the search splits both
one_kind : (j k : EntryKind) → kind_number j ≡ kind_number k → j ≡ k
one_kind j k e = grind (arith, e)

kind_of-built : (k : EntryKind) (r : Row) (e : Entry) → built k r ≡ Some e → kind_of e ≡ k
kind_of-built kind.Named r e =
    of_word (role_numbered r.n2) _ e (λ (x : Entry). kind_of x ≡ kind.Named) (λ role found. refl)
kind_of-built kind.PhaseSet r e =
    of_word (phase_numbered r.n1) _ e (λ (x : Entry). kind_of x ≡ kind.PhaseSet) (λ phase found. refl)
kind_of-built kind.ModeSet r e =
    of_word (mode_numbered r.n1) _ e (λ (x : Entry). kind_of x ≡ kind.ModeSet) (λ mode found. refl)
kind_of-built kind.Assigned r e =
    of_word (review_kind_numbered r.n3) _ e (λ (x : Entry). kind_of x ≡ kind.Assigned) (λ review_kind found. refl)
kind_of-built kind.Decided r e =
    of_word (decision_numbered r.n2) _ e (λ (x : Entry). kind_of x ≡ kind.Decided) (λ decision found. refl)
kind_of-built kind.DeadlineSet r e =
    of_word (phase_numbered r.n1) _ e (λ (x : Entry). kind_of x ≡ kind.DeadlineSet) (λ phase found. refl)
kind_of-built k r e = λ is. ap kind_of (sym (same_Some _ e is))

-- the only kind of a row's number is its entry's
kind_of-row : (k : EntryKind) (r : Row) (s : Stamped) → ((j : EntryKind) → kind_number j ≡ r.kind → j ≡ k)
    → row_of s ≡ r → kind_of s.entry ≡ k
kind_of-row k r s only e = only (kind_of s.entry) (ap (λ (q : Row). q.kind) e)

-- ---- which rows are an entry's

-- what a row that fits its kind's shape spells is an entry within its bounds
pub bounded-restored : (k : EntryKind) (r : Row) (s : Stamped) → kind_number k ≡ r.kind → FitsShape (shape_of k) r
    → restored k r ≡ Some s → IsBoundedEntry s
bounded-restored k r s hk f is =
    let P : EntryKind → Row → Type 0 = λ j q. FitsShape (shape_of j) q in
    let e = spelled k r s is in
    let same : kind_of s.entry ≡ k = ap (λ (x : Stamped). kind_of x.entry) e.2 ∙ kind_of-built k r e.0 e.1 in
    subst (λ (q : Row). P (kind_of s.entry) q) (sym (row_of-restored k r s hk f is))
    (subst (λ (j : EntryKind). P j r) (sym same) f)

-- the row of an entry within its bounds fits its kind's shape
pub row_fits : (k : EntryKind) (r : Row) (s : Stamped) → ((j : EntryKind) → kind_number j ≡ r.kind → j ≡ k)
    → IsBoundedEntry s → row_of s ≡ r
    → FitsShape (shape_of k) r
row_fits k r s only h e = subst (λ (j : EntryKind). FitsShape (shape_of j) r) (kind_of-row k r s only e)
    (subst (λ (q : Row). FitsShape (shape_of (kind_of s.entry)) q) e h)

-- a row spells no other entry
pub only_one : (k : EntryKind) (r : Row) (s : Stamped) → ((j : EntryKind) → kind_number j ≡ r.kind → j ≡ k)
    → IsBoundedEntry s → row_of s ≡ r → restored k r ≡ Some s
only_one k r s only h e = subst (λ (j : EntryKind). restored j r
    ≡ Some s) (kind_of-row k r s only e) (subst (λ (q : Row). restored (kind_of s.entry) q ≡ Some s) e
    (restored-row_of s h))

-- entries within their bounds that have the same row are the same
pub same_entry : (s s' : Stamped) → IsBoundedEntry s → IsBoundedEntry s' → row_of s ≡ row_of s' → s ≡ s'
same_entry s s' b b' e =
    let only = λ (j : EntryKind). one_kind j (kind_of s'.entry) in
    same_Some s s' (sym (only_one (kind_of s'.entry) (row_of s') s only b e) ∙ only_one (kind_of s'.entry) (row_of s')
    s' only b' refl)

-- the entry that a row spells, from its parts
pub restored-parts : (k : EntryKind) (r : Row) (stamp : Stamp) (e : Entry) → stamp ≡ stamp_in r → Some e ≡ built k r
    → restored k r ≡ Some (record { stamp = stamp; more = r.more == 1; entry = e })
restored-parts k r stamp e hs he = ap (option_map (stamped_by r)) (sym he)
    ∙ ap (λ (s : Stamp). Some (record { stamp = s; more = r.more == 1; entry = e })) (sym hs)

-- where no entry is built, none is spelled
pub unspelled : (k : EntryKind) (r : Row) (s : Stamped) → None ≡ built k r → restored k r ≡ Some s → ⊥
unspelled k r s none is = none-some s (ap (option_map (stamped_by r)) none ∙ is)

-- ---- short texts

-- zeros stand behind what was copied in
pub zeros_behind : (xs : List ℕ) (n : ℕ) → length xs ≡ n → n ≤ 34
    → drop n (xs ++ drop n (replicate 34 0)) ≡ replicate (34 - n) 0
zeros_behind xs n e h = drop-append-drop n (replicate 34 0) xs n (omega arith) e ∙ drop-replicate n 34 0
