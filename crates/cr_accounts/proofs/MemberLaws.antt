-- SPDX-License-Identifier: Apache-2.0 OR MIT
-- Counting the accounts that are members', one after another.
use Rattle.std.proofs.Common.{ℕ, Bool, true, false, cond, ◌≡◌, ◌≤◌, ◌<◌, ◌+◌, suc, List, ◌∷◌, length, drop, get_or}
use Rattle.std.proofs.Common.{refl, sym, ap, ◌∙◌, arith}
use Rattle.std.specs.Prelude.{filter}
use Rattle.std.proofs.Math.ListN.{drop_of_length-le}
use Rattle.std.proofs.lemmas.List.{drop_more}
use Rattle.cr_base.specs.declared.entry.Account.{Account}
use Rattle.cr_base.specs.declared.reply.AccountLine.{AccountLine}
use Rattle.cr_base.specs.Accounts.{lines_from}
use Rattle.cr_base.specs.Words.{is_member}
use Rattle.cr_accounts.specs.Members.{counted_by}

-- how many of these, from number n on, are members'
abbrev pub members_from : ℕ → List Account → ℕ
members_from n accounts = length (filter (λ (line : AccountLine). is_member line.role) (lines_from n accounts))

one-more : (n : ℕ) (a : Account) (accounts : List Account) (count : ℕ)
    → count + members_from n (a ∷ accounts) ≡ counted_by a.role count + members_from (n + 1) accounts
one-more n a accounts count = by (is_member a.role)
  where
    rest : List AccountLine
    rest = filter (λ (line : AccountLine). is_member line.role) (lines_from (n + 1) accounts)

    line : AccountLine
    line = record { user = n; name = a.name; role = a.role }

    moved : (c k : ℕ) → c + suc k ≡ c + 1 + k
    moved c k = omega arith

    by : (b : Bool) → count + length (cond b (line ∷ rest) rest) ≡ cond b (count + 1) count + length rest
    by true = moved count (length rest)
    by false = refl

pub count-step : (accounts : List Account) (i count next whole : ℕ) (a : Account) → i < length accounts
    → a ≡ get_or accounts i a → next ≡ counted_by a.role count
    → count + members_from (i + 1) (drop i accounts) ≡ whole
    → next + members_from (i + 1 + 1) (drop (i + 1) accounts) ≡ whole
count-step accounts i count next whole a low is counted h =
    ap (λ (k : ℕ). k + members_from (i + 1 + 1) (drop (i + 1) accounts)) counted
    ∙ sym (one-more (i + 1) a (drop (i + 1) accounts) count)
    ∙ ap (λ (xs : List Account). count + members_from (i + 1) xs)
    (sym (drop_more accounts i a low ∙ ap (λ (x : Account). x ∷ drop (i + 1) accounts) (sym is)))
    ∙ h

-- one more than index and count are
pub step-few : (count next i : ℕ) (a : Account) → next ≡ counted_by a.role count → count ≤ i → next ≤ i + 1
step-few count next i a counted few = by (is_member a.role) counted
  where
    by : (b : Bool) → next ≡ cond b (count + 1) count → next ≤ i + 1
    by true is = omega (arith, is, few)
    by false is = omega (arith, is, few)

pub count-all : (accounts : List Account) (i count whole : ℕ) → length accounts ≤ i
    → count + members_from (i + 1) (drop i accounts) ≡ whole → count ≡ whole
count-all accounts i count whole past h =
    let none : members_from (i + 1) (drop i accounts) ≡ 0 =
    ap (λ (xs : List Account). members_from (i + 1) xs) (drop_of_length-le accounts past) in
    omega (arith, none, h)
