-- SPDX-License-Identifier: Apache-2.0 OR MIT
-- Whoever has registered has a name, by which she is found, and which a row can tell.
use Rattle.std.proofs.Common.{ℕ, Bool, true, false, cond, ◌≡◌, List, [], ◌∷◌, eqb, refl, sym, ap, ◌∙◌, ◌||◌}
use Rattle.std.proofs.Common.{Some, None}
use Rattle.std.specs.Prelude.{map, find}
use Rattle.std.specs.List.{list_any}
use Rattle.std.specs.Option.{option_map}
use Rattle.std.proofs.lemmas.Bool.{true≢false}
use Rattle.cr_base.specs.declared.reply.AccountLine.{AccountLine}
use Rattle.cr_base.specs.Accounts.{lines_of}
use Rattle.cr_base.specs.History.{History, Registration, all_told, registration_told}
use Rattle.cr_base.specs.HistoryFacts.{number_of, role_of}
use Rattle.cr_base.specs.Parse.{parse_name}
use Rattle.cr_base.specs.Tables.{tables_of}
use Rattle.cr_base.proofs.ListLaws.{name_in-lines_of}
use Rattle.cr_history.specs.Invariants.{IsRegistered}
use Rattle.cr_policy.specs.Legal.{Legal}
use Rattle.cr_policy.proofs.AccountNames.{name_at, found_by_name, row_names}
use Rattle.cr_policy.proofs.LegalLaws.{Legal-told, Legal-number_of}

-- a line that is there is found
found-line : (v : ℕ) (lines : List AccountLine) → list_any (λ (a : AccountLine). eqb a.user v) lines ≡ true
    → (a : AccountLine) × (find (λ (a : AccountLine). eqb a.user v) lines ≡ Some a)
found-line v [] is = absurd (true≢false (sym is))
found-line v (a ∷ lines) is = by (eqb a.user v) is (found-line v lines)
  where
    by : (b : Bool) → (b || list_any (λ (a : AccountLine). eqb a.user v) lines) ≡ true
        → (list_any (λ (a : AccountLine). eqb a.user v) lines ≡ true
        → (a : AccountLine) × (find (λ (a : AccountLine). eqb a.user v) lines ≡ Some a))
        → (x : AccountLine) × (cond b (Some a) (find (λ (a : AccountLine). eqb a.user v) lines) ≡ Some x)
    by true is rest = (a, refl)
    by false is rest = rest is

pub record HasName (H : History) (v : ℕ) : Type 0 where
  pub name : List ℕ
  pub found : number_of name H ≡ Some v
  pub spelled : parse_name name ≡ Some name

module _ (H : History) (legal : Legal H) where
  lined : (v : ℕ) (rs : List Registration)
      → list_any (λ (a : AccountLine). eqb a.user v)
      (map (λ (r : Registration). record { user = r.user; name = r.name; role = role_of (Some r.user) H }) rs)
      ≡ list_any (λ (r : Registration). eqb r.user v) rs
  lined v [] = refl
  lined v (r ∷ rs) = ap (λ b. eqb r.user v || b) (lined v rs)

  pub has-name : (v : ℕ) → IsRegistered H v → HasName H v
  has-name v registered =
      let line = found-line v (lines_of (tables_of H).accounts)
      (ap (list_any (λ (a : AccountLine). eqb a.user v)) (sym (Legal-told H legal).accounts)
      ∙ lined v (all_told registration_told H) ∙ registered) in
      let told : name_at (tables_of H).accounts v ≡ Some line.0.name =
      sym (name_in-lines_of (tables_of H).accounts v)
      ∙ ap (option_map (λ (a : AccountLine). a.name)) line.1 in
      record {
        name = line.0.name;
        found = Legal-number_of line.0.name H legal ∙ found_by_name H legal v line.0.name told;
        spelled = ap (λ b. cond b (Some line.0.name) None) (row_names H legal v line.0.name told);
      }
