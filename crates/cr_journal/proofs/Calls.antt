-- SPDX-License-Identifier: Apache-2.0 OR MIT
-- From what a call wrote and from what it left to the state of the gate.
use Rattle.std.proofs.Common.{◌≡◌, ◌⊎◌, ℕ, ◌+◌, ◌≤◌, ◌<◌, ◌^◌, List, [], ◌∷◌, ◌++◌, length, take, drop, refl, sym, ◌∙◌}
use Rattle.std.proofs.Common.{ap, subst, arith, append_assoc, length-append}
use Rattle.std.proofs.lemmas.List.{take_at, drop_at, append-nil}
use Rattle.cr_disks.specs.Disk.{Only, Holds}
use Rattle.cr_journal.specs.Gates.{SameTo, SameBut, IsShut, MayBeOpen}
use Rattle.cr_journal.specs.Grammar.{field, front, IsJournal}
use Rattle.cr_journal.proofs.Frames.{front-push, sized-push, closed_opens, doubt_opens}

module _ (file : List ℕ) (images : List ℕ → Type 0) (gate : ℕ) (kept : List (List ℕ)) where
  pub shut_opens : (c : List ℕ) → IsShut file images gate kept → SameTo (gate + 1) file c → IsJournal kept c
  shut_opens c s same = closed_opens kept file c gate s.value s.shut s.sized s.closed same

  pub may_opens : (p c : List ℕ) → MayBeOpen file images gate kept p → SameBut gate file c
      → IsJournal kept c ⊎ IsJournal (kept ++ p ∷ []) c
  may_opens p c m same = doubt_opens kept p m.rest file c gate m.sized_before m.sized m.long m.before m.behind same

  -- the first two calls failed
  pub shut_still : (new : List ℕ) (left : List ℕ → Type 0) → IsShut file images gate kept → SameTo (gate + 1) file new
      → ((c : List ℕ) → left c → SameTo (gate + 1) file c) → IsShut new left gate kept
  shut_still new left s same each = record {
    value = s.value;
    shut = s.shut;
    sized = s.sized;
    size = s.size;
    long = same.long;
    closed = same.front ∙ s.closed;
    synced = λ c now. record { front = (each c now).front ∙ sym same.front; long = (each c now).long };
  }

  -- the first two calls succeeded
  pub staged : (p block new : List ℕ) (left : List ℕ → Type 0) → IsShut file images gate kept → length p < 2 ^ 64
      → block ≡ field p ++ 0 ∷ [] → Holds file (gate + 1) block new → Only new left → MayBeOpen new left gate kept p
  staged p block new left s short block_is holds only =
      let r : List ℕ = drop (gate + 1 + length block) file in
      let behind : List ℕ = (field p ++ 0 ∷ []) ++ r in
      let whole : new ≡ (front kept ++ s.value ∷ []) ++ behind = holds ∙ (λ i. s.closed i ++ (block_is i ++ r)) in
      let size : length (front kept ++ s.value ∷ []) ≡ gate + 1 =
      omega (arith, s.size, length-append (front kept) (s.value ∷ [])) in
      let size_is : length (front kept) ≡ gate = sym s.size in
      record {
        sized = sized-push kept p s.sized short;
        sized_before = s.sized;
        size = s.size;
        long = omega (arith, size, ap length whole, length-append (front kept ++ s.value ∷ []) behind);
        before = ap (λ (l : List ℕ). take gate l) (whole ∙ append_assoc (front kept) (s.value ∷ []) behind)
            ∙ take_at (front kept) ((s.value ∷ []) ++ behind) gate size_is;
        rest = r;
        behind = ap (λ (l : List ℕ). drop (gate + 1) l) whole
            ∙ drop_at (front kept ++ s.value ∷ []) behind (gate + 1) size
            ∙ append_assoc (field p) (0 ∷ []) r;
        synced = λ c now. subst (λ (l : List ℕ). SameBut gate new l) (sym (only c now))
            (record { front = refl; back = refl; long = refl });
      }

  -- a write of the gate or its sync failed
  pub still_open : (p new : List ℕ) (left : List ℕ → Type 0) → MayBeOpen file images gate kept p → SameBut gate file new
      → ((c : List ℕ) → left c → SameBut gate file c) → MayBeOpen new left gate kept p
  still_open p new left m same each = record {
    sized = m.sized;
    sized_before = m.sized_before;
    size = m.size;
    long = omega (arith, m.long, same.long);
    before = same.front ∙ m.before;
    rest = m.rest;
    behind = same.back ∙ m.behind;
    synced = λ c now. record {
      front = (each c now).front ∙ sym same.front;
      back = (each c now).back ∙ sym same.back;
      long = (each c now).long ∙ sym same.long;
    };
  }

  gate_holds : (p new : List ℕ) (v : ℕ) → (m : MayBeOpen file images gate kept p) → Holds file gate (v ∷ []) new
      → new ≡ front kept ++ v ∷ (field p ++ 0 ∷ m.rest)
  gate_holds p new v m holds = holds ∙ (λ i. m.before i ++ v ∷ m.behind i)

  -- the two calls that close the gate again succeeded
  pub closed_again : (p new : List ℕ) (left : List ℕ → Type 0) → MayBeOpen file images gate kept p
      → Holds file gate (0 ∷ []) new → Only new left → IsShut new left gate kept
  closed_again p new left m holds only =
      let behind : List ℕ = field p ++ 0 ∷ m.rest in
      let whole : new ≡ (front kept ++ 0 ∷ []) ++ behind =
      gate_holds p new 0 m holds ∙ sym (append_assoc (front kept) (0 ∷ []) behind) in
      let size : length (front kept ++ 0 ∷ []) ≡ gate + 1 =
      omega (arith, m.size, length-append (front kept) (0 ∷ [])) in
      let long : gate + 1 ≤ length new =
      omega (arith, size, ap length whole, length-append (front kept ++ 0 ∷ []) behind) in
      record {
        value = 0;
        shut = omega arith;
        sized = m.sized_before;
        size = m.size;
        long = long;
        closed = ap (λ (l : List ℕ). take (gate + 1) l) whole ∙ take_at (front kept ++ 0 ∷ []) behind (gate + 1) size;
        synced = λ c now. subst (λ (l : List ℕ). SameTo (gate + 1) new l) (sym (only c now))
            (record { front = refl; long = long });
      }

  -- the last two calls succeeded
  pub opened_now : (p new : List ℕ) (n : ℕ) (left : List ℕ → Type 0) → MayBeOpen file images gate kept p
      → n ≡ gate + length (field p ++ 0 ∷ []) → Holds file gate (1 ∷ []) new → Only new left
      → IsShut new left n (kept ++ p ∷ [])
  opened_now p new n left m n_is holds only =
      let now : List (List ℕ) = kept ++ p ∷ [] in
      let whole : new ≡ (front now ++ 0 ∷ []) ++ m.rest =
      gate_holds p new 1 m holds ∙ sym (front-push kept p (0 ∷ m.rest))
      ∙ sym (append_assoc (front now) (0 ∷ []) m.rest) in
      let front_is : front now ≡ front kept ++ 1 ∷ (field p ++ []) =
      sym (append-nil (front now)) ∙ front-push kept p [] in
      let front_size : length (front now) ≡ n =
      omega (
        arith,
        n_is,
        m.size,
        ap length front_is,
        length-append (front kept) (1 ∷ (field p ++ [])),
        length-append (field p) [],
        length-append (field p) (0 ∷ []),
      ) in
      let size : length (front now ++ 0 ∷ []) ≡ n + 1 = omega (arith, front_size, length-append (front now) (0 ∷ [])) in
      let long : n + 1 ≤ length new =
      omega (arith, size, ap length whole, length-append (front now ++ 0 ∷ []) m.rest) in
      record {
        value = 0;
        shut = omega arith;
        sized = m.sized;
        size = sym front_size;
        long = long;
        closed = ap (λ (l : List ℕ). take (n + 1) l) whole ∙ take_at (front now ++ 0 ∷ []) m.rest (n + 1) size;
        synced = λ c now_left. subst (λ (l : List ℕ). SameTo (n + 1) new l) (sym (only c now_left))
            (record { front = refl; long = long });
      }
