-- SPDX-License-Identifier: Apache-2.0 OR MIT
-- A gate and what stands behind it.
use Rattle.std.proofs.Common.{◌≡◌, ◌≢◌, ◌⊎◌, inl, inr, ℕ, ◌+◌, ◌<◌, ◌^◌, List, [], ◌∷◌, ◌++◌, length, get_or, take}
use Rattle.std.proofs.Common.{drop, sym, ◌∙◌, ap, arith, append_assoc, take-append-drop}
use Rattle.std.proofs.lemmas.List.{drop_more, append-nil}
use Rattle.std.proofs.lemmas.Bool.{cases_eq}
use Rattle.cr_journal.specs.Gates.{SameTo, SameBut}
use Rattle.cr_journal.specs.Grammar.{magic, field, frames, front, AreSized, IsJournal}

pub frames-push : (ps : List (List ℕ)) (p rest : List ℕ)
    → frames (ps ++ p ∷ []) ++ rest ≡ frames ps ++ 1 ∷ (field p ++ rest)
frames-push [] p rest = ap (λ (l : List ℕ). l ++ rest) (append-nil (1 ∷ field p))
frames-push (q ∷ ps) p rest =
    append_assoc (1 ∷ field q) (frames (ps ++ p ∷ [])) rest
    ∙ ap (λ (l : List ℕ). (1 ∷ field q) ++ l) (frames-push ps p rest)
    ∙ sym (append_assoc (1 ∷ field q) (frames ps) (1 ∷ (field p ++ rest)))

pub front-push : (ps : List (List ℕ)) (p rest : List ℕ)
    → front (ps ++ p ∷ []) ++ rest ≡ front ps ++ 1 ∷ (field p ++ rest)
front-push ps p rest =
    append_assoc magic (frames (ps ++ p ∷ [])) rest
    ∙ ap (λ (l : List ℕ). magic ++ l) (frames-push ps p rest)
    ∙ sym (append_assoc magic (frames ps) (1 ∷ (field p ++ rest)))

pub sized-push : (ps : List (List ℕ)) (p : List ℕ) → AreSized ps → length p < 2 ^ 64 → AreSized (ps ++ p ∷ [])
sized-push [] p sized short = (short, tt)
sized-push (q ∷ ps) p sized short = (sized.0, sized-push ps p sized.1 short)

-- a closed gate, and any bytes behind it
pub closed_opens : (ps : List (List ℕ)) (file c : List ℕ) (gate v : ℕ) → v ≢ 1 → AreSized ps
    → take (gate + 1) file ≡ front ps ++ v ∷ [] → SameTo (gate + 1) file c → IsJournal ps c
closed_opens ps file c gate v shut sized closed same = record {
  gate = v;
  rest = drop (gate + 1) c;
  sized = sized;
  shut = shut;
  is = sym (take-append-drop (gate + 1) c)
      ∙ ap (λ (l : List ℕ). l ++ drop (gate + 1) c) (same.front ∙ closed)
      ∙ append_assoc (front ps) (v ∷ []) (drop (gate + 1) c);
}

-- any gate, and a whole payload and a closed gate behind it
pub any_gate : (ps : List (List ℕ)) (p rest c : List ℕ) (g : ℕ) → AreSized ps → AreSized (ps ++ p ∷ [])
    → c ≡ front ps ++ g ∷ (field p ++ 0 ∷ rest) → IsJournal ps c ⊎ IsJournal (ps ++ p ∷ []) c
any_gate ps p rest c g sized more is = elim (cases_eq g 1) [
  | inl is_open ↦ inr (record {
    gate = 0;
    rest = rest;
    sized = more;
    shut = omega arith;
    is = is ∙ ap (λ (n : ℕ). front ps ++ n ∷ (field p ++ 0 ∷ rest)) is_open ∙ sym (front-push ps p (0 ∷ rest));
  })
  | inr shut ↦ inl (record { gate = g; rest = field p ++ 0 ∷ rest; sized = sized; shut = shut; is = is })
]

pub parts : (ps : List (List ℕ)) (p rest file c : List ℕ) (gate : ℕ) → gate < length file → take gate file ≡ front ps
    → drop (gate + 1) file ≡ field p ++ 0 ∷ rest → SameBut gate file c
    → c ≡ front ps ++ get_or c gate 0 ∷ (field p ++ 0 ∷ rest)
parts ps p rest file c gate long before behind same =
    sym (take-append-drop gate c)
    ∙ ap (λ (l : List ℕ). l ++ drop gate c) (same.front ∙ before)
    ∙ ap (λ (l : List ℕ). front ps ++ l)
    (drop_more c gate 0 (omega (arith, long, same.long))
    ∙ ap (λ (l : List ℕ). get_or c gate 0 ∷ l) (same.back ∙ behind))

pub doubt_opens : (ps : List (List ℕ)) (p rest file c : List ℕ) (gate : ℕ) → AreSized ps → AreSized (ps ++ p ∷ [])
    → gate < length file → take gate file ≡ front ps → drop (gate + 1) file ≡ field p ++ 0 ∷ rest → SameBut gate file c
    → IsJournal ps c ⊎ IsJournal (ps ++ p ∷ []) c
doubt_opens ps p rest file c gate sized more long before behind same =
    any_gate ps p rest c (get_or c gate 0) sized more (parts ps p rest file c gate long before behind same)
