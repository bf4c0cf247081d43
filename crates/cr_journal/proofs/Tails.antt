-- SPDX-License-Identifier: Apache-2.0 OR MIT
-- A file is a journal of one list of payloads at most, and is read gate by gate.
use Rattle.std.proofs.Common.{◌≡◌, ◌≢◌, ℕ, ◌+◌, ◌^◌, ◌<◌, List, [], ◌∷◌, ◌++◌, length, map, Some, None, refl, sym, ap}
use Rattle.std.proofs.Common.{◌∙◌, append_assoc}
use Rattle.std.proofs.lemmas.List.{append-nil, append_cancel_left}
use Rattle.cr_base.specs.declared.row.Row.{Row}
use Rattle.cr_journal.specs.Grammar.{AreSized, IsJournal, IsJournalOf, IsTail, field, frames, front, magic, payload}
use Rattle.cr_journal.specs.Reading.{field_at}
use Rattle.cr_journal.proofs.Groups.{payloads_unique}
use Rattle.cr_journal.proofs.Numbers.{some_is, field_again}

field_unique : (p q x y : List ℕ) → length p < 2 ^ 64 → length q < 2 ^ 64 → field p ++ x ≡ field q ++ y
    → (p ≡ q) × (x ≡ y)
field_unique p q x y one other e =
    let both = some_is (p, x) (q, y) (sym (field_again p x one) ∙ ap field_at e ∙ field_again q y other) in
    (ap (λ (z : List ℕ × List ℕ). z.0) both, ap (λ (z : List ℕ × List ℕ). z.1) both)

pub head_is : (a b : ℕ) (x y : List ℕ) → a ∷ x ≡ b ∷ y → a ≡ b
head_is a b x y e = cc e

pub tail_is : (a b : ℕ) (x y : List ℕ) → a ∷ x ≡ b ∷ y → x ≡ y
tail_is a b x y e = cc e

pub frames-cons : (p : List ℕ) (ps : List (List ℕ)) (rest : List ℕ)
    → frames (p ∷ ps) ++ rest ≡ 1 ∷ (field p ++ (frames ps ++ rest))
frames-cons p ps rest = append_assoc (1 ∷ field p) (frames ps) rest

-- what stands behind the frames of some payloads, in a tail of others
pub record Rest (ps qs : List (List ℕ)) (rest : List ℕ) : Type 0 where
  pub others : List (List ℕ)
  pub tail : IsTail others rest
  pub all_are : qs ≡ ps ++ others

pub strip_frames : (ps qs : List (List ℕ)) (rest : List ℕ) → AreSized ps → IsTail qs (frames ps ++ rest)
    → Rest ps qs rest
strip_frames [] qs rest sized t = record { others = qs; tail = t; all_are = refl }
strip_frames (p ∷ ps) [] rest sized t =
    absurd
    (t.shut (sym (head_is 1 t.gate (field p ++ (frames ps ++ rest)) t.rest (sym (frames-cons p ps rest) ∙ t.is))))
strip_frames (p ∷ ps) (q ∷ qs) rest sized t =
    let behind : List ℕ = frames qs ++ t.gate ∷ t.rest in
    let same : field p ++ (frames ps ++ rest) ≡ field q ++ behind =
    tail_is 1 1 (field p ++ (frames ps ++ rest)) (field q ++ behind)
    (sym (frames-cons p ps rest) ∙ t.is ∙ frames-cons q qs (t.gate ∷ t.rest)) in
    let one = field_unique p q (frames ps ++ rest) behind sized.0 t.sized.0 same in
    let r =
    strip_frames ps qs rest sized.1
    (record { gate = t.gate; rest = t.rest; sized = t.sized.1; shut = t.shut; is = one.1 }) in
    record { others = r.others; tail = r.tail; all_are = (λ i. sym one.0 i ∷ r.all_are i) }

-- behind the front of some payloads
pub strip_front : (ps qs : List (List ℕ)) (file rest : List ℕ) → AreSized ps → file ≡ front ps ++ rest
    → IsJournal qs file → Rest ps qs rest
strip_front ps qs file rest sized is j =
    strip_frames ps qs rest sized (record {
      gate = j.gate;
      rest = j.rest;
      sized = j.sized;
      shut = j.shut;
      is = append_cancel_left magic (frames ps ++ rest) (frames qs ++ j.gate ∷ j.rest)
          (sym (append_assoc magic (frames ps) rest) ∙ sym is ∙ j.is
          ∙ append_assoc magic (frames qs) (j.gate ∷ j.rest));
    })

-- a gate that isn't open is the end
pub ends_here : (qs : List (List ℕ)) (v : ℕ) (rest : List ℕ) → v ≢ 1 → IsTail qs (v ∷ rest) → qs ≡ []
ends_here [] v rest shut t = refl
ends_here (q ∷ qs) v rest shut t =
    absurd
    (shut (head_is v 1 rest (field q ++ (frames qs ++ t.gate ∷ t.rest)) (t.is ∙ frames-cons q qs (t.gate ∷ t.rest))))

pub one_list : (ps qs : List (List ℕ)) (file : List ℕ) → IsJournal ps file → IsJournal qs file → ps ≡ qs
one_list ps qs file one other =
    let r = strip_front ps qs file (one.gate ∷ one.rest) one.sized one.is other in
    let none : r.others ≡ [] = ends_here r.others one.gate one.rest one.shut r.tail in
    sym (r.all_are ∙ ap (λ (l : List (List ℕ)). ps ++ l) none ∙ append-nil ps)

pub one_reading : (gs hs : List (List Row)) (file : List ℕ) → IsJournalOf gs file → IsJournalOf hs file → gs ≡ hs
one_reading gs hs file one other =
    payloads_unique gs hs one.fit other.fit (one_list (map payload gs) (map payload hs) file one.journal other.journal)

-- behind an open gate stands the first payload of each journal that goes on so
pub record First (qs : List (List ℕ)) (p rest : List ℕ) : Type 0 where
  pub others : List (List ℕ)
  pub tail : IsTail others rest
  pub all_are : qs ≡ p ∷ others

pub first_of : (qs : List (List ℕ)) (p rest : List ℕ) → length p < 2 ^ 64 → IsTail qs (1 ∷ (field p ++ rest))
    → First qs p rest
first_of [] p rest lt t = absurd (t.shut (sym (head_is 1 t.gate (field p ++ rest) t.rest t.is)))
first_of (q ∷ qs) p rest lt t =
    let behind : List ℕ = frames qs ++ t.gate ∷ t.rest in
    let same : field p ++ rest ≡ field q ++ behind =
    tail_is 1 1 (field p ++ rest) (field q ++ behind) (t.is ∙ frames-cons q qs (t.gate ∷ t.rest)) in
    let one = field_unique p q rest behind lt t.sized.0 same in
    record {
      others = qs;
      tail = record { gate = t.gate; rest = t.rest; sized = t.sized.1; shut = t.shut; is = one.1 };
      all_are = (λ i. sym one.0 i ∷ qs);
    }

-- no tail where behind an open gate there is no payload
pub no_field : {T : Type 0} (qs : List (List ℕ)) (rest : List ℕ) → field_at rest ≡ None → IsTail qs (1 ∷ rest) → T
no_field [] rest none t = absurd (t.shut (sym (head_is 1 t.gate rest t.rest t.is)))
no_field (q ∷ qs) rest none t =
    let behind : List ℕ = frames qs ++ t.gate ∷ t.rest in
    let same : rest ≡ field q ++ behind =
    tail_is 1 1 rest (field q ++ behind) (t.is ∙ frames-cons q qs (t.gate ∷ t.rest)) in
    let some : field_at rest ≡ Some (q, behind) = ap field_at same ∙ field_again q behind t.sized.0 in
    absurd (cc (none, some))

-- and none where there is no gate
pub no_gate : {T : Type 0} (qs : List (List ℕ)) → IsTail qs [] → T
no_gate [] t = absurd (cc t.is)
no_gate (q ∷ qs) t = absurd (cc (t.is ∙ frames-cons q qs (t.gate ∷ t.rest)))
