-- SPDX-License-Identifier: Apache-2.0 OR MIT
-- What a sink took, piece by piece.
use Rattle.std.proofs.Common.{◌≡◌, ◌≢◌, ◌∙◌, ℕ, ◌+◌, ◌<◌, ◌≤◌, ◌-◌, List, [], ◌∷◌, ◌++◌, length, take, drop, Option}
use Rattle.std.proofs.Common.{Some, None, refl, sym, ap, subst, append_assoc, append-nil, arith, length-drop}
use Rattle.std.proofs.lemmas.List.{take-append-drop, take_all}
use Rattle.std.proofs.Math.Seq.{take-add}
use Rattle.cr_ports.specs.Count.{Rises}
use Rattle.cr_ports.specs.Stream.{Taken, taken_and, and_begun}
use Rattle.cr_ports.specs.Writing.{Outlet, Writes, BreaksOff, WritesAnswers, AnswerBreaksOff, and_answers}

-- the same with these bytes
abbrev with_bytes : Taken → List ℕ → Option Taken
with_bytes t bytes = Some (record { bytes = bytes; begun = t.begun; begun_at = t.begun_at })

pub taken_and-append : (t : Option Taken) (a b : List ℕ) → taken_and (taken_and t a) b ≡ taken_and t (a ++ b)
taken_and-append None a b = refl
taken_and-append (Some t) a b = ap (with_bytes t) (append_assoc t.bytes a b)

pub taken_and-nil : (t : Option Taken) → taken_and t [] ≡ t
taken_and-nil None = refl
taken_and-nil (Some t) = ap (with_bytes t) (append-nil t.bytes)

-- ---- one write of many

-- one more piece of the bytes was taken
pub wrote_on : (t t' t'' : Option Taken) (bytes piece : List ℕ) (at n : ℕ) → t' ≡ taken_and t (take at bytes)
    → piece ≡ drop at bytes
    → t'' ≡ taken_and t' (take n piece) → t'' ≡ taken_and t (take (at + n) bytes)
wrote_on t t' t'' bytes piece at n before is now =
    now ∙ ap (λ p. taken_and t' (take n p)) is ∙ ap (λ o. taken_and o (take n (drop at bytes))) before
    ∙ taken_and-append t (take at bytes) (take n (drop at bytes)) ∙ ap (taken_and t) (sym (take-add at n bytes))

some_left : (at : ℕ) (bytes : List ℕ) → at < length bytes → drop at bytes ≢ []
some_left at bytes less none =
    let left : length bytes - at ≡ 0 = sym (length-drop at bytes) ∙ ap length none in
    omega (arith, less, left)

-- the next write failed
pub wrote_part : (s s' s'' : Outlet) (bytes : List ℕ) (at : ℕ) → at < length bytes
    → s'.taken ≡ taken_and s.taken (take at bytes) → s'.faults ≡ s.faults
    → s''.taken ≡ taken_and s'.taken [] → s'.faults ≤ s''.faults → Rises s'.faults s''.faults → BreaksOff bytes s s''
wrote_part s s' s'' bytes at less before steady now later rises = record {
  part = take at bytes;
  missing = drop at bytes;
  parts = sym (take-append-drop at bytes);
  short = some_left at bytes less;
  took = now ∙ taken_and-nil s'.taken ∙ before;
  later = omega (arith, steady, later);
  rises = subst (λ (f : ℕ). Rises f s''.faults) steady rises;
}

-- all of them were taken
pub wrote_whole : (s s' : Outlet) (bytes : List ℕ) (at : ℕ) → length bytes ≤ at
    → s'.taken ≡ taken_and s.taken (take at bytes) → s'.faults ≡ s.faults
    → Writes bytes s s'
wrote_whole s s' bytes at all took steady = record {
  took = took ∙ ap (λ (b : List ℕ). taken_and s.taken b) (take_all at bytes all);
  steady = steady;
}

-- ---- one text behind another

pub writes-nil : (s : Outlet) → Writes [] s s
writes-nil s = record { took = sym (taken_and-nil s.taken); steady = refl }

pub writes-append : (a b : List ℕ) (s t u : Outlet) → Writes a s t → Writes b t u → Writes (a ++ b) s u
writes-append a b s t u x y = record {
  took = y.took ∙ ap (λ (o : Option Taken). taken_and o b) x.took ∙ taken_and-append s.taken a b;
  steady = y.steady ∙ x.steady;
}

-- ---- a text of two pieces

-- the second broke off
pub breaks_later : (a b : List ℕ) (s t u : Outlet) → Writes a s t → BreaksOff b t u → BreaksOff (a ++ b) s u
breaks_later a b s t u x y = record {
  part = a ++ y.part;
  missing = y.missing;
  parts = ap (λ (r : List ℕ). a ++ r) y.parts ∙ sym (append_assoc a y.part y.missing);
  short = y.short;
  took = y.took ∙ ap (λ (o : Option Taken). taken_and o y.part) x.took ∙ taken_and-append s.taken a y.part;
  later = let e = x.steady in let l = y.later in omega (arith, e, l);
  rises = subst (λ (f : ℕ). Rises f u.faults) x.steady y.rises;
}

first-nil : (a b : List ℕ) → a ++ b ≡ [] → a ≡ []
first-nil [] b none = refl
first-nil (x ∷ a) b none = cc

-- the first did
pub breaks_sooner : (a b : List ℕ) (s t : Outlet) → BreaksOff a s t → BreaksOff (a ++ b) s t
breaks_sooner a b s t y = record {
  part = y.part;
  missing = y.missing ++ b;
  parts = ap (λ (r : List ℕ). r ++ b) y.parts ∙ append_assoc y.part y.missing b;
  short = λ none. y.short (first-nil y.missing b none);
  took = y.took;
  later = y.later;
  rises = y.rises;
}

-- ---- answers

pub and_answers-append : (t : Option Taken) (a b : List (List ℕ))
    → and_answers (and_answers t a) b ≡ and_answers t (a ++ b)
and_answers-append t [] b = refl
and_answers-append t (text ∷ a) b = and_answers-append (taken_and (and_begun t) text) a b

pub answers-nil : (s : Outlet) → WritesAnswers [] s s
answers-nil s = record { took = refl; steady = refl }

-- further answers behind these
pub answers-append : (a b : List (List ℕ)) (s t u : Outlet) → WritesAnswers a s t → WritesAnswers b t u
    → WritesAnswers (a ++ b) s u
answers-append a b s t u x y = record {
  took = y.took ∙ ap (λ (o : Option Taken). and_answers o b) x.took ∙ and_answers-append s.taken a b;
  steady = y.steady ∙ x.steady;
}

-- a further one that breaks off
pub answer_breaks_behind : (a b : List (List ℕ)) (text : List ℕ) (s t u : Outlet) → WritesAnswers a s t
    → AnswerBreaksOff b text t u
    → AnswerBreaksOff (a ++ b) text s u
answer_breaks_behind a b text s t u x y = record {
  part = y.part;
  missing = y.missing;
  parts = y.parts;
  short = y.short;
  took = y.took ∙ ap (λ (o : Option Taken). and_answers o (b ++ y.part ∷ [])) x.took
      ∙ and_answers-append s.taken a (b ++ y.part ∷ [])
      ∙ ap (and_answers s.taken) (sym (append_assoc a b (y.part ∷ [])));
  later = let e = x.steady in let l = y.later in omega (arith, e, l);
  rises = subst (λ (f : ℕ). Rises f u.faults) x.steady y.rises;
}

-- ---- an answer of two pieces

-- the second was written behind the first
pub answer-append : (front block : List ℕ) (s t u : Outlet) → WritesAnswers (front ∷ []) s t → Writes block t u
    → WritesAnswers ((front ++ block) ∷ []) s u
answer-append front block s t u x y = record {
  took =
      y.took ∙ ap (λ (o : Option Taken). taken_and o block) x.took ∙ taken_and-append (and_begun s.taken) front block;
  steady = y.steady ∙ x.steady;
}

-- the second broke off
pub answer_breaks_later : (front block : List ℕ) (s t u : Outlet) → WritesAnswers (front ∷ []) s t → BreaksOff block t u
    → AnswerBreaksOff [] (front ++ block) s u
answer_breaks_later front block s t u x y = record {
  part = front ++ y.part;
  missing = y.missing;
  parts = ap (λ (r : List ℕ). front ++ r) y.parts ∙ sym (append_assoc front y.part y.missing);
  short = y.short;
  took =
      y.took ∙ ap (λ (o : Option Taken). taken_and o y.part) x.took ∙ taken_and-append (and_begun s.taken) front y.part;
  later = let e = x.steady in let l = y.later in omega (arith, e, l);
  rises = subst (λ (f : ℕ). Rises f u.faults) x.steady y.rises;
}

-- the first did
pub answer_breaks_sooner : (front block : List ℕ) (s t : Outlet) → AnswerBreaksOff [] front s t
    → AnswerBreaksOff [] (front ++ block) s t
answer_breaks_sooner front block s t x = record {
  part = x.part;
  missing = x.missing ++ block;
  parts = ap (λ (r : List ℕ). r ++ block) x.parts ∙ append_assoc x.part x.missing block;
  short = λ none. x.short (first-nil x.missing block none);
  took = x.took;
  later = x.later;
  rises = x.rises;
}
