-- SPDX-License-Identifier: Apache-2.0 OR MIT
-- Moments that a clock gives one after another, and answers that are given with them.
use Rattle.std.proofs.Common.{◌≡◌, ◌∙◌, ◌≤◌, ℕ, List, [], ◌∷◌, ◌++◌, refl, sym, ap, subst, append_assoc}
use Rattle.std.proofs.lemmas.List.{map-append}
use Rattle.cr_ports.specs.Count.{Rises}
use Rattle.cr_ports.specs.Stream.{and_left}
use Rattle.cr_ports.specs.Writing.{Outlet, WritesAnswers, AnswerBreaksOff}
use Rattle.cr_ports.proofs.WritingLaws as written
use Rattle.cr_http.proofs.Moving.{and_left-nil, and_left-append}
use Rattle.cr_session.specs.Answering.{ClockState, GivesMoments, FailsBehind, Answer, Desk, texts_of, times_of}
use Rattle.cr_session.specs.Answering.{GivesAnswers, AnswerFails, ClockFails}

-- ---- a clock

pub moments-nil : (c : ClockState) → GivesMoments [] c c
moments-nil c = record { gave = sym (and_left-nil c.coming); steady = refl }

pub moments-append : (ms ns : List ℕ) (a b c : ClockState) → GivesMoments ms a b → GivesMoments ns b c
    → GivesMoments (ms ++ ns) a c
moments-append ms ns a b c x y = record {
  gave = x.gave ∙ ap (and_left ms) y.gave ∙ and_left-append ms ns c.coming;
  steady = y.steady ∙ x.steady;
}

pub fails_later : (ms ns : List ℕ) (a b c : ClockState) → GivesMoments ms a b → FailsBehind ns b c
    → FailsBehind (ms ++ ns) a c
fails_later ms ns a b c x y = record {
  gave = x.gave ∙ ap (and_left ms) y.gave ∙ and_left-append ms ns c.coming;
  later = subst (λ (n : ℕ). n ≤ c.faults) x.steady y.later;
  rises = subst (λ (n : ℕ). Rises n c.faults) x.steady y.rises;
}

-- ---- answers

texts-append : (xs ys : List Answer) → texts_of xs ++ texts_of ys ≡ texts_of (xs ++ ys)
texts-append xs ys = sym (map-append (λ (a : Answer). a.text) xs ys)

times-append : (xs ys : List Answer) → times_of xs ++ times_of ys ≡ times_of (xs ++ ys)
times-append xs ys = sym (map-append (λ (a : Answer). a.at) xs ys)

-- none was given
pub gives-none : (d d' : Desk) → d'.sink ≡ d.sink → GivesMoments [] d.clock d'.clock → GivesAnswers [] d d'
gives-none d d' same timed = record {
  timed = timed;
  written = subst (λ (s : Outlet). WritesAnswers [] d.sink s) (sym same) (written.answers-nil d.sink);
}

pub gives-append : (xs ys : List Answer) (d e f : Desk) → GivesAnswers xs d e → GivesAnswers ys e f
    → GivesAnswers (xs ++ ys) d f
gives-append xs ys d e f x y = record {
  timed = subst (λ (ms : List ℕ). GivesMoments ms d.clock f.clock) (times-append xs ys)
      (moments-append (times_of xs) (times_of ys) d.clock e.clock f.clock x.timed y.timed);
  written = subst (λ (ts : List (List ℕ)). WritesAnswers ts d.sink f.sink) (texts-append xs ys)
      (written.answers-append (texts_of xs) (texts_of ys) d.sink e.sink f.sink x.written y.written);
}

pub fails_behind : (xs ys : List Answer) (a : Answer) (d e f : Desk) → GivesAnswers xs d e → AnswerFails ys a e f
    → AnswerFails (xs ++ ys) a d f
fails_behind xs ys a d e f x y = record {
  timed = subst (λ (ms : List ℕ). GivesMoments ms d.clock f.clock)
      (times-append xs (ys ++ a ∷ []) ∙ ap times_of (sym (append_assoc xs ys (a ∷ []))))
      (moments-append (times_of xs) (times_of (ys ++ a ∷ [])) d.clock e.clock f.clock x.timed y.timed);
  broken = subst (λ (ts : List (List ℕ)). AnswerBreaksOff ts a.text d.sink f.sink) (texts-append xs ys)
      (written.answer_breaks_behind (texts_of xs) (texts_of ys) a.text d.sink e.sink f.sink x.written y.broken);
}

pub clock_fails_behind : (xs ys : List Answer) (d e f : Desk) → GivesAnswers xs d e → ClockFails ys e f
    → ClockFails (xs ++ ys) d f
clock_fails_behind xs ys d e f x y = record {
  failed = subst (λ (ms : List ℕ). FailsBehind ms d.clock f.clock) (times-append xs ys)
      (fails_later (times_of xs) (times_of ys) d.clock e.clock f.clock x.timed y.failed);
  written = subst (λ (ts : List (List ℕ)). WritesAnswers ts d.sink f.sink) (texts-append xs ys)
      (written.answers-append (texts_of xs) (texts_of ys) d.sink e.sink f.sink x.written y.written);
}
