-- SPDX-License-Identifier: Apache-2.0 OR MIT
use Rattle.std.proofs.Common.{◌≡◌, ◌∙◌, ℕ, List, [], ◌++◌, ◌<◌, length, Option, Some, None, refl, sym, ap, subst, inl}
use Rattle.std.proofs.Common.{inr, append_assoc, append-nil}
use Rattle.cr_ports.specs.Stream.{and_left}
use Rattle.cr_http.specs.Filling.{Moves, ReadsWhile}

pub and_left-nil : (left : Option (List ℕ)) → and_left [] left ≡ left
and_left-nil None = refl
and_left-nil (Some bytes) = refl

pub and_left-append : (a b : List ℕ) (left : Option (List ℕ)) → and_left a (and_left b left) ≡ and_left (a ++ b) left
and_left-append a b None = refl
and_left-append a b (Some bytes) = ap Some (sym (append_assoc a b bytes))

-- nothing moves
pub stays : (left : Option (List ℕ)) (inbox : List ℕ) → Moves left left inbox inbox
stays left inbox = record { got = []; given = sym (and_left-nil left); kept = sym (append-nil inbox) }

pub moves_on : (l m n : Option (List ℕ)) (a b c : List ℕ) → Moves l m a b → Moves m n b c → Moves l n a c
moves_on l m n a b c x y = record {
  got = x.got ++ y.got;
  given = x.given ∙ ap (and_left x.got) y.given ∙ and_left-append x.got y.got n;
  kept = y.kept ∙ ap (λ v. v ++ y.got) x.kept ∙ append_assoc a x.got y.got;
}

pub ruleset moving = (stays, moves_on)

module _ {S : Type 0} (left : S → Option (List ℕ)) (gives : S → S → List ℕ → Type 0) where
  -- reads that are made only while a text wants more, and then more of them
  pub reads_on : (W : List ℕ → Type 0) (a b c : S) (t u v : List ℕ) → Moves (left a) (left b) t u
      → ReadsWhile left gives W a b t u → ReadsWhile left gives W b c u v → ReadsWhile left gives W a c t v
  reads_on W a b c t u v m first (inl still) =
      subst (λ (s : S). ReadsWhile left gives W a s t v) (sym still.0)
      (subst (ReadsWhile left gives W a b t) (sym still.1) first)
  reads_on W a b c t u v m first (inr last) = inr (record {
    at = last.at;
    text = last.text;
    before = moves_on (left a) (left b) (left last.at) t u last.text m last.before;
    wants = last.wants;
    piece = last.piece;
    given = last.given;
    kept = last.kept;
  })

  -- one read
  pub one_read : (a b : S) (t u piece : List ℕ) → gives a b piece → u ≡ t ++ piece
      → ReadsWhile left gives (λ text. text ≡ t) a b t u
  one_read a b t u piece given kept =
      inr (record {
        at = a;
        text = t;
        before = stays (left a) t;
        wants = refl;
        piece = piece;
        given = given;
        kept = kept;
      })

  -- a text that wants more for the one reason does so for the other
  pub reads_for : (V W : List ℕ → Type 0) (a b : S) (t u : List ℕ)
      → ((text : List ℕ) (left' : Option (List ℕ)) → Moves (left a) left' t text → V text → W text)
      → ReadsWhile left gives V a b t u → ReadsWhile left gives W a b t u
  reads_for V W a b t u f (inl still) = inl still
  reads_for V W a b t u f (inr last) = inr (record {
    at = last.at;
    text = last.text;
    before = last.before;
    wants = f last.text (left last.at) last.before last.wants;
    piece = last.piece;
    given = last.given;
    kept = last.kept;
  })

  -- and then one read more, at a text that wants it
  pub reads_once : (W : List ℕ → Type 0) (a b c : S) (t u v : List ℕ) → Moves (left a) (left b) t u → W u
      → ReadsWhile left gives W a b t u → ReadsWhile left gives (λ text. text ≡ u) b c u v
      → ReadsWhile left gives W a c t v
  reads_once W a b c t u v m wants first once =
      reads_on W a b c t u v m first (reads_for (λ text. text ≡ u) W b c u v
      (λ text left' moves is. subst W (sym is) wants) once)

  -- the same of a text that is shorter than wanted
  pub reads_below : (len : ℕ) (a b c : S) (t u v : List ℕ) → Moves (left a) (left b) t u
      → ReadsWhile left gives (λ text. length text < len) a b t u
      → length u < len → ReadsWhile left gives (λ text. text ≡ u) b c u v
      → ReadsWhile left gives (λ text. length text < len) a c t v
  reads_below len a b c t u v m first short once = reads_once (λ text. length text < len) a b c t u v m short first once
