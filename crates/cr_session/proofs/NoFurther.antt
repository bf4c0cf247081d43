-- SPDX-License-Identifier: Apache-2.0 OR MIT
-- Reads that are made only where more is wanted, by the wishes before.
use Rattle.std.proofs.Common.{◌≡◌, ◌∙◌, ℕ, ◌+◌, List, [], ◌++◌, length, Option, refl, sym, ap, subst, append_assoc}
use Rattle.std.proofs.Common.{append-nil, inl, inr}
use Rattle.std.proofs.lemmas.List.{append_cancel_left}
use Rattle.cr_ports.specs.Stream.{and_left}
use Rattle.cr_http.specs.Filling.{ReadsWhile}
use Rattle.cr_http.specs.Reading.{IsUnsettled}
use Rattle.cr_http.proofs.Moving.{reads_on, reads_for}
use Rattle.cr_wire.specs.declared.what.Wish.{Wish}
use Rattle.cr_session.specs.Replay.{JudgedWish, wishes_of}
use Rattle.cr_session.specs.Serving.{WantsBehind, ReadsNoFurther}
use Rattle.cr_session.specs.Wishes.{Reaches}
use Rattle.cr_session.proofs.WishRuns.{Reaches-more, reaches_wishes, wishes_of-append, counted_wishes}

-- what is wanted behind no wish
wants-first : (n : ℕ) (ws : List Wish) (text : List ℕ) → IsUnsettled text → WantsBehind n ws text
wants-first n ws text unsettled = record {
  first = [];
  others = ws;
  parts = refl;
  rest = text;
  reaches = record { requests = []; wish = tt; reaches = refl };
  unsettled = unsettled;
}

-- what is wanted behind some of fewer wishes
wants-wider : (n : ℕ) (js ks : List JudgedWish) (text : List ℕ) → WantsBehind n (wishes_of js) text
    → WantsBehind n (wishes_of (js ++ ks)) text
wants-wider n js ks text w = record {
  first = w.first;
  others = w.others ++ wishes_of ks;
  parts = sym (wishes_of-append js ks) ∙ ap (λ (ws : List Wish). ws ++ wishes_of ks) w.parts
      ∙ append_assoc w.first w.others (wishes_of ks);
  rest = w.rest;
  reaches = w.reaches;
  unsettled = w.unsettled;
}

-- what is wanted behind wishes that come behind others
wants-later : (n : ℕ) (js ks : List JudgedWish) (text rest : List ℕ) → Reaches n text (wishes_of js) rest
    → WantsBehind (n + length js) (wishes_of ks) rest
    → WantsBehind n (wishes_of (js ++ ks)) text
wants-later n js ks text rest reach w = record {
  first = wishes_of js ++ w.first;
  others = w.others;
  parts = sym (wishes_of-append js ks) ∙ ap (λ (ws : List Wish). wishes_of js ++ ws) w.parts
      ∙ sym (append_assoc (wishes_of js) w.first w.others);
  rest = w.rest;
  reaches = reaches_wishes n text (wishes_of js) rest w.first w.rest reach
      (subst (λ (k : ℕ). Reaches k rest w.first w.rest) (counted_wishes n js) w.reaches);
  unsettled = w.unsettled;
}

module _ {S : Type 0} (left : S → Option (List ℕ)) (gives : S → S → List ℕ → Type 0) where
  -- the same reads behind another text
  reads_behind : (V W : List ℕ → Type 0) (p q : S) (t u got : List ℕ)
      → ((more : List ℕ) → V (t ++ more) → W (u ++ more))
      → ReadsWhile left gives V p q t (t ++ got) → ReadsWhile left gives W p q u (u ++ got)
  reads_behind V W p q t u got f (inl still) =
      let none : got ≡ [] = append_cancel_left t got [] (still.1 ∙ sym (append-nil t)) in
      inl (still.0, ap (λ (g : List ℕ). u ++ g) none ∙ append-nil u)
  reads_behind V W p q t u got f (inr last) =
      let parts : got ≡ last.before.got ++ last.piece =
      append_cancel_left t got (last.before.got ++ last.piece)
      (last.kept ∙ ap (λ (x : List ℕ). x ++ last.piece) last.before.kept ∙ append_assoc t last.before.got last.piece) in
      inr (record {
        at = last.at;
        text = u ++ last.before.got;
        before = record { got = last.before.got; given = last.before.given; kept = refl };
        wants = f last.before.got (subst V last.before.kept last.wants);
        piece = last.piece;
        given = last.given;
        kept = ap (λ (g : List ℕ). u ++ g) parts ∙ sym (append_assoc u last.before.got last.piece);
      })

  -- of one reading
  pub no_further-one : (n : ℕ) (answered : List JudgedWish) (p q : S) (old new : List ℕ)
      → ReadsWhile left gives IsUnsettled p q old new
      → ReadsNoFurther left gives n answered p q old new
  no_further-one n answered p q old new x =
      reads_for left gives IsUnsettled (WantsBehind n (wishes_of answered)) p q old new
      (λ text left' moves. wants-first n (wishes_of answered) text) x

  -- nothing was read
  pub no_further-still : (n : ℕ) (answered : List JudgedWish) (p : S) (old : List ℕ)
      → ReadsNoFurther left gives n answered p p old old
  no_further-still n answered p old = inl (refl, refl)

  -- of what came before, and of what came then
  pub no_further-append : (n : ℕ) (js ks : List JudgedWish) (p q r : S) (a b got more : List ℕ)
      → left p ≡ and_left got (left q)
      → Reaches n (a ++ got) (wishes_of js) b
      → ReadsNoFurther left gives n js p q a (a ++ got) → ReadsNoFurther left gives (n + length js) ks q r b (b ++ more)
      → ReadsNoFurther left gives n (js ++ ks) p r a (a ++ (got ++ more))
  no_further-append n js ks p q r a b got more given reach x y =
      subst (λ (t : List ℕ). ReadsNoFurther left gives n (js ++ ks) p r a t) (append_assoc a got more)
      (
      reads_on left gives (WantsBehind n (wishes_of (js ++ ks))) p q r a (a ++ got) ((a ++ got) ++ more)
      (record { got = got; given = given; kept = refl })
      (reads_for left gives (WantsBehind n (wishes_of js)) (WantsBehind n (wishes_of (js ++ ks))) p q a (a ++ got)
      (λ text left' moves. wants-wider n js ks text) x)
      (reads_behind (WantsBehind (n + length js) (wishes_of ks)) (WantsBehind n (wishes_of (js ++ ks))) q r b (a ++ got)
      more
      (λ m wants. wants-later n js ks ((a ++ got) ++ m) (b ++ m) (Reaches-more n (a ++ got) m (wishes_of js) b reach)
      wants) y)
      )
